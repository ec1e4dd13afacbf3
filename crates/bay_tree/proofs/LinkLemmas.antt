-- Links that are made from the last row to the first.
use Rattle.std.proofs.Common.{◌≡◌, ◌≢◌, ℕ, ◌+◌, ◌<◌, ◌≤◌, ◌==◌, true, false, cond, Option, Some, None, option_and_then, IfSome, List, [], length, drop, refl, ap, sym, subst, ◌∙◌, ⊎_elim, arith}
use Rattle.std.proofs.Math.ListN.{replicate, set}
use Rattle.std.proofs.lemmas.List.{drop_all, get_or-replicate, get_or-set_other, get_or-set_same, length-replicate, length-set}
use Rattle.std.proofs.lemmas.Bool.{cases_eq, cases_lt}
use Rattle.std.proofs.lemmas.Bool.Decides.{Decides-eqb, eqb_tells}
use Rattle.std.specs.Str.{bytes_eq}
use Rattle.bay_tree.specs.declared.row.Row.{Row}
use Rattle.bay_tree.specs.declared.link.RowLink.{RowLink}
use Rattle.bay_tree.specs.Arena.{IsLinked, link_at}
use Rattle.bay_tree.specs.Names.{IsWordAt, parent_of, is_parent, is_below}
use Rattle.bay_tree.specs.Rows.{IsTree, IsStructureNamed, row_at, name_at, row_index, first_below_from, next_below, next_beside}
use Rattle.bay_tree.proofs.IndexLemmas.{search-here}
use Rattle.bay_tree.proofs.NamedLemmas.{same-text, other-text}
use Rattle.bay_tree.proofs.SearchLemmas.{place_of-found, place_of-none}

-- the links, as far as the rows from a place on tell
pub record IsLinkedFrom (start : ℕ) (rows : List Row) (links : List RowLink) : Type 0 where
  pub long : length links ≡ length rows
  pub word : (k : ℕ) → start ≤ k → k < length rows
      → IsWordAt (name_at rows k) (link_at links k).word
  pub below : (k : ℕ) → k < length rows
      → (link_at links k).below ≡ first_below_from start (drop start rows) (name_at rows k)
  pub beside : (k : ℕ) → start ≤ k → k < length rows
      → (link_at links k).beside ≡ next_beside rows k
  pub bare : (k : ℕ) → k < start → k < length rows → (link_at links k).beside ≡ None

-- where nothing is linked yet
abbrev pub unlinked : RowLink
unlinked = record { word = 0; below = None; beside = None }

-- behind the last row nothing is below anything
pub linked-none : (rows : List Row)
    → IsLinkedFrom (length rows) rows (replicate (length rows) unlinked)
linked-none rows =
    let own : (k : ℕ) → k < length rows → link_at (replicate (length rows) unlinked) k ≡ unlinked =
    λ k lt. get_or-replicate (length rows) k unlinked unlinked lt in
    record {
      long = length-replicate (length rows) unlinked;
      word = λ k le lt. absurd (omega arith);
      below = λ k lt. ap (λ (l : RowLink). l.below) (own k lt)
          ∙ sym (ap (λ rest. first_below_from (length rows) rest (name_at rows k))
          (drop_all (length rows) rows (omega arith)));
      beside = λ k le lt. absurd (omega arith);
      bare = λ k before lt. ap (λ (l : RowLink). l.beside) (own k lt);
    }

-- the links as far as all rows tell
pub linked-all : (rows : List Row) (links : List RowLink) → IsLinkedFrom 0 rows links
    → IsLinked rows links
linked-all rows links linked = record {
  long = linked.long;
  word = λ k lt. linked.word k (omega arith) lt;
  below = linked.below;
  beside = λ k lt. linked.beside k (omega arith) lt;
}

first-here : (rows : List Row) (i : ℕ) (parent : List ℕ) → i < length rows
    → first_below_from i (drop i rows) parent
    ≡ cond (is_below parent (name_at rows i)) (Some i)
    (first_below_from (i + 1) (drop (i + 1) rows) parent)
first-here rows i parent lt = search-here (λ (row : Row). is_below parent row.name) rows i lt

apart : (rows : List Row) (a k : ℕ) → IsTree rows → a < length rows → k < length rows → a ≢ k
    → name_at rows a ≢ name_at rows k
apart rows a k tree in_a in_k other =
    ⊎_elim (λ (lt : a < k). tree.distinct a k lt in_k)
    (λ (le : k ≤ a). λ same. tree.distinct k a (omega (arith, other)) in_a (sym same))
    (cases_lt a k)

-- two places are one where their names are
same-place : (rows : List Row) (a k : ℕ) → IsTree rows → a < length rows → k < length rows
    → (a == k) ≡ bytes_eq (name_at rows a) (name_at rows k)
same-place rows a k tree in_a in_k =
    ⊎_elim (λ (is : (a == k ≡ true) × (a ≡ k)). is.0
    ∙ sym (ap (λ n. bytes_eq (name_at rows a) (name_at rows n)) (sym is.1)
    ∙ same-text (name_at rows a)))
    (λ (is : (a == k ≡ false) × (a ≢ k)). is.0
    ∙ sym (other-text (name_at rows a) (name_at rows k) (apart rows a k tree in_a in_k is.1)))
    (eqb_tells a k)

-- a row of one word is below none
below-none : (rows : List Row) (i : ℕ) (name : List ℕ) → i < length rows
    → parent_of (name_at rows i) ≡ None
    → first_below_from i (drop i rows) name ≡ first_below_from (i + 1) (drop (i + 1) rows) name
below-none rows i name lt none =
    first-here rows i name lt
    ∙ ap (λ own. cond (is_parent name own) (Some i)
    (first_below_from (i + 1) (drop (i + 1) rows) name)) none

below-some : (rows : List Row) (i : ℕ) (name parent : List ℕ) → i < length rows
    → parent_of (name_at rows i) ≡ Some parent
    → first_below_from i (drop i rows) name
    ≡ cond (bytes_eq parent name) (Some i) (first_below_from (i + 1) (drop (i + 1) rows) name)
below-some rows i name parent lt some =
    first-here rows i name lt
    ∙ ap (λ own. cond (is_parent name own) (Some i)
    (first_below_from (i + 1) (drop (i + 1) rows) name)) some

beside-here : (rows : List Row) (i : ℕ) (links : List RowLink) (k : ℕ) → i ≤ k → k < length rows
    → (i < length rows → (link_at links i).beside ≡ next_beside rows i)
    → ((j : ℕ) → i + 1 ≤ j → j < length rows → (link_at links j).beside ≡ next_beside rows j)
    → (link_at links k).beside ≡ next_beside rows k
beside-here rows i links k le lt here later =
    ⊎_elim (λ (is : (i == k ≡ true) × (i ≡ k)). subst
    (λ n. (link_at links n).beside ≡ next_beside rows n) is.1 (here (omega arith)))
    (λ (is : (i == k ≡ false) × (i ≢ k)). later k (omega (arith, is.1)) lt) (eqb_tells i k)

-- the row that a row stands below is there
above-of : (rows : List Row) (o : Option (List ℕ)) (a : ℕ)
    → option_and_then (row_index rows) o ≡ Some a
    → (parent : List ℕ) × (o ≡ Some parent) × (row_index rows parent ≡ Some a)
above-of rows None a h = absurd cc
above-of rows (Some parent) a h = (parent, refl, h)

pub above-within : (rows : List Row) (o : Option (List ℕ)) (a : ℕ)
    → option_and_then (row_index rows) o ≡ Some a → a < length rows
above-within rows o a h =
    let above = above-of rows o a h in
    (place_of-found rows above.0 a above.2).0

no-above : (rows : List Row) (k : ℕ) (o : Option (List ℕ)) → k < length rows
    → IfSome o (λ parent. (j : ℕ) × (j < k) × IsStructureNamed parent (row_at rows j))
    → option_and_then (row_index rows) o ≡ None → o ≡ None
no-above rows k None lt above h = refl
no-above rows k (Some parent) lt above h =
    absurd (place_of-none rows parent h above.0 (record { name = []; leaf = None })
    (omega (arith, above.1)) above.2.named)

not-later : (i k : ℕ) → i + 1 ≤ k → (i == k) ≡ false
not-later i k lt =
    ⊎_elim (λ (is : (i == k ≡ true) × (i ≡ k)). absurd (omega (arith, is.1)))
    (λ (is : (i == k ≡ false) × (i ≢ k)). is.0) (eqb_tells i k)

not-earlier : (i k : ℕ) → k < i → (i == k) ≡ false
not-earlier i k lt =
    ⊎_elim (λ (is : (i == k ≡ true) × (i ≡ k)). absurd (omega (arith, is.1)))
    (λ (is : (i == k ≡ false) × (i ≢ k)). is.0) (eqb_tells i k)

-- the links before the one at a place is written, whose word alone is known
pub record IsWorded (i : ℕ) (rows : List Row) (links : List RowLink) : Type 0 where
  pub word : IsWordAt (name_at rows i) (link_at links i).word
  pub linked : IsLinkedFrom (i + 1) rows links

either-word : (i : ℕ) (rows : List Row) (links : List RowLink) → IsWorded i rows links → (k : ℕ)
    → i ≤ k → k < length rows → IsWordAt (name_at rows k) (link_at links k).word
either-word i rows links worded k le lt =
    ⊎_elim (λ (is : (i == k ≡ true) × (i ≡ k)). subst
    (λ n. IsWordAt (name_at rows n) (link_at links n).word) is.1 worded.word)
    (λ (is : (i == k ≡ false) × (i ≢ k)). worded.linked.word k (omega (arith, is.1)) lt)
    (eqb_tells i k)

-- a word is written where a row stands
pub linked-word : (rows : List Row) (links : List RowLink) (i : ℕ) (link : RowLink)
    → i < length rows
    → link.below ≡ (link_at links i).below → link.beside ≡ (link_at links i).beside
    → IsWordAt (name_at rows i) link.word → IsLinkedFrom (i + 1) rows links
    → IsWorded i rows (set links i link)
linked-word rows links i link lt below beside word linked =
    let in_links : i < length links = omega (arith, linked.long) in
    let own : link_at (set links i link) i ≡ link = get_or-set_same links i link unlinked in_links
    in
    let other : (k : ℕ) → k ≢ i → link_at (set links i link) k ≡ link_at links k =
    λ k apart. get_or-set_other links i k link unlinked apart in
    let below_same : (k : ℕ) → (link_at (set links i link) k).below ≡ (link_at links k).below =
    λ k. ⊎_elim (λ (here : k ≡ i). rw here (ap (λ (l : RowLink). l.below) own ∙ below))
    (λ (apart : k ≢ i). ap (λ (l : RowLink). l.below) (other k apart)) (cases_eq k i) in
    let beside_same : (k : ℕ) → (link_at (set links i link) k).beside ≡ (link_at links k).beside =
    λ k. ⊎_elim (λ (here : k ≡ i). rw here (ap (λ (l : RowLink). l.beside) own ∙ beside))
    (λ (apart : k ≢ i). ap (λ (l : RowLink). l.beside) (other k apart)) (cases_eq k i) in
    record {
      word = subst (λ (l : RowLink). IsWordAt (name_at rows i) l.word) (sym own) word;
      linked = record {
        long = length-set links i link ∙ linked.long;
        word = λ k le in_k. subst (λ (l : RowLink). IsWordAt (name_at rows k) l.word)
            (sym (other k (λ here. absurd (omega (arith, here))))) (linked.word k le in_k);
        below = λ k in_k. below_same k ∙ linked.below k in_k;
        beside = λ k le in_k. beside_same k ∙ linked.beside k le in_k;
        bare = λ k before in_k. beside_same k ∙ linked.bare k before in_k;
      };
    }

-- a row of one word leaves the links as they are
pub linked-skip : (rows : List Row) (links : List RowLink) (i : ℕ) → IsTree rows → i < length rows
    → option_and_then (row_index rows) (parent_of (name_at rows i)) ≡ None
    → IsWorded i rows links → IsLinkedFrom i rows links
linked-skip rows links i tree lt h worded =
    let linked = worded.linked in
    let none : parent_of (name_at rows i) ≡ None =
    no-above rows i (parent_of (name_at rows i)) lt (tree.parents i lt) h in
    record {
      long = linked.long;
      word = either-word i rows links worded;
      below = λ k in_k. linked.below k in_k ∙ sym (below-none rows i (name_at rows k) lt none);
      beside =
          λ k le in_k. beside-here rows i links k le in_k
          (λ own. linked.bare i (omega arith) own ∙ sym (ap (next_below rows i) none))
          linked.beside;
      bare = λ k before in_k. linked.bare k (omega arith) in_k;
    }

-- a row is put before those below its parent
pub linked-put : (rows : List Row) (links new : List RowLink) (i a : ℕ) → IsTree rows
    → i < length rows
    → length new ≡ length rows
    → option_and_then (row_index rows) (parent_of (name_at rows i)) ≡ Some a
    → ((k : ℕ) → k < length links → (link_at new k).word ≡ (link_at links k).word)
    → ((k : ℕ) → k < length links
    → (link_at new k).below ≡ cond (a == k) (Some i) (link_at links k).below)
    → ((k : ℕ) → k < length links
    → (link_at new k).beside ≡ cond (i == k) (link_at links a).below (link_at links k).beside)
    → IsWorded i rows links → IsLinkedFrom i rows new
linked-put rows links new i a tree lt long h word below beside worded =
    let linked = worded.linked in
    let all : length links ≡ length rows = linked.long in
    let above = above-of rows (parent_of (name_at rows i)) a h in
    let parent = above.0 in
    let some : parent_of (name_at rows i) ≡ Some parent = above.1 in
    let found = place_of-found rows parent a above.2 in
    let in_a : a < length rows = found.0 in
    let named : name_at rows a ≡ parent = found.1 in
    let rest = first_below_from (i + 1) (drop (i + 1) rows) in
    record {
      long = long;
      word = λ k le in_k. subst (λ w. IsWordAt (name_at rows k) w) (sym (word k (omega arith)))
          (either-word i rows links worded k le in_k);
      below = λ k in_k.
          below k (omega arith)
          ∙ ap (λ o. cond (a == k) (Some i) o) (linked.below k in_k)
          ∙ ap (λ b. cond b (Some i) (rest (name_at rows k))) (same-place rows a k tree in_a in_k)
          ∙ ap (λ p. cond (bytes_eq p (name_at rows k)) (Some i) (rest (name_at rows k))) named
          ∙ sym (below-some rows i (name_at rows k) parent lt some);
      beside = λ k le in_k. beside-here rows i new k le in_k
          (λ own. beside i (omega arith)
          ∙ ap (λ b. cond b (link_at links a).below (link_at links i).beside)
          ((Decides-eqb i i).1 refl)
          ∙ linked.below a in_a
          ∙ ap rest named
          ∙ sym (ap (next_below rows i) some))
          (λ j later in_j. beside j (omega arith)
          ∙ ap (λ b. cond b (link_at links a).below (link_at links j).beside)
          (not-later i j later) ∙ linked.beside j later in_j);
      bare = λ k before in_k. beside k (omega arith)
          ∙ ap (λ b. cond b (link_at links a).below (link_at links k).beside)
          (not-earlier i k before) ∙ linked.bare k (omega arith) in_k;
    }
