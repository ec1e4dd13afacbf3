-- What depends on the names of the rows alone, and so stays as it is when a value changes.
use Rattle.std.proofs.Common.{◌≡◌, ◌≢◌, ℕ, ◌+◌, ◌<◌, ◌≤◌, ◌==◌, Bool, ltb, Option, Some, None, cond, List, [], ◌∷◌, ◌++◌, append-nil, ◌-◌, length, take, drop, get_or, refl, ap, sym, subst, ◌∙◌, arith}
use Rattle.std.proofs.Math.ListN.{get_or-map, set, length-set}
use Rattle.std.proofs.Math.Seq.{map-set_same}
use Rattle.std.proofs.lemmas.List.{drop-map, drop_all, length-drop, take_all}
use Rattle.std.proofs.lemmas.Iterator.Adapters.{position_from-zero}
use Rattle.std.specs.List.{position_from}
use Rattle.std.specs.Str.{bytes_eq}
use Rattle.bay_tree.specs.declared.row.Row.{Row}
use Rattle.bay_tree.specs.declared.leaf.Leaf.{Leaf}
use Rattle.bay_tree.specs.declared.index.Index.{Index}
use Rattle.bay_tree.specs.declared.link.RowLink.{RowLink}
use Rattle.bay_tree.specs.Arena.{IsArena, bucket_of, is_in_bucket, link_at}
use Rattle.bay_tree.specs.Names.{IsWordAt, parent_of, is_below}
use Rattle.bay_tree.specs.declared.page.NamesPage.{NamesPage}
use Rattle.bay_tree.specs.Page.{page_after, rows_after}
use Rattle.bay_tree.proofs.RowLemmas.{IsTree-set}
use Rattle.bay_tree.specs.Rows.{leaf_at, with_leaf, name_at, names_of, row_index, first_below, first_below_from, next_below, next_beside}

-- a search by name among the rows is a search among their names
position_from-names : (test : List ℕ → Bool) (start : ℕ) (rows : List Row)
    → position_from (λ (row : Row). test row.name) start rows
    ≡ position_from test start (names_of rows)
position_from-names test start [] = refl
position_from-names test start (row ∷ rows) =
    ap (λ o. cond (test row.name) (Some start) o) (position_from-names test (start + 1) rows)

search-same : (test : List ℕ → Bool) (start : ℕ) (a b : List Row) → names_of a ≡ names_of b
    → position_from (λ (row : Row). test row.name) start a
    ≡ position_from (λ (row : Row). test row.name) start b
search-same test start a b same =
    position_from-names test start a ∙ ap (position_from test start) same
    ∙ sym (position_from-names test start b)

pub name_at-same : (a b : List Row) (k : ℕ) → names_of a ≡ names_of b → name_at a k ≡ name_at b k
name_at-same a b k same =
    let none : Row = record { name = []; leaf = None } in
    sym (get_or-map (λ (r : Row). r.name) a k none)
    ∙ ap (λ (names : List (List ℕ)). get_or names k []) same
    ∙ get_or-map (λ (r : Row). r.name) b k none

pub first_below_from-same : (start : ℕ) (a b : List Row) (parent : List ℕ) → names_of a ≡ names_of b
    → first_below_from start a parent ≡ first_below_from start b parent
first_below_from-same start a b parent same = search-same (is_below parent) start a b same

pub first_below-same : (a b : List Row) (k : ℕ) → names_of a ≡ names_of b
    → first_below a k ≡ first_below b k
first_below-same a b k same =
    ap (first_below_from 0 a) (name_at-same a b k same)
    ∙ first_below_from-same 0 a b (name_at b k) same

names_of-drop : (n : ℕ) (a b : List Row) → names_of a ≡ names_of b
    → names_of (drop n a) ≡ names_of (drop n b)
names_of-drop n a b same =
    sym (drop-map (λ (r : Row). r.name) n a) ∙ ap (drop n) same ∙ drop-map (λ (r : Row). r.name) n b

next_below-same : (a b : List Row) (k : ℕ) (parent : Option (List ℕ)) → names_of a ≡ names_of b
    → next_below a k parent ≡ next_below b k parent
next_below-same a b k None same = refl
next_below-same a b k (Some parent) same =
    first_below_from-same (k + 1) (drop (k + 1) a) (drop (k + 1) b) parent
    (names_of-drop (k + 1) a b same)

pub next_beside-same : (a b : List Row) (k : ℕ) → names_of a ≡ names_of b
    → next_beside a k ≡ next_beside b k
next_beside-same a b k same =
    ap (λ name. next_below a k (parent_of name)) (name_at-same a b k same)
    ∙ next_below-same a b k (parent_of (name_at b k)) same

pub place_of-same : (a b : List Row) (name : List ℕ) → names_of a ≡ names_of b
    → row_index a name ≡ row_index b name
place_of-same a b name same =
    position_from-zero (λ (row : Row). bytes_eq row.name name) a
    ∙ search-same (λ own. bytes_eq own name) 0 a b same
    ∙ sym (position_from-zero (λ (row : Row). bytes_eq row.name name) b)

-- what was written through a slice of a whole vector
pub written : (old new : List RowLink) (n : ℕ) → length new ≡ length old → n ≡ length old
    → take n (new ++ drop (length new) old) ≡ new
written old new n same all =
    ap (λ rest. take n (new ++ rest)) (drop_all (length new) old (omega arith))
    ∙ ap (take n) (append-nil new) ∙ take_all n new (omega arith)

-- a row with another value, put at its place
pub with_leaf-set : (rows : List Row) (place : ℕ) (row : Row) (leaf : Leaf)
    → row.name ≡ name_at rows place → row.leaf ≡ Some leaf
    → set rows place row ≡ with_leaf rows place leaf
with_leaf-set rows place row leaf name value =
    ap (λ (n : List ℕ). set rows place (record { name = n; leaf = row.leaf })) name
    ∙ ap (λ (l : Option Leaf). set rows place (record { name = name_at rows place; leaf = l }))
    value

-- a new value leaves the index and the links good
pub IsArena-set : (rows : List Row) (index : Index) (links : List RowLink) (place : ℕ) (row : Row)
    → place < length rows → leaf_at rows place ≢ None → row.name ≡ name_at rows place
    → IsArena rows index links → IsArena (set rows place row) index links
IsArena-set rows index links place row within leaf name arena =
    let new : List Row = set rows place row in
    let count = length index.first.items in
    let names : names_of new ≡ names_of rows =
    map-set_same (λ (r : Row). r.name) rows place row (record { name = []; leaf = None }) name in
    let long : length new ≡ length rows = length-set rows place row in
    let own = λ (k : ℕ). name_at-same new rows k names in
    record {
      tree = IsTree-set rows place row within leaf name arena.tree;
      indexed = record {
        longest = λ k lt. subst (λ n. length n ≤ index.longest) (sym (own k))
            (arena.indexed.longest k (omega arith));
        some = arena.indexed.some;
        first = λ b lt. arena.indexed.first b lt
            ∙ sym (search-same (λ n. bucket_of count n == b) 0 new rows names);
        long = arena.indexed.long ∙ sym long;
        next = λ k lt. arena.indexed.next k (omega arith)
            ∙ sym (ap (λ n. position_from (is_in_bucket count (bucket_of count n)) (k + 1)
            (drop (k + 1) new)) (own k)
            ∙ search-same (λ n. bucket_of count n == bucket_of count (name_at rows k)) (k + 1)
            (drop (k + 1) new) (drop (k + 1) rows) (names_of-drop (k + 1) new rows names));
      };
      linked = record {
        long = arena.linked.long ∙ sym long;
        word = λ k lt. subst (λ n. IsWordAt n (link_at links k).word) (sym (own k))
            (arena.linked.word k (omega arith));
        below = λ k lt. arena.linked.below k (omega arith)
            ∙ sym (first_below-same new rows k names);
        beside = λ k lt. arena.linked.beside k (omega arith)
            ∙ sym (next_beside-same new rows k names);
      };
    }

page-is : (a b : List (List ℕ)) (m n : Bool) → a ≡ b → m ≡ n
    → (let p : NamesPage = record { names = a; more = m } in p)
    ≡ (let p : NamesPage = record { names = b; more = n } in p)
page-is a b m n e f =
    ap (λ (x : List (List ℕ)). let p : NamesPage = record { names = x; more = m } in p) e
    ∙ ap (λ (x : Bool). let p : NamesPage = record { names = b; more = x } in p) f

-- a page of the rows from a place on is the page of those after the name
pub page-made : (held rows : List Row) (name : Option (List ℕ)) (start count : ℕ)
    (names : List (List ℕ)) → held ≡ rows → drop start rows ≡ rows_after rows name
    → names ≡ names_of (take count (take (length held - start) (drop start held)))
    → (let p : NamesPage = record {
      names = names;
      more =
          ltb count (length (take (length held - start) (drop start held)));
    } in p)
    ≡ page_after rows name count
page-made held rows name start count names same begins made =
    let rest : List Row = take (length held - start) (drop start held) in
    let all : rest ≡ rows_after rows name =
    take_all (length held - start) (drop start held) (omega (arith, length-drop start held))
    ∙ ap (drop start) same ∙ begins in
    page-is names (names_of (take count (rows_after rows name))) (ltb count (length rest))
    (ltb count (length (rows_after rows name)))
    (made ∙ ap (λ (rs : List Row). names_of (take count rs)) all)
    (ap (λ (rs : List Row). ltb count (length rs)) all)
