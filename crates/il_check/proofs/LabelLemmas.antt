-- One label more.
use Rattle.std.proofs.Common.{◌≡◌, ℕ, ◌+◌, ◌<◌, ◌≤◌, Bool, true, false, cond, ◌&&◌, is_some, is_none, List, [], ◌∷◌, ◌++◌, length, map, drop, get_or, vec_len, Option, Some, None, refl, ap, sym, ◌∙◌, arith, append_assoc, append-nil, subst}
use Rattle.std.proofs.lemmas.List.{length-append}
use Rattle.std.specs.BTreeMap.{get_by_text}
use Rattle.std.specs.Str.{bytes_eq}
use Rattle.std.proofs.lemmas.Slice.Eq.{bytes_eq-Decides}
use Rattle.bay_base.specs.Names.{upper}
use Rattle.il_text.specs.Listing as text
use Rattle.il_text.specs.Views.{entry_of}
use Rattle.il_text.specs.declared.program.Item.{Item}
use Rattle.il_text.proofs.ListingLemmas.{front-item}
use Rattle.il_check.specs.Declaring.{labels_from, looked_up}
use Rattle.il_check.specs.LabelsView.{label_in, with_labels, AddsLabels, AreLabels}
use Rattle.il_check.specs.WellTyped.{no_reach}
use Rattle.il_check.specs.declared.labels.Labels.{Labels}
use Rattle.il_check.specs.declared.reach.Reach.{Reach}
use Rattle.il_check.proofs.WalkLemmas.{nothing-left}

-- what is known after so many items
pub record LabelsSoFar (all : List Item) (i : ℕ) (l : Labels) : Type 0 where
  pub numbers : (name : List ℕ)
      → cond (is_some (get_by_text l.numbers name)) (get_by_text l.numbers name)
      (looked_up (labels_from (length l.arrivals.items) (map entry_of (drop i all))) name)
      ≡ looked_up (labels_from 0 (map entry_of all)) name
  pub arrivals : l.arrivals.items
      ++ map (λ x. no_reach) (labels_from (length l.arrivals.items) (map entry_of (drop i all)))
      ≡ map (λ x. no_reach) (labels_from 0 (map entry_of all))

pub labels-none : (all : List Item) (l : Labels)
    → ((name : List ℕ) → get_by_text l.numbers name ≡ None) → l.arrivals.items ≡ []
    → LabelsSoFar all 0 l
labels-none all l nothing none = record {
  numbers = λ name.
      ap (λ (o : Option ℕ). cond (is_some o) o
      (looked_up (labels_from (length l.arrivals.items) (map entry_of all)) name))
      (nothing name)
      ∙ ap (λ (rs : List Reach). looked_up (labels_from (length rs) (map entry_of all)) name) none;
  arrivals =
      ap (λ (rs : List Reach). rs
      ++ map (λ x. no_reach) (labels_from (length rs) (map entry_of all))) none;
}

-- the labels behind an item
split : (n : ℕ) (e : text.Entry) (es : List text.Entry)
    → labels_from n (e ∷ es) ≡ label_in n e ++ labels_from (n + length (label_in n e)) es
split n (text.label line name) es = refl
split n (text.action line a) es = let e : n ≡ n + 0 = omega arith in ap (λ k. labels_from k es) e
split n (text.block line operator negated items end) es = let e : n ≡ n + 0 =
    omega arith in ap (λ k. labels_from k es) e

put_first : (same : Bool) (here : Option ℕ) (new : ℕ) (now rest : Option ℕ)
    → (same ≡ true → here ≡ now)
    → cond (is_some (cond (same && is_none here) (Some new) now))
    (cond (same && is_none here) (Some new) now) rest
    ≡ cond (is_some now) now (cond same (Some new) rest)
put_first true None new now rest e = rw (sym (e refl)) refl
put_first true (Some x) new now rest e = rw (sym (e refl)) refl
put_first false None new now rest e = refl
put_first false (Some x) new now rest e = refl

-- at most one label is put before others
put : (values : List ℕ → Option ℕ) (n : ℕ) (e : text.Entry) (rest : List (List ℕ × ℕ))
    (name : List ℕ)
    → cond (is_some (with_labels values (label_in n e) name))
    (with_labels values (label_in n e) name) (looked_up rest name)
    ≡ cond (is_some (values name)) (values name) (looked_up (label_in n e ++ rest) name)
put values n (text.label line label) rest name =
    put_first (bytes_eq (upper label) name) (values (upper label)) n (values name)
    (looked_up rest name) (λ same. ap values ((bytes_eq-Decides (upper label) name).0 same))
put values n (text.action line a) rest name = refl
put values n (text.block line operator negated items end) rest name = refl

map-two : (xs ys : List (List ℕ × ℕ))
    → map (λ x. no_reach) (xs ++ ys) ≡ map (λ x. no_reach) xs ++ map (λ x. no_reach) ys
map-two [] ys = refl
map-two (x ∷ xs) ys = ap (λ (rs : List Reach). no_reach ∷ rs) (map-two xs ys)

map-count : (xs : List (List ℕ × ℕ)) → length (map (λ x. no_reach) xs) ≡ length xs
map-count [] = refl
map-count (x ∷ xs) = let e : length (map (λ y. no_reach) xs) ≡ length xs =
    map-count xs in omega arith

pub labels-more : (all : List Item) (i : ℕ) (x : Item) (old new : Labels) → i < length all
    → x ≡ get_or all i x
    → LabelsSoFar all i old → AddsLabels (label_in (vec_len old.arrivals) (entry_of x)) old new
    → LabelsSoFar all (i + 1) new
labels-more all i x old new within is known added =
    let n : ℕ = length old.arrivals.items in
    let after : List text.Entry = map entry_of (drop (i + 1) all) in
    let left : map entry_of (drop i all) ≡ entry_of x ∷ after =
    ap (map entry_of) (front-item all i x within is) in
    let here : List (List ℕ × ℕ) = label_in n (entry_of x) in
    let given : AddsLabels here old new =
    subst (λ k. AddsLabels (label_in k (entry_of x)) old new) old.arrivals.ok.0 added in
    let grown : new.arrivals.items ≡ old.arrivals.items ++ map (λ l. no_reach) here =
    given.arrivals in
    let counted : length new.arrivals.items ≡ n + length here =
    ap length grown ∙ length-append old.arrivals.items (map (λ l. no_reach) here)
    ∙ ap (λ k. n + k) (map-count here) in
    let whole : labels_from n (map entry_of (drop i all))
    ≡ here ++ labels_from (n + length here) after =
    ap (labels_from n) left ∙ split n (entry_of x) after in
    record {
      numbers = λ name.
          let now : Option ℕ = get_by_text old.numbers name in
          ap (λ (o : Option ℕ). cond (is_some o) o
          (looked_up (labels_from (length new.arrivals.items) after) name)) (given.numbers name)
          ∙ ap (λ k. cond (is_some (with_labels (λ q. get_by_text old.numbers q) here name))
          (with_labels (λ q. get_by_text old.numbers q) here name)
          (looked_up (labels_from k after) name)) counted
          ∙ put (λ q. get_by_text old.numbers q) n (entry_of x)
          (labels_from (n + length here) after) name
          ∙ ap (λ (ls : List (List ℕ × ℕ)). cond (is_some now) now (looked_up ls name)) (sym whole)
          ∙ known.numbers name;
      arrivals =
          ap (λ k. new.arrivals.items ++ map (λ y. no_reach) (labels_from k after)) counted
          ∙ ap (λ (rs : List Reach). rs
          ++ map (λ y. no_reach) (labels_from (n + length here) after)) grown
          ∙ append_assoc old.arrivals.items (map (λ y. no_reach) here)
          (map (λ y. no_reach) (labels_from (n + length here) after))
          ∙ ap (λ (rs : List Reach). old.arrivals.items ++ rs)
          (sym (map-two here (labels_from (n + length here) after)))
          ∙ ap (λ (ls : List (List ℕ × ℕ)). old.arrivals.items ++ map (λ y. no_reach) ls)
          (sym whole)
          ∙ known.arrivals;
    }

or-none : (o : Option ℕ) → cond (is_some o) o None ≡ o
or-none None = refl
or-none (Some x) = refl

-- after all items
pub labels-all : (all : List Item) (i : ℕ) (l : Labels) → length all ≤ i → LabelsSoFar all i l
    → AreLabels (labels_from 0 (map entry_of all)) l
labels-all all i l within known =
    let nothing : drop i all ≡ [] = nothing-left all i within in
    record {
      numbers = λ name.
          sym (or-none (get_by_text l.numbers name))
          ∙ ap (λ (xs : List Item). cond (is_some (get_by_text l.numbers name))
          (get_by_text l.numbers name)
          (looked_up (labels_from (length l.arrivals.items) (map entry_of xs)) name))
          (sym nothing)
          ∙ known.numbers name;
      arrivals =
          sym (append-nil l.arrivals.items)
          ∙ ap (λ (xs : List Item). l.arrivals.items
          ++ map (λ y. no_reach) (labels_from (length l.arrivals.items) (map entry_of xs)))
          (sym nothing)
          ∙ known.arrivals;
    }
