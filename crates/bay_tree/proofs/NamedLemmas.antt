-- The value at a handle is the value of its name.
use Rattle.std.proofs.Common.{◌≡◌, ◌≢◌, ℕ, zero, suc, ◌+◌, ◌<◌, Bool, true, false, cond, List, [], ◌∷◌, length, find, Some, option_and_then, position, refl, ap, sym, ◌∙◌, arith}
use Rattle.std.proofs.lemmas.Bool.{false_from_ne_true}
use Rattle.std.proofs.lemmas.Iterator.Adapters.{position_from-zero}
use Rattle.std.proofs.lemmas.Slice.Eq.{bytes_eq-Decides}
use Rattle.std.specs.List.{position_from}
use Rattle.std.specs.Str.{bytes_eq}
use Rattle.bay_tree.specs.declared.row.Row.{Row}
use Rattle.bay_tree.specs.declared.leaf.Leaf.{Leaf}
use Rattle.bay_tree.specs.Rows.{IsTree, name_at, leaf_at, with_leaf, leaf_named, with_leaf_named}

pub same-text : (name : List ℕ) → bytes_eq name name ≡ true
same-text name = (bytes_eq-Decides name name).1 refl

pub other-text : (a b : List ℕ) → a ≢ b → bytes_eq a b ≡ false
other-text a b n = false_from_ne_true (bytes_eq a b) (λ t. n ((bytes_eq-Decides a b).0 t))

-- no two rows have one name
abbrev pub AreApart : List Row → Type 0
AreApart rows = (i j : ℕ) → i < j → j < length rows → name_at rows i ≢ name_at rows j

rest-apart : (row : Row) (rows : List Row) → AreApart (row ∷ rows) → AreApart rows
rest-apart row rows apart i j lt within = apart (suc i) (suc j) (omega arith) (omega arith)

leaf-apart : (rows : List Row) (place : ℕ) → AreApart rows → place < length rows
    → leaf_at rows place ≡ leaf_named (name_at rows place) rows
leaf-apart [] place apart within = absurd (omega arith)
leaf-apart (row ∷ rows) zero apart within =
    sym (ap (λ b. option_and_then (λ (r : Row). r.leaf)
    (cond b (Some row) (find (λ (r : Row). bytes_eq r.name row.name) rows)))
    (same-text row.name))
leaf-apart (row ∷ rows) (suc place) apart within =
    let name = name_at rows place in
    let other : bytes_eq row.name name ≡ false =
    other-text row.name name (apart zero (suc place) (omega arith) within) in
    leaf-apart rows place (rest-apart row rows apart) (omega arith)
    ∙ sym (ap (λ b. option_and_then (λ (r : Row). r.leaf)
    (cond b (Some row) (find (λ (r : Row). bytes_eq r.name name) rows))) other)

pub leaf-named : (rows : List Row) (place : ℕ) → IsTree rows → place < length rows
    → leaf_at rows place ≡ leaf_named (name_at rows place) rows
leaf-named rows place tree within = leaf-apart rows place tree.distinct within

absent : (rows : List Row) (name : List ℕ) (value : Leaf)
    → ((k : ℕ) → k < length rows → name ≢ name_at rows k) → with_leaf_named name value rows ≡ rows
absent [] name value lacks = refl
absent (row ∷ rows) name value lacks =
    let here : bytes_eq row.name name ≡ false =
    other-text row.name name (λ e. lacks zero (omega arith) (sym e)) in
    ap (λ b. cond b (record { name = row.name; leaf = Some value }) row
    ∷ with_leaf_named name value rows) here
    ∙ ap (λ rs. row ∷ rs) (absent rows name value (λ k lt. lacks (suc k) (omega arith)))

put-apart : (rows : List Row) (place : ℕ) (value : Leaf) → AreApart rows → place < length rows
    → with_leaf rows place value ≡ with_leaf_named (name_at rows place) value rows
put-apart [] place value apart within = absurd (omega arith)
put-apart (row ∷ rows) zero value apart within =
    let new : Row = record { name = row.name; leaf = Some value } in
    let rest : with_leaf_named row.name value rows ≡ rows =
    absent rows row.name value (λ k lt. apart zero (suc k) (omega arith) (omega arith)) in
    sym (ap (λ b. cond b new row ∷ with_leaf_named row.name value rows) (same-text row.name)
    ∙ ap (λ rs. new ∷ rs) rest)
put-apart (row ∷ rows) (suc place) value apart within =
    let name = name_at rows place in
    let new : Row = record { name = row.name; leaf = Some value } in
    let other : bytes_eq row.name name ≡ false =
    other-text row.name name (apart zero (suc place) (omega arith) within) in
    ap (λ rs. row ∷ rs) (put-apart rows place value (rest-apart row rows apart) (omega arith))
    ∙ sym (ap (λ b. cond b new row ∷ with_leaf_named name value rows) other)

-- a value put at a handle is put at its name
pub with_leaf-named : (rows : List Row) (place : ℕ) (value : Leaf) → IsTree rows
    → place < length rows → with_leaf rows place value
    ≡ with_leaf_named (name_at rows place) value rows
with_leaf-named rows place value tree within = put-apart rows place value tree.distinct within

-- the row found first by a name has the name's value
module _ (name : List ℕ) where
  abbrev named : Row → Bool
  named row = bytes_eq row.name name

  abbrev Found : List Row → ℕ → ℕ → Type 0
  Found rows start place = (k : ℕ) × (place ≡ start + k) × (leaf_at rows k ≡ leaf_named name rows)

  found-here : (row : Row) (rows : List Row) (start place : ℕ) (b : Bool) → named row ≡ b
      → cond b (Some start) (position_from named (start + 1) rows) ≡ Some place
      → (position_from named (start + 1) rows ≡ Some place → Found rows (start + 1) place)
      → Found (row ∷ rows) start place
  found-here row rows start place true e f later =
      let at : start ≡ place = cc in (
        zero,
        omega arith,
        sym
            (ap (λ b. option_and_then (λ (r : Row). r.leaf) (cond b (Some row) (find named rows)))
            e),
      )
  found-here row rows start place false e f later =
      let w = later f in
      let at : place ≡ start + 1 + w.0 = w.1 in (
        suc w.0,
        omega arith,
        w.2
            ∙ sym (ap (λ b. option_and_then (λ (r : Row). r.leaf)
            (cond b (Some row) (find named rows))) e),
      )

  found-from : (rows : List Row) (start place : ℕ) → position_from named start rows ≡ Some place
      → Found rows start place
  found-from [] start place h = absurd cc
  found-from (row ∷ rows) start place h =
      found-here row rows start place (named row) refl h (found-from rows (start + 1) place)

  pub found-leaf : (rows : List Row) (place : ℕ) → position named rows ≡ Some place
      → leaf_at rows place ≡ leaf_named name rows
  found-leaf rows place h =
      let w = found-from rows 0 place (sym (position_from-zero named rows) ∙ h) in
      let at : place ≡ w.0 = omega (arith, w.1) in
      ap (leaf_at rows) at ∙ w.2
