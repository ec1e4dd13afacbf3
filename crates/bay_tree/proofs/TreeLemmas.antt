-- Rows make a tree where each can stand at its place.
use Rattle.std.proofs.Common.{◌≡◌, ◌≢◌, ◌==◌, ◌↔◌, true, false, IsTrue, ℕ, ◌<◌, ◌≤◌, Option, Some, None, List, [], length, refl, sym, ◌∙◌, ap, ⊎_elim, arith}
use Rattle.std.proofs.lemmas.Bool.{cases_lt}
use Rattle.std.proofs.lemmas.Bool.Decides.{eqb_tells}
use Rattle.std.specs.Option.{IsSomeAnd}
use Rattle.bay_tree.specs.declared.row.Row.{Row}
use Rattle.bay_tree.specs.Names.{parent_of}
use Rattle.bay_tree.specs.Rows.{row_at, name_at, leaf_at, row_index, IsBelowStructure, IsStructureNamed, IsTree}
use Rattle.bay_tree.proofs.RowLemmas.{IfSome-weaken}
use Rattle.bay_tree.proofs.SearchLemmas.{place_of-found, place_of-none}

-- a row can stand at its place among rows
pub record IsInPlace (rows : List Row) (place : ℕ) : Type 0 where
  pub first : row_index rows (name_at rows place) ≡ Some place
  pub below : IsBelowStructure rows place

above-stands : (rows : List Row) (k : ℕ) (parent : List ℕ) (o : Option ℕ)
    → row_index rows parent ≡ o
    → IsSomeAnd o (λ above. (above < k) × (leaf_at rows above ≡ None))
    → (j : ℕ) × (j < k) × IsStructureNamed parent (row_at rows j)
above-stands rows k parent None is h = absurd h
above-stands rows k parent (Some above) is h =
    (above, h.0, record { named = (place_of-found rows parent above is).1; structure = h.1 })

pub IsTree-in_place : (rows : List Row) → ((k : ℕ) → k < length rows → IsInPlace rows k)
    → IsTree rows
IsTree-in_place rows in_place = record {
  distinct = λ i j lt within same.
      let first : Some i ≡ Some j =
      sym (in_place i (omega arith)).first ∙ ap (row_index rows) same
      ∙ (in_place j within).first in
      let one : i ≡ j = cc in
      omega arith;
  parents =
      λ k within. IfSome-weaken (parent_of (name_at rows k))
      (λ parent. IsSomeAnd (row_index rows parent)
      (λ above. (above < k) × (leaf_at rows above ≡ None)))
      (λ parent. (j : ℕ) × (j < k) × IsStructureNamed parent (row_at rows j))
      (λ parent found. above-stands rows k parent (row_index rows parent) refl found)
      (in_place k within).below;
}

one-place : (rows : List Row) (i j : ℕ) → IsTree rows → i < length rows → j < length rows
    → name_at rows i ≡ name_at rows j → i ≡ j
one-place rows i j tree in_i in_j same =
    ⊎_elim (λ (lt : i < j). absurd (tree.distinct i j lt in_j same))
    (λ (le : j ≤ i). ⊎_elim (λ (lt : j < i). absurd (tree.distinct j i lt in_i (sym same)))
    (λ (ge : i ≤ j). let e : i ≡ j = omega arith in e) (cases_lt j i)) (cases_lt i j)

first-with : (rows : List Row) (k : ℕ) (o : Option ℕ) → IsTree rows → k < length rows
    → row_index rows (name_at rows k) ≡ o → o ≡ Some k
first-with rows k None tree within is =
    absurd (place_of-none rows (name_at rows k) is k (record { name = []; leaf = None }) within
    refl)
first-with rows k (Some place) tree within is =
    let found = place_of-found rows (name_at rows k) place is in
    ap (λ n. Some n) (one-place rows place k tree found.0 within found.1)

-- in a tree the first row with a row's name is that row
pub place_of-own : (rows : List Row) (k : ℕ) → IsTree rows → k < length rows
    → row_index rows (name_at rows k) ≡ Some k
place_of-own rows k tree within =
    first-with rows k (row_index rows (name_at rows k)) tree within refl

above-is : (rows : List Row) (k : ℕ) (parent : List ℕ) → IsTree rows → k < length rows
    → (j : ℕ) × (j < k) × IsStructureNamed parent (row_at rows j)
    → IsSomeAnd (row_index rows parent) (λ above. (above < k) × (leaf_at rows above ≡ None))
above-is rows k parent tree within w =
    let named : name_at rows w.0 ≡ parent = w.2.named in
    let own : row_index rows parent ≡ Some w.0 =
    sym (ap (row_index rows) named) ∙ place_of-own rows w.0 tree (omega (arith, w.1)) in
    rw own (w.1, w.2.structure)

pub IsInPlace-tree : (rows : List Row) (k : ℕ) → k < length rows → IsTree rows → IsInPlace rows k
IsInPlace-tree rows k within tree = record {
  first = place_of-own rows k tree within;
  below = IfSome-weaken (parent_of (name_at rows k))
      (λ parent. (j : ℕ) × (j < k) × IsStructureNamed parent (row_at rows j))
      (λ parent. IsSomeAnd (row_index rows parent)
      (λ above. (above < k) × (leaf_at rows above ≡ None)))
      (λ parent w. above-is rows k parent tree within w) (tree.parents k within);
}

pub first-is : (o : Option ℕ) (first place : ℕ) → o ≡ Some first → IsTrue (first == place)
    ↔ (o ≡ Some place)
first-is o first place is =
    ⊎_elim (λ (same : (first == place ≡ true) × (first ≡ place)).
    (λ _. is ∙ ap (λ n. Some n) same.1, λ _. same.0))
    (λ (other : (first == place ≡ false) × (first ≢ place)).
    (λ e. absurd cc, λ some. let one : first ≡ place = cc in absurd (other.1 one)))
    (eqb_tells first place)

pub none-is : (o : Option ℕ) (place : ℕ) → o ≡ None → IsTrue false ↔ (o ≡ Some place)
none-is o place is = (λ e. absurd cc, λ some. absurd cc)
