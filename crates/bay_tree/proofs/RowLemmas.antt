-- A new value at a place leaves every name, and so the tree, as it was.
use Rattle.std.proofs.Common.{◌≡◌, ◌≢◌, ℕ, suc, ◌<◌, All, Option, Some, None, option_map, IfSome, List, [], ◌∷◌, length, refl, ap, ◌∙◌, ⊎_elim, arith}
use Rattle.std.proofs.Math.ListN.{set, length-set}
use Rattle.std.proofs.lemmas.List.{get_or-set_same, get_or-set_other}
use Rattle.std.proofs.lemmas.Bool.{cases_eq}
use Rattle.bay_tree.specs.declared.row.Row.{Row}
use Rattle.bay_tree.specs.declared.leaf.LeafType.{LeafType}
use Rattle.bay_tree.specs.declared.leaf.Leaf.{Leaf}
use Rattle.bay_tree.specs.LeafTypes.{leaf_type_of}
use Rattle.bay_tree.specs.Rows.{row_at, name_at, leaf_at, leaves_at, leaf_type_at, with_leaf, IsTree, IsStructureNamed}

pub name_at-set : (rows : List Row) (place : ℕ) (row : Row) (k : ℕ) → place < length rows
    → row.name ≡ name_at rows place → name_at (set rows place row) k ≡ name_at rows k
name_at-set rows place row k within same =
    ⊎_elim (λ (here : k ≡ place). rw here
    (ap (λ (r : Row). r.name) (get_or-set_same rows place row _ within) ∙ same))
    (λ (other : k ≢ place). ap (λ (r : Row). r.name) (get_or-set_other rows place k row _ other))
    (cases_eq k place)

pub IfSome-weaken : (o : Option (List ℕ)) (P Q : List ℕ → Type 0) → ((x : List ℕ) → P x → Q x)
    → IfSome o P → IfSome o Q
IfSome-weaken None P Q f h = tt
IfSome-weaken (Some x) P Q f h = f x h

-- a structure is not the row whose value is replaced
structure-set : (rows : List Row) (place : ℕ) (row : Row) (k : ℕ) (name : List ℕ)
    → leaf_at rows place ≢ None → IsStructureNamed name (row_at rows k)
    → IsStructureNamed name (row_at (set rows place row) k)
structure-set rows place row k name leaf is =
    ⊎_elim (λ (here : k ≡ place). absurd (leaf (rw (← here) is.structure)))
    (λ (other : k ≢ place). rw (get_or-set_other rows place k row _ other) is) (cases_eq k place)

pub IsTree-set : (rows : List Row) (place : ℕ) (row : Row) → place < length rows
    → leaf_at rows place ≢ None → row.name ≡ name_at rows place → IsTree rows
    → IsTree (set rows place row)
IsTree-set rows place row within leaf same tree =
    let long : length (set rows place row) ≡ length rows = length-set rows place row in
    let named = λ (k : ℕ). name_at-set rows place row k within same in
    record {
      distinct = λ i j lt in_rows. rw (named i, named j) (tree.distinct i j lt (omega arith));
      parents =
          λ k in_rows. rw (named k)
          (IfSome-weaken _ _ (λ parent. (j : ℕ) × (j < k)
          × IsStructureNamed parent (row_at (set rows place row) j))
          (λ parent w. (w.0, w.1, structure-set rows place row w.0 parent leaf w.2))
          (tree.parents k (omega arith)));
    }

pub leaf-from-type : (rows : List Row) (place : ℕ) (leaf_type : LeafType)
    → leaf_type_at rows place ≡ Some leaf_type → leaf_at rows place ≢ None
leaf-from-type rows place leaf_type h =
    λ none. let e : option_map leaf_type_of None ≡ Some leaf_type = rw none at h in cc

pub leaf_at-own : (rows : List Row) (row : ℕ) (leaf : Leaf) → row < length rows
    → leaf_at (with_leaf rows row leaf) row ≡ Some leaf
leaf_at-own rows row leaf within =
    ap (λ (r : Row). r.leaf)
    (get_or-set_same rows row (record { name = name_at rows row; leaf = Some leaf }) _ within)

pub leaf_at-other : (rows : List Row) (row other : ℕ) (leaf : Leaf) → other ≢ row
    → leaf_at (with_leaf rows row leaf) other ≡ leaf_at rows other
leaf_at-other rows row other leaf apart =
    ap (λ (r : Row). r.leaf)
    (get_or-set_other rows row other (record { name = name_at rows row; leaf = Some leaf }) _ apart)

-- a value written to one row leaves those of other rows
pub leaves_at-others : (rows : List Row) (row : ℕ) (leaf : Leaf) (others : List ℕ)
    → All (λ other. other ≢ row) others
    → leaves_at (with_leaf rows row leaf) others ≡ leaves_at rows others
leaves_at-others rows row leaf [] apart = refl
leaves_at-others rows row leaf (other ∷ others) apart =
    ap (λ o. o ∷ leaves_at (with_leaf rows row leaf) others)
    (leaf_at-other rows row other leaf (apart 0 0 (omega arith)))
    ∙ ap (λ os. leaf_at rows other ∷ os)
    (leaves_at-others rows row leaf others (λ k d lt. apart (suc k) d (omega arith)))
