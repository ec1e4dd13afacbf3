-- Data as trees.
use Rattle.std.proofs.Common.{◌≡◌, ℕ, ◌<◌, Option, Some, None, IfSome, List, [], ◌∷◌, ◌++◌, length, map, refl, sym, ap, ◌∙◌, Vec, Bor, Global}
use Rattle.bay_tree.specs.declared.row.Row.{Row}
use Rattle.bay_tree.specs.Rows.{name_at, leaf_at, first_below, next_beside}
use Rattle.bay_mms.specs.declared.data.TypeSpec as code
use Rattle.bay_mms.specs.declared.data.TypeSpec.TheVariants as variants
use Rattle.bay_mms.specs.Data as mms
use Rattle.bay_mms.specs.Data.{Datum}
use Rattle.bay_mms.specs.Types as types
use Rattle.bay_mms.specs.Types.{TypeSpec, Components}
use Rattle.bay_tree.specs.Names.{word_of}
use Rattle.bay_mms.specs.Views.{data_before, components_before, type_step, type_of, components_in}
use Rattle.bay_mms.specs.Nodes.{Nodes, node_of, nodes_data, data_at, node_type, nodes_types, type_at}
use Rattle.bay_tree.specs.declared.leaf.Leaf.{Leaf}
use Rattle.bay_mms.proofs.NodeLemmas.{nodes_since, parts_at, Below, first-part, next-part}

-- The data found and those of the rows that are left are the data of all parts.
pub record Found (rows : List Row) (handle : ℕ) (found : List Datum) (next : Option ℕ)
    : Type 0 where
  pub is : data_before found (nodes_data (nodes_since rows (name_at rows handle) next))
      ≡ nodes_data (parts_at rows handle)
  pub below : IfSome next (Below rows handle)

before-more : (found : List Datum) (one : Datum) (later : mms.Data)
    → data_before (found ++ one ∷ []) later ≡ data_before found (mms.datum one later)
before-more [] one later = refl
before-more (first ∷ found) one later =
    ap (λ (d : mms.Data). mms.datum first d) (before-more found one later)

pub found-first : (rows : List Row) (handle : ℕ) (next : Option ℕ) → next ≡ first_below rows handle
    → IfSome next (λ k. (handle < k) × (k < length rows)) → Found rows handle [] next
found-first rows handle next is after =
    let p = first-part rows handle next is after in
    record { is = ap nodes_data (sym p.0); below = p.1 }

pub found-more : (rows : List Row) (handle part : ℕ) (found new : List Datum) (one : Datum)
    (next : Option ℕ) → Found rows handle found (Some part) → one ≡ data_at rows part
    → new ≡ found ++ one ∷ []
    → next ≡ next_beside rows part → IfSome next (λ k. (part < k) × (k < length rows))
    → Found rows handle new next
found-more rows handle part found new one next f same added is after =
    let p = next-part rows handle part next f.below is after in
    record {
      is =
          ap (λ (ds : List Datum). data_before ds
          (nodes_data (nodes_since rows (name_at rows handle) next)))
          (added ∙ ap (λ (d : Datum). found ++ d ∷ []) same)
          ∙ before-more found (data_at rows part)
          (nodes_data (nodes_since rows (name_at rows handle) next))
          ∙ ap (λ (ps : Nodes). data_before found
          (mms.datum (data_at rows part) (nodes_data ps))) (sym p.0) ∙ f.is;
      below = p.1;
    }

-- ---- types

-- The components found and those of the rows that are left are those of all parts.
pub record FoundTypes (rows : List Row) (handle : ℕ) (found : List (List ℕ × TypeSpec))
    (next : Option ℕ) : Type 0 where
  pub is : components_before found (nodes_types (nodes_since rows (name_at rows handle) next))
      ≡ nodes_types (parts_at rows handle)
  pub below : IfSome next (Below rows handle)

types-more : (found : List (List ℕ × TypeSpec)) (one : List ℕ × TypeSpec) (later : Components)
    → components_before (found ++ one ∷ []) later
    ≡ components_before found (types.component one.0 one.1 later)
types-more [] one later = refl
types-more (first ∷ found) one later =
    ap (λ (d : Components). types.component first.0 first.1 d) (types-more found one later)

pub types-first : (rows : List Row) (handle : ℕ) (next : Option ℕ) → next ≡ first_below rows handle
    → IfSome next (λ k. (handle < k) × (k < length rows)) → FoundTypes rows handle [] next
types-first rows handle next is after =
    let p = first-part rows handle next is after in
    record { is = ap nodes_types (sym p.0); below = p.1 }

pub types-then : (rows : List Row) (handle part : ℕ) (found new : List (List ℕ × TypeSpec))
    (name : List ℕ) (one : TypeSpec) (next : Option ℕ) → FoundTypes rows handle found (Some part)
    → name ≡ word_of (name_at rows part) → one ≡ type_at rows part → new ≡ found ++ (name, one) ∷ []
    → next ≡ next_beside rows part → IfSome next (λ k. (part < k) × (k < length rows))
    → FoundTypes rows handle new next
types-then rows handle part found new name one next f named same added is after =
    let p = next-part rows handle part next f.below is after in
    let whole : List ℕ × TypeSpec = (word_of (name_at rows part), type_at rows part) in
    let a : new ≡ found ++ whole ∷ [] =
    added ∙ ap (λ (n : List ℕ). found ++ (n, one) ∷ []) named
    ∙ ap (λ (d : TypeSpec). found ++ (word_of (name_at rows part), d) ∷ []) same in
    record {
      is =
          ap (λ (ds : List (List ℕ × TypeSpec)). components_before ds
          (nodes_types (nodes_since rows (name_at rows handle) next))) a
          ∙ types-more found whole (nodes_types (nodes_since rows (name_at rows handle) next))
          ∙ ap (λ (ps : Nodes). components_before found
          (types.component (word_of (name_at rows part)) (type_at rows part) (nodes_types ps)))
          (sym p.0) ∙ f.is;
      below = p.1;
    }

map-twice : {A B C : Type 0} (g : A → B) (f : B → C) (h : A → C) → ((x : A) → f (g x) ≡ h x)
    → (xs : List A) → map f (map g xs) ≡ map h xs
map-twice {C = C} g f h same [] = refl
map-twice {C = C} g f h same (x ∷ xs) =
    ap (λ (y : C). y ∷ map f (map g xs)) (same x)
    ∙ ap (λ (ys : List C). h x ∷ ys) (map-twice g f h same xs)

view-type : (parts : Vec (Bor (List ℕ) × code.TypeSpec) Global)
    → type_of (code.Structure parts)
    ≡ types.structure (components_before (components_in parts.items) types.no_components)
view-type parts =
    ap type_of (sym (variants.rolls-Structure parts))
    ∙ code.fold-roll-TypeSpec TypeSpec type_step (code.TheOpen.Structure parts)
    ∙ ap (λ (ps : List (List ℕ × TypeSpec)). types.structure
    (components_before ps types.no_components)) (map-twice _ _ _ (λ part. refl) parts.items)

pub types-all : (rows : List Row) (handle : ℕ) (parts : Vec (Bor (List ℕ) × code.TypeSpec) Global)
    → leaf_at rows handle ≡ None → FoundTypes rows handle (components_in parts.items) None
    → type_of (code.Structure parts) ≡ type_at rows handle
types-all rows handle parts none f =
    view-type parts ∙ ap types.structure f.is
    ∙ ap (λ (o : Option Leaf). node_type (node_of o (parts_at rows handle))) (sym none)
