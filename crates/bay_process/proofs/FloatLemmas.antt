-- The floats of measured values: what a handle of one says of the row with its name.
use Rattle.std.proofs.Common.{◌≡◌, ◌≢◌, ℕ, ℤ, zero, suc, ◌<◌, Bool, true, false, cond, List, [], ◌∷◌, length, find, Option, Some, None, option_map, option_and_then, refl, ap, sym, ◌∙◌, subst, arith}
use Rattle.std.specs.Str.{bytes_eq}
use Rattle.bay_tree.specs.declared.leaf.Leaf.{Leaf}
use Rattle.bay_tree.specs.declared.leaf.Leaf.TheVariants as leaf
use Rattle.bay_tree.specs.declared.leaf.LeafType.{LeafType}
use Rattle.bay_tree.specs.declared.leaf.LeafType.TheVariants as leaf_type
use Rattle.bay_tree.specs.declared.row.Row.{Row}
use Rattle.bay_tree.specs.LeafTypes.{leaf_type_of}
use Rattle.bay_tree.specs.Rows.{IsTree, leaf_at, leaf_named, leaf_type_at, leaf_types_of, name_at, names_of, with_leaf_named}
use Rattle.bay_tree.proofs.NamedLemmas.{leaf-named}
use Rattle.bay_base.specs.declared.point.MeterField.TheVariants.{TotW, TotVAr, Hz, PhaseA, PhaseB, PhaseC}
use Rattle.bay_nodes.specs.Names.{float_names_of}
use Rattle.bay_process.specs.Layout.{AreFloatHandles, HasLeafType, IsFloatHandle, Layout, layout_of, row_name_in, type_among, type_named}
use Rattle.bay_process.specs.Values.{is_float, with_float}
use Rattle.bay_process.specs.declared.meter.MeterRows.{MeterRows}
use Rattle.bay_process.proofs.NodeLemmas.{leaf_type_at-in, name_at-in}

-- the type of a leaf
is-float : (o : Option Leaf) → option_map leaf_type_of o ≡ Some leaf_type.Float → is_float o ≡ true
is-float (Some (leaf.Float n)) h = refl
is-float None h = absurd cc
is-float (Some (leaf.Truth b)) h = absurd cc
is-float (Some (leaf.Dbpos p)) h = absurd cc
is-float (Some (leaf.Quality q)) h = absurd cc
is-float (Some (leaf.Int8 n)) h = absurd cc
is-float (Some (leaf.Int32 n)) h = absurd cc
is-float (Some (leaf.Unsigned8 n)) h = absurd cc
is-float (Some (leaf.Unsigned32 n)) h = absurd cc
is-float (Some (leaf.Octets n)) h = absurd cc
is-float (Some (leaf.Reference n)) h = absurd cc
is-float (Some (leaf.Text n)) h = absurd cc
is-float (Some (leaf.Utc n)) h = absurd cc

no-float : (o : Option Leaf) → option_map leaf_type_of o ≢ Some leaf_type.Float
    → is_float o ≡ false
no-float (Some (leaf.Float n)) h = absurd (h refl)
no-float None h = refl
no-float (Some (leaf.Truth b)) h = refl
no-float (Some (leaf.Dbpos p)) h = refl
no-float (Some (leaf.Quality q)) h = refl
no-float (Some (leaf.Int8 n)) h = refl
no-float (Some (leaf.Int32 n)) h = refl
no-float (Some (leaf.Unsigned8 n)) h = refl
no-float (Some (leaf.Unsigned32 n)) h = refl
no-float (Some (leaf.Octets n)) h = refl
no-float (Some (leaf.Reference n)) h = refl
no-float (Some (leaf.Text n)) h = refl
no-float (Some (leaf.Utc n)) h = refl

type-float : (o : Option Leaf) → is_float o ≡ true → option_map leaf_type_of o ≡ Some leaf_type.Float
type-float (Some (leaf.Float n)) h = refl
type-float None h = absurd cc
type-float (Some (leaf.Truth b)) h = absurd cc
type-float (Some (leaf.Dbpos p)) h = absurd cc
type-float (Some (leaf.Quality q)) h = absurd cc
type-float (Some (leaf.Int8 n)) h = absurd cc
type-float (Some (leaf.Int32 n)) h = absurd cc
type-float (Some (leaf.Unsigned8 n)) h = absurd cc
type-float (Some (leaf.Unsigned32 n)) h = absurd cc
type-float (Some (leaf.Octets n)) h = absurd cc
type-float (Some (leaf.Reference n)) h = absurd cc
type-float (Some (leaf.Text n)) h = absurd cc
type-float (Some (leaf.Utc n)) h = absurd cc

-- a layout has the type of the value with a name
typed-cons : (b : Bool) (row : Row) (t : Option LeafType) (o : Option Row)
    → t ≡ option_map leaf_type_of (option_and_then (λ (r : Row). r.leaf) o)
    → cond b (option_map leaf_type_of row.leaf) t
    ≡ option_map leaf_type_of (option_and_then (λ (r : Row). r.leaf) (cond b (Some row) o))
typed-cons true row t o h = refl
typed-cons false row t o h = h

typed-among : (rows : List Row) (name : List ℕ)
    → type_among name (names_of rows) (leaf_types_of rows)
    ≡ option_map leaf_type_of (leaf_named name rows)
typed-among [] name = refl
typed-among (row ∷ rows) name =
    typed-cons (bytes_eq row.name name) row (type_among name (names_of rows) (leaf_types_of rows))
    (find (λ (r : Row). bytes_eq r.name name) rows) (typed-among rows name)

-- without a float of this name
pub float-missing : (rows : List Row) (name : List ℕ) → is_float (leaf_named name rows) ≡ false
    → IsFloatHandle (layout_of rows) name None
float-missing rows name other =
    record {
      named = λ handle e. absurd cc;
      leaf_typed = λ handle e. absurd cc;
      missing = λ none is.
          let typed : is_float (leaf_named name rows) ≡ true =
          is-float (leaf_named name rows) (sym (typed-among rows name) ∙ is) in
          let both : false ≡ true = sym other ∙ typed in cc;
    }

pub float-kept : (rows : List Row) (name : List ℕ) (value : ℤ)
    → type_named (layout_of rows) name ≢ Some leaf_type.Float → rows ≡ with_float name value rows
float-kept rows name value none =
    sym (ap (λ b. cond b (with_leaf_named name (leaf.Float value) rows) rows)
    (no-float (leaf_named name rows) (λ is. none (typed-among rows name ∙ is))))

-- with one
typed-within : (rows : List Row) (handle : ℕ) (t : LeafType) → leaf_type_at rows handle ≡ Some t
    → handle < length rows
typed-within [] handle t h = absurd cc
typed-within (row ∷ rows) zero t h = omega arith
typed-within (row ∷ rows) (suc handle) t h =
    let later = typed-within rows handle t h in omega (arith, later)

pub float-written : (rows : List Row) (name : List ℕ) (handle : ℕ) (value : ℤ) → IsTree rows
    → row_name_in (layout_of rows) handle ≡ name
    → HasLeafType (layout_of rows) handle leaf_type.Float
    → with_leaf_named (row_name_in (layout_of rows) handle) (leaf.Float value) rows
    ≡ with_float name value rows
float-written rows name handle value tree has is =
    let typed : leaf_type_at rows handle ≡ Some leaf_type.Float =
    sym (leaf_type_at-in rows handle) ∙ is in
    let named : name_at rows handle ≡ name = sym (name_at-in rows handle) ∙ has in
    let own : leaf_at rows handle ≡ leaf_named name rows =
    leaf-named rows handle tree (typed-within rows handle _ typed)
    ∙ ap (λ n. leaf_named n rows) named in
    ap (λ n. with_leaf_named n (leaf.Float value) rows) has
    ∙ sym (ap (λ b. cond b (with_leaf_named name (leaf.Float value) rows) rows)
    (is-float (leaf_named name rows) (ap (option_map leaf_type_of) (sym own) ∙ typed)))

-- the row of a handle that was found
pub float-found : (rows : List Row) (name : List ℕ) (handle : ℕ) → name_at rows handle ≡ name
    → is_float (leaf_at rows handle) ≡ true → IsFloatHandle (layout_of rows) name (Some handle)
float-found rows name handle named typed =
    let layout = layout_of rows in
    record {
      named = λ h is. let same : handle ≡ h = cc in
          subst (λ n. row_name_in layout n ≡ name) same (name_at-in rows handle ∙ named);
      leaf_typed = λ h is. let same : handle ≡ h = cc in
          subst (λ n. HasLeafType layout n leaf_type.Float) same
          (leaf_type_at-in rows handle ∙ type-float (leaf_at rows handle) typed);
      missing = λ is. absurd cc;
    }

-- the floats of a meter
pub are-floats : (layout : Layout) (node : List ℕ) (rows : MeterRows)
    → IsFloatHandle layout (float_names_of node).tot_w rows.tot_w.float
    → IsFloatHandle layout (float_names_of node).tot_var rows.tot_var.float
    → IsFloatHandle layout (float_names_of node).hz rows.hz.float
    → IsFloatHandle layout (float_names_of node).phase_a rows.phase_a.float
    → IsFloatHandle layout (float_names_of node).phase_b rows.phase_b.float
    → IsFloatHandle layout (float_names_of node).phase_c rows.phase_c.float
    → AreFloatHandles layout (float_names_of node) rows
are-floats layout node rows w v h a b c TotW = w
are-floats layout node rows w v h a b c TotVAr = v
are-floats layout node rows w v h a b c Hz = h
are-floats layout node rows w v h a b c PhaseA = a
are-floats layout node rows w v h a b c PhaseB = b
are-floats layout node rows w v h a b c PhaseC = c
