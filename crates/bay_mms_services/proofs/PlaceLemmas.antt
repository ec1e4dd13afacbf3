-- A row is a control's where its name is the control's.
use Rattle.std.proofs.Common.{◌≡◌, ℕ, Bool, true, false, nat_eq, List, [], Option, Some, None, refl, ap, sym, ◌∙◌, arith}
use Rattle.std.proofs.Math.ListN.{get_or-map}
use Rattle.std.specs.Str.{bytes_eq}
use Rattle.std.proofs.lemmas.Bool.Decides.{nat_tests}
use Rattle.std.proofs.lemmas.Slice.Eq.{bytes_eq-Decides}
use Rattle.bay_tree.specs.Rows.{name_at, names_of, row_index}
use Rattle.bay_tree.specs.declared.row.Row.{Row}
use Rattle.bay_tree.proofs.SearchLemmas.{place_of-found}
use Rattle.bay_nodes.specs.Names.{control_names}
use Rattle.bay_mms.specs.Pages.{NameTextsData, encoded_names}
use Rattle.bay_process.proofs.NodeLemmas.{control-rows-stay}
use Rattle.bay_process.specs.Controls.{AreAllControlRows, AreControlRows}
use Rattle.bay_process.specs.declared.controls.ControlRows.{ControlRows}
use Rattle.bay_process.specs.Layout.{Layout, layout_of, row_name_in}
use Rattle.bay_mms_services.specs.RowParts.{IsFirstNamed, is_row, part_of_row}
use Rattle.bay_mms_services.specs.Targets.{control_name, part_named}
use Rattle.bay_mms_services.specs.declared.target.ControlPart.TheVariants.{Select, SelectWith, Operate, Cancel}

-- a row that is the first of its name
abbrev pub IsFirst : List Row → ℕ → Type 0
IsFirst rows handle = row_index rows (name_at rows handle) ≡ Some handle

same-place : (a b : ℕ) → nat_eq a b ≡ true → a ≡ b
same-place a b e = grind (arith, nat_tests)

is-itself : (a : ℕ) → nat_eq a a ≡ true
is-itself a = grind (arith, nat_tests)

other : (rows : List Row) (p : ℕ) (name : List ℕ) (handle : ℕ) (b : Bool) → nat_eq p handle ≡ b
    → bytes_eq name (name_at rows handle) ≡ false → Some p ≡ row_index rows name → b ≡ false
other rows p name handle false e is at = refl
other rows p name handle true e is at =
    let same : name ≡ name_at rows handle =
    sym (place_of-found rows name p (sym at)).1 ∙ ap (name_at rows) (same-place p handle e) in
    let so : bytes_eq name (name_at rows handle) ≡ true =
    (bytes_eq-Decides name (name_at rows handle)).1 same in
    absurd cc

test-if : (rows : List Row) (row : Option ℕ) (name : List ℕ) (handle : ℕ) (b : Bool)
    → bytes_eq name (name_at rows handle) ≡ b → row ≡ row_index rows name → IsFirst rows handle
    → is_row handle row ≡ b
test-if rows row name handle true is at first =
    let same : name ≡ name_at rows handle = (bytes_eq-Decides name (name_at rows handle)).0 is in
    let here : row ≡ Some handle = at ∙ ap (row_index rows) same ∙ first in
    ap (is_row handle) here ∙ is-itself handle
test-if rows None name handle false is at first = refl
test-if rows (Some p) name handle false is at first =
    other rows p name handle (nat_eq p handle) refl is at

place-test : (rows : List Row) (row : Option ℕ) (name : List ℕ) (handle : ℕ)
    → row ≡ row_index rows name → IsFirst rows handle
    → is_row handle row ≡ bytes_eq name (name_at rows handle)
place-test rows row name handle at first =
    test-if rows row name handle (bytes_eq name (name_at rows handle)) refl at first

pub part-named : (rows : List Row) (k : ℕ) (control : ControlRows) (handle : ℕ)
    → AreControlRows rows (control_names k) control → IsFirst rows handle
    → part_of_row control handle ≡ part_named k (name_at rows handle)
part-named rows k control handle names first =
    let t = place-test rows control.select (control_name k Select) handle names.select first in
    let u = place-test rows control.select_with_value (control_name k SelectWith) handle
    names.select_with_value first in
    let v = place-test rows control.operate (control_name k Operate) handle names.operate first in
    let w = place-test rows control.cancel (control_name k Cancel) handle names.cancel first in
    rw (t, u, v, w) refl

-- ---- rows and their layout

pub found-named : (rows : List Row) (name : List ℕ) (row : ℕ) → row_index rows name ≡ Some row
    → IsFirstNamed rows row
found-named rows name row at =
    let found = place_of-found rows name row at in
    record { there = found.0; first = ap (row_index rows) found.1 ∙ at }

pub name-here : (rows : List Row) (row : ℕ) → row_name_in (layout_of rows) row ≡ name_at rows row
name-here rows row = get_or-map (λ (r : Row). r.name) rows row (record { name = []; leaf = None })

-- ---- a tree of the same layout

-- the row of a name has it
pub selected-named : (rows : List Row) (row : ℕ) (name : List ℕ) → row_index rows name ≡ Some row
    → row_name_in (layout_of rows) row ≡ name
selected-named rows row name at = name-here rows row ∙ (place_of-found rows name row at).1

-- the texts of the names of a tree are those of a tree of the same layout
pub names-kept : (rows old : List Row) (names : NameTextsData) → layout_of old ≡ layout_of rows
    → names ≡ encoded_names (names_of old) → names ≡ encoded_names (names_of rows)
names-kept rows old names same is = is ∙ ap (λ (l : Layout). encoded_names l.names) same

-- a control's rows stay where they are in a tree of the same layout
pub rows-kept : (rows old : List Row) (controls : List ControlRows) → layout_of old ≡ layout_of rows
    → AreAllControlRows old controls → AreAllControlRows rows controls
rows-kept rows old controls same are =
    λ k handles here. control-rows-stay old rows (control_names k) handles same (are k handles here)
