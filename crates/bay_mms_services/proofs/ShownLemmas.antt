-- A tree that shows no selection, and how clients see it.
use Rattle.std.proofs.Common.{◌≡◌, ◌≢◌, ℕ, zero, suc, ◌+◌, ◌<◌, ◌≤◌, inl, inr, ◌^◌, ◌==◌, add-one, Bool, true, false, cond, nat_eq, List, [], ◌∷◌, codes, length, option_map, slice_get, Option, Some, None, refl, ap, sym, subst, ◌∙◌, arith}
use Rattle.std.specs.Fmt.{decimal}
use Rattle.std.specs.Str.{bytes_eq}
use Rattle.std.proofs.lemmas.Bool.{cases_lt}
use Rattle.std.proofs.lemmas.Bool.Decides.{nat_tests}
use Rattle.std.proofs.lemmas.Fmt.{decimal_injective}
use Rattle.std.proofs.lemmas.List.{append_cancel_left, append_cancel_right}
use Rattle.std.proofs.lemmas.Option.{slice_get-get_or, slice_get_within}
use Rattle.std.proofs.lemmas.Slice.Eq.{bytes_eq-Decides}
use Rattle.bay_tree.proofs.NamedLemmas.{same-text, with_leaf-named}
use Rattle.bay_tree.proofs.SearchLemmas.{place_of-found}
use Rattle.bay_nodes.specs.Names.{control_names}
use Rattle.bay_tree.specs.Rows.{IsTree, leaf_named, with_leaf_named}
use Rattle.bay_process.proofs.ToldLemmas.{leaf-other, leaf-own}
use Rattle.bay_tree.specs.declared.leaf.LeafType.{LeafType}
use Rattle.bay_tree.specs.declared.leaf.Leaf.{Leaf}
use Rattle.bay_tree.specs.declared.leaf.Leaf.TheVariants as leaf
use Rattle.bay_tree.specs.declared.row.Row.{Row}
use Rattle.bay_process.specs.Layout.{HasLeafType, Layout, layout_of, row_name_in}
use Rattle.bay_mms.specs.Marks.{rows_marked}
use Rattle.bay_process.specs.Controls.{AreAllControlRows}
use Rattle.bay_process.specs.declared.controls.ControlRows.{ControlRows}
use Rattle.bay_mms_services.specs.Bay.{ShowNoSelection, is_selected, rows_with_selection}
use Rattle.bay_mms_services.specs.RowParts.{marked_row}

-- one row with a new value, if it has the name
abbrev written : Bool → Leaf → Row → Row
written b value r = cond b (record { name = r.name; leaf = Some value }) r

-- ---- two writes

-- in either order, of different names or the same value
swap-if : (p q : Bool) (r : Row) (a b : List ℕ) (x y : Leaf) → bytes_eq r.name a ≡ p
    → bytes_eq r.name b ≡ q → (bytes_eq b a ≡ true → x ≡ y)
    → written (bytes_eq (written q y r).name a) x (written q y r)
    ≡ written (bytes_eq (written p x r).name b) y (written p x r)
swap-if true true r a b x y here there apart =
    let same : b ≡ a =
    sym ((bytes_eq-Decides r.name b).0 there) ∙ (bytes_eq-Decides r.name a).0 here in
    let yes : bytes_eq b a ≡ true = ap (λ n. bytes_eq n a) same ∙ same-text a in
    rw (here, there, apart yes) refl
swap-if true false r a b x y here there apart = rw (here, there) refl
swap-if false true r a b x y here there apart = rw (here, there) refl
swap-if false false r a b x y here there apart = rw (here, there) refl

swapped : (rows : List Row) (a b : List ℕ) (x y : Leaf) → (bytes_eq b a ≡ true → x ≡ y)
    → with_leaf_named a x (with_leaf_named b y rows)
    ≡ with_leaf_named b y (with_leaf_named a x rows)
swapped [] a b x y apart = refl
swapped (r ∷ rows) a b x y apart =
    let first = swap-if (bytes_eq r.name a) (bytes_eq r.name b) r a b x y refl refl apart in
    ap (λ s. s ∷ with_leaf_named a x (with_leaf_named b y rows)) first
    ∙ ap (λ rs. written (bytes_eq (written (bytes_eq r.name a) x r).name b) y
    (written (bytes_eq r.name a) x r) ∷ rs) (swapped rows a b x y apart)

-- a tree that shows no selection still shows none
pub shown-kept : (count : ℕ) (rows : List Row) (name : List ℕ) (value : Leaf)
    → ((k : ℕ) → bytes_eq name (control_names k).selected ≡ false)
    → ShowNoSelection count rows → ShowNoSelection count (with_leaf_named name value rows)
shown-kept count rows name value apart none k low =
    swapped rows ((control_names k).selected) name (leaf.Truth false) value
    (λ is. absurd (let no : true ≡ false = sym is ∙ apart k in cc))
    ∙ ap (with_leaf_named name value) (none k low)

-- the same value once more
twice-if : (b : Bool) (r : Row) (name : List ℕ) (value : Leaf) → bytes_eq r.name name ≡ b
    → written (bytes_eq (written b value r).name name) value (written b value r)
    ≡ written b value r
twice-if true r name value is = rw is refl
twice-if false r name value is = rw is refl

twice : (rows : List Row) (name : List ℕ) (value : Leaf)
    → with_leaf_named name value (with_leaf_named name value rows) ≡ with_leaf_named name value rows
twice [] name value = refl
twice (r ∷ rows) name value =
    ap (λ s. s ∷ with_leaf_named name value (with_leaf_named name value rows))
    (twice-if (bytes_eq r.name name) r name value refl)
    ∙ ap (λ rs. written (bytes_eq r.name name) value r ∷ rs) (twice rows name value)

-- a tree in which none was written shows none
shows-none : (count : ℕ) (rows : List Row)
    → ShowNoSelection count (rows_with_selection None count rows)
shows-none zero rows k low = absurd (omega (arith, low))
shows-none (suc n) rows k low =
    let off = leaf.Truth false in
    let before = rows_with_selection None n rows in
    elim (cases_lt k n) [
      | inl less ↦
          swapped before ((control_names k).selected) ((control_names n).selected) off off
          (λ _. refl)
          ∙ ap (with_leaf_named ((control_names n).selected) off) (shows-none n rows k less)
      | inr more ↦
          let same : k ≡ n = omega (arith, low, more) in
          rw same (twice before ((control_names n).selected) off)
    ]

pub shows-first : (count many : ℕ) (old new : List Row) → many ≡ count
    → new ≡ rows_with_selection None count old → ShowNoSelection many new
shows-first count many old new same is = rw (same, is) (shows-none count old)

-- ---- what clients see

-- switches have controls of different names
names-differ : (j k : ℕ) → j + 1 < 2 ^ 64 → k + 1 < 2 ^ 64 → j ≢ k
    → bytes_eq (control_names j).selected (control_names k).selected ≡ true → ⊥
names-differ j k a b other is =
    let same : (control_names j).selected ≡ (control_names k).selected =
    (bytes_eq-Decides ((control_names j).selected) ((control_names k).selected)).0 is in
    let numbers : decimal (j + 1) ≡ decimal (k + 1) =
    append_cancel_left (codes "CSWI") (decimal (j + 1)) (decimal (k + 1))
    (append_cancel_right _ _ (codes "$ST$Pos$stSeld") same) in
    let equal : j + 1 ≡ k + 1 = decimal_injective (j + 1) (k + 1) a b numbers in
    other (omega (arith, equal))

itself : (k : ℕ) → nat_eq k k ≡ true
itself k = grind (arith, nat_tests)

other : (k n : ℕ) → k ≢ n → nat_eq k n ≡ false
other k n apart = grind (arith, nat_tests, apart)

-- where none of so many switches is selected, the tree itself
unmarked : (o : Option ℕ) (count : ℕ) (rows : List Row)
    → ((k : ℕ) → k < count → is_selected k o ≡ false) → ShowNoSelection count rows
    → rows_with_selection o count rows ≡ rows
unmarked o zero rows off none = refl
unmarked o (suc n) rows off none =
    ap (with_leaf_named ((control_names n).selected) (leaf.Truth (is_selected n o)))
    (unmarked o n rows (λ k low. off k (omega (arith, low))) (λ k low. none k (omega (arith, low))))
    ∙ ap (λ (b : Bool). with_leaf_named ((control_names n).selected) (leaf.Truth b) rows)
    (off n (omega arith))
    ∙ none n (omega arith)

pub seen-none : (count : ℕ) (rows : List Row) → ShowNoSelection count rows
    → rows_with_selection None count rows ≡ rows
seen-none count rows none = unmarked None count rows (λ k low. refl) none

-- else with TRUE for the one that is selected
pub seen-one : (k count : ℕ) (rows : List Row) → count < 2 ^ 64 → k < count
    → ShowNoSelection count rows
    → rows_with_selection (Some k) count rows
    ≡ with_leaf_named ((control_names k).selected) (leaf.Truth true) rows
seen-one k zero rows few low none = absurd (omega (arith, low))
seen-one k (suc n) rows few low none =
    let name = (control_names n).selected in
    let on = with_leaf_named ((control_names k).selected) (leaf.Truth true) rows in
    let rest : ShowNoSelection n rows = λ j less. none j (omega (arith, less)) in
    elim (cases_lt k n) [
      | inl less ↦
          ap (with_leaf_named name (leaf.Truth (k == n)))
          (seen-one k n rows (omega (arith, few)) less rest)
          ∙ ap (λ (b : Bool). with_leaf_named name (leaf.Truth b) on)
          (other k n (λ e. omega (arith, e, less)))
          ∙ swapped rows name ((control_names k).selected) (leaf.Truth false) (leaf.Truth true)
          (λ is. absurd (names-differ k n (omega (arith, few, less)) (omega (arith, few))
          (λ e. omega (arith, e, less)) is))
          ∙ ap (with_leaf_named ((control_names k).selected) (leaf.Truth true))
          (none n (omega arith))
      | inr more ↦
          let same : k ≡ n = omega (arith, low, more) in
          ap (with_leaf_named name (leaf.Truth (k == n)))
          (unmarked (Some k) n rows (λ j less. other k j (λ e. omega (arith, e, less, more))) rest)
          ∙ rw same (ap (λ (b : Bool). with_leaf_named name (leaf.Truth b) rows) (itself n))
    ]

-- ---- what they read

apart : (j k : ℕ) → j + 1 < 2 ^ 64 → k + 1 < 2 ^ 64 → j ≢ k
    → (control_names j).selected ≢ (control_names k).selected
apart j k a b differ same = names-differ j k a b differ
    ((bytes_eq-Decides ((control_names j).selected) ((control_names k).selected)).1 same)

-- stSeld of a switch before it is written
unwritten : (o : Option ℕ) (k n : ℕ) (rows : List Row) → n ≤ k → k + 1 < 2 ^ 64
    → leaf_named ((control_names k).selected) (rows_with_selection o n rows)
    ≡ leaf_named ((control_names k).selected) rows
unwritten o k zero rows low few = refl
unwritten o k (suc n) rows low few =
    leaf-other (rows_with_selection o n rows) ((control_names k).selected)
    ((control_names n).selected) _
    (apart k n few (omega (arith, low, few)) (λ e. omega (arith, e, low)))
    ∙ unwritten o k n rows (omega (arith, low)) few

pub shown-own : (o : Option ℕ) (k count : ℕ) (rows : List Row) → k < count → count < 2 ^ 64
    → leaf_named ((control_names k).selected) rows ≢ None
    → leaf_named ((control_names k).selected) (rows_with_selection o count rows)
    ≡ Some (leaf.Truth (is_selected k o))
shown-own o k zero rows low few there = absurd (omega (arith, low))
shown-own o k (suc n) rows low few there =
    elim (cases_lt k n) [
      | inl less ↦
          leaf-other (rows_with_selection o n rows) ((control_names k).selected)
          ((control_names n).selected) _
          (apart k n (omega (arith, few, less)) (omega (arith, few)) (λ e. omega (arith, e, less)))
          ∙ shown-own o k n rows less (omega (arith, few)) there
      | inr more ↦
          let same : n ≡ k = omega (arith, low, more) in
          rw same (leaf-own (rows_with_selection o k rows) ((control_names k).selected)
          (leaf.Truth (is_selected k o))
          (λ none. there (sym (unwritten o k k rows (omega arith) (omega (arith, few, same)))
          ∙ none)))
    ]

pub shown-others : (o : Option ℕ) (count : ℕ) (rows : List Row) (name : List ℕ)
    → ((k : ℕ) → name ≢ (control_names k).selected)
    → leaf_named name (rows_with_selection o count rows) ≡ leaf_named name rows
shown-others o zero rows name other = refl
shown-others o (suc n) rows name other =
    leaf-other (rows_with_selection o n rows) name ((control_names n).selected) _ (other n)
    ∙ shown-others o n rows name other

-- ---- what the code shows them

pub seen-past : (k count : ℕ) (rows : List Row) → count ≤ k → ShowNoSelection count rows
    → rows_with_selection (Some k) count rows ≡ rows
seen-past k count rows past none =
    unmarked (Some k) count rows (λ j low. other k j (λ e. omega (arith, e, low, past))) none

no_rows : ControlRows
no_rows = record {
  selected = 0;
  select = None;
  select_with_value = None;
  operate = None;
  cancel = None;
}

past-if : (controls : List ControlRows) (k : ℕ) → slice_get controls k ≡ None
    → length controls ≤ k
past-if controls k none =
    elim (cases_lt k (length controls)) [
      | inl less ↦
          let some = slice_get-get_or controls k no_rows less in
          absurd (let no : Some _ ≡ (let o : Option ControlRows = None in o) = sym some ∙ none in
          cc)
      | inr past ↦ past
    ]

-- a tree that is marked at the row of the selected switch is what clients see
marked-if : (controls : List ControlRows) (rows : List Row) (k : ℕ) (o : Option ControlRows)
    → slice_get controls k ≡ o → IsTree rows → AreAllControlRows rows controls
    → length controls < 2 ^ 64 → ShowNoSelection (length controls) rows
    → rows_marked (option_map (λ r. r.selected) o) rows
    ≡ rows_with_selection (Some k) (length controls) rows
marked-if controls rows k None here tree are few none =
    sym (seen-past k (length controls) rows (past-if controls k here) none)
marked-if controls rows k (Some own) here tree are few none =
    let found =
    place_of-found rows ((control_names k).selected) own.selected (are k own here).selected in
    with_leaf-named rows own.selected (leaf.Truth true) tree found.0
    ∙ ap (λ (n : List ℕ). with_leaf_named n (leaf.Truth true) rows) found.1
    ∙ sym (seen-one k (length controls) rows few (slice_get_within controls k own here) none)

pub marked-seen : (controls : List ControlRows) (rows : List Row) (o : Option ℕ) → IsTree rows
    → AreAllControlRows rows controls → length controls < 2 ^ 64
    → ShowNoSelection (length controls) rows
    → rows_marked (marked_row controls o) rows ≡ rows_with_selection o (length controls) rows
marked-seen controls rows None tree are few none = sym (seen-none (length controls) rows none)
marked-seen controls rows (Some k) tree are few none =
    marked-if controls rows k (slice_get controls k) refl tree are few none

-- ---- writing them

-- one switch more
pub shown-more : (k : ℕ) (old before after : List Row) (row : ℕ)
    → layout_of before ≡ layout_of old
    → row_name_in (layout_of old) row ≡ (control_names k).selected
    → before ≡ rows_with_selection None k old
    → after ≡ with_leaf_named (row_name_in (layout_of before) row) (leaf.Truth false) before
    → after ≡ rows_with_selection None (k + 1) old
shown-more k old before after row same at shows put =
    let named : row_name_in (layout_of before) row ≡ (control_names k).selected =
    ap (λ (l : Layout). row_name_in l row) same ∙ at in
    rw add-one (put ∙ ap (λ (n : List ℕ). with_leaf_named n (leaf.Truth false) before) named
    ∙ ap (λ (rows : List Row). with_leaf_named ((control_names k).selected)
    (leaf.Truth false) rows) shows)

pub leaf-type-kept : (rows old : List Row) (row : ℕ) (leaf_type : LeafType)
    → layout_of rows ≡ layout_of old → HasLeafType (layout_of old) row leaf_type
    → HasLeafType (layout_of rows) row leaf_type
leaf-type-kept rows old row leaf_type same has =
    subst (λ (l : Layout). HasLeafType l row leaf_type) (sym same) has
