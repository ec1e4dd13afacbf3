-- The part of a control that a name denotes: only the control with the number in the name can have
-- it.
use Rattle.std.proofs.Common.{◌≡◌, ◌≢◌, ℕ, ◌+◌, ◌<◌, ◌≤◌, ◌^◌, ◌∷◌, ◌++◌, zero, suc, Bool, true, false, nat_eq, codes, length, slice_get, get_or, List, Option, Some, None, refl, ap, sym, ◌∙◌, arith}
use Rattle.std.specs.Str.{bytes_eq}
use Rattle.std.proofs.lemmas.Bool.Decides.{nat_tests}
use Rattle.std.proofs.lemmas.Option.{slice_get-get_or}
use Rattle.std.proofs.lemmas.Slice.Eq.{bytes_eq-Decides}
use Rattle.bay_tree.specs.Rows.{name_at}
use Rattle.bay_tree.specs.declared.row.Row.{Row}
use Rattle.bay_nodes.specs.Names.{cswi_name}
use Rattle.bay_process.specs.Controls.{AreAllControlRows}
use Rattle.bay_process.specs.declared.controls.ControlRows.{ControlRows}
use Rattle.bay_mms_services.specs.RowParts.{part_of_row}
use Rattle.bay_mms_services.specs.Targets.{control_name, or_later, part_named, target_from, target_of}
use Rattle.bay_mms_services.specs.declared.target.ControlPart.{ControlPart}
use Rattle.bay_mms_services.specs.declared.target.ControlPart.TheVariants.{Select, SelectWith, Operate, Cancel}
use Rattle.bay_mms_services.proofs.PlaceLemmas.{IsFirst, part-named}

same-index : (a b : ℕ) → nat_eq a b ≡ true → a ≡ b
same-index a b e = grind (arith, nat_tests)

-- a name that begins with the node of a control, and a `$`, has the index of this control
abbrev pub HasIndex : List ℕ → Option ℕ → Type 0
HasIndex name index = (k : ℕ) (path : List ℕ) → k + 1 < 2 ^ 64
    → name ≡ cswi_name k ++ 36 ∷ path → index ≡ Some k

-- the name of a part of a control begins so
begins : (k : ℕ) (name : List ℕ) (part : ControlPart) (index : Option ℕ) → HasIndex name index
    → k + 1 < 2 ^ 64 → control_name k part ≡ name → index ≡ Some k
begins k name Select index has few is = has k (codes "CO$Pos$SBO") few (sym is)
begins k name SelectWith index has few is = has k (codes "CO$Pos$SBOw") few (sym is)
begins k name Operate index has few is = has k (codes "CO$Pos$Oper") few (sym is)
begins k name Cancel index has few is = has k (codes "CO$Pos$Cancel") few (sym is)

-- only the control with the index of a name has a part of this name
no-other : (k : ℕ) (name : List ℕ) (index : Option ℕ) → HasIndex name index → k + 1 < 2 ^ 64
    → index ≢ Some k → part_named k name ≡ None
no-other k name index has few other =
    by-tests (bytes_eq (control_name k Select) name) (bytes_eq (control_name k SelectWith) name)
    (bytes_eq (control_name k Operate) name) (bytes_eq (control_name k Cancel) name)
    refl refl refl refl
  where
    not : (part : ControlPart) → bytes_eq (control_name k part) name ≡ true → ⊥
    not part is = other (begins k name part index has few
        ((bytes_eq-Decides (control_name k part) name).0 is))

    by-tests : (s t u v : Bool) → bytes_eq (control_name k Select) name ≡ s
        → bytes_eq (control_name k SelectWith) name ≡ t
        → bytes_eq (control_name k Operate) name ≡ u
        → bytes_eq (control_name k Cancel) name ≡ v → part_named k name ≡ None
    by-tests true t u v a b c d = absurd (not Select a)
    by-tests false true u v a b c d = absurd (not SelectWith b)
    by-tests false false true v a b c d = absurd (not Operate c)
    by-tests false false false true a b c d = absurd (not Cancel d)
    by-tests false false false false a b c d = rw (a, b, c, d) refl

-- ---- the only target with a name

differs : (a b : ℕ) → nat_eq a b ≡ false → a ≢ b
differs a b e = grind (arith, nat_tests)

-- no control of `count` from index k on has a part of this name
no-target : (k count : ℕ) (name : List ℕ)
    → ((i : ℕ) → k ≤ i → i < k + count → part_named i name ≡ None)
    → target_from k count name ≡ None
no-target k zero name none = refl
no-target k (suc count) name none =
    ap (λ p. or_later k p (target_from (k + 1) count name)) (none k (omega arith) (omega arith))
    ∙ no-target (k + 1) count name
    (λ i from below. none i (omega (arith, from)) (omega (arith, below)))

-- at most the control at index j has a part of this name
one-target : (k count j : ℕ) (name : List ℕ) → k ≤ j → j < k + count
    → ((i : ℕ) → i ≢ j → i < k + count → part_named i name ≡ None)
    → target_from k count name ≡ or_later j (part_named j name) None
one-target k zero j name from below none = absurd (omega (arith, from, below))
one-target k (suc count) j name from below none =
    by-place (one-target (k + 1) count j name) (nat_eq k j) refl
  where
    later : k ≢ j → k + 1 ≤ j
    later apart = by-size (nat_eq k j) refl
      where
        by-size : (b : Bool) → nat_eq k j ≡ b → k + 1 ≤ j
        by-size true e = absurd (apart (same-index k j e))
        by-size false e = grind (arith, nat_tests)

    by-place : (k + 1 ≤ j → j < k + 1 + count
        → ((i : ℕ) → i ≢ j → i < k + 1 + count → part_named i name ≡ None)
        → target_from (k + 1) count name ≡ or_later j (part_named j name) None)
        → (b : Bool) → nat_eq k j ≡ b
        → or_later k (part_named k name) (target_from (k + 1) count name)
        ≡ or_later j (part_named j name) None
    by-place more true e =
        let same : k ≡ j = same-index k j e in
        ap (or_later k (part_named k name))
        (no-target (k + 1) count name
        (λ i after end. none i (λ (is : i ≡ j). omega (arith, after, is, same))
        (omega (arith, end))))
        ∙ ap (λ i. or_later i (part_named i name) None) same
    by-place more false e =
        let apart : k ≢ j = differs k j e in
        ap (λ p. or_later k p (target_from (k + 1) count name)) (none k apart (omega arith))
        ∙ more (later apart) (omega (arith, below))
        (λ i other end. none i other (omega (arith, end)))

-- a name without an index has no target
pub without-index : (count : ℕ) (name : List ℕ) (index : Option ℕ) → HasIndex name index
    → count < 2 ^ 64 → index ≡ None → target_of count name ≡ None
without-index count name index has few none =
    no-target 0 count name
    (λ i from below. no-other i name index has (omega (arith, below, few))
    (λ (is : index ≡ Some i). absurd cc))

-- nor has a name with an index beyond all switches
pub beyond-all : (count : ℕ) (name : List ℕ) (index : Option ℕ) (j : ℕ) → HasIndex name index
    → count < 2 ^ 64 → index ≡ Some j → count ≤ j → target_of count name ≡ None
beyond-all count name index j has few at over =
    no-target 0 count name
    (λ i from below. no-other i name index has (omega (arith, below, few))
    (λ (is : index ≡ Some i). let same : i ≡ j = cc in omega (arith, same, below, over)))

-- the target is that of the control with the index of the name
pub at-index : (count : ℕ) (name : List ℕ) (index : Option ℕ) (j : ℕ) → HasIndex name index
    → count < 2 ^ 64 → index ≡ Some j → j < count
    → target_of count name ≡ or_later j (part_named j name) None
at-index count name index j has few at within =
    one-target 0 count j name (omega arith) (omega (arith, within))
    (λ i other below. no-other i name index has (omega (arith, below, few))
    (λ (is : index ≡ Some i). other cc))

-- the target of a row is the part of the control with the index of its name, by the rows of this
-- control
pub part-here : (rows : List Row) (controls : List ControlRows) (row : ℕ) (index : Option ℕ)
    (k : ℕ) (handles : ControlRows) (part : Option ControlPart)
    → AreAllControlRows rows controls → IsFirst rows row → length controls < 2 ^ 64
    → HasIndex (name_at rows row) index → index ≡ Some k → k < length controls
    → ((d : ControlRows) → handles ≡ get_or controls k d) → part_of_row handles row ≡ part
    → target_of (length controls) (name_at rows row) ≡ or_later k part None
part-here rows controls row index k handles part all first few has at within here is =
    let there : slice_get controls k ≡ Some handles =
    slice_get-get_or controls k handles within ∙ ap Some (sym (here handles)) in
    at-index (length controls) (name_at rows row) index k has few at within
    ∙ ap (λ p. or_later k p None)
    (sym (part-named rows k handles row (all k handles there) first) ∙ is)

-- the target by a count that is the same
pub target-there : (count total : ℕ) (name : List ℕ) → count ≡ total
    → target_of count name ≡ target_of total name
target-there count total name is = ap (λ n. target_of n name) is
