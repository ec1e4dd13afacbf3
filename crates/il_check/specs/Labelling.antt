-- Well-typed programs, by labellings: with some labelling (a type of the current result, or unset,
-- for each label) every instruction is reached and valid.
use Rattle.std.specs.Prelude.{◌≡◌, ℕ, ◌+◌, ◌-◌, ◌<◌, ◌==◌, ◌||◌, ◌⊎◌, Bool, true, false, is_some, List, [], ◌∷◌, Option, None, Some, option_map, if◌then◌else◌}
use Rattle.bay_base.specs.declared.types.ElementaryType.{ElementaryType}
use Rattle.il_text.specs.Listing as text
use Rattle.il_text.specs.declared.program.Operator.{Operator}
use Rattle.il_check.specs.SourceOperands.{ProgramNames, resolution_of}
use Rattle.il_check.specs.Rules.{is_wrong, is_unset, type_after, combines_wrong, combines_unset, uses_undeclared_name, jumps_back, jumps_to_undefined_label, writes_read_only, may_divide_by_zero, divides, type_of_result, falls_through, target_of}
use Rattle.il_check.specs.WellTyped.{Progress, progress_after_entry, is_first_label, type_after_entry, type_after_entries}
use Rattle.il_check.specs.declared.source_operand.Resolved.{Resolved}
use Rattle.il_check.specs.Limits.{most_labels, most_nested}

-- ---- own: types of the current result

-- the type of the current result at each label, by the label's number; none if the result is unset
abbrev pub Labelling : Type 0
Labelling = ℕ → Option ElementaryType

-- A result of type t may become one of type u: the same type, or unset.
abbrev pub Becomes : Option ElementaryType → Option ElementaryType → Type 0
Becomes t u = (u ≡ t) ⊎ (u ≡ None)

-- ---- own: types of the current result, at one instruction

-- The instruction is valid on a result of this type, with `passed` labels above it.
pub record IsRight (passed : ℕ) (r : Resolved) (result : Option ElementaryType) : Type 0 where
  pub named : uses_undeclared_name r ≡ false
  pub allowed : is_wrong r result ≡ false
  pub set : is_unset r result ≡ false
  pub forward : jumps_back passed r ≡ false
  pub labelled : jumps_to_undefined_label r ≡ false
  pub writable : writes_read_only r ≡ false
  pub nonzero : may_divide_by_zero r ≡ false

-- The operator of a parenthesis is valid on a result of the type `result`, if the parenthesis has a
-- result of the type `inner`.
pub record IsCombined (operator : Operator) (negated : Bool) (inner result : Option ElementaryType)
    : Type 0 where
  pub nonzero : divides operator ≡ false
  pub allowed : combines_wrong operator negated inner result ≡ false
  pub set : combines_unset inner result ≡ false

abbrev mutual
  -- An entry is valid, in which parentheses may nest at most `room` deep. A parenthesis begins with
  -- an unset result.
  pub IsRightEntry : ProgramNames → ℕ → ℕ → text.Entry → Option ElementaryType → Type 0
  IsRightEntry names room passed (text.label line name) result = Unit {0}
  IsRightEntry names room passed (text.action line a) result =
      IsRight passed (resolution_of names a) result
  IsRightEntry names room passed (text.block line operator negated items end) result =
      (0 < room) × AreRightEntries names (room - 1) passed items None
      × IsCombined operator negated (type_after_entries names items None) result

  pub AreRightEntries : ProgramNames → ℕ → ℕ → text.Entries → Option ElementaryType → Type 0
  AreRightEntries names room passed text.no_entries result = Unit {0}
  AreRightEntries names room passed (text.entry e es) result =
      IsRightEntry names room passed e result
      × AreRightEntries names room passed es (type_after_entry names e result)

-- ---- own: types of the current result, over the items

-- the type of the result that the paths to an item bring; none if no path leads there
abbrev pub Incoming : Type 0
Incoming = Option (Option ElementaryType)

-- the state before an item: the number of labels above, the labels that were jumped to, and what
-- the path from above brings
pub record FlowState : Type 0 where
  pub passed : ℕ
  pub named : List ℕ
  pub now : Incoming

-- the state with these labels, jumps and this result
abbrev pub flow_state : ℕ → List ℕ → Incoming → FlowState
flow_state passed named now = record { passed = passed; named = named; now = now }

-- the state before the first item: the result is unset
abbrev pub initial_flow : FlowState
initial_flow = flow_state 0 [] (Some None)

-- The path from above brings the label's type, or the label is unset.
abbrev pub FallAgrees : Labelling → ℕ → Incoming → Type 0
FallAgrees labels number None = Unit {0}
FallAgrees labels number (Some t) = Becomes t (labels number)

-- A jump to this label brings the label's type, or the label is unset.
abbrev pub JumpAgrees : Labelling → Option ℕ → Option ElementaryType → Type 0
JumpAgrees labels None t = Unit {0}
JumpAgrees labels (Some number) t = Becomes t (labels number)

-- whether one of the numbers is this one
abbrev pub is_named : List ℕ → ℕ → Bool
is_named [] number = false
is_named (n ∷ ns) number = (n == number) || is_named ns number

-- the labels that were jumped to, and this one, if there is one
abbrev pub with_target : Option ℕ → List ℕ → List ℕ
with_target None named = named
with_target (Some number) named = number ∷ named

-- what a label brings to the next item, if a path leads to the label from above or by a jump
abbrev pub type_after_label : Labelling → FlowState → Incoming
type_after_label labels c =
    if is_some c.now || is_named c.named c.passed then Some (labels c.passed) else None

-- the state after a label
abbrev pub flow_after_label : Labelling → FlowState → FlowState
flow_after_label labels c = flow_state (c.passed + 1) c.named (type_after_label labels c)

-- what an instruction on a result of this type brings to the next item
abbrev pub incoming_after_action : Resolved → Option ElementaryType → Incoming
incoming_after_action r t = if falls_through r then Some (type_after r t) else None

-- the state after an instruction on a result of this type
abbrev pub flow_after_action : Resolved → Option ElementaryType → FlowState → FlowState
flow_after_action r t c =
    flow_state c.passed (with_target (target_of r) c.named) (incoming_after_action r t)

-- the state after a parenthesis whose operator works on a result of this type
abbrev pub flow_after_block : Operator → Option ElementaryType → FlowState → FlowState
flow_after_block operator t c =
    flow_state c.passed c.named (Some (option_map (type_of_result operator) t))

-- The label is the first of its name and not too many, and the path from above brings its type.
abbrev pub IsReachedLabel : ProgramNames → Labelling → List ℕ → FlowState → Type 0
IsReachedLabel names labels name c =
    (is_first_label c.passed (names.label name) ≡ true) × (c.passed < most_labels)
    × FallAgrees labels c.passed c.now

-- The instruction is reached with a result of this type, is valid on it, and brings it to the label
-- that it jumps to.
abbrev pub IsReachedAction : Labelling → Resolved → Option ElementaryType → FlowState → Type 0
IsReachedAction labels r t c =
    (c.now ≡ Some t) × IsRight c.passed r t × JumpAgrees labels (target_of r) t

-- The parenthesis is reached with a result of this type, and is valid on it.
abbrev pub IsReachedBlock : ProgramNames → text.Entry → Option ElementaryType → FlowState → Type 0
IsReachedBlock names b t c = (c.now ≡ Some t) × IsRightEntry names most_nested c.passed b t

-- Each instruction is reached, and valid on the result that reaches it; and each path to a label
-- brings the label's type, or the label is unset.
abbrev pub AreReachedItems : ProgramNames → Labelling → List text.Entry → FlowState → Type 0
AreReachedItems names labels [] c = Unit {0}
AreReachedItems names labels (text.label line name ∷ es) c =
    IsReachedLabel names labels name c × AreReachedItems names labels es (flow_after_label labels c)
AreReachedItems names labels (text.action line a ∷ es) c =
    (t : Option ElementaryType) × IsReachedAction labels (resolution_of names a) t c
    × AreReachedItems names labels es (flow_after_action (resolution_of names a) t c)
AreReachedItems names labels (text.block line operator negated items end ∷ es) c =
    (t : Option ElementaryType)
    × IsReachedBlock names (text.block line operator negated items end) t c
    × AreReachedItems names labels es (flow_after_block operator t c)

-- With some labelling every instruction is reached and valid.
abbrev pub IsWellTyped : ProgramNames → List text.Entry → Type 0
IsWellTyped names items = (labels : Labelling) × AreReachedItems names labels items initial_flow

-- ---- own: types of the current result, after items

-- applies a function to the result of a path, if there is a path
abbrev pub with_result : (Option ElementaryType → Incoming) → Incoming → Incoming
with_result f None = None
with_result f (Some t) = f t

-- the result type after these items, under this labelling; none if no path leads there
abbrev pub type_after_items : ProgramNames → Labelling → List text.Entry → FlowState → Incoming
type_after_items names labels [] c = c.now
type_after_items names labels (text.label line name ∷ es) c =
    type_after_items names labels es (flow_after_label labels c)
type_after_items names labels (text.action line a ∷ es) c =
    type_after_items names labels es
    (flow_state c.passed (with_target (target_of (resolution_of names a)) c.named)
    (with_result (incoming_after_action (resolution_of names a)) c.now))
type_after_items names labels (text.block line operator negated items end ∷ es) c =
    type_after_items names labels es
    (flow_state c.passed c.named
    (with_result (λ t. Some (option_map (type_of_result operator) t)) c.now))

-- the state of the checks after items
abbrev pub progress_after_entries : ProgramNames → List text.Entry → Progress → Progress
progress_after_entries names [] s = s
progress_after_entries names (e ∷ es) s =
    progress_after_entries names es (progress_after_entry names e s)
