-- The faults of a program's instructions (IEC 61131-3:2003, 3.2), with the least types of the
-- current result on the paths before them; and the typed form of a program without a fault.
use Rattle.std.specs.Prelude.{ℕ, ◌+◌, ◌-◌, ◌==◌, Bool, true, false, not, ◌&&◌, nat_lt, nat_le, List, [], ◌∷◌, ◌++◌, slice_get, slice_set, Option, None, Some, option_map, if◌then◌else◌}
use Rattle.std.specs.List.{cons_option}
use Rattle.bay_base.specs.declared.types.ElementaryType.{ElementaryType}
use Rattle.bay_base.specs.Types.{same_type}
use Rattle.il_text.specs.Listing as text
use Rattle.il_text.specs.declared.program.Operator.{Operator}
use Rattle.il_check.specs.Faults.{fault_if}
use Rattle.il_check.specs.SourceOperands.{ProgramNames, resolution_of}
use Rattle.il_check.specs.Program as plain
use Rattle.il_check.specs.Rules.{is_wrong, is_unset, type_after, combines_wrong, combines_unset, uses_undeclared_name, jumps_back, jumps_to_undefined_label, writes_read_only, may_divide_by_zero, divides, type_of_result, falls_through, target_of}
use Rattle.il_check.specs.Typing.{action_entry, action_item, typed_block}
use Rattle.il_check.specs.declared.reach.Reach.{Reach}
use Rattle.il_check.specs.declared.source_operand.Resolved.{Resolved}
use Rattle.il_check.specs.declared.fault.CheckFault.{CheckFault}
use Rattle.il_check.specs.declared.fault.CheckFault.TheVariants.{UnknownName, DuplicateName, TypeMismatch, UnsetResult, BackwardJump, UnknownLabel, Unreachable, ReadOnly, ZeroDivisor, TooMany}
use Rattle.il_check.specs.Limits.{most_labels, most_nested}

-- ---- own: faults and typed forms of instructions

-- the faults of names, of types and of a backward jump; types are not checked in an unreachable
-- instruction
abbrev pub typing_faults : Bool → ℕ → ℕ → Resolved → Option ElementaryType → List CheckFault
typing_faults is_reached passed line r result =
    fault_if (uses_undeclared_name r) (UnknownName line)
    ++ (fault_if (is_reached && is_wrong r result) (TypeMismatch line)
    ++ (fault_if (is_reached && is_unset r result) (UnsetResult line)
    ++ fault_if (jumps_back passed r) (BackwardJump line)))

-- the faults of an undefined label, an unreachable instruction, a read-only target and a divisor
abbrev pub other_faults : Bool → ℕ → Resolved → List CheckFault
other_faults is_reached line r =
    fault_if (jumps_to_undefined_label r) (UnknownLabel line)
    ++ (fault_if (not is_reached) (Unreachable line)
    ++ (fault_if (writes_read_only r) (ReadOnly line)
    ++ fault_if (may_divide_by_zero r) (ZeroDivisor line)))

-- the faults of an instruction after `passed` labels
abbrev pub instruction_faults : Bool → ℕ → ℕ → Resolved → Option ElementaryType → List CheckFault
instruction_faults is_reached passed line r result =
    typing_faults is_reached passed line r result ++ other_faults is_reached line r

-- the faults at an operator with a parenthesis; it must not divide, since a divisor is a literal
abbrev pub opening_faults : Bool → ℕ → Operator → List CheckFault
opening_faults is_reached line operator =
    fault_if (not is_reached) (Unreachable line) ++ fault_if (divides operator) (ZeroDivisor line)

-- the faults at its `)`, where the operator combines the current result with that of the
-- parenthesis
abbrev pub closing_faults : Bool → ℕ → Operator → Bool → Option ElementaryType
    → Option ElementaryType → List CheckFault
closing_faults is_reached line operator negated inner result =
    fault_if (is_reached && combines_wrong operator negated inner result) (TypeMismatch line)
    ++ (fault_if (is_reached && combines_unset inner result) (UnsetResult line)
    ++ fault_if (not is_reached) (Unreachable line))

-- the type of the result after an entry
abbrev pub type_after_entry : ProgramNames → text.Entry → Option ElementaryType
    → Option ElementaryType
type_after_entry names (text.label line name) result = result
type_after_entry names (text.action line a) result = type_after (resolution_of names a) result
type_after_entry names (text.block line operator negated items end) result =
    option_map (type_of_result operator) result

-- the type of the result after entries
abbrev pub type_after_entries : ProgramNames → text.Entries → Option ElementaryType
    → Option ElementaryType
type_after_entries names text.no_entries result = result
type_after_entries names (text.entry e es) result =
    type_after_entries names es (type_after_entry names e result)

abbrev mutual
  -- The faults of an entry, in which parentheses may nest at most `room` deep. A parenthesis begins
  -- with an unset result; if it is too deep, its entries and its end are not checked.
  pub entry_faults : ProgramNames → ℕ → Bool → ℕ → text.Entry → Option ElementaryType
      → List CheckFault
  entry_faults names room is_reached passed (text.label line name) result = []
  entry_faults names room is_reached passed (text.action line a) result =
      instruction_faults is_reached passed line (resolution_of names a) result
  entry_faults names room is_reached passed (text.block line operator negated items end) result =
      opening_faults is_reached line operator
      ++ (if room == 0 then TooMany line ∷ []
      else (entries_faults names (room - 1) is_reached passed items None
      ++ closing_faults is_reached end operator negated (type_after_entries names items None)
      result))

  pub entries_faults : ProgramNames → ℕ → Bool → ℕ → text.Entries → Option ElementaryType
      → List CheckFault
  entries_faults names room is_reached passed text.no_entries result = []
  entries_faults names room is_reached passed (text.entry e es) result =
      entry_faults names room is_reached passed e result
      ++ entries_faults names room is_reached passed es (type_after_entry names e result)

abbrev mutual
  -- the typed form of an entry; the grammar has no label, jump, return or call within a parenthesis
  pub typed_entry_of : ProgramNames → ℕ → text.Entry → Option ElementaryType → Option plain.Entry
  typed_entry_of names room (text.label line name) result = None
  typed_entry_of names room (text.action line a) result =
      action_entry (resolution_of names a) result
  typed_entry_of names room (text.block line operator negated items end) result =
      typed_block operator negated
      (if room == 0 then plain.no_entries else typed_entries_of names (room - 1) items None) result

  pub typed_entries_of : ProgramNames → ℕ → text.Entries → Option ElementaryType → plain.Entries
  typed_entries_of names room text.no_entries result = plain.no_entries
  typed_entries_of names room (text.entry e es) result =
      plain.entry_before (typed_entry_of names room e result)
      (typed_entries_of names room es (type_after_entry names e result))

-- whether both results are set and have the same type
abbrev pub same_result : Option ElementaryType → Option ElementaryType → Bool
same_result (Some a) (Some b) = same_type a b
same_result a b = false

-- the type of a result where two paths meet: set if it has one type on both
abbrev pub join_types : Option ElementaryType → Option ElementaryType → Option ElementaryType
join_types a b = if same_result a b then a else None

-- the join of what two paths bring to the same item
abbrev pub join : Reach → Reach → Reach
join a b =
    if not a.is_reached then b
    else (if not b.is_reached then a
    else record { is_reached = true; kind = join_types a.kind b.kind })

-- what is known before an item that no path leads to
abbrev pub no_reach : Reach
no_reach = record { is_reached = false; kind = None }

-- the state before an item: the current result; what the jumps so far bring to each label; and the
-- number of labels before the item
pub record Progress : Type 0 where
  pub now : Reach
  pub arrivals : List Reach
  pub passed : ℕ

-- what the jumps to a label bring; no path if there is no such label
abbrev pub arrival : Option Reach → Reach
arrival None = no_reach
arrival (Some r) = r

-- what the jumps to labels bring, with the current result joined in at one label, if there is one
abbrev pub arrival_at : Option ℕ → Reach → List Reach → List Reach
arrival_at None now arrivals = arrivals
arrival_at (Some label) now arrivals =
    slice_set arrivals label (join (arrival (slice_get arrivals label)) now)

-- the state after an instruction
abbrev pub progress_after_action : Resolved → Progress → Progress
progress_after_action r s = record {
  now = record { is_reached = s.now.is_reached && falls_through r; kind = type_after r s.now.kind };
  arrivals = arrival_at (target_of r) s.now s.arrivals;
  passed = s.passed;
}

-- the state after a label: joins what falls through to it and what the jumps to it bring
abbrev pub progress_after_label : Progress → Progress
progress_after_label s = record {
  now = join s.now (arrival (slice_get s.arrivals s.passed));
  arrivals = s.arrivals;
  passed = s.passed + 1;
}

-- the state after a parenthesis
abbrev pub progress_after_block : Operator → Progress → Progress
progress_after_block operator s = record {
  now = record {
    is_reached = s.now.is_reached;
    kind = option_map (type_of_result operator) s.now.kind;
  };
  arrivals = s.arrivals;
  passed = s.passed;
}

-- the state after an item
abbrev pub progress_after_entry : ProgramNames → text.Entry → Progress → Progress
progress_after_entry names (text.label line name) s = progress_after_label s
progress_after_entry names (text.action line a) s = progress_after_action (resolution_of names a) s
progress_after_entry names (text.block line operator negated items end) s =
    progress_after_block operator s

-- the state before the first item: the result is unset
abbrev pub start_progress : List Reach → Progress
start_progress arrivals =
    record { now = record { is_reached = true; kind = None }; arrivals = arrivals; passed = 0 }

-- whether no label of a name comes before this one, which has `passed` labels before it
abbrev pub is_first_label : ℕ → Option ℕ → Bool
is_first_label passed None = true
is_first_label passed (Some number) = not (nat_lt number passed)

-- the faults of a label after `passed` others
abbrev pub label_faults : ℕ → Option ℕ → ℕ → List CheckFault
label_faults line number passed =
    fault_if (not (is_first_label passed number)) (DuplicateName line)
    ++ fault_if (nat_le most_labels passed) (TooMany line)

-- the faults of an item in the state before it
abbrev pub item_faults : ProgramNames → text.Entry → Progress → List CheckFault
item_faults names (text.label line name) s = label_faults line (names.label name) s.passed
item_faults names (text.action line a) s =
    instruction_faults s.now.is_reached s.passed line (resolution_of names a) s.now.kind
item_faults names (text.block line operator negated items end) s =
    entry_faults names most_nested s.now.is_reached s.passed
    (text.block line operator negated items end)
    s.now.kind

-- the faults of items in the state before them
abbrev pub items_faults : ProgramNames → List text.Entry → Progress → List CheckFault
items_faults names [] s = []
items_faults names (e ∷ es) s =
    item_faults names e s ++ items_faults names es (progress_after_entry names e s)

-- the typed form of an item
abbrev pub typed_item_of : ProgramNames → text.Entry → Progress → Option plain.ProgramItem
typed_item_of names (text.label line name) s = Some (plain.label s.passed)
typed_item_of names (text.action line a) s = action_item (resolution_of names a) s.now.kind
typed_item_of names (text.block line operator negated items end) s =
    option_map plain.plain (typed_entry_of names most_nested
    (text.block line operator negated items end)
    s.now.kind)

-- the typed forms of items
abbrev pub typed_items_of : ProgramNames → List text.Entry → Progress → List plain.ProgramItem
typed_items_of names [] s = []
typed_items_of names (e ∷ es) s =
    cons_option (typed_item_of names e s)
    (typed_items_of names es (progress_after_entry names e s))
