-- The decisions on select, operate and cancel (IEC 61850-7-2, 20): their answers, and the state of
-- the controls after them.
use Rattle.std.specs.Prelude.{ℕ, ◌+◌, Bool, false, not, ◌&&◌, ◌||◌, ◌==◌, nat_le, if◌then◌else◌, List, [], ◌∷◌, length, map, position, unwrap_or, Option, None, Some, option_map, Result, Ok, Err, is_ok}
use Rattle.bay_base.specs.Names.{same_name}
use Rattle.bay_base.specs.declared.switch.Operation.{Operation}
use Rattle.bay_nodes.specs.declared.switch.Switch.{Switch}
use Rattle.bay_base.specs.declared.position.Dbpos.{Dbpos}
use Rattle.bay_control.specs.Requests.{requested_choice, closes_checked, control_of, is_controlled, is_enhanced, is_normal, is_reached, is_released, is_sbo, same_choice}
use Rattle.bay_control.specs.declared.cause.AddCause.{AddCause}
use Rattle.bay_control.specs.declared.cause.AddCause.TheVariants.{NotSupported, BlockedBySwitchingHierarchy, SelectFailed, PositionReached, BlockedByMode, BlockedByProcess, BlockedByInterlocking, BlockedBySynchrocheck, CommandAlreadyInExecution, OneOfNControl, ObjectNotSelected}
use Rattle.bay_control.specs.declared.control.SwitchControl.{SwitchControl}
use Rattle.bay_control.specs.declared.controls.Controls.{Controls}
use Rattle.bay_control.specs.declared.request.Ask.{Ask}
use Rattle.bay_control.specs.declared.request.Choice.{Choice}
use Rattle.bay_control.specs.declared.request.View.{View}
use Rattle.bay_control.specs.declared.selection.Execution.{Execution}
use Rattle.bay_control.specs.declared.selection.Selection.{Selection}

-- ---- own: the controls of a bay

-- the state of the controls of a bay: the settings of each switch from the bay file, the selected
-- switch and the operating switch
pub record State : Type 0 where
  pub controls : List SwitchControl
  pub selection : Option Selection
  pub execution : Option Execution

-- the state with these settings and the selection and the execution of the code
abbrev pub state_of : List SwitchControl → Controls → State
state_of controls kept =
    record { controls = controls; selection = kept.selection; execution = kept.execution }

-- the index of the input with a name; that of no input if there is none
abbrev pub input_at : List (List ℕ) → List ℕ → ℕ
input_at inputs name =
    unwrap_or (position (λ input. same_name input name) inputs) (length inputs)

-- the index of the input of a switch's key, if the switch has a key
abbrev pub key_input : List (List ℕ) → Switch → Option ℕ
key_input inputs switch = option_map (input_at inputs) switch.remote

-- the settings of a switch's control, from the bay file, which has these inputs
abbrev pub control_in : List (List ℕ) → Switch → SwitchControl
control_in inputs switch =
    record {
      model = switch.control;
      sbo_timeout_ms = switch.sbo_timeout_ms;
      travel_ms = switch.travel_ms;
      key = key_input inputs switch;
      refuses_synchrocheck = switch.refuses_synchrocheck;
    }

-- the settings of each switch's control
abbrev pub controls_of : List (List ℕ) → List Switch → List SwitchControl
controls_of inputs switches = map (control_in inputs) switches

-- no selection and no execution
abbrev pub initial : List SwitchControl → State
initial controls = record { controls = controls; selection = None; execution = None }

-- ---- IEC 61850-7-2 20: expiry

-- the selection at a time: none if it has expired
abbrev pub selection_at : ℕ → List SwitchControl → Option Selection → Option Selection
selection_at now controls None = None
selection_at now controls (Some s) =
    if nat_le (s.since + (control_of controls s.switch).sbo_timeout_ms) now then None else Some s

-- the execution has expired
abbrev pub is_expired_at : ℕ → List SwitchControl → Execution → Bool
is_expired_at now controls e = nat_le (e.start + (control_of controls e.switch).travel_ms) now

-- the execution at a time: none if it has expired
abbrev pub execution_at : ℕ → List SwitchControl → Option Execution → Option Execution
execution_at now controls None = None
execution_at now controls (Some e) = if is_expired_at now controls e then None else Some e

-- the switch whose execution has expired
abbrev pub expired_switch : ℕ → List SwitchControl → Option Execution → Option ℕ
expired_switch now controls None = None
expired_switch now controls (Some e) = if is_expired_at now controls e then Some e.switch else None

-- the state without what has expired
abbrev pub controls_at : ℕ → State → State
controls_at now s =
    record s {
      selection = selection_at now s.controls s.selection;
      execution = execution_at now s.controls s.execution;
    }

-- ---- own: tests of the selection and the execution

-- the association has selected the switch
abbrev pub is_selected_by : ℕ → ℕ → Option Selection → Bool
is_selected_by a k None = false
is_selected_by a k (Some s) = s.association == a && s.switch == k

-- another association has selected the switch
abbrev pub is_selected_by_other : ℕ → ℕ → Option Selection → Bool
is_selected_by_other a k None = false
is_selected_by_other a k (Some s) = not (s.association == a) && s.switch == k

-- another switch is selected
abbrev pub other_is_selected : ℕ → Option Selection → Bool
other_is_selected k None = false
other_is_selected k (Some s) = not (s.switch == k)

-- a select with value requested the same operation and originator
abbrev pub is_choice : Choice → Option Choice → Bool
is_choice c None = false
is_choice c (Some d) = same_choice c d

-- the selection was granted for this operation and originator
abbrev pub is_chosen : Choice → Option Selection → Bool
is_chosen c None = false
is_chosen c (Some s) = is_choice c s.choice

-- this switch is operating
abbrev pub is_executing : ℕ → Option Execution → Bool
is_executing k None = false
is_executing k (Some e) = e.switch == k

-- another switch is operating
abbrev pub other_is_executing : ℕ → Option Execution → Bool
other_is_executing k None = false
other_is_executing k (Some e) = not (e.switch == k)

-- ---- IEC 61850-7-2 20: the table of checks

-- a row of the table of checks: if its test is true, it refuses with its cause (own)
pub record Row : Type 0 where
  pub refuses : Bool
  pub cause : AddCause

-- a row with this test and this cause (own)
abbrev pub row : Bool → AddCause → Row
row refuses cause = record { refuses = refuses; cause = cause }

-- the answer is the cause of the first row that refuses; if none does, the request is accepted
-- (own)
abbrev pub answer_of : List Row → Result (Unit {0}) AddCause
answer_of [] = Ok tt
answer_of (r ∷ rows) = if r.refuses then Err r.cause else answer_of rows

-- the rows that a select and a select with value have in common, then more
abbrev pub shared_select_rows : Bool → ℕ → ℕ → State → List Row → List Row
shared_select_rows is_supported a k s more =
    row (not is_supported) NotSupported
    ∷ row (is_executing k s.execution) CommandAlreadyInExecution
    ∷ row (is_selected_by_other a k s.selection) SelectFailed
    ∷ row (other_is_selected k s.selection) OneOfNControl
    ∷ more

-- the checks of a select, in their order
abbrev pub rows_of_select : ℕ → ℕ → State → List Row
rows_of_select a k s = shared_select_rows (is_normal (control_of s.controls k).model) a k s []

-- the checks of a select with value
abbrev pub rows_of_select_with : ℕ → ℕ → Ask → State → List Row
rows_of_select_with a k ask s =
    shared_select_rows (is_enhanced (control_of s.controls k).model) a k s
    (row ask.test BlockedByMode ∷ [])

-- a client must select the switch first, and the association has not selected it, or has selected
-- it with value for another operation or originator
abbrev pub is_unselected : SwitchControl → ℕ → ℕ → Choice → Option Selection → Bool
is_unselected c a k choice selection =
    is_sbo c.model && not (is_selected_by a k selection
    && (not (is_enhanced c.model) || is_chosen choice selection))

-- the checks of an operate
abbrev pub rows_of_operate : ℕ → ℕ → Ask → View → State → List Row
rows_of_operate a k ask view s =
    let c = control_of s.controls k in
    row (not (is_controlled c.model)) NotSupported
    ∷ row (is_unselected c a k (requested_choice ask) s.selection) ObjectNotSelected
    ∷ row ask.test BlockedByMode
    ∷ row (is_executing k s.execution) CommandAlreadyInExecution
    ∷ row (other_is_executing k s.execution) OneOfNControl
    ∷ row (is_reached ask.operation view.pos) PositionReached
    ∷ row view.lost BlockedByProcess
    ∷ row view.local BlockedBySwitchingHierarchy
    ∷ row (not view.fresh) BlockedByInterlocking
    ∷ row (not (is_released ask.operation view)) BlockedByInterlocking
    ∷ row (c.refuses_synchrocheck && closes_checked ask) BlockedBySynchrocheck
    ∷ []

-- the checks of a cancel
abbrev pub rows_of_cancel : ℕ → ℕ → State → List Row
rows_of_cancel a k s =
    row (not (is_sbo (control_of s.controls k).model)) NotSupported
    ∷ row (is_executing k s.execution) CommandAlreadyInExecution
    ∷ row (not (is_selected_by a k s.selection)) ObjectNotSelected
    ∷ []

-- ---- IEC 61850-7-2 20: answers, and the state after them; what has expired counts as ended

-- a decision: its answer, and the state after it (own)
pub record Outcome : Type 0 where
  pub answer : Result (Unit {0}) AddCause
  pub after : State

-- a select of either kind; if it is accepted, a selection begins
abbrev pub select_effect : ℕ → ℕ → ℕ → Option Choice → Result (Unit {0}) AddCause → State → Outcome
select_effect a k now choice answer s = record {
  answer = answer;
  after = record s {
    selection =
        if is_ok answer then Some
        (record { switch = k; association = a; since = now; choice = choice }) else s.selection;
  };
}

-- the decision on a select at a time
abbrev pub select_outcome : ℕ → ℕ → ℕ → State → Outcome
select_outcome a k now s = let t =
    controls_at now s in select_effect a k now None (answer_of (rows_of_select a k t)) t

-- the decision on a select with value at a time
abbrev pub select_with_outcome : ℕ → ℕ → Ask → ℕ → State → Outcome
select_with_outcome a k ask now s = let t = controls_at now s in
    select_effect a k now (Some (requested_choice ask)) (answer_of (rows_of_select_with a k ask t))
    t

-- an operate by the association that selected the switch ends the selection, accepted or not; an
-- accepted one starts the execution
abbrev pub operate_effect : ℕ → ℕ → Operation → ℕ → Result (Unit {0}) AddCause → State → Outcome
operate_effect a k operation now answer s = record {
  answer = answer;
  after = record s {
    selection = if is_selected_by a k s.selection then None else s.selection;
    execution =
        if is_ok answer
        then Some (record { switch = k; start = now; operation = operation }) else s.execution;
  };
}

-- the decision on an operate at a time
abbrev pub operate_outcome : ℕ → ℕ → Ask → View → ℕ → State → Outcome
operate_outcome a k ask view now s = let t = controls_at now s in
    operate_effect a k ask.operation now (answer_of (rows_of_operate a k ask view t)) t

-- a cancel; if it is accepted, it ends the selection
abbrev pub cancel_effect : Result (Unit {0}) AddCause → State → Outcome
cancel_effect answer s =
    record {
      answer = answer;
      after = record s { selection = if is_ok answer then None else s.selection };
    }

-- the decision on a cancel at a time
abbrev pub cancel_outcome : ℕ → ℕ → ℕ → State → Outcome
cancel_outcome a k now s = let t =
    controls_at now s in cancel_effect (answer_of (rows_of_cancel a k t)) t

-- ---- IEC 61850-7-2 20: ends without a request

-- the selection, unless it is that of this association
abbrev pub selection_without : ℕ → Option Selection → Option Selection
selection_without a None = None
selection_without a (Some s) = if s.association == a then None else Some s

-- the closing of an association ends its selection
abbrev pub without_association : ℕ → State → State
without_association a s = record s { selection = selection_without a s.selection }

-- a reported position completes the execution
abbrev pub is_done : ℕ → Dbpos → Option Execution → Bool
is_done k position None = false
is_done k position (Some e) = e.switch == k && is_reached e.operation position

-- if a switch reaches the position that its operation leads to, its execution ends
abbrev pub after_contact : ℕ → Dbpos → State → State
after_contact k position s =
    record s { execution = if is_done k position s.execution then None else s.execution }

-- ---- IEC 61850-7-3 stSeld: the selected switch

-- the switch of a selection
abbrev pub selected_switch : Option Selection → Option ℕ
selected_switch None = None
selected_switch (Some s) = Some s.switch
