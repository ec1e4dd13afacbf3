-- Calls of the controls of a bay, their decisions, and the entries that an outside observer sees.
use Rattle.std.specs.Prelude.{ℕ, ◌≡◌, Bool, true, not, ◌&&◌, ◌||◌, ◌==◌, List, [], ◌∷◌, ◌++◌, Option, None, Some, Ok, is_ok}
use Rattle.bay_base.specs.declared.position.Dbpos.{Dbpos}
use Rattle.bay_control.specs.Acts.{Act, Entry}
use Rattle.bay_control.specs.Acts as act
use Rattle.bay_control.specs.Decisions.{Outcome, State, controls_at, cancel_outcome, after_contact, without_association, operate_outcome, select_outcome, select_with_outcome}
use Rattle.bay_control.specs.Requests.{requested_choice}
use Rattle.bay_control.specs.declared.request.Ask.{Ask}
use Rattle.bay_control.specs.declared.request.View.{View}

-- ---- own: calls and their entries

-- the calls of the controls: an association a is opened or closed, or it requests something of a
-- switch k; the process reports the position of a switch; time passes
pub data Call : Type 0 where
  Open : (a : ℕ) → Call
  Close : (a : ℕ) → Call
  Select : (a k : ℕ) → Call
  SelectWith : (a k : ℕ) (ask : Ask) → Call
  Operate : (a k : ℕ) (ask : Ask) (view : View) → Call
  Cancel : (a k : ℕ) → Call
  Contact : (k : ℕ) (position : Dbpos) → Call
  Advance : Call

-- a call at a time
pub record TimedCall : Type 0 where
  pub now : ℕ
  pub call : Call

-- a call that is not a request is accepted
abbrev pub no_request : State → Outcome
no_request s = record { answer = Ok tt; after = s }

-- the decision of a call
abbrev pub outcome_of : Call → ℕ → State → Outcome
outcome_of (Open a) now s = no_request s
outcome_of (Close a) now s = no_request (without_association a s)
outcome_of (Select a k) now s = select_outcome a k now s
outcome_of (SelectWith a k ask) now s = select_with_outcome a k ask now s
outcome_of (Operate a k ask view) now s = operate_outcome a k ask view now s
outcome_of (Cancel a k) now s = cancel_outcome a k now s
outcome_of (Contact k position) now s = no_request (after_contact k position s)
outcome_of Advance now s = no_request (controls_at now s)

-- what an outside observer sees of a call: neither the view on which the decision depends, nor
-- positions and time
abbrev pub act_of : Call → Option Act
act_of (Open a) = Some (act.Opened a)
act_of (Close a) = Some (act.Closed a)
act_of (Select a k) = Some (act.Select a k)
act_of (SelectWith a k ask) = Some (act.SelectWith a k (requested_choice ask))
act_of (Operate a k ask view) = Some (act.Operate a k (requested_choice ask))
act_of (Cancel a k) = Some (act.Cancel a k)
act_of (Contact k position) = None
act_of Advance = None

-- the entries of a call: one if it has an act, accepted or not
abbrev pub entries_of : ℕ → Option Act → Bool → List Entry
entries_of now None is_accepted = []
entries_of now (Some act) is_accepted =
    record { now = now; act = act; is_accepted = is_accepted } ∷ []

-- the entries of a list of happenings
abbrev pub entries_of_calls : List TimedCall → State → List Entry
entries_of_calls [] s = []
entries_of_calls (h ∷ hs) s =
    let o = outcome_of h.call h.now s in
    entries_of h.now (act_of h.call) (is_ok o.answer) ++ entries_of_calls hs o.after

-- the state after a list of happenings
abbrev pub state_after_calls : List TimedCall → State → State
state_after_calls [] s = s
state_after_calls (h ∷ hs) s = state_after_calls hs (outcome_of h.call h.now s).after

-- ---- own: which associations are open

-- only a closed association is opened, and only an open one is closed or requests something
abbrev pub is_orderly_call : (ℕ → Bool) → Call → Bool
is_orderly_call is_open (Open a) = not (is_open a)
is_orderly_call is_open (Close a) = is_open a
is_orderly_call is_open (Select a k) = is_open a
is_orderly_call is_open (SelectWith a k ask) = is_open a
is_orderly_call is_open (Operate a k ask view) = is_open a
is_orderly_call is_open (Cancel a k) = is_open a
is_orderly_call is_open (Contact k position) = true
is_orderly_call is_open Advance = true

-- whether an association is open after a call
abbrev pub is_open_after : (ℕ → Bool) → Call → ℕ → Bool
is_open_after is_open (Open a) b = b == a || is_open b
is_open_after is_open (Close a) b = not (b == a) && is_open b
is_open_after is_open (Select a k) b = is_open b
is_open_after is_open (SelectWith a k ask) b = is_open b
is_open_after is_open (Operate a k ask view) b = is_open b
is_open_after is_open (Cancel a k) b = is_open b
is_open_after is_open (Contact k position) b = is_open b
is_open_after is_open Advance b = is_open b

-- Each call of the list is orderly, given the associations that are open before it.
abbrev pub AreOrderly : (ℕ → Bool) → List TimedCall → Type 0
AreOrderly is_open [] = Unit {0}
AreOrderly is_open (h ∷ hs) =
    (is_orderly_call is_open h.call ≡ true) × AreOrderly (is_open_after is_open h.call) hs

-- whether an association is open after these happenings
abbrev pub is_open_after_all : (ℕ → Bool) → List TimedCall → ℕ → Bool
is_open_after_all is_open [] b = is_open b
is_open_after_all is_open (h ∷ hs) b = is_open_after_all (is_open_after is_open h.call) hs b

-- ---- own: runs of the controls

-- Some list of happenings leads the controls from one state to another and has these entries; it
-- also leads from the associations that are open before to those that are open after.
pub record LeadsControls (entries : List Entry) (open_before : ℕ → Bool) (before : State)
    (open_after : ℕ → Bool) (after : State) : Type 0 where
  pub timed_calls : List TimedCall
  pub orderly : AreOrderly open_before timed_calls
  pub seen : entries ≡ entries_of_calls timed_calls before
  pub ends : after ≡ state_after_calls timed_calls before
  pub opens : (a : ℕ) → open_after a ≡ is_open_after_all open_before timed_calls a
