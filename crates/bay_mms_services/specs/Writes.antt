-- The results of a write, and its effect (ISO 9506-2, Write; IEC 61850-8-1: SBOw, Oper and Cancel).
use Rattle.std.specs.Prelude.{ℕ, List, [], ◌∷◌, ◌++◌, length, Option, Some, None, Result, Ok, Err}
use Rattle.bay_tree.specs.Rows.{name_at}
use Rattle.bay_control.specs.Decisions.{Outcome, State, select_with_outcome, operate_outcome, cancel_outcome}
use Rattle.bay_control.specs.declared.cause.AddCause.{AddCause}
use Rattle.bay_mms.specs.Controls as asked
use Rattle.bay_mms.specs.Controls.{Control, operate_or_error, cancel_or_error}
use Rattle.bay_mms.specs.Data.{Datum}
use Rattle.bay_mms.specs.Requests.{MmsName}
use Rattle.bay_mms.specs.Responses.{failure_result, success_result}
use Rattle.bay_mms.specs.declared.fault.DataAccessError.{DataAccessError}
use Rattle.bay_mms.specs.declared.fault.DataAccessError.TheVariants.{ObjectAccessDenied, ObjectNonExistent}
use Rattle.bay_mms_services.specs.Bay.{Bay}
use Rattle.bay_mms_services.specs.Controls.{control_request_of, accepted_termination, operation_of, refusal_reports, decision_view, written_decision}
use Rattle.bay_mms_services.specs.Rows.{row_named}
use Rattle.bay_mms_services.specs.Targets.{target_of}
use Rattle.bay_mms_services.specs.declared.answer.Command.{Command}
use Rattle.bay_mms_services.specs.declared.answer.ControlDecision.{ControlDecision}
use Rattle.bay_mms_services.specs.declared.answer.TerminationReports.{TerminationReports}
use Rattle.bay_mms_services.specs.declared.client.ClientContext.{ClientContext}
use Rattle.bay_mms_services.specs.declared.target.ControlPart.{ControlPart}
use Rattle.bay_mms_services.specs.declared.target.ControlPart.TheVariants.{Select, SelectWith, Operate, Cancel}
use Rattle.bay_mms_services.specs.declared.target.Target.{Target}

-- a write after some of its variables: the controls, the octets of the results, the reports of
-- refusals, the commands, the decisions, and the reports for the end of an operate
pub record WriteState : Type 0 where
  pub controls : State
  pub results : List ℕ
  pub reports : List (List ℕ)
  pub commands : List Command
  pub decisions : List ControlDecision
  pub termination : Option TerminationReports

-- before the first variable
abbrev pub initial_write : Bay → WriteState
initial_write b = record {
  controls = b.controls;
  results = [];
  reports = [];
  commands = [];
  decisions = [];
  termination = None;
}

-- a write with an error as the result of a variable
abbrev pub write_after_error : DataAccessError → WriteState → WriteState
write_after_error error w = record w { results = w.results ++ failure_result error }

-- the result of an accepted control is a success, that of a refused one object-access-denied
abbrev pub decision_result : Result (Unit {0}) AddCause → List ℕ
decision_result (Ok done) = success_result
decision_result (Err why) = failure_result ObjectAccessDenied

-- a write after a decision on a control: the controls after it, its result and, if it is refused,
-- the report of that with the name of the control
abbrev pub after_decision : ClientContext → Bay → ℕ → ControlPart → List ℕ → Control → Outcome
    → WriteState
    → WriteState
after_decision c b k part item control o w = record w {
  controls = o.after;
  results = w.results ++ decision_result o.answer;
  reports = w.reports ++ refusal_reports c k item control b o.answer;
  decisions = w.decisions ++ written_decision c k part control o.answer ∷ [];
}

-- an accepted operate is one command
abbrev pub operate_commands : ℕ → asked.Operate → Result (Unit {0}) AddCause → List Command
operate_commands k o (Ok done) =
    record { switch = k; operation = operation_of o.control.ctl_val } ∷ []
operate_commands k o (Err why) = []

-- the reports for the end of an operate; later ones replace earlier ones
abbrev pub later_ending : Option TerminationReports → Option TerminationReports
    → Option TerminationReports
later_ending before None = before
later_ending before (Some termination) = Some termination

-- a write after the decision on an operate
abbrev pub after_operate : ClientContext → Bay → ℕ → List ℕ → asked.Operate → Outcome → WriteState
    → WriteState
after_operate c b k item o outcome w =
    record (after_decision c b k Operate item o.control outcome w) {
      commands = w.commands ++ operate_commands k o outcome.answer;
      termination = later_ending w.termination (accepted_termination c k item o b outcome.answer);
    }

-- a write after a variable that is SBOw, or the error of its data
abbrev pub write_select_with : ClientContext → Bay → ℕ → List ℕ → WriteState
    → Result asked.Operate DataAccessError → WriteState
write_select_with c b k item w (Err error) = write_after_error error w
write_select_with c b k item w (Ok o) =
    after_decision c b k SelectWith item o.control
    (select_with_outcome c.association k (control_request_of o) c.now w.controls)
    w

-- a write after a variable that is Oper, or the error of its data
abbrev pub write_operate : ClientContext → Bay → ℕ → List ℕ → WriteState
    → Result asked.Operate DataAccessError → WriteState
write_operate c b k item w (Err error) = write_after_error error w
write_operate c b k item w (Ok o) =
    after_operate c b k item o
    (operate_outcome c.association k (control_request_of o) (decision_view c k b) c.now w.controls)
    w

-- a write after a variable that is Cancel, or the error of its data
abbrev pub write_cancel : ClientContext → Bay → ℕ → List ℕ → WriteState
    → Result Control DataAccessError
    → WriteState
write_cancel c b k item w (Err error) = write_after_error error w
write_cancel c b k item w (Ok control) =
    after_decision c b k Cancel item control (cancel_outcome c.association k c.now w.controls) w

-- a write to a part of a control; SBO can only be read
abbrev pub write_part : ClientContext → Bay → ℕ → List ℕ → Datum → WriteState → ControlPart
    → WriteState
write_part c b k item given w Select = write_after_error ObjectAccessDenied w
write_part c b k item given w SelectWith = write_select_with c b k item w (operate_or_error given)
write_part c b k item given w Operate = write_operate c b k item w (operate_or_error given)
write_part c b k item given w Cancel = write_cancel c b k item w (cancel_or_error given)

-- a write after a variable that exists, by its target; it must be a part of a control
abbrev pub write_target : ClientContext → Bay → List ℕ → Datum → WriteState → Option Target
    → WriteState
write_target c b item given w None = write_after_error ObjectAccessDenied w
write_target c b item given w (Some t) = write_part c b t.switch item given w t.part

-- a write after a variable; one that does not exist is an error
abbrev pub write_row : ClientContext → Bay → Datum → WriteState → Option ℕ → WriteState
write_row c b given w None = write_after_error ObjectNonExistent w
write_row c b given w (Some place) =
    write_target c b (name_at b.rows place) given w
    (target_of (length b.switches) (name_at b.rows place))

-- one variable of a write
abbrev pub write_one : ClientContext → Bay → MmsName → Datum → WriteState → WriteState
write_one c b name given w = write_row c b given w (row_named b name)

-- the variables in their order; each sees the effects of those before it
abbrev pub write_all : ClientContext → Bay → List MmsName → List Datum → WriteState → WriteState
write_all c b [] values w = w
write_all c b (name ∷ names) [] w = w
write_all c b (name ∷ names) (given ∷ values) w =
    write_all c b names values (write_one c b name given w)
