-- What writes come to.
use Rattle.std.proofs.Common.{◌≡◌, ℕ, List, [], ◌∷◌, ◌++◌, Option, Result, ◌⊎◌, inl, inr, refl}
use Rattle.bay_control.specs.Decisions.{Outcome, State}
use Rattle.bay_control.specs.declared.cause.AddCause.{AddCause}
use Rattle.bay_mms.specs.Controls as asked
use Rattle.bay_mms.specs.Controls.{Control}
use Rattle.bay_mms.specs.Data.{Datum}
use Rattle.bay_mms.specs.Requests.{MmsName}
use Rattle.bay_mms_services.specs.Bay.{Bay}
use Rattle.bay_mms_services.specs.Controls.{accepted_termination, refusal_reports, written_decision}
use Rattle.bay_mms_services.specs.Writes.{WriteState, operate_commands, after_decision, decision_result, later_ending, after_operate, write_all}
use Rattle.bay_mms_services.specs.declared.answer.Command.{Command}
use Rattle.bay_mms_services.specs.declared.answer.ControlDecision.{ControlDecision}
use Rattle.bay_mms_services.specs.declared.answer.TerminationReports.{TerminationReports}
use Rattle.bay_mms_services.specs.declared.client.ClientContext.{ClientContext}
use Rattle.bay_mms_services.specs.declared.target.ControlPart.{ControlPart}
use Rattle.bay_mms_services.specs.declared.target.ControlPart.TheVariants.{Operate}

-- what a decision puts down
pub put-down : (c : ClientContext) (b : Bay) (k : ℕ) (part : ControlPart) (item : List ℕ)
    (control given : Control) (w : WriteState) (o : Outcome) (after : State)
    (answer : Result (Unit {0}) AddCause) (results : List ℕ) (reports : List (List ℕ))
    (commands : List Command) (decisions : List ControlDecision)
    (termination : Option TerminationReports)
    → after ≡ o.after → answer ≡ o.answer → given ≡ control
    → results ≡ w.results ++ decision_result answer
    → reports ≡ w.reports ++ refusal_reports c k item given b answer → commands ≡ w.commands
    → decisions ≡ w.decisions ++ written_decision c k part given answer ∷ []
    → termination ≡ w.termination
    → record {
      controls = after;
      results = results;
      reports = reports;
      commands = commands;
      decisions = decisions;
      termination = termination;
    } ≡ after_decision c b k part item control o w
put-down c b k part item control given w o after answer results reports commands decisions
    termination stands is by has told ordered decided due =
    rw (stands, has, told, ordered, decided, due, is, by) refl

-- and an operate, which is accepted or refused
pub operated : (c : ClientContext) (b : Bay) (k : ℕ) (item : List ℕ)
    (o : asked.Operate) (given : Control) (w : WriteState) (outcome : Outcome) (after : State)
    (answer : Result (Unit {0}) AddCause) (results : List ℕ) (reports : List (List ℕ))
    (commands : List Command) (decisions : List ControlDecision)
    (termination : Option TerminationReports)
    → after ≡ outcome.after → answer ≡ outcome.answer → given ≡ o.control
    → results ≡ w.results ++ decision_result answer
    → reports ≡ w.reports ++ refusal_reports c k item given b answer
    → commands ≡ w.commands ++ operate_commands k o answer
    → decisions ≡ w.decisions ++ written_decision c k Operate given answer ∷ []
    → termination ≡ later_ending w.termination (accepted_termination c k item o b answer)
    → record {
      controls = after;
      results = results;
      reports = reports;
      commands = commands;
      decisions = decisions;
      termination = termination;
    } ≡ after_operate c b k item o outcome w
operated c b k item o given w outcome after answer results reports commands decisions termination
    stands is by has told ordered decided due =
    rw (stands, has, told, ordered, decided, due, is, by) refl

-- ---- where no variable or no value is left

pub none-left : (c : ClientContext) (b : Bay) (names : List MmsName) (values : List Datum)
    (w : WriteState)
    → (names ≡ []) ⊎ (values ≡ []) → write_all c b names values w ≡ w
none-left c b [] values w left = refl
none-left c b (name ∷ names) [] w left = refl
none-left c b (name ∷ names) (given ∷ values) w (inl is) = absurd cc
none-left c b (name ∷ names) (given ∷ values) w (inr is) = absurd cc
