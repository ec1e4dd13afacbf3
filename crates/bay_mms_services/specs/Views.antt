-- Maps the code's values to those of the definitions.
use Rattle.std.specs.Prelude.{ℕ, ◌≡◌, Bool, List, [], Result, Ok, Err}
use Rattle.bay_mms.specs.RequestViews.{request_view}
use Rattle.bay_mms.specs.Requests.{MmsRequest}
use Rattle.bay_mms.specs.declared.fault.MmsFault.{MmsFault}
use Rattle.bay_mms.specs.declared.request.Request.{Request}
use Rattle.bay_control.specs.Decisions.{State, state_of}
use Rattle.bay_control.specs.declared.controls.Controls.{Controls}
use Rattle.bay_process.specs.Layout.{switches_of}
use Rattle.bay_mms_services.specs.Answers.{AnswerData}
use Rattle.bay_mms_services.specs.Bay.{Bay, with_controls}
use Rattle.bay_mms_services.specs.Reads.{ReadState}
use Rattle.bay_mms_services.specs.Writes.{WriteState}
use Rattle.bay_mms_services.specs.declared.answer.PduAnswer.{PduAnswer}
use Rattle.bay_mms_services.specs.declared.answer.ControlDecision.{ControlDecision}
use Rattle.bay_mms_services.specs.declared.bay.ServedBay.{ServedBay}
use Rattle.bay_mms_services.specs.declared.invocation.Invocation.{Invocation}
use Rattle.bay_mms_services.specs.declared.writing.WriteResults.{WriteResults}

-- the state of the controls of a bay, with this selection and execution
abbrev pub controls_view : ServedBay → Controls → State
controls_view b controls = state_of b.control_table controls

-- the bay of the definitions for a served bay with these values of its inputs
abbrev pub bay_with : List Bool → ServedBay → Bay
bay_with inputs b = record {
  domain = b.domain;
  vendor = b.vendor;
  model = b.model;
  revision = b.revision;
  switches = switches_of b.switches;
  rows = b.tree;
  inputs = inputs;
  controls = controls_view b b.controls;
}

-- the bay of the definitions for a served bay, without inputs: only the view of a switch depends on
-- them
abbrev pub bay_view : ServedBay → Bay
bay_view b = bay_with [] b

-- the bay that receives a request
abbrev pub bay_of : Invocation → Bay
bay_of i = bay_with i.inputs.now i.bay.now

-- a read and a write after some of their variables, with the controls after these
abbrev pub read_state_view : ServedBay → Controls → List ControlDecision → List ℕ → ReadState
read_state_view b controls decisions results = record {
  controls = controls_view b controls;
  decisions = decisions;
  results = results;
}

-- a write after some of its variables, with the controls after these
abbrev pub write_state_view : ServedBay → Controls → WriteResults → WriteState
write_state_view b controls w =
    record {
      controls = controls_view b controls;
      results = w.response;
      reports = w.reports.items;
      commands = w.commands.items;
      decisions = w.decisions.items;
      termination = w.termination;
    }

-- The answer of the code is that of the definition, and so is the bay once it has these controls.
pub record AnswersAs (answer : PduAnswer) (controls : State) (before : Bay) (answered : AnswerData)
    : Type 0 where
  pub sent : answer.sent.items ≡ answered.sent
  pub commands : answer.commands.items ≡ answered.commands
  pub decisions : answer.decisions.items ≡ answered.decisions
  pub termination : answer.termination ≡ answered.termination
  pub left : with_controls controls before ≡ answered.after

-- a parsed PDU, or its fault
abbrev pub request_result_view : Result Request MmsFault → Result MmsRequest MmsFault
request_result_view (Ok request) = Ok (request_view request)
request_result_view (Err fault) = Err fault
