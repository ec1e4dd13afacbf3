-- The operate that requested a command, and the response that accepted it.
use Rattle.std.specs.Prelude.{ℕ, ◌≡◌, List, ◌∷◌, ◌++◌, slice_get, Some}
use Rattle.std.specs.Borrow.{Bor}
use Rattle.std.specs.Fmt.{decimal}
use Rattle.std.specs.List.{Contains}
use Rattle.hex.specs.Hex.{encode_lower}
use Rattle.bay_nodes.specs.declared.switch.Switch.{Switch}
use Rattle.bay_connection.specs.ConnectionStates.{ConnectionState, Terms, indications, delivers}
use Rattle.bay_mms_services.specs.ObservedEntries.{observed_in_pdu}
use Rattle.bay_mms_services.specs.Entries.{operates_in}
use Rattle.bay_mms_services.specs.declared.answer.Command.{Command}
use Rattle.bay_device.specs.Device.{State, bay_of}
use Rattle.bay_device.specs.Fresh.{PastEvent}
use Rattle.bay_device.specs.Outcomes.{connection_at, slot_of}
use Rattle.bay_device.specs.Remote.{IsAtRemote}
use Rattle.bay_device.specs.ObservedRuns.{pdu_in}
use Rattle.bay_device.specs.declared.event.Event.TheVariants.{Recv}
use Rattle.bay_report.specs.Lines.{step_text}
use Rattle.bay_report.specs.Report.{report_text}
use Rattle.cmd_replay.specs.Scenario.{ScenarioParts}
use Rattle.cmd_replay.specs.History.{device_after}
use Rattle.bay_replay_laws.specs.Printed.{PrintedCommand, lines_in, printed_command, printed_send}
use Rattle.bay_replay_laws.specs.Released.{IsCommandLineFor}
use Rattle.bay_replay_laws.specs.Reports.{OfEachReport}
use Rattle.cmd_replay.specs.Runs.{IsRun}

-- A command's line is one of the lines for octets of a client. One of the PDUs in these octets
-- requests the operate of this switch; and among the lines that are printed for these octets is one
-- of octets sent on the same association, by their digits, whose PDU, read as the response to that
-- request, has a success as its result. If the switch has a key, the events before these octets say
-- that it is at remote.
pub record IsAnswered (begin : List ℕ) (first : State) (past : List PastEvent)
    (before : List (List ℕ)) (line : List ℕ) (command : PrintedCommand) : Type 0 where
  pub later : List PastEvent
  pub order : PastEvent
  pub earlier : List PastEvent
  pub split : past ≡ later ++ order ∷ earlier
  pub ordered : IsCommandLineFor begin order earlier before line
  pub moment : command.moment ≡ order.now
  pub association : ℕ
  pub octets : Bor (List ℕ)
  pub event : order.event ≡ Recv association octets
  pub operate : Command
  pub switch : Switch
  pub here : slice_get first.switches operate.switch ≡ Some switch
  pub named : switch.id ≡ command.id
  pub operation : operate.operation ≡ command.operation
  pub talk : ConnectionState
  pub connected : connection_at (slot_of association) (device_after first earlier) ≡ Some talk
  pub terms : Terms
  pub pdu : List ℕ
  pub asked : Contains (indications talk octets.now) (delivers terms pdu)
  pub reported : List ℕ
  pub stands : Contains (lines_in (step_text order.now order.answer order.after)) reported
  pub sent : List ℕ
  pub digits : printed_send reported
      ≡ Some (record { association = decimal association; octets = encode_lower sent })
  pub accepts : Contains (operates_in (observed_in_pdu order.now association pdu (bay_of first)
      (pdu_in sent))) operate
  pub remote : IsAtRemote first earlier operate

-- Each line of a command in the text of a run is answered so.
abbrev pub AreAnswered : (parts : ScenarioParts) (first : State) (text : List ℕ) (status : ℕ)
    → IsRun parts first text status → Type 0
AreAnswered parts first text status run =
    (before after : List (List ℕ)) (line : List ℕ) (command : PrintedCommand)
    → lines_in text ≡ before ++ line ∷ after → printed_command line ≡ Some command
    → IsAnswered (report_text run.printed.report) first run.past before line command

-- A report has no line of a command, or is the text of a run in which each is answered.
abbrev pub CommandsAreAnswered : Type 0
CommandsAreAnswered = OfEachReport printed_command AreAnswered
