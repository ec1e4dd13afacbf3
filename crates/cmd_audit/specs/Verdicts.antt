-- Which rules hold, as the lines of an audit are read.
use Rattle.std.specs.Prelude.{◌≡◌, ℕ, true, ◌&&◌, List, ◌∷◌, codes, slice_get, zip, Option, None, Some, if◌then◌else◌}
use Rattle.std.specs.Fmt.{decimal}
use Rattle.std.specs.List.{Contains}
use Rattle.std.specs.Str.{bytes_eq}
use Rattle.bay_base.specs.declared.switch.Operation.{Operation}
use Rattle.bay_base.specs.declared.switch.Operation.TheVariants as operations
use Rattle.bay_config.specs.declared.bay.Bay.{Bay}
use Rattle.bay_audit_rules.specs.declared.rule.Rule.{Rule}
use Rattle.bay_audit.specs.Rules.{BoundProgram, IsRightAnswer, program_of}
use Rattle.bay_audit.specs.declared.answer.RuleAnswer.{RuleAnswer}
use Rattle.bay_load.specs.Loads.{LoadData}
use Rattle.bay_replay_laws.specs.Printed.{lines_in, words_in}
use Rattle.bay_diagram_file.specs.declared.diagram.Diagram.{Diagram}
use Rattle.cmd_audit.specs.Auditing.{AuditText, Judgements}
use Rattle.cmd_audit.specs.Names.{AreWords, HasDiagramWords, HasWords, program_names}
use Rattle.cmd_audit.specs.Text.{id_of, is_passed}

-- a line of a rule that holds: the digits of the line of the rule, the id of its switch, and its
-- operation
pub record PrintedHold : Type 0 where
  pub line : List ℕ
  pub id : List ℕ
  pub operation : Operation

-- the operation in a word
abbrev pub operation_in : List ℕ → Option Operation
operation_in word =
    if bytes_eq word (codes "open") then Some operations.Open
    else if bytes_eq word (codes "close") then Some operations.Close
    else None

-- a rule that holds, if its operation can be read
abbrev pub hold_from_parts : List ℕ → List ℕ → Option Operation → Option PrintedHold
hold_from_parts line id None = None
hold_from_parts line id (Some operation) =
    Some (record { line = line; id = id; operation = operation })

-- the rule that holds, in the words of a line
abbrev pub hold_in : List (List ℕ) → Option PrintedHold
hold_in (rule ∷ line ∷ id ∷ operation ∷ verdict ∷ more) =
    if bytes_eq rule (codes "rule") && bytes_eq verdict (codes "holds")
    then hold_from_parts line id (operation_in operation)
    else None
hold_in _ = None

-- how a line `rule LINE ID OPERATION holds ..` is read
abbrev pub printed_hold : List ℕ → Option PrintedHold
printed_hold line = hold_in (words_in line)

-- The line is that of a rule of this line, switch and operation, whose answer is that it holds; and
-- the answer is right.
pub record IsHold (bay : Bay) (g : BoundProgram) (pairs : List (Rule × RuleAnswer))
    (hold : PrintedHold)
    : Type 0 where
  pub pair : Rule × RuleAnswer
  pub among : Contains pairs pair
  pub line : decimal pair.0.line ≡ hold.line
  pub switch : id_of (slice_get bay.switches pair.0.switch) ≡ hold.id
  pub operation : pair.0.operation ≡ hold.operation
  pub holds : is_passed pair.1 ≡ true
  pub right : IsRightAnswer g pair.0 pair.1

-- Each such line of the answers to rules is that of such a rule.
abbrev pub HoldsAreRead : Type 0
HoldsAreRead =
    (loaded : LoadData) (rules : List Rule) (text : List ℕ) (status : ℕ)
    → HasWords loaded.bay → AreWords (program_names loaded)
    → (written : AuditText loaded rules text status)
    → (line : List ℕ) (hold : PrintedHold) → Contains (lines_in text) line
    → printed_hold line ≡ Some hold
    → IsHold loaded.bay (program_of loaded.bay loaded.image) (zip rules written.answers) hold

-- No line of the text for a diagram is read as a line of a rule that holds.
abbrev pub NoJudgementIsRead : Type 0
NoJudgementIsRead =
    (loaded : LoadData) (d : Diagram) (text : List ℕ) (status : ℕ)
    → HasWords loaded.bay → HasDiagramWords d → Judgements loaded d text status
    → (line : List ℕ) → Contains (lines_in text) line → printed_hold line ≡ None
