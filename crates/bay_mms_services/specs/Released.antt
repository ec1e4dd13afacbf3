-- When a switch may be operated, and which parts of a bay no client changes (IEC 61850-7-4, CILO).
use Rattle.std.specs.Prelude.{ℕ, ◌≡◌, ◌≤◌, true, false, List, Some, None}
use Rattle.bay_tree.specs.Rows.{leaf_named}
use Rattle.bay_nodes.specs.Names.{closing_names_at, opening_names_at}
use Rattle.bay_base.specs.declared.switch.Operation.{Operation}
use Rattle.bay_base.specs.declared.switch.Operation.TheVariants.{Open, Close}
use Rattle.bay_process.specs.Values.{is_truth}
use Rattle.bay_control.specs.Decisions.{controls_at}
use Rattle.bay_control.specs.Requests.{control_of, is_controlled, is_local}
use Rattle.bay_control.specs.declared.control.SwitchControl.{SwitchControl}
use Rattle.bay_control.specs.declared.selection.Execution.{Execution}
use Rattle.bay_mms_services.specs.Bay.{Bay}
use Rattle.bay_mms_services.specs.declared.answer.Command.{Command}
use Rattle.bay_mms_services.specs.declared.client.ClientContext.{ClientContext}

-- the name of the value that releases an operation: EnaOpn for Open, EnaCls for Close
abbrev pub enable_name : ℕ → Operation → List ℕ
enable_name k Open = (opening_names_at k).value
enable_name k Close = (closing_names_at k).value

-- A command is issued only while the process is not lost, the key of the switch is not at local,
-- the last scan is fresh, the interlocking value of the operation is TRUE in the tree, and no
-- switch of the bay is operating.
pub record IsReleased (c : ClientContext) (b : Bay) (command : Command) : Type 0 where
  pub heard : c.lost ≡ false
  pub remote : is_local (control_of b.controls.controls command.switch).key b.inputs ≡ false
  pub fresh : c.fresh ≡ true
  pub enabled : is_truth true (leaf_named (enable_name command.switch command.operation) b.rows)
      ≡ true
  pub idle : (controls_at c.now b.controls).execution ≡ None

-- A client changes no value of the tree, and no execution that has not expired.
pub record ChangesNoValue (now : ℕ) (before after : Bay) : Type 0 where
  pub rows : after.rows ≡ before.rows
  pub busy : (e : Execution) → (controls_at now before.controls).execution ≡ Some e
      → (controls_at now after.controls).execution ≡ Some e

-- The travel time of each controlled switch is at least 1 ms, so an execution lasts beyond the time
-- of its operate.
abbrev pub HaveTravelTime : List SwitchControl → Type 0
HaveTravelTime controls = (k : ℕ) → is_controlled (control_of controls k).model ≡ true
    → 1 ≤ (control_of controls k).travel_ms
