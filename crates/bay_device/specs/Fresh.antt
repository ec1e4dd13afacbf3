-- The scan that precedes a command: it is not too old, no position, input or measured value has
-- changed since, and the process is not lost. The definitions use the values of the process after
-- each event, and not the device's own record of scans and of a loss.
use Rattle.std.specs.Prelude.{ℕ, ◌≡◌, ◌≢◌, ◌+◌, ◌≤◌, Bool, true, false, if◌then◌else◌, is_ok, All, List, [], ◌∷◌, ◌++◌, Result, IfOk, IsOk}
use Rattle.bay_config.specs.declared.bay.Bay.{Bay}
use Rattle.bay_base.specs.declared.point.MeterField.{MeterField}
use Rattle.bay_nodes.specs.Names.{StatusNames, meter_names, position_names}
use Rattle.bay_nodes.specs.Node.{class_of, node_name}
use Rattle.bay_base.specs.declared.switch.SwitchKind.{SwitchKind}
use Rattle.bay_process.specs.Names.{field_names}
use Rattle.bay_tree.specs.Rows.{leaf_named}
use Rattle.bay_tree.specs.declared.row.Row.{Row}
use Rattle.il_image.specs.Images.{Image}
use Rattle.bay_device.specs.Device.{State}
use Rattle.bay_device.specs.Load.{initial_device}
use Rattle.bay_device.specs.Steps.{Steps}
use Rattle.bay_device.specs.declared.event.Event.{Event}
use Rattle.bay_device.specs.declared.event.Event.TheVariants.{Open, Recv, Close, Contact, Input, Measure, BadMeasure, Lost, Scan}
use Rattle.bay_device.specs.declared.event.Step.{Step}
use Rattle.bay_device.specs.declared.fault.StepFault.{StepFault}

-- ---- the values of the process

-- The value and its quality are the same before and after.
pub record IsSameStatus (names : StatusNames) (before after : List Row) : Type 0 where
  pub value : leaf_named names.value after ≡ leaf_named names.value before
  pub quality : leaf_named names.quality after ≡ leaf_named names.quality before

-- The values of the process are the same before and after: for each node XCBR and XSWI the position
-- with its quality, each input, and for each meter each field with its quality.
pub record IsSameProcess (before after : State) : Type 0 where
  pub positions : (kind : SwitchKind) (number : ℕ)
      → IsSameStatus (position_names (node_name (class_of kind) number)) before.rows after.rows
  pub inputs : after.input_values ≡ before.input_values
  pub measures : (k : ℕ) (field : MeterField)
      → IsSameStatus (field_names field (meter_names k)) before.rows after.rows

-- ---- past events

-- an event at a time, its answer, and the device after it
pub record PastEvent : Type 0 where
  pub now : ℕ
  pub event : Event
  pub answer : Result Step StepFault
  pub after : State

-- The events since load that led to a device, for some bay and image; the last event comes first.
abbrev pub IsHistory : List PastEvent → State → Type 0
IsHistory [] s = (bay : Bay) × (image : Image) × (s ≡ initial_device bay image)
IsHistory (p ∷ past) s = (s ≡ p.after)
    × ((before : State) × IsHistory past before × Steps p.now p.event before p.answer p.after)

-- ---- the loss of the process

-- whether the process is heard after an accepted event: something was received from it since its
-- last loss
abbrev pub is_heard_after : Event → Bool → Bool
is_heard_after (Open a) before = before
is_heard_after (Recv a octets) before = before
is_heard_after (Close a) before = before
is_heard_after (Contact k position) before = true
is_heard_after (Input k value) before = true
is_heard_after (Measure k field value) before = true
is_heard_after (BadMeasure k field) before = true
is_heard_after Lost before = false
is_heard_after Scan before = before

-- The process is heard after these events, the last of which comes first: since its last loss, if
-- there was one, it reported a position, an input, or a measured value or its invalidity, and the
-- report was accepted.
abbrev pub is_heard : List PastEvent → Bool
is_heard [] = true
is_heard (p ∷ past) =
    if is_ok p.answer then is_heard_after p.event (is_heard past) else is_heard past

-- ---- commands

-- Among these events is an accepted scan, at most `age` milliseconds before a time; after each
-- event since, the process has the values that it had after the scan; and after all of them the
-- process is heard.
pub record HasScan (now age : ℕ) (past : List PastEvent) : Type 0 where
  pub since : List PastEvent
  pub scan : PastEvent
  pub earlier : List PastEvent
  pub split : past ≡ since ++ scan ∷ earlier
  pub scanned : scan.event ≡ Scan
  pub done : IsOk scan.answer
  pub recent : now ≤ scan.now + age
  pub unchanged : All (λ (p : PastEvent). IsSameProcess scan.after p.after) since
  pub heard : is_heard past ≡ true

-- A step at a time has a command only if there is such a scan.
abbrev pub IsFresh : ℕ → ℕ → List PastEvent → Result Step StepFault → Type 0
IsFresh now age past answer = IfOk answer (λ step. step.commands ≢ [] → HasScan now age past)

-- The answer of an event has a command only after such a scan, whatever events since load led to
-- the device before it.
abbrev pub FreshAt : ℕ → Event → State → Result Step StepFault → State → Type 0
FreshAt now event old answer new =
    (past : List PastEvent) → IsHistory past old → IsFresh now old.scan_max_age_ms past answer
