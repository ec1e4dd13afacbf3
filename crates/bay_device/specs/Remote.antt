-- The key of a switch: when a command is issued, the process has reported that the key is at
-- remote. The definitions use events alone, and not the values that the device has of its inputs.
use Rattle.std.specs.Prelude.{ℕ, ◌≡◌, ◌==◌, Bool, true, false, if◌then◌else◌, is_ok, All, List, [], ◌∷◌, slice_get, Option, Some, option_and_then, Result, IfOk}
use Rattle.bay_control.specs.Decisions.{key_input}
use Rattle.bay_mms_services.specs.declared.answer.Command.{Command}
use Rattle.bay_device.specs.Device.{State}
use Rattle.bay_device.specs.Fresh.{IsHistory, PastEvent}
use Rattle.bay_device.specs.declared.event.Event.{Event}
use Rattle.bay_device.specs.declared.event.Event.TheVariants.{Open, Recv, Close, Contact, Input, Measure, BadMeasure, Lost, Scan}
use Rattle.bay_device.specs.declared.event.Step.{Step}
use Rattle.bay_device.specs.declared.fault.StepFault.{StepFault}

-- the input of the key of the switch at an index, by the names in the bay file; none if the switch
-- has no key
abbrev pub key_input_at : State → ℕ → Option ℕ
key_input_at s k = option_and_then (key_input s.inputs) (slice_get s.switches k)

-- whether the input at an index was last reported as TRUE, after an accepted event; a loss of the
-- process ends what it reported
abbrev pub is_on_after : ℕ → Event → Bool → Bool
is_on_after input (Open a) before = before
is_on_after input (Recv a octets) before = before
is_on_after input (Close a) before = before
is_on_after input (Contact k position) before = before
is_on_after input (Input k value) before = if k == input then value else before
is_on_after input (Measure k field value) before = before
is_on_after input (BadMeasure k field) before = before
is_on_after input Lost before = false
is_on_after input Scan before = before

-- In these events, the last of which comes first, the process reported that the input at an index
-- is TRUE, and has not reported since that it is FALSE, nor was it lost since.
abbrev pub is_on : ℕ → List PastEvent → Bool
is_on input [] = false
is_on input (p ∷ past) =
    if is_ok p.answer then is_on_after input p.event (is_on input past) else is_on input past

-- If the switch of a command has a key, the process has reported so that it is at remote.
abbrev pub IsAtRemote : State → List PastEvent → Command → Type 0
IsAtRemote s past command =
    (input : ℕ) → key_input_at s command.switch ≡ Some input → is_on input past ≡ true

-- For each command of a step whose switch has a key, the process has reported that the key is at
-- remote.
abbrev pub AreAtRemote : State → List PastEvent → Result Step StepFault → Type 0
AreAtRemote s past answer = IfOk answer (λ step. All (IsAtRemote s past) step.commands)

-- The key is at remote so for each command of an event's answer, whatever events since load led to
-- the device before it.
abbrev pub RemoteAt : ℕ → Event → State → Result Step StepFault → State → Type 0
RemoteAt now event old answer new =
    (past : List PastEvent) → IsHistory past old → AreAtRemote old past answer
