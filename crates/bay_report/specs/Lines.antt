-- The lines that are printed for an event.
use Rattle.std.specs.Prelude.{ℕ, ◌+◌, Bool, List, ◌∷◌, ◌++◌, slice_get, codes, Option, None, Some, Result, Ok, Err, if◌then◌else◌, []}
use Rattle.std.specs.Fmt.{decimal}
use Rattle.hex.specs.Hex.{encode_lower}
use Rattle.bay_base.specs.declared.switch.Operation.{Operation}
use Rattle.bay_base.specs.declared.switch.Operation.TheVariants as operations
use Rattle.bay_nodes.specs.declared.switch.Switch.{Switch}
use Rattle.bay_mms_services.specs.declared.answer.Command.{Command}
use Rattle.bay_device.specs.Code.{step_code_of}
use Rattle.bay_device.specs.Device.{State}
use Rattle.bay_device.specs.LookUps.{switches_text}
use Rattle.bay_device.specs.declared.event.Sent.{Sent}
use Rattle.bay_device.specs.declared.event.Step.{Step}
use Rattle.bay_device.specs.declared.event.Why.{Why}
use Rattle.bay_device.specs.declared.event.Why.TheVariants.{Ended, Fault, Memory}
use Rattle.bay_device.specs.declared.fault.StepFault.{StepFault}

-- the line of a scan: the moment, the number of instructions that were executed, and the releases
-- of each switch
abbrev pub scan_text : ℕ → ℕ → State → List ℕ
scan_text now steps s =
    decimal now ++ codes " scan steps=" ++ decimal steps ++ switches_text s 0 s.switches
    ++ codes "\n"

-- the line of the scan, if there was one
abbrev pub ran_text : ℕ → Option ℕ → State → List ℕ
ran_text now None s = []
ran_text now (Some steps) s = scan_text now steps s

-- ---- octets, commands and closings

-- the line of octets that are sent to an association
abbrev pub send_text : ℕ → Sent → List ℕ
send_text now sent =
    decimal now ++ codes " send " ++ decimal sent.association ++ codes " "
    ++ encode_lower sent.octets ++ codes "\n"

-- a line for each message that is sent
abbrev pub sends_text : ℕ → List Sent → List ℕ
sends_text now [] = []
sends_text now (sent ∷ more) = send_text now sent ++ sends_text now more

-- the line of the report that an operation ended, if there is one
abbrev pub ended_text : ℕ → Option Sent → List ℕ
ended_text now None = []
ended_text now (Some sent) = send_text now sent

-- the position that an operation leads to
abbrev pub target_text : Operation → List ℕ
target_text operations.Open = codes " off\n"
target_text operations.Close = codes " on\n"

-- the line of a command to the switch with this id
abbrev pub command_line : ℕ → List ℕ → Operation → List ℕ
command_line now id operation = decimal now ++ codes " command " ++ id ++ target_text operation

-- the line of a command to this switch; nothing without a switch
abbrev pub command_part : ℕ → Operation → Option Switch → List ℕ
command_part now operation None = []
command_part now operation (Some switch) = command_line now switch.id operation

-- the line of a command to the switch at its index
abbrev pub command_text : ℕ → State → Command → List ℕ
command_text now s command =
    command_part now command.operation (slice_get s.switches command.switch)

-- a line for each command
abbrev pub commands_text : ℕ → State → List Command → List ℕ
commands_text now s [] = []
commands_text now s (command ∷ more) = command_text now s command ++ commands_text now s more

-- why an association was closed: 0 if its client ended it
abbrev pub why_text : Why → List ℕ
why_text Ended = codes "0\n"
why_text (Fault code) = decimal code ++ codes "\n"
why_text Memory = codes "memory\n"

-- the line of an association that was closed
abbrev pub closing_text : ℕ → ℕ → Why → List ℕ
closing_text now a why =
    decimal now ++ codes " closed " ++ decimal a ++ codes " " ++ why_text why

-- the line of the association that was closed, if one was
abbrev pub closed_text : ℕ → Option (ℕ × Why) → List ℕ
closed_text now None = []
closed_text now (Some closed) = closing_text now closed.0 closed.1

-- ---- events

-- the line of a refusal with this number
abbrev pub refusal_line : ℕ → ℕ → List ℕ
refusal_line now code = decimal now ++ codes " refused " ++ decimal code ++ codes "\n"

-- the lines of an accepted event, by its answer and the device after it: the report that an
-- operation ended, what is sent, the commands, the scan, and the association that was closed
abbrev pub accepted_text : ℕ → Step → State → List ℕ
accepted_text now step s =
    ended_text now step.ended ++ sends_text now step.sent ++ commands_text now s step.commands
    ++ ran_text now step.scan s ++ closed_text now step.closed

-- the lines of an event
abbrev pub step_text : ℕ → Result Step StepFault → State → List ℕ
step_text now (Err fault) s = refusal_line now (step_code_of fault)
step_text now (Ok step) s = accepted_text now step s

-- the line for a line of the trace that is not valid, by its number
abbrev pub unreadable_text : ℕ → List ℕ
unreadable_text k = codes "fault 120 line " ++ decimal k ++ codes "\n"
