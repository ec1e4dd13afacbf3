-- The requests of the variables of a read and of a write on controls, and which of them the
-- controls accepted.
use Rattle.std.specs.Prelude.{ℕ, Bool, List, [], ◌∷◌, ◌++◌, length, nat_le, Option, Some, None, Result, Ok, Err, is_ok, if◌then◌else◌}
use Rattle.bay_tree.specs.Rows.{name_at}
use Rattle.bay_control.specs.Acts as act
use Rattle.bay_control.specs.Acts.{Act, Entry}
use Rattle.bay_control.specs.Decisions.{State}
use Rattle.bay_control.specs.TimedCalls as call
use Rattle.bay_control.specs.TimedCalls.{Call, act_of, entries_of, outcome_of}
use Rattle.bay_mms.specs.Controls as asked
use Rattle.bay_mms.specs.Controls.{Control, operate_or_error, cancel_or_error}
use Rattle.bay_mms.specs.Data.{Datum}
use Rattle.bay_mms.specs.Grammar.{request_in}
use Rattle.bay_mms.specs.Requests.{MmsName, ServiceRequest, identify, names, attributes, read, write, MmsRequest, initiate, conclude, confirmed}
use Rattle.bay_mms.specs.Responses.{read_text, write_text}
use Rattle.bay_mms.specs.declared.fault.DataAccessError.{DataAccessError}
use Rattle.bay_mms.specs.declared.fault.MmsFault.{MmsFault}
use Rattle.bay_mms_services.specs.Bay.{Bay}
use Rattle.bay_mms_services.specs.Controls.{control_request_of, decision_view}
use Rattle.bay_mms_services.specs.Reads.{ReadState, initial_read, read_one, read_all}
use Rattle.bay_mms_services.specs.Rows.{row_named}
use Rattle.bay_mms_services.specs.Targets.{target_of}
use Rattle.bay_mms_services.specs.Writes.{WriteState, initial_write, write_one, write_all}
use Rattle.bay_mms_services.specs.declared.answer.Command.{Command}
use Rattle.bay_mms_services.specs.declared.client.ClientContext.{ClientContext}
use Rattle.bay_mms_services.specs.declared.target.ControlPart.{ControlPart}
use Rattle.bay_mms_services.specs.declared.target.ControlPart.TheVariants.{Select, SelectWith, Operate, Cancel}
use Rattle.bay_mms_services.specs.declared.target.Target.{Target}

-- the control that a variable is a part of, if there is one
abbrev pub target_of_row : Bay → Option ℕ → Option Target
target_of_row b None = None
target_of_row b (Some place) = target_of (length b.switches) (name_at b.rows place)

-- ---- reads: a read of SBO selects

-- the call of a read of a part of a control, if the read makes one
abbrev pub read_call : ClientContext → ℕ → ControlPart → Option Call
read_call c k Select = Some (call.Select c.association k)
read_call c k SelectWith = None
read_call c k Operate = None
read_call c k Cancel = None

-- the call of a read of a variable, by its target
abbrev pub call_of_read : ClientContext → Option Target → Option Call
call_of_read c None = None
call_of_read c (Some t) = read_call c t.switch t.part

-- ---- writes, if their data have the right type and range

-- the call of a write to SBOw
abbrev pub select_with_call : ClientContext → ℕ → Result asked.Operate DataAccessError → Option Call
select_with_call c k (Ok o) = Some (call.SelectWith c.association k (control_request_of o))
select_with_call c k (Err fault) = None

-- the call of a write to Oper
abbrev pub operate_call : ClientContext → ℕ → Bay → Result asked.Operate DataAccessError
    → Option Call
operate_call c k b (Ok o) =
    Some (call.Operate c.association k (control_request_of o) (decision_view c k b))
operate_call c k b (Err fault) = None

-- the call of a write to Cancel
abbrev pub cancel_call : ClientContext → ℕ → Result Control DataAccessError → Option Call
cancel_call c k (Ok control) = Some (call.Cancel c.association k)
cancel_call c k (Err fault) = None

-- the call of a write to a part of a control
abbrev pub write_call : ClientContext → Bay → Datum → ℕ → ControlPart → Option Call
write_call c b given k Select = None
write_call c b given k SelectWith = select_with_call c k (operate_or_error given)
write_call c b given k Operate = operate_call c k b (operate_or_error given)
write_call c b given k Cancel = cancel_call c k (cancel_or_error given)

-- the call of a write to a variable, by its target
abbrev pub call_of_write : ClientContext → Bay → Datum → Option Target → Option Call
call_of_write c b given None = None
call_of_write c b given (Some t) = write_call c b given t.switch t.part

-- ---- entries

-- the entry of a call: its act at this time, and whether the controls accepted it
abbrev pub entries_on_call : ClientContext → State → Option Call → List Entry
entries_on_call c controls None = []
entries_on_call c controls (Some asked) =
    entries_of c.now (act_of asked) (is_ok (outcome_of asked c.now controls).answer)

-- the entries of the variables of a read, in their order
abbrev pub read_entries : ClientContext → Bay → List MmsName → ReadState → List Entry
read_entries c b [] r = []
read_entries c b (name ∷ ns) r =
    entries_on_call c r.controls (call_of_read c (target_of_row b (row_named b name)))
    ++ read_entries c b ns (read_one c b name r)

-- the entries of the variables of a write, in their order
abbrev pub write_entries : ClientContext → Bay → List MmsName → List Datum → WriteState → List Entry
write_entries c b [] values w = []
write_entries c b (name ∷ ns) [] w = []
write_entries c b (name ∷ ns) (given ∷ values) w =
    entries_on_call c w.controls (call_of_write c b given (target_of_row b (row_named b name)))
    ++ write_entries c b ns values (write_one c b name given w)

-- the entries, if the response is not too long; otherwise the request has no effect
abbrev pub within_size : ClientContext → List ℕ → List Entry → List Entry
within_size c response entries = if nat_le (length response) c.size then entries else []

-- the entries of a request
abbrev pub service_entries : ClientContext → ℕ → Bay → ServiceRequest → List Entry
service_entries c id b identify = []
service_entries c id b (names class place after) = []
service_entries c id b (attributes name) = []
service_entries c id b (read ns) =
    within_size c (read_text id (read_all c b ns (initial_read b)).results)
    (read_entries c b ns (initial_read b))
service_entries c id b (write ns values) =
    within_size c (write_text id (write_all c b ns values (initial_write b)).results)
    (write_entries c b ns values (initial_write b))

-- the entries of a PDU
abbrev pub message_entries : ClientContext → Bay → Result MmsRequest MmsFault → List Entry
message_entries c b (Ok (initiate proposal)) = []
message_entries c b (Ok conclude) = []
message_entries c b (Ok (confirmed id asking)) = service_entries c id b asking
message_entries c b (Err fault) = []

-- The entries of a client's PDU: its requests on the controls in their order, and which of them
-- were accepted.
abbrev pub entries_on_pdu : ClientContext → List ℕ → Bay → List Entry
entries_on_pdu c pdu b = message_entries c b (request_in pdu)

-- ---- the commands

-- an accepted operate is one command
abbrev pub command_of : Act → Bool → List Command
command_of (act.Operate a k choice) is_accepted =
    if is_accepted then record { switch = k; operation = choice.operation } ∷ [] else []
command_of other is_accepted = []

-- the commands of the accepted operates, in their order
abbrev pub operates_in : List Entry → List Command
operates_in [] = []
operates_in (e ∷ es) = command_of e.act e.is_accepted ++ operates_in es
