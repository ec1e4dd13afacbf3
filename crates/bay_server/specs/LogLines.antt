-- The log lines of a server.
use Rattle.std.specs.Prelude.{Bool, false, true, ℕ, ℤ, List, [], ◌∷◌, ◌++◌, codes, map, slice_get, slice_index, Option, None, Some, option_map, unwrap_or, Result, Ok, Err, unsigned_abs, if◌then◌else◌}
use Rattle.std.specs.Int.{is_negative}
use Rattle.std.specs.Fmt.{decimal}
use Rattle.std.specs.Net.Addr.{ipv4_octets}
use Rattle.std.specs.Net.Socket.{v4_ip, v4_port}
use Rattle.std.specs.declared.net.socket_addr.SocketAddrV4.{SocketAddrV4}
use Rattle.bay_io.specs.Moments.{utc_text}
use Rattle.bay_control.specs.Causes as causes
use Rattle.bay_control.specs.declared.cause.AddCause.{AddCause}
use Rattle.bay_device.specs.Device.{State}
use Rattle.bay_lines.specs.Escaped.{escaped_text}
use Rattle.bay_base.specs.declared.switch.Operation.{Operation}
use Rattle.bay_base.specs.declared.switch.Operation.TheVariants as operations
use Rattle.bay_nodes.specs.declared.switch.Switch.{Switch}
use Rattle.bay_process_port.specs.declared.connection_event.ConnectionEvent.{ConnectionEvent}
use Rattle.bay_process_port.specs.declared.connection_event.ConnectionEvent.TheVariants.{Opened, Closed}
use Rattle.bay_process_port.specs.declared.connection_event.DisconnectReason.{DisconnectReason}
use Rattle.bay_process_port.specs.declared.connection_event.DisconnectReason.TheVariants as parting
use Rattle.bay_server_turn.specs.Code.{code_of, words_of}
use Rattle.bay_mms_services.specs.declared.answer.ControlRequest.{ControlRequest}
use Rattle.bay_mms_services.specs.declared.answer.ControlDecision.{ControlDecision}
use Rattle.bay_mms_services.specs.declared.target.ControlPart.{ControlPart}
use Rattle.bay_mms_services.specs.declared.target.ControlPart.TheVariants.{Select, SelectWith, Operate, Cancel}
use Rattle.bay_server_turn.specs.declared.fault.ServeFault.{ServeFault}
use Rattle.bay_server_turn.specs.declared.fault.ServeFault.TheVariants.{BadLine, MomentTooLarge}
use Rattle.bay_server_turn.specs.declared.turn_report.CloseReason.{CloseReason}
use Rattle.bay_server.specs.declared.clock.ClockShift.{ClockShift}
use Rattle.bay_server.specs.declared.clock.ClockSide.{ClockSide}
use Rattle.bay_server.specs.declared.clock.ClockSide.TheVariants.{Near, Ahead, Behind}
use Rattle.bay_server.specs.declared.host.BindFault.{BindFault}
use Rattle.bay_server.specs.declared.host.BindFault.TheVariants.{InUse, Denied, NoDescriptor, Failed}

-- these texts, one after the other
abbrev pub concat : List (List ℕ) → List ℕ
concat [] = []
concat (text ∷ texts) = text ++ concat texts

-- ---- ports

-- why a port can't be opened, in words
abbrev pub bind_words : BindFault → List ℕ
bind_words InUse = codes "another program uses it"
bind_words Denied = codes "permission denied"
bind_words NoDescriptor = codes "too many open files"
bind_words Failed = codes "the system does not open it"

-- the line of a port that can't be opened
abbrev pub unbound_log : ℕ → BindFault → List ℕ
unbound_log port fault =
    concat (codes "bayctl: fault 121: port " ∷ decimal port ∷ codes ": " ∷ bind_words fault
    ∷ codes "\n" ∷ [])

-- the ports that are listened on: that of the clients, and that of the process, if there is one
abbrev pub ports_log : ℕ → ℕ → Option ℕ → List ℕ
ports_log now port None =
    concat (utc_text now ∷ codes " clients on 127.0.0.1:" ∷ decimal port ∷ codes "\n" ∷ [])
ports_log now port (Some process) =
    concat (utc_text now ∷ codes " clients on 127.0.0.1:" ∷ decimal port
    ∷ codes ", process on 127.0.0.1:" ∷ decimal process ∷ codes "\n" ∷ [])

-- ---- the clock

-- a change of the side of the system's time, relative to the server's clock
abbrev pub side_line : ℕ → ℕ → ClockSide → List ℕ
side_line now distance Near =
    concat (utc_text now ∷ codes " the system's clock agrees again\n" ∷ [])
side_line now distance Ahead =
    concat (utc_text now ∷ codes " the system's clock is " ∷ decimal distance
    ∷ codes " ms ahead\n" ∷ [])
side_line now distance Behind =
    concat (utc_text now ∷ codes " the system's clock is " ∷ decimal distance
    ∷ codes " ms behind\n" ∷ [])

-- the line of a change of the side, if there is one
abbrev pub shift_log : ℕ → Option ClockShift → List (List ℕ)
shift_log now None = []
shift_log now (Some shift) = side_line now shift.distance shift.side ∷ []

-- ---- associations

-- one of the four octets of an address
abbrev pub octet_text : SocketAddrV4 → ℕ → List ℕ
octet_text from k = decimal (slice_index (ipv4_octets (v4_ip from)) k)

-- an association was opened from an address
abbrev pub opened_line : ℕ → ℕ × SocketAddrV4 → List ℕ
opened_line now opened =
    concat (utc_text now ∷ codes " association " ∷ decimal opened.0 ∷ codes " open from "
    ∷ octet_text opened.1 0 ∷ codes "." ∷ octet_text opened.1 1 ∷ codes "." ∷ octet_text opened.1 2
    ∷ codes "." ∷ octet_text opened.1 3 ∷ codes ":" ∷ decimal (v4_port opened.1) ∷ codes "\n" ∷ [])

-- the line of an association that was opened, if one was
abbrev pub opened_log : ℕ → Option (ℕ × SocketAddrV4) → List (List ℕ)
opened_log now None = []
opened_log now (Some opened) = opened_line now opened ∷ []

-- an association was closed
abbrev pub closed_line : ℕ → ℕ × CloseReason → List ℕ
closed_line now closed =
    concat (utc_text now ∷ codes " association " ∷ decimal closed.0 ∷ codes " closed "
    ∷ decimal (code_of closed.1) ∷ codes ": " ∷ words_of closed.1 ∷ codes "\n" ∷ [])

-- an association was closed because memory ran out
abbrev pub memory_line : ℕ → ℕ → List ℕ
memory_line now a =
    concat (utc_text now ∷ codes " association " ∷ decimal a ∷ codes " closed memory\n" ∷ [])

-- ---- controls

-- the service that is requested of a control
abbrev pub service_words : ControlPart → List ℕ
service_words Select = codes " select "
service_words SelectWith = codes " select "
service_words Operate = codes " operate "
service_words Cancel = codes " cancel "

-- the decision, with the number and the words of the cause of a refusal
abbrev pub verdict_texts : Result (Unit {0}) AddCause → List (List ℕ)
verdict_texts (Ok done) = codes ": done\n" ∷ []
verdict_texts (Err cause) =
    codes ": refused " ∷ decimal (causes.code_of cause) ∷ codes ": " ∷ causes.words_of cause
    ∷ codes "\n" ∷ []

-- an operation closes
abbrev pub is_close : Operation → Bool
is_close operations.Open = false
is_close operations.Close = true

-- the position that is requested
abbrev pub position_words : Operation → List ℕ
position_words operation =
    if is_close operation then codes " close orCat=" else codes " open orCat="

-- a minus before a negative number
abbrev pub sign_text : ℤ → List ℕ
sign_text number = if is_negative number then codes "-" else []

-- the id of the switch at an index, as the bay file has it
abbrev pub id_of : State → ℕ → List ℕ
id_of s k = unwrap_or (option_map (λ (switch : Switch). switch.id) (slice_get s.switches k)) []

-- what was written to a control, with its orIdent escaped, and the decision
abbrev pub written_line : ℕ → List ℕ → List ℕ → ControlDecision → ControlRequest → List ℕ
written_line now id ident decision request =
    concat (utc_text now ∷ codes " association " ∷ decimal decision.association
    ∷ service_words decision.part ∷ id ∷ position_words request.operation
    ∷ sign_text request.origin.cat
    ∷ decimal (unsigned_abs request.origin.cat) ∷ codes " orIdent="
    ∷ ident ∷ codes " ctlNum=" ∷ decimal request.ctl_num
    ∷ verdict_texts decision.answer)

-- a select by a read
abbrev pub selected_line : ℕ → List ℕ → ControlDecision → List ℕ
selected_line now id decision =
    concat (utc_text now ∷ codes " association " ∷ decimal decision.association
    ∷ service_words decision.part ∷ id ∷ verdict_texts decision.answer)

-- the line of a decision on what was written, or on a select by a read
abbrev pub control_line : ℕ → List ℕ → ControlDecision → Option ControlRequest → List ℕ
control_line now id decision None = selected_line now id decision
control_line now id decision (Some request) =
    written_line now id (escaped_text request.origin.ident) decision request

-- the line of a decision
abbrev pub decision_line : ℕ → State → ControlDecision → List ℕ
decision_line now s decision = control_line now (id_of s decision.switch) decision decision.request

-- the decisions on what an association requested, if the device handled octets of it
abbrev pub decisions_log : ℕ → State → Option (List ControlDecision) → List (List ℕ)
decisions_log now s None = []
decisions_log now s (Some decisions) = map (decision_line now s) decisions

-- ---- turns

-- the device refused the event of a line
abbrev pub refused_line : ℕ → ℕ → List ℕ → List ℕ
refused_line now code shown =
    concat (utc_text now ∷ codes " refused " ∷ decimal code ∷ codes ": " ∷ shown ∷ codes "\n" ∷ [])

-- the line about an event that the device refused, if it refused one
abbrev pub refused_log : ℕ → Option ℕ → List ℕ → List (List ℕ)
refused_log now None shown = []
refused_log now (Some code) shown = refused_line now code shown ∷ []

-- a turn was refused, with a line of the trace, by its number and escaped
abbrev pub turn_refusal_log : ServeFault → ℕ → List ℕ → List ℕ
turn_refusal_log BadLine k shown =
    concat (codes "bayctl: fault 120 line " ∷ decimal k ∷ codes ": " ∷ shown ∷ codes "\n" ∷ [])
turn_refusal_log MomentTooLarge k shown =
    codes "bayctl: fault 114: the clock is past the last moment\n"

-- all turns were served
abbrev pub all_served_log : ℕ → List ℕ
all_served_log now = concat (utc_text now ∷ codes " all turns are served\n" ∷ [])

-- ---- the process

-- its connection was closed, by the number of the reason and in words
abbrev pub process_closed_line : ℕ → ℕ → List ℕ → List ℕ
process_closed_line now code words =
    concat (utc_text now ∷ codes " process closed " ∷ decimal code ∷ codes ": " ∷ words
    ∷ codes "\n" ∷ [])

-- its connection was closed because it sent no line for this number of milliseconds
abbrev pub silent_line : ℕ → ℕ → List ℕ
silent_line now limit =
    concat (utc_text now ∷ codes " process closed 134: no line for " ∷ decimal limit
    ∷ codes " ms\n" ∷ [])

-- its connection was closed, for this reason
abbrev pub disconnect_line : ℕ → DisconnectReason → List ℕ
disconnect_line now parting.Ended = process_closed_line now 0 (codes "it ended its connection")
disconnect_line now (parting.BadLine line) = process_closed_line now 120 line
disconnect_line now parting.QueueFull =
    process_closed_line now 130 (codes "what it is told does not fit its queue")
disconnect_line now parting.LinkFailed =
    process_closed_line now 131 (codes "its connection failed, or it sent nothing for 10 seconds")
disconnect_line now parting.Foreign =
    process_closed_line now 132 (codes "it is not the process of this bay, or has another key")
disconnect_line now parting.Untimely =
    process_closed_line now 133 (codes "its time is too far from the server's")
disconnect_line now parting.OutOfOrder =
    process_closed_line now 133 (codes "its time is before that of the line before")
disconnect_line now (parting.Silent limit) = silent_line now limit
disconnect_line now parting.Jumped = process_closed_line now 134 (codes "the clock has jumped")

-- an event of its connection
abbrev pub connection_event_log : ℕ → ConnectionEvent → List ℕ
connection_event_log now Opened = concat (utc_text now ∷ codes " process open\n" ∷ [])
connection_event_log now (Closed why) = disconnect_line now why
