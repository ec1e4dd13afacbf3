-- The state of a device: its bay, the program that interlocks it, and its clients; and the effects
-- of the process, of scans and of time (IEC 61850-7-4: LLN0, LPHD, XCBR, XSWI, CSWI, CILO, MMXU
-- and GGIO; IEC 61850-7-3: status values and measured values).
use Rattle.std.specs.Prelude.{ℕ, ℤ, ◌+◌, ◌-◌, Bool, true, false, not, ◌&&◌, ◌||◌, nat_le, List, [], ◌∷◌, length, map, position, slice_get, slice_set, unwrap_or, Option, None, Some, is_some, if◌then◌else◌}
use Rattle.std.specs.Bool.{beq}
use Rattle.bay_tree.specs.declared.row.Row.{Row}
use Rattle.bay_base.specs.declared.position.Dbpos.{Dbpos}
use Rattle.bay_base.specs.declared.position.Dbpos.TheVariants.{Bad}
use Rattle.bay_nodes.specs.declared.switch.Switch.{Switch}
use Rattle.bay_nodes.specs.Names.{switch_names, meter_names, float_names}
use Rattle.bay_nodes.specs.declared.profile.Profile.{Profile}
use Rattle.bay_base.specs.declared.point.MeterField.{MeterField}
use Rattle.bay_base.specs.declared.point.MeterField.TheVariants.{TotW, TotVAr, Hz, PhaseA, PhaseB, PhaseC}
use Rattle.bay_base.specs.declared.point.Source.{Source}
use Rattle.bay_base.specs.declared.point.Source.TheVariants as source
use Rattle.il_image.specs.Machine.{Ending, Halted, Trapped, Unfinished, run_from}
use Rattle.il_image.specs.declared.timer.TimerState.{TimerState}
use Rattle.il_image.specs.declared.value.Value.{Value}
use Rattle.il_image.specs.declared.value.Value.TheVariants.{Truth, Long}
use Rattle.il_scan.specs.Scans.{MachineData, outputs_of, scan_start}
use Rattle.bay_process.specs.Model.{rows_after_health, rows_after_input, rows_after_lost_inputs}
use Rattle.bay_process.specs.Names.{field_float, field_names}
use Rattle.bay_process.specs.Values.{measure_leaf, number_of_leaf, position_leaf, position_value, rows_after_contact, rows_after_bad_measure, rows_after_measure, has_position, has_invalid_measure, has_measure, with_outputs}
use Rattle.bay_control.specs.Decisions as control
use Rattle.bay_control.specs.Decisions.{after_contact, is_done, expired_switch}
use Rattle.bay_connection.specs.ConnectionStates.{ConnectionState}
use Rattle.bay_mms_services.specs.Bay.{Bay}
use Rattle.bay_device.specs.declared.termination.PendingTermination.{PendingTermination}
use Rattle.bay_device.specs.declared.event.Sent.{Sent}

-- the state of a device: the nameplate and the maximum age of a scan from its bay file, its
-- switches, the names and the values of its inputs, the ids of its meters, the profile of its
-- model; the sources of the points that its program only reads, and of those that it may write,
-- each in the order of the program's points; the machine that runs the program, with its image, its
-- slots and its timers; the rows of its tree; the time of the last accepted event; the time of the
-- last scan, and whether any of its inputs has changed since; whether the process is lost; its
-- controls; the pending reports for the end of an operate; and for each of its eight associations
-- the state of the connection, if it is open
pub record State : Type 0 where
  pub domain : List ℕ
  pub vendor : List ℕ
  pub model : List ℕ
  pub revision : List ℕ
  pub scan_max_age_ms : ℕ
  pub switches : List Switch
  pub inputs : List (List ℕ)
  pub input_values : List Bool
  pub meters : List (List ℕ)
  pub profile : Profile
  pub reads : List Source
  pub writes : List Source
  pub machine : MachineData
  pub rows : List Row
  pub moment : ℕ
  pub last_scan : Option ℕ
  pub is_stale : Bool
  pub is_lost : Bool
  pub controls : control.State
  pub pending : Option PendingTermination
  pub connections : List (Option ConnectionState)

-- the bay as clients see it and control it
abbrev pub bay_of : State → Bay
bay_of s = record {
  domain = s.domain;
  vendor = s.vendor;
  model = s.model;
  revision = s.revision;
  switches = s.switches;
  rows = s.rows;
  inputs = s.input_values;
  controls = s.controls;
}

-- the device with this bay
abbrev pub with_bay : Bay → State → State
with_bay b s = record s {
  domain = b.domain;
  vendor = b.vendor;
  model = b.model;
  revision = b.revision;
  switches = b.switches;
  rows = b.rows;
  input_values = b.inputs;
  controls = b.controls;
}

-- The last scan is recent at a time: there is one, and it is at most `age` milliseconds old.
abbrev pub is_recent : ℕ → ℕ → Option ℕ → Bool
is_recent now age None = false
is_recent now age (Some scan) = nat_le (now - scan) age

-- the last scan is fresh: it is recent enough, and none of its inputs has changed since
abbrev pub is_fresh : ℕ → State → Bool
is_fresh now s = is_recent now s.scan_max_age_ms s.last_scan && not s.is_stale

-- ---- expiry

-- octets as sent to an association, if there are any
abbrev pub sent_to : ℕ → Option (List ℕ) → Option Sent
sent_to a None = None
sent_to a (Some octets) = Some (record { association = a; octets = octets })

-- the report that a switch reached the requested position
abbrev pub reached_report : Option PendingTermination → Option Sent
reached_report None = None
reached_report (Some pending) = sent_to pending.association pending.positive

-- the report that a switch did not reach the requested position in time
abbrev pub missed_report : Option PendingTermination → Option Sent
missed_report None = None
missed_report (Some pending) = sent_to pending.association pending.negative

-- the switch whose execution has expired at a time
abbrev pub expired_at : ℕ → State → Option ℕ
expired_at now s = expired_switch now s.controls.controls s.controls.execution

-- the pending reports, unless an execution has expired
abbrev pub pending_unless : Option ℕ → Option PendingTermination → Option PendingTermination
pending_unless None pending = pending
pending_unless (Some switch) pending = None

-- the report that a switch did not reach the position in time, if its execution has expired
abbrev pub missed_report_if : Option ℕ → Option PendingTermination → Option Sent
missed_report_if None pending = None
missed_report_if (Some switch) pending = missed_report pending

-- the device at a time, after the end of a selection and an execution that have expired
abbrev pub device_at : ℕ → State → State
device_at now s =
    record s {
      controls = control.controls_at now s.controls;
      moment = now;
      pending = pending_unless (expired_at now s) s.pending;
    }

-- the report that the end of an expired execution sends
abbrev pub expiry_report : ℕ → State → Option Sent
expiry_report now s = missed_report_if (expired_at now s) s.pending

-- ---- positions, inputs and measured values: one that changes a value or a quality makes the last
-- scan stale, and after each of them the process is not lost

-- the device after a reported position; if the switch's execution leads to this position, it ends
abbrev pub device_after_contact : ℕ → ℕ → Switch → Dbpos → State → State
device_after_contact now k switch position s =
    let names = switch_names s.switches k switch in
    record s {
      rows = rows_after_contact names position now s.rows;
      is_stale = s.is_stale || not (has_position names.position position s.rows);
      is_lost = false;
      controls = after_contact k position s.controls;
      pending = if is_done k position s.controls.execution then None else s.pending;
    }

-- the report that a switch reached the requested position with this reported position
abbrev pub reached_report_at : ℕ → Dbpos → State → Option Sent
reached_report_at k position s =
    if is_done k position s.controls.execution then reached_report s.pending else None

-- the device with a reported value of an input
abbrev pub with_input : ℕ → ℕ → Bool → State → State
with_input now k value s =
    record s {
      rows = rows_after_input s.profile s.inputs s.switches k value now s.rows;
      input_values = slice_set s.input_values k value;
      is_lost = false;
    }

-- the device after a reported value of an input; if it is another value, the last scan is stale
abbrev pub device_after_input : ℕ → ℕ → Bool → Bool → State → State
device_after_input now k value before s =
    record (with_input now k value s) { is_stale = s.is_stale || not (beq value before) }

-- the device after a measured value of a meter
abbrev pub device_after_measure : ℕ → ℕ → MeterField → ℤ → State → State
device_after_measure now k field value s =
    let names = field_names field (meter_names k) in
    let float = field_float field (float_names k) in
    record s {
      rows = rows_after_measure names float value now s.rows;
      is_stale = s.is_stale || not (has_measure names value s.rows);
      is_lost = false;
    }

-- the device after the report that a measured value of a meter is invalid
abbrev pub device_after_bad_measure : ℕ → ℕ → MeterField → State → State
device_after_bad_measure now k field s =
    let names = field_names field (meter_names k) in
    record s {
      rows = rows_after_bad_measure names now s.rows;
      is_stale = s.is_stale || not (has_invalid_measure names s.rows);
      is_lost = false;
    }

-- the device whose health says whether the process is lost
abbrev pub with_health : ℕ → State → State
with_health now s = record s { rows = rows_after_health s.profile s.is_lost now s.rows }

-- ---- the loss of the process

-- the device with bad positions of the switches, the first of which has index k
abbrev pub positions_lost : ℕ → ℕ → List Switch → State → State
positions_lost now k [] s = s
positions_lost now k (switch ∷ switches) s =
    positions_lost now (k + 1) switches (device_after_contact now k switch Bad s)

-- the device with all inputs FALSE; if one was TRUE, the last scan is stale
abbrev pub inputs_lost : ℕ → State → State
inputs_lost now s =
    record s {
      rows = rows_after_lost_inputs s.profile s.inputs s.switches now s.rows;
      input_values = map (λ _. false) s.input_values;
      is_stale = s.is_stale || is_some (position (λ value. value) s.input_values);
    }

-- the device with all measured values of a meter invalid
abbrev pub meter_lost : ℕ → ℕ → State → State
meter_lost now k s =
    device_after_bad_measure now k PhaseC
    (device_after_bad_measure now k PhaseB (device_after_bad_measure now k PhaseA
    (device_after_bad_measure now k Hz
    (device_after_bad_measure now k TotVAr (device_after_bad_measure now k TotW s)))))

-- the device with all measured values of the meters invalid, the first of which has index k
abbrev pub measures_lost : ℕ → ℕ → List (List ℕ) → State → State
measures_lost now k [] s = s
measures_lost now k (id ∷ ids) s = measures_lost now (k + 1) ids (meter_lost now k s)

-- Each position is bad, each input FALSE and each measured value invalid, and the process is lost.
abbrev pub device_after_loss : ℕ → State → State
device_after_loss now s =
    record (measures_lost now 0 s.meters (inputs_lost now (positions_lost now 0 s.switches s)))
    { is_lost = true }

-- ---- scans

-- the value of a point, from the positions, the inputs or the measured values
abbrev pub point_value : State → Source → Value
point_value s (source.Switch k point) =
    position_value point (position_leaf s.switches s.rows k (slice_get s.switches k))
point_value s (source.Input k) = Truth (unwrap_or (slice_get s.input_values k) false)
point_value s (source.Meter k field) =
    Long (number_of_leaf (measure_leaf s.rows k field (slice_get s.meters k)))

-- the values of the read-only points
abbrev pub inputs_of : State → List Value
inputs_of s = map (point_value s) s.reads

-- the slots and timers after a run of the program, and its number of steps
pub record RunResult : Type 0 where
  pub slots : List Value
  pub timers : List TimerState
  pub steps : ℕ

-- the result of a run that halts; runs of verified code always halt
abbrev pub run_result_of : Ending → RunResult
run_result_of (Halted slots timers steps) = record { slots = slots; timers = timers; steps = steps }
run_result_of (Trapped trap) = record { slots = []; timers = []; steps = 0 }
run_result_of Unfinished = record { slots = []; timers = []; steps = 0 }

-- the run of the machine at a time, from the current values of the read-only points
abbrev pub ending_at : ℕ → State → Ending
ending_at now s =
    run_from s.machine.image.code now (length s.machine.image.code)
    (scan_start s.machine (inputs_of s)) 0

-- the result of one run of the program on the current values
abbrev pub run_result_at : ℕ → State → RunResult
run_result_at now s = run_result_of (ending_at now s)

-- the device after a run, with its interlocking values in the tree
abbrev pub after_run : ℕ → RunResult → State → State
after_run now ran s = record s {
  machine = record s.machine { slots = ran.slots; timers = ran.timers };
  rows = with_outputs s.switches s.writes (outputs_of s.machine.image.points ran.slots) now 0
      s.switches s.rows;
  last_scan = Some now;
  is_stale = false;
}

-- the device after a scan: the program has read its points and run once, and its outputs are the
-- interlocking values
abbrev pub after_scan : ℕ → State → State
after_scan now s = after_run now (run_result_at now s) s
