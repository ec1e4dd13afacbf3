-- Small runs of scans, of rules with a time, and of turns in which octets arrive.
use Rattle.std.specs.Prelude.{ℕ, Bool, false, List, [], ◌∷◌, replicate, None, Some, Ok}
use Rattle.bay_base.specs.declared.switch.Operation.TheVariants.{Open}
use Rattle.bay_base.specs.declared.position.Dbpos.TheVariants.{Off}
use Rattle.bay_audit_rules.specs.declared.rule.ConditionItem.TheVariants as items
use Rattle.bay_audit_rules.specs.declared.rule.Timing.{Timing}
use Rattle.bay_tree.specs.declared.leaf.Leaf.TheVariants as leaf
use Rattle.bay_mms_services.specs.Released.{enable_name}
use Rattle.bay_mms_services.specs.declared.answer.Command.{Command}
use Rattle.bay_device.specs.Device.{State}
use Rattle.bay_device.specs.Fresh.{PastEvent}
use Rattle.bay_device.specs.Outcomes.{initial_connection}
use Rattle.bay_device.specs.declared.event.Event.TheVariants.{Contact, Lost, Scan}
use Rattle.bay_device.specs.declared.event.Step.{Step}
use Rattle.bay_server_turn.specs.Calls.{Octets, Silence}
use Rattle.bay_server_turn.specs.Turns.{ServerData, Reading}
use Rattle.bay_server_turn.specs.declared.turn_report.Turn.{Turn}
use Rattle.cmd_serve.specs.Service.{DoneTurn}

-- ---- scans

-- the command to open switch 0
abbrev pub open_command : Command
open_command = record { switch = 0; operation = Open }

-- the device in whose tree EnaOpn of switch 0 has this value, and nothing else
abbrev pub with_enable_value : Bool → State → State
with_enable_value b s = record s {
  rows = record { name = enable_name 0 Open; leaf = Some (leaf.Truth b) } ∷ [];
}

-- a scan at moment 0 that was accepted, and the device after it
abbrev pub scan_past : State → Step → PastEvent
scan_past s step = record {
  now = 0;
  event = Scan;
  answer = Ok (record step { scan = Some 1 });
  after = s;
}

-- a contact that was accepted, and the device after it
abbrev pub contact_past : State → Step → PastEvent
contact_past s step = record {
  now = 0;
  event = Contact 0 Off;
  answer = Ok (record step { scan = None });
  after = s;
}

-- the loss of the process
abbrev pub lost_past : State → Step → PastEvent
lost_past s step = record { now = 0; event = Lost; answer = Ok step; after = s }

-- ---- rules with a time

-- the time of a rule by which a switch waits until its condition, here TRUE in every state, has
-- held for 5 milliseconds
abbrev pub five_milliseconds : Timing
five_milliseconds = record { condition = items.True ∷ []; time = 5 }

-- the device after a last scan at this moment
abbrev pub scanned_at : ℕ → State → State
scanned_at moment s = record s { last_scan = Some moment }

-- ---- turns

-- a server on which association 1 alone is open, and none of its octets has arrived yet
abbrev pub server_with_client : State → ServerData
server_with_client s = record {
  device = record s { moment = 0; connections = Some (initial_connection 1) ∷ replicate 7 None };
  queues = replicate 8 [];
  recording = None;
}

-- a server on which no association is open
abbrev pub server_without_clients : State → ServerData
server_without_clients s = record (server_with_client s) {
  device = record (server_with_client s).device { connections = replicate 8 None };
}

-- no octets of an association arrived
abbrev pub no_octets : Reading
no_octets = record { heard = Silence; choice = None }

-- these octets arrived
abbrev pub octets_arrived : List ℕ → Reading
octets_arrived octets = record { heard = Octets octets; choice = None }

-- these octets arrived, and memory runs out for their first indication
abbrev pub octets_refused : List ℕ → Reading
octets_refused octets = record { heard = Octets octets; choice = Some 0 }

-- a turn in which association 1 brought this, and nothing else happened but a scan
abbrev pub turn_with : Reading → Turn → DoneTurn
turn_with reading reported = record {
  now = 0;
  given = record { is_lost = false; event = None; skips_reads = false };
  script = record {
    source = [];
    accepted = None;
    readings = reading ∷ replicate 7 no_octets;
    offers = replicate 8 (record { takes = []; fails = false });
  };
  reported = reported;
  line = [];
  took = [];
  end = None;
  recording = None;
}
