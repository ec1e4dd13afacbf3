-- What holds of a supervised process: whose it is, when its words were so, and how long it may be
-- silent.
use Rattle.std.specs.Prelude.{◌≡◌, ◌⊎◌, ℕ, ◌-◌, ◌≤◌, Bool, false, true, List, [], ◌∷◌, ◌++◌, Some}
use Rattle.bay_device.specs.Device.{State}
use Rattle.bay_lines.specs.LineRemovals.{AreLines}
use Rattle.bay_lines.specs.FirstLines.{Whole, first_line_of}
use Rattle.bay_process_port.specs.Ports.{PortData, empty_port, port_reading}
use Rattle.bay_process_port.specs.Uses.{Polls, Takes, Use, all_octets_read}
use Rattle.bay_process_port.specs.Supervised.{SupervisionSettings, WatchData}
use Rattle.bay_process_port.specs.declared.port.Presence.TheVariants.{Absent, Present}
use Rattle.bay_process_port.specs.Introduction.{introduction_moment}
use Rattle.bay_server_turn.specs.Supervised.{timed_line_of}
use Rattle.bay_server_turn.specs.declared.process_input.ProcessEvent.{ProcessEvent}
use Rattle.bay_server_turn.specs.declared.supervised.TimedLine.{TimedLine}

-- ---- no old message

-- The event that a turn takes at a moment is that of a line which names the moment of the event: at
-- most the supervision's milliseconds before the turn or after it, and not before the moment of the
-- last line that was taken. The process has introduced itself.
pub record IsOnTime (s : State) (now : ℕ) (p : PortData) (w : WatchData) (event : ProcessEvent)
    : Type 0 where
  pub introduced : w.introduced ≡ true
  pub line : List ℕ
  pub rest : List ℕ
  pub there : first_line_of p.buffer ≡ Whole line rest
  pub timed : TimedLine
  pub reads : timed_line_of s line ≡ Some timed
  pub event_is : timed.event ≡ Some event
  pub not_old : now - timed.moment ≤ w.settings.limit
  pub not_early : timed.moment - now ≤ w.settings.limit
  pub in_order : w.last ≤ timed.moment

-- ---- the bay of the process

-- turns take lines of a device with this domain and revision
abbrev pub AreOfBay : List ℕ → List ℕ → List Use → Type 0
AreOfBay domain revision [] = Unit {0}
AreOfBay domain revision (Takes s now jump ∷ us) =
    (s.domain ≡ domain) × (s.revision ≡ revision) × AreOfBay domain revision us
AreOfBay domain revision (Polls t s script ∷ us) = AreOfBay domain revision us

-- The octets that the link read since the process was accepted begin with a line with this bay and
-- this key.
pub record IsOfThisBay (sends : Bool) (settings : SupervisionSettings) (domain revision : List ℕ)
    (uses : List Use) : Type 0 where
  pub first : List ℕ
  pub lines : List (List ℕ)
  pub text : List ℕ
  pub rest : List ℕ
  pub are : AreLines (first ∷ lines) text
  pub given : all_octets_read uses (empty_port sends (Some settings) Absent) ≡ text ++ rest
  pub moment : ℕ
  pub introduces : introduction_moment settings.key domain revision first ≡ Some moment

-- ---- silence

-- The process is connected, it has introduced itself, and its last line counts from a moment that
-- is at most the supervision's milliseconds before this one.
pub record IsLive (now : ℕ) (p : PortData) : Type 0 where
  pub here : p.presence ≡ Present
  pub watch : WatchData
  pub watched : p.watch ≡ Some watch
  pub introduced : watch.introduced ≡ true
  pub recent : now - watch.heard ≤ watch.settings.limit

-- A connected process is still so after a turn at this moment has taken what the port has: then the
-- turn does not begin with its loss, its last line, or before the first line its acceptance, counts
-- from a moment at most the supervision's milliseconds before the turn, and the system's clock has
-- gone on by no more than these milliseconds beyond the steady one.
pub record IsBelieved (s : State) (now jump : ℕ) (p : PortData) (w : WatchData) : Type 0 where
  pub not_lost : (port_reading s now jump p).is_lost ≡ false
  pub recent : now - w.heard ≤ w.settings.limit
  pub no_jump : jump ≤ w.settings.limit

-- Otherwise the turn begins with the loss, and takes no line.
abbrev pub IsLostOrBelieved : State → ℕ → ℕ → PortData → Type 0
IsLostOrBelieved s now jump p = (w : WatchData) → p.presence ≡ Present
    → (port_reading s now jump p).port.watch ≡ Some w
    → ((port_reading s now jump p).is_lost ≡ true)
    ⊎ (((port_reading s now jump p).port.presence ≡ Present) × IsBelieved s now jump p w)
