use Rattle.std.proofs.Common.{◌≡◌, ◌-◌, ◌≤◌, [], length, take}
use Rattle.bay_transport.specs.Doings.{run_of}
use Rattle.bay_transport.specs.Assembly.{stream_state_of, IsSound}
use Rattle.bay_transport.proofs.assembly.Assembly.advance.Given as goal

abbrev pub invariant-loop-used : goal.invariant-loop-used
invariant-loop-used l =
    (l.used ≤ length l.piece)
    × IsSound l.self
    × (l.self.number ≡ l.initial.self.number)
    × (run_of l.initial.self.number (stream_state_of l.initial.self) (take l.used l.piece)
    ≡ record { doings = []; state = stream_state_of l.self })
    × (l.self.shown.items ≡ l.initial.self.shown.items)

abbrev pub decreases-loop-used : goal.decreases-loop-used
decreases-loop-used l = length l.piece - l.used
