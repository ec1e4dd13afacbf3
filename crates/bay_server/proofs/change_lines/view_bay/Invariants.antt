use Rattle.std.proofs.Common.{◌≡◌, ℕ, ◌<◌, ◌≤◌, None, length, get_or}
use Rattle.bay_server.specs.ChangeLines.{switch_view_at}
use Rattle.bay_server.proofs.change_lines.view_bay.Given as goal

abbrev pub invariant-loop-switch : goal.invariant-loop-switch
invariant-loop-switch l = (length l.switches ≡ 32)
    × ((k : ℕ) → k < l.switch
    → get_or l.switches k (record { position = None; release = None }) ≡ switch_view_at l.device k)
    × ((k : ℕ) → l.count ≤ k
    → get_or l.switches k (record { position = None; release = None })
    ≡ record { position = None; release = None })
