use Rattle.std.proofs.Common.{◌≡◌, ℕ, ◌<◌, None, length, get_or}
use Rattle.bay_device.specs.LookUps.{enabled_of}
use Rattle.bay_process_port.proofs.releases.ReportedReleases.mark_sent.Given as goal

abbrev pub invariant-loop-index : goal.invariant-loop-index
invariant-loop-index l = (length l.self-inside.releases ≡ 32)
    × ((k : ℕ) → k < l.index → get_or l.self-inside.releases k None ≡ enabled_of l.device k)
