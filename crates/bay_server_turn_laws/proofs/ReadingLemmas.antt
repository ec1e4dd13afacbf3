-- How many associations a turn reads.
use Rattle.std.proofs.Common.{ℕ, ◌≡◌, ◌≤◌, Bool, true, false, cond, arith}
use Rattle.bay_server_turn.specs.Served.{reading_count}
use Rattle.bay_server_turn.specs.declared.process_input.ProcessReport.{ProcessReport}

-- a turn reads eight associations at most
pub few-read : (given : ProcessReport) (n : ℕ) → n ≡ reading_count given → n ≤ 8
few-read given n is = by-skips given.skips_reads is
  where
    by-skips : (b : Bool) → n ≡ cond b 0 8 → n ≤ 8
    by-skips true is = omega (arith, is)
    by-skips false is = omega (arith, is)
