-- How long turns last, on a host that keeps time.
use Rattle.bay_io.specs.Calls.{WriteCall}
use Rattle.std.specs.Prelude.{◌≡◌, ℕ, ◌+◌, ◌-◌, ◌^◌, ◌≤◌, false, min, List, Option, Some, Result}
use Rattle.bay_io.specs.Watched.{WriterState}
use Rattle.bay_io.specs.declared.outbox.WriteFault.{WriteFault}
use Rattle.bay_server.specs.Host.{HostCall, ReadsTimes, WaitsUntil}
use Rattle.bay_server.specs.ServeReport.{AwaitsNext, ServiceState, TurnServed, skips_reads}
use Rattle.bay_server_turn.specs.Calls.{Call}

-- A host keeps time: its steady clock shows neither a time that is past nor one that is still to
-- come, and a wait ends no sooner than at its time.
pub record KeepsTime {L H : Type 0} (acts : H → HostCall L → H → Type 0) : Type 0 where
  pub time : H → ℕ
  pub reads : (before : H) (system steady : ℕ) (after : H)
      → acts before (ReadsTimes system steady) after
      → (time before ≤ steady) × (steady ≤ time after)
  pub waits : (before : H) (end : ℕ) (after : H) → acts before (WaitsUntil end) after
      → end ≤ time after

module _ {L H W : Type 0} (step : L → Call → L → Type 0) (acts : H → HostCall L → H → Type 0)
    (contents : W → Option (List ℕ)) (asks : W → WriteCall → W → Type 0) where
  -- If a turn has a least length, and the next turn does not skip its reads, the steady clock shows
  -- at least this much more at the start of the next turn than it showed at the start of this one, up
  -- to the largest number of 64 bits; and the next turn has the same least length.
  abbrev pub TurnsLast : Type 0
  TurnsLast =
      (keeps : KeepsTime acts) (cycle : ℕ) (before : ServiceState L H) (old : WriterState W)
      (after : ServiceState L H) (new : WriterState W) (answer : Result ℕ WriteFault)
      (goes : TurnServed step acts contents asks before old after new answer)
      (next : ServiceState L H) → before.clock.cycle ≡ Some cycle
      → skips_reads after.process ≡ false → AwaitsNext acts after next
      → (system steady : ℕ) (host : H) → acts next.host (ReadsTimes system steady) host
      → (min (goes.clocks.steady + cycle) (2 ^ 64 - 1) ≤ steady)
      × (next.clock.cycle ≡ Some cycle)
