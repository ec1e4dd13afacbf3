-- Lemmas on how long turns last.
use Rattle.bay_io.specs.Calls.{WriteCall}
use Rattle.std.proofs.Common.{◌≡◌, ◌∙◌, ◌+◌, ◌-◌, ◌^◌, ◌≤◌, ℕ, List, MatchBool, Option, Some, min, max, ap, subst, refl, arith}
use Rattle.std.proofs.lemmas.Bool.Decides.{nat_tests}
use Rattle.bay_server.specs.Clock.{ClockData, turn_end}
use Rattle.bay_server.specs.Cycle.{TurnsLast}
use Rattle.bay_server.specs.Host.{HostCall}
use Rattle.bay_server.specs.ServeReport.{AwaitsTurn, ServiceState, WaitsForEnd}
use Rattle.bay_server_turn.specs.Calls.{Call}

-- the end of a turn of a clock with a least length
end-of : (c : ClockData) (cycle : ℕ) → c.cycle ≡ Some cycle
    → turn_end c ≡ Some (min (c.steady + cycle) (2 ^ 64 - 1))
end-of c cycle is = rw is refl

-- what is read after a wait is not before its end
later-read : (earlier began now cycle limit time steady : ℕ) → now ≡ max earlier began
    → min (now + cycle) limit ≤ time → time ≤ steady → min (began + cycle) limit ≤ steady
later-read earlier began now cycle limit time steady is late seen = grind (arith, nat_tests)

module _ {L H W : Type 0} (step : L → Call → L → Type 0) (acts : H → HostCall L → H → Type 0)
    (contents : W → Option (List ℕ)) (asks : W → WriteCall → W → Type 0) where
  pub turns-last : TurnsLast step acts contents asks
  turns-last keeps cycle before old after new answer goes next is reads awaits system steady host
      read =
      let kept : after.clock.cycle ≡ Some cycle =
      ap (λ (c : ClockData). c.cycle) goes.clock ∙ is in
      let end = min (after.clock.steady + cycle) (2 ^ 64 - 1) in
      let awaited : AwaitsTurn acts (turn_end after.clock) after.host next.host =
      subst (λ b. MatchBool b (next.host ≡ after.host)
      (AwaitsTurn acts (turn_end after.clock) after.host next.host)) reads awaits.0 in
      let waits : WaitsForEnd acts (Some end) awaited.rested next.host =
      subst (λ e. WaitsForEnd acts e awaited.rested next.host) (end-of after.clock cycle kept)
      awaited.waits in (
        later-read before.clock.steady goes.clocks.steady after.clock.steady cycle (2 ^ 64 - 1)
            (keeps.time next.host) steady (ap (λ (c : ClockData). c.steady) goes.clock)
            (keeps.waits awaited.rested end next.host waits)
            (keeps.reads next.host system steady host read).0,
        ap (λ (b : ServiceState L H). b.clock.cycle) awaits.1 ∙ kept,
      )
