-- Lemmas on what is printed of what a reader gave.
use Rattle.std.proofs.Common.{◌≡◌, ◌<◌, ◌≤◌, ℕ, Bool, true, false, List, [], length, Option, None, Some, IfSome, Err, ◌⊎◌, inl, inr, refl, sym, ◌∙◌, arith}
use Rattle.bay_io.specs.Calls.{ReadCall}
use Rattle.bay_io.specs.Input.{FailsAs, IsEnded, is_read_failure, octets_of}
use Rattle.bay_io.specs.declared.input.ReadFault.{ReadFault}
use Rattle.bay_io.specs.declared.input.ReadFault.TheVariants.{TooLong, Failed, OutOfMemory}
use Rattle.cmd_replay.specs.Replay.{ReplayReport, ScenarioReport, UnreadInputReport}
use Rattle.cmd_replay.specs.Scenario.{scenario_limit}
use Rattle.bay_report.proofs.ReportLemmas.{chosen, other}

-- the report of what was read
pub read-replay : (input : Option (List ℕ)) (scenario : List ℕ) (failed : Bool) → failed ≡ false
    → IfSome input (λ octets. scenario ≡ octets) → length scenario ≤ scenario_limit
    → (log : Option (List ℕ)) (text : List ℕ) (status : ℕ) → ScenarioReport scenario log text status
    → ReplayReport input failed log text status
read-replay input scenario failed off is within log text status told =
    other _ failed off (inl (scenario, is, within, inl told))

-- why it can't be read
pub unread-replay : (input : Option (List ℕ)) (fault : ReadFault) (failed : Bool)
    → failed ≡ is_read_failure {A = List ℕ} (Err fault)
    → (fault ≡ TooLong → IfSome input (λ octets. scenario_limit < length octets))
    → (fault ≡ OutOfMemory → IfSome input (λ octets. length octets ≤ scenario_limit))
    → (log : Option (List ℕ)) (text : List ℕ) (status : ℕ) → UnreadInputReport fault log text status
    → ReplayReport input failed log text status
unread-replay input TooLong failed off over few log text status told =
    other _ failed off (inr (told, over refl))
unread-replay input (Failed kind) failed on over few log text status told =
    chosen _ failed on (kind, told)
unread-replay None OutOfMemory failed off over few log text status told =
    other _ failed off (inl ([], tt, omega arith, inr told))
unread-replay (Some octets) OutOfMemory failed off over few log text status told =
    other _ failed off (inl (octets, refl, few refl, inr told))

-- what reads gave that came to a fault
pub gave-too-much : (fault : ReadFault) (calls : List ReadCall) → FailsAs scenario_limit calls fault
    → fault ≡ TooLong → scenario_limit < length (octets_of calls)
gave-too-much TooLong calls over is = over
gave-too-much (Failed kind) calls over is = absurd cc
gave-too-much OutOfMemory calls over is = absurd cc

pub gave-few : (fault : ReadFault) (calls : List ReadCall) → FailsAs scenario_limit calls fault
    → fault ≡ OutOfMemory → length (octets_of calls) ≤ scenario_limit
gave-few TooLong calls gave is = absurd cc
gave-few (Failed kind) calls gave is = absurd cc
gave-few OutOfMemory calls gave is = gave.1

pub unread-ended : (fault : ReadFault) (calls : List ReadCall) (failed : Bool)
    → failed ≡ is_read_failure {A = List ℕ} (Err fault) → FailsAs scenario_limit calls fault
    → failed ≡ false → IsEnded calls ⊎ (scenario_limit < length (octets_of calls))
unread-ended TooLong calls failed is over off = inr over
unread-ended (Failed kind) calls failed is gave off =
    absurd (let e : true ≡ false = sym is ∙ off in cc)
unread-ended OutOfMemory calls failed is gave off = inl gave.0
