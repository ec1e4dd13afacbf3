-- Timers (IEC 61131-3:2003, table 38).
use Rattle.std.specs.Prelude.{ℕ, ◌≡◌, ◌-◌, ◌<◌, ◌≤◌, ◌⊎◌, Bool, true, false, List, [], ◌∷◌, ◌++◌, min, nat_le, nat_lt}
use Rattle.il_image.specs.declared.timer.TimerPhase.{TimerPhase}
use Rattle.il_image.specs.declared.timer.TimerPhase.TheVariants.{Idle, Held, Since}
use Rattle.il_image.specs.declared.timer.TimerState.{TimerState}
use Rattle.bay_base.specs.declared.types.TimerKind.{TimerKind}
use Rattle.bay_base.specs.declared.types.TimerKind.TheVariants.{OnDelay, OffDelay}

-- ---- IEC 61131-3 table 38: timers

-- a timer before its first call
abbrev pub first_state : TimerKind → TimerState
first_state kind =
    record { kind = kind; input = false; preset = 0; phase = Idle; output = false; elapsed = 0 }

-- the phase after a call with this IN at the moment m
abbrev pub phase_after : TimerKind → Bool → TimerPhase → ℕ → TimerPhase
phase_after OnDelay false phase m = Idle
phase_after OnDelay true Idle m = Since m
phase_after OnDelay true Held m = Since m
phase_after OnDelay true (Since start) m = Since start
phase_after OffDelay true phase m = Held
phase_after OffDelay false Idle m = Idle
phase_after OffDelay false Held m = Since m
phase_after OffDelay false (Since start) m = Since start

-- Q: of a TON TRUE after its delay, of a TOF TRUE while IN is TRUE and until its delay has expired
abbrev pub output_of : TimerKind → ℕ → TimerPhase → ℕ → Bool
output_of kind preset Idle m = false
output_of kind preset Held m = true
output_of OnDelay preset (Since start) m = nat_le preset (m - start)
output_of OffDelay preset (Since start) m = nat_lt (m - start) preset

-- ET: how long the delay has run, at most PT
abbrev pub elapsed_of : ℕ → TimerPhase → ℕ → ℕ
elapsed_of preset Idle m = 0
elapsed_of preset Held m = 0
elapsed_of preset (Since start) m = min (m - start) preset

-- one call at the moment m, with the IN and PT that the timer holds
abbrev pub after_call : TimerState → ℕ → TimerState
after_call t m =
    let phase = phase_after t.kind t.input t.phase m in
    record t {
      phase = phase;
      output = output_of t.kind t.preset phase m;
      elapsed = elapsed_of t.preset phase m;
    }

-- ---- own: lists of calls

-- one call: IN, PT in milliseconds, and its moment
pub record Call : Type 0 where
  pub input : Bool
  pub preset : ℕ
  pub moment : ℕ

-- a timer after calls; the list has the last call first
abbrev pub timer_after : TimerKind → List Call → TimerState
timer_after kind [] = first_state kind
timer_after kind (c ∷ earlier) =
    after_call (record (timer_after kind earlier) { input = c.input; preset = c.preset }) c.moment

-- Each of the calls has this IN.
abbrev pub AllHave : Bool → List Call → Type 0
AllHave input [] = Unit {0}
AllHave input (c ∷ earlier) = (c.input ≡ input) × AllHave input earlier

-- One of the calls has this IN.
abbrev pub SomeHas : Bool → List Call → Type 0
SomeHas input [] = ⊥
SomeHas input (c ∷ earlier) = (c.input ≡ input) ⊎ SomeHas input earlier

-- The last of the calls, if there is one, does not have this IN.
abbrev pub IsBroken : Bool → List Call → Type 0
IsBroken input [] = Unit {0}
IsBroken input (c ∷ earlier) = c.input ≡ input → ⊥

-- The unbroken run of calls with this IN up to the last call begins with `first`.
pub record LastRun (input : Bool) (calls : List Call) (first : Call) : Type 0 where
  pub later : List Call
  pub before : List Call
  pub parts : calls ≡ later ++ first ∷ before
  pub first_has : first.input ≡ input
  pub later_have : AllHave input later
  pub begins : IsBroken input before

-- ---- IEC 61131-3 table 38: when PT has passed

-- The last call has IN TRUE, and at that call PT has passed since the first call of the unbroken
-- run with IN TRUE.
pub record HasPassed (last : Call) (earlier : List Call) : Type 0 where
  pub first : Call
  pub run : LastRun true (last ∷ earlier) first
  pub passed : last.preset ≤ last.moment - first.moment

-- The last call has IN FALSE, an earlier call has IN TRUE, and at the last call less than PT has
-- passed since the first call of the unbroken run with IN FALSE.
pub record HasNotPassed (last : Call) (earlier : List Call) : Type 0 where
  pub first : Call
  pub run : LastRun false (last ∷ earlier) first
  pub held : SomeHas true earlier
  pub less : last.moment - first.moment < last.preset
