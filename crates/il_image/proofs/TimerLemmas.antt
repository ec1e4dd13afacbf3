-- What Q of a timer says of the calls of it.
use Rattle.std.proofs.Common.{◌≡◌, ◌-◌, ◌⊎◌, inl, inr, Bool, true, false, List, [], ◌∷◌, ◌++◌, refl, sym, ap, subst, ◌∙◌, arith}
use Rattle.std.specs.Prelude.{◌↔◌}
use Rattle.std.proofs.lemmas.Bool.{leb-true, le-leb, ltb-true, lt-ltb}
use Rattle.il_image.specs.declared.timer.TimerPhase.{TimerPhase}
use Rattle.il_image.specs.declared.timer.TimerPhase.TheVariants.{Idle, Held, Since}
use Rattle.bay_base.specs.declared.types.TimerKind.{TimerKind}
use Rattle.bay_base.specs.declared.types.TimerKind.TheVariants.{OnDelay, OffDelay}
use Rattle.il_image.specs.Timers.{Call, AllHave, SomeHas, timer_after, phase_after, output_of, IsBroken, LastRun, HasPassed, HasNotPassed}

-- ---- unbroken runs

one-run : (input : Bool) (c : Call) (before : List Call) → c.input ≡ input → IsBroken input before
    → LastRun input (c ∷ before) c
one-run input c before has begins =
    record {
      later = [];
      before = before;
      parts = refl;
      first_has = has;
      later_have = tt;
      begins = begins;
    }

longer : (input : Bool) (c first : Call) (calls : List Call) → c.input ≡ input
    → LastRun input calls first → LastRun input (c ∷ calls) first
longer input c first calls has run = record {
  later = c ∷ run.later;
  before = run.before;
  parts = ap (λ xs. c ∷ xs) run.parts;
  first_has = run.first_has;
  later_have = (has, run.later_have);
  begins = run.begins;
}

-- The list after a first call that is no part of an unbroken run is not broken there.
not-broken : (input : Bool) (later before : List Call) (first : Call) → first.input ≡ input
    → AllHave input later → IsBroken input (later ++ first ∷ before) → ⊥
not-broken input [] before first has all broken = broken has
not-broken input (c ∷ later) before first has all broken = broken all.0

same-first : (input : Bool) (xs bs ys ds : List Call) (a d : Call) → xs ++ a ∷ bs ≡ ys ++ d ∷ ds
    → a.input ≡ input → d.input ≡ input → AllHave input xs → AllHave input ys → IsBroken input bs
    → IsBroken input ds → a ≡ d
same-first input [] bs [] ds a d e p q all every begins starts = cc
same-first input [] bs (y ∷ ys) ds a d e p q all every begins starts =
    let same : bs ≡ ys ++ d ∷ ds = cc in
    absurd (not-broken input ys ds d q every.1 (subst (IsBroken input) same begins))
same-first input (x ∷ xs) bs [] ds a d e p q all every begins starts =
    let same : xs ++ a ∷ bs ≡ ds = cc in
    absurd (not-broken input xs bs a p all.1 (subst (IsBroken input) (sym same) starts))
same-first input (x ∷ xs) bs (y ∷ ys) ds a d e p q all every begins starts =
    let same : xs ++ a ∷ bs ≡ ys ++ d ∷ ds = cc in
    same-first input xs bs ys ds a d same p q all.1 every.1 begins starts

pub one-first : (input : Bool) (calls : List Call) (a d : Call) → LastRun input calls a
    → LastRun input calls d → a ≡ d
one-first input calls a d r s =
    same-first input r.later r.before s.later s.before a d (sym r.parts ∙ s.parts) r.first_has
    s.first_has r.later_have s.later_have r.begins s.begins

-- ---- the on-delay timer

-- what the phase of a TON says of its calls
abbrev Delays : TimerPhase → List Call → Type 0
Delays Idle calls = IsBroken true calls
Delays Held calls = ⊥
Delays (Since start) calls = (first : Call) × LastRun true calls first × (first.moment ≡ start)

on-step : (c : Call) (calls : List Call) (input : Bool) (phase : TimerPhase) → c.input ≡ input
    → Delays phase calls → Delays (phase_after OnDelay input phase c.moment) (c ∷ calls)
on-step c calls false phase is h = λ e. absurd cc
on-step c calls true Idle is h = (c, one-run true c calls is h, refl)
on-step c calls true Held is h = absurd h
on-step c calls true (Since start) is h = (h.0, longer true c h.0 calls is h.1, h.2)

kind-kept : (kind : TimerKind) (calls : List Call) → (timer_after kind calls).kind ≡ kind
kind-kept kind [] = refl
kind-kept kind (c ∷ calls) = kind-kept kind calls

on-phase : (calls : List Call) → Delays (timer_after OnDelay calls).phase calls
on-phase [] = tt
on-phase (c ∷ calls) =
    rw (kind-kept OnDelay calls)
    (on-step c calls c.input (timer_after OnDelay calls).phase refl (on-phase calls))

on-output : (c : Call) (calls : List Call) (phase : TimerPhase) → Delays phase (c ∷ calls)
    → (output_of OnDelay c.preset phase c.moment ≡ true) ↔ HasPassed c calls
on-output c calls Idle h = (
  (λ e. absurd cc),
  (λ p. absurd
      (not-broken true p.run.later p.run.before p.first p.run.first_has p.run.later_have
      (subst (IsBroken true) p.run.parts h))),
)
on-output c calls Held h = absurd h
on-output c calls (Since start) h = (
  (λ e. record {
    first = h.0;
    run = h.1;
    passed = rw h.2 (leb-true c.preset (c.moment - start) e);
  }),
  (λ p. le-leb c.preset (c.moment - start)
      (let same : p.first.moment ≡ start =
      ap (λ (d : Call). d.moment) (one-first true (c ∷ calls) p.first h.0 p.run h.1) ∙ h.2 in
      omega (arith, p.passed))),
)

pub on_delay : (last : Call) (earlier : List Call)
    → ((timer_after OnDelay (last ∷ earlier)).output ≡ true) ↔ HasPassed last earlier
on_delay last earlier =
    rw (kind-kept OnDelay earlier)
    (on-output last earlier (phase_after OnDelay last.input (timer_after OnDelay earlier).phase
    last.moment) (on-step last earlier last.input (timer_after OnDelay earlier).phase refl
    (on-phase earlier)))

-- ---- the off-delay timer

all-or-some : (calls : List Call) → AllHave false calls → SomeHas true calls → ⊥
all-or-some [] all some = some
all-or-some (c ∷ calls) all (inl e) = absurd cc
all-or-some (c ∷ calls) all (inr some) = all-or-some calls all.1 some

abbrev LastIs : Bool → List Call → Type 0
LastIs input [] = ⊥
LastIs input (c ∷ calls) = c.input ≡ input

-- what the phase of a TOF says of its calls
abbrev Holds : TimerPhase → List Call → Type 0
Holds Idle calls = AllHave false calls
Holds Held calls = LastIs true calls
Holds (Since start) calls =
    ((first : Call) × LastRun false calls first × (first.moment ≡ start)) × SomeHas true calls

broken-last : (calls : List Call) → LastIs true calls → IsBroken false calls × SomeHas true calls
broken-last [] h = absurd h
broken-last (c ∷ calls) h = ((λ e. absurd cc), inl h)

off-step : (c : Call) (calls : List Call) (input : Bool) (phase : TimerPhase) → c.input ≡ input
    → Holds phase calls → Holds (phase_after OffDelay input phase c.moment) (c ∷ calls)
off-step c calls true phase is h = is
off-step c calls false Idle is h = (is, h)
off-step c calls false Held is h = let b =
    broken-last calls h in ((c, one-run false c calls is b.0, refl), inr b.1)
off-step c calls false (Since start) is h =
    ((h.0.0, longer false c h.0.0 calls is h.0.1, h.0.2), inr h.1)

off-phase : (calls : List Call) → Holds (timer_after OffDelay calls).phase calls
off-phase [] = tt
off-phase (c ∷ calls) =
    rw (kind-kept OffDelay calls)
    (off-step c calls c.input (timer_after OffDelay calls).phase refl (off-phase calls))

run-is-false : (c : Call) (calls later before : List Call) (first : Call)
    → c ∷ calls ≡ later ++ first ∷ before → first.input ≡ false → AllHave false later
    → c.input ≡ false
run-is-false c calls [] before first parts has all = cc
run-is-false c calls (d ∷ later) before first parts has all = let e = all.0 in cc

not-false : (b : Bool) → b ≡ true → b ≡ false → ⊥
not-false b e d = absurd cc

off-output : (c : Call) (calls : List Call) (phase : TimerPhase) → Holds phase (c ∷ calls)
    → (output_of OffDelay c.preset phase c.moment ≡ true)
    ↔ ((c.input ≡ true) ⊎ HasNotPassed c calls)
off-output c calls Idle h = (
  (λ e. absurd cc),
  (λ p.
      elim p [
        | inl e ↦ absurd (not-false c.input e h.0)
        | inr q ↦ absurd (all-or-some calls h.1 q.held)
      ]),
)
off-output c calls Held h = ((λ e. inl h), (λ p. refl))
off-output c calls (Since start) h =
    let no : c.input ≡ true → ⊥ =
    λ e. not-false c.input e
    (run-is-false c calls h.0.1.later h.0.1.before h.0.0 h.0.1.parts h.0.1.first_has
    h.0.1.later_have) in
    let held : SomeHas true calls = elim h.1 [ inl e ↦ absurd (no e) | inr some ↦ some ] in (
      (λ e. inr
          (record {
            first = h.0.0;
            run = h.0.1;
            held = held;
            less = rw h.0.2 (ltb-true (c.moment - start) c.preset e);
          })),
      (λ p. elim p [
        | inl e ↦ absurd (no e)
        | inr q ↦ lt-ltb (c.moment - start) c.preset
            (let same : q.first.moment ≡ start =
            ap (λ (d : Call). d.moment) (one-first false (c ∷ calls) q.first h.0.0 q.run h.0.1)
            ∙ h.0.2 in omega (arith, q.less))
      ]),
    )

pub off_delay : (last : Call) (earlier : List Call)
    → ((timer_after OffDelay (last ∷ earlier)).output ≡ true)
    ↔ ((last.input ≡ true) ⊎ HasNotPassed last earlier)
off_delay last earlier =
    rw (kind-kept OffDelay earlier)
    (off-output last earlier
    (phase_after OffDelay last.input (timer_after OffDelay earlier).phase last.moment)
    (off-step last earlier last.input (timer_after OffDelay earlier).phase refl
    (off-phase earlier)))
