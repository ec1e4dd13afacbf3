-- The pass: each run that halts stands where something is pending that covers it, or has halted and
-- is covered at the end.
use Rattle.std.proofs.Common.{◌≡◌, ℕ, ◌+◌, ◌<◌, ◌≤◌, Bool, true, false, cond, List, [], length, refl, sym, subst, ◌∙◌, arith, Option, Some, None, slice_get, slice_set, inl, inr, ◌⊎◌}
use Rattle.std.specs.Prelude.{zero, suc}
use Rattle.std.proofs.lemmas.Bool.{cases_eq}
use Rattle.std.proofs.lemmas.Option.{some_pair_parts}
use Rattle.std.proofs.lemmas.Grind.{common_steps}
use Rattle.il_image.specs.declared.instr.Instr.{Instr}
use Rattle.il_image.specs.declared.instr.Instr.TheVariants.{Halt}
use Rattle.il_image.specs.declared.timer.TimerState.{TimerState}
use Rattle.il_image.specs.declared.value.Value.{Value}
use Rattle.il_image.specs.Machine.{Halted, State, StepResult, Continues, Halts, Traps, act, ending_of, initial_state, run_from, step_of_read}
use Rattle.il_image.specs.Offsets.{aligned_instr, is_instruction_offset}
use Rattle.il_image.specs.Reading.{instr_at}
use Rattle.il_range.specs.declared.known.Known.{Known}
use Rattle.il_range.specs.Effects.{KnownData}
use Rattle.il_range.specs.Outcomes.{RunEnds}
use Rattle.il_range.specs.Ranges.{AreIn, AreTimersIn, Setting}
use Rattle.il_range.specs.Pending.{JoinsKnown, Covers, CoversAt, IsCoveredStep, RunState, CoversSteps, CoversStepsAt, run_state, known_view}
use Rattle.il_range.proofs.PendingLemmas.{covers-elsewhere}

-- ---- one place

pub visits-none : (code : List ℕ) (offset : ℕ) (old : List (Option Known))
    → slice_get old offset ≡ Some None → CoversStepsAt code offset old (slice_set old offset None)
visits-none code offset old was = record {
  keeps = λ q ne h c. covers-elsewhere old offset q None h ne c;
  lands = λ instr next now w s at c. absurd (let here = c.here in cc);
}

covers-there : (offset : ℕ) (old : List (Option Known)) (here : Known) (h : RunState)
    → slice_get old offset ≡ Some (Some here) → CoversAt old offset h → Covers (known_view here) h
covers-there offset old here h was c =
    let same : c.known ≡ here = (let at = c.here in cc) in
    subst (λ (s : Known). Covers (known_view s) h) same c.covers

lands-from : (t : StepResult) (least next end : ℕ) (h : RunState) (new : List (Option Known))
    → least ≤ next → IsCoveredStep t next end h new → IsCoveredStep t least end h new
lands-from (Continues s) least next end h new le l =
    let from : next ≤ s.offset = l.0 in let on : least ≤ s.offset = omega arith in (on, l.1)
lands-from Halts least next end h new le l = l
lands-from (Traps trap) least next end h new le l = tt

-- the instruction at a place is one
one-instr : (code : List ℕ) (offset next to : ℕ) (i j : Instr)
    → instr_at code offset ≡ Some (i, next)
    → instr_at code offset ≡ Some (j, to) → (i ≡ j) × (next ≡ to)
one-instr code offset next to i j a b = some_pair_parts i j next to (sym a ∙ b)

pub visits-moves : (code : List ℕ) (instr : Instr) (offset next : ℕ) (old new : List (Option Known))
    (here : Known) → instr_at code offset ≡ Some (instr, next) → offset < next
    → slice_get old offset ≡ Some (Some here)
    → CoversSteps instr next (known_view here) (slice_set old offset None) new
    → CoversStepsAt code offset old new
visits-moves code instr offset next old new here reads forward was m = record {
  keeps = λ q ne h c. m.keeps q h (covers-elsewhere old offset q None h ne c);
  lands = λ j to now w s at c.
      let same = one-instr code offset next to instr j reads at in
      let least : offset + 1 ≤ next = omega arith in
      let mine =
      lands-from (act now instr next s) (offset + 1) next (length code) (run_state now w s) new
      least
      (m.lands now (length code) w s (covers-there offset old here (run_state now w s) was c)) in
      subst (λ (i : Instr). IsCoveredStep (act now i to s) (offset + 1) (length code)
      (run_state now w s) new)
      same.0
      (subst (λ (n : ℕ). IsCoveredStep (act now instr n s) (offset + 1) (length code)
      (run_state now w s) new)
      same.1
      mine);
}

pub visits-halt : (code : List ℕ) (offset next : ℕ) (old new : List (Option Known)) (here : Known)
    → instr_at code offset ≡ Some (Halt, next) → slice_get old offset ≡ Some (Some here)
    → JoinsKnown (slice_set old offset None) new (length code) (known_view here)
    → CoversStepsAt code offset old new
unfolding act
visits-halt code offset next old new here reads was a = record {
  keeps = λ q ne h c. a.keeps q h (covers-elsewhere old offset q None h ne c);
  lands = λ j to now w s at c.
      let same = one-instr code offset next to Halt j reads at in
      let mine : CoversAt new (length code) (run_state now w s) =
      a.brings (run_state now w s) (covers-there offset old here (run_state now w s) was c) in
      subst (λ (i : Instr). IsCoveredStep (act now i to s) (offset + 1) (length code)
      (run_state now w s) new)
      same.0
      mine;
}

-- ---- a run that halts

-- It has halted with these slots and timers, which are covered at the end.
pub record HasHalted (code : List ℕ) (w : Setting) (now : ℕ) (after : List Value)
    (timers : List TimerState)
    (pending : List (Option Known)) : Type 0 where
  pub cells : List Value
  pub covers : CoversAt pending (length code)
      (record { now = now; setting = w; cells = cells; slots = after; timers = timers })

-- It halts as it does from a state at a place from this one on, which is covered.
pub record GoesOn (code : List ℕ) (w : Setting) (now offset : ℕ) (after : List Value)
    (timers : List TimerState)
    (pending : List (Option Known)) : Type 0 where
  pub state : State
  pub most : ℕ
  pub steps : ℕ
  pub steps_after : ℕ
  pub from : offset ≤ state.offset
  pub halts : run_from code now most state steps ≡ Halted after timers steps_after
  pub covers : CoversAt pending state.offset (run_state now w state)

-- the run has halted, or goes on below what is pending
abbrev pub Follows : List ℕ → Setting → ℕ → List Value → List TimerState → ℕ → List (Option Known)
    → Type 0
Follows code w now after timers offset pending =
    HasHalted code w now after timers pending ⊎ GoesOn code w now offset after timers pending

-- what stands at a place, where a step is no trap
read-at : (code : List ℕ) (offset : ℕ) → (aligned_instr code offset ≡ None)
    ⊎ ((i : Instr) × (next : ℕ) × (aligned_instr code offset ≡ Some (i, next))
    × (instr_at code offset ≡ Some (i, next)) × (offset < length code))
unfolding is_instruction_offset
read-at code offset = go (is_instruction_offset code offset) refl (instr_at code offset) refl
  where
    within : is_instruction_offset code offset ≡ true → offset < length code
    within e = grind (arith, common_steps)

    go : (b : Bool) → is_instruction_offset code offset ≡ b → (o : Option (Instr × ℕ))
        → instr_at code offset ≡ o
        → (cond b o None ≡ None)
        ⊎ ((i : Instr) × (next : ℕ) × (cond b o None ≡ Some (i, next))
        × (instr_at code offset ≡ Some (i, next)) × (offset < length code))
    go false is o e = inl refl
    go true is None e = inl refl
    go true is (Some r) e = inr (r.0, r.1, refl, e, within is)

-- the rest of the run, by its next step
follows-turn : (code : List ℕ) (w : Setting) (now least most steps steps_after : ℕ)
    (after : List Value)
    (timers_after : List TimerState) (s : State) (new : List (Option Known)) (t : StepResult)
    → ending_of t s (steps + 1) (λ to. run_from code now most to (steps + 1))
    ≡ Halted after timers_after steps_after
    → IsCoveredStep t least (length code) (run_state now w s) new
    → Follows code w now after timers_after least new
follows-turn code w now least most steps steps_after after timers_after s new (Continues to) e l =
    inr (record {
      state = to;
      most = most;
      steps = steps + 1;
      steps_after = steps_after;
      from = l.0;
      halts = e;
      covers = l.1;
    })
follows-turn code w now least most steps steps_after after timers_after s new Halts e l =
    let same : s.slots ≡ after = cc in
    let same_timers : s.timers ≡ timers_after = cc in
    inl (record {
      cells = s.cells;
      covers = subst (λ (timers : List TimerState). CoversAt new (length code)
          (record { now = now; setting = w; cells = s.cells; slots = after; timers = timers }))
          same_timers
          (subst (λ (slots : List Value). CoversAt new (length code)
          (record { now = now; setting = w; cells = s.cells; slots = slots; timers = s.timers }))
          same l);
    })
follows-turn code w now least most steps steps_after after timers_after s new (Traps trap) e l =
    absurd (cc)

follows-step : (code : List ℕ) (w : Setting) (now offset : ℕ) (after : List Value)
    (old new : List (Option Known))
    → CoversStepsAt code offset old new → (most steps steps_after : ℕ)
    (timers_after : List TimerState) (s : State)
    → run_from code now most s steps ≡ Halted after timers_after steps_after → s.offset ≡ offset
    → CoversAt old offset (run_state now w s)
    → Follows code w now after timers_after (offset + 1) new
unfolding run_from
follows-step code w now offset after old new v zero steps steps_after timers_after s e at c =
    absurd (cc)
follows-step code w now offset after old new v (suc most) steps steps_after timers_after s e at c =
    elim (read-at code s.offset) [
      | inl none ↦ absurd
          (let r = subst (λ (o : Option (Instr × ℕ)). ending_of (step_of_read now o s) s (steps + 1)
          (λ to. run_from code now most to (steps + 1)) ≡ Halted after timers_after steps_after)
          none e in
          cc)
      | inr read ↦
          (let r = subst (λ (o : Option (Instr × ℕ)). ending_of (step_of_read now o s) s (steps + 1)
          (λ to. run_from code now most to (steps + 1)) ≡ Halted after timers_after steps_after)
          read.2
          e in
          follows-turn code w now (offset + 1) most steps steps_after after timers_after s new
          (act now read.0 read.1 s) r
          (v.lands read.0 read.1 now w s
          (subst (λ (n : ℕ). instr_at code n ≡ Some (read.0, read.1)) at read.3) c))
    ]

-- a run that halts stands within the code
halts-within : (code : List ℕ) (now most steps steps_after : ℕ) (after : List Value)
    (timers_after : List TimerState) (s : State)
    → run_from code now most s steps ≡ Halted after timers_after steps_after
    → s.offset < length code
unfolding run_from
halts-within code now zero steps steps_after after timers_after s e = absurd (cc)
halts-within code now (suc most) steps steps_after after timers_after s e =
    elim (read-at code s.offset) [
      | inl none ↦ absurd
          (let r = subst (λ (o : Option (Instr × ℕ)). ending_of (step_of_read now o s) s (steps + 1)
          (λ to. run_from code now most to (steps + 1)) ≡ Halted after timers_after steps_after)
          none e in
          cc)
      | inr read ↦ read.4
    ]

pub follows-next : (code : List ℕ) (w : Setting) (now offset : ℕ) (after : List Value)
    (timers : List TimerState) (old new : List (Option Known)) → offset < length code
    → CoversStepsAt code offset old new → Follows code w now after timers offset old
    → Follows code w now after timers (offset + 1) new
follows-next code w now offset after timers old new less v f = elim f [
  | inl e ↦ inl (record {
    cells = e.cells;
    covers = v.keeps (length code) (λ same. omega arith)
        (record { now = now; setting = w; cells = e.cells; slots = after; timers = timers })
        e.covers;
  })
  | inr g ↦ elim (cases_eq g.state.offset offset) [
    | inl e ↦
        follows-step code w now offset after old new v g.most g.steps g.steps_after
        timers g.state g.halts e
        (subst (λ (n : ℕ). CoversAt old n (run_state now w g.state)) e g.covers)
    | inr ne ↦ inr (record {
      state = g.state;
      most = g.most;
      steps = g.steps;
      steps_after = g.steps_after;
      from = (let least : offset ≤ g.state.offset = g.from in omega arith);
      halts = g.halts;
      covers = v.keeps g.state.offset ne (run_state now w g.state) g.covers;
    })
  ]
]

pub follows-first : (code : List ℕ) (w : Setting) (given after : List Value) (first : KnownData)
    (old new : List (Option Known)) → first.cells ≡ [] → AreIn w given first.slots
    → JoinsKnown old new 0 first → (e : RunEnds code given after)
    → AreTimersIn w e.now e.timers first.timers
    → Follows code w e.now after e.timers_after 0 new
follows-first code w given after first old new empty h a e t = inr (record {
  state = initial_state given e.timers;
  most = e.most;
  steps = 0;
  steps_after = e.steps;
  from = omega arith;
  halts = e.halts;
  covers =
      a.brings (record { now = e.now; setting = w; cells = []; slots = given; timers = e.timers })
      (record { cells = subst (AreIn w []) (sym empty) tt; slots = h; timers = t });
})

-- what is known at the end stands for each run that halts
pub follows-end : (code : List ℕ) (w : Setting) (now : ℕ) (after : List Value)
    (timers : List TimerState)
    (pending : List (Option Known)) (end : Known)
    → slice_get pending (length code) ≡ Some (Some end)
    → Follows code w now after timers (length code) pending
    → AreIn w after end.slots.items × AreTimersIn w now timers end.timers.items
follows-end code w now after timers pending end was f = elim f [
  | inl e ↦
      (let there = covers-there (length code) pending end
      (record { now = now; setting = w; cells = e.cells; slots = after; timers = timers }) was
      e.covers in
      (there.slots, there.timers))
  | inr g ↦ absurd
      (let less = halts-within code now g.most g.steps g.steps_after after timers g.state
      g.halts in
      let least : length code ≤ g.state.offset = g.from in omega arith)
]
