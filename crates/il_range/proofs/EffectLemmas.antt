-- The effect of an instruction without a jump stands for its step, unless that traps.
use Rattle.std.proofs.Common.{◌≡◌, ℕ, ◌≤◌, Bool, true, false, cond, List, [], ◌∷◌, length, refl, sym, subst, arith, Option, Some, None, slice_get, slice_set}
use Rattle.std.specs.Prelude.{◌&&◌, ◌||◌, not, nat_lt, option_and_then}
use Rattle.std.specs.Ordering.{int_eq}
use Rattle.std.proofs.lemmas.Option.{same_Some}
use Rattle.il_image.specs.declared.arithmetic.ArithmeticOperation.{ArithmeticOperation}
use Rattle.il_image.specs.declared.arithmetic.Width.{Width}
use Rattle.il_image.specs.declared.arithmetic.Width.TheVariants as width
use Rattle.il_image.specs.declared.instr.Instr.{Instr}
use Rattle.il_image.specs.declared.instr.Instr.TheVariants.{Halt, Push, Drop, Slot, Not, Combine, Compute, Compare, Widen, Jump, Timer}
use Rattle.il_image.specs.declared.opcode.SlotUse.TheVariants.{Load, Store, SetIf, ResetIf}
use Rattle.il_image.specs.declared.opcode.Widening.{Widening}
use Rattle.il_image.specs.declared.opcode.Widening.TheVariants.{IntToDint, DintToLint}
use Rattle.il_image.specs.declared.opcode.TimerUse.TheVariants.{SetInput, SetPreset, Run, LoadOutput, LoadElapsed}
use Rattle.il_image.specs.declared.timer.TimerState.{TimerState}
use Rattle.il_image.specs.declared.value.Value.{Value}
use Rattle.il_image.specs.declared.value.Value.TheVariants.{Truth, Short, Long, Wide, Span}
use Rattle.il_image.specs.declared.arithmetic.Comparison.{Comparison}
use Rattle.il_image.specs.declared.opcode.Connective.{Connective}
use Rattle.il_image.specs.declared.opcode.TimerUse.{TimerUse}
use Rattle.bay_base.specs.Types.{same_type}
use Rattle.il_image.specs.Arithmetic.{comparison_holds, computation_of, logic_of}
use Rattle.il_image.specs.Values.{number_of, type_of}
use Rattle.il_image.specs.Machine.{State, Trap, StepResult, Continues, Halts, Traps, FullStack, WrongKind, MissingSlot, MissingTimer, ZeroDivisor, act, as_number, as_truth, changes, divides, is_comparable, pushes, stores, value_of_width, with_slot, most_cells}
use Rattle.il_image.specs.Machine as machine
use Rattle.std.specs.Prelude.{ℤ, pos}
use Rattle.il_image.specs.Timers.{after_call}
use Rattle.il_range.specs.declared.timer.KnownTimer.{KnownTimer}
use Rattle.il_range.proofs.TimerLemmas.{timer-called}
use Rattle.il_range.specs.declared.range.Range.{Range}
use Rattle.il_range.specs.declared.range.Range.TheVariants.{Any, No, Yes, Either, Between, Among}
use Rattle.il_range.specs.declared.known.Known.{Known}
use Rattle.il_range.specs.Ranges.{AreIn, AreTimersIn, IsIn, IsTimerIn, Setting}
use Rattle.il_range.specs.Effects.{KnownData, and_ranges, compare_ranges, compute_range, connect_ranges, known_after, or_ranges, value_range, not_range, timer_after_call, slot_of, timer_of, with_cells, with_input, with_preset, with_timer}
use Rattle.il_range.specs.Pending.{JoinsKnown, Covers, CoversAt, RunState, IsCoveredStep, CoversSteps, run_state}
use Rattle.il_range.proofs.RangeLemmas.{in-exactly, of-both, of-compared, of-connected, of-either, of-negated}
use Rattle.il_range.proofs.NumberLemmas.{of-computed}
use Rattle.il_range.proofs.ListLemmas.{are-get, are-set, each-get, each-set}

-- the step goes to the next place, with what is covered there; or it traps
abbrev NextIs : Setting → StepResult → ℕ → ℕ → KnownData → Type 0
NextIs ps (Continues s) now next p = (s.offset ≡ next) × Covers p (run_state now ps s)
NextIs ps Halts now next p = ⊥
NextIs ps (Traps trap) now next p = Unit {0}

next-if : (ps : Setting) (b : Bool) (t : StepResult) (trap : Trap) (now next : ℕ) (p : KnownData)
    → NextIs ps t now next p
    → NextIs ps (cond b t (Traps trap)) now next p
next-if ps true t trap now next p h = h
next-if ps false t trap now next p h = tt

next-unless : (ps : Setting) (b : Bool) (t : StepResult) (trap : Trap) (now next : ℕ)
    (p : KnownData)
    → NextIs ps t now next p
    → NextIs ps (cond b (Traps trap) t) now next p
next-unless ps true t trap now next p h = tt
next-unless ps false t trap now next p h = h

next-slot : (ps : Setting) (n : ℕ) (s : State) (f : Value → StepResult) (now next : ℕ)
    (p : KnownData)
    → ((v : Value) → slice_get s.slots n ≡ Some v → NextIs ps (f v) now next p)
    → NextIs ps (with_slot n s f) now next p
next-slot ps n s f now next p h = go (slice_get s.slots n) refl
  where
    go : (o : Option Value) → slice_get s.slots n ≡ o
        → NextIs ps (elim o [ None ↦ Traps MissingSlot | Some v ↦ f v ]) now next p
    go None e = tt
    go (Some v) e = h v e

next-timer : (ps : Setting) (n : ℕ) (s : State) (f : TimerState → StepResult) (now next : ℕ)
    (p : KnownData)
    → ((t : TimerState) → slice_get s.timers n ≡ Some t → NextIs ps (f t) now next p)
    → NextIs ps (machine.with_timer n s f) now next p
next-timer ps n s f now next p h = go (slice_get s.timers n) refl
  where
    go : (o : Option TimerState) → slice_get s.timers n ≡ o
        → NextIs ps (elim o [ None ↦ Traps MissingTimer | Some t ↦ f t ]) now next p
    go None e = tt
    go (Some t) e = h t e

-- the range of a slot, and what its effect gives
record Has (n : ℕ) (us : List Range) (f : Range → Option KnownData) (p : KnownData) : Type 0 where
  range : Range
  at : slice_get us n ≡ Some range
  gives : f range ≡ Some p

has : (n : ℕ) (us : List Range) (f : Range → Option KnownData) (p : KnownData)
    → slot_of n us f ≡ Some p → Has n us f p
has n us f p e = go (slice_get us n) refl e
  where
    go : (o : Option Range) → slice_get us n ≡ o → option_and_then f o ≡ Some p → Has n us f p
    go None at e = absurd (cc)
    go (Some r) at e = record { range = r; at = at; gives = e }

abbrev state_of : ℕ → List Value → List Value → List TimerState → State
state_of offset cells slots timers =
    record { offset = offset; cells = cells; slots = slots; timers = timers }

-- the known of a timer, and what its effect gives
record HasTimer (n : ℕ) (us : List KnownTimer) (f : KnownTimer → Option KnownData) (p : KnownData)
    : Type 0 where
  known : KnownTimer
  at : slice_get us n ≡ Some known
  gives : f known ≡ Some p

has-timer : (n : ℕ) (us : List KnownTimer) (f : KnownTimer → Option KnownData) (p : KnownData)
    → timer_of n us f ≡ Some p → HasTimer n us f p
has-timer n us f p e = go (slice_get us n) refl e
  where
    go : (o : Option KnownTimer) → slice_get us n ≡ o → option_and_then f o ≡ Some p
        → HasTimer n us f p
    go None at e = absurd (cc)
    go (Some r) at e = record { known = r; at = at; gives = e }

module _ (ps : Setting) (now next offset : ℕ) (timers : List TimerState) (ts : List KnownTimer)
    (fits : AreTimersIn ps now timers ts) (p : KnownData) where
  abbrev plain_of : List Range → List Range → KnownData
  plain_of rs us = record { cells = rs; slots = us; timers = ts }

  -- the state is covered with these cells, slots and timers
  abbrev DoneWith : List Value → List Value → List TimerState → Type 0
  DoneWith cells slots after =
      Covers p (record { now = now; setting = ps; cells = cells; slots = slots; timers = after })

  abbrev Done : List Value → List Value → Type 0
  Done cells slots = DoneWith cells slots timers

  covers-with : (q : KnownData) (cells slots : List Value) (after : List TimerState)
      → Some q ≡ Some p
      → AreIn ps cells q.cells → AreIn ps slots q.slots → AreTimersIn ps now after q.timers
      → DoneWith cells slots after
  covers-with q cells slots after e h k t =
      subst (λ (r : KnownData). Covers r
      (record { now = now; setting = ps; cells = cells; slots = slots; timers = after }))
      (same_Some q p e) (record { cells = h; slots = k; timers = t })

  covers-along : (rs us : List Range) (cells slots : List Value) → Some (plain_of rs us) ≡ Some p
      → AreIn ps cells rs → AreIn ps slots us → Done cells slots
  covers-along rs us cells slots e h k = covers-with (plain_of rs us) cells slots timers e h k fits

  timers-get : (n : ℕ) (t : TimerState) (u : KnownTimer) → slice_get timers n ≡ Some t
      → slice_get ts n ≡ Some u → IsTimerIn ps now t u
  timers-get n t u at there = each-get (IsTimerIn ps now) timers ts n t u fits at there

  -- a timer has changed
  timer-done : (rs us : List Range) (n : ℕ) (t : TimerState) (u : KnownTimer)
      (cells slots : List Value) → with_timer rs n u (plain_of rs us) ≡ Some p
      → AreIn ps cells rs → AreIn ps slots us → IsTimerIn ps now t u
      → DoneWith cells slots (slice_set timers n t)
  timer-done rs us n t u cells slots e h k is =
      covers-with (record { cells = rs; slots = us; timers = slice_set ts n u }) cells slots
      (slice_set timers n t) e h k (each-set (IsTimerIn ps now) timers ts n t u fits is)

  -- what the step of an instruction comes to
  abbrev Comes : Instr → List Value → List Value → Type 0
  Comes i cells slots = NextIs ps (act now i next (state_of offset cells slots timers)) now next p

  comes-load : (n : ℕ) (rs us : List Range) → known_after (Slot Load n) (plain_of rs us) ≡ Some p
      → (cells slots : List Value) → AreIn ps cells rs → AreIn ps slots us
      → Comes (Slot Load n) cells slots
  unfolding act
  comes-load n rs us e cells slots h k =
      let g = has n us (λ r. with_cells (r ∷ rs) (plain_of rs us)) p e in
      next-slot ps n (state_of offset cells slots timers) _ now next p
      (λ v at. next-if ps (nat_lt (length cells) most_cells) _ FullStack now next p (
        refl,
        covers-along (g.range ∷ rs) us (v ∷ cells) slots g.gives
            (are-get ps slots us n v g.range k at g.at, h) k,
      ))

  comes-store : (n : ℕ) (rs us : List Range) → known_after (Slot Store n) (plain_of rs us) ≡ Some p
      → (cells slots : List Value) → AreIn ps cells rs → AreIn ps slots us
      → Comes (Slot Store n) cells slots
  unfolding act
  comes-store n rs us e [] slots h k =
      next-slot ps n (state_of offset [] slots timers) _ now next p (λ v at. tt)
  comes-store n [] us e (v ∷ cells) slots h k = absurd h
  comes-store n (r ∷ rs) us e (v ∷ cells) slots h k =
      let g = has n us (λ old. Some (plain_of (r ∷ rs) (slice_set us n r))) p e in
      let done : Done (v ∷ cells) (slice_set slots n v) =
      covers-along (r ∷ rs) (slice_set us n r) (v ∷ cells) (slice_set slots n v)
      g.gives h (are-set ps slots us n v r k h.0) in
      next-slot ps n (state_of offset (v ∷ cells) slots timers) _ now next p
      (λ old at. next-if ps (same_type (type_of v) (type_of old))
      (stores n v next (state_of offset (v ∷ cells) slots timers)) WrongKind now next p
      (refl, done))

  -- a slot of a truth changes
  change-next : (old : Value) (n : ℕ) (f : Bool → Bool) (s : State) (range : Range)
      → IsIn ps old range
      → ((o : Bool) → IsIn ps (Truth o) range
      → DoneWith s.cells (slice_set s.slots n (Truth (f o))) s.timers)
      → NextIs ps (as_truth old (λ o. stores n (Truth (f o)) next s)) now next p
  change-next (Truth o) n f s range h k = (refl, k o h)
  change-next old n f s range h k = tt

  comes-set : (n : ℕ) (rs us : List Range) → known_after (Slot SetIf n) (plain_of rs us) ≡ Some p
      → (cells slots : List Value) → AreIn ps cells rs → AreIn ps slots us
      → Comes (Slot SetIf n) cells slots
  unfolding act
  comes-set n [] us e (v ∷ cells) slots h k = absurd h
  comes-set n (r ∷ rs) us e (Truth b ∷ cells) slots h k =
      let g = has n us (λ old. Some (plain_of (r ∷ rs) (slice_set us n (or_ranges r old)))) p e in
      next-slot ps n (state_of offset (Truth b ∷ cells) slots timers) _ now next p
      (λ old at. change-next old n (λ o. b || o) (state_of offset (Truth b ∷ cells) slots timers)
      g.range (are-get ps slots us n old g.range k at g.at)
      (λ o is. covers-along (r ∷ rs) (slice_set us n (or_ranges r g.range))
      (Truth b ∷ cells) (slice_set slots n (Truth (b || o))) g.gives h
      (are-set ps slots us n (Truth (b || o)) (or_ranges r g.range) k
      (of-either ps b o r g.range h.0 is))))
  comes-set n rs us e cells slots h k =
      next-slot ps n (state_of offset cells slots timers) _ now next p (λ v at. tt)

  comes-reset : (n : ℕ) (rs us : List Range)
      → known_after (Slot ResetIf n) (plain_of rs us) ≡ Some p
      → (cells slots : List Value) → AreIn ps cells rs → AreIn ps slots us
      → Comes (Slot ResetIf n) cells slots
  unfolding act
  comes-reset n [] us e (v ∷ cells) slots h k = absurd h
  comes-reset n (r ∷ rs) us e (Truth b ∷ cells) slots h k =
      let g = has n us (λ old. Some
      (plain_of (r ∷ rs) (slice_set us n (and_ranges (not_range r) old)))) p e
      in
      next-slot ps n (state_of offset (Truth b ∷ cells) slots timers) _ now next p
      (λ old at. change-next old n (λ o. not b && o)
      (state_of offset (Truth b ∷ cells) slots timers)
      g.range (are-get ps slots us n old g.range k at g.at)
      (λ o is. covers-along (r ∷ rs) (slice_set us n (and_ranges (not_range r) g.range))
      (Truth b ∷ cells) (slice_set slots n (Truth (not b && o))) g.gives h
      (are-set ps slots us n (Truth (not b && o)) (and_ranges (not_range r) g.range) k
      (of-both ps (not b) o (not_range r) g.range (of-negated ps b r h.0) is))))
  comes-reset n rs us e cells slots h k =
      next-slot ps n (state_of offset cells slots timers) _ now next p (λ v at. tt)

  comes-combine : (c : Connective) (rs us : List Range)
      → known_after (Combine c) (plain_of rs us) ≡ Some p
      → (cells slots : List Value) → AreIn ps cells rs → AreIn ps slots us
      → Comes (Combine c) cells slots
  unfolding act
  comes-combine c [] us e cells slots h k = absurd (cc)
  comes-combine c (r ∷ []) us e cells slots h k = absurd (cc)
  comes-combine c (rb ∷ ra ∷ rs) us e (Truth b ∷ Truth a ∷ cells) slots h k = (
    refl,
    covers-along (connect_ranges c ra rb ∷ rs) us (Truth (logic_of c a b) ∷ cells) slots e
        (of-connected ps c a b ra rb h.1.0 h.0, h.1.1) k,
  )
  comes-combine c (rb ∷ ra ∷ rs) us e [] slots h k = tt
  comes-combine c (rb ∷ ra ∷ rs) us e (v ∷ []) slots h k = tt
  comes-combine c (rb ∷ ra ∷ rs) us e (v ∷ u ∷ cells) slots h k = tt

  comes-compare : (c : Comparison) (rs us : List Range)
      → known_after (Compare c) (plain_of rs us) ≡ Some p
      → (cells slots : List Value) → AreIn ps cells rs → AreIn ps slots us
      → Comes (Compare c) cells slots
  unfolding act
  comes-compare c [] us e cells slots h k = absurd (cc)
  comes-compare c (r ∷ []) us e cells slots h k = absurd (cc)
  comes-compare c (rb ∷ ra ∷ rs) us e [] slots h k = tt
  comes-compare c (rb ∷ ra ∷ rs) us e (v ∷ []) slots h k = tt
  comes-compare c (rb ∷ ra ∷ rs) us e (v ∷ u ∷ cells) slots h k =
      let x = Truth (comparison_holds c (number_of u) (number_of v)) in
      let done : Done (x ∷ cells) slots =
      covers-along (compare_ranges c ra rb ∷ rs) us (x ∷ cells) slots e
      (of-compared ps c u v ra rb h.1.0 h.0, h.1.1) k in
      next-if ps (is_comparable c u v)
      (Continues (state_of next (x ∷ cells) slots timers)) WrongKind now next p (refl, done)

  number-next : (w : Width) (v : Value) (f : ℤ → StepResult)
      → ((z : ℤ) → number_of v ≡ z → NextIs ps (f z) now next p)
      → NextIs ps (as_number w v f) now next p
  number-next width.Int (Short z) f h = h z refl
  number-next width.Dint (Long z) f h = h z refl
  number-next width.Lint (Wide z) f h = h z refl
  number-next w v f h = tt

  comes-compute : (o : ArithmeticOperation) (w : Width) (rs us : List Range)
      → known_after (Compute o w) (plain_of rs us) ≡ Some p
      → (cells slots : List Value) → AreIn ps cells rs → AreIn ps slots us
      → Comes (Compute o w) cells slots
  unfolding act
  comes-compute o w [] us e cells slots h k = absurd (cc)
  comes-compute o w (r ∷ []) us e cells slots h k = absurd (cc)
  comes-compute o w (rb ∷ ra ∷ rs) us e [] slots h k = tt
  comes-compute o w (rb ∷ ra ∷ rs) us e (v ∷ []) slots h k = tt
  comes-compute o w (rb ∷ ra ∷ rs) us e (v ∷ u ∷ cells) slots h k =
      number-next w v _ (λ b is_b. number-next w u _
      (λ a is_a. let x = value_of_width w (computation_of o w a b) in
      let done : Done (x ∷ cells) slots =
      covers-along (compute_range o w ra rb ∷ rs) us (x ∷ cells) slots e
      (of-computed ps o w u v a b ra rb is_a is_b h.1.0 h.0, h.1.1) k in
      next-unless ps (divides o && int_eq b (pos 0))
      (Continues (state_of next (x ∷ cells) slots timers)) ZeroDivisor now next p (refl, done)))

  short-long : (z : ℤ) (r : Range) → IsIn ps (Short z) r → IsIn ps (Long z) r
  short-long z Any h = h
  short-long z No h = h
  short-long z Yes h = h
  short-long z Either h = h
  short-long z (Between l m) h = h
  short-long z (Among k s) h = absurd cc

  long-wide : (z : ℤ) (r : Range) → IsIn ps (Long z) r → IsIn ps (Wide z) r
  long-wide z Any h = h
  long-wide z No h = h
  long-wide z Yes h = h
  long-wide z Either h = h
  long-wide z (Between l m) h = h
  long-wide z (Among k s) h = absurd cc

  comes-widen : (w : Widening) (rs us : List Range)
      → known_after (Widen w) (plain_of rs us) ≡ Some p
      → (cells slots : List Value) → AreIn ps cells rs → AreIn ps slots us
      → Comes (Widen w) cells slots
  unfolding act
  comes-widen w [] us e (v ∷ cells) slots h k = absurd h
  comes-widen IntToDint (r ∷ rs) us e (Short z ∷ cells) slots h k =
      (refl, covers-along (r ∷ rs) us (Long z ∷ cells) slots e (short-long z r h.0, h.1) k)
  comes-widen DintToLint (r ∷ rs) us e (Long z ∷ cells) slots h k =
      (refl, covers-along (r ∷ rs) us (Wide z ∷ cells) slots e (long-wide z r h.0, h.1) k)
  comes-widen w rs us e cells slots h k = tt

  -- a timer changes, and what is known of it
  comes-changed : (n : ℕ) (rs us : List Range) (change : TimerState → TimerState)
      (known : KnownTimer → KnownTimer)
      → ((t : TimerState) (u : KnownTimer) → IsTimerIn ps now t u
      → IsTimerIn ps now (change t) (known u))
      → timer_of n ts (λ u. with_timer rs n (known u) (plain_of rs us)) ≡ Some p
      → (before cells slots : List Value) → AreIn ps cells rs → AreIn ps slots us
      → NextIs ps (machine.with_timer n (state_of offset before slots timers)
      (λ t. changes n (change t) next cells (state_of offset before slots timers))) now next p
  comes-changed n rs us change known fits_in e before cells slots h k =
      let g = has-timer n ts (λ u. with_timer rs n (known u) (plain_of rs us)) p e in
      next-timer ps n (state_of offset before slots timers) _ now next p
      (λ t at. (
        refl,
        timer-done rs us n (change t) (known g.known) cells slots g.gives h k
            (fits_in t g.known (timers-get n t g.known at g.at)),
      ))

  comes-input : (n : ℕ) (rs us : List Range)
      → known_after (Timer SetInput n) (plain_of rs us) ≡ Some p
      → (cells slots : List Value) → AreIn ps cells rs → AreIn ps slots us
      → Comes (Timer SetInput n) cells slots
  unfolding act
  comes-input n [] us e (v ∷ cells) slots h k = absurd h
  comes-input n (r ∷ rs) us e (Truth b ∷ cells) slots h k =
      comes-changed n rs us (λ t. record t { input = b }) (with_input r)
      (λ t u was. record {
        of_kind = was.of_kind;
        in_input = h.0;
        in_preset = was.in_preset;
        in_output = was.in_output;
        in_elapsed = was.in_elapsed;
        in_delay = was.in_delay;
      }) e (Truth b ∷ cells) cells slots h.1 k
  comes-input n rs us e cells slots h k =
      next-timer ps n (state_of offset cells slots timers) _ now next p (λ t at. tt)

  comes-preset : (n : ℕ) (rs us : List Range)
      → known_after (Timer SetPreset n) (plain_of rs us) ≡ Some p
      → (cells slots : List Value) → AreIn ps cells rs → AreIn ps slots us
      → Comes (Timer SetPreset n) cells slots
  unfolding act
  comes-preset n [] us e (v ∷ cells) slots h k = absurd h
  comes-preset n (r ∷ rs) us e (Span d ∷ cells) slots h k =
      comes-changed n rs us (λ t. record t { preset = d }) (with_preset r)
      (λ t u was. record {
        of_kind = was.of_kind;
        in_input = was.in_input;
        in_preset = h.0;
        in_output = was.in_output;
        in_elapsed = was.in_elapsed;
        in_delay = was.in_delay;
      }) e (Span d ∷ cells) cells slots h.1 k
  comes-preset n rs us e cells slots h k =
      next-timer ps n (state_of offset cells slots timers) _ now next p (λ t at. tt)

  -- what is known of a timer is pushed
  comes-read : (n : ℕ) (rs us : List Range) (read : KnownTimer → Range) (f : TimerState → Value)
      → ((t : TimerState) (u : KnownTimer) → IsTimerIn ps now t u → IsIn ps (f t) (read u))
      → timer_of n ts (λ u. with_cells (read u ∷ rs) (plain_of rs us)) ≡ Some p
      → (cells slots : List Value) → AreIn ps cells rs → AreIn ps slots us
      → NextIs ps (machine.with_timer n (state_of offset cells slots timers)
      (λ t. pushes (f t) next (state_of offset cells slots timers))) now next p
  comes-read n rs us read f fits_in e cells slots h k =
      let g = has-timer n ts (λ u. with_cells (read u ∷ rs) (plain_of rs us)) p e in
      next-timer ps n (state_of offset cells slots timers) _ now next p
      (λ t at. let done : Done (f t ∷ cells) slots =
      covers-along (read g.known ∷ rs) us (f t ∷ cells) slots g.gives
      (fits_in t g.known (timers-get n t g.known at g.at), h) k in
      next-if ps (nat_lt (length cells) most_cells)
      (Continues (state_of next (f t ∷ cells) slots timers)) FullStack now next p (refl, done))

  comes-timer : (t : TimerUse) (n : ℕ) (rs us : List Range)
      → known_after (Timer t n) (plain_of rs us) ≡ Some p
      → (cells slots : List Value) → AreIn ps cells rs → AreIn ps slots us
      → Comes (Timer t n) cells slots
  unfolding act
  comes-timer SetInput n rs us e cells slots h k = comes-input n rs us e cells slots h k
  comes-timer SetPreset n rs us e cells slots h k = comes-preset n rs us e cells slots h k
  comes-timer Run n rs us e cells slots h k =
      comes-changed n rs us (λ t. after_call t now) timer_after_call
      (λ t u is. timer-called ps t u now is) e
      cells
      cells slots h k
  comes-timer LoadOutput n rs us e cells slots h k =
      comes-read n rs us (λ u. u.output) (λ t. Truth t.output) (λ t u is. is.in_output) e cells
      slots
      h k
  comes-timer LoadElapsed n rs us e cells slots h k =
      comes-read n rs us (λ u. u.elapsed) (λ t. Span t.elapsed) (λ t u is. is.in_elapsed) e cells
      slots h k

  comes : (i : Instr) (rs us : List Range) → known_after i (plain_of rs us) ≡ Some p
      → (cells slots : List Value) → AreIn ps cells rs → AreIn ps slots us → Comes i cells slots
  unfolding act
  comes Halt rs us e cells slots h k = absurd (cc)
  comes (Push v) rs us e cells slots h k =
      let done : Done (v ∷ cells) slots =
      covers-along (value_range v ∷ rs) us (v ∷ cells) slots e (in-exactly ps v, h) k in
      next-if ps (nat_lt (length cells) most_cells)
      (Continues (state_of next (v ∷ cells) slots timers))
      FullStack
      now next p (refl, done)
  comes Drop [] us e cells slots h k = absurd (cc)
  comes Drop (r ∷ rs) us e [] slots h k = tt
  comes Drop (r ∷ rs) us e (v ∷ cells) slots h k =
      (refl, covers-along rs us cells slots e h.1 k)
  comes (Slot Load n) rs us e cells slots h k = comes-load n rs us e cells slots h k
  comes (Slot Store n) rs us e cells slots h k = comes-store n rs us e cells slots h k
  comes (Slot SetIf n) rs us e cells slots h k = comes-set n rs us e cells slots h k
  comes (Slot ResetIf n) rs us e cells slots h k = comes-reset n rs us e cells slots h k
  comes Not [] us e cells slots h k = absurd (cc)
  comes Not (r ∷ rs) us e (Truth b ∷ cells) slots h k = (
    refl,
    covers-along (not_range r ∷ rs) us (Truth (not b) ∷ cells) slots e
        (of-negated ps b r h.0, h.1) k,
  )
  comes Not (r ∷ rs) us e cells slots h k = tt
  comes (Combine c) rs us e cells slots h k = comes-combine c rs us e cells slots h k
  comes (Compute o w) rs us e cells slots h k = comes-compute o w rs us e cells slots h k
  comes (Compare c) rs us e cells slots h k = comes-compare c rs us e cells slots h k
  comes (Widen w) rs us e cells slots h k = comes-widen w rs us e cells slots h k
  comes (Jump when distance) rs us e cells slots h k = absurd (cc)
  comes (Timer t n) rs us e cells slots h k = comes-timer t n rs us e cells slots h k

next-lands : (t : StepResult) (next end : ℕ) (h : RunState) (p : KnownData)
    (old new : List (Option Known))
    → JoinsKnown old new next p → NextIs h.setting t h.now next p → IsCoveredStep t next end h new
next-lands (Continues s) next end h p old new a is =
    let least : next ≤ s.offset = (let at = is.0 in omega arith) in (
      least,
      subst (λ (n : ℕ). CoversAt new n (run_state h.now h.setting s)) (sym is.0)
          (a.brings (run_state h.now h.setting s) is.1),
    )
next-lands Halts next end h p old new a is = absurd is
next-lands (Traps trap) next end h p old new a is = tt

pub step-moves : (instr : Instr) (next : ℕ) (come after : KnownData) (old new : List (Option Known))
    → known_after instr come ≡ Some after → JoinsKnown old new next after
    → CoversSteps instr next come old new
step-moves instr next come after old new e a = record {
  keeps = a.keeps;
  lands = λ now end ps s c.
      next-lands (act now instr next s) next end (run_state now ps s) after old new a
      (comes ps now next s.offset s.timers come.timers c.timers after instr come.cells come.slots e
      s.cells s.slots c.cells c.slots);
}
