-- Runs of the machine of typed values.
use Rattle.std.proofs.Common.{◌≡◌, ℕ, zero, suc, ◌+◌, ◌-◌, ◌<◌, ◌≤◌, ℤ, List, [], length, refl, sym, ap, subst, ◌∙◌, arith, Option, Some, None}
use Rattle.std.proofs.lemmas.Option.{same_Some}
use Rattle.std.specs.Prelude.{IsSome, slice_get}
use Rattle.il_image.specs.declared.instr.Instr.{Instr}
use Rattle.il_image.specs.declared.instr.Instr.TheVariants.{Drop}
use Rattle.il_image.specs.declared.timer.TimerState.{TimerState}
use Rattle.il_image.specs.declared.value.Value.{Value}
use Rattle.il_image.specs.Images.{Image}
use Rattle.il_image.specs.Machine.{Continues, Halted, Halts, State, Traps, StepResult, ending_of, run_from, step_at}
use Rattle.il_image.specs.Octets.{AreOctets}
use Rattle.il_image.specs.Reading.{instr_at}
use Rattle.il_image.specs.Tables.{IsHalt, IsSuccessor, Path, slot_types}
use Rattle.il_verify.specs.Verdicts.{IsBudget, IsDepth, IsSafe}
use Rattle.il_verify.proofs.TableLemmas.{leads-on}
use Rattle.il_scan.specs.Scans.{IsWithin}
use Rattle.il_scan.specs.MachineStates.{EncodesAt, EncodesMemory, KeepsSlots, RunsTo, IsAllowedAt, EncodesStateAt, StepsTo, first_state, words_at}
use Rattle.il_scan.specs.Words.{values_of, words_of}
use Rattle.il_scan.specs.WordEffects.{IsReady, Step, Steps, Words, words, words_after, next_offset}
use Rattle.il_scan.proofs.EncodingLemmas.{held-by, held-typed, stand-again}
use Rattle.il_scan.proofs.FetchLemmas.{place-within as octet-within}
use Rattle.il_scan.proofs.StepLemmas.{cells-room, place-within, ready-at, some-at, turned, turned-at}

run-goes : (code : List ℕ) (now most : ℕ) (s after : State) (steps : ℕ)
    → step_at code now s ≡ Continues after
    → run_from code now (suc most) s steps ≡ run_from code now most after (steps + 1)
unfolding run_from
run-goes code now most s after steps e =
    ap (λ (t : StepResult). ending_of t s (steps + 1) (λ a. run_from code now most a (steps + 1))) e

run-halts : (code : List ℕ) (now most : ℕ) (s : State) (steps : ℕ) → step_at code now s ≡ Halts
    → run_from code now (suc most) s steps ≡ Halted s.slots s.timers (steps + 1)
unfolding run_from
run-halts code now most s steps e =
    ap (λ (t : StepResult). ending_of t s (steps + 1) (λ a. run_from code now most a (steps + 1))) e

counts_of : (code : List ℕ) (now most : ℕ) (t : StepResult) (s : State) (slots : List Value)
    (timers : List TimerState) (k n : ℕ)
    → ((a : State) → run_from code now most a (k + 1) ≡ Halted slots timers n → k + 1 < n)
    → ending_of t s (k + 1) (λ a. run_from code now most a (k + 1)) ≡ Halted slots timers n → k < n
counts_of code now most (Continues a) s slots timers k n more e = let h : k + 1 < n =
    more a e in omega arith
counts_of code now most Halts s slots timers k n more e = let same : k + 1 ≡ n = cc in omega arith
counts_of code now most (Traps trap) s slots timers k n more e = absurd cc

run-counts : (code : List ℕ) (now most : ℕ) (s : State) (k : ℕ) (slots : List Value)
    (timers : List TimerState) (n : ℕ) → run_from code now most s k ≡ Halted slots timers n → k < n
unfolding run_from
run-counts code now zero s k slots timers n e = absurd cc
run-counts code now (suc most) s k slots timers n e =
    counts_of code now most (step_at code now s) s slots timers k n
    (λ after. run-counts code now most after (k + 1) slots timers n) e

enough-of : (code : List ℕ) (now most other : ℕ) (t : StepResult) (s : State) (slots : List Value)
    (timers : List TimerState) (k n : ℕ)
    → ((a : State) → run_from code now most a (k + 1) ≡ Halted slots timers n
    → run_from code now other a (k + 1) ≡ Halted slots timers n)
    → ending_of t s (k + 1) (λ a. run_from code now most a (k + 1)) ≡ Halted slots timers n
    → ending_of t s (k + 1) (λ a. run_from code now other a (k + 1)) ≡ Halted slots timers n
enough-of code now most other (Continues a) s slots timers k n more e = more a e
enough-of code now most other Halts s slots timers k n more e = e
enough-of code now most other (Traps trap) s slots timers k n more e = e

-- a run that halts does so with any number of steps that lasts
run-enough : (code : List ℕ) (now most other : ℕ) (s : State) (k : ℕ) (slots : List Value)
    (timers : List TimerState) (n : ℕ) → run_from code now most s k ≡ Halted slots timers n
    → n ≤ k + other → run_from code now other s k ≡ Halted slots timers n
unfolding run_from
run-enough code now zero other s k slots timers n e least = absurd cc
run-enough code now (suc most) zero s k slots timers n e least =
    absurd (let h : k < n = run-counts code now (suc most) s k slots timers n e in omega arith)
run-enough code now (suc most) (suc other) s k slots timers n e least =
    enough-of code now most other (step_at code now s) s slots timers k n
    (λ after f. run-enough code now most other after (k + 1) slots timers n f (omega arith)) e

-- ---- the stack is never deeper

goes-same : (a b : State) → Continues a ≡ Continues b → a ≡ b
goes-same a b e = cc

standing_of : (image : Image) (now : ℕ) (s next : State) → step_at image.code now s ≡ Continues next
    → (to : Option ℕ) (w : Words) → StepsTo image now s to w → IsAllowedAt image next
standing_of image now s next e None w t =
    absurd (let no : Halts ≡ Continues next = sym t.0 ∙ e in cc)
standing_of image now s next e (Some to) w t =
    subst (IsAllowedAt image) (goes-same t.1.0 next (sym t.1.1 ∙ e)) t.1.2.allowed

next-standing : (image : Image) (now : ℕ) → AreOctets image.code → (s next : State)
    → IsAllowedAt image s → step_at image.code now s ≡ Continues next → IsAllowedAt image next
next-standing image now octets s next h e =
    let a = h.agrees.allowed s.offset h.kinds h.here in
    standing_of image now s next e (next_offset a.instr a.next (words_at s).stack)
    (words_after now a.instr (words_at s))
    (turned image now s h a.instr a.next a.here octets
    (next_offset a.instr a.next (words_at s).stack)
    (words_after now a.instr (words_at s)) refl refl)

pub never-deeper : (image : Image) (now : ℕ) → AreOctets image.code → (most : ℕ)
    → IsDepth image most → (count : ℕ) (s : State) → IsAllowedAt image s
    → IsWithin image.code now most count s
never-deeper image now octets most d zero s h =
    let deep : length h.kinds ≤ most = (d.each h.table h.agrees).most s.offset h.kinds h.here in
    let size : length s.cells ≡ length h.kinds = cells-room image now s h in
    omega arith
never-deeper image now octets most d (suc count) s h =
    let deep : length h.kinds ≤ most = (d.each h.table h.agrees).most s.offset h.kinds h.here in
    let size : length s.cells ≡ length h.kinds = cells-room image now s h in (
      omega arith,
      λ next e. never-deeper image now octets most d count next
          (next-standing image now octets s next h e),
    )

-- ---- a run so far

-- The run from the start has come to this place after so many steps.
pub record Comes (image : Image) (now : ℕ) (first : State) (offset steps : ℕ) (w : Words)
    : Type 0 where
  pub state : State
  pub stands : EncodesStateAt image offset w state
  pub same : run_from image.code now (length image.code) first 0
      ≡ run_from image.code now (length image.code - steps) state steps
  pub few : steps ≤ offset
  pub path : Path image.code (steps + 1) offset
  pub kept : KeepsSlots image (words_at first) w
  pub octets : AreOctets image.code

start-standing : (image : Image) (slots : List ℤ) (timers : List TimerState) → IsSafe image
    → EncodesMemory image slots timers → IsAllowedAt image (first_state image slots timers)
start-standing image slots timers safe held =
    record {
      table = safe.table.0;
      agrees = safe.table.1;
      writes = safe.writes;
      kinds = [];
      here = safe.table.1.starts;
      fit = tt;
      typed = held-typed image slots timers held;
    }

-- a run begins with the words of its slots
pub starts : (image : Image) (now : ℕ) (slots : List ℤ) (timers : List TimerState)
    → AreOctets image.code → IsSafe image → EncodesMemory image slots timers
    → Comes image now (first_state image slots timers) 0 0 (words [] slots timers)
starts image now slots timers octets safe held = record {
  state = first_state image slots timers;
  stands = record {
    allowed = start-standing image slots timers safe held;
    there = refl;
    are = ap (λ (w : List ℤ). words [] w timers) (sym held.stand.are);
  };
  same = (let e : length image.code ≡ length image.code - 0 = omega arith in
      ap (λ (n : ℕ). run_from image.code now n (first_state image slots timers) 0) e);
  few = omega arith;
  path = refl;
  kept = λ n only. ap (λ (w : List ℤ). slice_get w n) held.stand.are;
  octets = octets;
}

one-more : (n k : ℕ) → k < n → n - k ≡ suc (n - (k + 1))
one-more n k h = omega arith

path-on : (code : List ℕ) (n from to : ℕ) → Path code n from → IsSuccessor code from to
    → Path code (n + 1) to
path-on code zero from to p s = absurd p
path-on code (suc n) from to p s = let e : suc n + 1 ≡ suc (suc n) =
    omega arith in rw e (from, p, s)

module _ (image : Image) (now : ℕ) (first : State) (offset steps : ℕ) (w : Words)
    (c : Comes image now first offset steps w) (within : offset < length image.code) where
  fuel : length image.code - steps ≡ suc (length image.code - (steps + 1))
  fuel = let few : steps ≤ offset = c.few in one-more (length image.code) steps (omega arith)

  so_far : run_from image.code now (length image.code) first 0
      ≡ run_from image.code now (suc (length image.code - (steps + 1))) c.state steps
  so_far = c.same ∙ ap (λ (n : ℕ). run_from image.code now n c.state steps) fuel

  pub forward : (to : ℕ) (after : Words) → StepsTo image now c.state (Some to) after → offset < to
  forward to after t =
      let on : c.state.offset < to =
      leads-on image.code c.state.offset to t.0.instr t.0.next t.0.here t.0.leads in
      let there : c.state.offset ≡ offset = c.stands.there in
      omega arith

  pub comes-next : (to : ℕ) (after : Words) → StepsTo image now c.state (Some to) after
      → Comes image now first to (steps + 1) after
  comes-next to after t =
      let few : steps ≤ offset = c.few in
      let on : offset < to = forward to after t in
      record {
        state = t.1.0;
        stands = t.1.2;
        same = so_far ∙ run-goes image.code now (length image.code - (steps + 1)) c.state t.1.0
            steps t.1.1;
        few = omega arith;
        path = path-on image.code (steps + 1) offset to c.path
            (subst (λ (q : ℕ). IsSuccessor image.code q to) c.stands.there t.0);
        kept = λ n only. t.2 n only ∙ ap (λ (m : Words). slice_get m.slots n) c.stands.are
            ∙ c.kept n only;
        octets = c.octets;
      }

  module _ (after : Words) (t : StepsTo image now c.state None after) where
    ends : Path image.code (steps + 1) offset × IsHalt image.code offset
    ends = (c.path, subst (IsHalt image.code) c.stands.there t.2)

    pub few-steps : (budget : ℕ) → IsBudget image.code budget → steps + 1 ≤ budget
    few-steps budget b = b.most (steps + 1) (offset, ends.0, ends.1)

    pub halts-so : (most : ℕ) → steps + 1 ≤ most
        → run_from image.code now most first 0 ≡ Halted c.state.slots c.state.timers (steps + 1)
    halts-so most least =
        run-enough image.code now (length image.code) most first 0 c.state.slots c.state.timers
        (steps + 1) (so_far ∙ run-halts image.code now (length image.code - (steps + 1)) c.state
        steps t.0) (omega arith)

    slots-are : after.slots ≡ words_of c.state.slots
    slots-are = ap (λ (m : Words). m.slots) t.1

    timers-are : after.timers ≡ c.state.timers
    timers-are = ap (λ (m : Words). m.timers) t.1

    typed : EncodesMemory image after.slots after.timers
    typed = subst (λ (x : List TimerState). EncodesMemory image after.slots x) (sym timers-are)
        (held-by image after.slots c.state.slots c.state.timers slots-are c.stands.allowed.typed)

    values-are : values_of (slot_types image) after.slots ≡ c.state.slots
    values-are =
        stand-again (slot_types image) after.slots c.state.slots
        (record { are = slots-are; typed = c.stands.allowed.typed.of_types })

pub run-ends : (image : Image) (now : ℕ) (slots : List ℤ) (timers : List TimerState)
    (offset steps : ℕ) (w : Words)
    (c : Comes image now (first_state image slots timers) offset steps w)
    → offset < length image.code
    → IsSafe image → EncodesMemory image slots timers → (after : Words)
    → StepsTo image now c.state None after
    → RunsTo image now slots timers after.slots after.timers (steps + 1)
run-ends image now slots timers offset steps w c within safe held after t =
    let first = first_state image slots timers in
    let values = values-are image now first offset steps w c within after t in
    let times = timers-are image now first offset steps w c within after t in
    record {
      halts = λ most least. halts-so image now first offset steps w c within after t most least
          ∙ ap (λ (v : List Value). Halted v c.state.timers (steps + 1)) (sym values)
          ∙ ap (λ (x : List TimerState). Halted (values_of (slot_types image) after.slots) x
          (steps + 1)) (sym times);
      within = λ budget b. few-steps image now first offset steps w c within after t budget b;
      few = (let few : steps ≤ offset = c.few in omega arith);
      depth = λ most count d. never-deeper image now c.octets most d count first
          (start-standing image slots timers safe held);
      keeps = λ n only. ap (λ (m : Words). slice_get m.slots n) t.1
          ∙ ap (λ (m : Words). slice_get m.slots n) c.stands.are ∙ c.kept n only
          ∙ ap (λ (v : List ℤ). slice_get v n) (sym held.stand.are);
      held = typed image now first offset steps w c within after t;
    }

-- ---- several steps

-- what a place where words stand has
module _ (code : List ℕ) (now offset : ℕ) (w : Words) (octets : AreOctets code)
    (at : EncodesAt code offset w) where
  -- an instruction
  pub at-some : IsSome (instr_at code offset)
  at-some =
      subst (λ (os : List ℕ). IsSome (instr_at os offset)) at.2
      (some-at at.0 now offset w at.1 at.3)

  pub at-within : offset < length code
  at-within = octet-within code offset octets at-some

  module _ (read : Instr × ℕ) (here : instr_at code offset ≡ Some read) where
    here-too : instr_at at.0.code offset ≡ Some read
    here-too = ap (λ (os : List ℕ). instr_at os offset) at.2 ∙ here

    octets-too : AreOctets at.0.code
    octets-too = subst AreOctets (sym at.2) octets

    pub at-ready : IsReady read.0 w
    at-ready = ready-at at.0 now offset w at.1 at.3 read here-too octets-too

    -- what the instruction behind this one needs, which leads to it
    pub at-on : (i : Instr) → read.0 ≡ i → next_offset i read.1 w.stack ≡ Some read.1
        → EncodesAt code read.1 (words_after now read.0 w)
    at-on i is e =
        let on : next_offset read.0 read.1 w.stack ≡ Some read.1 =
        ap (λ (j : Instr). next_offset j read.1 w.stack) is ∙ e in
        let t = turned-at at.0 now offset w at.1 at.3 read here-too octets-too (Some read.1)
        (words_after now read.0 w) (sym on) refl in
        (at.0, t.1.0, at.2, t.1.2)

    pub drop-on : ((next : ℕ) × (instr_at code offset ≡ Some (Drop, next)))
        → EncodesAt code read.1 (words_after now read.0 w)
    drop-on drops =
        at-on Drop (ap (λ (r : Instr × ℕ). r.0) (same_Some read (Drop, drops.0)
        (sym here ∙ drops.1))) refl

-- two instructions are ready where the first leads to the second
pub both-ready : (code : List ℕ) (now offset : ℕ) (w : Words) (octets : AreOctets code)
    → EncodesAt code offset w → (first second : Instr × ℕ) → instr_at code offset ≡ Some first
    → EncodesAt code first.1 (words_after now first.0 w) → instr_at code first.1 ≡ Some second
    → IsReady first.0 w × IsReady second.0 (words_after now first.0 w)
both-ready code now offset w octets at first second here on there = (
  at-ready code now offset w octets at first here,
  at-ready code now first.1 (words_after now first.0 w) octets on second there,
)

-- What steps from a place on come to: a later place, so many steps from the start, or the end.
abbrev pub Reaches : Image → ℕ → State → ℕ → ℕ → Option ℕ → Words → Type 0
Reaches image now first from steps (Some to) after =
    Comes image now first to steps after × (from < to)
Reaches image now first from steps None after =
    (offset : ℕ) × (before : ℕ) × (w : Words) × (c : Comes image now first offset before w)
    × (offset < length image.code) × (steps ≡ before + 1) × StepsTo image now c.state None after

module _ (image : Image) (now : ℕ) (first : State) where
  pub come-within : (offset steps : ℕ) (w : Words) → Comes image now first offset steps w
      → offset < length image.code
  come-within offset steps w c =
      subst (λ (p : ℕ). p < length image.code) c.stands.there
      (place-within image now c.state c.stands.allowed)

  come-turns : (offset steps : ℕ) (w : Words) (c : Comes image now first offset steps w)
      (to : Option ℕ) (after : Words) → Step now image.code offset w to after
      → StepsTo image now c.state to after
  come-turns offset steps w c to after s =
      turned-at image now offset w c.state c.stands (s.instr, s.next) s.here c.octets to after
      s.leads_to s.words_are

  reach-further : (from mid steps : ℕ) (to : Option ℕ) (after : Words) → from < mid
      → Reaches image now first mid steps to after → Reaches image now first from steps to after
  reach-further from mid steps (Some to) after h r =
      (r.0, let on : mid < to = r.1 in omega (arith, h, on))
  reach-further from mid steps None after h r = r

  step-reaches : (offset steps : ℕ) (w : Words) → Comes image now first offset steps w
      → (to : Option ℕ) (after : Words) → Step now image.code offset w to after
      → Reaches image now first offset (steps + 1) to after
  step-reaches offset steps w c (Some to) after s =
      let within = come-within offset steps w c in
      let t = come-turns offset steps w c (Some to) after s in (
        comes-next image now first offset steps w c within to after t,
        forward image now first offset steps w c within to after t,
      )
  step-reaches offset steps w c None after s = (
    offset,
    steps,
    w,
    c,
    come-within offset steps w c,
    refl,
    come-turns offset steps w c None after s,
  )

  steps-reach : (n offset steps : ℕ) (w : Words) → Comes image now first offset steps w
      → (to : Option ℕ) (after : Words) → Steps now image.code n offset w to after
      → Reaches image now first offset (steps + n) to after
  steps-reach zero offset steps w c to after s = absurd s
  steps-reach (suc zero) offset steps w c to after s = step-reaches offset steps w c to after s
  steps-reach (suc (suc n)) offset steps w c to after s =
      let one = step-reaches offset steps w c (Some s.0) s.1 s.2 in
      let rest = steps-reach (suc n) s.0 (steps + 1) s.1 one.0 to after s.3 in
      let sum : steps + 1 + suc n ≡ steps + suc (suc n) = omega arith in
      subst (λ (k : ℕ). Reaches image now first offset k to after) sum
      (reach-further offset s.0 (steps + 1 + suc n) to after one.1 rest)

  -- the same, told of the code and of what was answered
  pub reach : (code : List ℕ) → code ≡ image.code → (n offset steps : ℕ) (w : Words)
      → Comes image now first offset steps w → (to : Option ℕ) (after : Words)
      → Steps now code n offset w to after → (answer : Option ℕ) → to ≡ answer
      → Reaches image now first offset (steps + n) answer after
  reach code same n offset steps w c to after s answer is =
      subst (λ (o : Option ℕ). Reaches image now first offset (steps + n) o after) is
      (steps-reach n offset steps w c to after
      (subst (λ (os : List ℕ). Steps now os n offset w to after) same s))
