-- Timers under joins, calls and changes.
use Rattle.std.proofs.Common.{◌≡◌, ◌<◌, ◌≤◌, ◌-◌, ℕ, ℤ, pos, Bool, nat_le, true, false, cond, Option, None, Some, refl, sym, subst, arith}
use Rattle.std.specs.Prelude.{◌≤ℤ◌, int_le, is_some, max, min}
use Rattle.std.proofs.lemmas.Int.{ints}
use Rattle.bay_base.specs.declared.types.TimerKind.{TimerKind}
use Rattle.bay_base.specs.declared.types.TimerKind.TheVariants.{OnDelay, OffDelay}
use Rattle.il_image.specs.declared.timer.TimerPhase.{TimerPhase}
use Rattle.il_image.specs.declared.timer.TimerPhase.TheVariants.{Idle, Held, Since}
use Rattle.il_image.specs.declared.timer.TimerState.{TimerState}
use Rattle.il_image.specs.declared.value.Value.TheVariants.{Truth, Span}
use Rattle.il_image.specs.Timers.{after_call, elapsed_of, output_of, phase_after}
use Rattle.il_range.specs.declared.range.Range.{Range}
use Rattle.il_range.specs.declared.range.Range.TheVariants.{Any, No, Yes, Either, Between, Among}
use Rattle.il_range.specs.declared.delay.KnownDelay.{KnownDelay}
use Rattle.il_range.specs.declared.delay.KnownDelay.TheVariants.{Unknown, Below, Begun, AtLeast}
use Rattle.il_range.specs.declared.timer.KnownTimer.{KnownTimer}
use Rattle.il_range.specs.Ranges.{IsDelay, IsIn, IsKind, IsTimerIn, Setting, delay_onset, is_by}
use Rattle.il_range.specs.Effects.{delay_after, elapsed_after, begun_delay, has_passed, join_delay, join_kind, join_timer, output_after, output_of_tof, timer_after_call, up_to}
use Rattle.il_range.proofs.RangeLemmas.{in-join_left, in-join_right, le-told}

module _ (w : Setting) where
  kind-left : (k : TimerKind) (a b : Option TimerKind) → IsKind k a → IsKind k (join_kind a b)
  kind-left k (Some OnDelay) (Some OnDelay) h = h
  kind-left k (Some OffDelay) (Some OffDelay) h = h
  kind-left k a b h = tt

  kind-right : (k : TimerKind) (a b : Option TimerKind) → IsKind k b → IsKind k (join_kind a b)
  kind-right k (Some OnDelay) (Some OnDelay) h = h
  kind-right k (Some OffDelay) (Some OffDelay) h = h
  kind-right k a b h = tt

  by-begun : (mark : ℕ) (o : Option ℕ) → is_by mark o ≡ true → is_some o ≡ true
  by-begun mark None h = absurd cc
  by-begun mark (Some start) h = refl

  below-more : (now : ℕ) (mark : ℕ) (kind : TimerKind) (phase : TimerPhase) (m n : ℕ) → m ≤ n
      → IsDelay mark now kind phase (Below m) → IsDelay mark now kind phase (Below n)
  below-more now mark kind Idle m n le h = tt
  below-more now mark kind Held m n le h = tt
  below-more now mark kind (Since start) m n le h = omega (arith, h, le)

  least-less : (now : ℕ) (mark : ℕ) (kind : TimerKind) (phase : TimerPhase) (m n : ℕ) → n ≤ m
      → IsDelay mark now kind phase (AtLeast m) → IsDelay mark now kind phase (AtLeast n)
  least-less now mark kind phase m n le h = (h.0, (let far = h.1 in omega (arith, far, le)))

  delay-left : (mark now : ℕ) (kind : TimerKind) (phase : TimerPhase) (a b : KnownDelay)
      → IsDelay mark now kind phase a → IsDelay mark now kind phase (join_delay a b)
  delay-left mark now kind phase Unknown b h = tt
  delay-left mark now kind phase (Below m) (Below n) h =
      below-more now mark kind phase m (max m n) (omega arith) h
  delay-left mark now kind phase (Below m) Unknown h = tt
  delay-left mark now kind phase (Below m) Begun h = tt
  delay-left mark now kind phase (Below m) (AtLeast n) h = tt
  delay-left mark now kind phase Begun Begun h = h
  delay-left mark now kind phase Begun (AtLeast n) h = h
  delay-left mark now kind phase Begun Unknown h = tt
  delay-left mark now kind phase Begun (Below n) h = tt
  delay-left mark now kind phase (AtLeast m) (AtLeast n) h =
      least-less now mark kind phase m (min m n) (omega arith) h
  delay-left mark now kind phase (AtLeast m) Begun h =
      by-begun mark (delay_onset kind phase) h.0
  delay-left mark now kind phase (AtLeast m) Unknown h = tt
  delay-left mark now kind phase (AtLeast m) (Below n) h = tt

  delay-right : (mark now : ℕ) (kind : TimerKind) (phase : TimerPhase) (a b : KnownDelay)
      → IsDelay mark now kind phase b → IsDelay mark now kind phase (join_delay a b)
  delay-right mark now kind phase Unknown b h = tt
  delay-right mark now kind phase (Below m) (Below n) h =
      below-more now mark kind phase n (max m n) (omega arith) h
  delay-right mark now kind phase (Below m) Unknown h = tt
  delay-right mark now kind phase (Below m) Begun h = tt
  delay-right mark now kind phase (Below m) (AtLeast n) h = tt
  delay-right mark now kind phase Begun Begun h = h
  delay-right mark now kind phase Begun (AtLeast n) h =
      by-begun mark (delay_onset kind phase) h.0
  delay-right mark now kind phase Begun Unknown h = tt
  delay-right mark now kind phase Begun (Below n) h = tt
  delay-right mark now kind phase (AtLeast m) (AtLeast n) h =
      least-less now mark kind phase n (min m n) (omega arith) h
  delay-right mark now kind phase (AtLeast m) Begun h = h
  delay-right mark now kind phase (AtLeast m) Unknown h = tt
  delay-right mark now kind phase (AtLeast m) (Below n) h = tt

  pub timer-join_left : (now : ℕ) (t : TimerState) (a b : KnownTimer) → IsTimerIn w now t a
      → IsTimerIn w now t (join_timer a b)
  timer-join_left now t a b h = record {
    of_kind = kind-left t.kind a.kind b.kind h.of_kind;
    in_input = in-join_left w (Truth t.input) a.input b.input h.in_input;
    in_preset = in-join_left w (Span t.preset) a.preset b.preset h.in_preset;
    in_output = in-join_left w (Truth t.output) a.output b.output h.in_output;
    in_elapsed = in-join_left w (Span t.elapsed) a.elapsed b.elapsed h.in_elapsed;
    in_delay = delay-left w.mark now t.kind t.phase a.delay b.delay h.in_delay;
  }

  pub timer-join_right : (now : ℕ) (t : TimerState) (a b : KnownTimer) → IsTimerIn w now t b
      → IsTimerIn w now t (join_timer a b)
  timer-join_right now t a b h = record {
    of_kind = kind-right t.kind a.kind b.kind h.of_kind;
    in_input = in-join_right w (Truth t.input) a.input b.input h.in_input;
    in_preset = in-join_right w (Span t.preset) a.preset b.preset h.in_preset;
    in_output = in-join_right w (Truth t.output) a.output b.output h.in_output;
    in_elapsed = in-join_right w (Span t.elapsed) a.elapsed b.elapsed h.in_elapsed;
    in_delay = delay-right w.mark now t.kind t.phase a.delay b.delay h.in_delay;
  }

  -- the delay of a TON after a call with IN TRUE
  below-since : (now mark : ℕ) (phase : TimerPhase) (n : ℕ)
      → IsDelay mark now OnDelay phase (Below n)
      → IsDelay mark now OnDelay (phase_after OnDelay true phase now) (Below (max 1 n))
  below-since now mark Idle n h = omega arith
  below-since now mark Held n h = omega arith
  below-since now mark (Since start) n h = omega (arith, h)

  -- a TON whose IN stays TRUE keeps the start of its delay, or begins one now
  on-goes : (now mark : ℕ) (phase : TimerPhase) (d : KnownDelay)
      → IsDelay mark now OnDelay phase d
      → IsDelay mark now OnDelay (phase_after OnDelay true phase now) (begun_delay d)
  on-goes now mark Idle (AtLeast n) h = absurd (let none = h.0 in cc)
  on-goes now mark Held (AtLeast n) h = absurd (let none = h.0 in cc)
  on-goes now mark (Since start) (AtLeast n) h = h
  on-goes now mark Idle Unknown h = refl
  on-goes now mark Held Unknown h = refl
  on-goes now mark (Since start) Unknown h = refl
  on-goes now mark Idle (Below n) h = refl
  on-goes now mark Held (Below n) h = refl
  on-goes now mark (Since start) (Below n) h = refl
  on-goes now mark Idle Begun h = refl
  on-goes now mark Held Begun h = refl
  on-goes now mark (Since start) Begun h = refl

  -- the same of a TOF whose IN stays FALSE
  off-goes : (now mark : ℕ) (phase : TimerPhase) (d : KnownDelay)
      → IsDelay mark now OffDelay phase d
      → IsDelay mark now OffDelay (phase_after OffDelay false phase now) (begun_delay d)
  off-goes now mark Idle (AtLeast n) h = h
  off-goes now mark Held (AtLeast n) h = absurd (let none = h.0 in cc)
  off-goes now mark (Since start) (AtLeast n) h = h
  off-goes now mark Idle Unknown h = refl
  off-goes now mark Held Unknown h = refl
  off-goes now mark (Since start) Unknown h = refl
  off-goes now mark Idle (Below n) h = refl
  off-goes now mark Held (Below n) h = refl
  off-goes now mark (Since start) (Below n) h = refl
  off-goes now mark Idle Begun h = refl
  off-goes now mark Held Begun h = refl
  off-goes now mark (Since start) Begun h = refl

  -- a TON whose IN is not known may run on, or begin
  either-on : (now mark : ℕ) (b : Bool) (phase : TimerPhase) (n : ℕ)
      → IsDelay mark now OnDelay phase (Below n)
      → IsDelay mark now OnDelay (phase_after OnDelay b phase now) (Below (max 1 n))
  either-on now mark false phase n h = tt
  either-on now mark true phase n h = below-since now mark phase n h

  delay-called : (k : TimerKind) (b : Bool) (phase : TimerPhase) (m mark : ℕ)
      (known : Option TimerKind) (r : Range) (d : KnownDelay) → IsKind k known
      → IsIn w (Truth b) r → IsDelay mark m k phase d
      → IsDelay mark m k (phase_after k b phase m) (delay_after known r d)
  delay-called k b phase m mark None r d h g y = tt
  delay-called OnDelay b phase m mark (Some OffDelay) r d h g y = absurd (cc)
  delay-called OffDelay b phase m mark (Some OnDelay) r d h g y = absurd (cc)
  delay-called OffDelay true phase m mark (Some OffDelay) No d h g y = absurd g
  delay-called OffDelay false phase m mark (Some OffDelay) No d h g y = off-goes m mark phase d y
  delay-called OffDelay b phase m mark (Some OffDelay) Yes d h g y = tt
  delay-called OffDelay b phase m mark (Some OffDelay) Either d h g y = tt
  delay-called OffDelay b phase m mark (Some OffDelay) Any d h g y = tt
  delay-called OffDelay b phase m mark (Some OffDelay) (Between l u) d h g y = tt
  delay-called OffDelay b phase m mark (Some OffDelay) (Among k s) d h g y = tt
  delay-called OnDelay false phase m mark (Some OnDelay) No d h g y = tt
  delay-called OnDelay true phase m mark (Some OnDelay) No d h g y = absurd g
  delay-called OnDelay false phase m mark (Some OnDelay) Yes d h g y = absurd g
  delay-called OnDelay true phase m mark (Some OnDelay) Yes (Below n) h g y =
      below-since m mark phase n y
  delay-called OnDelay true phase m mark (Some OnDelay) Yes Unknown h g y =
      on-goes m mark phase Unknown y
  delay-called OnDelay true phase m mark (Some OnDelay) Yes Begun h g y =
      on-goes m mark phase Begun y
  delay-called OnDelay true phase m mark (Some OnDelay) Yes (AtLeast n) h g y =
      on-goes m mark phase (AtLeast n) y
  delay-called OnDelay b phase m mark (Some OnDelay) Either (Below n) h g y =
      either-on m mark b phase n y
  delay-called OnDelay b phase m mark (Some OnDelay) Any (Below n) h g y =
      either-on m mark b phase n y
  delay-called OnDelay b phase m mark (Some OnDelay) (Between l u) (Below n) h g y =
      either-on m mark b phase n y
  delay-called OnDelay b phase m mark (Some OnDelay) (Among k s) (Below n) h g y =
      either-on m mark b phase n y
  delay-called OnDelay b phase m mark (Some OnDelay) r d h g y = tt

  -- ---- Q

  -- FALSE or TRUE where a test holds, else either
  of-no : (b sure : Bool) → (sure ≡ true → b ≡ false) → IsIn w (Truth b) (cond sure No Either)
  of-no b false none = tt
  of-no b true none = subst (λ (x : Bool). IsIn w (Truth x) No) (sym (none refl)) tt

  of-yes : (b sure : Bool) → (sure ≡ true → b ≡ true) → IsIn w (Truth b) (cond sure Yes Either)
  of-yes b false all = tt
  of-yes b true all = subst (λ (x : Bool). IsIn w (Truth x) Yes) (sym (all refl)) tt

  -- a delay that has run for less than PT
  short-since : (preset m start below : ℕ) (low high : ℤ) → m - start < below
      → IsIn w (Span preset) (Between low high) → int_le (pos below) low ≡ true
      → nat_le preset (m - start) ≡ false
  short-since preset m start below low high y i s =
      let le : pos below ≤ℤ low = le-told w (pos below) low s in
      let within : low ≤ℤ pos preset = i.0 in
      let less : m - start < preset = omega (arith, ints, y, le, within) in
      grind (arith, less)

  -- PT has passed at a moment
  long-since : (preset m start mark least : ℕ) (low high : ℤ) → nat_le start mark ≡ true
      → least ≤ m - mark → IsIn w (Span preset) (Between low high)
      → int_le high (pos least) ≡ true → preset ≤ m - start
  long-since preset m start mark least low high by far i s =
      let le : high ≤ℤ pos least = le-told w high (pos least) s in
      let within : pos preset ≤ℤ high = i.1 in
      let early : start ≤ mark = grind (arith, by) in
      let small : preset ≤ least = omega (arith, ints, le, within) in
      omega (arith, early, small, far)

  -- Q of a TON whose delay runs
  on-since : (preset m start mark : ℕ) (d : KnownDelay) (p : Range)
      → IsDelay mark m OnDelay (Since start) d → IsIn w (Span preset) p
      → IsIn w (Truth (nat_le preset (m - start))) (has_passed d p)
  on-since preset m start mark (Below n) (Between low high) y i =
      of-no (nat_le preset (m - start)) (int_le (pos n) low)
      (λ s. short-since preset m start n low high y i s)
  on-since preset m start mark (AtLeast n) (Between low high) y i =
      of-yes (nat_le preset (m - start)) (int_le high (pos n))
      (λ s. let le = long-since preset m start mark n low high y.0 y.1 i s in grind (arith, le))
  on-since preset m start mark d p y i = tt

  -- Q of a TON whose delay does not run
  on-idle : (preset m mark : ℕ) (d : KnownDelay) (p : Range) → IsDelay mark m OnDelay Idle d
      → IsIn w (Truth false) (has_passed d p)
  on-idle preset m mark (Below n) (Between low high) y =
      of-no false (int_le (pos n) low) (λ s. refl)
  on-idle preset m mark (AtLeast n) (Between low high) y = absurd (let none = y.0 in cc)
  on-idle preset m mark d p y = tt

  on-output : (b : Bool) (preset m mark : ℕ) (phase : TimerPhase) (d : KnownDelay) (p : Range)
      → IsDelay mark m OnDelay (phase_after OnDelay b phase m) d → IsIn w (Span preset) p
      → IsIn w (Truth (output_of OnDelay preset (phase_after OnDelay b phase m) m))
      (has_passed d p)
  on-output false preset m mark phase d p y i = on-idle preset m mark d p y
  on-output true preset m mark Idle d p y i = on-since preset m m mark d p y i
  on-output true preset m mark Held d p y i = on-since preset m m mark d p y i
  on-output true preset m mark (Since start) d p y i = on-since preset m start mark d p y i

  -- Q of a TOF by what is known of its delay
  of-off : (b sure : Bool) → (sure ≡ true → b ≡ false)
      → IsIn w (Truth b) (output_of_tof (cond sure Yes Either))
  of-off b false none = tt
  of-off b true none = subst (λ (x : Bool). IsIn w (Truth x) No) (sym (none refl)) tt

  no-off : (b sure : Bool) → IsIn w (Truth b) (output_of_tof (cond sure No Either))
  no-off b false = tt
  no-off b true = tt

  off-passed : (preset m mark : ℕ) (phase : TimerPhase) (n : ℕ) (low high : ℤ)
      → IsDelay mark m OffDelay phase (AtLeast n) → IsIn w (Span preset) (Between low high)
      → int_le high (pos n) ≡ true → output_of OffDelay preset phase m ≡ false
  off-passed preset m mark Idle n low high y i s = refl
  off-passed preset m mark Held n low high y i s = absurd (let none = y.0 in cc)
  off-passed preset m mark (Since start) n low high y i s =
      let le = long-since preset m start mark n low high y.0 y.1 i s in grind (arith, le)

  off-output : (preset m mark : ℕ) (phase : TimerPhase) (d : KnownDelay) (p : Range)
      → IsDelay mark m OffDelay phase d → IsIn w (Span preset) p
      → IsIn w (Truth (output_of OffDelay preset phase m)) (output_of_tof (has_passed d p))
  off-output preset m mark phase (AtLeast n) (Between low high) y i =
      of-off (output_of OffDelay preset phase m) (int_le high (pos n))
      (λ s. off-passed preset m mark phase n low high y i s)
  off-output preset m mark phase (Below n) (Between low high) y i =
      no-off (output_of OffDelay preset phase m) (int_le (pos n) low)
  off-output preset m mark phase d p y i = tt

  of-output : (k : TimerKind) (b : Bool) (phase : TimerPhase) (preset m mark : ℕ)
      (known : Option TimerKind) (r p : Range) (d : KnownDelay) → IsKind k known
      → IsIn w (Truth b) r → IsIn w (Span preset) p
      → IsDelay mark m k (phase_after k b phase m) d
      → IsIn w (Truth (output_of k preset (phase_after k b phase m) m))
      (output_after known r (has_passed d p))
  of-output k b phase preset m mark None r p d h g i y = tt
  of-output OnDelay b phase preset m mark (Some OffDelay) r p d h g i y = absurd (cc)
  of-output OffDelay b phase preset m mark (Some OnDelay) r p d h g i y = absurd (cc)
  of-output OnDelay false phase preset m mark (Some OnDelay) No p d h g i y = tt
  of-output OnDelay true phase preset m mark (Some OnDelay) No p d h g i y = absurd g
  of-output OffDelay true phase preset m mark (Some OffDelay) Yes p d h g i y = tt
  of-output OffDelay false phase preset m mark (Some OffDelay) Yes p d h g i y = absurd g
  of-output OnDelay b phase preset m mark (Some OnDelay) Yes p d h g i y =
      on-output b preset m mark phase d p y i
  of-output OnDelay b phase preset m mark (Some OnDelay) Either p d h g i y =
      on-output b preset m mark phase d p y i
  of-output OnDelay b phase preset m mark (Some OnDelay) Any p d h g i y =
      on-output b preset m mark phase d p y i
  of-output OnDelay b phase preset m mark (Some OnDelay) (Between l u) p d h g i y =
      on-output b preset m mark phase d p y i
  of-output OnDelay b phase preset m mark (Some OnDelay) (Among k s) p d h g i y =
      on-output b preset m mark phase d p y i
  of-output OffDelay b phase preset m mark (Some OffDelay) No p d h g i y =
      off-output preset m mark (phase_after OffDelay b phase m) d p y i
  of-output OffDelay b phase preset m mark (Some OffDelay) Either p d h g i y =
      off-output preset m mark (phase_after OffDelay b phase m) d p y i
  of-output OffDelay b phase preset m mark (Some OffDelay) Any p d h g i y =
      off-output preset m mark (phase_after OffDelay b phase m) d p y i
  of-output OffDelay b phase preset m mark (Some OffDelay) (Between l u) p d h g i y =
      off-output preset m mark (phase_after OffDelay b phase m) d p y i
  of-output OffDelay b phase preset m mark (Some OffDelay) (Among k s) p d h g i y =
      off-output preset m mark (phase_after OffDelay b phase m) d p y i

  elapsed-up : (preset m : ℕ) (phase : TimerPhase) → elapsed_of preset phase m ≤ preset
  elapsed-up preset m Idle = omega arith
  elapsed-up preset m Held = omega arith
  elapsed-up preset m (Since start) = omega arith

  of-up_to : (elapsed preset : ℕ) (p : Range) → elapsed ≤ preset → IsIn w (Span preset) p
      → IsIn w (Span elapsed) (up_to p)
  of-up_to elapsed preset (Between low high) less h =
      let most : pos preset ≤ℤ high = h.1 in
      let least : pos 0 ≤ℤ pos elapsed = omega (arith, ints) in
      let within : pos elapsed ≤ℤ high = omega (arith, ints) in (least, within)
  of-up_to elapsed preset p less h = tt

  zero-in : IsIn w (Span 0) (Between (pos 0) (pos 0))
  zero-in = let same : pos 0 ≤ℤ pos 0 = omega (arith, ints) in (same, same)

  of-elapsed : (k : TimerKind) (b : Bool) (phase : TimerPhase) (preset m : ℕ)
      (known : Option TimerKind) (r p : Range) → IsKind k known → IsIn w (Truth b) r
      → IsIn w (Span preset) p
      → IsIn w (Span (elapsed_of preset (phase_after k b phase m) m)) (elapsed_after known r p)
  of-elapsed OnDelay false phase preset m (Some OnDelay) No p h g i = zero-in
  of-elapsed OnDelay true phase preset m (Some OnDelay) No p h g i = absurd g
  of-elapsed OffDelay b phase preset m (Some OnDelay) No p h g i = absurd (cc)
  of-elapsed OffDelay true phase preset m (Some OffDelay) Yes p h g i = zero-in
  of-elapsed OffDelay false phase preset m (Some OffDelay) Yes p h g i = absurd g
  of-elapsed OnDelay b phase preset m (Some OffDelay) Yes p h g i = absurd (cc)
  of-elapsed k b phase preset m known r p h g i =
      of-up_to (elapsed_of preset (phase_after k b phase m) m) preset p
      (elapsed-up preset m (phase_after k b phase m)) i

  of-called : (t : TimerState) (u : KnownTimer) (now : ℕ) → IsTimerIn w now t u
      → IsDelay w.mark now t.kind (phase_after t.kind t.input t.phase now)
      (delay_after u.kind u.input u.delay)
  of-called t u now h =
      delay-called t.kind t.input t.phase now w.mark u.kind u.input u.delay h.of_kind h.in_input
      h.in_delay

  pub timer-called : (t : TimerState) (u : KnownTimer) (now : ℕ) → IsTimerIn w now t u
      → IsTimerIn w now (after_call t now) (timer_after_call u)
  timer-called t u now h = record {
    of_kind = h.of_kind;
    in_input = h.in_input;
    in_preset = h.in_preset;
    in_output = of-output t.kind t.input t.phase t.preset now w.mark u.kind u.input u.preset
        (delay_after u.kind u.input u.delay) h.of_kind h.in_input h.in_preset
        (of-called t u now h);
    in_elapsed = of-elapsed t.kind t.input t.phase t.preset now u.kind u.input u.preset h.of_kind
        h.in_input h.in_preset;
    in_delay = of-called t u now h;
  }
