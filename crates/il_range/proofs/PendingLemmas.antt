-- What is pending.
use Rattle.std.proofs.Common.{◌≡◌, ℕ, ◌+◌, ◌<◌, ◌≤◌, Bool, true, false, cond, List, [], ◌∷◌, length, reverse, refl, sym, ap, subst, ◌∙◌, arith, Option, Some, slice_get, slice_set, inl, inr}
use Rattle.std.specs.Prelude.{zero, suc, not}
use Rattle.std.proofs.lemmas.Bool.{cases_eq}
use Rattle.std.proofs.lemmas.List.{length-reverse}
use Rattle.il_image.specs.declared.instr.Instr.TheVariants.{Jump}
use Rattle.il_image.specs.declared.opcode.When.TheVariants.{Always, IfTrue, IfFalse}
use Rattle.il_image.specs.declared.timer.TimerState.{TimerState}
use Rattle.il_image.specs.declared.value.Value.{Value}
use Rattle.il_image.specs.declared.value.Value.TheVariants.{Truth}
use Rattle.il_image.specs.Machine.{Continues, act, jumps_where}
use Rattle.il_image.proofs.SetLemmas.{set-here, set-elsewhere}
use Rattle.il_range.specs.declared.known.Known.{Known}
use Rattle.il_range.specs.declared.range.Range.{Range}
use Rattle.il_range.specs.declared.range.Range.TheVariants.{No, Yes}
use Rattle.il_range.specs.Effects.{KnownData, join, join_timer, join_lists, not_range}
use Rattle.il_range.specs.Ranges.{AreIn, AreTimersIn, IsIn, IsTimerIn, Setting}
use Rattle.il_range.specs.Pending.{Branches, RunState, run_state, Covers, CoversAt, IsJoin, IsCoveredBy, JoinsKnown, IsCoveredStep, CoversSteps, known_view}
use Rattle.il_range.proofs.RangeLemmas.{in-join_left, in-join_right, of-negated}
use Rattle.il_range.proofs.ListLemmas.{each-left, each-right, joined-reverse}
use Rattle.il_range.proofs.TimerLemmas.{timer-join_left, timer-join_right}

pub set-twice : {A : Type 0} (xs : List A) (i : ℕ) (v w : A)
    → slice_set (slice_set xs i v) i w ≡ slice_set xs i w
set-twice [] i v w = refl
set-twice (x ∷ xs) zero v w = refl
set-twice {A = A} (x ∷ xs) (suc i) v w = ap (λ (l : List A). x ∷ l) (set-twice xs i v w)

-- ---- joins

cells-joined : (one other both : Known) → IsJoin one other both
    → reverse both.cells.items
    ≡ join_lists join (reverse one.cells.items) (reverse other.cells.items)
cells-joined one other both j =
    ap reverse j.cells ∙ joined-reverse join one.cells.items other.cells.items j.depth

pub under-left : (one other both : Known) → IsJoin one other both
    → IsCoveredBy (known_view one) (known_view both)
under-left one other both j h c = record {
  cells = subst (AreIn h.setting h.cells) (sym (cells-joined one other both j))
      (each-left (IsIn h.setting) join (in-join_left h.setting) h.cells (reverse one.cells.items)
      (reverse other.cells.items) c.cells);
  slots = subst (AreIn h.setting h.slots) (sym j.slots)
      (each-left (IsIn h.setting) join (in-join_left h.setting) h.slots one.slots.items
      other.slots.items c.slots);
  timers = subst (AreTimersIn h.setting h.now h.timers) (sym j.timers)
      (each-left (IsTimerIn h.setting h.now) join_timer (timer-join_left h.setting h.now) h.timers
      one.timers.items
      other.timers.items
      c.timers);
}

pub under-right : (one other both : Known) → IsJoin one other both
    → IsCoveredBy (known_view other) (known_view both)
under-right one other both j h c = record {
  cells = subst (AreIn h.setting h.cells) (sym (cells-joined one other both j))
      (each-right (IsIn h.setting) join (in-join_right h.setting) h.cells
      (reverse one.cells.items)
      (reverse other.cells.items)
      (length-reverse one.cells.items ∙ j.depth ∙ sym (length-reverse other.cells.items)) c.cells);
  slots = subst (AreIn h.setting h.slots) (sym j.slots)
      (each-right (IsIn h.setting) join (in-join_right h.setting) h.slots one.slots.items
      other.slots.items j.size c.slots);
  timers = subst (AreTimersIn h.setting h.now h.timers) (sym j.timers)
      (each-right (IsTimerIn h.setting h.now) join_timer (timer-join_right h.setting h.now)
      h.timers one.timers.items
      other.timers.items j.count c.timers);
}

-- ---- a path comes to a place

pub covers-elsewhere : (old : List (Option Known)) (offset q : ℕ) (w : Option Known) (h : RunState)
    → (q ≡ offset → ⊥) → CoversAt old q h → CoversAt (slice_set old offset w) q h
covers-elsewhere old offset q w h ne c = record {
  known = c.known;
  here = set-elsewhere old offset q w ne ∙ c.here;
  covers = c.covers;
}

-- what is joined at a place covers what comes there
pub arrived : (old : List (Option Known)) (offset : ℕ) (o w : Option Known) (come known : Known)
    → offset < length old → slice_get old offset ≡ Some o
    → IsCoveredBy (known_view known) (known_view come)
    → ((s : Known) → o ≡ Some s → IsCoveredBy (known_view s) (known_view come))
    → JoinsKnown old (slice_set (slice_set old offset w) offset (Some come)) offset
    (known_view known)
arrived old offset o w come known less was brings keeps =
    subst (λ (new : List (Option Known)). JoinsKnown old new offset (known_view known))
    (sym (set-twice old offset w (Some come)))
    (record {
      keeps = λ q h c. elim (cases_eq q offset) [
        | inl e ↦
            (let is : o ≡ Some c.known =
            (let at : slice_get old offset ≡ Some (Some c.known) =
            subst (λ (n : ℕ). slice_get old n ≡ Some (Some c.known)) e c.here in cc) in
            record {
              known = come;
              here = subst (λ (n : ℕ). slice_get (slice_set old offset (Some come)) n
                  ≡ Some (Some come)) (sym e) (set-here old offset (Some come) less);
              covers = keeps c.known is h c.covers;
            })
        | inr ne ↦ covers-elsewhere old offset q (Some come) h ne c
      ];
      brings = λ h c. record {
        known = come;
        here = set-here old offset (Some come) less;
        covers = brings h c;
      };
    })

-- ---- jumps

pub always-moves : (distance next : ℕ) (come : KnownData) (old new : List (Option Known))
    → JoinsKnown old new (next + distance) come
    → CoversSteps (Jump Always distance) next come old new
unfolding act
always-moves distance next come old new a = record {
  keeps = a.keeps;
  lands = λ now end w s c.
      let least : next ≤ next + distance = omega arith in (least, a.brings (run_state now w s) c);
}

-- where a jump that depends on a truth lands
lands-by : (jumps : Range) (distance next end offset : ℕ) (come : KnownData)
    (old new : List (Option Known)) (h : RunState) → Branches jumps distance next come old new
    → Covers come h → (j : Bool) → IsIn h.setting (Truth j) jumps
    → offset ≡ cond j (next + distance) next
    → IsCoveredStep (Continues
    (record { offset = offset; cells = h.cells; slots = h.slots; timers = h.timers }))
    next end h new
lands-by jumps distance next end offset come old new h b c true may e =
    let least : next ≤ offset = omega arith in
    (least, subst (λ (n : ℕ). CoversAt new n h) (sym e) (b.far h may c))
lands-by jumps distance next end offset come old new h b c false may e =
    let least : next ≤ offset = omega arith in
    (least, subst (λ (n : ℕ). CoversAt new n h) (sym e) (b.near h may c))

-- a jump where the top is this
jump-lands : (w : Setting) (to : Bool → ℕ) (jumps_of : Bool → Bool) (r jumps : Range)
    (distance next : ℕ)
    (below : List Range) (come : KnownData) (old new : List (Option Known))
    → ((b : Bool) → to b ≡ cond (jumps_of b) (next + distance) next)
    → ((b : Bool) → IsIn w (Truth b) r → IsIn w (Truth (jumps_of b)) jumps)
    → come.cells ≡ r ∷ below → Branches jumps distance next come old new
    → (now offset end : ℕ) (cells slots : List Value) (timers : List TimerState)
    → AreIn w cells (r ∷ below)
    → Covers come
    (record { now = now; setting = w; cells = cells; slots = slots; timers = timers })
    → IsCoveredStep (jumps_where to
    (record { offset = offset; cells = cells; slots = slots; timers = timers })) next end
    (record { now = now; setting = w; cells = cells; slots = slots; timers = timers }) new
jump-lands w to jumps_of r jumps distance next below come old new leads predicts is b now offset end
    []
    slots timers i c = tt
jump-lands w to jumps_of r jumps distance next below come old new leads predicts is b now offset end
    (Truth x ∷ cells) slots timers i c =
    lands-by jumps distance next end (to x) come old new
    (record { now = now; setting = w; cells = Truth x ∷ cells; slots = slots; timers = timers }) b
    c
    (jumps_of x)
    (predicts x i.0) (leads x)
jump-lands w to jumps_of r jumps distance next below come old new leads predicts is b now offset end
    (v ∷ cells) slots timers i c = tt

same-if : (b : Bool) (m n : ℕ) → cond (not b) m n ≡ cond b n m
same-if true m n = refl
same-if false m n = refl

pub if-true-moves : (r : Range) (distance next : ℕ) (below : List Range) (come : KnownData)
    (old new : List (Option Known)) → come.cells ≡ r ∷ below
    → Branches r distance next come old new → CoversSteps (Jump IfTrue distance) next come old new
unfolding act
if-true-moves r distance next below come old new is b = record {
  keeps = b.keeps;
  lands = λ now end w s c.
      jump-lands w (λ x. cond x (next + distance) next) (λ x. x) r r distance next below come old
      new
      (λ x. refl) (λ x h. h) is b now s.offset end s.cells s.slots s.timers
      (subst (AreIn w s.cells) is c.cells) c;
}

pub if-false-moves : (r : Range) (distance next : ℕ) (below : List Range) (come : KnownData)
    (old new : List (Option Known)) → come.cells ≡ r ∷ below
    → Branches (not_range r) distance next come old new
    → CoversSteps (Jump IfFalse distance) next come old new
unfolding act
if-false-moves r distance next below come old new is b = record {
  keeps = b.keeps;
  lands = λ now end w s c.
      jump-lands w (λ x. cond x next (next + distance)) not r (not_range r) distance next below come
      old
      new (λ x. sym (same-if x (next + distance) next)) (λ x h. of-negated w x r h) is b now
      s.offset
      end
      s.cells s.slots s.timers (subst (AreIn w s.cells) is c.cells) c;
}

pub branches-yes : (distance next : ℕ) (come : KnownData) (old new : List (Option Known))
    → JoinsKnown old new (next + distance) come → Branches Yes distance next come old new
branches-yes distance next come old new a =
    record { keeps = a.keeps; far = λ h may. a.brings h; near = λ h may c. absurd may }

pub branches-no : (distance next : ℕ) (come : KnownData) (old new : List (Option Known))
    → JoinsKnown old new next come → Branches No distance next come old new
branches-no distance next come old new a =
    record { keeps = a.keeps; far = λ h may c. absurd may; near = λ h may. a.brings h }

pub branches-both : (jumps : Range) (distance next : ℕ) (come : KnownData)
    (old mid new : List (Option Known)) → JoinsKnown old mid (next + distance) come
    → JoinsKnown mid new next come → Branches jumps distance next come old new
branches-both jumps distance next come old mid new a b = record {
  keeps = λ q h c. b.keeps q h (a.keeps q h c);
  far = λ h may c. b.keeps (next + distance) h (a.brings h c);
  near = λ h may. b.brings h;
}
