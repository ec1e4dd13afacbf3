-- Where an instruction begins, and the machine that does not ask for it.
use Rattle.std.proofs.lemmas.Grind.{common_steps}
use Rattle.std.proofs.Common.{◌≡◌, ℕ, zero, suc, ◌+◌, ◌<◌, ◌≤◌, ℤ, pos, int_eq, Bool, true, false, cond, ◌&&◌, ◌||◌, ltb, List, [], ◌∷◌, length, Option, Some, None, refl, sym, ap, subst, ◌∙◌, arith, inl, inr}
use Rattle.std.specs.Prelude.{◌↔◌, ◌⊎◌, IsSome, IsTrue, option_map, slice_get}
use Rattle.std.proofs.lemmas.Bool.{eq-eqb, eqb-true, lt-ltb, ltb-true, cases_eq}
use Rattle.il_image.specs.declared.arithmetic.Width.{Width}
use Rattle.il_image.specs.declared.instr.Instr.{Instr}
use Rattle.il_image.specs.declared.instr.Instr.TheVariants.{Halt, Push, Drop, Slot, Not, Combine, Compute, Compare, Widen, Jump, Timer}
use Rattle.il_image.specs.declared.opcode.SlotUse.TheVariants.{Load, Store, SetIf, ResetIf}
use Rattle.il_image.specs.declared.opcode.When.TheVariants.{Always, IfTrue, IfFalse}
use Rattle.il_image.specs.declared.opcode.TimerUse.TheVariants.{SetInput, SetPreset, Run, LoadOutput, LoadElapsed}
use Rattle.il_image.specs.declared.timer.TimerState.{TimerState}
use Rattle.il_image.specs.declared.value.Value.{Value}
use Rattle.il_image.specs.declared.value.Value.TheVariants.{Truth}
use Rattle.il_image.specs.Machine.{State, StepResult, Continues, Halts, Traps, MissingSlot, MissingTimer, WrongKind, ZeroDivisor, Ending, Unfinished, act, as_number, as_span, as_truth, divides, ending_of, continues_at, is_comparable, pushes, run_from, stores, value_of_width, step_of_read, with_slot, with_timer, with_top, with_truths, with_two, most_cells}
use Rattle.bay_base.specs.Types.{same_type}
use Rattle.il_image.specs.Arithmetic.{comparison_holds, computation_of, wider_value}
use Rattle.il_image.specs.Values.{number_of, type_of}
use Rattle.il_image.specs.Images.{Image}
use Rattle.il_image.specs.Offsets.{InstrBegins, offset_after, aligned_instr, is_among, is_instruction_offset, is_there, offset_of}
use Rattle.il_image.specs.Reading.{instr_at}
use Rattle.il_image.specs.Tables.{Agrees, IsSuccessor, LeadsTo, Table}
use Rattle.il_image.proofs.PlaceLemmas.{goes-forward}

-- ---- a place is told by the test

-- each instruction is at its number or behind it
read-grows : (code : List ℕ) (n start offset : ℕ) (r : Option (Instr × ℕ)) → instr_at code start ≡ r
    → n ≤ start → option_map (λ (q : Instr × ℕ). q.1) r ≡ Some offset → suc n ≤ offset
read-grows code n start offset None here le f = absurd cc
read-grows code n start offset (Some r) here le f =
    let forward = (goes-forward code start r.0 r.1 here).0 in
    let same : r.1 ≡ offset = cc in
    omega arith

behind-grows : (code : List ℕ) (n offset : ℕ) (o : Option ℕ) → offset_of code n ≡ o
    → ((start : ℕ) → offset_of code n ≡ Some start → n ≤ start) → offset_after code o ≡ Some offset
    → suc n ≤ offset
behind-grows code n offset None is before f = absurd cc
behind-grows code n offset (Some start) is before f =
    read-grows code n start offset (instr_at code start) refl (before start is) f

place-grows : (code : List ℕ) (n offset : ℕ) → offset_of code n ≡ Some offset → n ≤ offset
place-grows code zero offset e = omega arith
place-grows code (suc n) offset e =
    behind-grows code n offset (offset_of code n) refl (λ start is. place-grows code n start is) e

there-is : (o : Option ℕ) (offset : ℕ) → is_there o offset ≡ true → o ≡ Some offset
there-is None offset e = absurd cc
there-is (Some start) offset e = ap (λ (p : ℕ). Some p) (eqb-true start offset e)

is-there-so : (o : Option ℕ) (offset : ℕ) → o ≡ Some offset → is_there o offset ≡ true
is-there-so o offset e = ap (λ (x : Option ℕ). is_there x offset) e ∙ eq-eqb offset offset refl

among-either : (code : List ℕ) (n offset : ℕ) (b : Bool) → is_there (offset_of code n) offset ≡ b
    → (is_among code n offset ≡ true → (k : ℕ) × (offset_of code k ≡ Some offset))
    → b || is_among code n offset ≡ true
    → (k : ℕ) × (offset_of code k ≡ Some offset)
among-either code n offset true h before f = (n, there-is (offset_of code n) offset h)
among-either code n offset false h before f = before f

among-is : (code : List ℕ) (n offset : ℕ) → is_among code n offset ≡ true
    → (k : ℕ) × (offset_of code k ≡ Some offset)
among-is code zero offset e = absurd cc
among-is code (suc n) offset e =
    among-either code n offset (is_there (offset_of code n) offset) refl
    (λ f. among-is code n offset f)
    e

is-among-so : (code : List ℕ) (n k offset : ℕ) → k < n → offset_of code k ≡ Some offset
    → is_among code n offset ≡ true
is-among-so code zero k offset h e = absurd (omega arith)
is-among-so code (suc n) k offset h e = elim (cases_eq k n) [
  | inl same ↦ ap (λ (b : Bool). b || is_among code n offset)
      (is-there-so (offset_of code n) offset
      (subst (λ (j : ℕ). offset_of code j ≡ Some offset) same e))
  | inr ne ↦ later (is_there (offset_of code n) offset)
      (is-among-so code n k offset (omega arith) e)
]
  where
    later : (b : Bool) → is_among code n offset ≡ true → b || is_among code n offset ≡ true
    later true h = refl
    later false h = h

pub told : (code : List ℕ) (offset : ℕ) → InstrBegins code offset
    → is_instruction_offset code offset ≡ true
unfolding is_instruction_offset
told code offset p =
    let grows = place-grows code p.1.0 offset p.1.1 in
    let within = p.0 in
    rw (lt-ltb offset (length code) p.0)
    (is-among-so code (length code) p.1.0 offset (omega arith) p.1.1)

pub tells : (code : List ℕ) (offset : ℕ) → is_instruction_offset code offset ≡ true
    → InstrBegins code offset
unfolding is_instruction_offset
tells code offset e = both (ltb offset (length code)) refl e
  where
    both : (b : Bool) → ltb offset (length code) ≡ b
        → b && is_among code (length code) offset ≡ true
        → InstrBegins code offset
    both true h f = (ltb-true offset (length code) h, among-is code (length code) offset f)
    both false h f = absurd cc

pub a_place_is_told : (code : List ℕ) (offset : ℕ) → IsTrue (is_instruction_offset code offset)
    ↔ InstrBegins code offset
a_place_is_told code offset = (tells code offset, told code offset)

-- what begins at a place is the instruction there
pub begun : (code : List ℕ) (offset : ℕ) → InstrBegins code offset
    → aligned_instr code offset ≡ instr_at code offset
begun code offset p = rw (told code offset p) refl

-- ---- where an instruction lands

-- Where it goes on, the place is one of these.
abbrev Lands : (ℕ → Type 0) → StepResult → Type 0
Lands P (Continues s) = P s.offset
Lands P Halts = Unit {0}
Lands P (Traps trap) = Unit {0}

module _ (P : ℕ → Type 0) where
  lands-if : (b : Bool) (x y : StepResult) → Lands P x → Lands P y → Lands P (cond b x y)
  lands-if true x y h g = h
  lands-if false x y h g = g

  lands-pushes : (v : Value) (to : ℕ) (s : State) → P to → Lands P (pushes v to s)
  lands-pushes v to s h = lands-if (ltb (length s.cells) most_cells) _ _ h tt

  lands-top : (cells : List Value) (f : Value → List Value → StepResult)
      → ((v : Value) (below : List Value) → Lands P (f v below)) → Lands P (with_top cells f)
  lands-top [] f h = tt
  lands-top (v ∷ below) f h = h v below

  lands-two : (cells : List Value) (f : Value → Value → List Value → StepResult)
      → ((a b : Value) (below : List Value) → Lands P (f a b below)) → Lands P (with_two cells f)
  lands-two [] f h = tt
  lands-two (v ∷ []) f h = tt
  lands-two (b ∷ a ∷ below) f h = h a b below

  lands-truth : (v : Value) (f : Bool → StepResult) → ((b : Bool) → Lands P (f b))
      → Lands P (as_truth v f)
  lands-truth v f h = grind (arith, common_steps)

  lands-span : (v : Value) (f : ℕ → StepResult) → ((n : ℕ) → Lands P (f n)) → Lands P (as_span v f)
  lands-span v f h = grind (arith, common_steps)

  lands-number : (w : Width) (v : Value) (f : ℤ → StepResult) → ((z : ℤ) → Lands P (f z))
      → Lands P (as_number w v f)
  lands-number w v f h = grind (arith, common_steps)

  lands-slot : (n : ℕ) (s : State) (f : Value → StepResult) → ((v : Value) → Lands P (f v))
      → Lands P (with_slot n s f)
  lands-slot n s f h =
      elim (slice_get s.slots n) as
      (λ o. Lands P (elim o [ None ↦ Traps MissingSlot | Some v ↦ f v ]))
      [ None ↦ tt | Some v ↦ h v ]

  lands-timer : (n : ℕ) (s : State) (f : TimerState → StepResult)
      → ((t : TimerState) → Lands P (f t))
      → Lands P (with_timer n s f)
  lands-timer n s f h =
      elim (slice_get s.timers n) as
      (λ o. Lands P (elim o [ None ↦ Traps MissingTimer | Some t ↦ f t ]))
      [ None ↦ tt | Some t ↦ h t ]

  lands-truths : (n : ℕ) (s : State) (f : Bool → Bool → StepResult)
      → ((a b : Bool) → Lands P (f a b))
      → Lands P (with_truths n s f)
  lands-truths n s f h =
      lands-slot n s _ (λ slot. lands-top s.cells _
      (λ top below. lands-truth top _ (λ b. lands-truth slot _ (λ old. h b old))))

either_place : (P : ℕ → Type 0) (b : Bool) (x y : ℕ) → P x → P y → P (cond b x y)
either_place P true x y h g = h
either_place P false x y h g = g

-- An instruction goes on where it leads.
lands : (now : ℕ) (i : Instr) (next : ℕ) (s : State)
    → Lands (λ to. LeadsTo i next to) (act now i next s)
unfolding act
lands now Halt next s = tt
lands now (Push v) next s = lands-pushes (λ to. to ≡ next) v next s refl
lands now Drop next s = lands-top (λ to. to ≡ next) s.cells _ (λ top below. refl)
lands now (Slot Load n) next s =
    lands-slot (λ to. to ≡ next) n s _ (λ v. lands-pushes (λ to. to ≡ next) v next s refl)
lands now (Slot Store n) next s =
    lands-slot (λ to. to ≡ next) n s _
    (λ v. lands-top (λ to. to ≡ next) s.cells _
    (λ top below. lands-if (λ to. to ≡ next) (same_type (type_of top) (type_of v))
    (stores n top next s) (Traps WrongKind) refl tt))
lands now (Slot SetIf n) next s = lands-truths (λ to. to ≡ next) n s _ (λ a b. refl)
lands now (Slot ResetIf n) next s = lands-truths (λ to. to ≡ next) n s _ (λ a b. refl)
lands now Not next s =
    lands-top (λ to. to ≡ next) s.cells _
    (λ top below. lands-truth (λ to. to ≡ next) top _ (λ b. refl))
lands now (Combine c) next s =
    lands-two (λ to. to ≡ next) s.cells _
    (λ first second below. lands-truth (λ to. to ≡ next) second _
    (λ b. lands-truth (λ to. to ≡ next) first _ (λ a. refl)))
lands now (Compute o w) next s =
    lands-two (λ to. to ≡ next) s.cells _
    (λ first second below. lands-number (λ to. to ≡ next) w second _
    (λ b. lands-number (λ to. to ≡ next) w first _
    (λ a. lands-if (λ to. to ≡ next) (divides o && int_eq b (pos 0)) (Traps ZeroDivisor)
    (continues_at next (value_of_width w (computation_of o w a b) ∷ below) s) tt refl)))
lands now (Compare c) next s =
    lands-two (λ to. to ≡ next) s.cells _
    (λ a b below. lands-if (λ to. to ≡ next) (is_comparable c a b)
    (continues_at next (Truth (comparison_holds c (number_of a) (number_of b)) ∷ below) s)
    (Traps WrongKind)
    refl
    tt)
lands now (Widen w) next s =
    lands-top (λ to. to ≡ next) s.cells _
    (λ top below. elim (wider_value w top) as
    (λ o. Lands (λ to. to ≡ next)
    (elim o [ None ↦ Traps WrongKind | Some v ↦ continues_at next (v ∷ below) s ]))
    [ None ↦ tt | Some v ↦ refl ])
lands now (Jump Always distance) next s = refl
lands now (Jump IfTrue distance) next s =
    lands-top (λ to. (to ≡ next) ⊎ (to ≡ next + distance)) s.cells _
    (λ top below. lands-truth (λ to. (to ≡ next) ⊎ (to ≡ next + distance)) top _
    (λ b. either_place (λ to. (to ≡ next) ⊎ (to ≡ next + distance)) b (next + distance) next
    (inr refl) (inl refl)))
lands now (Jump IfFalse distance) next s =
    lands-top (λ to. (to ≡ next) ⊎ (to ≡ next + distance)) s.cells _
    (λ top below. lands-truth (λ to. (to ≡ next) ⊎ (to ≡ next + distance)) top _
    (λ b. either_place (λ to. (to ≡ next) ⊎ (to ≡ next + distance)) b next (next + distance)
    (inl refl) (inr refl)))
lands now (Timer SetInput n) next s =
    lands-timer (λ to. to ≡ next) n s _
    (λ t. lands-top (λ to. to ≡ next) s.cells _
    (λ top below. lands-truth (λ to. to ≡ next) top _ (λ b. refl)))
lands now (Timer SetPreset n) next s =
    lands-timer (λ to. to ≡ next) n s _
    (λ t. lands-top (λ to. to ≡ next) s.cells _
    (λ top below. lands-span (λ to. to ≡ next) top _ (λ b. refl)))
lands now (Timer Run n) next s = lands-timer (λ to. to ≡ next) n s _ (λ t. refl)
lands now (Timer LoadOutput n) next s =
    lands-timer (λ to. to ≡ next) n s _ (λ t. lands-pushes (λ to. to ≡ next) _ next s refl)
lands now (Timer LoadElapsed n) next s =
    lands-timer (λ to. to ≡ next) n s _ (λ t. lands-pushes (λ to. to ≡ next) _ next s refl)

-- ---- code whose instructions lead to instructions

-- Instructions lead to places of the code alone.
pub record IsClosed (code : List ℕ) : Type 0 where
  pub leads : (offset to : ℕ) → InstrBegins code offset → IsSuccessor code offset to
      → InstrBegins code to

-- the step of the machine that reads at any octet
abbrev pub loose_turn : List ℕ → ℕ → State → StepResult
loose_turn code now s = step_of_read now (instr_at code s.offset) s

unfoldable pub loose_run : List ℕ → ℕ → ℕ → State → ℕ → Ending
loose_run code now zero s steps = Unfinished
loose_run code now (suc most) s steps =
    ending_of (loose_turn code now s) s (steps + 1)
    (λ after. loose_run code now most after (steps + 1))

module _ (code : List ℕ) (now : ℕ) (closed : IsClosed code) where
  same-ending : (most steps : ℕ) (s : State) (t : StepResult) → Lands (λ to. InstrBegins code to) t
      → ((after : State) → InstrBegins code after.offset
      → loose_run code now most after (steps + 1) ≡ run_from code now most after (steps + 1))
      → ending_of t s (steps + 1) (λ after. loose_run code now most after (steps + 1))
      ≡ ending_of t s (steps + 1) (λ after. run_from code now most after (steps + 1))
  same-ending most steps s (Continues after) h more = more after h
  same-ending most steps s Halts h more = refl
  same-ending most steps s (Traps trap) h more = refl

  lands-more : (i : Instr) (next offset : ℕ) (t : StepResult) → InstrBegins code offset
      → instr_at code offset ≡ Some (i, next) → Lands (λ to. LeadsTo i next to) t
      → Lands (λ to. InstrBegins code to) t
  lands-more i next offset (Continues after) p here h =
      closed.leads offset after.offset p (record { instr = i; next = next; here = here; leads = h })
  lands-more i next offset Halts p here h = tt
  lands-more i next offset (Traps trap) p here h = tt

  lands-at : (s : State) (o : Option (Instr × ℕ)) → instr_at code s.offset ≡ o
      → InstrBegins code s.offset
      → Lands (λ to. InstrBegins code to) (step_of_read now o s)
  lands-at s None here p = tt
  lands-at s (Some r) here p =
      lands-more r.0 r.1 s.offset (act now r.0 r.1 s) p here (lands now r.0 r.1 s)

  pub loose-is-run : (most : ℕ) (s : State) (steps : ℕ) → InstrBegins code s.offset
      → loose_run code now most s steps ≡ run_from code now most s steps
  unfolding loose_run run_from
  loose-is-run zero s steps p = refl
  loose-is-run (suc most) s steps p =
      same-ending most steps s (loose_turn code now s) (lands-at s (instr_at code s.offset) refl p)
      (λ after q. loose-is-run most after (steps + 1) q)
      ∙ ap (λ (o : Option (Instr × ℕ)). ending_of (step_of_read now o s) s (steps + 1)
      (λ after. run_from code now most after (steps + 1))) (sym (begun code s.offset p))

-- ---- an agreeing table's code

is-some-so : {A : Type 0} (o : Option A) (x : A) → o ≡ Some x → IsSome o
is-some-so None x e = absurd cc
is-some-so (Some y) x e = refl

some-is : {A : Type 0} (o : Option A) → IsSome o → (x : A) × (o ≡ Some x)
some-is None e = absurd cc
some-is (Some y) e = (y, refl)

pair-same : {A B : Type 0} (a b : A) (x y : B)
    → ◌≡◌ {A = Option (A × B)} (Some (a, x)) (Some (b, y)) → (a ≡ b) × (x ≡ y)
pair-same {A} {B} a b x y e = let p : ◌≡◌ {A = A × B} (a, x) (b, y) =
    cc in (ap (λ (q : A × B). q.0) p, ap (λ (q : A × B). q.1) p)

pub closed_by : (image : Image) (table : Table) → Agrees image table → IsClosed image.code
closed_by image table agrees = record {
  leads = λ offset to p s.
      (let known = some-is (table offset) ((agrees.places offset).1 p) in
      let a = agrees.allowed offset known.0 known.1 in
      let same = pair-same s.instr a.instr s.next a.next (sym s.here ∙ a.here) in
      let enter =
      a.enters to (subst (λ (n : ℕ). LeadsTo a.instr n to) same.1
      (subst (λ (i : Instr). LeadsTo i s.next to) same.0 s.leads)) in
      (agrees.places to).0 (is-some-so (table to) enter.0 enter.1));
}

pub first-place : (image : Image) (table : Table) → Agrees image table → InstrBegins image.code 0
first-place image table agrees = (agrees.places 0).0 (is-some-so (table 0) [] agrees.starts)
