-- A run that halts takes a path through the code to a HALT; a path is no longer than the code.
use Rattle.std.proofs.lemmas.Grind.{common_steps}
use Rattle.std.proofs.lemmas.Bool.{leb-true}
use Rattle.std.proofs.Common.{◌≡◌, ℕ, zero, suc, ◌+◌, ◌<◌, ◌≤◌, ◌^◌, ℤ, pos, int_eq, Bool, true, false, cond, ◌&&◌, nat_le, nat_lt, List, [], ◌∷◌, length, Option, Some, None, Result, Ok, Err, ◌⊎◌, inl, inr, slice_get, refl, ap, subst, ◌∙◌, arith}
use Rattle.bay_base.specs.Types.{same_type}
use Rattle.il_check.specs.Program.{Checked}
use Rattle.il_check.specs.TypedProgram.{IsTyped}
use Rattle.il_compile.specs.Compiled.{compiled_of, image_of, image_size}
use Rattle.il_compile.specs.declared.fault.CompileFault.{CompileFault}
use Rattle.il_compile.specs.declared.fault.CompileFault.TheVariants.{CodeTooLong}
use Rattle.il_compile.proofs.CompiledLemmas.{is-image}
use Rattle.il_image.specs.Arithmetic.{computation_of, comparison_holds, wider_value}
use Rattle.il_image.specs.Images.{Image}
use Rattle.il_image.specs.Machine.{State as Machine, StepResult, Continues, Halts as Stops, Traps, MissingSlot, MissingTimer, WrongKind, ZeroDivisor, Halted, act, as_number, as_span, as_truth, divides, ending_of, continues_at, is_comparable, pushes, run_from, stores, step_of_read, value_of_width, with_slot, with_timer, with_top, with_truths, with_two}
use Rattle.il_image.specs.Offsets.{aligned_instr, is_instruction_offset}
use Rattle.il_image.specs.Reading.{instr_at}
use Rattle.il_image.specs.Tables.{HaltPath, LeadsTo, Path}
use Rattle.il_image.specs.Values.{number_of, type_of}
use Rattle.il_image.specs.declared.arithmetic.Width.{Width}
use Rattle.il_image.specs.declared.instr.Instr.{Instr}
use Rattle.il_image.specs.declared.instr.Instr.TheVariants.{Halt, Push, Drop, Slot, Not, Combine, Compute, Compare, Widen, Jump, Timer}
use Rattle.il_image.specs.declared.opcode.SlotUse.TheVariants.{Load, Store, SetIf, ResetIf}
use Rattle.il_image.specs.declared.opcode.TimerUse.TheVariants.{SetInput, SetPreset, Run, LoadOutput, LoadElapsed}
use Rattle.il_image.specs.declared.opcode.When.TheVariants.{Always, IfTrue, IfFalse}
use Rattle.il_image.specs.declared.timer.TimerState.{TimerState}
use Rattle.il_image.specs.declared.value.Value.{Value}
use Rattle.il_image.specs.declared.value.Value.TheVariants.{Truth}
use Rattle.il_image.proofs.PlaceLemmas.{goes-forward}
use Rattle.il_verify.specs.Verdicts.{IsBudget}
use Rattle.il_verify.proofs.LengthLemmas.{path-short}

-- ---- what a turn comes to

-- Where it goes on, the place is one of these; where it halts, this is so.
abbrev Lands : (ℕ → Type 0) → Type 0 → StepResult → Type 0
Lands P H (Continues s) = P s.offset
Lands P H Stops = H
Lands P H (Traps trap) = Unit {0}

module _ (P : ℕ → Type 0) (H : Type 0) where
  lands-if : (b : Bool) (x y : StepResult) → Lands P H x → Lands P H y → Lands P H (cond b x y)
  lands-if true x y h g = h
  lands-if false x y h g = g

  lands-pushes : (v : Value) (to : ℕ) (s : Machine) → P to → Lands P H (pushes v to s)
  lands-pushes v to s h = lands-if (nat_lt (length s.cells) 32) _ _ h tt

  lands-top : (cells : List Value) (f : Value → List Value → StepResult)
      → ((v : Value) (below : List Value) → Lands P H (f v below)) → Lands P H (with_top cells f)
  lands-top [] f h = tt
  lands-top (v ∷ below) f h = h v below

  lands-two : (cells : List Value) (f : Value → Value → List Value → StepResult)
      → ((a b : Value) (below : List Value) → Lands P H (f a b below))
      → Lands P H (with_two cells f)
  lands-two [] f h = tt
  lands-two (v ∷ []) f h = tt
  lands-two (b ∷ a ∷ below) f h = h a b below

  lands-truth : (v : Value) (f : Bool → StepResult) → ((b : Bool) → Lands P H (f b))
      → Lands P H (as_truth v f)
  lands-truth v f h = grind (arith, common_steps)

  lands-span : (v : Value) (f : ℕ → StepResult) → ((n : ℕ) → Lands P H (f n))
      → Lands P H (as_span v f)
  lands-span v f h = grind (arith, common_steps)

  lands-number : (w : Width) (v : Value) (f : ℤ → StepResult) → ((z : ℤ) → Lands P H (f z))
      → Lands P H (as_number w v f)
  lands-number w v f h = grind (arith, common_steps)

  lands-slot : (n : ℕ) (s : Machine) (f : Value → StepResult) → ((v : Value) → Lands P H (f v))
      → Lands P H (with_slot n s f)
  lands-slot n s f h =
      elim (slice_get s.slots n) as
      (λ o. Lands P H (elim o [ None ↦ Traps MissingSlot | Some v ↦ f v ]))
      [ None ↦ tt | Some v ↦ h v ]

  lands-timer : (n : ℕ) (s : Machine) (f : TimerState → StepResult)
      → ((t : TimerState) → Lands P H (f t))
      → Lands P H (with_timer n s f)
  lands-timer n s f h =
      elim (slice_get s.timers n) as
      (λ o. Lands P H (elim o [ None ↦ Traps MissingTimer | Some t ↦ f t ]))
      [ None ↦ tt | Some t ↦ h t ]

  lands-truths : (n : ℕ) (s : Machine) (f : Bool → Bool → StepResult)
      → ((a b : Bool) → Lands P H (f a b)) → Lands P H (with_truths n s f)
  lands-truths n s f h =
      lands-slot n s _ (λ slot. lands-top s.cells _
      (λ top below. lands-truth top _ (λ b. lands-truth slot _ (λ old. h b old))))

either_place : (P : ℕ → Type 0) (b : Bool) (x y : ℕ) → P x → P y → P (cond b x y)
either_place P true x y h g = h
either_place P false x y h g = g

-- An instruction goes on where it leads, and HALT alone halts.
lands : (now : ℕ) (i : Instr) (next : ℕ) (s : Machine)
    → Lands (λ to. LeadsTo i next to) (i ≡ Halt) (act now i next s)
unfolding act
lands now Halt next s = refl
lands now (Push v) next s = lands-pushes (λ to. to ≡ next) _ v next s refl
lands now Drop next s = lands-top (λ to. to ≡ next) _ s.cells _ (λ top below. refl)
lands now (Slot Load n) next s =
    lands-slot (λ to. to ≡ next) _ n s _ (λ v. lands-pushes (λ to. to ≡ next) _ v next s refl)
lands now (Slot Store n) next s =
    lands-slot (λ to. to ≡ next) _ n s _
    (λ v. lands-top (λ to. to ≡ next) _ s.cells _
    (λ top below. lands-if (λ to. to ≡ next) _ (same_type (type_of top) (type_of v))
    (stores n top next s) (Traps WrongKind) refl tt))
lands now (Slot SetIf n) next s = lands-truths (λ to. to ≡ next) _ n s _ (λ a b. refl)
lands now (Slot ResetIf n) next s = lands-truths (λ to. to ≡ next) _ n s _ (λ a b. refl)
lands now Not next s =
    lands-top (λ to. to ≡ next) _ s.cells _
    (λ top below. lands-truth (λ to. to ≡ next) _ top _ (λ b. refl))
lands now (Combine c) next s =
    lands-two (λ to. to ≡ next) _ s.cells _
    (λ first second below. lands-truth (λ to. to ≡ next) _ second _
    (λ b. lands-truth (λ to. to ≡ next) _ first _ (λ a. refl)))
lands now (Compute o w) next s =
    lands-two (λ to. to ≡ next) _ s.cells _
    (λ first second below. lands-number (λ to. to ≡ next) _ w second _
    (λ b. lands-number (λ to. to ≡ next) _ w first _
    (λ a. lands-if (λ to. to ≡ next) _ (divides o && int_eq b (pos 0)) (Traps ZeroDivisor)
    (continues_at next (value_of_width w (computation_of o w a b) ∷ below) s) tt refl)))
lands now (Compare c) next s =
    lands-two (λ to. to ≡ next) _ s.cells _
    (λ a b below. lands-if (λ to. to ≡ next) _ (is_comparable c a b)
    (continues_at next (Truth (comparison_holds c (number_of a) (number_of b)) ∷ below) s)
    (Traps WrongKind)
    refl
    tt)
lands now (Widen w) next s =
    lands-top (λ to. to ≡ next) _ s.cells _
    (λ top below. elim (wider_value w top) as
    (λ o. Lands (λ to. to ≡ next) (Widen w ≡ Halt)
    (elim o [ None ↦ Traps WrongKind | Some v ↦ continues_at next (v ∷ below) s ]))
    [ None ↦ tt | Some v ↦ refl ])
lands now (Jump Always distance) next s = refl
lands now (Jump IfTrue distance) next s =
    lands-top (λ to. (to ≡ next) ⊎ (to ≡ next + distance)) _ s.cells _
    (λ top below. lands-truth (λ to. (to ≡ next) ⊎ (to ≡ next + distance)) _ top _
    (λ b. either_place (λ to. (to ≡ next) ⊎ (to ≡ next + distance)) b (next + distance) next
    (inr refl) (inl refl)))
lands now (Jump IfFalse distance) next s =
    lands-top (λ to. (to ≡ next) ⊎ (to ≡ next + distance)) _ s.cells _
    (λ top below. lands-truth (λ to. (to ≡ next) ⊎ (to ≡ next + distance)) _ top _
    (λ b. either_place (λ to. (to ≡ next) ⊎ (to ≡ next + distance)) b next (next + distance)
    (inl refl) (inr refl)))
lands now (Timer SetInput n) next s =
    lands-timer (λ to. to ≡ next) _ n s _
    (λ t. lands-top (λ to. to ≡ next) _ s.cells _
    (λ top below. lands-truth (λ to. to ≡ next) _ top _ (λ b. refl)))
lands now (Timer SetPreset n) next s =
    lands-timer (λ to. to ≡ next) _ n s _
    (λ t. lands-top (λ to. to ≡ next) _ s.cells _
    (λ top below. lands-span (λ to. to ≡ next) _ top _ (λ b. refl)))
lands now (Timer Run n) next s = lands-timer (λ to. to ≡ next) _ n s _ (λ t. refl)
lands now (Timer LoadOutput n) next s =
    lands-timer (λ to. to ≡ next) _ n s _ (λ t. lands-pushes (λ to. to ≡ next) _ _ next s refl)
lands now (Timer LoadElapsed n) next s =
    lands-timer (λ to. to ≡ next) _ n s _ (λ t. lands-pushes (λ to. to ≡ next) _ _ next s refl)

-- ---- a run is a path

begun-is : (b : Bool) (o : Option (Instr × ℕ)) (r : Instr × ℕ)
    → (let x : Option (Instr × ℕ) = cond b o None in x) ≡ Some r → o ≡ Some r
begun-is true o r e = e
begun-is false o r e = absurd cc

module _ (code : List ℕ) (now most k : ℕ) (slots : List Value) (timers : List TimerState) (n : ℕ)
    (more : (after : Machine) → Path code (suc (suc k)) after.offset
    → run_from code now most after (k + 1) ≡ Halted slots timers n → HaltPath code n) (s : Machine)
    (path : Path code (suc k) s.offset) where
  by-turn : (i : Instr) (next : ℕ) (t : StepResult) → instr_at code s.offset ≡ Some (i, next)
      → Lands (λ to. LeadsTo i next to) (i ≡ Halt) t
      → ending_of t s (k + 1) (λ after. run_from code now most after (k + 1))
      ≡ Halted slots timers n
      → HaltPath code n
  by-turn i next (Continues after) here lands-so e =
      more after (s.offset, path, record { instr = i; next = next; here = here; leads = lands-so })
      e
  by-turn i next Stops here is e =
      let counted : suc k ≡ n = let same : k + 1 ≡ n = cc in omega arith in
      subst (HaltPath code) counted
      (s.offset, path, (next, here ∙ ap (λ (j : Instr). Some (j, next)) is))
  by-turn i next (Traps trap) here lands-so e = absurd cc

  by-read : (o : Option (Instr × ℕ)) → aligned_instr code s.offset ≡ o
      → ending_of (step_of_read now o s) s (k + 1) (λ after. run_from code now most after (k + 1))
      ≡ Halted slots timers n
      → HaltPath code n
  by-read None here e = absurd cc
  by-read (Some r) here e =
      by-turn r.0 r.1 (act now r.0 r.1 s)
      (begun-is (is_instruction_offset code s.offset) (instr_at code s.offset) r here)
      (lands now r.0 r.1 s) e

-- A run that halts is a path to a HALT.
pub run-ends : (code : List ℕ) (now most k : ℕ) (s : Machine) (slots : List Value)
    (timers : List TimerState) (n : ℕ) → Path code (suc k) s.offset
    → run_from code now most s k ≡ Halted slots timers n → HaltPath code n
unfolding run_from
run-ends code now zero k s slots timers n path e = absurd cc
run-ends code now (suc most) k s slots timers n path e =
    by-read code now most k slots timers n
    (λ after longer halted. run-ends code now most (k + 1) after slots timers n
    (let same : suc (suc k) ≡ suc (k + 1) = omega arith in
    subst (λ m. Path code m after.offset) same longer) halted)
    s path (aligned_instr code s.offset) refl e

-- ---- how large a budget may be

compiled-short : (c : Checked) (image : Image) (b : Bool) → nat_le (image_size c) 65_535 ≡ b
    → (let r : Result Image CompileFault = cond b (Ok (image_of c)) (Err CodeTooLong) in r)
    ≡ Ok image
    → image_size c ≤ 65_535
compiled-short c image true short e = leb-true (image_size c) 65_535 short
compiled-short c image false short e = absurd cc

-- A budget is at most the length of the code, which a compiled image keeps short.
pub budget-small : (c : Checked) (image : Image) (budget : ℕ) → IsTyped c
    → compiled_of c ≡ Ok image → image ≡ image_of c → IsBudget image.code budget
    → budget < 2 ^ 64
budget-small c image budget typed compiles same b =
    let size : length (image_of c).code ≤ 65_535 =
    (is-image c typed (compiled-short c image (nat_le (image_size c) 65_535) refl compiles)).size
    in
    let length_same : length image.code ≡ length (image_of c).code =
    ap (λ (i : Image). length i.code) same in
    let some = b.some in
    let path : budget ≤ some.0 + 1 = path-short image.code budget some.0 some.1 in
    let halt = goes-forward image.code some.0 Halt some.2.0 some.2.1 in
    let before : some.0 < some.2.0 = halt.0 in
    let within : some.2.0 ≤ length image.code = halt.1 in
    let few : budget ≤ 65_535 = omega arith in
    small few
  where
    small : {n : ℕ} → n ≤ 65_535 → n < 2 ^ 64
    small less = omega arith
