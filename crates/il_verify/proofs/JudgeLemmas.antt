-- An instruction has no fault of its own exactly where it is allowed on the kinds, writes what it
-- may, and leaves at most 32.
use Rattle.std.proofs.Common.{◌≡◌, ℕ, suc, ◌<◌, ◌≤◌, Bool, true, false, cond, List, [], ◌∷◌, length, map, refl, ap, subst, arith, Option, Some, None, inl, inr}
use Rattle.std.specs.Prelude.{nat_lt, slice_get}
use Rattle.std.proofs.lemmas.Bool.{cases_lt, lt-ltb, le-ltb}
use Rattle.std.proofs.lemmas.List.{length-map, map-append}
use Rattle.std.proofs.lemmas.Option.{slice_get_within, same_Some}
use Rattle.std.proofs.lemmas.Simd.{map-map}
use Rattle.bay_base.specs.Options.{◌>>=◌}
use Rattle.bay_base.specs.declared.types.ElementaryType.{ElementaryType}
use Rattle.bay_base.specs.declared.types.ElementaryType.TheVariants as elementary
use Rattle.bay_base.specs.Types.{same_type}
use Rattle.il_image.specs.declared.arithmetic.Width.{Width}
use Rattle.il_image.specs.declared.instr.Instr.{Instr}
use Rattle.il_image.specs.declared.instr.Instr.TheVariants.{Drop, Slot, Not, Combine, Compute, Compare, Widen, Jump, Timer}
use Rattle.il_image.specs.declared.kind.CellKind.{CellKind}
use Rattle.il_image.specs.declared.kind.CellKind.TheVariants.{Any, Plain, NotZero}
use Rattle.il_image.specs.declared.opcode.SlotUse.TheVariants.{Load, Store, SetIf, ResetIf}
use Rattle.il_image.specs.declared.opcode.Widening.TheVariants.{IntToDint, DintToLint}
use Rattle.il_image.specs.declared.opcode.When.TheVariants.{IfTrue, IfFalse}
use Rattle.il_image.specs.declared.opcode.TimerUse.TheVariants.{SetInput, SetPreset, Run, LoadOutput, LoadElapsed}
use Rattle.il_image.specs.Arithmetic.{type_of_width}
use Rattle.il_image.specs.Effects.{below, kinds_after, peek_kind, second_kind, replace_two, with_timer, with_truth}
use Rattle.il_image.specs.Images.{Image}
use Rattle.il_image.specs.Kinds.{is_within}
use Rattle.il_image.specs.Machine.{divides, most_cells}
use Rattle.il_image.specs.Tables.{slot_types}
use Rattle.il_image.proofs.KindLemmas.{same-self, within-along}
use Rattle.il_verify.specs.declared.fault.VerifyFault.{VerifyFault}
use Rattle.il_verify.specs.declared.fault.VerifyFault.TheVariants.{StackEmpty, StackFull, WrongKind, ZeroDivisor, NoSlot, NoTimer, BadTarget, Unreachable, DepthClash, NoHalt, BadBinding, OutOfMemory}
use Rattle.il_verify.specs.declared.slots.SlotType.{SlotType}
use Rattle.il_verify.specs.Judging.{◌or_else◌, fault_of, is_full, kind_fault, missing_fault, operands, without_divisor, operand_fault, fault_if, writes_read_only}
use Rattle.il_verify.specs.Slots.{point_slot, slots_of, types_of, variable_slot}
use Rattle.il_verify.proofs.EffectLemmas.{bind-some}

pub types-are : (image : Image) → types_of (slots_of image) ≡ slot_types image
unfolding slots_of
types-are image =
    rw (map-append (λ (s : SlotType). s.elementary) (map point_slot image.points)
    (map variable_slot image.variables))
    (rw (
      map-map (λ (s : SlotType). s.elementary) point_slot image.points,
      map-map (λ (s : SlotType). s.elementary) variable_slot image.variables,
    ) refl)

-- ---- faults one behind the other

first-none : (a b : Option VerifyFault) → (a or_else b) ≡ None → (a ≡ None) × (b ≡ None)
first-none None b e = (refl, e)
first-none (Some f) b e = absurd cc

not-so : (b : Bool) (f : VerifyFault) → fault_if b f ≡ None → b ≡ false
not-so true f e = absurd cc
not-so false f e = refl

not-where : (b : Bool) (f : VerifyFault) → b ≡ false → fault_if b f ≡ None
not-where b f e = rw e refl

-- ---- what is allowed

has-slot : (slots : List SlotType) (n : ℕ) (t : ElementaryType)
    → slice_get (types_of slots) n ≡ Some t → nat_lt n (length slots) ≡ true
has-slot slots n t e =
    let within : n < length (types_of slots) = slice_get_within (types_of slots) n t e in
    let size : length (types_of slots) ≡ length slots =
    length-map slots (λ (s : SlotType). s.elementary) in
    lt-ltb n (length slots) (omega arith)

slot-there : (slots : List SlotType) (n : ℕ) (f : ElementaryType → Option (List CellKind))
    (gives : List CellKind) → (slice_get (types_of slots) n >>= f) ≡ Some gives
    → cond (nat_lt n (length slots)) None (Some NoSlot) ≡ None
slot-there slots n f gives e = let t =
    bind-some (slice_get (types_of slots) n) f gives e in rw (has-slot slots n t.0 t.1) refl

timer-there : (timers n : ℕ) (made : Option (List CellKind)) (gives : List CellKind)
    → with_timer timers n made ≡ Some gives → cond (nat_lt n timers) None (Some NoTimer) ≡ None
timer-there timers n made gives e = go (nat_lt n timers) e
  where
    go : (b : Bool) → cond b made None ≡ Some gives → cond b None (Some NoTimer) ≡ None
    go true e = refl
    go false e = absurd cc

timer-made : (timers n : ℕ) (made : Option (List CellKind)) (gives : List CellKind)
    → with_timer timers n made ≡ Some gives → made ≡ Some gives
timer-made timers n made gives e = go (nat_lt n timers) e
  where
    go : (b : Bool) → cond b made None ≡ Some gives → made ≡ Some gives
    go true e = e
    go false e = absurd cc

nothing-missing : (slots : List SlotType) (timers : ℕ) (i : Instr) (kinds gives : List CellKind)
    → kinds_after (types_of slots) timers i kinds ≡ Some gives
    → missing_fault (length slots) timers i ≡ None
nothing-missing slots timers (Slot Load n) kinds gives e =
    slot-there slots n (λ (t : ElementaryType). Some (Plain t ∷ kinds)) gives e
nothing-missing slots timers (Slot Store n) kinds gives e =
    slot-there slots n (λ (t : ElementaryType). peek_kind (Plain t) kinds) gives e
nothing-missing slots timers (Slot SetIf n) kinds gives e =
    slot-there slots n (λ (t : ElementaryType). cond (same_type t elementary.Bool)
    (peek_kind (Plain elementary.Bool) kinds) None) gives e
nothing-missing slots timers (Slot ResetIf n) kinds gives e =
    slot-there slots n (λ (t : ElementaryType). cond (same_type t elementary.Bool)
    (peek_kind (Plain elementary.Bool) kinds) None) gives e
nothing-missing slots timers (Timer SetInput n) kinds gives e = timer-there timers n _ gives e
nothing-missing slots timers (Timer SetPreset n) kinds gives e = timer-there timers n _ gives e
nothing-missing slots timers (Timer Run n) kinds gives e = timer-there timers n _ gives e
nothing-missing slots timers (Timer LoadOutput n) kinds gives e = timer-there timers n _ gives e
nothing-missing slots timers (Timer LoadElapsed n) kinds gives e = timer-there timers n _ gives e
nothing-missing slots timers i kinds gives e = refl

-- ---- enough values

below-some : (wanted : CellKind) (kinds rest : List CellKind) → below wanted kinds ≡ Some rest
    → length kinds ≡ suc (length rest)
below-some wanted [] rest e = absurd cc
below-some wanted (k ∷ kinds) rest e = go (is_within k wanted) e
  where
    go : (b : Bool) → cond b (Some kinds) None ≡ Some rest → suc (length kinds) ≡ suc (length rest)
    go true f = ap (λ (v : List CellKind). suc (length v)) (same_Some kinds rest f)
    go false f = absurd cc

looks-some : (wanted : CellKind) (kinds gives : List CellKind) → peek_kind wanted kinds ≡ Some gives
    → 1 ≤ length kinds
looks-some wanted kinds gives e =
    let r = bind-some (below wanted kinds) (λ (rest : List CellKind). Some kinds) gives e in
    let size : length kinds ≡ suc (length r.0) = below-some wanted kinds r.0 r.1 in omega arith

one-some : (wanted given : CellKind) (kinds gives : List CellKind)
    → (below wanted kinds >>= (λ rest. Some (given ∷ rest))) ≡ Some gives → 1 ≤ length kinds
one-some wanted given kinds gives e =
    let r = bind-some (below wanted kinds) (λ (rest : List CellKind). Some (given ∷ rest)) gives e
    in
    let size : length kinds ≡ suc (length r.0) = below-some wanted kinds r.0 r.1 in omega arith

two-some : (top second given : CellKind) (kinds gives : List CellKind)
    → replace_two top second given kinds ≡ Some gives → 2 ≤ length kinds
two-some top second given kinds gives e =
    let r = bind-some (below top kinds)
    (λ (more : List CellKind). below second more >>= (λ rest. Some (given ∷ rest))) gives e in
    let size : length kinds ≡ suc (length r.0) = below-some top kinds r.0 r.1 in
    let more : 1 ≤ length r.0 = one-some second given r.0 gives r.2 in omega arith

truth-some : (types : List ElementaryType) (n : ℕ) (kinds gives : List CellKind)
    → with_truth types n kinds ≡ Some gives → 1 ≤ length kinds
truth-some types n kinds gives e =
    let t = bind-some (slice_get types n)
    (λ (t : ElementaryType). cond (same_type t elementary.Bool)
    (peek_kind (Plain elementary.Bool) kinds) None) gives e in
    go (same_type t.0 elementary.Bool) t.2
  where
    go : (b : Bool) → cond b (peek_kind (Plain elementary.Bool) kinds) None ≡ Some gives
        → 1 ≤ length kinds
    go true f = looks-some (Plain elementary.Bool) kinds gives f
    go false f = absurd cc

enough : (types : List ElementaryType) (timers : ℕ) (i : Instr) (kinds gives : List CellKind)
    → kinds_after types timers i kinds ≡ Some gives → operands i ≤ length kinds
enough types timers Drop kinds gives e = let size : length kinds ≡ suc (length gives) =
    below-some Any kinds gives e in omega arith
enough types timers (Slot Store n) kinds gives e =
    let t = bind-some (slice_get types n) (λ (t : ElementaryType). peek_kind (Plain t) kinds) gives
    e
    in looks-some (Plain t.0) kinds gives t.2
enough types timers (Slot SetIf n) kinds gives e = truth-some types n kinds gives e
enough types timers (Slot ResetIf n) kinds gives e = truth-some types n kinds gives e
enough types timers Not kinds gives e =
    one-some (Plain elementary.Bool) (Plain elementary.Bool) kinds gives e
enough types timers (Combine c) kinds gives e =
    two-some (Plain elementary.Bool) (Plain elementary.Bool) (Plain elementary.Bool) kinds gives e
enough types timers (Compute o w) kinds gives e =
    two-some (second_kind o w) (Plain (type_of_width w)) (Plain (type_of_width w)) kinds gives e
enough types timers (Compare c) (x ∷ []) gives e = absurd cc
enough types timers (Compare c) [] gives e = absurd cc
enough types timers (Widen IntToDint) [] gives e = absurd cc
enough types timers (Widen DintToLint) [] gives e = absurd cc
enough types timers (Jump IfTrue distance) kinds gives e =
    looks-some (Plain elementary.Bool) kinds gives e
enough types timers (Jump IfFalse distance) kinds gives e =
    looks-some (Plain elementary.Bool) kinds gives e
enough types timers (Timer SetInput n) kinds gives e =
    let size : length kinds ≡ suc (length gives) =
    below-some (Plain elementary.Bool) kinds gives (timer-made timers n _ gives e) in omega arith
enough types timers (Timer SetPreset n) kinds gives e =
    let size : length kinds ≡ suc (length gives) =
    below-some (Plain elementary.Time) kinds gives (timer-made timers n _ gives e) in omega arith
enough types timers i x gives e = omega arith

-- ---- the kinds fit

wider-below : (lower upper : CellKind) (kinds rest : List CellKind) → is_within lower upper ≡ true
    → below lower kinds ≡ Some rest → below upper kinds ≡ Some rest
wider-below lower upper [] rest h e = absurd cc
wider-below lower upper (k ∷ kinds) rest h e = go (is_within k lower) refl e
  where
    go : (b : Bool) → is_within k lower ≡ b → cond b (Some kinds) None ≡ Some rest
        → cond (is_within k upper) (Some kinds) None ≡ Some rest
    go true is f = rw (within-along k lower upper is h) f
    go false is f = absurd cc

second-within : (w : Width) (b : Bool)
    → is_within (cond b (NotZero w) (Plain (type_of_width w))) (Plain (type_of_width w)) ≡ true
second-within w true = same-self (type_of_width w)
second-within w false = same-self (type_of_width w)

undivided-some : (types : List ElementaryType) (timers : ℕ) (i : Instr)
    (kinds gives : List CellKind)
    → kinds_after types timers i kinds ≡ Some gives
    → kinds_after types timers (without_divisor i) kinds ≡ Some gives
undivided-some types timers (Compute o w) kinds gives e =
    let number = Plain (type_of_width w) in
    let f = λ (more : List CellKind). below number more >>= (λ rest. Some (number ∷ rest)) in
    let m = bind-some (below (second_kind o w) kinds) f gives e in
    let wide : below number kinds ≡ Some m.0 =
    wider-below (second_kind o w) number kinds m.0 (second-within w (divides o)) m.1 in
    rw wide m.2
undivided-some types timers i kinds gives e = e

fits-all : (a b : Option (List CellKind)) (x y : List CellKind) → a ≡ Some x → b ≡ Some y
    → operand_fault a b ≡ None
fits-all a b x y e f = rw (e, f) refl

-- ---- the faults behind an effect

behind-none : (a b r : Option VerifyFault) → a ≡ None → b ≡ r → (a or_else b) ≡ r
behind-none None b r e f = f
behind-none (Some x) b r e f = absurd cc

-- where an instruction is allowed on the kinds, what is behind the first faults is its fault
allowed-behind : (slots : List SlotType) (timers : ℕ) (i : Instr) (kinds gives : List CellKind)
    (r : Option VerifyFault) → kinds_after (types_of slots) timers i kinds ≡ Some gives
    → (fault_if (writes_read_only slots i) BadBinding or_else fault_if (is_full (Some gives))
    StackFull) ≡ r → fault_of slots timers i kinds ≡ r
unfolding fault_of
allowed-behind slots timers i kinds gives r e last =
    let many : operands i ≤ length kinds = enough (types_of slots) timers i kinds gives e in
    behind-none (missing_fault (length slots) timers i) _ r
    (nothing-missing slots timers i kinds gives e)
    (behind-none (fault_if (nat_lt (length kinds) (operands i)) StackEmpty) _ r
    (not-where _ StackEmpty (le-ltb (length kinds) (operands i) many))
    (behind-none (kind_fault slots timers i kinds) _ r
    (fits-all _ _ gives gives (undivided-some (types_of slots) timers i kinds gives e) e)
    (rw e last)))

pub allowed-faultless : (slots : List SlotType) (timers : ℕ) (i : Instr)
    (kinds gives : List CellKind)
    → kinds_after (types_of slots) timers i kinds ≡ Some gives → writes_read_only slots i ≡ false
    → length gives ≤ most_cells
    → fault_of slots timers i kinds ≡ None
allowed-faultless slots timers i kinds gives e writes room =
    allowed-behind slots timers i kinds gives None e
    (rw (writes, le-ltb most_cells (length gives) room) refl)

pub write-fault : (slots : List SlotType) (timers : ℕ) (i : Instr) (kinds gives : List CellKind)
    → kinds_after (types_of slots) timers i kinds ≡ Some gives → writes_read_only slots i ≡ true
    → fault_of slots timers i kinds ≡ Some BadBinding
write-fault slots timers i kinds gives e writes =
    allowed-behind slots timers i kinds gives (Some BadBinding) e (rw writes refl)

pub room-fault : (slots : List SlotType) (timers : ℕ) (i : Instr) (kinds gives : List CellKind)
    → kinds_after (types_of slots) timers i kinds ≡ Some gives → writes_read_only slots i ≡ false
    → most_cells < length gives
    → fault_of slots timers i kinds ≡ Some StackFull
room-fault slots timers i kinds gives e writes many =
    allowed-behind slots timers i kinds gives (Some StackFull) e
    (rw (writes, lt-ltb most_cells (length gives) many) refl)

-- ---- the first faults

pub missing-fault : (slots : List SlotType) (timers : ℕ) (i : Instr) (kinds : List CellKind)
    (f : VerifyFault) → missing_fault (length slots) timers i ≡ Some f
    → fault_of slots timers i kinds ≡ Some f
unfolding fault_of
missing-fault slots timers i kinds f e = rw e refl

pub misfit-fault : (slots : List SlotType) (timers : ℕ) (i : Instr) (kinds : List CellKind)
    (f : VerifyFault) → missing_fault (length slots) timers i ≡ None → operands i ≤ length kinds
    → kind_fault slots timers i kinds ≡ Some f
    → fault_of slots timers i kinds ≡ Some f
unfolding fault_of
misfit-fault slots timers i kinds f e many is =
    behind-none (missing_fault (length slots) timers i) _ (Some f) e
    (behind-none (fault_if (nat_lt (length kinds) (operands i)) StackEmpty) _ (Some f)
    (not-where _ StackEmpty (le-ltb (length kinds) (operands i) many)) (rw is refl))

-- ---- what having no fault says

pub record IsFine (slots : List SlotType) (timers : ℕ) (i : Instr) (kinds : List CellKind)
    : Type 0 where
  pub writes : writes_read_only slots i ≡ false
  pub room : (gives : List CellKind) → kinds_after (types_of slots) timers i kinds ≡ Some gives
      → length gives ≤ most_cells

few : (n : ℕ) → nat_lt most_cells n ≡ false → n ≤ most_cells
few n e = elim (cases_lt most_cells n) [
  | inl h ↦ absurd (let yes : nat_lt most_cells n ≡ true = lt-ltb most_cells n h in cc)
  | inr h ↦ h
]

pub faultless-fine : (slots : List SlotType) (timers : ℕ) (i : Instr) (kinds : List CellKind)
    → fault_of slots timers i kinds ≡ None → IsFine slots timers i kinds
unfolding fault_of
faultless-fine slots timers i kinds e =
    let a = first-none (missing_fault (length slots) timers i) _ e in
    let b = first-none (fault_if (nat_lt (length kinds) (operands i)) StackEmpty) _ a.1 in
    let c = first-none (kind_fault slots timers i kinds) _ b.1 in
    let d = first-none (fault_if (writes_read_only slots i) BadBinding) _ c.1 in
    record {
      writes = not-so (writes_read_only slots i) BadBinding d.0;
      room = λ gives is. few (length gives)
          (subst (λ (o : Option (List CellKind)). is_full o ≡ false) is
          (not-so (is_full (kinds_after (types_of slots) timers i kinds)) StackFull d.1));
    }

-- ---- which faults an instruction has by itself

-- a fault of the image, not of memory
abbrev pub IsOwn : VerifyFault → Type 0
IsOwn StackEmpty = Unit {0}
IsOwn StackFull = Unit {0}
IsOwn WrongKind = Unit {0}
IsOwn ZeroDivisor = Unit {0}
IsOwn NoSlot = Unit {0}
IsOwn NoTimer = Unit {0}
IsOwn BadBinding = Unit {0}
IsOwn BadTarget = ⊥
IsOwn Unreachable = ⊥
IsOwn DepthClash = ⊥
IsOwn NoHalt = ⊥
IsOwn OutOfMemory = ⊥

-- each fault there is an own one
abbrev AllOwn : Option VerifyFault → Type 0
AllOwn None = Unit {0}
AllOwn (Some f) = IsOwn f

both-own : (a b : Option VerifyFault) → AllOwn a → AllOwn b → AllOwn (a or_else b)
both-own None b h g = g
both-own (Some f) b h g = h

so-own : (b : Bool) (f : VerifyFault) → IsOwn f → AllOwn (fault_if b f)
so-own true f h = h
so-own false f h = tt

unless-own : (b : Bool) (f : VerifyFault) → IsOwn f → AllOwn (cond b None (Some f))
unless-own true f h = tt
unless-own false f h = h

unfit-own : (a b : Option (List CellKind)) → AllOwn (operand_fault a b)
unfit-own None b = tt
unfit-own (Some x) None = tt
unfit-own (Some x) (Some y) = tt

missing-own : (slots timers : ℕ) (i : Instr) → AllOwn (missing_fault slots timers i)
missing-own slots timers (Slot slot_use n) = unless-own (nat_lt n slots) NoSlot tt
missing-own slots timers (Timer timer_use n) = unless-own (nat_lt n timers) NoTimer tt
missing-own slots timers i = tt

pub own-of : (slots : List SlotType) (timers : ℕ) (i : Instr) (kinds : List CellKind)
    (f : VerifyFault)
    → fault_of slots timers i kinds ≡ Some f → IsOwn f
unfolding fault_of
own-of slots timers i kinds f e =
    let all : AllOwn (fault_of slots timers i kinds) =
    both-own (missing_fault (length slots) timers i) _ (missing-own (length slots) timers i)
    (both-own (fault_if (nat_lt (length kinds) (operands i)) StackEmpty) _ (so-own _ StackEmpty tt)
    (both-own (kind_fault slots timers i kinds) _ (unfit-own _ _)
    (both-own (fault_if (writes_read_only slots i) BadBinding) _ (so-own _ BadBinding tt)
    (so-own _ StackFull tt)))) in
    subst AllOwn e all
