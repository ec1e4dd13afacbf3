-- An instruction that is allowed on kinds is allowed on kinds within them, and gives kinds within
-- those that it gives there.
use Rattle.std.proofs.Common.{sym, ◌≡◌, ℕ, Bool, true, false, cond, List, [], ◌∷◌, refl, ap, subst, ◌∙◌, Option, Some, None}
use Rattle.std.proofs.lemmas.Option.{same_Some, cond_some}
use Rattle.std.specs.Prelude.{nat_lt, slice_get}
use Rattle.bay_base.specs.Options.{◌>>=◌}
use Rattle.bay_base.specs.declared.types.ElementaryType.{ElementaryType}
use Rattle.bay_base.specs.declared.types.ElementaryType.TheVariants as elementary
use Rattle.bay_base.specs.Types.{same_type}
use Rattle.il_image.specs.declared.arithmetic.Width.{Width}
use Rattle.il_image.specs.declared.arithmetic.Width.TheVariants as width
use Rattle.il_image.specs.declared.arithmetic.Comparison.{Comparison}
use Rattle.il_image.specs.declared.instr.Instr.{Instr}
use Rattle.il_image.specs.declared.instr.Instr.TheVariants.{Halt, Push, Drop, Slot, Not, Combine, Compute, Compare, Widen, Jump, Timer}
use Rattle.il_image.specs.declared.kind.CellKind.{CellKind}
use Rattle.il_image.specs.declared.kind.CellKind.TheVariants.{Any, Plain, NotZero}
use Rattle.il_image.specs.declared.opcode.SlotUse.TheVariants.{Load, Store, SetIf, ResetIf}
use Rattle.il_image.specs.declared.opcode.Widening.TheVariants.{IntToDint, DintToLint}
use Rattle.il_image.specs.declared.opcode.When.TheVariants.{Always, IfTrue, IfFalse}
use Rattle.il_image.specs.declared.opcode.TimerUse.TheVariants.{SetInput, SetPreset, Run, LoadOutput, LoadElapsed}
use Rattle.il_image.specs.Arithmetic.{type_of_width}
use Rattle.il_image.specs.Effects.{are_compared, below, compares, kinds_after, kind_of, peek_kind, second_kind, replace_two, type_of_kind, widens, with_truth}
use Rattle.il_image.specs.Kinds.{AreWithin, is_within}
use Rattle.il_image.proofs.KindLemmas.{within-along, within-self, same-self, same-is}

pub not-both : {A : Type 0} (o : Option A) (x : A) → o ≡ None → o ≡ Some x → ⊥
not-both o x e f = cc

pub bind-some : {A B : Type 0} (o : Option A) (f : A → Option B) (y : B) → (o >>= f) ≡ Some y
    → (x : A) × (o ≡ Some x) × (f x ≡ Some y)
bind-some None f y e = absurd cc
bind-some (Some x) f y e = (x, refl, e)

pub bind-is : {A B : Type 0} (o : Option A) (f : A → Option B) (x : A) (r : Option B) → o ≡ Some x
    → f x ≡ r → (o >>= f) ≡ r
bind-is None f x r e g = absurd cc
bind-is (Some y) f x r e g = ap f (same_Some y x e) ∙ g

-- What comes of smaller kinds is there, and within what came of the others.
pub record Lowers (made : Option (List CellKind)) (upper : List CellKind) : Type 0 where
  pub lower : List CellKind
  pub is : made ≡ Some lower
  pub within : AreWithin lower upper

lowers-at : (made : Option (List CellKind)) (xs ys upper : List CellKind) → made ≡ Some xs
    → AreWithin xs ys
    → Some ys ≡ Some upper → Lowers made upper
lowers-at made xs ys upper e h is =
    record { lower = xs; is = e; within = subst (AreWithin xs) (same_Some ys upper is) h }

below-case : (wanted x y : CellKind) (xs ys rest : List CellKind) (b : Bool)
    → is_within y wanted ≡ b
    → is_within x y ≡ true → AreWithin xs ys → cond b (Some ys) None ≡ Some rest
    → Lowers (below wanted (x ∷ xs)) rest
below-case wanted x y xs ys rest true e h g is =
    let yes : is_within x wanted ≡ true = within-along x y wanted h e in
    lowers-at (below wanted (x ∷ xs)) xs ys rest (rw yes refl) g is
below-case wanted x y xs ys rest false e h g is = absurd cc

below-lower : (wanted : CellKind) (xs ys rest : List CellKind) → AreWithin xs ys
    → below wanted ys ≡ Some rest → Lowers (below wanted xs) rest
below-lower wanted [] [] rest h e = absurd cc
below-lower wanted [] (y ∷ ys) rest h e = absurd h
below-lower wanted (x ∷ xs) [] rest h e = absurd h
below-lower wanted (x ∷ xs) (y ∷ ys) rest h e =
    below-case wanted x y xs ys rest (is_within y wanted) refl h.0 h.1 e

-- what is made of an option, and of what lies below a top
lowers-made : {A : Type 0} (o : Option A) (f g : A → Option (List CellKind)) (upper : List CellKind)
    → ((x : A) → g x ≡ Some upper → Lowers (f x) upper) → (o >>= g) ≡ Some upper
    → Lowers (o >>= f) upper
lowers-made None f g upper lower e = absurd cc
lowers-made (Some x) f g upper lower e = lower x e

lowers-below : (wanted : CellKind) (xs ys upper : List CellKind)
    (f g : List CellKind → Option (List CellKind)) → AreWithin xs ys
    → ((us vs : List CellKind) → AreWithin us vs → g vs ≡ Some upper → Lowers (f us) upper)
    → (below wanted ys >>= g) ≡ Some upper → Lowers (below wanted xs >>= f) upper
lowers-below wanted xs ys upper f g h lower e =
    let r = bind-some (below wanted ys) g upper e in
    let l = below-lower wanted xs ys r.0 h r.1 in
    subst (λ (o : Option (List CellKind)). Lowers (o >>= f) upper) (sym l.is)
    (lower l.lower r.0 l.within r.2)

lowers-if : (b : Bool) (x y : Option (List CellKind)) (upper : List CellKind)
    → (y ≡ Some upper → Lowers x upper) → cond b y None ≡ Some upper → Lowers (cond b x None) upper
lowers-if false x y upper lower e = absurd cc
lowers-if true x y upper lower e = lower e

kept : (xs ys upper : List CellKind) → AreWithin xs ys → Some ys ≡ Some upper
    → Lowers (Some xs) upper
kept xs ys upper h e = lowers-at (Some xs) xs ys upper refl h e

pushed : (k : CellKind) (xs ys upper : List CellKind) → AreWithin xs ys → Some (k ∷ ys) ≡ Some upper
    → Lowers (Some (k ∷ xs)) upper
pushed k xs ys upper h e = kept (k ∷ xs) (k ∷ ys) upper (within-self k, h) e

looks-lower : (wanted : CellKind) (xs ys upper : List CellKind) → AreWithin xs ys
    → peek_kind wanted ys ≡ Some upper → Lowers (peek_kind wanted xs) upper
looks-lower wanted xs ys upper h e =
    lowers-below wanted xs ys upper _ _ h (λ us vs w f. kept xs ys upper h f) e

one-lower : (wanted gives : CellKind) (xs ys upper : List CellKind) → AreWithin xs ys
    → (below wanted ys >>= (λ rest. Some (gives ∷ rest))) ≡ Some upper
    → Lowers (below wanted xs >>= (λ rest. Some (gives ∷ rest))) upper
one-lower wanted gives xs ys upper h e =
    lowers-below wanted xs ys upper _ _ h (λ us vs w f. pushed gives us vs upper w f) e

two-lower : (top second gives : CellKind) (xs ys upper : List CellKind) → AreWithin xs ys
    → replace_two top second gives ys ≡ Some upper → Lowers (replace_two top second gives xs) upper
two-lower top second gives xs ys upper h e =
    lowers-below top xs ys upper _ _ h (λ us vs w f. one-lower second gives us vs upper w f) e

shown-lower : (x y : CellKind) (t : ElementaryType) → is_within x y ≡ true → type_of_kind y ≡ Some t
    → type_of_kind x ≡ Some t
shown-lower x Any t h e = absurd cc
shown-lower Any (Plain u) t h e = absurd cc
shown-lower (Plain v) (Plain u) t h e = ap (λ (w : ElementaryType). Some w) (same-is v u h) ∙ e
shown-lower (NotZero w) (Plain u) t h e =
    ap (λ (w : ElementaryType). Some w) (same-is (type_of_width w) u h) ∙ e
shown-lower Any (NotZero v) t h e = absurd cc
shown-lower (Plain u) (NotZero v) t h e = absurd cc
shown-lower (NotZero w) (NotZero v) t h e =
    ap (λ (w : ElementaryType). Some w) (same-is (type_of_width w) (type_of_width v) h) ∙ e

compares-lower : (c : Comparison) (xs ys upper : List CellKind) → AreWithin xs ys
    → compares c ys ≡ Some upper → Lowers (compares c xs) upper
compares-lower c [] [] upper h e = absurd cc
compares-lower c [] (y ∷ ys) upper h e = absurd h
compares-lower c (x ∷ xs) [] upper h e = absurd h
compares-lower c (x ∷ []) (y ∷ []) upper h e = absurd cc
compares-lower c (x ∷ []) (y ∷ u ∷ ys) upper h e = absurd h.1
compares-lower c (x ∷ v ∷ xs) (y ∷ []) upper h e = absurd h.1
compares-lower c (x ∷ v ∷ xs) (y ∷ u ∷ ys) upper h e =
    let f = λ (t : ElementaryType). type_of_kind u
    >>= (λ s. cond (are_compared c s t) (Some (Plain elementary.Bool ∷ ys)) None) in
    let t = bind-some (type_of_kind y) f upper e in
    let s = bind-some (type_of_kind u)
    (λ (s : ElementaryType). cond (are_compared c s t.0) (Some (Plain elementary.Bool ∷ ys))
    None) upper t.2 in
    let b = cond_some (are_compared c s.0 t.0) (Plain elementary.Bool ∷ ys) upper s.2 in
    let made : compares c (x ∷ v ∷ xs) ≡ Some (Plain elementary.Bool ∷ xs) =
    (rw (shown-lower x y t.0 h.0 t.1) (rw (shown-lower v u s.0 h.1.0 s.1) (rw b.0 refl))) in
    lowers-at (compares c (x ∷ v ∷ xs)) (Plain elementary.Bool ∷ xs) (Plain elementary.Bool ∷ ys)
    upper made (refl, h.1.1) (ap (λ (k : List CellKind). Some k) b.1)

-- what widening makes of a top that is within the two kinds or not
abbrev widened_to : Bool → Bool → Width → List CellKind → Option (List CellKind)
widened_to p q to rest =
    cond p (Some (NotZero to ∷ rest)) (cond q (Some (Plain (type_of_width to) ∷ rest)) None)

widened-lower : (to : Width) (p q b d : Bool) (xs ys upper : List CellKind) → (b ≡ true → p ≡ true)
    → (d ≡ true → q ≡ true) → AreWithin xs ys → widened_to b d to ys ≡ Some upper
    → Lowers (widened_to p q to xs) upper
widened-lower to true q true d xs ys upper f g h e =
    lowers-at _ (NotZero to ∷ xs) (NotZero to ∷ ys) upper refl (within-self (NotZero to), h) e
widened-lower to false q true d xs ys upper f g h e = absurd (let no : false ≡ true = f refl in cc)
widened-lower to true q false true xs ys upper f g h e =
    lowers-at _ (NotZero to ∷ xs) (Plain (type_of_width to) ∷ ys) upper refl
    (same-self (type_of_width to), h) e
widened-lower to false true false true xs ys upper f g h e =
    lowers-at _ (Plain (type_of_width to) ∷ xs) (Plain (type_of_width to) ∷ ys) upper refl
    (same-self (type_of_width to), h) e
widened-lower to false false false true xs ys upper f g h e =
    absurd (let no : false ≡ true = g refl in cc)
widened-lower to p q false false xs ys upper f g h e = absurd cc

widens-lower : (from to : Width) (xs ys upper : List CellKind) → AreWithin xs ys
    → widens from to ys ≡ Some upper → Lowers (widens from to xs) upper
widens-lower from to [] [] upper h e = absurd cc
widens-lower from to [] (y ∷ ys) upper h e = absurd h
widens-lower from to (x ∷ xs) [] upper h e = absurd h
widens-lower from to (x ∷ xs) (y ∷ ys) upper h e =
    widened-lower to (is_within x (NotZero from)) (is_within x (Plain (type_of_width from)))
    (is_within y (NotZero from)) (is_within y (Plain (type_of_width from))) xs ys upper
    (within-along x y (NotZero from) h.0) (within-along x y (Plain (type_of_width from)) h.0) h.1 e

truth-lower : (slots : List ElementaryType) (n : ℕ) (xs ys upper : List CellKind) → AreWithin xs ys
    → with_truth slots n ys ≡ Some upper → Lowers (with_truth slots n xs) upper
truth-lower slots n xs ys upper h e =
    lowers-made (slice_get slots n) _ _ upper
    (λ t f. lowers-if (same_type t elementary.Bool) _ _ upper
    (looks-lower (Plain elementary.Bool) xs ys upper h) f) e

pub effect-lower : (slots : List ElementaryType) (timers : ℕ) (i : Instr)
    (xs ys upper : List CellKind)
    → AreWithin xs ys → kinds_after slots timers i ys ≡ Some upper
    → Lowers (kinds_after slots timers i xs) upper
effect-lower slots timers Halt xs ys upper h e = kept xs ys upper h e
effect-lower slots timers (Push v) xs ys upper h e = pushed (kind_of v) xs ys upper h e
effect-lower slots timers Drop xs ys upper h e = below-lower Any xs ys upper h e
effect-lower slots timers (Slot Load n) xs ys upper h e =
    lowers-made (slice_get slots n) _ _ upper (λ t f. pushed (Plain t) xs ys upper h f) e
effect-lower slots timers (Slot Store n) xs ys upper h e =
    lowers-made (slice_get slots n) _ _ upper (λ t f. looks-lower (Plain t) xs ys upper h f) e
effect-lower slots timers (Slot SetIf n) xs ys upper h e = truth-lower slots n xs ys upper h e
effect-lower slots timers (Slot ResetIf n) xs ys upper h e = truth-lower slots n xs ys upper h e
effect-lower slots timers Not xs ys upper h e =
    one-lower (Plain elementary.Bool) (Plain elementary.Bool) xs ys upper h e
effect-lower slots timers (Combine c) xs ys upper h e =
    two-lower (Plain elementary.Bool) (Plain elementary.Bool) (Plain elementary.Bool) xs ys upper h
    e
effect-lower slots timers (Compute o w) xs ys upper h e =
    two-lower (second_kind o w) (Plain (type_of_width w)) (Plain (type_of_width w)) xs ys upper h e
effect-lower slots timers (Compare c) xs ys upper h e = compares-lower c xs ys upper h e
effect-lower slots timers (Widen IntToDint) xs ys upper h e =
    widens-lower width.Int width.Dint xs ys upper h e
effect-lower slots timers (Widen DintToLint) xs ys upper h e =
    widens-lower width.Dint width.Lint xs ys upper h e
effect-lower slots timers (Jump Always distance) xs ys upper h e = kept xs ys upper h e
effect-lower slots timers (Jump IfTrue distance) xs ys upper h e =
    looks-lower (Plain elementary.Bool) xs ys upper h e
effect-lower slots timers (Jump IfFalse distance) xs ys upper h e =
    looks-lower (Plain elementary.Bool) xs ys upper h e
effect-lower slots timers (Timer SetInput n) xs ys upper h e =
    lowers-if (nat_lt n timers) _ _ upper (below-lower (Plain elementary.Bool) xs ys upper h) e
effect-lower slots timers (Timer SetPreset n) xs ys upper h e =
    lowers-if (nat_lt n timers) _ _ upper (below-lower (Plain elementary.Time) xs ys upper h) e
effect-lower slots timers (Timer Run n) xs ys upper h e =
    lowers-if (nat_lt n timers) _ _ upper (kept xs ys upper h) e
effect-lower slots timers (Timer LoadOutput n) xs ys upper h e =
    lowers-if (nat_lt n timers) _ _ upper (pushed (Plain elementary.Bool) xs ys upper h) e
effect-lower slots timers (Timer LoadElapsed n) xs ys upper h e =
    lowers-if (nat_lt n timers) _ _ upper (pushed (Plain elementary.Time) xs ys upper h) e
