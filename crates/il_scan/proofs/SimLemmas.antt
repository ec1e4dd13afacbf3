-- An instruction that is allowed on the kinds before it does to words what the machine of typed
-- values does to the values that they stand for.
use Rattle.std.proofs.Common.{◌≡◌, ℕ, ◌<◌, ◌≤◌, ℤ, pos, Bool, true, false, cond, ◌&&◌, List, [], ◌∷◌, length, refl, sym, ap, subst, ◌∙◌, arith, Option, Some, None}
use Rattle.std.proofs.lemmas.Option.{cond_some, same_Some}
use Rattle.std.specs.Prelude.{slice_get, nat_lt}
use Rattle.std.specs.Ordering.{int_eq}
use Rattle.std.proofs.lemmas.Bool.{ltb-true}
use Rattle.std.proofs.lemmas.Bool.Decides.{Decides-int_eq}
use Rattle.bay_base.specs.Options.{◌>>=◌}
use Rattle.bay_base.specs.declared.types.ElementaryType.{ElementaryType}
use Rattle.bay_base.specs.declared.types.ElementaryType.TheVariants as elementary
use Rattle.bay_base.specs.Types.{same_type}
use Rattle.il_image.specs.declared.arithmetic.Comparison.{Comparison}
use Rattle.il_image.specs.declared.arithmetic.ArithmeticOperation.{ArithmeticOperation}
use Rattle.il_image.specs.declared.arithmetic.ArithmeticOperation.TheVariants.{Div, Mod}
use Rattle.il_image.specs.declared.arithmetic.Width.{Width}
use Rattle.il_image.specs.declared.arithmetic.Width.TheVariants as width
use Rattle.il_image.specs.declared.instr.Instr.{Instr}
use Rattle.il_image.specs.declared.instr.Instr.TheVariants.{Halt, Push, Drop, Slot, Not, Combine, Compute, Compare, Widen, Jump, Timer}
use Rattle.il_image.specs.declared.kind.CellKind.{CellKind}
use Rattle.il_image.specs.declared.kind.CellKind.TheVariants.{Any, Plain, NotZero}
use Rattle.il_image.specs.declared.opcode.Connective.{Connective}
use Rattle.il_image.specs.declared.opcode.SlotUse.TheVariants.{Load, Store, SetIf, ResetIf}
use Rattle.il_image.specs.declared.opcode.When.TheVariants.{Always, IfTrue, IfFalse}
use Rattle.il_image.specs.declared.opcode.Widening.TheVariants.{IntToDint, DintToLint}
use Rattle.il_image.specs.declared.opcode.TimerUse.TheVariants.{SetInput, SetPreset, Run, LoadOutput, LoadElapsed}
use Rattle.il_image.specs.declared.timer.TimerState.{TimerState}
use Rattle.il_image.specs.declared.value.Value.{Value}
use Rattle.il_image.specs.declared.value.Value.TheVariants.{Truth}
use Rattle.il_image.specs.Arithmetic.{DividesBy, type_of_width}
use Rattle.il_image.specs.Effects.{are_compared, below, compares, kinds_after, kind_of, peek_kind, second_kind, replace_two, type_of_kind, widens, with_timer, with_truth}
use Rattle.il_image.specs.Images.{IsValue}
use Rattle.il_image.specs.Kinds.{HasKind, is_within}
use Rattle.il_image.specs.Machine.{divides, value_of_width, most_cells}
use Rattle.il_image.specs.Spelling.{IsInstr}
use Rattle.il_image.specs.Values.{number_of, type_of}
use Rattle.il_image.proofs.KindLemmas.{kind-above, same-is}
use Rattle.il_verify.proofs.EffectLemmas.{bind-some}
use Rattle.il_scan.specs.MachineStates.{HaveKinds, HaveTypes}
use Rattle.il_scan.proofs.ValueLemmas.{number_in, number-there, span-there, truth-there, type-in}
use Rattle.il_scan.proofs.CellLemmas.{on-top}
use Rattle.il_scan.proofs.DoesLemmas.{Does, does-combine, does-compare, does-compute, does-drop, does-jump, does-jump-if, does-jump-if-not, does-load, does-load-elapsed, does-load-output, does-not, does-push, does-reset-if, does-run, does-set-if, does-set-input, does-set-preset, does-store, does-widen, does-widen-long}

-- ---- each instruction that is allowed

room-of : (given after : List CellKind) → Some given ≡ Some after → length after ≤ most_cells
    → length given ≤ most_cells
room-of given after e room = let size : length given ≡ length after =
    ap (λ (k : List CellKind). length k) (same_Some given after e) in omega arith

not-zero : (z : ℤ) → (z ≡ pos 0 → ⊥) → int_eq z (pos 0) ≡ false
not-zero z ne = go (int_eq z (pos 0)) (Decides-int_eq z (pos 0)).0
  where
    go : (b : Bool) → (b ≡ true → z ≡ pos 0) → b ≡ false
    go true h = absurd (ne (h refl))
    go false h = refl

-- the divisor of an operation that divides is not zero
record Divisor (o : ArithmeticOperation) (w : Width) (v : Value) : Type 0 where
  type : type_of v ≡ type_of_width w
  test : (divides o && int_eq (number_of v) (pos 0)) ≡ false
  divisor : DividesBy o (number_of v)

divisor-of : (o : ArithmeticOperation) (w : Width) (v : Value) → HasKind v (second_kind o w)
    → Divisor o w v
divisor-of Div w v h = record { type = h.0; test = not-zero (number_of v) h.1; divisor = h.1 }
divisor-of Mod w v h = record { type = h.0; test = not-zero (number_of v) h.1; divisor = h.1 }
divisor-of i w v h = record { type = h; test = refl; divisor = tt }

shown : (v : Value) (k : CellKind) (t : ElementaryType) → HasKind v k → type_of_kind k ≡ Some t
    → type_of v ≡ t
shown v Any t h e = absurd cc
shown v (Plain u) t h e = h ∙ same_Some u t e
shown v (NotZero w) t h e = h.0 ∙ same_Some (type_of_width w) t e

module _ (types : List ElementaryType) (count now next p : ℕ) (slots : List Value)
    (timers : List TimerState) (after : List CellKind) (typed : HaveTypes types count slots timers)
  where
    abbrev Done : Instr → List Value → List CellKind → Type 0
    Done i cells kinds = Does types count now i next p cells slots timers kinds

    to-kinds : (i : Instr) (cells : List Value) (given : List CellKind) → Some given ≡ Some after
        → Done i cells given → Done i cells after
    to-kinds i cells given e d = subst (Done i cells) (same_Some given after e) d

    -- a BOOL is on top
    on-bool : (i : Instr) (kinds rest given : List CellKind)
        → below (Plain elementary.Bool) kinds ≡ Some rest
        → ((b : Bool) (others : List Value) → HaveKinds others rest
        → HaveKinds (Truth b ∷ others) kinds
        → Done i (Truth b ∷ others) given)
        → (cells : List Value) → HaveKinds cells kinds → Done i cells given
    on-bool i kinds rest given e does =
        on-top (Plain elementary.Bool) kinds rest (λ cells. Done i cells given) e
        (λ v others is good f all. let b = truth-there v is in
        rw b.1 (does b.0 others f (subst (λ (u : Value). HaveKinds (u ∷ others) kinds) b.1 all)))

    -- a BOOL on top that stays
    on-truth : (i : Instr) (cells : List Value) (kinds : List CellKind)
        → peek_kind (Plain elementary.Bool) kinds ≡ Some after → HaveKinds cells kinds
        → ((b : Bool) (others : List Value) (rest : List CellKind) → HaveKinds others rest
        → HaveKinds (Truth b ∷ others) kinds → Done i (Truth b ∷ others) kinds) → Done i cells after
    on-truth i cells kinds e fit does =
        let r = bind-some (below (Plain elementary.Bool) kinds) _ _ e in
        to-kinds i cells kinds r.2
        (on-bool i kinds r.0 kinds r.1 (λ b others f all. does b others r.0 f all) cells fit)

    on-bool-slot : (i : Instr) (n : ℕ) (cells : List Value) (kinds : List CellKind)
        → with_truth types n kinds ≡ Some after → HaveKinds cells kinds
        → ((b : Bool) (others : List Value) (rest : List CellKind)
        → slice_get types n ≡ Some elementary.Bool → HaveKinds others rest
        → HaveKinds (Truth b ∷ others) kinds → Done i (Truth b ∷ others) kinds) → Done i cells after
    on-bool-slot i n cells kinds e fit does =
        let t = bind-some (slice_get types n) _ _ e in
        go t.0 (same_type t.0 elementary.Bool) refl t.1 t.2
      where
        go : (t : ElementaryType) (b : Bool) → same_type t elementary.Bool ≡ b
            → slice_get types n ≡ Some t
            → cond b (peek_kind (Plain elementary.Bool) kinds) None ≡ Some after
            → Done i cells after
        go t false same get h = absurd cc
        go t true same get h =
            on-truth i cells kinds h fit
            (λ b others rest f all. does b others rest
            (get ∙ ap (λ (u : ElementaryType). Some u) (same-is t elementary.Bool same)) f all)

    on-timer : (i : Instr) (n : ℕ) (cells : List Value) (made : Option (List CellKind))
        → with_timer count n made ≡ Some after
        → (n < count → made ≡ Some after → Done i cells after)
        → Done i cells after
    on-timer i n cells made e does = go (nat_lt n count) refl e
      where
        go : (b : Bool) → nat_lt n count ≡ b → cond b made None ≡ Some after → Done i cells after
        go true is h = does (ltb-true n count is) h
        go false is h = absurd cc

    -- two values become one
    on-two : (i : Instr) (top second gives : CellKind) (cells : List Value) (kinds : List CellKind)
        → replace_two top second gives kinds ≡ Some after → HaveKinds cells kinds
        → ((v u : Value) (others : List Value) (rest : List CellKind) → HasKind v top
        → HasKind u second → HaveKinds others rest → Done i (v ∷ u ∷ others) (gives ∷ rest))
        → Done i cells after
    on-two i top second gives cells kinds e fit does =
        let m = bind-some (below top kinds) _ _ e in
        let r = bind-some (below second m.0) _ _ m.2 in
        to-kinds i cells (gives ∷ r.0) r.2
        (on-top top kinds m.0 (λ these. Done i these (gives ∷ r.0)) m.1
        (λ v more is good f all. on-top second m.0 r.0 (λ these. Done i (v ∷ these) (gives ∷ r.0))
        r.1 (λ u others is_u good_u g all. does v u others r.0 is is_u g) more f) cells fit)

    compute-does : (o : ArithmeticOperation) (w : Width) (cells : List Value)
        (kinds : List CellKind)
        → replace_two (second_kind o w) (Plain (type_of_width w)) (Plain (type_of_width w)) kinds
        ≡ Some after
        → HaveKinds cells kinds → Done (Compute o w) cells after
    compute-does o w cells kinds e fit =
        on-two (Compute o w) (second_kind o w) (Plain (type_of_width w)) (Plain (type_of_width w))
        cells kinds e fit
        (λ v u others rest is is_u f. let d = divisor-of o w v is in
        rw (number-there w v d.type, number-there w u is_u)
        (does-compute types count now next p others slots timers rest f typed o w (number_of u)
        (number_of v) d.test d.divisor))

    combine-does : (c : Connective) (cells : List Value) (kinds : List CellKind)
        → replace_two (Plain elementary.Bool) (Plain elementary.Bool) (Plain elementary.Bool) kinds
        ≡ Some after → HaveKinds cells kinds → Done (Combine c) cells after
    combine-does c cells kinds e fit =
        on-two (Combine c) (Plain elementary.Bool) (Plain elementary.Bool) (Plain elementary.Bool)
        cells kinds e fit
        (λ v u others rest is is_u f. let b = truth-there v is in let a = truth-there u is_u in
        rw (b.1, a.1) (does-combine types count now next p others slots timers rest f typed c a.0
        b.0))

    compare-does : (c : Comparison) (cells : List Value) (kinds : List CellKind)
        → compares c kinds ≡ Some after → HaveKinds cells kinds → Done (Compare c) cells after
    compare-does c cells [] e fit = absurd cc
    compare-does c cells (k ∷ []) e fit = absurd cc
    compare-does c [] (k ∷ l ∷ rest) e fit = absurd fit
    compare-does c (v ∷ []) (k ∷ l ∷ rest) e fit = absurd fit.1
    compare-does c (v ∷ u ∷ others) (k ∷ l ∷ rest) e fit =
        let t = bind-some (type_of_kind k) _ _ e
        in
        let s = bind-some (type_of_kind l) _ _ t.2 in
        let b = cond_some (are_compared c s.0 t.0) (Plain elementary.Bool ∷ rest) after s.2 in
        to-kinds (Compare c) (v ∷ u ∷ others) (Plain elementary.Bool ∷ rest)
        (ap (λ (x : List CellKind). Some x) b.1)
        (does-compare types count now next p others slots timers rest fit.1.1 typed c u v
        (rw (shown u l s.0 fit.1.0.0 s.1, shown v k t.0 fit.0.0 t.1) b.0))

    not-does : (cells : List Value) (kinds : List CellKind)
        → (below (Plain elementary.Bool) kinds >>= (λ rest. Some (Plain elementary.Bool ∷ rest)))
        ≡ Some after → HaveKinds cells kinds → Done Not cells after
    not-does cells kinds e fit =
        let k = Plain elementary.Bool in
        let r = bind-some (below k kinds) _ _ e in
        to-kinds Not cells (k ∷ r.0) r.2
        (on-bool Not kinds r.0 (k ∷ r.0) r.1 (λ b others f all. does-not types count now next p
        others slots timers r.0 f typed b) cells fit)

    store-does : (n : ℕ) (cells : List Value) (kinds : List CellKind)
        → (slice_get types n >>= (λ t. peek_kind (Plain t) kinds)) ≡ Some after
        → HaveKinds cells kinds
        → Done (Slot Store n) cells after
    store-does n cells kinds e fit =
        let s = bind-some (slice_get types n) _ _ e in
        let r = bind-some (below (Plain s.0) kinds) _ _ s.2
        in
        to-kinds (Slot Store n) cells kinds r.2
        (on-top (Plain s.0) kinds r.0 (λ these. Done (Slot Store n) these kinds) r.1
        (λ v others is good f all. does-store types count now next p v others slots timers r.0 f
        typed n s.0 kinds s.1 is good all) cells fit)

    -- WIDEN and WIDENL
    widen-does : (i : Instr) (from to : Width) (cells : List Value) (kinds : List CellKind)
        → widens from to kinds ≡ Some after → HaveKinds cells kinds
        → ((z : ℤ) (others : List Value) (rest : List CellKind) (k : CellKind)
        → HasKind (value_of_width to z) k → IsValue (value_of_width from z) → HaveKinds others rest
        → Done i (value_of_width from z ∷ others) (k ∷ rest)) → Done i cells after
    widen-does i from to cells [] e fit does = absurd cc
    widen-does i from to [] (k ∷ rest) e fit does = absurd fit
    widen-does i from to (v ∷ others) (k ∷ rest) e fit does =
        go (is_within k (NotZero from)) (is_within k (Plain (type_of_width from))) refl refl e
      where
        z : ℤ
        z = number_of v

        made : (k : CellKind) → type_of v ≡ type_of_width from → HasKind (value_of_width to z) k
            → Some (k ∷ rest) ≡ Some after → Done i (v ∷ others) after
        made k is kind e =
            let same = number-there from v is in
            to-kinds i (v ∷ others) (k ∷ rest) e
            (rw same (does z others rest k kind (subst IsValue same fit.0.1) fit.1))

        go : (a b : Bool) → is_within k (NotZero from) ≡ a
            → is_within k (Plain (type_of_width from)) ≡ b
            → cond a (Some (NotZero to ∷ rest)) (cond b (Some (Plain (type_of_width to) ∷ rest))
            None) ≡ Some after → Done i (v ∷ others) after
        go true b f g e = let h = kind-above v k (NotZero from) f fit.0.0 in
            made (NotZero to) h.0 (type-in to z, λ zero. h.1 (sym (number_in to z) ∙ zero)) e
        go false true f g e =
            made (Plain (type_of_width to)) (kind-above v k (Plain (type_of_width from)) g fit.0.0)
            (type-in to z) e
        go false false f g e = absurd cc

    pub does : (i : Instr) (cells : List Value) (kinds : List CellKind)
        → kinds_after types count i kinds ≡ Some after → IsInstr i → (i ≡ Halt → ⊥)
        → HaveKinds cells kinds
        → length after ≤ most_cells → Done i cells after
    does Halt cells kinds e good going fit room = absurd (going refl)
    does (Push v) cells kinds e good going fit room =
        to-kinds (Push v) cells (kind_of v ∷ kinds) e
        (does-push types count now next p cells slots timers typed kinds fit v good
        (room-of (kind_of v ∷ kinds) after e room))
    does Drop cells kinds e good going fit room =
        on-top Any kinds after (λ these. Done Drop these after) e
        (λ v others is good f all. does-drop types count now next p v others slots timers after f
        typed) cells fit
    does (Slot Load n) cells kinds e good going fit room =
        let t = bind-some (slice_get types n) _ _ e
        in
        to-kinds (Slot Load n) cells (Plain t.0 ∷ kinds) t.2
        (does-load types count now next p cells slots timers typed kinds fit n t.0 t.1
        (room-of (Plain t.0 ∷ kinds) after t.2 room))
    does (Slot Store n) cells kinds e good going fit room = store-does n cells kinds e fit
    does (Slot SetIf n) cells kinds e good going fit room =
        on-bool-slot (Slot SetIf n) n cells kinds e fit
        (λ b others rest get f all. does-set-if types count now next p others slots timers rest f
        typed n b kinds get all)
    does (Slot ResetIf n) cells kinds e good going fit room =
        on-bool-slot (Slot ResetIf n) n cells kinds e fit
        (λ b others rest get f all. does-reset-if types count now next p others slots timers rest
        f typed n b kinds get all)
    does Not cells kinds e good going fit room = not-does cells kinds e fit
    does (Combine c) cells kinds e good going fit room = combine-does c cells kinds e fit
    does (Compute o w) cells kinds e good going fit room = compute-does o w cells kinds e fit
    does (Compare c) cells kinds e good going fit room = compare-does c cells kinds e fit
    does (Widen IntToDint) cells kinds e good going fit room =
        widen-does (Widen IntToDint) width.Int width.Dint cells kinds e fit
        (λ z others rest k kind good f. does-widen types count now next p others slots timers rest f
        typed z k kind good)
    does (Widen DintToLint) cells kinds e good going fit room =
        widen-does (Widen DintToLint) width.Dint width.Lint cells kinds e fit
        (λ z others rest k kind good f. does-widen-long types count now next p others slots timers
        rest f typed z k kind good)
    does (Jump Always distance) cells kinds e good going fit room =
        to-kinds (Jump Always distance) cells kinds e
        (does-jump types count now next p cells slots timers typed kinds fit distance)
    does (Jump IfTrue distance) cells kinds e good going fit room =
        on-truth (Jump IfTrue distance) cells kinds e fit
        (λ b others rest f all. does-jump-if types count now next p others slots timers rest f
        typed b distance kinds all)
    does (Jump IfFalse distance) cells kinds e good going fit room =
        on-truth (Jump IfFalse distance) cells kinds e fit
        (λ b others rest f all. does-jump-if-not types count now next p others slots timers rest f
        typed b distance kinds all)
    does (Timer SetInput n) cells kinds e good going fit room =
        on-timer (Timer SetInput n) n cells (below (Plain elementary.Bool) kinds) e
        (λ there f. on-bool (Timer SetInput n) kinds after after f
        (λ b others g all. does-set-input types count now next p others slots timers after g typed n
        b there) cells fit)
    does (Timer SetPreset n) cells kinds e good going fit room =
        on-timer (Timer SetPreset n) n cells (below (Plain elementary.Time) kinds) e
        (λ there f. on-top (Plain elementary.Time) kinds after
        (λ these. Done (Timer SetPreset n) these after) f
        (λ v others is good g all. let s = span-there v is in
        rw s.1 (does-set-preset types count now next p others slots timers after g typed n s.0
        (subst IsValue s.1 good) there)) cells fit)
    does (Timer Run n) cells kinds e good going fit room =
        on-timer (Timer Run n) n cells (Some kinds) e
        (λ there f. to-kinds (Timer Run n) cells kinds f
        (does-run types count now next p cells slots timers typed kinds fit n there))
    does (Timer LoadOutput n) cells kinds e good going fit room =
        on-timer (Timer LoadOutput n) n cells (Some (Plain elementary.Bool ∷ kinds)) e
        (λ there f. to-kinds (Timer LoadOutput n) cells (Plain elementary.Bool ∷ kinds) f
        (does-load-output types count now next p cells slots timers typed kinds fit n there
        (room-of (Plain elementary.Bool ∷ kinds) after f room)))
    does (Timer LoadElapsed n) cells kinds e good going fit room =
        on-timer (Timer LoadElapsed n) n cells (Some (Plain elementary.Time ∷ kinds)) e
        (λ there f. to-kinds (Timer LoadElapsed n) cells (Plain elementary.Time ∷ kinds) f
        (does-load-elapsed types count now next p cells slots timers typed kinds fit n there
        (room-of (Plain elementary.Time ∷ kinds) after f room)))
