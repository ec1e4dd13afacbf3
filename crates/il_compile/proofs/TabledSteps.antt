-- What instructions that go on to the next make of the kinds on the stack.
use Rattle.std.proofs.Common.{◌≡◌, ℕ, zero, suc, pos, ◌+◌, ◌<◌, ◌≤◌, ◌&&◌, ◌||◌, Bool, true, false, not, if◌then◌else◌, List, [], ◌∷◌, ◌++◌, length, map, Option, Some, None, option_map, refl, sym, ap, subst, ◌∙◌, arith}
use Rattle.std.specs.Prelude.{slice_get}
use Rattle.std.specs.Ordering.{int_eq}
use Rattle.std.proofs.lemmas.Bool.{lt-ltb}
use Rattle.std.proofs.lemmas.List.{length-map}
use Rattle.bay_base.specs.Options.{◌>>=◌}
use Rattle.bay_base.specs.Types.{same_type}
use Rattle.bay_base.specs.declared.types.ElementaryType.{ElementaryType}
use Rattle.bay_base.specs.declared.types.ElementaryType.TheVariants as elementary
use Rattle.il_text.specs.declared.program.Conversion.{Conversion}
use Rattle.il_text.specs.declared.program.Conversion.TheVariants.{IntToDint, DintToLint}
use Rattle.il_text.specs.declared.program.TimerOutput.TheVariants.{Q, Et}
use Rattle.il_image.specs.Arithmetic.{type_of_width}
use Rattle.il_image.specs.Effects.{are_compared, below, compares as compares_kinds, kinds_after, kind_of, peek_kind, second_kind, replace_two, type_of_kind, widens, with_timer, with_truth}
use Rattle.il_image.specs.Kinds.{is_within}
use Rattle.il_image.specs.Machine.{divides, is_equality_test, most_cells}
use Rattle.il_image.specs.Tables.{LeadsTo, slot_types}
use Rattle.il_image.specs.Values.{number_of, type_of}
use Rattle.il_image.specs.declared.arithmetic.Comparison.{Comparison}
use Rattle.il_image.specs.declared.arithmetic.ArithmeticOperation.{ArithmeticOperation}
use Rattle.il_image.specs.declared.arithmetic.Width.{Width}
use Rattle.il_image.specs.declared.arithmetic.Width.TheVariants as width
use Rattle.il_image.specs.declared.instr.Instr.{Instr}
use Rattle.il_image.specs.declared.instr.Instr.TheVariants.{Halt, Push, Drop, Slot, Not, Combine, Compute, Compare, Widen, Jump, Timer}
use Rattle.il_image.specs.declared.kind.CellKind.{CellKind}
use Rattle.il_image.specs.declared.kind.CellKind.TheVariants.{Any, Plain, NotZero}
use Rattle.il_image.specs.declared.opcode.SlotUse.TheVariants.{Load, Store, SetIf, ResetIf}
use Rattle.il_image.specs.declared.opcode.TimerUse.TheVariants.{SetInput, SetPreset, Run}
use Rattle.il_image.specs.declared.value.Value.{Value}
use Rattle.il_image.specs.declared.value.Value.TheVariants.{Truth, Short, Long, Wide, Span}
use Rattle.il_image.proofs.KindLemmas.{same-is, same-self, within-any}
use Rattle.il_check.specs.Program.{Checked}
use Rattle.il_check.specs.Rules as rules
use Rattle.il_check.specs.TypedProgram.{IsOperand, is_divisor, is_writable, may_write, slot_type}
use Rattle.il_check.specs.declared.typed.External.{External as TypedExternal}
use Rattle.il_check.specs.declared.typed.Slot as typed
use Rattle.il_check.specs.declared.typed.Slot.TheVariants.{External, Variable}
use Rattle.il_check.specs.declared.typed.TypedOperand.{TypedOperand}
use Rattle.il_check.specs.declared.typed.TypedOperand.TheVariants as operand
use Rattle.il_compile.specs.Code.{push_operand, class_instr, slot_number, width_of}
use Rattle.il_compile.specs.Compiled.{image_of, point_of}
use Rattle.il_compile.specs.OperatorClasses.{OperatorClass, connects, computes, compares, widening_of}
use Rattle.il_compile.proofs.Values.{boolean-is, sense_divides, sense_gives, sense_takes}

-- ---- lists

get-front : {A : Type 0} (xs ys : List A) (n : ℕ) (x : A) → slice_get xs n ≡ Some x
    → slice_get (xs ++ ys) n ≡ Some x
get-front [] ys n x h = absurd cc
get-front (y ∷ xs) ys zero x h = h
get-front (y ∷ xs) ys (suc n) x h = get-front xs ys n x h

get-back : {A : Type 0} (xs ys : List A) (n k : ℕ) → length xs ≡ k
    → slice_get (xs ++ ys) (k + n) ≡ slice_get ys n
get-back {A = A} xs ys n k e = ap (λ m. slice_get (xs ++ ys) (m + n)) (sym e) ∙ whole xs
  where
    whole : (xs : List A) → slice_get (xs ++ ys) (length xs + n) ≡ slice_get ys n
    whole [] = let e : 0 + n ≡ n = omega arith in ap (slice_get ys) e
    whole (x ∷ xs) = let e : suc (length xs) + n ≡ suc (length xs + n) =
        omega arith in ap (slice_get (x ∷ xs ++ ys)) e ∙ whole xs

get-map : {A B : Type 0} (f : A → B) (xs : List A) (n : ℕ)
    → slice_get (map f xs) n ≡ option_map f (slice_get xs n)
get-map f [] n = refl
get-map f (x ∷ xs) zero = refl
get-map f (x ∷ xs) (suc n) = get-map f xs n

get-map-map : {A B C : Type 0} (f : B → C) (g : A → B) (xs : List A) (n : ℕ)
    → slice_get (map f (map g xs)) n ≡ option_map (λ x. f (g x)) (slice_get xs n)
get-map-map f g [] n = refl
get-map-map f g (x ∷ xs) zero = refl
get-map-map f g (x ∷ xs) (suc n) = get-map-map f g xs n

get-below : {A : Type 0} (xs : List A) (n : ℕ) (b : Bool) → n < length xs
    → slice_get (map (λ (x : A). b) xs) n ≡ Some b
get-below [] n b lt = absurd (omega arith)
get-below (x ∷ xs) zero b lt = refl
get-below (x ∷ xs) (suc n) b lt = get-below xs n b (omega arith)

some-below : {A B : Type 0} (f : A → B) (xs : List A) (n : ℕ) (b : B)
    → option_map f (slice_get xs n) ≡ Some b → n < length xs
some-below f [] n b e = absurd cc
some-below f (x ∷ xs) zero b e = omega arith
some-below f (x ∷ xs) (suc n) b e = let h = some-below f xs n b e in omega arith

-- ---- kinds

-- the kind of a result of a type, or of one that is not set
abbrev pub kind_at : Option ElementaryType → CellKind
kind_at None = Any
kind_at (Some kind) = Plain kind

number-within : (w : Width) (b : Bool)
    → is_within (if b then Plain (type_of_width w) else NotZero w) (Plain (type_of_width w)) ≡ true
number-within w true = same-self (type_of_width w)
number-within w false = same-self (type_of_width w)

kind-within : (v : Value) → is_within (kind_of v) (Plain (type_of v)) ≡ true
kind-within (Truth b) = refl
kind-within (Short z) = number-within width.Int (int_eq z (pos 0))
kind-within (Long z) = number-within width.Dint (int_eq z (pos 0))
kind-within (Wide z) = number-within width.Lint (int_eq z (pos 0))
kind-within (Span n) = refl

other-than-zero : (w : Width) (b : Bool) → not b ≡ true
    → is_within (if b then Plain (type_of_width w) else NotZero w) (NotZero w) ≡ true
other-than-zero w true h = absurd cc
other-than-zero w false h = same-self (type_of_width w)

-- a number other than 0
divisor-within : (v : Value) → not (int_eq (number_of v) (pos 0)) ≡ true
    → rules.is_number (type_of v) ≡ true
    → is_within (kind_of v) (NotZero (width_of (type_of v))) ≡ true
divisor-within (Truth b) h n = absurd cc
divisor-within (Short z) h n = other-than-zero width.Int (int_eq z (pos 0)) h
divisor-within (Long z) h n = other-than-zero width.Dint (int_eq z (pos 0)) h
divisor-within (Wide z) h n = other-than-zero width.Lint (int_eq z (pos 0)) h
divisor-within (Span z) h n = absurd cc

-- a kind within that of a type shows the type
shown : (k : CellKind) (kind : ElementaryType) → is_within k (Plain kind) ≡ true
    → type_of_kind k ≡ Some kind
shown Any kind h = absurd cc
shown (Plain t) kind h = ap Some (same-is t kind h)
shown (NotZero w) kind h = ap Some (same-is (type_of_width w) kind h)

width-back : (kind : ElementaryType) → rules.is_number kind ≡ true
    → type_of_width (width_of kind) ≡ kind
width-back elementary.Bool h = absurd cc
width-back elementary.Int h = refl
width-back elementary.Dint h = refl
width-back elementary.Lint h = refl
width-back elementary.Time h = absurd cc

-- ---- instructions

below-top : (wanted top : CellKind) (rest : List CellKind) → is_within top wanted ≡ true
    → below wanted (top ∷ rest) ≡ Some rest
below-top wanted top rest h = ap (λ b. if b then Some rest else None) h

looked : (wanted top : CellKind) (rest : List CellKind) → is_within top wanted ≡ true
    → peek_kind wanted (top ∷ rest) ≡ Some (top ∷ rest)
looked wanted top rest h =
    ap (λ (o : Option (List CellKind)). o >>= (λ ks. Some (top ∷ rest)))
    (below-top wanted top rest h)

two-tops : (first second gives v a : CellKind) (rest : List CellKind) → is_within v first ≡ true
    → is_within a second ≡ true
    → replace_two first second gives (v ∷ a ∷ rest) ≡ Some (gives ∷ rest)
two-tops first second gives v a rest h g =
    ap (λ (o : Option (List CellKind)). o
    >>= (λ more. below second more >>= (λ ks. Some (gives ∷ ks))))
    (below-top first v (a ∷ rest) h)
    ∙ ap (λ (o : Option (List CellKind)). o >>= (λ ks. Some (gives ∷ ks)))
    (below-top second a rest g)

-- what comparing makes
compared : (c : Comparison) (kind : ElementaryType)
    → is_equality_test c || not (rules.is_boolean kind) ≡ true → are_compared c kind kind ≡ true
compared c elementary.Bool h =
    elim (is_equality_test c) as
    (λ b. b || false ≡ true → true && (false || b) ≡ true)
    [ true ↦ (λ g. refl) | false ↦ (λ g. absurd cc) ] h
compared c elementary.Int h = refl
compared c elementary.Dint h = refl
compared c elementary.Lint h = refl
compared c elementary.Time h = refl

two-shown : (c : Comparison) (kind : ElementaryType) (v a : CellKind) (rest : List CellKind)
    → is_within v (Plain kind) ≡ true → is_within a (Plain kind) ≡ true
    → are_compared c kind kind ≡ true
    → compares_kinds c (v ∷ a ∷ rest) ≡ Some (Plain elementary.Bool ∷ rest)
two-shown c kind v a rest h g e =
    ap (λ (o : Option ElementaryType). o
    >>= (λ t. type_of_kind a
    >>= (λ u. if are_compared c u t then Some (Plain elementary.Bool ∷ rest) else None)))
    (shown v kind h)
    ∙ ap (λ (o : Option ElementaryType). o
    >>= (λ u. if are_compared c u kind then Some (Plain elementary.Bool ∷ rest) else None))
    (shown a kind g)
    ∙ ap (λ b. if b then Some (Plain elementary.Bool ∷ rest) else None) e

second-within : (o : ArithmeticOperation) (w : Width) (v : CellKind)
    → is_within v (Plain (type_of_width w)) ≡ true
    → (divides o ≡ true → is_within v (NotZero w) ≡ true) → is_within v (second_kind o w) ≡ true
second-within o w v h d =
    elim (divides o) as (λ b. divides o ≡ b
    → is_within v (if b then NotZero w else Plain (type_of_width w)) ≡ true)
    [ true ↦ (λ e. d e) | false ↦ (λ e. h) ] refl

-- what widening makes
record Widened (from to : Width) (top : CellKind) (rest : List CellKind) : Type 0 where
  wider : CellKind
  fits : is_within wider (Plain (type_of_width to)) ≡ true
  effect : widens from to (top ∷ rest) ≡ Some (wider ∷ rest)

widened : (from to : Width) (top : CellKind) (rest : List CellKind)
    → is_within top (Plain (type_of_width from)) ≡ true → Widened from to top rest
widened from to top rest h =
    elim (is_within top (NotZero from)) as
    (λ b. is_within top (NotZero from) ≡ b → Widened from to top rest) [
      | true ↦ (λ e. record {
        wider = NotZero to;
        fits = same-self (type_of_width to);
        effect =
            ap (λ b. if b then Some (NotZero to ∷ rest)
            else (if is_within top (Plain (type_of_width from))
            then Some (Plain (type_of_width to) ∷ rest) else None)) e;
      })
      | false ↦ (λ e. record {
        wider = Plain (type_of_width to);
        fits = same-self (type_of_width to);
        effect =
            ap (λ b. if b then Some (NotZero to ∷ rest)
            else (if is_within top (Plain (type_of_width from))
            then Some (Plain (type_of_width to) ∷ rest) else None)) e
            ∙ ap (λ b. if b then Some (Plain (type_of_width to) ∷ rest) else None) h;
      })
    ] refl

module _ (c : Checked) where
  abbrev pub slots : List ElementaryType
  slots = slot_types (image_of c)

  abbrev pub timers : ℕ
  timers = length (map (λ t. t.kind) c.timers)

  -- which slots may be written
  abbrev pub writable : List Bool
  writable = map (λ e. e.writable) c.externals ++ map (λ v. true) c.variables

  -- It writes no slot that may only be read.
  abbrev pub Keeps : Instr → Type 0
  Keeps (Slot Load n) = Unit {0}
  Keeps (Slot Store n) = slice_get writable n ≡ Some true
  Keeps (Slot SetIf n) = slice_get writable n ≡ Some true
  Keeps (Slot ResetIf n) = slice_get writable n ≡ Some true
  Keeps Halt = Unit {0}
  Keeps (Push v) = Unit {0}
  Keeps Drop = Unit {0}
  Keeps Not = Unit {0}
  Keeps (Combine x) = Unit {0}
  Keeps (Compute o w) = Unit {0}
  Keeps (Compare x) = Unit {0}
  Keeps (Widen w) = Unit {0}
  Keeps (Jump when distance) = Unit {0}
  Keeps (Timer timer_use n) = Unit {0}

  -- The instruction makes the second kinds of the first, and goes on behind itself.
  pub record Steps (i : Instr) (ks js : List CellKind) : Type 0 where
    pub effect : kinds_after slots timers i ks ≡ Some js
    pub room : length ks ≤ most_cells
    pub goes : LeadsTo i 0 0
    pub straight : (d : ℕ) → LeadsTo i 0 d → d ≡ 0
    pub keeps : Keeps i

  -- an instruction that goes on behind itself alone
  one-step : {i : Instr} → {ks js : List CellKind} → kinds_after slots timers i ks ≡ Some js
      → length ks ≤ most_cells → LeadsTo i 0 0 → ((d : ℕ) → LeadsTo i 0 d → d ≡ 0) → Keeps i
      → Steps i ks js
  one-step effect room goes straight keeps =
      record { effect = effect; room = room; goes = goes; straight = straight; keeps = keeps }

  abbrev pub Flow : List Instr → List CellKind → List CellKind → Type 0
  Flow [] ks js = ks ≡ js
  Flow (i ∷ is) ks ls = (js : List CellKind) × Steps i ks js × Flow is js ls

  pub flow-both : (a b : List Instr) (ks js ls : List CellKind) → Flow a ks js → Flow b js ls
      → Flow (a ++ b) ks ls
  flow-both [] b ks js ls e g = subst (λ x. Flow b x ls) (sym e) g
  flow-both (i ∷ a) b ks js ls f g = (f.0, f.1, flow-both a b f.0 js ls f.2 g)

  pub pushed : (v : Value) (ks : List CellKind) → length ks ≤ most_cells
      → Steps (Push v) ks (kind_of v ∷ ks)
  pushed v ks room =
      one-step refl room refl (λ d e. e) tt

  pub dropped : (top : CellKind) (ks : List CellKind) → length ks < most_cells
      → Steps Drop (top ∷ ks) ks
  dropped top ks room =
      one-step (below-top Any top ks (within-any top)) (omega arith) refl (λ d e. e) tt

  pub inverted : (top : CellKind) (ks : List CellKind)
      → is_within top (Plain elementary.Bool) ≡ true → length ks < most_cells
      → Steps Not (top ∷ ks) (Plain elementary.Bool ∷ ks)
  inverted top ks h room =
      one-step (ap (λ (o : Option (List CellKind)). o
      >>= (λ rest. Some (Plain elementary.Bool ∷ rest)))
      (below-top (Plain elementary.Bool) top ks h)) (omega arith) refl (λ d e. e) tt

  -- ---- slots and timers

  pub typed-slot : (s : typed.Slot) (kind : ElementaryType) → slot_type c s ≡ Some kind
      → slice_get slots (slot_number (length c.externals) s) ≡ Some kind
  typed-slot (External n) kind h =
      get-front (map (λ p. p.elementary) (map point_of c.externals))
      (map type_of (map (λ v. v.initial) c.variables)) n kind
      (get-map-map (λ p. p.elementary) point_of c.externals n ∙ h)
  typed-slot (Variable n) kind h =
      get-back (map (λ p. p.elementary) (map point_of c.externals))
      (map type_of (map (λ v. v.initial) c.variables)) n (length c.externals)
      (length-map (map point_of c.externals) (λ p. p.elementary) ∙ length-map c.externals point_of)
      ∙ get-map-map type_of (λ v. v.initial) c.variables n ∙ h

  pub written-slot : (s : typed.Slot) (kind : ElementaryType) → slot_type c s ≡ Some kind
      → may_write c s ≡ true → slice_get writable (slot_number (length c.externals) s) ≡ Some true
  written-slot (External n) kind h w =
      get-front (map (λ e. e.writable) c.externals) (map (λ v. true) c.variables) n true
      (get-map (λ e. e.writable) c.externals n ∙ there (slice_get c.externals n) h w)
    where
      there : (o : Option TypedExternal) → option_map (λ e. e.kind) o ≡ Some kind
          → is_writable o ≡ true → option_map (λ e. e.writable) o ≡ Some true
      there None h w = absurd cc
      there (Some e) h w = ap Some w
  written-slot (Variable n) kind h w =
      get-back (map (λ e. e.writable) c.externals) (map (λ v. true) c.variables) n
      (length c.externals) (length-map c.externals (λ e. e.writable))
      ∙ get-below c.variables n true (some-below (λ v. type_of v.initial) c.variables n kind h)

  timer-there : (n : ℕ) (o : Option (List CellKind)) → n < length c.timers
      → with_timer timers n o ≡ o
  timer-there n o lt =
      ap (λ b. if b then o else None)
      (lt-ltb n timers (let l = length-map c.timers (λ t. t.kind) in omega arith))

  -- ---- operands

  pub record Fetched (x : TypedOperand) (kind : ElementaryType) (ks : List CellKind) : Type 0 where
    pub top : CellKind
    pub fits : is_within top (Plain kind) ≡ true
    pub divides : is_divisor x ≡ true → rules.is_number kind ≡ true
        → is_within top (NotZero (width_of kind)) ≡ true
    pub step : Steps (push_operand (length c.externals) x) ks (top ∷ ks)

  pub fetched : (x : TypedOperand) (kind : ElementaryType) (ks : List CellKind) → IsOperand c x kind
      → length ks ≤ most_cells → Fetched x kind ks
  fetched (operand.Literal v) kind ks ok room = record {
    top = kind_of v;
    fits = subst (λ k. is_within (kind_of v) (Plain k) ≡ true) ok.1 (kind-within v);
    divides =
        λ d n. subst (λ k. is_within (kind_of v) (NotZero (width_of k)) ≡ true) ok.1
        (divisor-within v d (ap rules.is_number ok.1 ∙ n));
    step = pushed v ks room;
  }
  fetched (operand.Slot s) kind ks ok room = record {
    top = Plain kind;
    fits = same-self kind;
    divides = λ d n. absurd cc;
    step =
        one-step (ap (λ (o : Option ElementaryType). o >>= (λ t. Some (Plain t ∷ ks)))
        (typed-slot s kind ok)) room refl (λ d e. e) tt;
  }
  fetched (operand.TimerOutput n Q) kind ks ok room = record {
    top = Plain elementary.Bool;
    fits = subst (λ k. is_within (Plain elementary.Bool) (Plain k) ≡ true) ok.1 refl;
    divides = λ d n. absurd cc;
    step =
        one-step (timer-there n (Some (Plain elementary.Bool ∷ ks)) ok.0) room refl (λ d e. e) tt;
  }
  fetched (operand.TimerOutput n Et) kind ks ok room = record {
    top = Plain elementary.Time;
    fits = subst (λ k. is_within (Plain elementary.Time) (Plain k) ≡ true) ok.1 refl;
    divides = λ d n. absurd cc;
    step =
        one-step (timer-there n (Some (Plain elementary.Time ∷ ks)) ok.0) room refl (λ d e. e) tt;
  }

  -- ---- operators

  -- what an instruction leaves in place of two cells
  pub record Joins (i : Instr) (v a : CellKind) (rest : List CellKind) (kind : ElementaryType)
      : Type 0 where
    pub top : CellKind
    pub fits : is_within top (Plain kind) ≡ true
    pub step : Steps i (v ∷ a ∷ rest) (top ∷ rest)

  pub joined : (x : OperatorClass) (kind : ElementaryType) (v a : CellKind) (rest : List CellKind)
      → sense_takes x kind ≡ true → is_within v (Plain kind) ≡ true
      → is_within a (Plain kind) ≡ true
      → (sense_divides x ≡ true → is_within v (NotZero (width_of kind)) ≡ true)
      → length rest + 2 ≤ most_cells → Joins (class_instr x kind) v a rest (sense_gives x kind)
  joined (connects x) kind v a rest t h g d room =
      let e = boolean-is kind t in
      let h' : is_within v (Plain elementary.Bool) ≡ true =
      subst (λ k. is_within v (Plain k) ≡ true) e h in
      let g' : is_within a (Plain elementary.Bool) ≡ true =
      subst (λ k. is_within a (Plain k) ≡ true) e g in
      record {
        top = Plain elementary.Bool;
        fits = subst (λ k. is_within (Plain elementary.Bool) (Plain k) ≡ true) (sym e) refl;
        step =
            one-step (two-tops (Plain elementary.Bool) (Plain elementary.Bool)
            (Plain elementary.Bool)
            v a rest h' g') (omega arith) refl (λ d e. e) tt;
      }
  joined (computes o) kind v a rest t h g d room =
      let w = width_of kind in
      let e : type_of_width w ≡ kind = width-back kind t in
      let h' : is_within v (Plain (type_of_width w)) ≡ true =
      subst (λ k. is_within v (Plain k) ≡ true) (sym e) h in
      let g' : is_within a (Plain (type_of_width w)) ≡ true =
      subst (λ k. is_within a (Plain k) ≡ true) (sym e) g in
      record {
        top = Plain (type_of_width w);
        fits = subst (λ k. is_within (Plain (type_of_width w)) (Plain k) ≡ true) e
            (same-self (type_of_width w));
        step =
            one-step (two-tops (second_kind o w) (Plain (type_of_width w)) (Plain (type_of_width w))
            v
            a rest (second-within o w v h' d) g') (omega arith) refl (λ d e. e) tt;
      }
  joined (compares x) kind v a rest t h g d room = record {
    top = Plain elementary.Bool;
    fits = refl;
    step =
        one-step (two-shown x kind v a rest h g (compared x kind t)) (omega arith) refl (λ d e. e)
        tt;
  }

  -- what an instruction leaves in place of a cell
  pub record Turns (i : Instr) (v : CellKind) (rest : List CellKind) (kind : ElementaryType)
      : Type 0 where
    pub top : CellKind
    pub fits : is_within top (Plain kind) ≡ true
    pub step : Steps i (v ∷ rest) (top ∷ rest)

  pub converted : (x : Conversion) (v : CellKind) (rest : List CellKind)
      → is_within v (Plain (rules.converted_from x)) ≡ true → length rest < most_cells
      → Turns (Widen (widening_of x)) v rest (rules.converted_to x)
  converted IntToDint v rest h room =
      let w = widened width.Int width.Dint v rest h in
      record {
        top = w.wider;
        fits = w.fits;
        step =
            one-step w.effect (omega arith) refl (λ d e. e) tt;
      }
  converted DintToLint v rest h room =
      let w = widened width.Dint width.Lint v rest h in
      record {
        top = w.wider;
        fits = w.fits;
        step =
            one-step w.effect (omega arith) refl (λ d e. e) tt;
      }

  -- ---- writing

  pub stored : (n : ℕ) (kind : ElementaryType) (top : CellKind) (rest : List CellKind)
      → slice_get slots n ≡ Some kind → slice_get writable n ≡ Some true
      → is_within top (Plain kind) ≡ true → length rest < most_cells
      → Steps (Slot Store n) (top ∷ rest) (top ∷ rest)
  stored n kind top rest s w h room =
      one-step (ap (λ (o : Option ElementaryType). o >>= (λ t. peek_kind (Plain t) (top ∷ rest))) s
      ∙ looked (Plain kind) top rest h) (omega arith) refl (λ d e. e) w

  truth-looked : (n : ℕ) (top : CellKind) (rest : List CellKind)
      → slice_get slots n ≡ Some elementary.Bool → is_within top (Plain elementary.Bool) ≡ true
      → with_truth slots n (top ∷ rest) ≡ Some (top ∷ rest)
  truth-looked n top rest s h =
      ap (λ (o : Option ElementaryType). o
      >>= (λ t. if same_type t elementary.Bool
      then peek_kind (Plain elementary.Bool) (top ∷ rest) else None)) s
      ∙ looked (Plain elementary.Bool) top rest h

  pub set_if : (n : ℕ) (top : CellKind) (rest : List CellKind)
      → slice_get slots n ≡ Some elementary.Bool → slice_get writable n ≡ Some true
      → is_within top (Plain elementary.Bool) ≡ true → length rest < most_cells
      → Steps (Slot SetIf n) (top ∷ rest) (top ∷ rest)
  set_if n top rest s w h room =
      one-step (truth-looked n top rest s h) (omega arith) refl (λ d e. e) w

  pub reset-if : (n : ℕ) (top : CellKind) (rest : List CellKind)
      → slice_get slots n ≡ Some elementary.Bool → slice_get writable n ≡ Some true
      → is_within top (Plain elementary.Bool) ≡ true → length rest < most_cells
      → Steps (Slot ResetIf n) (top ∷ rest) (top ∷ rest)
  reset-if n top rest s w h room =
      one-step (truth-looked n top rest s h) (omega arith) refl (λ d e. e) w

  pub input-set : (n : ℕ) (top : CellKind) (rest : List CellKind) → n < length c.timers
      → is_within top (Plain elementary.Bool) ≡ true → length rest < most_cells
      → Steps (Timer SetInput n) (top ∷ rest) rest
  input-set n top rest lt h room =
      one-step (timer-there n (below (Plain elementary.Bool) (top ∷ rest)) lt
      ∙ below-top (Plain elementary.Bool) top rest h) (omega arith) refl (λ d e. e) tt

  pub preset-set : (n : ℕ) (top : CellKind) (rest : List CellKind) → n < length c.timers
      → is_within top (Plain elementary.Time) ≡ true → length rest < most_cells
      → Steps (Timer SetPreset n) (top ∷ rest) rest
  preset-set n top rest lt h room =
      one-step (timer-there n (below (Plain elementary.Time) (top ∷ rest)) lt
      ∙ below-top (Plain elementary.Time) top rest h) (omega arith) refl (λ d e. e) tt

  pub ran : (n : ℕ) (ks : List CellKind) → n < length c.timers → length ks ≤ most_cells
      → Steps (Timer Run n) ks ks
  ran n ks lt room =
      one-step (timer-there n (Some ks) lt) room refl (λ d e. e) tt
