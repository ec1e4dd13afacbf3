-- What operators make of values is what the tables and the integers say.
use Rattle.std.proofs.Common.{◌≡◌, ◌↔◌, ◌⊎◌, ℤ, pos, Bool as Truth, true, false, not, cond, ◌&&◌, ◌||◌, inl, inr, Option, Some, None, refl, sym, ap, subst, ◌∙◌, arith}
use Rattle.std.specs.Ordering.{int_eq}
use Rattle.std.proofs.lemmas.Int.{ints}
use Rattle.bay_base.specs.Options.{◌>>=◌}
use Rattle.bay_base.specs.Types.{same_type}
use Rattle.bay_base.specs.declared.types.ElementaryType.{ElementaryType}
use Rattle.bay_base.specs.declared.types.ElementaryType.TheVariants as type
use Rattle.il_text.specs.declared.program.Conversion.{Conversion}
use Rattle.il_text.specs.declared.program.Conversion.TheVariants as conversion
use Rattle.il_text.specs.declared.program.Operator.{Operator}
use Rattle.il_text.specs.declared.program.Operator.TheVariants as operator
use Rattle.il_image.specs.Arithmetic.{DividesBy, comparison_holds, computation_of, logic_of, type_of_width, wider_value}
use Rattle.il_image.specs.Machine.{divides, is_comparable, value_of_width}
use Rattle.il_image.specs.Values.{number_of, type_of}
use Rattle.il_image.specs.declared.arithmetic.Comparison.{Comparison}
use Rattle.il_image.specs.declared.arithmetic.Comparison.TheVariants as comparison
use Rattle.il_image.specs.declared.arithmetic.ArithmeticOperation.{ArithmeticOperation}
use Rattle.il_image.specs.declared.arithmetic.ArithmeticOperation.TheVariants.{Add, Sub, Mul, Div, Mod}
use Rattle.il_image.specs.declared.arithmetic.Width.{Width}
use Rattle.il_image.specs.declared.arithmetic.Width.TheVariants as width
use Rattle.il_image.specs.declared.opcode.Connective.{Connective}
use Rattle.il_image.specs.declared.opcode.Connective.TheVariants.{And, Or, Xor}
use Rattle.il_image.specs.declared.value.Value.{Value}
use Rattle.il_image.specs.declared.value.Value.TheVariants.{Truth as Logical, Short, Long, Wide, Span}
use Rattle.il_check.specs.declared.typed.SimpleOperation.TheVariants as op
use Rattle.il_check.specs.declared.typed.TypedOperand.{TypedOperand}
use Rattle.il_compile.specs.Meaning.{Memory, State, combination_of, computed_in, computed_values, connected_values, inverse, inverse_if, operand_value, state_after, state_after_close}
use Rattle.il_compile.specs.OperatorClasses.{compares, computes, connects, class_of, widening_of}
use Rattle.il_standard_laws.specs.Integers.{IsApplied, IsConverted, IsInverted, IsMadeOf, IsNegatedIf, IsOutcome, IsQuotient}
use Rattle.il_check.specs.Operators.{arithmetic, equality, logic, order, result_type}
use Rattle.il_standard_laws.proofs.IntegerLemmas.{computed, no-quotient}
use Rattle.il_standard_laws.proofs.NumberLemmas.{is-at-most, is-equal, is-less, not-same}

-- ---- comparisons and connectives hold where the integers say so

pub is-other : (a b : ℤ) → (not (int_eq a b) ≡ true) ↔ (a ≡ b → ⊥)
is-other a b = not-same (int_eq a b) (a ≡ b) (is-equal a b)

-- FALSE is 0, and TRUE is 1
one-is-true : (b : Truth) → (number_of (Logical b) ≡ pos 1) ↔ (b ≡ true)
one-is-true true = (λ e. refl, λ e. refl)
one-is-true false = (λ e. absurd (omega (arith, ints)), λ e. absurd (cc))

pub both-true : (a b : Truth) → (logic_of And a b ≡ true)
    ↔ ((number_of (Logical a) ≡ pos 1) × (number_of (Logical b) ≡ pos 1))
both-true true b = (λ e. (refl, (one-is-true b).1 e), λ h. (one-is-true b).0 h.1)
both-true false b = (λ e. absurd (cc), λ h. absurd (let k = (one-is-true false).0 h.0 in cc))

pub some-true : (a b : Truth) → (logic_of Or a b ≡ true)
    ↔ ((number_of (Logical a) ≡ pos 1) ⊎ (number_of (Logical b) ≡ pos 1))
some-true true b = (λ e. inl refl, λ h. refl)
some-true false b = (
  λ e. inr ((one-is-true b).1 e),
  λ h. elim h [
    | inl x ↦ absurd (let k = (one-is-true false).0 x in cc)
    | inr y ↦ (one-is-true b).0 y
  ],
)

pub one-true : (a b : Truth) → (logic_of Xor a b ≡ true)
    ↔ (number_of (Logical a) ≡ number_of (Logical b) → ⊥)
one-true true true = (λ e. absurd (cc), λ no. absurd (no refl))
one-true true false = (λ e same. omega (arith, ints), λ no. refl)
one-true false true = (λ e same. omega (arith, ints), λ no. refl)
one-true false false = (λ e. absurd (cc), λ no. absurd (no refl))

-- ---- values

-- a BOOL that says whether something holds is the one value of BOOL with the number 1 where it does
says : (P : Type 0) (x : Truth) → ((x ≡ true) ↔ P) → (v : Value)
    → (Some (Logical x) ≡ Some v)
    ↔ ((Some type.Bool ≡ Some (type_of v)) × ((number_of v ≡ pos 1) ↔ P))
says P x h (Logical y) = (
  λ e. let same : x ≡ y = cc in (
    refl,
    subst (λ (b : Truth). (number_of (Logical b) ≡ pos 1) ↔ P) same
        (λ f. h.0 ((one-is-true x).0 f), λ p. (one-is-true x).1 (h.1 p)),
  ),
  λ k. ap (λ (b : Truth). Some (Logical b)) (alike x y h (λ f. k.1.0 ((one-is-true y).1 f))
      (λ p. (one-is-true y).0 (k.1.1 p))),
)
  where
    alike : (x y : Truth) → ((x ≡ true) ↔ P) → (y ≡ true → P) → (P → y ≡ true) → x ≡ y
    alike true y h to from = sym (from (h.0 refl))
    alike false true h to from = h.1 (to refl)
    alike false false h to from = refl
says P x h (Short z) = (λ e. absurd (cc), λ k. absurd (let t = k.0 in cc))
says P x h (Long z) = (λ e. absurd (cc), λ k. absurd (let t = k.0 in cc))
says P x h (Wide z) = (λ e. absurd (cc), λ k. absurd (let t = k.0 in cc))
says P x h (Span n) = (λ e. absurd (cc), λ k. absurd (let t = k.0 in cc))

connected : (f : Truth → Truth → Truth) (P : ℤ → ℤ → Type 0)
    → ((x y : Truth) → (f x y ≡ true) ↔ P (number_of (Logical x)) (number_of (Logical y)))
    → (a b v : Value) → (connected_values a b f ≡ Some v)
    ↔ ((logic (type_of a) (type_of b) ≡ Some (type_of v))
    × ((number_of v ≡ pos 1) ↔ P (number_of a) (number_of b)))
connected f P h (Logical x) (Logical y) v =
    says (P (number_of (Logical x)) (number_of (Logical y))) (f x y) (h x y) v
connected f P h a b v = (λ e. absurd (cc), λ k. absurd (let t = k.0 in cc))

-- two values are compared where the table has a row
ordered : (t u : ElementaryType) → order t u
    ≡ cond (same_type t u && (not (same_type t type.Bool) || false)) (Some type.Bool) None
ordered type.Bool type.Bool = refl
ordered type.Int type.Int = refl
ordered type.Dint type.Dint = refl
ordered type.Lint type.Lint = refl
ordered type.Time type.Time = refl
ordered t u = refl

equated : (t u : ElementaryType) → equality t u
    ≡ cond (same_type t u && (not (same_type t type.Bool) || true)) (Some type.Bool) None
equated type.Bool type.Bool = refl
equated type.Int type.Int = refl
equated type.Dint type.Dint = refl
equated type.Lint type.Lint = refl
equated type.Time type.Time = refl
equated t u = refl

where-compared : (may : Truth) (P : Type 0) (x : Truth) → ((x ≡ true) ↔ P) → (v : Value)
    → (cond may (Some (Logical x)) None ≡ Some v)
    ↔ ((cond may (Some type.Bool) None ≡ Some (type_of v)) × ((number_of v ≡ pos 1) ↔ P))
where-compared true P x h v = says P x h v
where-compared false P x h v = (λ e. absurd (cc), λ k. absurd (let t = k.0 in cc))

compared : (c : Comparison) (P : Type 0) (a b v : Value) (row : Option ElementaryType)
    → row ≡ cond (is_comparable c a b) (Some type.Bool) None
    → ((comparison_holds c (number_of a) (number_of b) ≡ true) ↔ P)
    → (cond (is_comparable c a b)
    (Some (Logical (comparison_holds c (number_of a) (number_of b)))) None ≡ Some v)
    ↔ ((row ≡ Some (type_of v)) × ((number_of v ≡ pos 1) ↔ P))
compared c P a b v row is h =
    let both = where-compared (is_comparable c a b) P
    (comparison_holds c (number_of a) (number_of b)) h v in (
      λ e. let k = both.0 e in (is ∙ k.0, k.1),
      λ k. both.1 (sym is ∙ k.0, k.1),
    )

-- the value of a width that has a number
of-width : (w : Width) (z : ℤ) (v : Value) → (Some (value_of_width w z) ≡ Some v)
    ↔ ((Some (type_of_width w) ≡ Some (type_of v)) × (z ≡ number_of v))
of-width width.Int z (Short y) = (λ e. (refl, cc), λ k. ap (λ x. Some (Short x)) k.1)
of-width width.Dint z (Long y) = (λ e. (refl, cc), λ k. ap (λ x. Some (Long x)) k.1)
of-width width.Lint z (Wide y) = (λ e. (refl, cc), λ k. ap (λ x. Some (Wide x)) k.1)
of-width w z v = (λ e. absurd (cc), λ k. absurd (let t = k.0 in cc))

-- nothing comes of a division by 0
no-outcome : (operator : Operator) (o : ArithmeticOperation) (kind : ElementaryType) (a b z : ℤ)
    → class_of operator ≡ computes o → divides o && int_eq b (pos 0) ≡ true
    → IsOutcome operator kind a b z → ⊥
no-outcome operator.Div Div kind a b z s e h =
    no-quotient a h.0 (subst (λ (x : ℤ). IsQuotient a x h.0) ((is-equal b (pos 0)).0 e) h.1)
no-outcome operator.Mod Mod kind a b z s e h =
    no-quotient a h.0 (subst (λ (x : ℤ). IsQuotient a x h.0) ((is-equal b (pos 0)).0 e) h.1)
no-outcome operator o kind a b z s e h = absurd (cc)

some-divisor : (o : ArithmeticOperation) (b : ℤ) → divides o && int_eq b (pos 0) ≡ false
    → DividesBy o b
some-divisor Add b e = tt
some-divisor Sub b e = tt
some-divisor Mul b e = tt
some-divisor Div b e = λ zero. absurd (let t = (is-equal b (pos 0)).1 zero in cc)
some-divisor Mod b e = λ zero. absurd (let t = (is-equal b (pos 0)).1 zero in cc)

computed-by : (operator : Operator) (o : ArithmeticOperation) (w : Width) (a b : ℤ) (v : Value)
    (d : Truth)
    → class_of operator ≡ computes o → divides o && int_eq b (pos 0) ≡ d
    → (cond d None (Some (value_of_width w (computation_of o w a b))) ≡ Some v)
    ↔ ((Some (type_of_width w) ≡ Some (type_of v))
    × IsOutcome operator (type_of_width w) a b (number_of v))
computed-by operator o w a b v true s e =
    (λ f. absurd (cc), λ k. absurd (no-outcome operator o (type_of_width w) a b _ s e k.1))
computed-by operator o w a b v false s e =
    let h = computed operator o w a b (number_of v) s (some-divisor o b e) in
    let k = of-width w (computation_of o w a b) v in (
      λ f. let g = k.0 f in (g.0, h.0 g.1),
      λ g. k.1 (g.0, h.1 g.1),
    )

computed-in : (operator : Operator) (o : ArithmeticOperation) (w : Width) (a b : ℤ) (v : Value)
    → class_of operator ≡ computes o → (computed_in w o a b ≡ Some v)
    ↔ ((Some (type_of_width w) ≡ Some (type_of v))
    × IsOutcome operator (type_of_width w) a b (number_of v))
computed-in operator o w a b v s =
    computed-by operator o w a b v (divides o && int_eq b (pos 0)) s refl

calculated : (operator : Operator) (o : ArithmeticOperation) (a b v : Value)
    → class_of operator ≡ computes o
    → (computed_values o a b ≡ Some v)
    ↔ ((arithmetic (type_of a) (type_of b) ≡ Some (type_of v))
    × IsOutcome operator (type_of a) (number_of a) (number_of b) (number_of v))
calculated operator o (Short a) (Short b) v s = computed-in operator o width.Int a b v s
calculated operator o (Long a) (Long b) v s = computed-in operator o width.Dint a b v s
calculated operator o (Wide a) (Wide b) v s = computed-in operator o width.Lint a b v s
calculated operator o a b v s = (λ e. absurd (cc), λ k. absurd (let t = k.0 in cc))

-- ---- all operators

as-made : (operator : Operator) (a b v : Value) (X : Type 0)
    → X ↔ ((result_type operator (type_of a) (type_of b) ≡ Some (type_of v))
    × IsOutcome operator (type_of a) (number_of a) (number_of b) (number_of v))
    → X ↔ IsMadeOf operator a b v
as-made operator a b v X h =
    (λ x. record { typed = (h.0 x).0; number = (h.0 x).1 }, λ m. h.1 (m.typed, m.number))

pub means : (operator : Operator) (a b v : Value)
    → (combination_of (class_of operator) a b ≡ Some v) ↔ IsMadeOf operator a b v
means operator.And a b v =
    as-made operator.And a b v _
    (connected (logic_of And) (λ x y. (x ≡ pos 1) × (y ≡ pos 1)) both-true a b v)
means operator.Or a b v =
    as-made operator.Or a b v _
    (connected (logic_of Or) (λ x y. (x ≡ pos 1) ⊎ (y ≡ pos 1)) some-true a b v)
means operator.Xor a b v =
    as-made operator.Xor a b v _ (connected (logic_of Xor) (λ x y. x ≡ y → ⊥) one-true a b v)
means operator.Add a b v = as-made operator.Add a b v _ (calculated operator.Add Add a b v refl)
means operator.Sub a b v = as-made operator.Sub a b v _ (calculated operator.Sub Sub a b v refl)
means operator.Mul a b v = as-made operator.Mul a b v _ (calculated operator.Mul Mul a b v refl)
means operator.Div a b v = as-made operator.Div a b v _ (calculated operator.Div Div a b v refl)
means operator.Mod a b v = as-made operator.Mod a b v _ (calculated operator.Mod Mod a b v refl)
means operator.Gt a b v =
    as-made operator.Gt a b v _
    (compared comparison.Gt _ a b v _ (ordered (type_of a) (type_of b))
    (is-less (number_of b) (number_of a)))
means operator.Ge a b v =
    as-made operator.Ge a b v _
    (compared comparison.Ge _ a b v _ (ordered (type_of a) (type_of b))
    (is-at-most (number_of b) (number_of a)))
means operator.Eq a b v =
    as-made operator.Eq a b v _
    (compared comparison.Eq _ a b v _ (equated (type_of a) (type_of b))
    (is-equal (number_of a) (number_of b)))
means operator.Ne a b v =
    as-made operator.Ne a b v _
    (compared comparison.Ne _ a b v _ (equated (type_of a) (type_of b))
    (is-other (number_of a) (number_of b)))
means operator.Le a b v =
    as-made operator.Le a b v _
    (compared comparison.Le _ a b v _ (ordered (type_of a) (type_of b))
    (is-at-most (number_of a) (number_of b)))
means operator.Lt a b v =
    as-made operator.Lt a b v _
    (compared comparison.Lt _ a b v _ (ordered (type_of a) (type_of b))
    (is-less (number_of a) (number_of b)))

-- ---- the machine's tests, conversions and NOT

says-so : (x : Truth) (P : Type 0) → ((x ≡ true) ↔ P) → (number_of (Logical x) ≡ pos 1) ↔ P
says-so x P h = (λ e. h.0 ((one-is-true x).0 e), λ p. (one-is-true x).1 (h.1 p))

-- the machine's comparisons are those of the standard
pub tests : (operator : Operator) (c : Comparison) (kind : ElementaryType) (a b : ℤ)
    → class_of operator ≡ compares c
    → IsOutcome operator kind a b (number_of (Logical (comparison_holds c a b)))
tests operator.Gt comparison.Gt kind a b e = says-so _ _ (is-less b a)
tests operator.Ge comparison.Ge kind a b e = says-so _ _ (is-at-most b a)
tests operator.Eq comparison.Eq kind a b e = says-so _ _ (is-equal a b)
tests operator.Ne comparison.Ne kind a b e = says-so _ _ (is-other a b)
tests operator.Le comparison.Le kind a b e = says-so _ _ (is-at-most a b)
tests operator.Lt comparison.Lt kind a b e = says-so _ _ (is-less a b)
tests operator c kind a b e = absurd (cc)

-- the machine's connectives are those of the standard
pub joins : (operator : Operator) (c : Connective) (kind : ElementaryType) (a b : Truth)
    → class_of operator ≡ connects c
    → IsOutcome operator kind (number_of (Logical a)) (number_of (Logical b))
    (number_of (Logical (logic_of c a b)))
joins operator.And And kind a b e = says-so _ _ (both-true a b)
joins operator.Or Or kind a b e = says-so _ _ (some-true a b)
joins operator.Xor Xor kind a b e = says-so _ _ (one-true a b)
joins operator c kind a b e = absurd (cc)

-- the machine's conversions are those of the standard
pub converts : (conversion : Conversion) (v w : Value)
    → (wider_value (widening_of conversion) v ≡ Some w) ↔ IsConverted conversion v w
converts conversion.IntToDint (Short z) (Long y) =
    (λ e. (refl, refl, cc), λ h. ap (λ x. Some (Long x)) (sym h.2))
converts conversion.DintToLint (Long z) (Wide y) =
    (λ e. (refl, refl, cc), λ h. ap (λ x. Some (Wide x)) (sym h.2))
converts conversion v w = (λ e. absurd (cc), λ h. absurd (let t = h.0 in let u = h.1 in cc))

-- the machine's negation is that of the standard
pub inverts : (v w : Value) → (inverse v ≡ Some w) ↔ IsInverted v w
inverts (Logical true) (Logical true) =
    (λ e. absurd (cc), λ h. absurd (let z = h.2.0 refl in omega (arith, ints)))
inverts (Logical true) (Logical false) = (
  λ e. (refl, refl, (λ f. absurd (omega (arith, ints)), λ f. absurd (omega (arith, ints)))),
  λ h. refl,
)
inverts (Logical false) (Logical true) = (λ e. (refl, refl, (λ f. refl, λ f. refl)), λ h. refl)
inverts (Logical false) (Logical false) =
    (λ e. absurd (cc), λ h. absurd (let z = h.2.1 refl in omega (arith, ints)))
inverts v w = (λ e. absurd (cc), λ h. absurd (let t = h.0 in let s = h.1 in cc))

-- ---- an operator with its operand, or with its parenthesis

negates : (negated : Truth) (v w : Value) → (inverse_if negated v ≡ Some w)
    ↔ IsNegatedIf negated v w
negates false v w = (λ e. cc, λ e. ap Some (sym e))
negates true v w = inverts v w

-- the state after an operator, on this result and this operand
abbrev state_of : Operator → Truth → Option Value → Option Value → Memory → Option State
state_of operator negated before operand m = do
  a ← before
  v ← operand
  b ← inverse_if negated v
  c ← combination_of (class_of operator) a b
  Some (record { result = Some c; memory = m })

module _ (operator : Operator) (negated : Truth) (m : Memory) (t : State) where
  from-made : (a v b : Value) (k : Option Value) → IsNegatedIf negated v b
      → combination_of (class_of operator) a b ≡ k
      → (k >>= (λ c. Some (record { result = Some c; memory = m }))) ≡ Some t
      → IsApplied operator negated (Some a) (Some v) t.result × (t.memory ≡ m)
  from-made a v b None n is e = absurd (cc)
  from-made a v b (Some c) n is e =
      let made : State = record { result = Some c; memory = m } in
      let same : made ≡ t = cc in (
        record {
          first = a;
          given = v;
          second = b;
          new = c;
          result = refl;
          read = refl;
          negation = n;
          made = (means operator a b c).0 is;
          leaves = sym (ap (λ (s : State). s.result) same);
        },
        sym (ap (λ (s : State). s.memory) same),
      )

  from-negated : (a v : Value) (i : Option Value) → inverse_if negated v ≡ i
      → (i >>= (λ b. combination_of (class_of operator) a b
      >>= (λ c. Some (record { result = Some c; memory = m })))) ≡ Some t
      → IsApplied operator negated (Some a) (Some v) t.result × (t.memory ≡ m)
  from-negated a v None is e = absurd (cc)
  from-negated a v (Some b) is e =
      from-made a v b (combination_of (class_of operator) a b) ((negates negated v b).0 is) refl e

  applied : (before operand : Option Value) → state_of operator negated before operand m ≡ Some t
      → IsApplied operator negated before operand t.result × (t.memory ≡ m)
  applied None operand e = absurd (cc)
  applied (Some a) None e = absurd (cc)
  applied (Some a) (Some v) e = from-negated a v (inverse_if negated v) refl e

  applies : (before operand : Option Value)
      → IsApplied operator negated before operand t.result × (t.memory ≡ m)
      → state_of operator negated before operand m ≡ Some t
  applies before operand h =
      let i = (negates negated h.0.given h.0.second).1 h.0.negation in
      let k = (means operator h.0.first h.0.second h.0.new).1 h.0.made in
      ap (λ (o : Option Value). state_of operator negated o operand m) h.0.result
      ∙ ap (λ (o : Option Value). state_of operator negated (Some h.0.first) o m) h.0.read
      ∙ ap (λ (o : Option Value). o >>= (λ b. combination_of (class_of operator) h.0.first b
      >>= (λ c. Some (record { result = Some c; memory = m })))) i
      ∙ ap (λ (o : Option Value). o >>= (λ c. Some (record { result = Some c; memory = m }))) k
      ∙ ap (λ (r : Option Value). Some (record { result = r; memory = m })) (sym h.0.leaves)
      ∙ ap (λ (x : Memory). Some (record { result = t.result; memory = x })) (sym h.1)

-- an operator with an operand means what the table says
pub instruction : (operator : Operator) (kind : ElementaryType) (negated : Truth)
    (x : TypedOperand) (s t : State)
    → (state_after (op.Combine operator kind negated x) s ≡ Some t)
    ↔ (IsApplied operator negated s.result (operand_value x s.memory) t.result
    × (t.memory ≡ s.memory))
instruction operator kind negated x s t = (
  applied operator negated s.memory t s.result (operand_value x s.memory),
  applies operator negated s.memory t s.result (operand_value x s.memory),
)

-- a closing parenthesis means what the table says
pub parenthesis : (operator : Operator) (negated : Truth) (before : Option Value)
    (inner t : State) → (state_after_close operator negated before inner ≡ Some t)
    ↔ (IsApplied operator negated before inner.result t.result × (t.memory ≡ inner.memory))
parenthesis operator negated before inner t = (
  applied operator negated inner.memory t before inner.result,
  applies operator negated inner.memory t before inner.result,
)
