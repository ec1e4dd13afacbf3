-- An instruction is right by the checks' rules exactly where it is by the language's tables.
use Rattle.std.proofs.Common.{◌≡◌, ◌↔◌, ℕ, ◌≤◌, ℤ, pos, negsuc, Bool as Truth, true, false, not, cond, ltb, ◌&&◌, ◌||◌, is_some, List, [], ◌∷◌, Option, Some, None, option_map, refl, sym, ap, subst, ◌∙◌, arith}
use Rattle.std.specs.Prelude.{◌==◌}
use Rattle.std.proofs.lemmas.Bool.{and_parts, eq-eqb, eqb-true, not-false}
use Rattle.std.proofs.lemmas.Bool.Decides.{nat_tests}
use Rattle.bay_base.specs.Types.{same_type}
use Rattle.bay_base.specs.declared.types.ElementaryType.{ElementaryType}
use Rattle.bay_base.specs.declared.types.ElementaryType.TheVariants as elementary
use Rattle.il_text.specs.Listing as text
use Rattle.il_text.specs.declared.program.Condition.{Condition}
use Rattle.il_text.specs.declared.program.Condition.TheVariants.{Always, IfTrue, IfFalse}
use Rattle.il_text.specs.declared.program.Input.{Input}
use Rattle.il_text.specs.declared.program.Literal.{Literal}
use Rattle.il_text.specs.declared.program.Literal.TheVariants as literal
use Rattle.il_text.specs.declared.program.Operator.{Operator}
use Rattle.il_text.specs.declared.program.Operator.TheVariants.{Div, Mod}
use Rattle.il_text.specs.declared.program.TimerOutput.{TimerOutput}
use Rattle.il_text.specs.declared.program.StoreKind.{StoreKind}
use Rattle.il_text.specs.declared.program.StoreKind.TheVariants as store
use Rattle.il_image.specs.Values.{type_of, value_of}
use Rattle.il_image.specs.declared.value.Value.{Value}
use Rattle.il_image.specs.declared.value.Value.TheVariants as value
use Rattle.il_image.proofs.KindLemmas.{same-is, same-self}
use Rattle.il_check.specs.Declaring.{literal_value, of_type}
use Rattle.il_check.specs.SourceOperands.{ProgramNames, resolve_arguments, called_of, source_operand, is_nonzero, is_nonzero_literal, is_zero, resolve_output, resolve_variable_or_output, resolution_of, resolve_operand, resolve_variable}
use Rattle.il_check.specs.Labelling.{IsCombined, IsRight}
use Rattle.il_check.specs.Rules.{is_valid_on, arguments_fit, converted_from, divides, operand_fits, type_of_result, input_type, is_read_only, is_undeclared, is_plain, is_timer, is_unset, is_wrong, jumps_back, load_type, may_divide_by_zero, may_load, may_negate, has_undeclared_argument, jumps_to_undefined_label, uses_undeclared_name, is_undeclared_timer, typed_number, own_type, accepts_type, type_after, works, writes_read_only}
use Rattle.il_check.specs.declared.source_operand.SourceOperand.{SourceOperand}
use Rattle.il_check.specs.declared.source_operand.SourceOperand.TheVariants.{Missing, Misused, Known, Number}
use Rattle.il_check.specs.declared.source_operand.Meaning.{Meaning}
use Rattle.il_check.specs.declared.source_operand.Meaning.TheVariants as meaning
use Rattle.il_check.specs.declared.source_operand.Resolved.{Resolved}
use Rattle.il_check.specs.declared.source_operand.Resolved.TheVariants as resolved
use Rattle.il_check.proofs.GivenLemmas.{allows-any}
use Rattle.il_standard_laws.specs.Instructions.{AreArguments, CanHaveType, Combines, DoesNotDivide, IsDivisor, IsLiteralOf, IsLoaded, IsNotZero, IsRightAction, IsRightBlock, IsTimer, IsWritable, MayDivide, MayWrite, operand_kind, timer_output, variable_kind}
use Rattle.il_standard_laws.specs.Table.{IsFirstFit, MayNegate, Stores, Tests}
use Rattle.il_standard_laws.proofs.NumberLemmas.{first-in-lint, first-own, has-value, in-lint, is-between, not-same, own-first}
use Rattle.il_standard_laws.proofs.TableLemmas.{negation, row, table}

-- ---- operands

-- what has a known type has no other
known-fits : {A : Type 0} (k kind : ElementaryType) (x : A)
    → (is_some (cond (same_type k kind) (Some x) None) ≡ true) ↔ (kind ≡ k)
known-fits {A} k kind x = (
  λ e. one (same_type k kind) refl e,
  λ e. ap (λ (b : Truth). is_some (cond b (Some x) None))
      (subst (λ (t : ElementaryType). same_type k t ≡ true) (sym e) (same-self k)),
)
  where
    one : (b : Truth) → same_type k kind ≡ b → is_some (cond b (Some x) None) ≡ true → kind ≡ k
    one true is e = sym (same-is k kind is)
    one false is e = absurd (cc)

-- a typed literal with a number of its type, and without
typed-fits : (kind : ElementaryType) (v : Value) (b : Truth) (P : Type 0) → ((b ≡ true) ↔ P)
    → (operand_fits kind (source_operand (cond b (Some v) None)) ≡ true) ↔ ((kind ≡ type_of v) × P)
typed-fits kind v true P h =
    let k = known-fits (type_of v) kind _ in (λ e. (k.0 e, h.0 refl), λ p. k.1 p.0)
typed-fits kind v false P h = (λ e. absurd (cc), λ p. absurd (let t = h.1 p.1 in cc))

some-same : (k kind : ElementaryType) → (Some k ≡ Some kind) ↔ (kind ≡ k)
some-same k kind = (λ e. cc, λ e. ap Some (sym e))

typed-load : (kind : ElementaryType) (v : Value) (b : Truth) (P : Type 0) → ((b ≡ true) ↔ P)
    → (load_type (source_operand (cond b (Some v) None)) ≡ Some kind) ↔ ((kind ≡ type_of v) × P)
typed-load kind v true P h =
    let k = some-same (type_of v) kind in (λ e. (k.0 e, h.0 refl), λ p. k.1 p.0)
typed-load kind v false P h = (λ e. absurd (cc), λ p. absurd (let t = h.1 p.1 in cc))

mapped : {A B : Type 0} (f : A → B) (o : Option A) → is_some (option_map f o) ≡ is_some o
mapped f None = refl
mapped f (Some x) = refl

-- a number without a type can have each type that it fits, except TIME
number-is : (kind : ElementaryType) (z : ℤ) → (is_some (typed_number kind z) ≡ true)
    ↔ IsLiteralOf (literal.Number z) kind
number-is elementary.Time z = (λ e. absurd (cc), λ p. absurd (p.1 refl))
number-is kind z = let h = has-value kind z in (λ e. (h.0 e, λ t. cc), λ p. h.1 p.0)

number-fits : (kind : ElementaryType) (z : ℤ) (b : Truth)
    → is_some (value_of elementary.Lint z) ≡ b
    → (operand_fits kind (cond b (Number z) Misused) ≡ true) ↔ IsLiteralOf (literal.Number z) kind
number-fits kind z true is =
    let same = mapped (λ v. _) (typed_number kind z) in
    let h = number-is kind z in (λ e. h.0 (sym same ∙ e), λ p. same ∙ h.1 p)
number-fits kind z false is = (
  λ e. absurd (cc),
  λ p. absurd (let t = (has-value elementary.Lint z).1 (in-lint kind z p.0) in cc),
)

number-loads : (kind : ElementaryType) (z : ℤ) (b : Truth)
    → is_some (value_of elementary.Lint z) ≡ b
    → (load_type (cond b (Number z) Misused) ≡ Some kind) ↔ IsFirstFit z kind
number-loads kind z true is = (
  λ e. let own : own_type z ≡ kind = cc in
      subst (IsFirstFit z) own (own-first z ((has-value elementary.Lint z).0 is)),
  λ h. ap Some (first-own z kind h),
)
number-loads kind z false is = (
  λ e. absurd (cc),
  λ h. absurd (let t = (has-value elementary.Lint z).1 (first-in-lint z kind h) in cc),
)

variable-fits : (m : Option Meaning) (kind : ElementaryType)
    → (operand_fits kind (resolve_variable m) ≡ true) ↔ (variable_kind m ≡ Some kind)
variable-fits None kind = (λ e. absurd (cc), λ e. absurd (cc))
variable-fits (Some (meaning.Variable s k w)) kind =
    let f = known-fits k kind _ in
    let g = some-same k kind in (λ e. g.1 (f.0 e), λ e. f.1 (g.0 e))
variable-fits (Some (meaning.Timer n)) kind = (λ e. absurd (cc), λ e. absurd (cc))

output-fits : (what : TimerOutput) (m : Option Meaning) (kind : ElementaryType)
    → (operand_fits kind (resolve_output m what) ≡ true) ↔ (timer_output what m ≡ Some kind)
output-fits what None kind = (λ e. absurd (cc), λ e. absurd (cc))
output-fits what (Some (meaning.Variable s k w)) kind = (λ e. absurd (cc), λ e. absurd (cc))
output-fits what (Some (meaning.Timer n)) kind =
    let f = known-fits _ kind _ in
    let g = some-same _ kind in (λ e. g.1 (f.0 e), λ e. f.1 (g.0 e))

place-fits : (names : ProgramNames) (place : text.VariableData) (kind : ElementaryType)
    → (operand_fits kind (resolve_variable_or_output names place) ≡ true)
    ↔ (operand_kind names place ≡ Some kind)
place-fits names (text.named name) kind = variable-fits (names.meaning name) kind
place-fits names (text.output timer what) kind = output-fits what (names.meaning timer) kind

fits-is : (names : ProgramNames) (source : text.OperandData) (kind : ElementaryType)
    → (operand_fits kind (resolve_operand names source) ≡ true) ↔ CanHaveType names source kind
fits-is names (text.constant (literal.Truth b)) kind = known-fits elementary.Bool kind _
fits-is names (text.constant (literal.Number z)) kind = number-fits kind z _ refl
fits-is names (text.constant (literal.Int z)) kind =
    typed-fits kind (value.Short z) _ _ (is-between (negsuc 0x7FFF) (pos 0x7FFF) z)
fits-is names (text.constant (literal.Dint z)) kind =
    typed-fits kind (value.Long z) _ _ (is-between (negsuc 0x7FFF_FFFF) (pos 0x7FFF_FFFF) z)
fits-is names (text.constant (literal.Lint z)) kind =
    typed-fits kind (value.Wide z) _ _
    (is-between (negsuc 0x7FFF_FFFF_FFFF_FFFF) (pos 0x7FFF_FFFF_FFFF_FFFF) z)
fits-is names (text.constant (literal.Time n)) kind =
    typed-fits kind (value.Span n) _ _ (is-between (pos 0) (pos 0x7FFF_FFFF) (pos n))
fits-is names (text.variable place) kind = place-fits names place kind

variable-loads : (m : Option Meaning) → load_type (resolve_variable m) ≡ variable_kind m
variable-loads None = refl
variable-loads (Some (meaning.Variable s k w)) = refl
variable-loads (Some (meaning.Timer n)) = refl

output-loads : (what : TimerOutput) (m : Option Meaning)
    → load_type (resolve_output m what) ≡ timer_output what m
output-loads what None = refl
output-loads what (Some (meaning.Variable s k w)) = refl
output-loads what (Some (meaning.Timer n)) = refl

along : {A : Type 0} (x y z : A) → x ≡ y → (x ≡ z) ↔ (y ≡ z)
along x y z e = (λ f. sym e ∙ f, λ f. e ∙ f)

load-is : (names : ProgramNames) (source : text.OperandData) (kind : ElementaryType)
    → (load_type (resolve_operand names source) ≡ Some kind) ↔ IsLoaded names source kind
load-is names (text.constant (literal.Truth b)) kind = some-same elementary.Bool kind
load-is names (text.constant (literal.Number z)) kind = number-loads kind z _ refl
load-is names (text.constant (literal.Int z)) kind =
    typed-load kind (value.Short z) _ _ (is-between (negsuc 0x7FFF) (pos 0x7FFF) z)
load-is names (text.constant (literal.Dint z)) kind =
    typed-load kind (value.Long z) _ _ (is-between (negsuc 0x7FFF_FFFF) (pos 0x7FFF_FFFF) z)
load-is names (text.constant (literal.Lint z)) kind =
    typed-load kind (value.Wide z) _ _
    (is-between (negsuc 0x7FFF_FFFF_FFFF_FFFF) (pos 0x7FFF_FFFF_FFFF_FFFF) z)
load-is names (text.constant (literal.Time n)) kind =
    typed-load kind (value.Span n) _ _ (is-between (pos 0) (pos 0x7FFF_FFFF) (pos n))
load-is names (text.variable (text.named name)) kind =
    along _ _ (Some kind) (variable-loads (names.meaning name))
load-is names (text.variable (text.output timer what)) kind =
    along _ _ (Some kind) (output-loads what (names.meaning timer))

-- what has a type is no name that is missing
fits-there : (kind : ElementaryType) (g : SourceOperand) → operand_fits kind g ≡ true
    → is_undeclared g ≡ false
fits-there kind Missing e = absurd (cc)
fits-there kind Misused e = refl
fits-there kind (Known s) e = refl
fits-there kind (Number z) e = refl

loads-there : (kind : ElementaryType) (g : SourceOperand) → load_type g ≡ Some kind
    → is_undeclared g ≡ false
loads-there kind Missing e = absurd (cc)
loads-there kind Misused e = refl
loads-there kind (Known s) e = refl
loads-there kind (Number z) e = refl

-- ---- initial values

typed-initial : (kind : ElementaryType) (v : Value) (b : Truth) (P : Type 0) → ((b ≡ true) ↔ P)
    → (is_some (of_type kind (cond b (Some v) None)) ≡ true) ↔ ((kind ≡ type_of v) × P)
typed-initial kind v true P h =
    let k = known-fits (type_of v) kind v in (λ e. (k.0 e, h.0 refl), λ p. k.1 p.0)
typed-initial kind v false P h = (λ e. absurd (cc), λ p. absurd (let t = h.1 p.1 in cc))

-- a literal fits a variable of each type that it has
pub initial-is : (kind : ElementaryType) (l : Literal)
    → (is_some (literal_value kind l) ≡ true) ↔ IsLiteralOf l kind
initial-is kind (literal.Truth b) = known-fits elementary.Bool kind (value.Truth b)
initial-is kind (literal.Number z) = number-is kind z
initial-is kind (literal.Int z) =
    typed-initial kind (value.Short z) _ _ (is-between (negsuc 0x7FFF) (pos 0x7FFF) z)
initial-is kind (literal.Dint z) =
    typed-initial kind (value.Long z) _ _ (is-between (negsuc 0x7FFF_FFFF) (pos 0x7FFF_FFFF) z)
initial-is kind (literal.Lint z) =
    typed-initial kind (value.Wide z) _ _
    (is-between (negsuc 0x7FFF_FFFF_FFFF_FFFF) (pos 0x7FFF_FFFF_FFFF_FFFF) z)
initial-is kind (literal.Time n) =
    typed-initial kind (value.Span n) _ _ (is-between (pos 0) (pos 0x7FFF_FFFF) (pos n))

-- ---- what else is looked at

-- a target that has a type is a variable that may be written, or it is fixed
may-write : (names : ProgramNames) (place : text.VariableData) (kind : ElementaryType)
    → operand_kind names place ≡ Some kind
    → (is_read_only (resolve_variable_or_output names place) ≡ false) ↔ MayWrite names place
may-write names (text.named name) kind e = named (names.meaning name) e
  where
    named : (m : Option Meaning) → variable_kind m ≡ Some kind
        → (is_read_only (resolve_variable m) ≡ false) ↔ IsWritable m
    named None e = absurd (cc)
    named (Some (meaning.Variable s k w)) e = (λ f. not-false w f, λ h. ap not h)
    named (Some (meaning.Timer n)) e = absurd (cc)
may-write names (text.output timer what) kind e = fixed (names.meaning timer) e
  where
    fixed : (m : Option Meaning) → timer_output what m ≡ Some kind
        → (is_read_only (resolve_output m what) ≡ false) ↔ ⊥
    fixed None e = absurd (cc)
    fixed (Some (meaning.Variable s k w)) e = absurd (cc)
    fixed (Some (meaning.Timer n)) e = (λ f. absurd (cc), λ h. absurd h)

zero-is : (z : ℤ) → (is_zero z ≡ true) ↔ (z ≡ pos 0)
zero-is (pos n) =
    (λ e. ap pos (eqb-true n 0 e), λ e. eq-eqb n 0 (let k : n ≡ 0 = cc in k))
zero-is (negsuc n) = (λ e. absurd (cc), λ e. absurd (cc))

not-zero : (l : Literal) → (is_nonzero_literal l ≡ true) ↔ IsNotZero l
not-zero (literal.Truth b) = (λ e. e, λ e. e)
not-zero (literal.Number z) = not-same (is_zero z) _ (zero-is z)
not-zero (literal.Int z) = not-same (is_zero z) _ (zero-is z)
not-zero (literal.Dint z) = not-same (is_zero z) _ (zero-is z)
not-zero (literal.Lint z) = not-same (is_zero z) _ (zero-is z)
not-zero (literal.Time n) = not-same (n == 0) _ (eqb-true n 0, eq-eqb n 0)

divisor-is : (source : text.OperandData) → (not (is_nonzero source) ≡ false) ↔ IsDivisor source
divisor-is (text.constant l) =
    let h = not-zero l in (λ e. h.0 (not-false _ e), λ d. ap not (h.1 d))
divisor-is (text.variable place) = (λ e. absurd (cc), λ h. absurd h)

may-divide : (operator : Operator) (source : text.OperandData)
    → (divides operator && not (is_nonzero source) ≡ false) ↔ MayDivide operator source
may-divide Div source = divisor-is source
may-divide Mod source = divisor-is source
may-divide operator source = (λ e. tt, λ h. refl)

no-division : (operator : Operator) → (divides operator ≡ false) ↔ DoesNotDivide operator
no-division Div = (λ e. absurd (cc), λ h. absurd h)
no-division Mod = (λ e. absurd (cc), λ h. absurd h)
no-division operator = (λ e. tt, λ h. refl)

stored : (how : StoreKind) (kind : ElementaryType)
    → (may_negate (not (is_plain how)) kind ≡ true) ↔ Stores how kind kind
stored store.Plain kind = (λ e. refl, λ h. refl)
stored store.Negated kind =
    let n = negation true kind in (λ e. (n.0 e, n.0 e), λ h. n.1 h.0)
stored store.Set kind = let n = negation true kind in (λ e. (n.0 e, n.0 e), λ h. n.1 h.0)
stored store.Reset kind = let n = negation true kind in (λ e. (n.0 e, n.0 e), λ h. n.1 h.0)

stored-alike : (how : StoreKind) (kind target : ElementaryType) → Stores how kind target
    → target ≡ kind
stored-alike store.Plain kind target h = h
stored-alike store.Negated kind target h = h.1 ∙ sym h.0
stored-alike store.Set kind target h = h.1 ∙ sym h.0
stored-alike store.Reset kind target h = h.1 ∙ sym h.0

both-are : (a b : Truth) → a ≡ true → b ≡ true → a && b ≡ true
both-are true b e f = f
both-are false b e f = absurd (cc)

-- a condition is right on a result that it tests
tested : (condition : Condition) (label : Option ℕ) (t : Option ElementaryType)
    → ((is_wrong (resolved.Jump condition label) t ≡ false)
    × (is_unset (resolved.Jump condition label) t ≡ false)) ↔ Tests condition t
tested Always label None = (λ e. tt, λ h. (refl, refl))
tested Always label (Some kind) = (λ e. tt, λ h. (refl, refl))
tested IfTrue label None = (λ e. absurd (let k = e.1 in cc), λ h. absurd (cc))
tested IfTrue label (Some kind) =
    let n = negation true kind in (
      λ e. ap Some (n.0 (not-false _ e.0)),
      λ h. (ap not (n.1 (let k : kind ≡ elementary.Bool = cc in k)), refl),
    )
tested IfFalse label None = (λ e. absurd (let k = e.1 in cc), λ h. absurd (cc))
tested IfFalse label (Some kind) =
    let n = negation true kind in (
      λ e. ap Some (n.0 (not-false _ e.0)),
      λ h. (ap not (n.1 (let k : kind ≡ elementary.Bool = cc in k)), refl),
    )

left-tested : (condition : Condition) (t : Option ElementaryType)
    → ((is_wrong (resolved.Return condition) t ≡ false)
    × (is_unset (resolved.Return condition) t ≡ false)) ↔ Tests condition t
left-tested condition None = tested condition None None
left-tested condition (Some kind) = tested condition None (Some kind)

-- an instruction that is right on each result is right where the result is not set
right-any : (r : Resolved) (t : Option ElementaryType)
    → ((kind : ElementaryType) → is_valid_on r kind ≡ true) → is_wrong r t ≡ false
right-any r None h =
    ap (λ (b : Truth). not (b || is_valid_on r elementary.Int || is_valid_on r elementary.Dint
    || is_valid_on r elementary.Lint || is_valid_on r elementary.Time)) (h elementary.Bool)
right-any r (Some kind) h = ap not (h kind)

right-where : (passed : ℕ) (r : Resolved) (t : Option ElementaryType)
    → uses_undeclared_name r ≡ false
    → is_wrong r t ≡ false → is_unset r t ≡ false → jumps_back passed r ≡ false
    → jumps_to_undefined_label r ≡ false → writes_read_only r ≡ false → may_divide_by_zero r ≡ false
    → IsRight passed r t
right-where passed r t named allowed set forward labelled writable nonzero = record {
  named = named;
  allowed = allowed;
  set = set;
  forward = forward;
  labelled = labelled;
  writable = writable;
  nonzero = nonzero;
}

-- ---- calls

timer-is : (m : Option Meaning) → (is_timer (called_of m) ≡ true) ↔ IsTimer m
timer-is None = (λ e. absurd (cc), λ h. absurd h)
timer-is (Some (meaning.Variable s k w)) = (λ e. absurd (cc), λ h. absurd h)
timer-is (Some (meaning.Timer n)) = (λ e. tt, λ h. refl)

timer-there : (m : Option Meaning) → IsTimer m → is_undeclared_timer (called_of m) ≡ false
timer-there None h = absurd h
timer-there (Some (meaning.Variable s k w)) h = absurd h
timer-there (Some (meaning.Timer n)) h = refl

given-is : (names : ProgramNames) (a : Input × text.OperandData)
    → (operand_fits (input_type a.0) (resolve_operand names a.1) ≡ true)
    ↔ CanHaveType names a.1 (input_type a.0)
given-is names a = fits-is names a.1 (input_type a.0)

are-given : (names : ProgramNames) (args : List (Input × text.OperandData))
    → (arguments_fit (resolve_arguments names args) ≡ true) ↔ AreArguments names args
are-given names [] = (λ e. tt, λ h. refl)
are-given names (a ∷ []) = given-is names a
are-given names (a ∷ b ∷ more) =
    let f = given-is names a in
    let g = given-is names b in (
      λ e. let both = and_parts (operand_fits (input_type a.0) (resolve_operand names a.1))
          (operand_fits (input_type b.0) (resolve_operand names b.1)) e in (f.0 both.0, g.0 both.1),
      λ h. both-are _ _ (f.1 h.0) (g.1 h.1),
    )

none-of : (a b : Truth) → a ≡ false → b ≡ false → a || b ≡ false
none-of true b e f = absurd (cc)
none-of false b e f = f

given-there : (names : ProgramNames) (args : List (Input × text.OperandData))
    → AreArguments names args
    → has_undeclared_argument (resolve_arguments names args) ≡ false
given-there names [] h = refl
given-there names (a ∷ []) h =
    fits-there (input_type a.0) (resolve_operand names a.1) ((given-is names a).1 h)
given-there names (a ∷ b ∷ more) h =
    none-of _ _ (fits-there (input_type a.0) (resolve_operand names a.1) ((given-is names a).1 h.0))
    (fits-there (input_type b.0) (resolve_operand names b.1) ((given-is names b).1 h.1))

-- ---- operators

combined : (operator : Operator) (negated : Truth) (kind : ElementaryType)
    (u : Option ElementaryType) → works operator negated kind ≡ true
    → Some (type_of_result operator kind) ≡ u → Combines operator negated (Some kind) u kind
combined operator negated kind u w e =
    let both = and_parts (accepts_type operator kind) (may_negate negated kind) w in
    record {
      first = kind;
      new = type_of_result operator kind;
      on = refl;
      row = row operator kind both.0;
      negation = (negation negated kind).0 both.1;
      leaves = sym e;
    }

-- an operator that combines works on the type of the result, which is that of the operand
record Working (operator : Operator) (negated : Truth) (kind second : ElementaryType)
    (u : Option ElementaryType) : Type 0 where
  works : works operator negated kind ≡ true
  alike : second ≡ kind
  leaves : Some (type_of_result operator kind) ≡ u

working : (operator : Operator) (negated : Truth) (kind second : ElementaryType)
    (u : Option ElementaryType) → Combines operator negated (Some kind) u second
    → Working operator negated kind second u
working operator negated kind second u h =
    let one = (table operator h.first second h.new).0 h.row in
    let first : h.first ≡ kind = (let e = h.on in cc) in
    let alike : second ≡ kind = one.1 ∙ first in
    record {
      works = both-are _ _ (ap (accepts_type operator) (sym first) ∙ one.0)
          ((negation negated kind).1
          (subst (λ (k : ElementaryType). MayNegate negated k) alike h.negation));
      alike = alike;
      leaves = ap (λ (k : ElementaryType). Some (type_of_result operator k)) (sym first)
          ∙ sym (ap Some one.2) ∙ sym h.leaves;
    }

pub block-is : (operator : Operator) (negated : Truth) (inner t u : Option ElementaryType)
    → (IsCombined operator negated inner t × (option_map (type_of_result operator) t ≡ u))
    ↔ IsRightBlock operator negated inner t u
block-is operator negated None t u =
    (λ h. absurd (let k = h.0.set in cc), λ h. absurd (let k = h.1 in cc))
block-is operator negated (Some k) None u =
    (λ h. absurd (let s = h.0.set in cc), λ h. absurd (let s = h.2.on in cc))
block-is operator negated (Some k) (Some kind) u = (
  λ h. let both = and_parts (works operator negated kind) (same_type k kind)
      (not-false _ h.0.allowed) in (
        kind,
        ap Some (same-is k kind both.1),
        combined operator negated kind u both.0 h.1,
        (no-division operator).0 h.0.nonzero,
      ),
  λ h. let w = working operator negated kind h.0 u h.2 in
      let same : k ≡ kind = (let e = h.1 in let a = w.alike in cc) in (
        record {
          nonzero = (no-division operator).1 h.3;
          allowed = ap not (both-are _ _ w.works
              (subst (λ (x : ElementaryType). same_type x kind ≡ true) (sym same)
              (same-self kind)));
          set = refl;
        },
        w.leaves,
      ),
)

-- ---- instructions

loaded : (negated : Truth) (o : Option ElementaryType) → may_load negated o ≡ true
    → (kind : ElementaryType) × (o ≡ Some kind) × MayNegate negated kind
loaded negated None e = absurd (cc)
loaded negated (Some kind) e = (kind, refl, (negation negated kind).0 e)

not-above : (label passed : ℕ) → ltb label passed ≡ false → passed ≤ label
not-above label passed e = grind (arith, nat_tests)

above-not : (label passed : ℕ) → passed ≤ label → ltb label passed ≡ false
above-not label passed e = grind (arith, nat_tests)

jumped : (names : ProgramNames) (passed : ℕ) (condition : Condition) (name : List ℕ) (l : Option ℕ)
    (t u : Option ElementaryType) → names.label name ≡ l
    → IsRight passed (resolved.Jump condition l) t → t ≡ u
    → IsRightAction names passed (text.jump condition name) t u
jumped names passed condition name None t u is ok e = absurd (let k = ok.labelled in cc)
jumped names passed condition name (Some n) t u is ok e = (
  n,
  is,
  not-above n passed ok.forward,
  (tested condition (Some n) t).0 (ok.allowed, ok.set),
  sym e,
)

-- an action that is well typed is right by the table
pub acts : (names : ProgramNames) (passed : ℕ) (a : text.Action) (t u : Option ElementaryType)
    → IsRight passed (resolution_of names a) t → type_after (resolution_of names a) t ≡ u
    → IsRightAction names passed a t u
acts names passed (text.load negated source) t u ok e =
    let g = resolve_operand names source in
    let l = loaded negated (load_type g) (allows-any (resolved.Load negated g) t refl ok.allowed) in
    (l.0, (load-is names source l.0).0 l.1, l.2, sym e ∙ l.1)
acts names passed (text.store how place) None u ok e = absurd (let k = ok.set in cc)
acts names passed (text.store how place) (Some kind) u ok e =
    let g = resolve_variable_or_output names place in
    let both = and_parts (operand_fits kind g) (may_negate (not (is_plain how)) kind)
    (not-false _ ok.allowed) in
    let is = (place-fits names place kind).0 both.0 in (
      kind,
      kind,
      refl,
      is,
      (stored how kind).0 both.1,
      (may-write names place kind is).0 ok.writable,
      sym e,
    )
acts names passed (text.combine operator negated source) None u ok e =
    absurd (let k = ok.set in cc)
acts names passed (text.combine operator negated source) (Some kind) u ok e =
    let both =
    and_parts (works operator negated kind) (operand_fits kind (resolve_operand names source))
    (not-false _ ok.allowed) in (
      kind,
      (fits-is names source kind).0 both.1,
      combined operator negated kind u both.0 e,
      (may-divide operator source).0 ok.nonzero,
    )
acts names passed text.invert None u ok e = absurd (let k = ok.set in cc)
acts names passed text.invert (Some kind) u ok e =
    (ap Some ((negation true kind).0 (not-false _ ok.allowed)), sym e)
acts names passed (text.convert conversion) None u ok e = absurd (let k = ok.set in cc)
acts names passed (text.convert conversion) (Some kind) u ok e =
    (ap Some (same-is kind (converted_from conversion) (not-false _ ok.allowed)), sym e)
acts names passed (text.jump condition name) t u ok e =
    jumped names passed condition name (names.label name) t u refl ok e
acts names passed (text.leave condition) t u ok e =
    ((left-tested condition t).0 (ok.allowed, ok.set), sym e)
acts names passed (text.call timer args) t u ok e =
    let c = called_of (names.meaning timer) in
    let g = resolve_arguments names args in
    let both = and_parts (is_timer c) (arguments_fit g)
    (allows-any (resolved.Call c g) t refl ok.allowed) in
    ((timer-is (names.meaning timer)).0 both.0, (are-given names args).0 both.1, sym e)

right-jump : (passed : ℕ) (condition : Condition) (l : Option ℕ) (n : ℕ)
    (t : Option ElementaryType) → l ≡ Some n → passed ≤ n → Tests condition t
    → IsRight passed (resolved.Jump condition l) t
right-jump passed condition None n t is le h = absurd (cc)
right-jump passed condition (Some l) n t is le h =
    let same : n ≡ l = cc in
    let both = (tested condition (Some l) t).1 h in
    right-where passed (resolved.Jump condition (Some l)) t refl both.0 both.1
    (above-not l passed (subst (λ (k : ℕ). passed ≤ k) same le)) refl refl refl

pub right-by : (names : ProgramNames) (passed : ℕ) (a : text.Action) (t u : Option ElementaryType)
    → IsRightAction names passed a t u
    → IsRight passed (resolution_of names a) t × (type_after (resolution_of names a) t ≡ u)
right-by names passed (text.load negated source) t u h =
    let g = resolve_operand names source in
    let is = (load-is names source h.0).1 h.1 in
    let may : may_load negated (load_type g) ≡ true =
    ap (may_load negated) is ∙ (negation negated h.0).1 h.2 in (
      right-where passed (resolved.Load negated g) t (loads-there h.0 g is)
          (right-any (resolved.Load negated g) t (λ kind. may)) refl refl refl refl refl,
      is ∙ sym h.3,
    )
right-by names passed (text.store how place) None u h = absurd (let k = h.2 in cc)
right-by names passed (text.store how place) (Some kind) u h =
    let g = resolve_variable_or_output names place in
    let own : kind ≡ h.0 = (let e = h.2 in cc) in
    let alike : h.1 ≡ kind = stored-alike how h.0 h.1 h.4 ∙ sym own in
    let is : operand_kind names place ≡ Some kind = h.3 ∙ ap Some alike in
    let fit = (place-fits names place kind).1 is in
    let stores : Stores how kind kind =
    subst (λ (x : ElementaryType). Stores how x kind) (sym own)
    (subst (Stores how h.0) alike h.4) in (
      right-where passed (resolved.Store how g) (Some kind) (fits-there kind g fit)
          (ap not (both-are _ _ fit ((stored how kind).1 stores))) refl refl refl
          ((may-write names place kind is).1 h.5) refl,
      sym h.6,
    )
right-by names passed (text.combine operator negated source) None u h =
    absurd (let k = h.2.on in cc)
right-by names passed (text.combine operator negated source) (Some kind) u h =
    let g = resolve_operand names source in
    let w = working operator negated kind h.0 u h.2 in
    let fit = (fits-is names source kind).1 (subst (CanHaveType names source) w.alike h.1) in (
      right-where passed (resolved.Combine operator negated g (is_nonzero source)) (Some kind)
          (fits-there kind g fit) (ap not (both-are _ _ w.works fit)) refl refl refl refl
          ((may-divide operator source).1 h.3),
      w.leaves,
    )
right-by names passed text.invert None u h = absurd (let k = h.0 in cc)
right-by names passed text.invert (Some kind) u h =
    let is : kind ≡ elementary.Bool = (let e = h.0 in cc) in (
      right-where passed resolved.Not (Some kind) refl (ap not ((negation true kind).1 is)) refl
          refl refl refl refl,
      sym h.1,
    )
right-by names passed (text.convert conversion) None u h = absurd (let k = h.0 in cc)
right-by names passed (text.convert conversion) (Some kind) u h =
    let is : kind ≡ converted_from conversion = (let e = h.0 in cc) in (
      right-where passed (resolved.Convert conversion) (Some kind) refl
          (ap not (subst (λ (x : ElementaryType). same_type kind x ≡ true) is (same-self kind)))
          refl refl refl refl refl,
      sym h.1,
    )
right-by names passed (text.jump condition name) t u h =
    (right-jump passed condition (names.label name) h.0 t h.1 h.2 h.3, sym h.4)
right-by names passed (text.leave condition) t u h =
    let both = (left-tested condition t).1 h.0 in (
      right-where passed (resolved.Return condition) t refl both.0 both.1 refl refl refl refl,
      sym h.1,
    )
right-by names passed (text.call timer args) t u h =
    let m = names.meaning timer in
    let g = resolve_arguments names args in
    let may : is_timer (called_of m) && arguments_fit g ≡ true =
    both-are _ _ ((timer-is m).1 h.0) ((are-given names args).1 h.1) in (
      right-where passed (resolved.Call (called_of m) (resolve_arguments names args)) t
          (none-of _ _ (timer-there m h.0) (given-there names args h.1))
          (right-any (resolved.Call (called_of m) g) t (λ kind. may)) refl refl refl refl refl,
      sym h.2,
    )
