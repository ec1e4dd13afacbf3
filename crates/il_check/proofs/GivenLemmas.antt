-- Instructions that are right leave operations that are well typed.
use Rattle.std.proofs.Common.{◌≡◌, ℕ, zero, suc, ◌<◌, ℤ, pos, negsuc, Bool, true, false, not, cond, ◌&&◌, inl, inr, is_some, List, [], ◌∷◌, length, Option, None, Some, option_map, refl, ap, sym, subst, ◌∙◌}
use Rattle.std.proofs.lemmas.Option.{same_Some, cond_some}
use Rattle.std.proofs.lemmas.Bool.{and_parts, not-false, false_from_ne_true}
use Rattle.std.specs.Cmp.{signed_Decides}
use Rattle.std.specs.Ordering.{int_eq}
use Rattle.bay_base.specs.Types.{same_type}
use Rattle.bay_base.specs.declared.types.ElementaryType.{ElementaryType}
use Rattle.bay_base.specs.declared.types.ElementaryType.TheVariants as elementary
use Rattle.il_text.specs.Listing as text
use Rattle.il_text.specs.declared.program.Input.{Input}
use Rattle.il_text.specs.declared.program.Literal.{Literal}
use Rattle.il_text.specs.declared.program.Literal.TheVariants as literal
use Rattle.il_text.specs.declared.program.TimerOutput.{TimerOutput}
use Rattle.il_text.specs.declared.program.Operator.{Operator}
use Rattle.il_text.specs.declared.program.StoreKind.{StoreKind}
use Rattle.il_image.specs.Images.{IsValue}
use Rattle.il_image.specs.Values.{number_of, type_of, value_of}
use Rattle.il_image.specs.declared.value.Value.{Value}
use Rattle.il_image.specs.declared.value.Value.TheVariants as value
use Rattle.il_image.proofs.KindLemmas.{same-is, same-self}
use Rattle.il_image.proofs.ValueLemmas.{value_is}
use Rattle.il_check.specs.SourceOperands.{ProgramNames, source_operand, literal_operand, resolve_variable, resolve_output, resolve_variable_or_output, resolve_operand, is_zero, is_nonzero_literal, is_nonzero, called_of, resolve_arguments, resolution_of}
use Rattle.il_check.specs.Labelling.{Becomes, IsRight}
use Rattle.il_check.specs.Program.{Checked}
use Rattle.il_check.specs.Rules as rules
use Rattle.il_check.specs.Rules.{typed_operand, typed_number, own_type, load_type, operand_fits, works, may_negate, is_plain, divides, type_of_result, converted_from, is_valid_on, uses_result, is_wrong, type_after, falls_through}
use Rattle.il_check.specs.TypedProgram.{slot_type, may_write, is_writable, IsOperand, is_divisor, IsOperation}
use Rattle.il_check.specs.Typing.{load_operation, typed_load, slot_in, target_slot, store_operation, combine_operation, typed_operation}
use Rattle.il_check.specs.declared.source_operand.Meaning.{Meaning}
use Rattle.il_check.specs.declared.source_operand.Meaning.TheVariants as meaning
use Rattle.il_check.specs.declared.source_operand.SourceOperand.{SourceOperand}
use Rattle.il_check.specs.declared.source_operand.SourceOperand.TheVariants.{Missing, Misused, Known, Number}
use Rattle.il_check.specs.declared.source_operand.KnownOperand.{KnownOperand}
use Rattle.il_check.specs.declared.source_operand.CalledTimer.{CalledTimer}
use Rattle.il_check.specs.declared.source_operand.CalledTimer.TheVariants as called
use Rattle.il_check.specs.declared.source_operand.SourceArguments.{SourceArguments}
use Rattle.il_check.specs.declared.source_operand.SourceArguments.TheVariants as arguments
use Rattle.il_check.specs.declared.source_operand.Resolved.{Resolved}
use Rattle.il_check.specs.declared.source_operand.Resolved.TheVariants.{Load, Store, Combine, Not, Convert, Jump, Return, Call}
use Rattle.il_check.specs.declared.typed.External.{External}
use Rattle.il_check.specs.declared.typed.Variable.{Variable}
use Rattle.il_check.specs.declared.typed.Slot.TheVariants as slot
use Rattle.il_check.specs.declared.typed.TypedOperand.{TypedOperand}
use Rattle.il_check.specs.declared.typed.TypedOperand.TheVariants as operand
use Rattle.il_check.specs.declared.typed.SimpleOperation.{SimpleOperation}
use Rattle.il_check.specs.declared.typed.SimpleOperation.TheVariants as op
use Rattle.il_check.proofs.DeclaredLemmas.{is_value, typed-is, number-is, IsMeant}
use Rattle.il_check.proofs.FaultlessLemmas.{same-for-all, right-typed}

-- ---- what names mean

abbrev pub IsNamed : Checked → Meaning → Type 0
IsNamed c (meaning.Variable s kind writable) =
    (slot_type c s ≡ Some kind) × (writable ≡ true → may_write c s ≡ true)
IsNamed c (meaning.Timer n) = n < length c.timers

pub named-from : (c : Checked) (m : Meaning) → IsMeant c.externals c.variables c.timers m
    → IsNamed c m
named-from c (meaning.Variable (slot.External n) kind writable) h = (
  ap (option_map (λ (e : External). e.kind)) h.1 ∙ ap Some h.2,
  λ yes. ap is_writable h.1 ∙ h.3 ∙ yes,
)
named-from c (meaning.Variable (slot.Variable n) kind writable) h =
    (ap (option_map (λ (v : Variable). type_of v.initial)) h.1 ∙ ap Some h.2, λ yes. refl)
named-from c (meaning.Timer n) h = h

-- the operand may be written
abbrev pub CanWrite : Checked → TypedOperand → Type 0
CanWrite c (operand.Literal v) = ⊥
CanWrite c (operand.Slot s) = may_write c s ≡ true
CanWrite c (operand.TimerOutput timer what) = ⊥

-- an operand of its type, which may be written where it says so; a number of LINT
abbrev pub IsGiven : Checked → SourceOperand → Type 0
IsGiven c Missing = Unit {0}
IsGiven c Misused = Unit {0}
IsGiven c (Known source) =
    IsOperand c source.operand source.kind × (source.writable ≡ true → CanWrite c source.operand)
IsGiven c (Number z) = is_some (value_of elementary.Lint z) ≡ true

known-is : (c : Checked) (o : Option Value) → ((v : Value) → o ≡ Some v → IsValue v)
    → IsGiven c (source_operand o)
known-is c None right = tt
known-is c (Some v) right = ((right v refl, refl), λ yes. absurd (cc))

number-is-given : (c : Checked) (z : ℤ) (b : Bool) → is_some (value_of elementary.Lint z) ≡ b
    → IsGiven c (cond b (Number z) Misused)
number-is-given c z true e = e
number-is-given c z false e = tt

literal-is : (c : Checked) (l : Literal) → IsGiven c (literal_operand l)
literal-is c (literal.Truth b) = known-is c _ (typed-is (literal.Truth b))
literal-is c (literal.Number z) = number-is-given c z (is_some (value_of elementary.Lint z)) refl
literal-is c (literal.Int z) = known-is c _ (typed-is (literal.Int z))
literal-is c (literal.Dint z) = known-is c _ (typed-is (literal.Dint z))
literal-is c (literal.Lint z) = known-is c _ (typed-is (literal.Lint z))
literal-is c (literal.Time n) = known-is c _ (typed-is (literal.Time n))

variable-is : (c : Checked) (o : Option Meaning) → ((m : Meaning) → o ≡ Some m → IsNamed c m)
    → IsGiven c (resolve_variable o)
variable-is c None meant = tt
variable-is c (Some (meaning.Variable s kind writable)) meant =
    meant (meaning.Variable s kind writable) refl
variable-is c (Some (meaning.Timer n)) meant = tt

output-is : (c : Checked) (o : Option Meaning) (what : TimerOutput)
    → ((m : Meaning) → o ≡ Some m → IsNamed c m) → IsGiven c (resolve_output o what)
output-is c None what meant = tt
output-is c (Some (meaning.Variable s kind writable)) what meant = tt
output-is c (Some (meaning.Timer n)) what meant =
    ((meant (meaning.Timer n) refl, refl), λ yes. absurd (cc))

operand-case : (c : Checked) (kind : ElementaryType) (z : ℤ) (w : Option Value) (x : TypedOperand)
    → typed_number kind z ≡ w → option_map (λ v. operand.Literal v) w ≡ Some x → IsOperand c x kind
operand-case c kind z None x is e = absurd (cc)
operand-case c kind z (Some v) x is e =
    subst (λ (y : TypedOperand). IsOperand c y kind) (same_Some (operand.Literal v) x e)
    (is_value kind z v (number-is kind z v is))

pub operand-typed : (c : Checked) (kind : ElementaryType) (g : SourceOperand) (x : TypedOperand)
    → IsGiven c g
    → typed_operand kind g ≡ Some x → IsOperand c x kind
operand-typed c kind (Known source) x given e =
    let h = cond_some (same_type source.kind kind) source.operand x e in
    subst (λ (y : TypedOperand). IsOperand c y kind) h.1
    (subst (IsOperand c source.operand) (same-is source.kind kind h.0) given.0)
operand-typed c kind (Number z) x given e = operand-case c kind z (typed_number kind z) x refl e
operand-typed c kind g x given e = absurd (cc)

-- ---- divisors

-- as an operand of any type it is a literal other than 0
abbrev pub IsNonzero : SourceOperand → Type 0
IsNonzero g =
    (kind : ElementaryType) (x : TypedOperand) → typed_operand kind g ≡ Some x → is_divisor x ≡ true

no-int : (y z : ℤ) → (y ≡ z → ⊥) → int_eq y z ≡ false
no-int y z ne = false_from_ne_true (int_eq y z) (λ yes. ne ((signed_Decides y z).0 yes))

not-zero : (z : ℤ) → not (is_zero z) ≡ true → not (int_eq z (pos 0)) ≡ true
not-zero (pos zero) e = absurd (cc)
not-zero (pos (suc n)) e = ap not (no-int (pos (suc n)) (pos 0) (λ same. absurd (cc)))
not-zero (negsuc n) e = ap not (no-int (negsuc n) (pos 0) (λ same. absurd (cc)))

divisor-of : (v : Value) (z : ℤ) → number_of v ≡ z → not (is_zero z) ≡ true
    → is_divisor (operand.Literal v) ≡ true
divisor-of v z e some = ap (λ (y : ℤ). not (int_eq y (pos 0))) e ∙ not-zero z some

known-nonzero : (o : Option Value) (z : ℤ) → ((v : Value) → o ≡ Some v → number_of v ≡ z)
    → not (is_zero z) ≡ true → IsNonzero (source_operand o)
known-nonzero None z has some kind x e = absurd (cc)
known-nonzero (Some v) z has some kind x e =
    subst (λ (y : TypedOperand). is_divisor y ≡ true)
    (cond_some (same_type (type_of v) kind) (operand.Literal v) x e).1
    (divisor-of v z (has v refl) some)

number-nonzero-case : (z : ℤ) (kind : ElementaryType) (w : Option Value) (x : TypedOperand)
    → not (is_zero z) ≡ true → typed_number kind z ≡ w
    → option_map (λ v. operand.Literal v) w ≡ Some x
    → is_divisor x ≡ true
number-nonzero-case z kind None x some is e = absurd (cc)
number-nonzero-case z kind (Some v) x some is e =
    subst (λ (y : TypedOperand). is_divisor y ≡ true) (same_Some (operand.Literal v) x e)
    (divisor-of v z (value_is kind z v (number-is kind z v is)).number some)

number-nonzero : (z : ℤ) (b : Bool) → not (is_zero z) ≡ true → IsNonzero (cond b (Number z) Misused)
number-nonzero z true some kind x e = number-nonzero-case z kind (typed_number kind z) x some refl e
number-nonzero z false some kind x e = absurd (cc)

literal-nonzero : (l : Literal) → is_nonzero_literal l ≡ true → IsNonzero (literal_operand l)
literal-nonzero (literal.Truth true) e =
    known-nonzero (Some (value.Truth true)) (pos 1)
    (λ v is. ap number_of (sym (same_Some (value.Truth true) v is))) refl
literal-nonzero (literal.Truth false) e = absurd (cc)
literal-nonzero (literal.Number z) e = number-nonzero z (is_some (value_of elementary.Lint z)) e
literal-nonzero (literal.Int z) e =
    known-nonzero (value_of elementary.Int z) z (λ v is. (value_is elementary.Int z v is).number) e
literal-nonzero (literal.Dint z) e =
    known-nonzero (value_of elementary.Dint z) z (λ v is. (value_is elementary.Dint z v is).number)
    e
literal-nonzero (literal.Lint z) e =
    known-nonzero (value_of elementary.Lint z) z (λ v is. (value_is elementary.Lint z v is).number)
    e
literal-nonzero (literal.Time n) e =
    known-nonzero (value_of elementary.Time (pos n)) (pos n)
    (λ v is. (value_is elementary.Time (pos n) v is).number) e

source-nonzero : (names : ProgramNames) (s : text.OperandData) → is_nonzero s ≡ true
    → IsNonzero (resolve_operand names s)
source-nonzero names (text.constant l) e = literal-nonzero l e
source-nonzero names (text.variable place) e = absurd (cc)

-- ---- instructions with what their names mean

-- the arguments of a call are declared
abbrev pub AreGiven : Checked → SourceArguments → Type 0
AreGiven c arguments.None = Unit {0}
AreGiven c (arguments.One a) = IsGiven c a.operand
AreGiven c (arguments.Two a b) = IsGiven c a.operand × IsGiven c b.operand

abbrev pub IsCalled : Checked → CalledTimer → Type 0
IsCalled c called.Missing = Unit {0}
IsCalled c called.Misused = Unit {0}
IsCalled c (called.Timer n) = n < length c.timers

-- what an action names is declared
abbrev pub IsFound : Checked → Resolved → Type 0
IsFound c (Load negated g) = IsGiven c g
IsFound c (Store how g) = IsGiven c g
IsFound c (Combine operator negated g nonzero) = IsGiven c g × (nonzero ≡ true → IsNonzero g)
IsFound c Not = Unit {0}
IsFound c (Convert conversion) = Unit {0}
IsFound c (Jump condition label) = Unit {0}
IsFound c (Return condition) = Unit {0}
IsFound c (Call what args) = IsCalled c what × AreGiven c args

-- each name that means something means something declared
abbrev pub AreNamed : Checked → ProgramNames → Type 0
AreNamed c names = (name : List ℕ) (m : Meaning) → names.meaning name ≡ Some m → IsNamed c m

place-is : (c : Checked) (names : ProgramNames) → AreNamed c names → (p : text.VariableData)
    → IsGiven c (resolve_variable_or_output names p)
place-is c names meant (text.named name) = variable-is c (names.meaning name) (meant name)
place-is c names meant (text.output timer what) =
    output-is c (names.meaning timer) what (meant timer)

source-is : (c : Checked) (names : ProgramNames) → AreNamed c names → (s : text.OperandData)
    → IsGiven c (resolve_operand names s)
source-is c names meant (text.constant l) = literal-is c l
source-is c names meant (text.variable place) = place-is c names meant place

called-is : (c : Checked) (o : Option Meaning) → ((m : Meaning) → o ≡ Some m → IsNamed c m)
    → IsCalled c (called_of o)
called-is c None meant = tt
called-is c (Some (meaning.Variable s kind writable)) meant = tt
called-is c (Some (meaning.Timer n)) meant = meant (meaning.Timer n) refl

arguments-are : (c : Checked) (names : ProgramNames) → AreNamed c names
    → (args : List (Input × text.OperandData)) → AreGiven c (resolve_arguments names args)
arguments-are c names meant [] = tt
arguments-are c names meant (a ∷ []) = source-is c names meant a.1
arguments-are c names meant (a ∷ b ∷ more) =
    (source-is c names meant a.1, source-is c names meant b.1)

-- what the names of an action are resolved to is declared
pub found : (c : Checked) (names : ProgramNames) → AreNamed c names → (a : text.Action)
    → IsFound c (resolution_of names a)
found c names meant (text.load negated source) = source-is c names meant source
found c names meant (text.store how place) = place-is c names meant place
found c names meant (text.combine operator negated source) =
    (source-is c names meant source, source-nonzero names source)
found c names meant text.invert = tt
found c names meant (text.convert conversion) = tt
found c names meant (text.jump condition name) = tt
found c names meant (text.leave condition) = tt
found c names meant (text.call timer args) =
    (called-is c (names.meaning timer) (meant timer), arguments-are c names meant args)

-- ---- what being right says

-- an instruction that does not use the result is right on each
pub allows-any : (r : Resolved) (t : Option ElementaryType) → uses_result r ≡ false
    → is_wrong r t ≡ false → is_valid_on r elementary.Bool ≡ true
allows-any r None e ok = not-false _ (right-typed r (Some elementary.Bool) None e ok)
allows-any r (Some k) e ok = sym (same-for-all r k e) ∙ not-false _ ok

own-fits-case : (z : ℤ) (b d : Bool) → is_some (typed_number elementary.Int z) ≡ b
    → is_some (typed_number elementary.Dint z) ≡ d → is_some (value_of elementary.Lint z) ≡ true
    → is_some (typed_number (cond b elementary.Int (cond d elementary.Dint elementary.Lint)) z)
    ≡ true
own-fits-case z true d e f g = e
own-fits-case z false true e f g = f
own-fits-case z false false e f g = g

own-fits : (z : ℤ) → is_some (value_of elementary.Lint z) ≡ true
    → is_some (typed_number (own_type z) z) ≡ true
own-fits z g =
    own-fits-case z (is_some (typed_number elementary.Int z))
    (is_some (typed_number elementary.Dint z))
    refl refl g

pub mapped-some : {A B : Type 0} (f : A → B) (o : Option A) → is_some o ≡ true
    → is_some (option_map f o) ≡ true
mapped-some f None e = absurd (cc)
mapped-some f (Some x) e = refl

there-if : {A : Type 0} (b : Bool) (x : A) → b ≡ true → is_some (cond b (Some x) None) ≡ true
there-if true x e = refl
there-if false x e = absurd (cc)

loaded-some : (negated : Bool) (o : Option TypedOperand) → is_some o ≡ true
    → is_some (load_operation negated o) ≡ true
loaded-some negated None e = absurd (cc)
loaded-some negated (Some x) e = refl

-- a load that is right leaves an operation
pub load-some : (c : Checked) (negated : Bool) (g : SourceOperand) → IsGiven c g
    → is_valid_on (Load negated g) elementary.Bool ≡ true
    → is_some (typed_operation (Load negated g) None) ≡ true
load-some c negated (Known source) given ok =
    loaded-some negated _ (there-if (same_type source.kind source.kind) source.operand
    (same-self source.kind))
load-some c negated (Number z) given ok =
    loaded-some negated _ (mapped-some (λ v. operand.Literal v) (typed_number (own_type z) z)
    (own-fits z given))
load-some c negated g given ok = absurd (cc)

pub combined-some : (operator : Operator) (kind : ElementaryType) (negated : Bool)
    (o : Option TypedOperand) → is_some o ≡ true
    → is_some (combine_operation operator kind negated o) ≡ true
combined-some operator kind negated None e = absurd (cc)
combined-some operator kind negated (Some x) e = refl

pub none-some : {A : Type 0} (o : Option A) → o ≡ None → is_some o ≡ true → ⊥
none-some o e f = absurd (cc)

-- ---- operations

load-kind : (c : Checked) (negated : Bool) (g : SourceOperand) (t : Option ElementaryType)
    (kind : ElementaryType) (x : Option TypedOperand) (o : SimpleOperation) → IsGiven c g
    → may_negate negated kind ≡ true → typed_operand kind g ≡ x
    → load_operation negated x ≡ Some o → IsOperation c o t (Some kind)
load-kind c negated g t kind None o given may is e = absurd (cc)
load-kind c negated g t kind (Some x) o given may is e =
    subst (λ (y : SimpleOperation). IsOperation c y t (Some kind))
    (same_Some (op.Load negated x) o e)
    (kind, operand-typed c kind g x given is, may, refl)

load-case : (c : Checked) (negated : Bool) (g : SourceOperand) (t k : Option ElementaryType)
    (o : SimpleOperation) → IsGiven c g → rules.may_load negated k ≡ true → load_type g ≡ k
    → typed_load negated g k ≡ Some o → IsOperation c o t k
load-case c negated g t None o given may is e = absurd (cc)
load-case c negated g t (Some kind) o given may is e =
    load-kind c negated g t kind (typed_operand kind g) o given may refl e

divisor-right : (d nonzero is : Bool) → d && not nonzero ≡ false → (nonzero ≡ true → is ≡ true)
    → d && not is ≡ false
divisor-right true true is e h = ap not (h refl)
divisor-right true false is e h = absurd (cc)
divisor-right false nonzero is e h = refl

combine-kind : (c : Checked) (operator : Operator) (negated : Bool) (g : SourceOperand)
    (nonzero : Bool)
    (kind : ElementaryType) (x : Option TypedOperand) (o : SimpleOperation) → IsGiven c g
    → (nonzero ≡ true → IsNonzero g)
    → works operator negated kind ≡ true → divides operator && not nonzero ≡ false
    → typed_operand kind g ≡ x → combine_operation operator kind negated x ≡ Some o
    → IsOperation c o (Some kind) (Some (type_of_result operator kind))
combine-kind c operator negated g nonzero kind None o given other works_on divisor is e =
    absurd (cc)
combine-kind c operator negated g nonzero kind (Some x) o given other works_on divisor is e =
    subst (λ (y : SimpleOperation). IsOperation c y (Some kind)
    (Some (type_of_result operator kind)))
    (same_Some (op.Combine operator kind negated x) o e) (
      operand-typed c kind g x given is,
      works_on,
      divisor-right (divides operator) nonzero (is_divisor x) divisor
          (λ yes. other yes kind x is),
      refl,
      refl,
    )

store-slot : (c : Checked) (how : StoreKind) (kind : ElementaryType) (place : TypedOperand)
    (of : ElementaryType) (o : SimpleOperation) → IsOperand c place of → of ≡ kind
    → CanWrite c place
    → may_negate (not (is_plain how)) kind ≡ true → store_operation how (slot_in place) ≡ Some o
    → IsOperation c o (Some kind) (Some kind)
store-slot c how kind (operand.Literal v) of o is same may how_may e = absurd (cc)
store-slot c how kind (operand.Slot s) of o is same may how_may e =
    subst (λ (y : SimpleOperation). IsOperation c y (Some kind) (Some kind))
    (same_Some (op.Store how s) o e) (kind, is ∙ ap Some same, may, how_may, refl, refl)
store-slot c how kind (operand.TimerOutput timer what) of o is same may how_may e = absurd (cc)

fits-same : (source : KnownOperand) (kind : ElementaryType) (b : Bool)
    → same_type source.kind kind ≡ b → is_some (cond b (Some source.operand) None) ≡ true → b ≡ true
fits-same source kind true e f = refl
fits-same source kind false e f = absurd (cc)

store-kind : (c : Checked) (how : StoreKind) (g : SourceOperand) (kind : ElementaryType)
    (o : SimpleOperation) → IsGiven c g
    → operand_fits kind g && may_negate (not (is_plain how)) kind ≡ true
    → rules.is_read_only g ≡ false
    → store_operation how (target_slot g) ≡ Some o → IsOperation c o (Some kind) (Some kind)
store-kind c how (Known source) kind o given ok writes e =
    let both =
    and_parts (operand_fits kind (Known source)) (may_negate (not (is_plain how)) kind) ok in
    store-slot c how kind source.operand source.kind o given.0
    (same-is source.kind kind (fits-same source kind (same_type source.kind kind) refl both.0))
    (given.1 (not-false source.writable writes)) both.1 e
store-kind c how g kind o given ok writes e = absurd (cc)

pub operation-typed : (c : Checked) (passed : ℕ) (r : Resolved) (t : Option ElementaryType)
    (o : SimpleOperation) → IsFound c r → IsRight passed r t → typed_operation r t ≡ Some o
    → IsOperation c o t (type_after r t)
operation-typed c passed (Load negated g) t o is ok e =
    load-case c negated g t (load_type g) o is (allows-any (Load negated g) t refl ok.allowed) refl
    e
operation-typed c passed (Store how g) None o is ok e = absurd (let k = ok.set in cc)
operation-typed c passed (Store how g) (Some kind) o is ok e =
    store-kind c how g kind o is (not-false _ ok.allowed) ok.writable e
operation-typed c passed (Combine operator negated g nonzero) (Some kind) o is ok e =
    let both =
    and_parts (works operator negated kind) (operand_fits kind g) (not-false _ ok.allowed) in
    combine-kind c operator negated g nonzero kind (typed_operand kind g) o is.0 is.1 both.0
    ok.nonzero
    refl e
operation-typed c passed Not None o is ok e = absurd (let k = ok.set in cc)
operation-typed c passed Not (Some kind) o is ok e =
    subst (λ (y : SimpleOperation). IsOperation c y (Some kind) (Some kind)) (same_Some op.Not o e)
    (ap Some (sym (same-is elementary.Bool kind (not-false _ ok.allowed))), refl)
operation-typed c passed (Convert conversion) None o is ok e = absurd (let k = ok.set in cc)
operation-typed c passed (Convert conversion) (Some kind) o is ok e =
    subst (λ (y : SimpleOperation). IsOperation c y (Some kind)
    (Some (rules.converted_to conversion))) (same_Some (op.Convert conversion) o e)
    (ap Some (same-is kind (converted_from conversion) (not-false _ ok.allowed)), refl)
operation-typed c passed r t o is ok e = absurd (cc)

-- where no operation is left of an instruction that is right, the result stays, or is not set
pub left-same : (c : Checked) (passed : ℕ) (r : Resolved) (t : Option ElementaryType) → IsFound c r
    → IsRight passed r t → typed_operation r t ≡ None → Becomes t (type_after r t)
left-same c passed (Load negated g) t is ok e =
    absurd (none-some _ e (load-some c negated g is
    (allows-any (Load negated g) t refl ok.allowed)))
left-same c passed (Store how g) t is ok e = inl refl
left-same c passed (Combine operator negated g nonzero) None is ok e = absurd (let k = ok.set in cc)
left-same c passed (Combine operator negated g nonzero) (Some kind) is ok e =
    absurd (none-some _ e (combined-some operator kind negated (typed_operand kind g)
    (and_parts (works operator negated kind) (operand_fits kind g) (not-false _ ok.allowed)).1))
left-same c passed Not t is ok e = absurd (cc)
left-same c passed (Convert conversion) t is ok e = absurd (cc)
left-same c passed (Jump condition label) t is ok e = inl refl
left-same c passed (Return condition) t is ok e = inl refl
left-same c passed (Call what args) t is ok e = inr refl

-- an operation goes on to what is below, and jumps nowhere
pub operation-goes-on : (r : Resolved) (t : Option ElementaryType) (o : SimpleOperation)
    → typed_operation r t ≡ Some o → (rules.target_of r ≡ None) × (falls_through r ≡ true)
operation-goes-on (Load negated g) t o e = (refl, refl)
operation-goes-on (Store how g) t o e = (refl, refl)
operation-goes-on (Combine operator negated g nonzero) t o e = (refl, refl)
operation-goes-on Not t o e = (refl, refl)
operation-goes-on (Convert conversion) t o e = (refl, refl)
operation-goes-on r t o e = absurd (cc)
