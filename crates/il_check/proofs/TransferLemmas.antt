-- Instructions that are right leave jumps, returns and calls that are well typed.
use Rattle.std.proofs.Common.{◌≡◌, ℕ, ◌<◌, true, false, cond, is_some, List, length, Option, None, Some, option_map, refl, ap, sym, subst}
use Rattle.std.proofs.lemmas.Option.{same_Some}
use Rattle.std.proofs.lemmas.Bool.{and_parts, not-false}
use Rattle.bay_base.specs.declared.types.ElementaryType.{ElementaryType}
use Rattle.bay_base.specs.declared.types.ElementaryType.TheVariants as elementary
use Rattle.il_text.specs.declared.program.Condition.{Condition}
use Rattle.il_text.specs.declared.program.Condition.TheVariants.{Always, IfTrue, IfFalse}
use Rattle.il_image.proofs.KindLemmas.{same-is}
use Rattle.il_check.specs.Labelling.{IsRight, incoming_after_action}
use Rattle.il_check.specs.Program.{Checked, ProgramItem}
use Rattle.il_check.specs.Rules as rules
use Rattle.il_check.specs.Rules.{typed_operand, operand_fits, works, is_conditional, input_type, argument_fits, arguments_fit, is_wrong, is_unset}
use Rattle.il_check.specs.TypedProgram.{IsArgument, AreArguments, TestsBool, has_label, IsTransfer, target_of, incoming_after_condition, incoming_after_transfer}
use Rattle.il_check.specs.Typing.{typed_operation, typed_argument, one_argument, two_arguments, typed_arguments, call_with, typed_transfer}
use Rattle.il_check.specs.declared.source_operand.CalledTimer.TheVariants as called
use Rattle.il_check.specs.declared.source_operand.SourceArgument.{SourceArgument}
use Rattle.il_check.specs.declared.source_operand.SourceArguments.{SourceArguments}
use Rattle.il_check.specs.declared.source_operand.SourceArguments.TheVariants as arguments
use Rattle.il_check.specs.declared.source_operand.Resolved.{Resolved}
use Rattle.il_check.specs.declared.source_operand.Resolved.TheVariants.{Load, Store, Combine, Not, Convert, Jump, Return, Call}
use Rattle.il_check.specs.declared.typed.TypedOperand.{TypedOperand}
use Rattle.il_check.specs.declared.typed.TypedArgument.{TypedArgument}
use Rattle.il_check.specs.declared.typed.TypedArguments.{TypedArguments}
use Rattle.il_check.specs.declared.typed.TypedArguments.TheVariants as typed
use Rattle.il_check.specs.declared.typed.Transfer.{Transfer}
use Rattle.il_check.specs.declared.typed.Transfer.TheVariants as go
use Rattle.il_check.proofs.GivenLemmas.{IsGiven, operand-typed, AreGiven, IsFound, allows-any, mapped-some, load-some, combined-some, none-some}

-- ---- jumps, returns and calls

argument-case : (c : Checked) (a : SourceArgument) (w : Option TypedOperand) (x : TypedArgument)
    → IsGiven c a.operand → typed_operand (input_type a.input) a.operand ≡ w
    → option_map (λ o. record { input = a.input; operand = o }) w ≡ Some x → IsArgument c x
argument-case c a None x given is e = absurd (cc)
argument-case c a (Some o) x given is e =
    subst (IsArgument c) (same_Some (record { input = a.input; operand = o }) x e)
    (operand-typed c (input_type a.input) a.operand o given is)

argument-typed : (c : Checked) (a : SourceArgument) (x : TypedArgument) → IsGiven c a.operand
    → typed_argument a ≡ Some x → IsArgument c x
argument-typed c a x given e =
    argument-case c a (typed_operand (input_type a.input) a.operand) x given refl e

one-typed : (c : Checked) (a : SourceArgument) (w : Option TypedArgument) (xs : TypedArguments)
    → IsGiven c a.operand → typed_argument a ≡ w → one_argument w ≡ Some xs → AreArguments c xs
one-typed c a None xs given is e = absurd (cc)
one-typed c a (Some x) xs given is e =
    subst (AreArguments c) (same_Some (typed.One x) xs e) (argument-typed c a x given is)

two-typed : (c : Checked) (a b : SourceArgument) (v w : Option TypedArgument) (xs : TypedArguments)
    → IsGiven c a.operand → IsGiven c b.operand → typed_argument a ≡ v → typed_argument b ≡ w
    → two_arguments v w ≡ Some xs → AreArguments c xs
two-typed c a b (Some x) (Some y) xs given more is also e =
    subst (AreArguments c) (same_Some (typed.Two x y) xs e)
    (argument-typed c a x given is, argument-typed c b y more also)
two-typed c a b v w xs given more is also e = absurd (cc)

arguments-typed : (c : Checked) (args : SourceArguments) (xs : TypedArguments) → AreGiven c args
    → typed_arguments args ≡ Some xs → AreArguments c xs
arguments-typed c arguments.None xs given e = subst (AreArguments c) (same_Some typed.None xs e) tt
arguments-typed c (arguments.One a) xs given e = one-typed c a (typed_argument a) xs given refl e
arguments-typed c (arguments.Two a b) xs given e =
    two-typed c a b (typed_argument a) (typed_argument b) xs given.0 given.1 refl refl e

decides-jump : (condition : Condition) (label : Option ℕ) (t : Option ElementaryType)
    → is_wrong (Jump condition label) t ≡ false → is_unset (Jump condition label) t ≡ false
    → TestsBool condition t
decides-jump Always label t ok set = tt
decides-jump IfTrue label None ok set = absurd (cc)
decides-jump IfTrue label (Some kind) ok set =
    ap Some (sym (same-is elementary.Bool kind (not-false _ ok)))
decides-jump IfFalse label None ok set = absurd (cc)
decides-jump IfFalse label (Some kind) ok set =
    ap Some (sym (same-is elementary.Bool kind (not-false _ ok)))

decides-return : (condition : Condition) (t : Option ElementaryType)
    → is_wrong (Return condition) t ≡ false → is_unset (Return condition) t ≡ false
    → TestsBool condition t
decides-return Always t ok set = tt
decides-return IfTrue None ok set = absurd (cc)
decides-return IfTrue (Some kind) ok set =
    ap Some (sym (same-is elementary.Bool kind (not-false _ ok)))
decides-return IfFalse None ok set = absurd (cc)
decides-return IfFalse (Some kind) ok set =
    ap Some (sym (same-is elementary.Bool kind (not-false _ ok)))

behind-same : (condition : Condition) (t : Option ElementaryType)
    → incoming_after_condition condition t ≡ cond (is_conditional condition) (Some t) None
behind-same Always t = refl
behind-same IfTrue t = refl
behind-same IfFalse t = refl

-- a jump, a return or a call that is left, above these items
pub record IsMoved (c : Checked) (below : List ProgramItem) (r : Resolved)
    (t : Option ElementaryType)
    (x : Transfer) : Type 0 where
  pub right : IsTransfer c below x t
  pub target : target_of x ≡ rules.target_of r
  pub goes : incoming_after_transfer x t ≡ incoming_after_action r t

call-case : (c : Checked) (below : List ProgramItem) (n : ℕ) (args : SourceArguments)
    (w : Option TypedArguments) (t : Option ElementaryType) (x : Transfer) → n < length c.timers
    → AreGiven c args → typed_arguments args ≡ w → call_with n w ≡ Some x
    → IsMoved c below (Call (called.Timer n) args) t x
call-case c below n args None t x timer given is e = absurd (cc)
call-case c below n args (Some xs) t x timer given is e =
    subst (IsMoved c below (Call (called.Timer n) args) t) (same_Some (go.Call n xs) x e)
    (record { right = (timer, arguments-typed c args xs given is); target = refl; goes = refl })

pub transfer-typed : (c : Checked) (below : List ProgramItem) (passed : ℕ) (r : Resolved)
    (t : Option ElementaryType) (x : Transfer) → IsFound c r → IsRight passed r t
    → ((n : ℕ) → rules.target_of r ≡ Some n → has_label below n ≡ true)
    → typed_transfer r ≡ Some x → IsMoved c below r t x
transfer-typed c below passed (Jump condition (Some n)) t x is ok there e =
    subst (IsMoved c below (Jump condition (Some n)) t) (same_Some (go.Jump condition n) x e)
    (record {
      right = (decides-jump condition (Some n) t ok.allowed ok.set, there n refl);
      target = refl;
      goes = behind-same condition t;
    })
transfer-typed c below passed (Return condition) t x is ok there e =
    subst (IsMoved c below (Return condition) t) (same_Some (go.Return condition) x e)
    (record {
      right = decides-return condition t ok.allowed ok.set;
      target = refl;
      goes = behind-same condition t;
    })
transfer-typed c below passed (Call (called.Timer n) args) t x is ok there e =
    call-case c below n args (typed_arguments args) t x is.0 is.1 refl e
transfer-typed c below passed r t x is ok there e = absurd (cc)

one-some : (o : Option TypedArgument) → is_some o ≡ true → is_some (one_argument o) ≡ true
one-some None e = absurd (cc)
one-some (Some x) e = refl

two-some : (o p : Option TypedArgument) → is_some o ≡ true → is_some p ≡ true
    → is_some (two_arguments o p) ≡ true
two-some (Some x) (Some y) e f = refl
two-some o p e f = absurd (cc)

argument-some : (a : SourceArgument) → argument_fits a ≡ true → is_some (typed_argument a) ≡ true
argument-some a e =
    mapped-some (λ o. record { input = a.input; operand = o })
    (typed_operand (input_type a.input) a.operand) e

pub arguments-some : (args : SourceArguments) → arguments_fit args ≡ true
    → is_some (typed_arguments args) ≡ true
arguments-some arguments.None e = refl
arguments-some (arguments.One a) e = one-some (typed_argument a) (argument-some a e)
arguments-some (arguments.Two a b) e = let both = and_parts (argument_fits a) (argument_fits b) e in
    two-some (typed_argument a) (typed_argument b) (argument-some a both.0) (argument-some b both.1)

call-some : (n : ℕ) (o : Option TypedArguments) → is_some o ≡ true → is_some (call_with n o) ≡ true
call-some n None e = absurd (cc)
call-some n (Some x) e = refl

-- where nothing at all is left of an instruction that is right, it goes on with the same result,
-- and jumps nowhere
pub nothing-left : (c : Checked) (passed : ℕ) (r : Resolved) (t : Option ElementaryType)
    → IsFound c r → IsRight passed r t → typed_transfer r ≡ None → typed_operation r t ≡ None
    → (rules.target_of r ≡ None) × (incoming_after_action r t ≡ Some t)
nothing-left c passed (Load negated g) t is ok none e =
    absurd (none-some _ e (load-some c negated g is
    (allows-any (Load negated g) t refl ok.allowed)))
nothing-left c passed (Store how g) t is ok none e = (refl, refl)
nothing-left c passed (Combine operator negated g nonzero) None is ok none e =
    absurd (let k = ok.set in cc)
nothing-left c passed (Combine operator negated g nonzero) (Some kind) is ok none e =
    absurd (none-some _ e (combined-some operator kind negated (typed_operand kind g)
    (and_parts (works operator negated kind) (operand_fits kind g) (not-false _ ok.allowed)).1))
nothing-left c passed Not t is ok none e = absurd (cc)
nothing-left c passed (Convert conversion) t is ok none e = absurd (cc)
nothing-left c passed (Jump condition None) t is ok none e = absurd (let k = ok.labelled in cc)
nothing-left c passed (Jump condition (Some n)) t is ok none e = absurd (cc)
nothing-left c passed (Return condition) t is ok none e = absurd (cc)
nothing-left c passed (Call called.Missing args) t is ok none e =
    absurd (let k = allows-any (Call called.Missing args) t refl ok.allowed in cc)
nothing-left c passed (Call called.Misused args) t is ok none e =
    absurd (let k = allows-any (Call called.Misused args) t refl ok.allowed in cc)
nothing-left c passed (Call (called.Timer n) args) t is ok none e =
    absurd (none-some _ none
    (call-some n (typed_arguments args)
    (arguments-some args (allows-any (Call (called.Timer n) args) t refl ok.allowed))))
