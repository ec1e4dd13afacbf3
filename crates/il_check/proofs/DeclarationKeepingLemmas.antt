-- What is left of right declarations says what they say: their values, names and labels.
use Rattle.std.proofs.Common.{◌≡◌, ℕ, zero, suc, ◌+◌, pos, true, false, ◌&&◌, is_some, is_none, List, [], ◌∷◌, ◌++◌, length, slice_get, Option, None, Some, refl, ap, sym, subst}
use Rattle.std.proofs.lemmas.Option.{same_Some, cond_some}
use Rattle.std.proofs.lemmas.Bool.{not-false}
use Rattle.std.specs.List.{cons_option}
use Rattle.bay_base.specs.Names.{upper}
use Rattle.bay_base.specs.Types.{same_type}
use Rattle.bay_base.specs.declared.types.ElementaryType.{ElementaryType}
use Rattle.bay_base.specs.declared.types.ElementaryType.TheVariants as elementary
use Rattle.bay_base.specs.declared.point.Point.{Point}
use Rattle.il_text.specs.Listing as text
use Rattle.il_text.specs.declared.program.DeclaredType.{DeclaredType}
use Rattle.il_text.specs.declared.program.DeclaredType.TheVariants as type
use Rattle.il_text.specs.declared.program.Literal.{Literal}
use Rattle.il_text.specs.declared.program.Literal.TheVariants as literal
use Rattle.il_text.specs.declared.program.VariableScope.{VariableScope}
use Rattle.il_text.specs.declared.program.VariableScope.TheVariants as scope
use Rattle.il_image.specs.Values.{default_value, number_of, type_of}
use Rattle.il_image.specs.declared.value.Value.{Value}
use Rattle.il_image.specs.declared.value.Value.TheVariants as value
use Rattle.il_image.proofs.KindLemmas.{same-is}
use Rattle.il_image.proofs.ValueLemmas.{value_is}
use Rattle.il_check.specs.Declaring.{labels_from, point_of, of_type, literal_value, initial_value, is_typed, is_external, point_external, declared_external, valued_variable, declared_variable, declared_timer, externals_of, variables_of, timers_of, declarations_faults}
use Rattle.il_check.specs.SourceOperands.{typed_value}
use Rattle.il_check.specs.Keeping.{label_names, IsValueOf, BeginsWith, AreDeclared, IsDeclaredAs}
use Rattle.il_check.specs.declared.typed.External.{External}
use Rattle.il_check.specs.declared.typed.Variable.{Variable}
use Rattle.il_check.specs.declared.typed.Timer.{Timer}
use Rattle.il_check.proofs.DeclaredLemmas.{number-is, initial-is}
use Rattle.il_check.proofs.FaultlessLemmas.{both-none, if-none}

-- ---- values

pub of_literal : (l : Literal) (v : Value) → typed_value l ≡ Some v → IsValueOf l v
of_literal (literal.Truth b) v e = sym (same_Some (value.Truth b) v e)
of_literal (literal.Number z) v e = absurd (cc)
of_literal (literal.Int z) v e = let h = value_is elementary.Int z v e in (h.type, h.number)
of_literal (literal.Dint z) v e = let h = value_is elementary.Dint z v e in (h.type, h.number)
of_literal (literal.Lint z) v e = let h = value_is elementary.Lint z v e in (h.type, h.number)
of_literal (literal.Time n) v e = let h = value_is elementary.Time (pos n) v e in (h.type, h.number)

of-type-from : (kind : ElementaryType) (o : Option Value) (v : Value) → of_type kind o ≡ Some v
    → o ≡ Some v
of-type-from kind None v e = absurd (cc)
of-type-from kind (Some w) v e = ap Some (cond_some (same_type (type_of w) kind) w v e).1

literal-begins : (kind : ElementaryType) (l : Literal) (v : Value) → literal_value kind l ≡ Some v
    → IsValueOf l v
literal-begins kind (literal.Truth b) v e =
    of_literal (literal.Truth b) v (of-type-from kind _ v e)
literal-begins kind (literal.Number z) v e = (value_is kind z v (number-is kind z v e)).number
literal-begins kind (literal.Int z) v e = of_literal (literal.Int z) v (of-type-from kind _ v e)
literal-begins kind (literal.Dint z) v e = of_literal (literal.Dint z) v (of-type-from kind _ v e)
literal-begins kind (literal.Lint z) v e = of_literal (literal.Lint z) v (of-type-from kind _ v e)
literal-begins kind (literal.Time n) v e = of_literal (literal.Time n) v (of-type-from kind _ v e)

default-zero : (kind : ElementaryType) → number_of (default_value kind) ≡ pos 0
default-zero elementary.Bool = refl
default-zero elementary.Int = refl
default-zero elementary.Dint = refl
default-zero elementary.Lint = refl
default-zero elementary.Time = refl

begins : (kind : ElementaryType) (o : Option Literal) (v : Value) → initial_value kind o ≡ Some v
    → BeginsWith o v
begins kind None v e =
    subst (λ (x : Value). number_of x ≡ pos 0) (same_Some (default_value kind) v e)
    (default-zero kind)
begins kind (Some l) v e = literal-begins kind l v e

-- ---- declarations

module _ (points : List Point) (d : text.DeclaredName)
    (later : List External → List Variable → List Timer → Type 0) where
  external-kept : (kind : ElementaryType) (o : Option Point) (es : List External)
      (vs : List Variable) (ts : List Timer) → point_of points d.name ≡ o
      → is_none o ≡ false → is_typed scope.External (type.Elementary kind) o d.initial ≡ true
      → later es vs ts
      → IsDeclaredAs points d scope.External (type.Elementary kind)
      (cons_option (point_external d.name kind o) es) vs ts later
  external-kept kind None es vs ts is there right more = absurd (cc)
  external-kept kind (Some p) es vs ts is there right more = (
    record {
      point = p;
      found = is;
      name = refl;
      kind_is = refl;
      point_kind = same-is p.kind kind right;
      source = refl;
      writable = refl;
    },
    more,
  )

  initial-kept : (kind : ElementaryType) (o : Option Value) (es : List External)
      (vs : List Variable) (ts : List Timer) → initial_value kind d.initial ≡ o → is_some o ≡ true
      → later es vs ts
      → IsDeclaredAs points d scope.Local (type.Elementary kind) es
      (cons_option (valued_variable d.name o) vs) ts later
  initial-kept kind None es vs ts is right more = absurd (cc)
  initial-kept kind (Some v) es vs ts is right more = (
    record {
      name = refl;
      kind_is = (initial-is kind d.initial v is).1;
      initial = begins kind d.initial v is;
    },
    more,
  )

  one-declared : (stands : VariableScope) (kind : DeclaredType) (es : List External)
      (vs : List Variable)
      (ts : List Timer) → is_external stands && is_none (point_of points d.name) ≡ false
      → is_typed stands kind (point_of points d.name) d.initial ≡ true → later es vs ts
      → IsDeclaredAs points d stands kind (cons_option (declared_external points d stands kind) es)
      (cons_option (declared_variable d stands kind) vs) (cons_option (declared_timer d kind) ts)
      later
  one-declared scope.Local (type.Elementary kind) es vs ts there right more =
      initial-kept kind (initial_value kind d.initial) es vs ts refl right more
  one-declared scope.External (type.Elementary kind) es vs ts there right more =
      external-kept kind (point_of points d.name) es vs ts refl there right more
  one-declared scope.Local (type.Timer kind) es vs ts there right more = (refl, more)
  one-declared scope.External (type.Timer kind) es vs ts there right more = (refl, more)

pub declared-kept : (points : List Point) (before ds : List text.DeclaredName)
    → declarations_faults points before ds ≡ []
    → AreDeclared points ds (externals_of points ds) (variables_of ds) (timers_of ds)
declared-kept points before [] none = (refl, refl, refl)
declared-kept points before (d ∷ ds) none =
    let h = both-none _ _ none in
    let names = both-none _ _ h.0 in
    let given_of = both-none _ _ names.1 in
    let types = both-none _ _ given_of.1 in
    one-declared points d (AreDeclared points ds) d.scope d.kind (externals_of points ds)
    (variables_of ds) (timers_of ds)
    (if-none _ _ names.0) (not-false _ (if-none _ _ types.0))
    (declared-kept points (before ++ d ∷ []) ds h.1)

-- ---- labels

pub labels-named : (es : List text.Entry) (from n m : ℕ) (x : List ℕ)
    → slice_get (labels_from from es) n ≡ Some (x, m) → slice_get (label_names es) n ≡ Some x
labels-named [] from n m x e = absurd (cc)
labels-named (text.label line name ∷ es) from zero m x e =
    ap Some (ap (λ (p : List ℕ × ℕ). p.0) (same_Some (upper name, from) (x, m) e))
labels-named (text.label line name ∷ es) from (suc n) m x e = labels-named es (from + 1) n m x e
labels-named (text.action line a ∷ es) from n m x e = labels-named es from n m x e
labels-named (text.block line operator negated items end ∷ es) from n m x e =
    labels-named es from n m x e

pub at-middle : {A : Type 0} (before : List A) (x : A) (rest : List A)
    → slice_get (before ++ x ∷ rest) (length before) ≡ Some x
at-middle [] x rest = refl
at-middle (y ∷ before) x rest = at-middle before x rest
