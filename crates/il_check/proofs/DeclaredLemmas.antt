-- What a program without a fault declares: values of their types, names of points, and meanings
-- that are there.
use Rattle.std.proofs.Common.{◌≡◌, ℕ, zero, suc, ◌+◌, ◌<◌, ◌≤◌, ℤ, pos, Bool, true, false, cond, ◌&&◌, ◌⊎◌, inl, inr, is_some, is_none, nat_lt, nat_le, List, [], ◌∷◌, ◌++◌, length, slice_get, option_to_list, Option, None, Some, refl, ap, sym, subst, ◌∙◌, arith, append-nil, append_assoc}
use Rattle.std.proofs.lemmas.Option.{same_Some, cond_some}
use Rattle.std.proofs.lemmas.Bool.{and_parts, not-false}
use Rattle.std.proofs.lemmas.Bool.Decides.{nat_tests}
use Rattle.std.proofs.lemmas.List.{length-append, length-map}
use Rattle.std.proofs.lemmas.List.Folds.{list_all-map}
use Rattle.std.specs.Char.{to_ascii_uppercase}
use Rattle.std.specs.List.{list_all}
use Rattle.std.specs.Str.{bytes_eq}
use Rattle.bay_base.specs.Names.{upper}
use Rattle.bay_base.specs.Types.{same_type}
use Rattle.bay_base.specs.declared.types.ElementaryType.{ElementaryType}
use Rattle.bay_base.specs.declared.types.ElementaryType.TheVariants as elementary
use Rattle.bay_base.specs.declared.point.Point.{Point}
use Rattle.il_text.specs.Listing as text
use Rattle.il_text.specs.declared.program.DeclaredType.{DeclaredType}
use Rattle.il_text.specs.declared.program.DeclaredType.TheVariants as type
use Rattle.il_text.specs.declared.program.Literal.{Literal}
use Rattle.il_text.specs.declared.program.Literal.TheVariants as literal
use Rattle.il_text.specs.declared.program.VariableScope.{VariableScope}
use Rattle.il_text.specs.declared.program.VariableScope.TheVariants as scope
use Rattle.il_image.specs.Images.{Each, IsName, IsValue, is_name_octet}
use Rattle.il_image.specs.Values.{default_value, number_of, type_of, value_of}
use Rattle.il_image.specs.declared.value.Value.{Value}
use Rattle.il_image.specs.declared.value.Value.TheVariants as value
use Rattle.il_image.proofs.KindLemmas.{same-is}
use Rattle.il_image.proofs.ValueLemmas.{default-typed, value_is}
use Rattle.il_image.specs.Machine.{most_slots, most_timers}
use Rattle.il_check.specs.Declaring.{may_be_in_name, is_name, point_of, of_type, literal_value, initial_value, is_typed, is_external, is_writable, point_external, declared_external, valued_variable, declared_variable, declared_timer, externals_of, variables_of, timers_of, counts_of, meaning_at, meanings_of, looked_up, is_full, declaration_faults, declarations_faults}
use Rattle.il_check.specs.SourceOperands.{typed_value}
use Rattle.il_check.specs.Rules.{typed_number}
use Rattle.il_check.specs.TypedProgram.{HasName, HasValidInitial}
use Rattle.il_check.specs.declared.source_operand.Meaning.{Meaning}
use Rattle.il_check.specs.declared.source_operand.Meaning.TheVariants as meaning
use Rattle.il_check.specs.declared.typed.External.{External}
use Rattle.il_check.specs.declared.typed.Variable.{Variable}
use Rattle.il_check.specs.declared.typed.Timer.{Timer}
use Rattle.il_check.specs.declared.typed.Slot.TheVariants as slot
use Rattle.il_check.proofs.FaultlessLemmas.{both-none, if-none}
use Rattle.il_check.proofs.NameLemmas.{looked_up-more}
use Rattle.il_check.proofs.DeclarationsViewLemmas.{filter_map-more, meanings-more}

-- ---- values

pub is_value : (kind : ElementaryType) (z : ℤ) (v : Value) → value_of kind z ≡ Some v
    → IsValue v × (type_of v ≡ kind)
is_value kind z v e =
    let of = value_is kind z v e in
    let same : value_of (type_of v) (number_of v) ≡ Some v =
    ap (λ (t : ElementaryType). value_of t (number_of v)) of.type ∙ ap (value_of kind) of.number
    ∙ e in
    (ap is_some same, of.type)

truth-value : (b : Bool) → IsValue (value.Truth b)
truth-value true = refl
truth-value false = refl

pub typed-is : (l : Literal) (v : Value) → typed_value l ≡ Some v → IsValue v
typed-is (literal.Truth b) v e = subst IsValue (same_Some (value.Truth b) v e) (truth-value b)
typed-is (literal.Number z) v e = absurd (cc)
typed-is (literal.Int z) v e = (is_value elementary.Int z v e).0
typed-is (literal.Dint z) v e = (is_value elementary.Dint z v e).0
typed-is (literal.Lint z) v e = (is_value elementary.Lint z v e).0
typed-is (literal.Time n) v e = (is_value elementary.Time (pos n) v e).0

pub number-is : (kind : ElementaryType) (z : ℤ) (v : Value) → typed_number kind z ≡ Some v
    → value_of kind z ≡ Some v
number-is elementary.Bool z v e = e
number-is elementary.Int z v e = e
number-is elementary.Dint z v e = e
number-is elementary.Lint z v e = e
number-is elementary.Time z v e = absurd (cc)

of-type-is : (kind : ElementaryType) (o : Option Value) (v : Value) → of_type kind o ≡ Some v
    → (o ≡ Some v) × (type_of v ≡ kind)
of-type-is kind None v e = absurd (cc)
of-type-is kind (Some w) v e =
    let c = cond_some (same_type (type_of w) kind) w v e in
    (ap Some c.1, subst (λ (x : Value). type_of x ≡ kind) c.1 (same-is (type_of w) kind c.0))

of_literal : (kind : ElementaryType) (l : Literal) (v : Value)
    → of_type kind (typed_value l) ≡ Some v → IsValue v × (type_of v ≡ kind)
of_literal kind l v e = let h = of-type-is kind (typed_value l) v e in (typed-is l v h.0, h.1)

literal-value-is : (kind : ElementaryType) (l : Literal) (v : Value) → literal_value kind l ≡ Some v
    → IsValue v × (type_of v ≡ kind)
literal-value-is kind (literal.Truth b) v e = of_literal kind (literal.Truth b) v e
literal-value-is kind (literal.Number z) v e = is_value kind z v (number-is kind z v e)
literal-value-is kind (literal.Int z) v e = of_literal kind (literal.Int z) v e
literal-value-is kind (literal.Dint z) v e = of_literal kind (literal.Dint z) v e
literal-value-is kind (literal.Lint z) v e = of_literal kind (literal.Lint z) v e
literal-value-is kind (literal.Time n) v e = of_literal kind (literal.Time n) v e

pub initial-is : (kind : ElementaryType) (o : Option Literal) (v : Value)
    → initial_value kind o ≡ Some v → IsValue v × (type_of v ≡ kind)
initial-is kind None v e =
    subst (λ (x : Value). IsValue x × (type_of x ≡ kind)) (same_Some (default_value kind) v e)
    (let h = default-typed kind in (h.1, h.0))
initial-is kind (Some l) v e = literal-value-is kind l v e

-- ---- names of points

some-octet : (n : ℕ) → nat_lt 0 n ≡ true → 0 < n
some-octet n h = grind (arith, nat_tests)

few-octets : (n : ℕ) → nat_le n 64 ≡ true → n ≤ 64
few-octets n h = grind (arith, nat_tests)

name-is : (name : List ℕ) → is_name name ≡ true → IsName (upper name)
name-is name e =
    let a = and_parts (nat_lt 0 (length name) && nat_le (length name) 64)
    (list_all may_be_in_name name)
    e in
    let b = and_parts (nat_lt 0 (length name)) (nat_le (length name) 64) a.0 in
    let same : length (upper name) ≡ length name = length-map name to_ascii_uppercase in
    record {
      some = subst (λ (n : ℕ). 0 < n) (sym same) (some-octet (length name) b.0);
      few = subst (λ (n : ℕ). n ≤ 64) (sym same) (few-octets (length name) b.1);
      octets = list_all-map is_name_octet to_ascii_uppercase name ∙ a.1;
    }

if-there : {A : Type 0} (b : Bool) (o : Option A) (x : A) → cond b o None ≡ Some x → b ≡ true
if-there true o x e = refl
if-there false o x e = absurd (cc)

point-named : (points : List Point) (name : List ℕ) (p : Point) → point_of points name ≡ Some p
    → IsName (upper name)
point-named points name p e = name-is name (if-there (is_name name) _ p e)

-- ---- what a name means is there

-- a meaning is that of a declared variable, point or timer
abbrev pub IsMeant : List External → List Variable → List Timer → Meaning → Type 0
IsMeant es vs ts (meaning.Variable (slot.External n) kind writable) =
    (e : External) × (slice_get es n ≡ Some e) × (e.kind ≡ kind) × (e.writable ≡ writable)
IsMeant es vs ts (meaning.Variable (slot.Variable n) kind writable) =
    (v : Variable) × (slice_get vs n ≡ Some v) × (type_of v.initial ≡ kind)
IsMeant es vs ts (meaning.Timer n) = n < length ts

pub get-more : {A : Type 0} (xs ys : List A) (n : ℕ) (x : A) → slice_get xs n ≡ Some x
    → slice_get (xs ++ ys) n ≡ Some x
get-more [] ys n x e = absurd (cc)
get-more (y ∷ xs) ys zero x e = e
get-more (y ∷ xs) ys (suc n) x e = get-more xs ys n x e

pub get-last : {A : Type 0} (xs : List A) (x : A) → slice_get (xs ++ x ∷ []) (length xs) ≡ Some x
get-last [] x = refl
get-last (y ∷ xs) x = get-last xs x

meant-more : (es es2 : List External) (vs vs2 : List Variable) (ts ts2 : List Timer) (m : Meaning)
    → IsMeant es vs ts m → IsMeant (es ++ es2) (vs ++ vs2) (ts ++ ts2) m
meant-more es es2 vs vs2 ts ts2 (meaning.Variable (slot.External n) kind writable) h =
    (h.0, get-more es es2 n h.0 h.1, h.2, h.3)
meant-more es es2 vs vs2 ts ts2 (meaning.Variable (slot.Variable n) kind writable) h =
    (h.0, get-more vs vs2 n h.0 h.1, h.2)
meant-more es es2 vs vs2 ts ts2 (meaning.Timer n) h = let l = length-append ts ts2 in omega arith

each-more : {A : Type 0} (P : A → Type 0) (xs ys : List A) → Each P xs → Each P ys
    → Each P (xs ++ ys)
each-more P [] ys h k = k
each-more P (x ∷ xs) ys h k = (h.0, each-more P xs ys h.1 k)

-- ---- one declaration

-- what a declaration adds to lists, and what its name means
record IsAdded (es es2 : List External) (vs vs2 : List Variable) (ts ts2 : List Timer) (m : Meaning)
    : Type 0 where
  slots : length (es ++ es2) + length (vs ++ vs2) ≤ most_slots
  timers : length (ts ++ ts2) ≤ most_timers
  names : Each HasName es2
  initial : Each HasValidInitial vs2
  meant : IsMeant (es ++ es2) (vs ++ vs2) (ts ++ ts2) m

external_added : (name : List ℕ) (kind : ElementaryType) (o : Option Point) (es : List External)
    (vs : List Variable) (ts : List Timer) → is_none o ≡ false
    → ((p : Point) → o ≡ Some p → IsName (upper name)) → length es + length vs < most_slots
    → length ts ≤ most_timers
    → IsAdded es (option_to_list (point_external name kind o)) vs [] ts []
    (meaning.Variable (slot.External (length es)) kind (is_writable o))
external_added name kind None es vs ts there named few timers = absurd (cc)
external_added name kind (Some p) es vs ts there named few timers =
    let e : External =
    record { name = upper name; kind = kind; writable = p.writable; source = p.source } in
    record {
      slots = let a = length-append es (e ∷ []) in let b = length-append vs [] in omega arith;
      timers = let a = length-append ts [] in omega arith;
      names = (named p refl, tt);
      initial = tt;
      meant = (e, get-last es e, refl, refl);
    }

variable_added : (name : List ℕ) (kind : ElementaryType) (o : Option Value) (es : List External)
    (vs : List Variable) (ts : List Timer) → is_some o ≡ true
    → ((v : Value) → o ≡ Some v → IsValue v × (type_of v ≡ kind))
    → length es + length vs < most_slots
    → length ts ≤ most_timers
    → IsAdded es [] vs (option_to_list (valued_variable name o)) ts []
    (meaning.Variable (slot.Variable (length vs)) kind true)
variable_added name kind None es vs ts there right few timers = absurd (cc)
variable_added name kind (Some w) es vs ts there right few timers =
    let v : Variable = record { name = upper name; initial = w } in
    let h = right w refl in
    record {
      slots = let a = length-append es [] in let b = length-append vs (v ∷ []) in omega arith;
      timers = let a = length-append ts [] in omega arith;
      names = tt;
      initial = (h.0, tt);
      meant = (v, get-last vs v, h.1);
    }

timer_added : (t : Timer) (es : List External) (vs : List Variable) (ts : List Timer)
    → length es + length vs ≤ most_slots → length ts < most_timers
    → IsAdded es [] vs [] ts (t ∷ []) (meaning.Timer (length ts))
timer_added t es vs ts slots few = record {
  slots = let a = length-append es [] in let b = length-append vs [] in omega arith;
  timers = let a = length-append ts (t ∷ []) in omega arith;
  names = tt;
  initial = tt;
  meant = let a = length-append ts (t ∷ []) in omega arith;
}

few-slots : (n : ℕ) → nat_le most_slots n ≡ false → n < most_slots
few-slots n h = grind (arith, nat_tests)

few-timers : (n : ℕ) → nat_le most_timers n ≡ false → n < most_timers
few-timers n h = grind (arith, nat_tests)

added : (points : List Point) (d : text.DeclaredName) (s : VariableScope) (k : DeclaredType)
    (es : List External) (vs : List Variable) (ts : List Timer)
    → is_external s && is_none (point_of points d.name) ≡ false
    → is_typed s k (point_of points d.name) d.initial ≡ true
    → is_full (record { externals = length es; variables = length vs; timers = length ts }) k
    ≡ false
    → length es + length vs ≤ most_slots → length ts ≤ most_timers
    → IsAdded es (option_to_list (declared_external points d s k)) vs
    (option_to_list (declared_variable d s k))
    ts (option_to_list (declared_timer d k))
    (meaning_at (record { externals = length es; variables = length vs; timers = length ts }) s k
    (point_of points d.name))
added points d scope.External (type.Elementary kind) es vs ts there right room slots timers =
    external_added d.name kind (point_of points d.name) es vs ts there
    (λ p e. point-named points d.name p e) (few-slots _ room) timers
added points d scope.External (type.Timer kind) es vs ts there right room slots timers =
    timer_added (record { name = upper d.name; kind = kind }) es vs ts slots (few-timers _ room)
added points d scope.Local (type.Elementary kind) es vs ts there right room slots timers =
    variable_added d.name kind (initial_value kind d.initial) es vs ts right
    (λ v e. initial-is kind d.initial v e) (few-slots _ room) timers
added points d scope.Local (type.Timer kind) es vs ts there right room slots timers =
    timer_added (record { name = upper d.name; kind = kind }) es vs ts slots (few-timers _ room)

-- ---- all declarations

-- what is declared is right, and so is what names mean
pub record AreDeclared (es : List External) (vs : List Variable) (ts : List Timer)
    (ms : List (List ℕ × Meaning)) : Type 0 where
  pub slots : length es + length vs ≤ most_slots
  pub timers : length ts ≤ most_timers
  pub names : Each HasName es
  pub initial : Each HasValidInitial vs
  pub meant : (key : List ℕ) (m : Meaning) → looked_up ms key ≡ Some m → IsMeant es vs ts m

either-found : {A : Type 0} (o : Option A) (b : Bool) (x y : A)
    → cond (is_some o) o (cond b (Some x) None) ≡ Some y → (o ≡ Some y) ⊎ (x ≡ y)
either-found (Some z) b x y e = inl e
either-found None true x y e = inr (same_Some x y e)
either-found None false x y e = absurd (cc)

declared-added : (es es2 : List External) (vs vs2 : List Variable) (ts ts2 : List Timer)
    (ms : List (List ℕ × Meaning)) (name : List ℕ) (m : Meaning)
    → AreDeclared es vs ts ms → IsAdded es es2 vs vs2 ts ts2 m
    → AreDeclared (es ++ es2) (vs ++ vs2) (ts ++ ts2) (ms ++ (name, m) ∷ [])
declared-added es es2 vs vs2 ts ts2 ms name m known more = record {
  slots = more.slots;
  timers = more.timers;
  names = each-more HasName es es2 known.names more.names;
  initial = each-more HasValidInitial vs vs2 known.initial more.initial;
  meant = λ key n e. elim (either-found (looked_up ms key) (bytes_eq name key) m n
      (sym (looked_up-more ms name m key) ∙ e)) [
        | inl is ↦ meant-more es es2 vs vs2 ts ts2 n (known.meant key n is)
        | inr is ↦ subst (IsMeant (es ++ es2) (vs ++ vs2) (ts ++ ts2)) is more.meant
      ];
}

abbrev Declares : List Point → List text.DeclaredName → Type 0
Declares points ds =
    AreDeclared (externals_of points ds) (variables_of ds) (timers_of ds) (meanings_of points ds)

declares-more : (points : List Point) (before : List text.DeclaredName) (d : text.DeclaredName)
    → Declares points before → declaration_faults points before d ≡ []
    → Declares points (before ++ d ∷ [])
declares-more points before d known none =
    let missing = both-none _ _ none in
    let twice = both-none _ _ missing.1 in
    let wrong = both-none _ _ twice.1 in
    let es = externals_of points before in
    let vs = variables_of before in
    let ts = timers_of before in
    let m : Meaning =
    meaning_at (counts_of points before) d.scope d.kind (point_of points d.name) in
    let more =
    added points d d.scope d.kind es vs ts (if-none _ _ missing.0)
    (not-false _ (if-none _ _ wrong.0)) (if-none _ _ wrong.1) known.slots known.timers in
    let is =
    declared-added es (option_to_list (declared_external points d d.scope d.kind)) vs
    (option_to_list (declared_variable d d.scope d.kind)) ts
    (option_to_list (declared_timer d d.kind))
    (meanings_of points before) (upper d.name) m known more in
    subst (λ (xs : List External). AreDeclared xs (variables_of (before ++ d ∷ []))
    (timers_of (before ++ d ∷ [])) (meanings_of points (before ++ d ∷ [])))
    (sym (filter_map-more (λ (x : text.DeclaredName). declared_external points x x.scope x.kind)
    before d))
    (subst (λ (xs : List Variable). AreDeclared
    (es ++ option_to_list (declared_external points d d.scope d.kind)) xs
    (timers_of (before ++ d ∷ [])) (meanings_of points (before ++ d ∷ [])))
    (sym (filter_map-more (λ (x : text.DeclaredName). declared_variable x x.scope x.kind) before d))
    (subst (λ (xs : List Timer). AreDeclared
    (es ++ option_to_list (declared_external points d d.scope d.kind))
    (vs ++ option_to_list (declared_variable d d.scope d.kind)) xs
    (meanings_of points (before ++ d ∷ [])))
    (sym (filter_map-more (λ (x : text.DeclaredName). declared_timer x x.kind) before d))
    (subst (λ (xs : List (List ℕ × Meaning)). AreDeclared
    (es ++ option_to_list (declared_external points d d.scope d.kind))
    (vs ++ option_to_list (declared_variable d d.scope d.kind))
    (ts ++ option_to_list (declared_timer d d.kind)) xs)
    (sym (meanings-more points [] before d)) is)))

declares-all : (points : List Point) (before ds : List text.DeclaredName) → Declares points before
    → declarations_faults points before ds ≡ [] → Declares points (before ++ ds)
declares-all points before [] known none = subst (Declares points) (sym (append-nil before)) known
declares-all points before (d ∷ ds) known none =
    let two = both-none _ _ none in
    subst (Declares points) (append_assoc before (d ∷ []) ds)
    (declares-all points (before ++ d ∷ []) ds (declares-more points before d known two.0)
    two.1)

-- where no declaration has a fault, all is declared as it should be
pub declares : (points : List Point) (ds : List text.DeclaredName)
    → declarations_faults points [] ds ≡ []
    → AreDeclared (externals_of points ds) (variables_of ds) (timers_of ds) (meanings_of points ds)
declares points ds none =
    declares-all points [] ds
    (record {
      slots = omega arith;
      timers = omega arith;
      names = tt;
      initial = tt;
      meant = λ key m e. absurd (cc);
    }) none
