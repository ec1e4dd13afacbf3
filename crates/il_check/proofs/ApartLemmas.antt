-- The names of a program without a fault differ.
use Rattle.std.proofs.Common.{◌≡◌, ℕ, ◌<◌, Bool, true, false, cond, is_some, List, [], ◌∷◌, ◌++◌, length, map, Option, None, Some, refl, ap, sym, ◌∙◌, arith, zero, suc}
use Rattle.std.proofs.lemmas.Bool.{or_parts, or_from, false_from_ne_true}
use Rattle.std.specs.List.{list_any, cons_option}
use Rattle.std.specs.Str.{bytes_eq}
use Rattle.std.proofs.lemmas.Slice.Eq.{bytes_eq-Decides}
use Rattle.bay_base.specs.Names.{upper, same_name}
use Rattle.bay_base.proofs.NameLemmas.{upper-upper}
use Rattle.bay_base.specs.declared.types.ElementaryType.{ElementaryType}
use Rattle.bay_base.specs.declared.point.Point.{Point}
use Rattle.il_text.specs.Listing as text
use Rattle.il_text.specs.declared.program.DeclaredType.{DeclaredType}
use Rattle.il_text.specs.declared.program.DeclaredType.TheVariants as type
use Rattle.il_text.specs.declared.program.VariableScope.{VariableScope}
use Rattle.il_text.specs.declared.program.VariableScope.TheVariants as scope
use Rattle.il_image.specs.declared.value.Value.{Value}
use Rattle.il_check.specs.Declaring.{meanings_of, looked_up, declarations_faults, declaration_faults, externals_of, variables_of, declared_external, point_external, declared_variable, valued_variable, initial_value, meaning_at, counts_of, point_of}
use Rattle.il_check.specs.Faults.{fault_if}
use Rattle.il_check.specs.Sound.{AreDistinct, name_at}
use Rattle.il_check.specs.declared.source_operand.Meaning.{Meaning}
use Rattle.il_check.specs.declared.fault.CheckFault.{CheckFault}
use Rattle.il_check.specs.declared.typed.External.{External}
use Rattle.il_check.specs.declared.typed.Variable.{Variable}
use Rattle.il_check.proofs.NameLemmas.{looked_up-more}
use Rattle.il_check.proofs.NotedLemmas.{append-none}
use Rattle.il_check.proofs.DeclarationsViewLemmas.{meanings-more}

abbrev Distinct : List (List ℕ) → Type 0
Distinct [] = Unit {0}
Distinct (x ∷ xs) = (list_any (same_name x) xs ≡ false) × Distinct xs

absent-at : (x : List ℕ) (ys : List (List ℕ)) (j : ℕ) → list_any (same_name x) ys ≡ false
    → j < length ys → same_name x (name_at ys j) ≡ false
absent-at x [] j none within = absurd (omega arith)
absent-at x (y ∷ ys) zero none within =
    (or_parts (same_name x y) (list_any (same_name x) ys) none).0
absent-at x (y ∷ ys) (suc j) none within =
    absent-at x ys j (or_parts (same_name x y) (list_any (same_name x) ys) none).1 (omega arith)

pub distinct-apart : (xs : List (List ℕ)) → Distinct xs → AreDistinct xs
distinct-apart [] d i j below within = absurd (omega arith)
distinct-apart (x ∷ xs) d zero zero below within = absurd (omega arith)
distinct-apart (x ∷ xs) d zero (suc j) below within = absent-at x xs j d.0 (omega arith)
distinct-apart (x ∷ xs) d (suc i) zero below within = absurd (omega arith)
distinct-apart (x ∷ xs) d (suc i) (suc j) below within =
    distinct-apart xs d.1 i j (omega arith) (omega arith)

absent-append : (x : List ℕ) (ys zs : List (List ℕ)) → list_any (same_name x) ys ≡ false
    → list_any (same_name x) zs ≡ false → list_any (same_name x) (ys ++ zs) ≡ false
absent-append x [] zs e f = f
absent-append x (y ∷ ys) zs e f =
    let both = or_parts (same_name x y) (list_any (same_name x) ys) e in
    or_from (same_name x y) (list_any (same_name x) (ys ++ zs)) both.0
    (absent-append x ys zs both.1 f)

same-other : (a b : List ℕ) → same_name a b ≡ false → same_name b a ≡ false
unfolding same_name
same-other a b none =
    false_from_ne_true (bytes_eq (upper b) (upper a))
    (λ (yes : bytes_eq (upper b) (upper a) ≡ true).
    let e : upper b ≡ upper a = (bytes_eq-Decides (upper b) (upper a)).0 yes in
    let t : bytes_eq (upper a) (upper b) ≡ true =
    ap (bytes_eq (upper a)) e ∙ (ap (λ u. bytes_eq u (upper a)) (sym e) ∙ yes) in
    absurd (cc))

between : (y x : List ℕ) (ys zs : List (List ℕ)) → same_name y x ≡ false
    → list_any (same_name y) (ys ++ zs) ≡ false → list_any (same_name y) (ys ++ x ∷ zs) ≡ false
between y x [] zs e f = or_from (same_name y x) (list_any (same_name y) zs) e f
between y x (w ∷ ys) zs e f =
    let both = or_parts (same_name y w) (list_any (same_name y) (ys ++ zs)) f in
    or_from (same_name y w) (list_any (same_name y) (ys ++ x ∷ zs)) both.0
    (between y x ys zs e both.1)

inserted : (x : List ℕ) (ys zs : List (List ℕ)) → list_any (same_name x) ys ≡ false
    → list_any (same_name x) zs ≡ false → Distinct (ys ++ zs) → Distinct (ys ++ x ∷ zs)
inserted x [] zs e f d = (f, d)
inserted x (y ∷ ys) zs e f d =
    let both = or_parts (same_name x y) (list_any (same_name x) ys) e in
    (between y x ys zs (same-other x y both.0) d.0, inserted x ys zs both.1 f d.1)

-- what a declaration is known to differ from
abbrev Fresh : List ℕ → List text.DeclaredName → Type 0
Fresh k [] = Unit {0}
Fresh k (d ∷ ds) = (bytes_eq k (upper d.name) ≡ false) × Fresh k ds

no_fault : (test : Bool) (f : CheckFault) → fault_if test f ≡ [] → test ≡ false
no_fault true f none = absurd (cc)
no_fault false f none = refl

not-declared : (points : List Point) (before : List text.DeclaredName) (d : text.DeclaredName)
    → declaration_faults points before d ≡ []
    → is_some (looked_up (meanings_of points before) (upper d.name)) ≡ false
not-declared points before d none = no_fault _ _ (append-none _ _ (append-none _ _ none).1).0

kept : (o last : Option Meaning) → is_some o ≡ true → is_some (cond (is_some o) o last) ≡ true
kept None last e = absurd (cc)
kept (Some m) last e = refl

last-known : (o : Option Meaning) (same : Bool) (m : Meaning) → same ≡ true
    → is_some (cond (is_some o) o (cond same (Some m) None)) ≡ true
last-known None true m e = refl
last-known None false m e = absurd (cc)
last-known (Some n) same m e = refl

-- what is known of a key in one declaration more
known-more : (points : List Point) (before : List text.DeclaredName) (d : text.DeclaredName)
    (k : List ℕ)
    → is_some (looked_up (meanings_of points before) k) ≡ true
    → is_some (looked_up (meanings_of points (before ++ d ∷ [])) k) ≡ true
known-more points before d k known =
    ap (λ (es : List (List ℕ × Meaning)). is_some (looked_up es k))
    (meanings-more points [] before d)
    ∙ ap is_some (looked_up-more (meanings_of points before) (upper d.name)
    (meaning_at (counts_of points before) d.scope d.kind (point_of points d.name)) k)
    ∙ kept (looked_up (meanings_of points before) k) _ known

self-same : (a : List ℕ) → bytes_eq a a ≡ true
self-same a = (bytes_eq-Decides a a).1 refl

known-last : (points : List Point) (before : List text.DeclaredName) (d : text.DeclaredName)
    → is_some (looked_up (meanings_of points (before ++ d ∷ [])) (upper d.name)) ≡ true
known-last points before d =
    ap (λ (es : List (List ℕ × Meaning)). is_some (looked_up es (upper d.name)))
    (meanings-more points [] before d)
    ∙ ap is_some (looked_up-more (meanings_of points before) (upper d.name)
    (meaning_at (counts_of points before) d.scope d.kind (point_of points d.name))
    (upper d.name))
    ∙ last-known (looked_up (meanings_of points before) (upper d.name))
    (bytes_eq (upper d.name) (upper d.name)) _ (self-same (upper d.name))

fresh : (points : List Point) (before ds : List text.DeclaredName)
    → declarations_faults points before ds ≡ [] → (k : List ℕ)
    → is_some (looked_up (meanings_of points before) k) ≡ true → Fresh k ds
fresh points before [] none k known = tt
fresh points before (d ∷ ds) none k known =
    let two =
    append-none (declaration_faults points before d)
    (declarations_faults points (before ++ d ∷ []) ds) none in (
      false_from_ne_true (bytes_eq k (upper d.name)) (λ (yes : bytes_eq k (upper d.name) ≡ true).
          let e : k ≡ upper d.name = (bytes_eq-Decides k (upper d.name)).0 yes in
          let t : is_some (looked_up (meanings_of points before) (upper d.name)) ≡ true =
          ap (λ q. is_some (looked_up (meanings_of points before) q)) (sym e) ∙ known in
          let f : is_some (looked_up (meanings_of points before) (upper d.name)) ≡ false =
          not-declared points before d two.0 in
          absurd (cc)),
      fresh points (before ++ d ∷ []) ds two.1 k (known-more points before d k known),
    )

upper-other : (a b : List ℕ) → bytes_eq (upper a) (upper b) ≡ false
    → same_name (upper a) (upper b) ≡ false
unfolding same_name
upper-other a b e =
    ap (λ u. bytes_eq u (upper (upper b))) (upper-upper a) ∙ ap (bytes_eq (upper a)) (upper-upper b)
    ∙ e

external-at-other : (x name : List ℕ) (kind : ElementaryType) (p : Option Point)
    (es : List External) → same_name x (upper name) ≡ false
    → list_any (same_name x) (map (λ e. e.name) es) ≡ false
    → list_any (same_name x) (map (λ e. e.name) (cons_option (point_external name kind p) es))
    ≡ false
external-at-other x name kind None es e f = f
external-at-other x name kind (Some p) es e f =
    or_from (same_name x (upper name)) (list_any (same_name x) (map (λ e. e.name) es)) e f

-- a name is none of those that a declaration adds
external-other : (x : List ℕ) (points : List Point) (d : text.DeclaredName) (s : VariableScope)
    (k : DeclaredType) (es : List External) → same_name x (upper d.name) ≡ false
    → list_any (same_name x) (map (λ e. e.name) es) ≡ false
    → list_any (same_name x) (map (λ e. e.name) (cons_option (declared_external points d s k) es))
    ≡ false
external-other x points d scope.External (type.Elementary kind) es e f =
    external-at-other x d.name kind (point_of points d.name) es e f
external-other x points d scope.External (type.Timer kind) es e f = f
external-other x points d scope.Local (type.Elementary kind) es e f = f
external-other x points d scope.Local (type.Timer kind) es e f = f

variable-at-other : (x name : List ℕ) (v : Option Value) (vs : List Variable)
    → same_name x (upper name) ≡ false
    → list_any (same_name x) (map (λ v. v.name) vs) ≡ false
    → list_any (same_name x) (map (λ v. v.name) (cons_option (valued_variable name v) vs)) ≡ false
variable-at-other x name None vs e f = f
variable-at-other x name (Some v) vs e f =
    or_from (same_name x (upper name)) (list_any (same_name x) (map (λ v. v.name) vs)) e f

variable-other : (x : List ℕ) (d : text.DeclaredName) (s : VariableScope) (k : DeclaredType)
    (vs : List Variable) → same_name x (upper d.name) ≡ false
    → list_any (same_name x) (map (λ v. v.name) vs) ≡ false
    → list_any (same_name x) (map (λ v. v.name) (cons_option (declared_variable d s k) vs)) ≡ false
variable-other x d scope.Local (type.Elementary kind) vs e f =
    variable-at-other x d.name (initial_value kind d.initial) vs e f
variable-other x d scope.Local (type.Timer kind) vs e f = f
variable-other x d scope.External (type.Elementary kind) vs e f = f
variable-other x d scope.External (type.Timer kind) vs e f = f

externals-other : (a : List ℕ) (points : List Point) (ds : List text.DeclaredName)
    → Fresh (upper a) ds
    → list_any (same_name (upper a)) (map (λ e. e.name) (externals_of points ds)) ≡ false
externals-other a points [] f = refl
externals-other a points (d ∷ ds) f =
    external-other (upper a) points d d.scope d.kind (externals_of points ds)
    (upper-other a d.name f.0) (externals-other a points ds f.1)

variables-other : (a : List ℕ) (ds : List text.DeclaredName) → Fresh (upper a) ds
    → list_any (same_name (upper a)) (map (λ v. v.name) (variables_of ds)) ≡ false
variables-other a [] f = refl
variables-other a (d ∷ ds) f =
    variable-other (upper a) d d.scope d.kind (variables_of ds) (upper-other a d.name f.0)
    (variables-other a ds f.1)

external-step : (name : List ℕ) (kind : ElementaryType) (p : Option Point) (es : List External)
    (ns : List (List ℕ))
    → list_any (same_name (upper name)) (map (λ e. e.name) es) ≡ false
    → list_any (same_name (upper name)) ns ≡ false
    → Distinct (map (λ e. e.name) es ++ ns)
    → Distinct (map (λ e. e.name) (cons_option (point_external name kind p) es) ++ ns)
external-step name kind None es ns e f d = d
external-step name kind (Some p) es ns e f d =
    (absent-append (upper name) (map (λ e. e.name) es) ns e f, d)

variable-step : (name : List ℕ) (v : Option Value) (ns : List (List ℕ)) (vs : List Variable)
    → list_any (same_name (upper name)) ns ≡ false
    → list_any (same_name (upper name)) (map (λ v. v.name) vs) ≡ false
    → Distinct (ns ++ map (λ v. v.name) vs)
    → Distinct (ns ++ map (λ v. v.name) (cons_option (valued_variable name v) vs))
variable-step name None ns vs e f d = d
variable-step name (Some v) ns vs e f d = inserted (upper name) ns (map (λ v. v.name) vs) e f d

one-step : (points : List Point) (d : text.DeclaredName) (s : VariableScope) (k : DeclaredType)
    (es : List External) (vs : List Variable)
    → list_any (same_name (upper d.name)) (map (λ e. e.name) es) ≡ false
    → list_any (same_name (upper d.name)) (map (λ v. v.name) vs) ≡ false
    → Distinct (map (λ e. e.name) es ++ map (λ v. v.name) vs)
    → Distinct (map (λ e. e.name) (cons_option (declared_external points d s k) es)
    ++ map (λ v. v.name) (cons_option (declared_variable d s k) vs))
one-step points d scope.External (type.Elementary kind) es vs e f x =
    external-step d.name kind (point_of points d.name) es (map (λ v. v.name) vs) e f x
one-step points d scope.Local (type.Elementary kind) es vs e f x =
    variable-step d.name (initial_value kind d.initial) (map (λ e. e.name) es) vs e f x
one-step points d scope.External (type.Timer kind) es vs e f x = x
one-step points d scope.Local (type.Timer kind) es vs e f x = x

distinct-names : (points : List Point) (before ds : List text.DeclaredName)
    → declarations_faults points before ds ≡ []
    → Distinct (map (λ e. e.name) (externals_of points ds) ++ map (λ v. v.name) (variables_of ds))
distinct-names points before [] none = tt
distinct-names points before (d ∷ ds) none =
    let two =
    append-none (declaration_faults points before d)
    (declarations_faults points (before ++ d ∷ []) ds) none in
    let f : Fresh (upper d.name) ds =
    fresh points (before ++ d ∷ []) ds two.1 (upper d.name) (known-last points before d) in
    one-step points d d.scope d.kind (externals_of points ds) (variables_of ds)
    (externals-other d.name points ds f) (variables-other d.name ds f)
    (distinct-names points (before ++ d ∷ []) ds two.1)

-- where no declaration has a fault, no two names are the same
pub all-apart : (points : List Point) (ds : List text.DeclaredName)
    → declarations_faults points [] ds ≡ []
    → AreDistinct (map (λ e. e.name) (externals_of points ds)
    ++ map (λ v. v.name) (variables_of ds))
all-apart points ds none =
    distinct-apart (map (λ e. e.name) (externals_of points ds)
    ++ map (λ v. v.name) (variables_of ds)) (distinct-names points [] ds none)
