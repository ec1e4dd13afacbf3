-- What names mean.
use Rattle.std.proofs.Common.{◌≡◌, ℕ, Bool, true, false, cond, ◌&&◌, is_some, is_none, List, [], ◌∷◌, ◌++◌, Option, Some, None, refl, ap, sym, ◌∙◌}
use Rattle.std.specs.Str.{bytes_eq}
use Rattle.std.proofs.lemmas.Slice.Eq.{bytes_eq-Decides}
use Rattle.il_check.specs.NamesView.{with_value}
use Rattle.il_check.specs.Declaring.{looked_up}

and-is_none : {X : Type 0} (b : Bool) (o : Option X) → is_some o ≡ false → b && is_none o ≡ b
and-is_none true None h = refl
and-is_none false None h = refl
and-is_none b (Some x) h = absurd (cc)

-- a name without a value is given one
pub with_value-new : {A : Type 0}
    → (values : List ℕ → Option A) (name : List ℕ) (value : A) (other : List ℕ)
    → is_some (values name) ≡ false
    → cond (bytes_eq name other) (Some value) (values other) ≡ with_value values name value other
with_value-new values name value other h =
    ap (λ b. cond b (Some value) (values other))
    (sym (and-is_none (bytes_eq name other) (values name) h))

kept : {X : Type 0} (b : Bool) (o : Option X) → is_some o ≡ true → b && is_none o ≡ false
kept true None h = absurd (cc)
kept false None h = refl
kept true (Some x) h = refl
kept false (Some x) h = refl

-- a name with a value keeps it
pub with_value-old : {A : Type 0}
    → (values : List ℕ → Option A) (name : List ℕ) (value : A) (other : List ℕ)
    → is_some (values name) ≡ true
    → values other ≡ with_value values name value other
with_value-old values name value other h =
    ap (λ b. cond b (Some value) (values other)) (sym (kept (bytes_eq name other) (values name) h))

or-last : {A : Type 0} → (here : Bool) (new : A) (rest last : Option A)
    → cond here (Some new) (cond (is_some rest) rest last)
    ≡ cond (is_some (cond here (Some new) rest)) (cond here (Some new) rest) last
or-last true new rest last = refl
or-last false new rest last = refl

-- a search in one entry more
pub looked_up-more : {A : Type 0}
    → (es : List (List ℕ × A)) (name : List ℕ) (value : A) (key : List ℕ)
    → looked_up (es ++ (name, value) ∷ []) key
    ≡ cond (is_some (looked_up es key)) (looked_up es key)
    (cond (bytes_eq name key) (Some value) None)
looked_up-more [] name value key = refl
looked_up-more {A} (e ∷ es) name value key =
    ap (λ (o : Option A). cond (bytes_eq e.0 key) (Some e.1) o) (looked_up-more es name value key)
    ∙ or-last (bytes_eq e.0 key) e.1 (looked_up es key) (cond (bytes_eq name key) (Some value) None)

more-cases : {A : Type 0} → (same : Bool) (here other : Option A) (value : A)
    → (same ≡ true → here ≡ other)
    → cond (same && is_none here) (Some value) other
    ≡ cond (is_some other) other (cond same (Some value) None)
more-cases true here None value e = rw (e refl) refl
more-cases true here (Some x) value e = rw (e refl) refl
more-cases false here None value e = refl
more-cases false here (Some x) value e = refl

-- the values after one entry more
pub with_value-more : {A : Type 0}
    → (es : List (List ℕ × A)) (name : List ℕ) (value : A) (key : List ℕ)
    → with_value (looked_up es) name value key ≡ looked_up (es ++ (name, value) ∷ []) key
with_value-more es name value key =
    more-cases (bytes_eq name key) (looked_up es name) (looked_up es key) value
    (λ same. ap (looked_up es) ((bytes_eq-Decides name key).0 same))
    ∙ sym (looked_up-more es name value key)

-- values that are the same everywhere are so after one more
pub with_value-same : {A : Type 0}
    → (f g : List ℕ → Option A) (name : List ℕ) (value : A) (key : List ℕ)
    → ((q : List ℕ) → f q ≡ g q)
    → with_value f name value key ≡ with_value g name value key
with_value-same {A} f g name value key e =
    ap (λ (o : Option A). cond (bytes_eq name key && is_none o) (Some value) (f key)) (e name)
    ∙ ap (λ (o : Option A). cond (bytes_eq name key && is_none (g name)) (Some value) o) (e key)
