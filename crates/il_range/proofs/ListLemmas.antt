-- Lists whose items are in a relation, place by place.
use Rattle.std.proofs.Common.{◌≡◌, ℕ, List, [], ◌∷◌, ◌++◌, length, reverse, refl, sym, ap, subst, ◌∙◌, arith, Some, slice_get, slice_set}
use Rattle.std.specs.Prelude.{zero, suc}
use Rattle.std.proofs.lemmas.Grind.{reverse_onto}
use Rattle.std.proofs.lemmas.List.{length-reverse}
use Rattle.il_image.specs.declared.value.Value.{Value}
use Rattle.il_range.specs.declared.range.Range.{Range}
use Rattle.il_range.specs.Ranges.{AreEach, AreIn, IsIn, Setting}
use Rattle.il_range.specs.Effects.{join_lists}

-- ---- joins

pub each-left : {A B : Type 0} (Fits : A → B → Type 0) (join : B → B → B)
    → ((x : A) (a b : B) → Fits x a → Fits x (join a b)) → (xs : List A) (ys zs : List B)
    → AreEach Fits xs ys → AreEach Fits xs (join_lists join ys zs)
each-left Fits join left [] [] zs h = tt
each-left Fits join left [] (y ∷ ys) zs h = absurd h
each-left Fits join left (x ∷ xs) [] zs h = absurd h
each-left Fits join left (x ∷ xs) (y ∷ ys) [] h = h
each-left Fits join left (x ∷ xs) (y ∷ ys) (z ∷ zs) h =
    (left x y z h.0, each-left Fits join left xs ys zs h.1)

pub each-right : {A B : Type 0} (Fits : A → B → Type 0) (join : B → B → B)
    → ((x : A) (a b : B) → Fits x b → Fits x (join a b)) → (xs : List A) (ys zs : List B)
    → length ys ≡ length zs → AreEach Fits xs zs → AreEach Fits xs (join_lists join ys zs)
each-right Fits join right [] [] zs e h = tt
each-right Fits join right [] (y ∷ ys) [] e h = absurd (omega arith)
each-right Fits join right [] (y ∷ ys) (z ∷ zs) e h = absurd h
each-right Fits join right (x ∷ xs) [] [] e h = absurd h
each-right Fits join right (x ∷ xs) [] (z ∷ zs) e h = absurd (omega arith)
each-right Fits join right (x ∷ xs) (y ∷ ys) [] e h = absurd h
each-right Fits join right (x ∷ xs) (y ∷ ys) (z ∷ zs) e h =
    (right x y z h.0, each-right Fits join right xs ys zs (omega arith) h.1)

joined-append : {A : Type 0} (join : A → A → A) (xs ys more others : List A)
    → length xs ≡ length ys
    → join_lists join (xs ++ more) (ys ++ others)
    ≡ join_lists join xs ys ++ join_lists join more others
joined-append join [] [] more others e = refl
joined-append join [] (y ∷ ys) more others e = absurd (omega arith)
joined-append join (x ∷ xs) [] more others e = absurd (omega arith)
joined-append {A = A} join (x ∷ xs) (y ∷ ys) more others e =
    ap (λ (l : List A). join x y ∷ l) (joined-append join xs ys more others (omega arith))

reverse-cons : {A : Type 0} (x : A) (xs : List A) → reverse (x ∷ xs) ≡ reverse xs ++ x ∷ []
reverse-cons x xs = reverse_onto xs x []

pub joined-reverse : {A : Type 0} (join : A → A → A) (xs ys : List A) → length xs ≡ length ys
    → reverse (join_lists join xs ys) ≡ join_lists join (reverse xs) (reverse ys)
joined-reverse join [] [] e = refl
joined-reverse join [] (y ∷ ys) e = absurd (omega arith)
joined-reverse join (x ∷ xs) [] e = absurd (omega arith)
joined-reverse {A = A} join (x ∷ xs) (y ∷ ys) e =
    let less : length xs ≡ length ys = omega arith in
    let same : length (reverse xs) ≡ length (reverse ys) =
    length-reverse xs ∙ less ∙ sym (length-reverse ys) in
    reverse-cons (join x y) (join_lists join xs ys)
    ∙ ap (λ (l : List A). l ++ join x y ∷ []) (joined-reverse join xs ys less)
    ∙ sym (joined-append join (reverse xs) (reverse ys) (x ∷ []) (y ∷ []) same)
    ∙ sym (ap (λ (l : List A). join_lists join l (reverse (y ∷ ys))) (reverse-cons x xs)
    ∙ ap (λ (l : List A). join_lists join (reverse xs ++ x ∷ []) l) (reverse-cons y ys))

pub each-size : {A B : Type 0} (Fits : A → B → Type 0) (xs : List A) (ys : List B)
    → AreEach Fits xs ys → length xs ≡ length ys
each-size Fits [] [] h = refl
each-size Fits [] (y ∷ ys) h = absurd h
each-size Fits (x ∷ xs) [] h = absurd h
each-size Fits (x ∷ xs) (y ∷ ys) h = ap suc (each-size Fits xs ys h.1)

-- ---- one place

pub each-get : {A B : Type 0} (Fits : A → B → Type 0) (xs : List A) (ys : List B) (n : ℕ) (x : A)
    (y : B) → AreEach Fits xs ys → slice_get xs n ≡ Some x → slice_get ys n ≡ Some y → Fits x y
each-get Fits [] ys n x y h e f = absurd (cc)
each-get Fits (a ∷ xs) [] n x y h e f = absurd h
each-get {A = A} Fits (a ∷ xs) (b ∷ ys) zero x y h e f =
    let same : a ≡ x = cc in let also : b ≡ y = cc in
    subst (λ (z : A). Fits z y) same (subst (Fits a) also h.0)
each-get Fits (a ∷ xs) (b ∷ ys) (suc n) x y h e f = each-get Fits xs ys n x y h.1 e f

pub each-set : {A B : Type 0} (Fits : A → B → Type 0) (xs : List A) (ys : List B) (n : ℕ) (x : A)
    (y : B) → AreEach Fits xs ys → Fits x y → AreEach Fits (slice_set xs n x) (slice_set ys n y)
each-set Fits [] [] n x y h k = tt
each-set Fits [] (b ∷ ys) n x y h k = absurd h
each-set Fits (a ∷ xs) [] n x y h k = absurd h
each-set Fits (a ∷ xs) (b ∷ ys) zero x y h k = (k, h.1)
each-set Fits (a ∷ xs) (b ∷ ys) (suc n) x y h k = (h.0, each-set Fits xs ys n x y h.1 k)

-- The value of a slot is one of its range.
pub are-get : (w : Setting) (vs : List Value) (rs : List Range) (n : ℕ) (v : Value) (r : Range)
    → AreIn w vs rs → slice_get vs n ≡ Some v → slice_get rs n ≡ Some r → IsIn w v r
are-get w vs rs n v r h e f = each-get (IsIn w) vs rs n v r h e f

pub are-set : (w : Setting) (vs : List Value) (rs : List Range) (n : ℕ) (v : Value) (r : Range)
    → AreIn w vs rs → IsIn w v r → AreIn w (slice_set vs n v) (slice_set rs n r)
are-set w vs rs n v r h k = each-set (IsIn w) vs rs n v r h k
