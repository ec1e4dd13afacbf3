-- What is so of a value, if there is one.
use Rattle.std.proofs.Common.{Bool, true, false, cond, Option, Some, None, option_map, option_and_then}
use Rattle.std.specs.Prelude.{IfSome}

pub cond-some : {A : Type 0} (P : A → Type 0) (b : Bool) (x y : Option A) → IfSome x P
    → IfSome y P → IfSome (cond b x y) P
cond-some P true x y h k = h
cond-some P false x y h k = k

pub map-some : {A B : Type 0} (P : B → Type 0) (f : A → B) (o : Option A) → ((x : A) → P (f x))
    → IfSome (option_map f o) P
map-some P f None h = tt
map-some P f (Some x) h = h x

pub then-some : {A B : Type 0} (P : B → Type 0) (f : A → Option B) (o : Option A)
    → ((x : A) → IfSome (f x) P) → IfSome (option_and_then f o) P
then-some P f None h = tt
then-some P f (Some x) h = h x
