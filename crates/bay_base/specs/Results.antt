-- Chaining steps that may be refused, in `do` notation.
use Rattle.std.specs.Prelude.{◌≡◌, Result, Ok, Err}

infixl 10 ◌>>=◌
-- applies the continuation to the value; the first refusal is the result (the monad's bind)
abbrev pub ◌>>=◌ : {A B E : Type 0} → Result A E → (A → Result B E) → Result B E
(Ok x) >>= f = f x
(Err e) >>= f = Err e

-- The result of a function, under a view, equals the value `read` of a definition, including each
-- refusal.
abbrev pub Exact : {X Y E : Type 0} → (X → Y) → Result X E → Result Y E → Type 0
Exact view (Ok x) read = read ≡ Ok (view x)
Exact view (Err e) read = read ≡ Err e
