-- 'Exact unless an allocation fails': how the result of a call that allocates relates to the value
-- of a definition.
use Rattle.std.specs.Prelude.{◌≡◌, ◌⊎◌, Option, Some, None, Result, Ok, Err}

-- The result, under a view, equals the definition's value `held`; or the result is the error
-- `memory`, whatever `held` is.
abbrev pub ExactOr : {A B E : Type 0} → E → (A → B) → Result A E → Result B E → Type 0
ExactOr memory view (Ok x) held = held ≡ Ok (view x)
ExactOr memory view (Err e) held = (e ≡ memory) ⊎ (held ≡ Err e)

-- the refusal, if there is one, and else the value
abbrev pub unless_refused : {B E : Type 0} → Option E → B → Result B E
unless_refused None x = Ok x
unless_refused (Some e) x = Err e
