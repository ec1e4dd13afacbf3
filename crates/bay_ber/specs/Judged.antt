-- Verdicts of layers: each layer judges the value that the layer before it read, and the first
-- layer that refuses determines the fault.
use Rattle.std.specs.Prelude.{◌≡◌, ◌⊎◌, Option, Some, None, Result, Ok, Err}
use Rattle.bay_base.specs.Results.{◌>>=◌ as ◌>>◌}
use Rattle.bay_ber.specs.Forms.{Form}

-- ---- own: verdicts of layers

-- a layer's result, and two relations: the values that the input spells, and the faults with which
-- it is refused
pub record Verdict (A E : Type 0) : Type 1 where
  pub result : Result A E
  pub Spells : A → Type 0
  pub Refuses : E → Type 0

-- the value, or this fault if there is none
abbrev pub or_fault : {A E : Type 0} → E → Option A → Result A E
or_fault fault (Some x) = Ok x
or_fault fault None = Err fault

-- the verdict of a form: an input that spells nothing is refused with this fault
abbrev pub form_verdict : {S A E : Type 0} → E → Form S A → S → Verdict A E
form_verdict fault f s = record {
  result = or_fault fault (f.reads s);
  Spells = f.Spells s;
  Refuses = λ e. (e ≡ fault) × ((x : _) → f.Spells s x → ⊥);
}

-- the verdict of a test with this result
abbrev pub verdict_of : {A E : Type 0} → Result A E → Verdict A E
verdict_of r = record { result = r; Spells = λ x. r ≡ Ok x; Refuses = λ e. r ≡ Err e }

infixl 10 ◌>>=◌
-- one layer, followed by the next, which judges the value that the first read
abbrev pub ◌>>=◌ : {A B E : Type 0} → Verdict A E → (A → Verdict B E) → Verdict B E
◌>>=◌ {A} layer next = record {
  result = layer.result >> λ x. (next x).result;
  Spells = λ y. (x : A) × layer.Spells x × (next x).Spells y;
  Refuses = λ e. layer.Refuses e ⊎ ((x : A) × layer.Spells x × (next x).Refuses e);
}
