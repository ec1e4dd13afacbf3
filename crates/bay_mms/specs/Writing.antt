-- The results of calls that write.
use Rattle.std.specs.Prelude.{ℕ, ◌≡◌, ◌<◌, true, false, Option, Some, None, is_none, List, [], ◌++◌, length, Result, Ok, Err}
use Rattle.bay_ber.specs.EncoderBuffers.{EncoderBuffer, empty_buffer, text_within_limit}
use Rattle.bay_mms.specs.declared.fault.EncodeFault.{EncodeFault}
use Rattle.bay_mms.specs.declared.fault.EncodeFault.TheVariants.{TooLong, OutOfMemory}

-- ---- own: the results of calls that write

-- the text, or `TooLong` if there is none
abbrev pub or_too_long : Option (List ℕ) → Result (List ℕ) EncodeFault
or_too_long None = Err TooLong
or_too_long (Some text) = Ok text

-- the text, if it has at most `size` octets
abbrev pub text_within : ℕ → List ℕ → Result (List ℕ) EncodeFault
text_within size text = or_too_long (text_within_limit size text)

-- The text was appended; or the octets with the text would be more than the size; or an allocation
-- failed.
abbrev pub AppendsWithin : ℕ → List ℕ → Result (Unit {0}) EncodeFault → List ℕ → List ℕ → Type 0
AppendsWithin size old (Ok done) new text = new ≡ old ++ text
AppendsWithin size old (Err TooLong) new text = size < length (old ++ text)
AppendsWithin size old (Err OutOfMemory) new text = Unit {0}

-- ---- own: the results in a writer

-- the octets of the results, and the most octets of the whole response
pub record Results : Type 0 where
  pub size : ℕ
  pub octets : List ℕ

-- no results yet
abbrev pub no_results : ℕ → Results
no_results size = record { size = size; octets = [] }

-- the octets of a text, or none
abbrev pub octets_in : Option (List ℕ) → List ℕ
octets_in None = []
octets_in (Some text) = text

-- the results in a writer
abbrev pub results_of : EncoderBuffer → Results
results_of buffer = record { size = buffer.limit; octets = octets_in buffer.text }

-- A writer has results: it has no headers and is not over its limit.
pub record HoldsResults (buffer : EncoderBuffer) : Type 0 where
  pub none : buffer.headers ≡ []
  pub held : is_none buffer.text ≡ false

-- A writer that is not over its limit does not change; else it is cleared, with `TooLong`.
abbrev pub ChecksLimit : EncoderBuffer → Result (Unit {0}) EncodeFault → EncoderBuffer → Type 0
ChecksLimit old (Ok done) new = (is_none old.text ≡ false) × (new ≡ old)
ChecksLimit old (Err TooLong) new = (is_none old.text ≡ true) × (new ≡ empty_buffer old.limit)
ChecksLimit old (Err OutOfMemory) new = ⊥
