-- The buffer of a writer, as a value.
use Rattle.std.specs.Prelude.{ℕ, ◌≡◌, ◌+◌, ◌-◌, ◌^◌, ◌<◌, ◌≤◌, Bool, true, false, List, [], ◌∷◌, ◌++◌, length, take, drop, get_or, nat_lt, if◌then◌else◌, Option, Some, None}
use Rattle.bay_base.specs.Options.{◌>>=◌}
use Rattle.bay_ber.specs.declared.tag.Tag.{Tag}
use Rattle.bay_ber.specs.Writing.{length_octets, element}

-- ---- own: the buffer of a writer

-- A text of at most `limit` octets, or None if it got longer, and the headers before it, which do
-- not count.
pub record EncoderBuffer : Type 0 where
  pub limit : ℕ
  pub headers : List ℕ
  pub text : Option (List ℕ)

-- a buffer with an empty text and no headers
abbrev pub empty_buffer : ℕ → EncoderBuffer
empty_buffer limit = record { limit = limit; headers = []; text = Some [] }

-- a text, or None if it is longer than the limit
abbrev pub text_within_limit : ℕ → List ℕ → Option (List ℕ)
text_within_limit limit text = if nat_lt limit (length text) then None else Some text

-- a text with octets appended, or None if it gets longer than the limit
abbrev pub text_with : ℕ → Option (List ℕ) → List ℕ → Option (List ℕ)
text_with limit None octets = None
text_with limit (Some text) octets =
    if nat_lt (limit - length text) (length octets) then None else Some (text ++ octets)

-- the buffer with octets appended to its text
unfoldable pub buffer_with : EncoderBuffer → List ℕ → EncoderBuffer
buffer_with buffer octets =
    record {
      limit = buffer.limit;
      headers = buffer.headers;
      text = text_with buffer.limit buffer.text octets;
    }

-- a value: a tag's octet, the shortest length, and the content
unfoldable pub short_value : ℕ → List ℕ → List ℕ
short_value octet content = octet ∷ (length_octets (length content) ++ content)

-- the text with the octets after position `start + 2` as the content of the value whose tag octet
-- is at `start`; None if that is longer than the limit
abbrev pub wrap_as_value : ℕ → Option (List ℕ) → ℕ → Option (List ℕ)
wrap_as_value limit None start = None
wrap_as_value limit (Some text) start =
    text_within_limit limit (take start text
    ++ short_value (get_or text start 0) (drop (start + 2) text))

-- the buffer with the value at `start` closed: all octets after its tag and the placeholder of its
-- length become its content
unfoldable pub close_value : EncoderBuffer → ℕ → EncoderBuffer
close_value buffer start =
    record {
      limit = buffer.limit;
      headers = buffer.headers;
      text = wrap_as_value buffer.limit buffer.text start;
    }

-- the position is the length of the text, if there is one
abbrev pub IsTextLength : ℕ → Option (List ℕ) → Type 0
IsTextLength position None = Unit {0}
IsTextLength position (Some text) = position ≡ length text

-- the position is the end of the text, if there is one
unfoldable pub IsTextEnd : ℕ → EncoderBuffer → Type 0
IsTextEnd position buffer = IsTextLength position buffer.text

-- the text, if there is one, has two octets at the position
abbrev pub HasTwoAt : ℕ → Option (List ℕ) → Type 0
HasTwoAt position None = Unit {0}
HasTwoAt position (Some text) = position + 2 ≤ length text

-- the text, if there is one, has room at the position for a tag and the placeholder of the length
unfoldable pub IsOpen : ℕ → EncoderBuffer → Type 0
IsOpen position buffer = HasTwoAt position buffer.text

-- the text after the headers, if there is one
abbrev pub with_headers : List ℕ → Option (List ℕ) → Option (List ℕ)
with_headers headers None = None
with_headers headers (Some text) = Some (headers ++ text)

-- the message: the headers followed by the text, if there is one
unfoldable pub message : EncoderBuffer → Option (List ℕ)
message buffer = with_headers buffer.headers buffer.text

-- a message as the content of a value, or None if that is longer than the limit
abbrev pub value_around : Tag → ℕ → Option (List ℕ) → Option (List ℕ)
value_around tag limit text = text >>= λ octets. text_within_limit limit (element tag octets)

-- the text, or None if it got too long
abbrev pub text_unless_over : Bool → List ℕ → Option (List ℕ)
text_unless_over true octets = None
text_unless_over false octets = Some octets

-- the view of a writer: the headers are the octets from `first` up to 64, and the text those from
-- 64 on
abbrev pub encoder_buffer_of : ℕ → ℕ → Bool → List ℕ → EncoderBuffer
encoder_buffer_of limit first over octets =
    record {
      limit = limit;
      headers = drop first (take 64 octets);
      text = text_unless_over over (drop 64 octets);
    }

-- The invariant of a writer: 64 octets of headroom, whose octets before `first` are free, followed
-- by a capacity of the limit.
pub record IsSound (count capacity first limit : ℕ) : Type 0 where
  pub headers : first ≤ 64
  pub front : 64 ≤ count
  pub within : count ≤ 64 + limit
  pub room : 64 + limit ≤ capacity
  pub short : limit < 2 ^ 32
