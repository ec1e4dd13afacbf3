-- The keys of a section of a bay file: which values each may have, and the first refusal of a table
-- with such keys.
use Rattle.std.specs.Prelude.{ℕ, ℤ, pos, negsuc, Bool, false, not, ◌&&◌, ◌||◌, nat_le, nat_lt, List, [], ◌∷◌, length, map, Option, None, Some, option_map, option_and_then, unwrap_or, if◌then◌else◌}
use Rattle.std.specs.Char.{is_ascii_alphabetic, is_ascii_alphanumeric}
use Rattle.std.specs.Int.{is_in_range}
use Rattle.std.specs.List.{list_all, list_any}
use Rattle.std.specs.Str.{bytes_eq}
use Rattle.toml.specs.Data.{Data, Members, no_members, member, get_member, as_str, as_integer}
use Rattle.bay_config.specs.declared.fault.BayFault.{BayFault}
use Rattle.bay_config.specs.declared.fault.BayFault.TheVariants.{MissingKey, UnknownKey, BadValue}

-- the form of a value
pub data Form : Type 0 where
  -- a letter, then letters, digits and `_`; at most this number of characters
  identifier : ℕ → Form
  -- 1 to 64 characters from space to `~`
  description : Form
  -- an integer from the first number to the second
  number : ℕ → ℕ → Form
  -- an integer of at most this magnitude
  power : ℕ → Form
  -- one of these words
  word : List (List ℕ) → Form
  -- a value of this form, or no value
  optional : Form → Form

-- a key of a table, and the form of its value
pub record Key : Type 0 where
  pub name : List ℕ
  pub form : Form

-- the text is in the list
abbrev pub is_among : List (List ℕ) → List ℕ → Bool
is_among texts s = list_any (λ t. bytes_eq s t) texts

-- whether a text begins with an ASCII letter
abbrev pub begins_with_letter : List ℕ → Bool
begins_with_letter [] = false
begins_with_letter (c ∷ cs) = is_ascii_alphabetic c

-- a letter, a digit or `_`
abbrev pub is_name_character : ℕ → Bool
is_name_character c = is_ascii_alphanumeric c || is_in_range 95 95 c

-- a letter, then letters, digits and `_`; at most `most` characters
abbrev pub is_identifier : ℕ → List ℕ → Bool
is_identifier most s =
    (begins_with_letter s && list_all is_name_character s) && nat_le (length s) most

-- 1 to 64 characters from space to `~`
abbrev pub is_description : List ℕ → Bool
is_description s = (nat_le 1 (length s) && nat_le (length s) 64) && list_all (is_in_range 32 126) s

-- an integer from `least` to `most`
abbrev pub is_within : ℕ → ℕ → ℤ → Bool
is_within least most (pos n) = nat_le least n && nat_le n most
is_within least most (negsuc n) = false

-- an integer from `-most` to `most`
abbrev pub is_power : ℕ → ℤ → Bool
is_power most (pos n) = nat_le n most
is_power most (negsuc n) = nat_lt n most

-- there is a value, and it passes the test
abbrev pub passes : {T : Type 0} → (T → Bool) → Option T → Bool
passes test None = false
passes test (Some x) = test x

-- the value has the form
abbrev pub accepts : Form → Data → Bool
accepts (identifier most) d = passes (is_identifier most) (as_str d)
accepts description d = passes is_description (as_str d)
accepts (number least most) d = passes (is_within least most) (as_integer d)
accepts (power most) d = passes (is_power most) (as_integer d)
accepts (word words) d = passes (is_among words) (as_str d)
accepts (optional form) d = accepts form d

-- the refusal of a missing value
abbrev pub missing_refusal : Form → Option BayFault
missing_refusal (identifier most) = Some MissingKey
missing_refusal description = Some MissingKey
missing_refusal (number least most) = Some MissingKey
missing_refusal (power most) = Some MissingKey
missing_refusal (word words) = Some MissingKey
missing_refusal (optional form) = None

-- the refusal of the value at a key, or of a missing value
abbrev pub value_refusal : Form → Option Data → Option BayFault
value_refusal form None = missing_refusal form
value_refusal form (Some d) = if accepts form d then None else Some BadValue

-- the refusal of a key of a table
abbrev pub key_refusal : Members → Key → Option BayFault
key_refusal table key = value_refusal key.form (get_member key.name table)

-- a check that refuses if its test is true
abbrev pub refused_if : Bool → BayFault → Option BayFault
refused_if test fault = if test then Some fault else None

-- the first refusal of a list of checks
abbrev pub first_fault : List (Option BayFault) → Option BayFault
first_fault [] = None
first_fault (None ∷ checks) = first_fault checks
first_fault (Some fault ∷ checks) = Some fault

-- some key of the table is not one of the known keys
abbrev pub has_unknown : List (List ℕ) → Members → Bool
has_unknown known no_members = false
has_unknown known (member key d rest) = not (is_among known key) || has_unknown known rest

-- the refusal of a table with a key that is not known
abbrev pub unknown_refusal : List (List ℕ) → Members → Option BayFault
unknown_refusal known table = if has_unknown known table then Some UnknownKey else None

-- the first refusal of a table with these keys: an unknown key, then key by key
abbrev pub entry_refusal : List Key → Members → Option BayFault
entry_refusal keys table =
    first_fault (unknown_refusal (map (λ key. key.name) keys) table ∷ map (key_refusal table) keys)

-- the text at a key; empty if there is none
abbrev pub text_in : Members → List ℕ → List ℕ
text_in table name = unwrap_or (option_and_then as_str (get_member name table)) []

-- an integer as a natural number; 0 if it is negative
abbrev pub natural : ℤ → ℕ
natural (pos n) = n
natural (negsuc n) = 0

-- the number at a key; 0 if there is none
abbrev pub number_in : Members → List ℕ → ℕ
number_in table name =
    unwrap_or (option_map natural (option_and_then as_integer (get_member name table))) 0

-- the value that a list of pairs assigns to a word
abbrev pub value_named : {T : Type 0} → List (List ℕ × T) → List ℕ → Option T
value_named [] s = None
value_named (e ∷ es) s = if bytes_eq s e.0 then Some e.1 else value_named es s
