-- Session protocol data units (X.225 8): an identifier, a length, and parameters, which are encoded
-- the same way.
use Rattle.std.specs.Prelude.{ℕ, zero, suc, ◌≡◌, ◌≢◌, ◌⊎◌, ◌+◌, ◌*◌, ◌==◌, ◌&&◌, Bool, false, List, [], ◌∷◌, ◌++◌, length, take, drop, filter, Option, Some, None, option_map, nat_lt, if◌then◌else◌}
use Rattle.bay_base.specs.Options.{◌>>=◌}
use Rattle.bay_ber.specs.Forms.{Form, map_form, try_map_form}

-- ---- X.225 8.2: units

-- an identifier and the octets that the length after it counts: an SPDU, a parameter or a group of
-- parameters
pub record Unit : Type 0 where
  pub identifier : ℕ
  pub content : List ℕ

-- ---- X.225 8.2: how units are read

-- a length after its first octet 255: two octets, the higher first (X.225 8.2.5)
abbrev pub long_size : List ℕ → Option (ℕ × List ℕ)
long_size (high ∷ low ∷ octets) = Some (high * 256 + low, octets)
long_size octets = None

-- a length, and the octets after it (X.225 8.2.5)
unfoldable pub size_at : List ℕ → Option (ℕ × List ℕ)
size_at [] = None
size_at (first ∷ octets) = if first == 255 then long_size octets else Some (first, octets)

-- the octets that a length counts, and those after them
unfoldable pub content_at : List ℕ → Option (List ℕ × List ℕ)
content_at octets =
    size_at octets >>= λ size. if nat_lt (length size.1) size.0 then None
    else Some (take size.0 size.1, drop size.0 size.1)

-- a unit, and the octets after it
unfoldable pub unit_at : List ℕ → Option (Unit × List ℕ)
unit_at [] = None
unit_at (identifier ∷ octets) =
    content_at octets >>= λ counted. Some
    (record { identifier = identifier; content = counted.0 }, counted.1)

-- units before others, if there are others (None stays None) (own)
abbrev pub prepend_units : List Unit → Option (List Unit) → Option (List Unit)
prepend_units front = option_map (λ units. front ++ units)

-- a unit before those in the rest, if the rest are units (own)
abbrev pub with_unit_first : Option (Unit × List ℕ) → (List ℕ → Option (List Unit))
    → Option (List Unit)
with_unit_first (Some first) rest = prepend_units (first.0 ∷ []) (rest first.1)
with_unit_first None rest = None

-- the units that octets encode, if there are at most `most`
unfoldable pub units_within : ℕ → List ℕ → Option (List Unit)
units_within most [] = Some []
units_within zero (octet ∷ octets) = None
units_within (suc most) (octet ∷ octets) =
    with_unit_first (unit_at (octet ∷ octets)) (units_within most)

-- the units that the octets encode, one after another; a unit has at least two octets, so there are
-- fewer units than octets
unfoldable pub units_in : List ℕ → Option (List Unit)
units_in octets = units_within (length octets) octets

-- ---- X.225 8.2: how units are encoded

-- A length is one octet other than 255, or 255 and two octets, the higher first (X.225 8.2.5).
abbrev pub IsSize : List ℕ → ℕ → Type 0
IsSize (first ∷ []) n = (first ≢ 255) × (n ≡ first)
IsSize (first ∷ high ∷ low ∷ []) n = (first ≡ 255) × (n ≡ high * 256 + low)
IsSize octets n = ⊥

-- The octets are a unit (its identifier, a length, and the octets that it counts), followed by the
-- rest.
pub record BeginsWithUnit (octets : List ℕ) (u : Unit) (rest : List ℕ) : Type 0 where
  pub size : List ℕ
  pub is : octets ≡ u.identifier ∷ (size ++ (u.content ++ rest))
  pub sized : IsSize size (length u.content)

-- The octets are the encodings of these units, one after another, and nothing else.
abbrev pub SpellUnits : List ℕ → List Unit → Type 0
SpellUnits octets [] = octets ≡ []
SpellUnits octets (u ∷ units) =
    (rest : List ℕ) × BeginsWithUnit octets u rest × SpellUnits rest units

-- ---- own: forms of units

-- consecutive units
abbrev pub units : Form (List ℕ) (List Unit)
units = record { reads = units_in; Spells = SpellUnits }

-- the unit, if no octets follow it
abbrev pub only_unit : Unit → List ℕ → Option Unit
only_unit u [] = Some u
only_unit u (octet ∷ octets) = None

-- one unit
abbrev pub one_unit : Form (List ℕ) Unit
one_unit = record {
  reads = λ octets. unit_at octets >>= λ x. only_unit x.0 x.1;
  Spells = λ octets u. BeginsWithUnit octets u [];
}

-- a unit with this identifier and a content of one form, or a unit with any other identifier, of
-- another form
abbrev pub unit_choice : {A : Type 0} → ℕ → Form (List ℕ) A → Form Unit A → Form Unit A
unit_choice identifier f g = record {
  reads = λ u. if u.identifier == identifier then f.reads u.content else g.reads u;
  Spells = λ u x. ((u.identifier ≡ identifier) × f.Spells u.content x)
      ⊎ ((u.identifier ≢ identifier) × g.Spells u x);
}

-- a form that no unit has
abbrev pub no_unit : {A : Type 0} → Form Unit A
no_unit = record { reads = λ u. None; Spells = λ u x. ⊥ }

-- the form g of the value that f reads
abbrev pub compose_forms : {S A B : Type 0} → Form S A → Form A B → Form S B
compose_forms {A = A} f g = record {
  reads = λ s. f.reads s >>= g.reads;
  Spells = λ s y. (x : A) × f.Spells s x × g.Spells x y;
}

-- ---- X.225 8.3: user data

-- whether a parameter is user data, of the code C1 (X.225 8.3.1)
abbrev pub is_user_data : Unit → Bool
is_user_data u = u.identifier == 0xC1

-- the user data among parameters: none, one, or more than one (own)
pub data UserDataView : Type 0 where
  missing : UserDataView
  once : List ℕ → UserDataView
  several : UserDataView

-- the user data, from the units that are user data (own)
abbrev pub user_data_of : List Unit → UserDataView
user_data_of [] = missing
user_data_of (u ∷ []) = once u.content
user_data_of (u ∷ v ∷ us) = several

-- parameters, of which only the user data are read
unfoldable pub parameters : Form (List ℕ) UserDataView
parameters = map_form (λ us. user_data_of (filter is_user_data us)) units

-- ---- X.225 8.3: SPDUs

-- an SPDU: CONNECT (CN) with its user data, ACCEPT (AC), FINISH (FN) with its user data if there
-- are any, DISCONNECT (DN), ABORT (AB), or DATA TRANSFER (DT) after a GIVE TOKENS, with its user
-- data
pub data Spdu : Type 0 where
  connect : List ℕ → Spdu
  accept : Spdu
  finish : Option (List ℕ) → Spdu
  disconnect : Spdu
  abort : Spdu
  transfer : List ℕ → Spdu

-- the CONNECT with these user data, which must occur once
abbrev pub connect_of : UserDataView → Option Spdu
connect_of missing = None
connect_of (once user) = Some (connect user)
connect_of several = None

-- the FINISH with these user data, which must occur at most once
abbrev pub finish_of : UserDataView → Option Spdu
finish_of missing = Some (finish None)
finish_of (once user) = Some (finish (Some user))
finish_of several = None

-- the SPDU of a unit, by its identifier (X.225 8.3): a CONNECT, a FINISH, or, with any parameters,
-- an ACCEPT, a DISCONNECT or an ABORT
unfoldable pub by_identifier : Form Unit Spdu
by_identifier =
    unit_choice 0x0D (try_map_form connect_of parameters)
    (unit_choice 0x09 (try_map_form finish_of parameters)
    (unit_choice 0x0E (map_form (λ x. accept) parameters)
    (unit_choice 0x0A (map_form (λ x. disconnect) parameters)
    (unit_choice 0x19 (map_form (λ x. abort) parameters) no_unit))))

-- whether octets begin with an empty GIVE TOKENS and the header of a DATA TRANSFER: 01 00 01 00
abbrev pub is_transfer : List ℕ → Bool
is_transfer (a ∷ b ∷ c ∷ d ∷ user) = (a == 1) && ((b == 0) && ((c == 1) && (d == 0)))
is_transfer octets = false

-- the SPDU in a TSDU; all octets after the header of a DATA TRANSFER are user data
unfoldable pub spdu : Form (List ℕ) Spdu
spdu = record {
  reads = λ octets. if is_transfer octets then Some (transfer (drop 4 octets))
      else (compose_forms one_unit by_identifier).reads octets;
  Spells = λ octets s. ((user : List ℕ) × (octets ≡ 1 ∷ 0 ∷ 1 ∷ 0 ∷ user) × (transfer user ≡ s))
      ⊎ ((is_transfer octets ≡ false) × (compose_forms one_unit by_identifier).Spells octets s);
}

-- the SPDU that a TSDU is read as (own)
abbrev pub spdu_in : List ℕ → Option Spdu
spdu_in octets = spdu.reads octets
