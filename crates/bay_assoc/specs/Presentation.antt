-- How presentation protocol data units are read (ISO 8823-1 8.2): the user data, and the request
-- for a connection (CP).
use Rattle.std.specs.Prelude.{ℕ, ℤ, pos, negsuc, ◌==◌, ◌&&◌, Bool, true, not, List, [], ◌∷◌, length, Option, Some, None, nat_lt, if◌then◌else◌}
use Rattle.std.specs.List.{list_any}
use Rattle.std.specs.Str.{bytes_eq}
use Rattle.bay_ber.specs.Forms.{Form, map_form, try_map_form, integer, octets, any_octets, one, fields, fields_with_tags, each, whole, tagged, done, value_then, maybe, by_first}
use Rattle.bay_ber.specs.Tags.{context, constructed, sequence, int_tag}
use Rattle.bay_ber.specs.Values.{Part}
use Rattle.bay_assoc.specs.Tags.{oid_tag, set_tag, application, acse_syntax, mms_syntax, ber_syntax}
use Rattle.bay_assoc.specs.declared.presentation.Context.{Context}

-- ---- ISO 8823-1 Context-list: the definition of contexts

-- a transfer syntax: whether it is the Basic Encoding Rules
unfoldable pub transfer_syntax : Form Part Bool
transfer_syntax = tagged oid_tag (map_form (λ name. bytes_eq name ber_syntax) octets)

-- transfer syntaxes: whether one of them is the Basic Encoding Rules
unfoldable pub transfer_syntaxes : Form (List ℕ) Bool
transfer_syntaxes = map_form (list_any (λ b. b)) (each transfer_syntax)

-- a number, if it is an identifier of a context: 1 to 32,767
abbrev pub context_id : ℤ → Option ℕ
context_id (pos n) = if nat_lt 0 n && nat_lt n 32768 then Some n else None
context_id (negsuc n) = None

-- a context, from its identifier, its abstract syntax, and whether the Basic Encoding Rules are
-- offered
abbrev pub context_of : ℕ × (List ℕ × (Bool × Unit {0})) → Context
context_of x =
    record {
      id = x.0;
      is_acse = x.1.1.0 && bytes_eq x.1.0 acse_syntax;
      is_mms = x.1.1.0 && bytes_eq x.1.0 mms_syntax;
    }

-- a context's identifier, its abstract syntax, and its transfer syntaxes
unfoldable pub context_parts : Form (List Part) Context
context_parts =
    map_form context_of (value_then (tagged int_tag (try_map_form context_id integer))
    (value_then (tagged oid_tag octets)
    (value_then (tagged sequence transfer_syntaxes) done)))

-- one context of the list
unfoldable pub definition : Form Part Context
definition = tagged sequence (fields context_parts)

-- whether a context has this identifier (own)
abbrev pub has_id : ℕ → List Context → Bool
has_id id contexts = list_any (λ c. c.id == id) contexts

-- whether no two contexts have the same identifier
abbrev pub are_distinct : List Context → Bool
are_distinct [] = true
are_distinct (c ∷ contexts) = not (has_id c.id contexts) && are_distinct contexts

-- the contexts, if there are at most 16, with distinct identifiers (own)
abbrev pub few_contexts : List Context → Option (List Context)
few_contexts contexts =
    if nat_lt 16 (length contexts) then None
    else (if are_distinct contexts then Some contexts else None)

-- the offered contexts
unfoldable pub definition_list : Form (List ℕ) (List Context)
definition_list = try_map_form few_contexts (each definition)

-- ---- ISO 8823-1 User-data: user data

-- a value, and the identifier of its context
pub record ValueInContext : Type 0 where
  pub id : ℤ
  pub value : List ℕ

-- a value and its context, from the parts that were read
abbrev pub context_value_from_fields : Option (Unit {0}) × (ℤ × (List ℕ × Unit {0}))
    → ValueInContext
context_value_from_fields x = record { id = x.1.0; value = x.1.1.0 }

-- The parts of a PDV-list, and of an EXTERNAL (ISO 8823-1, PDV-list; X.690 8.18): an object
-- identifier, which is optional and ignored, a context's identifier, and a value as a single ASN.1
-- type.
unfoldable pub context_value_parts : Form (List Part) ValueInContext
context_value_parts =
    map_form context_value_from_fields (maybe oid_tag any_octets
    (value_then (tagged int_tag integer) (value_then (tagged (constructed 0) octets) done)))

-- a value and its context (ISO 8823-1, PDV-list)
unfoldable pub pdv_list : Form Part ValueInContext
pdv_list = tagged sequence (fields context_value_parts)

-- one value and its context, fully encoded (ISO 8823-1, Fully-encoded-data)
unfoldable pub user_part : Form Part ValueInContext
user_part = tagged (application 1) (one pdv_list)

-- octets that are user data
unfoldable pub user_data : Form (List ℕ) ValueInContext
user_data = one user_part

-- ---- ISO 8823-1 CP-type: the request for a connection

-- the called selector, if present, the contexts, and the user data
pub record Connect : Type 0 where
  pub called : Option (List ℕ)
  pub contexts : List Context
  pub user : ValueInContext

-- a selector, if it has at most 16 octets (own)
abbrev pub selector_of : List ℕ → Option (List ℕ)
selector_of octets = if nat_lt 16 (length octets) then None else Some octets

-- a request, from the parts that were read
abbrev pub connect_from_fields : Option (List ℕ) × (List Context × (ValueInContext × Unit {0}))
    → Connect
connect_from_fields x = record { called = x.0; contexts = x.1.0; user = x.1.1.0 }

-- the called selector, which is optional, the contexts, and the user data
unfoldable pub connect_parts : Form (List Part) Connect
connect_parts =
    map_form connect_from_fields (maybe (context 2) (try_map_form selector_of octets)
    (value_then (tagged (constructed 4) definition_list) (value_then user_part done)))

-- the parts of a request for a connection, after the calling selector, which is optional and
-- ignored
unfoldable pub normal_parts : Form (List Part) Connect
normal_parts = map_form (λ x. x.1) (maybe (context 1) any_octets connect_parts)

-- the parameters of the normal mode, among other fields (normal-mode-parameters)
unfoldable pub normal : Form Part Connect
normal =
    tagged (constructed 2)
    (fields_with_tags (context 1 ∷ context 2 ∷ constructed 4 ∷ application 1 ∷ []) normal_parts)

-- a number, if it is that of the normal mode, 1
abbrev pub mode_of : ℤ → Option ℤ
mode_of (pos n) = if n == 1 then Some (pos n) else None
mode_of (negsuc n) = None

-- the normal mode (ISO 8823-1, Mode-selector)
unfoldable pub mode : Form Part ℤ
mode = tagged (constructed 0) (one (tagged (context 0) (try_map_form mode_of integer)))

-- the normal mode and its parameters, in either order, as in a set
unfoldable pub mode_parts : {A : Type 0} → Form Part A → Form (List Part) A
mode_parts parameters =
    by_first (constructed 0) (map_form (λ x. x.1.0) (value_then mode (value_then parameters done)))
    (map_form (λ x. x.0) (value_then parameters (value_then mode done)))

-- the mode and the parameters, among other fields
unfoldable pub cp : {A : Type 0} → Form Part A → Form (List ℕ) A
cp parameters =
    one (tagged set_tag (fields_with_tags (constructed 0 ∷ constructed 2 ∷ [])
    (mode_parts parameters)))

-- a request for a connection
abbrev pub request : Form (List ℕ) Connect
request = cp normal

-- a request for a connection whose parameters are not read (own)
abbrev pub request_mode : Form (List ℕ) Part
request_mode = cp whole
