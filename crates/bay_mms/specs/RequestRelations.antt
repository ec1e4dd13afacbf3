-- The request that octets encode: a relation between a request and octets (ISO 9506-2, with the
-- profile of IEC 61850-8-1).
use Rattle.std.specs.Prelude.{ℕ, List, Option, Some, None, Ok, Err}
use Rattle.bay_mms.specs.Requests.{MmsRequest, unknown, many}
use Rattle.bay_mms.specs.Grammar.{request, leading_id}

-- ---- own: the requests that octets encode

-- The octets encode the request (ISO 9506-2, MMSpdu).
abbrev pub Asks : MmsRequest → List ℕ → Type 0
Asks message octets = request.Spells octets (Ok message)

-- The octets encode a request, with this invoke id, for something that is not served.
abbrev pub AsksUnknown : ℕ → List ℕ → Type 0
AsksUnknown id octets = request.Spells octets (Err (unknown id))

-- The octets encode a request, with this invoke id, for more than 32 variables.
abbrev pub AsksMany : ℕ → List ℕ → Type 0
AsksMany id octets = request.Spells octets (Err (many id))

-- The octets begin with this invoke id, or with none that can be read.
abbrev pub IsIdOf : List ℕ → Option ℕ → Type 0
IsIdOf octets None = (id : ℕ) → leading_id.Spells octets id → ⊥
IsIdOf octets (Some id) = leading_id.Spells octets id

-- The octets encode none of these requests; `known` is the invoke id that they begin with, if any.
pub record AsksNothing (octets : List ℕ) (known : Option ℕ) : Type 0 where
  pub no_request : (message : MmsRequest) → Asks message octets → ⊥
  pub not_unknown : (id : ℕ) → AsksUnknown id octets → ⊥
  pub not_many : (id : ℕ) → AsksMany id octets → ⊥
  pub id : IsIdOf octets known
