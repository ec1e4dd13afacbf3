-- The canonical texts that are sent: the answers, and data (X.225 8.3, ISO 8823-1 8.2, ISO 8650-1
-- 9).
use Rattle.std.specs.Prelude.{ℕ, pos, ◌/◌, ◌%◌, ◌==◌, ◌||◌, List, [], ◌∷◌, ◌++◌, length, Option, Some, None, nat_lt, if◌then◌else◌}
use Rattle.bay_ber.specs.declared.tag.Tag.{Tag}
use Rattle.bay_ber.specs.Writing.{element, integer_octets}
use Rattle.bay_ber.specs.Tags.{context, constructed, sequence, int_tag}
use Rattle.bay_assoc.specs.Tags.{oid_tag, set_tag, external_tag, application, mms_application}
use Rattle.bay_assoc.specs.declared.presentation.Context.{Context}
use Rattle.bay_assoc.specs.declared.receive.ContextIds.{ContextIds}

-- ---- X.225 8.2: session

-- the encoding of a length below 65,536
abbrev pub size_text : ℕ → List ℕ
size_text n = if nat_lt n 255 then n ∷ [] else 255 ∷ n / 256 ∷ n % 256 ∷ []

-- the encoding of an SPDU or a parameter
abbrev pub unit_text : ℕ → List ℕ → List ℕ
unit_text identifier content = identifier ∷ (size_text (length content) ++ content)

-- an ACCEPT: the protocol options without extended concatenation, version 2, and the duplex
-- functional unit; then user data (X.225, AC)
abbrev pub accept_text : List ℕ → List ℕ
accept_text user =
    unit_text 0x0E
    ((0x05 ∷ 0x06 ∷ 0x13 ∷ 0x01 ∷ 0x00 ∷ 0x16 ∷ 0x01 ∷ 0x02 ∷ 0x14 ∷ 0x02 ∷ 0x00 ∷ 0x02 ∷ [])
    ++ unit_text 0xC1 user)

-- a DISCONNECT with user data (X.225, DN)
abbrev pub disconnect_text : List ℕ → List ℕ
disconnect_text user = unit_text 0x0A (unit_text 0xC1 user)

-- user data after an empty GIVE TOKENS and the header of a DATA TRANSFER (X.225, DT)
abbrev pub transfer_text : List ℕ → List ℕ
transfer_text user = 1 ∷ 0 ∷ 1 ∷ 0 ∷ user

-- ---- ISO 8823-1 User-data: presentation

-- a value in a context
abbrev pub context_value_text : Tag → ℕ → List ℕ → List ℕ
context_value_text tag id value =
    element tag (element int_tag (integer_octets (pos id)) ++ element (constructed 0) value)

-- fully encoded user data
abbrev pub user_text : ℕ → List ℕ → List ℕ
user_text id value = element (application 1) (context_value_text sequence id value)

-- ---- ISO 8823-1 Result-list: the results for contexts

-- The result for an offered context: accepted (0) with the Basic Encoding Rules, or rejected by the
-- provider (2).
abbrev pub result_text : ContextIds → Context → List ℕ
result_text a c =
    element sequence (if (c.id == a.acse) || (c.id == a.mms)
    then 0x80 ∷ 0x01 ∷ 0x00 ∷ 0x81 ∷ 0x02 ∷ 0x51 ∷ 0x01 ∷ [] else 0x80 ∷ 0x01 ∷ 0x02 ∷ [])

-- the result for each offered context, one after another
abbrev pub results_text : ContextIds → List Context → List ℕ
results_text a [] = []
results_text a (c ∷ contexts) = result_text a c ++ results_text a contexts

-- ---- ISO 8823-1 CPA-PPDU: the answer to a request for a connection

-- the responding selector, which repeats the called one, if there is one
abbrev pub selector_text : Option (List ℕ) → List ℕ
selector_text None = []
selector_text (Some octets) = element (context 3) octets

-- the answer to a request for a connection (CPA): the normal mode, the selector, the results, and
-- user data
abbrev pub cpa_text : Option (List ℕ) → List Context → ContextIds → List ℕ → List ℕ
cpa_text called contexts a value =
    element set_tag (element (constructed 0) (0x80 ∷ 0x01 ∷ 0x01 ∷ [])
    ++ element (constructed 2)
    (selector_text called ++
    (element (constructed 5) (results_text a contexts) ++ user_text a.acse value)))

-- ---- ISO 8650-1 AARE-apdu: the answer to a request for an association

-- the answer to a request for an association (AARE): the application context, accepted (0), by the
-- service user without a reason, and user information
abbrev pub aare_text : ℕ → List ℕ → List ℕ
aare_text mms pdu =
    element (application 1) (element (constructed 1) (element oid_tag mms_application)
    ++ (element (constructed 2) (0x02 ∷ 0x01 ∷ 0x00 ∷ [])
    ++ (element (constructed 3) (0xA1 ∷ 0x03 ∷ 0x02 ∷ 0x01 ∷ 0x00 ∷ [])
    ++ element (constructed 30) (context_value_text external_tag mms pdu))))

-- ---- ISO 8650-1 RLRE-apdu: the answer to a request for a release

-- the answer to a request for a release (RLRE), with the reason normal (0)
abbrev pub rlre_text : List ℕ
rlre_text = element (application 3) (0x80 ∷ 0x01 ∷ 0x00 ∷ [])
