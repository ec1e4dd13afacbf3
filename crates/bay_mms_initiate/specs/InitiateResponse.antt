-- The answer to the request that opens an association (ISO 9506-2, InitiateResponsePDU).
use Rattle.std.specs.Prelude.{ℕ, ℤ, pos, ◌*◌, ◌/◌, Option, Some, None, List, [], ◌∷◌, ◌++◌}
use Rattle.bay_ber.specs.Tags.{context, constructed}
use Rattle.bay_ber.specs.Writing.{element, integer_octets, bit_string_octets}
use Rattle.bay_mms_initiate.specs.declared.initiate.AgreedLimits.{AgreedLimits}

-- the deepest nesting of data, if it was proposed
abbrev pub nesting_text : Option ℤ → List ℕ
nesting_text None = []
nesting_text (Some nesting) = element (context 3) (integer_octets nesting)

-- the size of a PDU, the outstanding requests of both sides, and the nesting
abbrev pub limits_text : AgreedLimits → List ℕ
limits_text a =
    element (context 0) (integer_octets (pos a.size))
    ++ (element (context 1) (integer_octets (pos a.calling))
    ++ (element (context 2) (integer_octets (pos a.called)) ++ nesting_text a.nesting))

-- the first three parameter conformance blocks, of eleven
abbrev pub parameters_text : ℕ → List ℕ
parameters_text parameters =
    element (context 1) (bit_string_octets (parameters / 32 * 32 ∷ 0 ∷ []) 11)

-- the supported services, of 85: getNameList, identify, read, write, getVariableAccessAttributes,
-- informationReport and conclude (ISO 9506-2, ServiceSupportOptions)
abbrev pub services_text : List ℕ
services_text =
    element (context 2) (bit_string_octets (0x6E ∷ 0 ∷ 0 ∷ 0 ∷ 0 ∷ 0 ∷ 0 ∷ 0 ∷ 0 ∷ 0x01 ∷ 0x10 ∷ [])
    85)

-- the version 1, the parameters and the services
abbrev pub detail_text : ℕ → List ℕ
detail_text parameters =
    element (context 0) (integer_octets (pos 1)) ++ (parameters_text parameters ++ services_text)

-- the answer to an initiate
abbrev pub initiate_response_text : AgreedLimits → List ℕ
initiate_response_text a =
    element (constructed 9) (limits_text a ++ element (constructed 4) (detail_text a.parameters))
