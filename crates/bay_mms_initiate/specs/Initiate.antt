-- The encoding of the request that opens an association (ISO 9506-2, InitiateRequestPDU), as forms.
use Rattle.std.specs.Prelude.{ℕ, zero, suc, ℤ, pos, negsuc, ◌*◌, ◌/◌, Option, Some, None, List, [], ◌∷◌, nat_lt, if◌then◌else◌}
use Rattle.bay_ber.specs.Content.{BitString}
use Rattle.bay_ber.specs.Forms.{Form, map_form, try_map_form, integer, bits, one, fields, fields_with_tags, tagged, done, value_then, maybe}
use Rattle.bay_ber.specs.Tags.{context, constructed}
use Rattle.bay_ber.specs.Values.{Part}
use Rattle.bay_mms_initiate.specs.declared.initiate.Proposal.{Proposal}

-- ---- initRequestDetail

-- the first three bits of octets, if there is an octet
abbrev pub three_bits : List ℕ → Option ℕ
three_bits [] = None
three_bits (first ∷ octets) = Some (first / 32 * 32)

-- the first three bits of a bit string with three or more
abbrev pub parameters_of : BitString → Option ℕ
parameters_of b = if nat_lt b.count 3 then None else three_bits b.octets

-- proposedParameterCBB: the first three parameter conformance blocks
unfoldable pub parameters : Form Part ℕ
parameters = tagged (context 1) (try_map_form parameters_of bits)

-- servicesSupportedCalling
unfoldable pub services : Form Part BitString
services = tagged (context 2) bits

-- proposedVersionNumber, proposedParameterCBB and servicesSupportedCalling
unfoldable pub detail_parts : Form (List Part) (ℤ × (ℕ × (BitString × Unit {0})))
detail_parts =
    value_then (tagged (context 0) integer) (value_then parameters (value_then services done))

-- the three known fields, in their order, with other fields anywhere among them
unfoldable pub detail : Form (List ℕ) ℕ
detail =
    map_form (λ x. x.1.0) (fields_with_tags (context 0 ∷ context 1 ∷ context 2 ∷ []) detail_parts)

-- ---- the request

-- a number that is 1 or more
abbrev pub at_least_one : ℤ → Option ℤ
at_least_one (pos zero) = None
at_least_one (pos (suc n)) = Some (pos (suc n))
at_least_one (negsuc n) = None

-- a number of outstanding requests, 1 or more, with this tag
unfoldable pub outstanding : ℕ → Form Part ℤ
outstanding number = tagged (context number) (try_map_form at_least_one integer)

-- the deepest nesting of data, if proposed, and the parameters of the detail
abbrev pub Nested : Type 0
Nested = Option ℤ × (ℕ × Unit {0})

-- proposedDataStructureNestingLevel, which is optional, and initRequestDetail
unfoldable pub nested_parts : Form (List Part) Nested
nested_parts = maybe (context 3) integer (value_then (tagged (constructed 4) detail) done)

-- proposedMaxServOutstandingCalling and proposedMaxServOutstandingCalled, followed by these
unfoldable pub outstanding_parts : Form (List Part) (ℤ × (ℤ × Nested))
outstanding_parts = value_then (outstanding 1) (value_then (outstanding 2) nested_parts)

-- localDetailCalling, the size of a PDU, which is optional, followed by these
unfoldable pub proposal_parts : Form (List Part) (Option ℤ × (ℤ × (ℤ × Nested)))
proposal_parts = maybe (context 0) integer outstanding_parts

-- the proposal with these values
abbrev pub proposal_from_fields : Option ℤ × (ℤ × (ℤ × Nested)) → Proposal
proposal_from_fields x = record {
  size = x.0;
  calling = x.1.0;
  called = x.1.1.0;
  nesting = x.1.1.1.0;
  parameters = x.1.1.1.1.0;
}

-- the proposal in the content of an initiate
unfoldable pub proposal : Form (List ℕ) Proposal
proposal = map_form proposal_from_fields (fields proposal_parts)

-- InitiateRequestPDU
unfoldable pub initiate : Form (List ℕ) Proposal
initiate = one (tagged (constructed 8) proposal)

-- the proposal that octets are read as, or None
abbrev pub initiate_in : List ℕ → Option Proposal
initiate_in octets = initiate.reads octets

-- The octets encode an initiate with this proposal.
abbrev pub IsInitiate : List ℕ → Proposal → Type 0
IsInitiate octets p = initiate.Spells octets p
