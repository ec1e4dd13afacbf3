-- The meaning of a TSDU for an association, and the phase after it.
use Rattle.std.specs.Prelude.{ℕ, ℤ, pos, negsuc, ◌==◌, Bool, false, min, List, [], ◌∷◌, find, Option, Some, None, option_map, Result, Ok, Err, if◌then◌else◌}
use Rattle.bay_base.specs.Options.{◌>>=◌ as ◌>>◌}
use Rattle.bay_ber.specs.Judged.{Verdict, or_fault, form_verdict, verdict_of, ◌>>=◌}
use Rattle.bay_mms_initiate.specs.declared.initiate.Proposal.{Proposal}
use Rattle.bay_mms_initiate.specs.declared.initiate.AgreedLimits.{AgreedLimits}
use Rattle.bay_mms_initiate.specs.Initiate.{initiate}
use Rattle.bay_mms_initiate.specs.InitiateResponse.{initiate_response_text}
use Rattle.bay_mms_initiate.specs.Sizes.{agreed_size}
use Rattle.bay_assoc.specs.declared.fault.AssocFault.{AssocFault}
use Rattle.bay_assoc.specs.declared.fault.AssocFault.TheVariants as fault
use Rattle.bay_assoc.specs.declared.presentation.Context.{Context}
use Rattle.bay_assoc.specs.declared.receive.ContextIds.{ContextIds}
use Rattle.bay_assoc.specs.declared.receive.AssociationTerms.{AssociationTerms}
use Rattle.bay_assoc.specs.declared.receive.Phase.{Phase}
use Rattle.bay_assoc.specs.declared.receive.Phase.TheVariants.{Idle, Open, Over, Failed}
use Rattle.bay_assoc.specs.Session.{Spdu, connect, finish, abort, transfer, spdu}
use Rattle.bay_assoc.specs.Presentation.{ValueInContext, Connect, user_data, request}
use Rattle.bay_assoc.specs.Acse.{associate, release}
use Rattle.bay_assoc.specs.Texts.{accept_text, disconnect_text, user_text, cpa_text, aare_text, rlre_text}

-- ---- own: the meaning of a TSDU

-- the meaning of a TSDU: a request for an association, with its answer; an MMS PDU; a request for a
-- release, with its answer; or an abort
pub data TsduMeaning : Type 0 where
  answer : List ℕ → TsduMeaning
  mms : List ℕ → TsduMeaning
  released : List ℕ → TsduMeaning
  aborted : TsduMeaning

-- ---- own: accepted contexts

-- whether a number that was read is this identifier of a context
abbrev pub is_id : ℤ → ℕ → Bool
is_id (pos n) id = n == id
is_id (negsuc n) id = false

-- the first context that offers ACSE with the Basic Encoding Rules
abbrev pub acse_of : List Context → Option ℕ
acse_of contexts = option_map (λ c. c.id) (find (λ c. c.is_acse) contexts)

-- the first context that offers MMS with the Basic Encoding Rules
abbrev pub mms_of : List Context → Option ℕ
mms_of contexts = option_map (λ c. c.id) (find (λ c. c.is_mms) contexts)

-- the first context of each, if both are offered
unfoldable pub accepted_ids : List Context → Option ContextIds
accepted_ids contexts =
    acse_of contexts >> λ first. mms_of contexts >> λ second.
    Some (record { acse = first; mms = second })

-- a value that must be in the context of ACSE; one in the context of MMS is no APDU of ACSE, and
-- any other context was not accepted
abbrev pub acse_value : ContextIds → ValueInContext → Result (List ℕ) AssocFault
acse_value a c =
    if is_id c.id a.acse then Ok c.value
    else (if is_id c.id a.mms then Err fault.BadAcse else Err fault.NoContext)

-- a value that must be in the context of MMS; one in the context of ACSE is refused as BadAcse, and
-- any other context was not accepted
abbrev pub mms_value : ContextIds → ValueInContext → Result (List ℕ) AssocFault
mms_value a c =
    if is_id c.id a.mms then Ok c.value
    else (if is_id c.id a.acse then Err fault.BadAcse else Err fault.NoContext)

-- ---- ISO 9506-2 InitiateResponsePDU: the agreed limits

-- the agreed number of outstanding requests: the proposed one, at most 5
abbrev pub outstanding_of : ℤ → ℕ
outstanding_of (pos n) = min n 5
outstanding_of (negsuc n) = 0

-- the agreed nesting of data: the proposed one, at most 10
abbrev pub nesting_of : ℤ → ℤ
nesting_of (pos n) = pos (min n 10)
nesting_of (negsuc n) = negsuc n

-- the agreed limits of a proposal, if its size is large enough
abbrev pub agreed_limits : Proposal → Option AgreedLimits
agreed_limits p = agreed_size p.size >> λ size. Some (record {
  size = size;
  calling = outstanding_of p.calling;
  called = outstanding_of p.called;
  nesting = option_map nesting_of p.nesting;
  parameters = p.parameters;
})

-- the TSDU that answers a request (own)
abbrev pub answer_text : Connect → ContextIds → AgreedLimits → List ℕ
answer_text c a agreed =
    accept_text (cpa_text c.called c.contexts a (aare_text a.mms (initiate_response_text agreed)))

-- ---- own: layer by layer

-- The accepted contexts and the agreed limits, from the contexts and the user data of a request for
-- a connection: the user data carry, in the context of ACSE, a request for an association, and this
-- carries, in the context of MMS, an initiate.
unfoldable pub agreement : List Context → ValueInContext
    → Verdict (ContextIds × AgreedLimits) AssocFault
agreement contexts user = do
  a ← verdict_of (or_fault fault.NoContext (accepted_ids contexts))
  value ← verdict_of (acse_value a user)
  information ← form_verdict fault.BadAcse associate value
  pdu ← verdict_of (mms_value a information)
  proposal ← form_verdict fault.BadAcse initiate pdu
  agreed ← verdict_of (or_fault fault.PduSizeTooSmall (agreed_limits proposal))
  verdict_of (Ok (a, agreed))

-- a request for a connection (X.225, CN)
unfoldable pub connection_request : List ℕ → Verdict (TsduMeaning × Phase) AssocFault
connection_request user = do
  r ← form_verdict fault.BadPresentation request user
  x ← agreement r.contexts r.user
  verdict_of
      (Ok (answer (answer_text r x.0 x.1), Open (record { contexts = x.0; size = x.1.size })))

-- a release: without user data, or with a request for it in the context of ACSE (X.225, FN)
unfoldable pub release_request : AssociationTerms → Option (List ℕ)
    → Verdict (TsduMeaning × Phase) AssocFault
release_request terms None = verdict_of (Ok (released (0x0A ∷ 0 ∷ []), Over))
release_request terms (Some user) = do
  c ← form_verdict fault.BadPresentation user_data user
  value ← verdict_of (acse_value terms.contexts c)
  content ← form_verdict fault.BadAcse release value
  verdict_of (Ok (released (disconnect_text (user_text terms.contexts.acse rlre_text)), Over))

-- data: a PDU in the context of MMS (X.225, DT)
unfoldable pub data_transfer : AssociationTerms → List ℕ → Verdict (TsduMeaning × Phase) AssocFault
data_transfer terms user = do
  c ← form_verdict fault.BadPresentation user_data user
  pdu ← verdict_of (mms_value terms.contexts c)
  verdict_of (Ok (mms pdu, Open terms))

-- before the association: a request for one, or an abort
abbrev pub idle_meaning : Spdu → Verdict (TsduMeaning × Phase) AssocFault
idle_meaning (connect user) = connection_request user
idle_meaning abort = verdict_of (Ok (aborted, Over))
idle_meaning s = verdict_of (Err fault.OutOfPhase)

-- in an open association: data, a request for a release, or an abort
abbrev pub open_meaning : AssociationTerms → Spdu → Verdict (TsduMeaning × Phase) AssocFault
open_meaning terms (finish user) = release_request terms user
open_meaning terms abort = verdict_of (Ok (aborted, Over))
open_meaning terms (transfer user) = data_transfer terms user
open_meaning terms s = verdict_of (Err fault.OutOfPhase)

-- The meaning of a TSDU in a phase, and the phase after it; or the fault of its outermost wrongly
-- encoded layer. After an end or a fault, every TSDU is refused.
unfoldable pub verdict : Phase → List ℕ → Verdict (TsduMeaning × Phase) AssocFault
verdict Idle octets = form_verdict fault.BadSession spdu octets >>= idle_meaning
verdict (Open terms) octets = form_verdict fault.BadSession spdu octets >>= open_meaning terms
verdict Over octets = verdict_of (Err fault.OutOfPhase)
verdict Failed octets = verdict_of (Err fault.Failed)

-- the meaning of a TSDU and the phase after it, or its fault
abbrev pub tsdu_meaning : Phase → List ℕ → Result (TsduMeaning × Phase) AssocFault
tsdu_meaning phase octets = (verdict phase octets).result
