-- The indications of a client's octets: one for each doing of the stream, in order; a TSDU has the
-- indication of its meaning for the association.
use Rattle.std.specs.Prelude.{ℕ, List, [], ◌∷◌, Option, Some, None, unwrap_or, Result, Ok, Err}
use Rattle.bay_transport.specs.Code.{code_of as transport_code}
use Rattle.bay_transport.specs.Doings.{Doing, Answers, Delivers, Ends, Fails, Stream, doings, after}
use Rattle.bay_transport.specs.Feeding.{size_agreed, end_of_stream}
use Rattle.bay_transport.specs.Wrap.{tpdus_of}
use Rattle.bay_assoc.specs.declared.fault.AssocFault.{AssocFault}
use Rattle.bay_assoc.specs.declared.receive.AssociationTerms.{AssociationTerms}
use Rattle.bay_assoc.specs.declared.receive.Phase.{Phase}
use Rattle.bay_assoc.specs.declared.receive.Phase.TheVariants.{Over}
use Rattle.bay_assoc.specs.Code.{code_of as association_code}
use Rattle.bay_assoc.specs.TsduMeanings.{TsduMeaning, answer, mms, released, aborted, tsdu_meaning}
use Rattle.bay_assoc.specs.Receives.{association_terms}
use Rattle.bay_assoc.specs.Texts.{user_text, transfer_text}

-- the state after some octets: the state of the stream, and the phase of the association
pub record ConnectionState : Type 0 where
  pub stream : Stream
  pub phase : Phase

-- the terms agreed so far: the size of a TPDU, if agreed, and the phase of the association
pub record Terms : Type 0 where
  pub size : Option ℕ
  pub phase : Phase

-- the terms agreed in a state
abbrev pub terms_of : ConnectionState → Terms
terms_of t = record { size = size_agreed t.stream; phase = t.phase }

-- an indication: one thing that octets complete. A request, with the octets that answer it; a PDU
-- of MMS, with the terms on which it can be answered; a request for a release, with the octets that
-- answer it; the end; or a fault, by its number
pub data Indication : Type 0 where
  answers : List ℕ → Indication
  delivers : Terms → List ℕ → Indication
  releases : List ℕ → Indication
  ends : Indication
  fails : ℕ → Indication

-- the indications of octets, and the state after them
pub record ConnectionStep : Type 0 where
  pub indications : List Indication
  pub state : ConnectionState

-- the state of a connection that has ended: later octets have no effect
abbrev pub ended_state : Stream → ConnectionState
ended_state s = record { stream = end_of_stream s; phase = Over }

-- the data TPDUs of a TSDU, if a size is agreed
abbrev pub data_tpdus : Option ℕ → List ℕ → List ℕ
data_tpdus None tsdu = []
data_tpdus (Some size) tsdu = tpdus_of size tsdu

-- the indication of a TSDU with this meaning, followed by the later ones; nothing follows a release
-- or an abort
abbrev pub step_on_tsdu : Stream → TsduMeaning → Terms → ConnectionStep → ConnectionStep
step_on_tsdu s (answer tsdu) terms later =
    record {
      indications = answers (data_tpdus terms.size tsdu) ∷ later.indications;
      state = later.state;
    }
step_on_tsdu s (mms pdu) terms later =
    record { indications = delivers terms pdu ∷ later.indications; state = later.state }
step_on_tsdu s (released tsdu) terms later =
    record { indications = releases (data_tpdus terms.size tsdu) ∷ []; state = ended_state s }
step_on_tsdu s aborted terms later = record { indications = ends ∷ []; state = ended_state s }

-- the indication of a TSDU, from its meaning or its fault, followed by the later ones; nothing
-- follows a fault
abbrev pub step_on_tsdu_result : Option ℕ → Stream → Result (TsduMeaning × Phase) AssocFault
    → (Phase → ConnectionStep)
    → ConnectionStep
step_on_tsdu_result size s (Ok x) later =
    step_on_tsdu s x.0 (record { size = size; phase = x.1 }) (later x.1)
step_on_tsdu_result size s (Err fault) later =
    record { indications = fails (unwrap_or (association_code fault) 0) ∷ []; state = ended_state s }

-- The indications of doings, and the state after them: from the stream after the doings, and the
-- size of TPDUs and the phase before them.
abbrev pub after_doings : Stream → List Doing → Option ℕ → Phase → ConnectionStep
after_doings s [] size phase =
    record { indications = []; state = record { stream = s; phase = phase } }
after_doings s (Answers size_agreed reply ∷ later) size phase =
    record {
      indications = answers reply ∷ (after_doings s later (Some size_agreed) phase).indications;
      state = (after_doings s later (Some size_agreed) phase).state;
    }
after_doings s (Delivers tsdu ∷ later) size phase =
    step_on_tsdu_result size s (tsdu_meaning phase tsdu) (after_doings s later size)
after_doings s (Ends ∷ later) size phase = record { indications = ends ∷ []; state = ended_state s }
after_doings s (Fails fault ∷ later) size phase =
    record { indications = fails (unwrap_or (transport_code fault) 0) ∷ []; state = ended_state s }

-- the indications of octets, and the state after them
abbrev pub connection_step : ConnectionState → List ℕ → ConnectionStep
connection_step t octets =
    after_doings (after t.stream octets) (doings t.stream octets) (size_agreed t.stream) t.phase

-- the indications of octets
abbrev pub indications : ConnectionState → List ℕ → List Indication
indications t octets = (connection_step t octets).indications

-- the state after octets
abbrev pub connection_after : ConnectionState → List ℕ → ConnectionState
connection_after t octets = (connection_step t octets).state

-- the octets to send for a PDU of MMS: a TSDU in the context of MMS, in data TPDUs of the agreed
-- size
abbrev pub octets_to_send_in : Option ℕ → Option AssociationTerms → List ℕ → List ℕ
octets_to_send_in size None pdu = []
octets_to_send_in size (Some terms) pdu =
    data_tpdus size (transfer_text (user_text terms.contexts.mms pdu))

-- the octets to send for a PDU of MMS on these terms
abbrev pub octets_to_send : Terms → List ℕ → List ℕ
octets_to_send terms pdu = octets_to_send_in terms.size (association_terms terms.phase) pdu
