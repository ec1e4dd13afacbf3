-- The terms on which a PDU of a client is answered: a size of TPDUs is agreed, and one of PDUs, of
-- at most 65,000 octets.
use Rattle.std.proofs.Common.{◌≡◌, ◌≤◌, ℕ, ℤ, pos, negsuc, Bool, true, false, cond, nat_lt, min, List, [], ◌∷◌, Option, Some, None, Result, Ok, Err, IsSome, refl, arith}
use Rattle.bay_base.specs.Options.{◌>>=◌}
use Rattle.bay_mms_initiate.specs.declared.initiate.Proposal.{Proposal}
use Rattle.bay_mms_initiate.specs.declared.initiate.AgreedLimits.{AgreedLimits}
use Rattle.bay_mms_initiate.specs.Initiate.{initiate_in}
use Rattle.bay_base.specs.Results.{◌>>=◌ as ◌>>◌}
use Rattle.bay_transport.specs.Doings.{Doing, Answers, Delivers, Ends, Fails, Stream, doings, after}
use Rattle.bay_transport.specs.Feeding.{size_agreed}
use Rattle.bay_transport.proofs.SizeLemmas.{AreSized, doings-sized}
use Rattle.bay_assoc.specs.declared.fault.AssocFault.{AssocFault}
use Rattle.bay_assoc.specs.declared.fault.AssocFault.TheVariants as fault
use Rattle.bay_assoc.specs.declared.receive.ContextIds.{ContextIds}
use Rattle.bay_assoc.specs.declared.receive.AssociationTerms.{AssociationTerms}
use Rattle.bay_assoc.specs.declared.receive.Phase.{Phase}
use Rattle.bay_assoc.specs.declared.receive.Phase.TheVariants as phases
use Rattle.bay_assoc.specs.declared.presentation.Context.{Context}
use Rattle.bay_ber.specs.Judged.{or_fault}
use Rattle.bay_assoc.specs.Acse.{associate, release}
use Rattle.bay_assoc.specs.TsduMeanings.{TsduMeaning, answer, mms, released, aborted, accepted_ids, acse_value, agreed_limits, agreement, connection_request, release_request, idle_meaning, open_meaning, verdict, tsdu_meaning, mms_value, data_transfer}
use Rattle.bay_assoc.specs.Presentation.{ValueInContext, user_data, request}
use Rattle.bay_assoc.specs.Session.{Spdu, connect, accept, finish, disconnect, abort, transfer, spdu_in}
use Rattle.bay_mms_initiate.specs.Sizes.{IsPduSize, agreed_size}
use Rattle.bay_assoc.specs.Sized.{IsSized}
use Rattle.bay_connection.specs.ConnectionStates.{Indication, ConnectionState, ConnectionStep, answers, delivers, releases, ends, fails, connection_step, indications, connection_after, step_on_tsdu, step_on_tsdu_result, after_doings}

-- ---- what is heard leaves a size of PDUs

abbrev OkIs : {B : Type 0} → (B → Type 0) → Result B AssocFault → Type 0
OkIs P (Ok x) = P x
OkIs P (Err e) = Unit {0}

bound : {A B : Type 0} (P : B → Type 0) (r : Result A AssocFault) (f : A → Result B AssocFault)
    → ((x : A) → OkIs P (f x)) → OkIs P (r >> f)
bound P (Ok x) f h = h x
bound P (Err e) f h = tt

bound-by : {A B : Type 0} (Q : A → Type 0) (P : B → Type 0) (r : Result A AssocFault)
    (f : A → Result B AssocFault) → OkIs Q r → ((x : A) → Q x → OkIs P (f x)) → OkIs P (r >> f)
bound-by Q P (Ok x) f q h = h x q
bound-by Q P (Err e) f q h = tt

abbrev SomeIs : {B : Type 0} → (B → Type 0) → Option B → Type 0
SomeIs P (Some x) = P x
SomeIs P None = Unit {0}

size-if : (b : Bool) (n : ℕ) → nat_lt n 256 ≡ b
    → SomeIs IsPduSize (cond b None (Some (min n 65000)))
size-if true n is = tt
size-if false n is = let least : 256 ≤ n =
    grind arith in record { least = grind arith; most = grind arith }

size-is : (proposed : Option ℤ) → SomeIs IsPduSize (agreed_size proposed)
size-is None = record { least = omega arith; most = omega arith }
size-is (Some (pos n)) = size-if (nat_lt n 256) n refl
size-is (Some (negsuc n)) = tt

agreed-by : (size : Option ℕ) (f : ℕ → AgreedLimits) → ((n : ℕ) → (f n).size ≡ n)
    → SomeIs IsPduSize size
    → OkIs (λ (x : AgreedLimits). IsPduSize x.size)
    (or_fault fault.PduSizeTooSmall (size >>= λ n. Some (f n)))
agreed-by (Some n) f same is = record { least = rw (same n) is.least; most = rw (same n) is.most }
agreed-by None f same is = tt

agreed-sized : (p : Proposal)
    → OkIs (λ (x : AgreedLimits). IsPduSize x.size)
    (or_fault fault.PduSizeTooSmall (agreed_limits p))
agreed-sized p = agreed-by (agreed_size p.size) _ (λ n. refl) (size-is p.size)

agreement-sized : (contexts : List Context) (user : ValueInContext)
    → OkIs (λ (x : ContextIds × AgreedLimits). IsPduSize x.1.size) (agreement contexts user).result
unfolding agreement
agreement-sized contexts user =
    let P : ContextIds × AgreedLimits → Type 0 = λ x. IsPduSize x.1.size in
    bound P (or_fault fault.NoContext (accepted_ids contexts)) _ (λ a.
    bound P (acse_value a user) _ (λ value.
    bound P (or_fault fault.BadAcse (associate.reads value)) _ (λ information.
    bound P (mms_value a information) _ (λ pdu.
    bound P (or_fault fault.BadAcse (initiate_in pdu)) _ (λ proposal.
    bound-by (λ (x : AgreedLimits). IsPduSize x.size) P
    (or_fault fault.PduSizeTooSmall (agreed_limits proposal)) _ (agreed-sized proposal)
    (λ size_agreed is. is))))))

-- an association that is open, with a size of PDUs
abbrev pub IsOpen : Phase → Type 0
IsOpen phases.Idle = ⊥
IsOpen (phases.Open terms) = IsPduSize terms.size
IsOpen phases.Over = ⊥
IsOpen phases.Failed = ⊥

abbrev HeardOpen : TsduMeaning → Phase → Type 0
HeardOpen (answer tsdu) phase = Unit {0}
HeardOpen (mms pdu) phase = IsOpen phase
HeardOpen (released tsdu) phase = Unit {0}
HeardOpen aborted phase = Unit {0}

abbrev IsHeard : TsduMeaning × Phase → Type 0
IsHeard x = IsSized x.1 × HeardOpen x.0 x.1

connected-sized : (user : List ℕ) → OkIs IsHeard (connection_request user).result
unfolding connection_request
connected-sized user =
    bound IsHeard (or_fault fault.BadPresentation (request.reads user)) _ (λ r.
    bound-by (λ (x : ContextIds × AgreedLimits). IsPduSize x.1.size) IsHeard
    (agreement r.contexts r.user).result _ (agreement-sized r.contexts r.user)
    (λ x is. (is, tt)))

finished-sized : (terms : AssociationTerms) (user : Option (List ℕ))
    → OkIs IsHeard (release_request terms user).result
unfolding release_request
finished-sized terms None = (tt, tt)
finished-sized terms (Some user) =
    bound IsHeard (or_fault fault.BadPresentation (user_data.reads user)) _ (λ c.
    bound IsHeard (acse_value terms.contexts c) _ (λ value.
    bound IsHeard (or_fault fault.BadAcse (release.reads value)) _ (λ ignored. (tt, tt))))

transferred-sized : (terms : AssociationTerms) (user : List ℕ) → IsPduSize terms.size
    → OkIs IsHeard (data_transfer terms user).result
unfolding data_transfer
transferred-sized terms user is =
    bound IsHeard (or_fault fault.BadPresentation (user_data.reads user)) _ (λ c.
    bound IsHeard (mms_value terms.contexts c) _ (λ pdu. (is, is)))

idle-sized : (s : Spdu) → OkIs IsHeard (idle_meaning s).result
idle-sized (connect user) = connected-sized user
idle-sized accept = tt
idle-sized (finish user) = tt
idle-sized disconnect = tt
idle-sized abort = (tt, tt)
idle-sized (transfer user) = tt

open-sized : (terms : AssociationTerms) (s : Spdu) → IsPduSize terms.size
    → OkIs IsHeard (open_meaning terms s).result
open-sized terms (connect user) is = tt
open-sized terms accept is = tt
open-sized terms (finish user) is = finished-sized terms user
open-sized terms disconnect is = tt
open-sized terms abort is = (tt, tt)
open-sized terms (transfer user) is = transferred-sized terms user is

hearing-sized : (phase : Phase) (tsdu : List ℕ) → IsSized phase
    → OkIs IsHeard (tsdu_meaning phase tsdu)
unfolding verdict
hearing-sized phases.Idle tsdu is =
    bound IsHeard (or_fault fault.BadSession (spdu_in tsdu)) (λ s. (idle_meaning s).result)
    idle-sized
hearing-sized (phases.Open terms) tsdu is =
    bound IsHeard (or_fault fault.BadSession (spdu_in tsdu)) (λ s. (open_meaning terms s).result)
    (λ s. open-sized terms s is)
hearing-sized phases.Over tsdu is = tt
hearing-sized phases.Failed tsdu is = tt

-- ---- what octets come to can be answered

-- the association that an indication leaves can send
abbrev pub CanAnswer : Indication → Type 0
CanAnswer (answers octets) = Unit {0}
CanAnswer (delivers terms pdu) = IsSome terms.size × IsOpen terms.phase
CanAnswer (releases octets) = Unit {0}
CanAnswer ends = Unit {0}
CanAnswer (fails code) = Unit {0}

-- so it is for each of several indications
abbrev pub CanAnswerAll : List Indication → Type 0
CanAnswerAll [] = Unit {0}
CanAnswerAll (i ∷ is) = CanAnswer i × CanAnswerAll is

record IsTold (t : ConnectionStep) : Type 0 where
  all : CanAnswerAll t.indications
  left : IsSized t.state.phase

heard-told : (s : Stream) (h : TsduMeaning) (size : Option ℕ) (phase : Phase)
    (later : ConnectionStep)
    → IsSome size → HeardOpen h phase → IsTold later
    → IsTold (step_on_tsdu s h (record { size = size; phase = phase }) later)
heard-told s (answer tsdu) size phase later some is rest =
    record { all = (tt, rest.all); left = rest.left }
heard-told s (mms pdu) size phase later some is rest =
    record { all = ((some, is), rest.all); left = rest.left }
heard-told s (released tsdu) size phase later some is rest = record { all = (tt, tt); left = tt }
heard-told s aborted size phase later some is rest = record { all = (tt, tt); left = tt }

hearing-told : (s : Stream) (r : Result (TsduMeaning × Phase) AssocFault) (size : Option ℕ)
    (later : Phase → ConnectionStep) → IsSome size → OkIs IsHeard r
    → ((p : Phase) → IsSized p → IsTold (later p))
    → IsTold (step_on_tsdu_result size s r later)
hearing-told s (Ok x) size later some is rest =
    heard-told s x.0 size x.1 (later x.1) some is.1 (rest x.1 is.0)
hearing-told s (Err e) size later some is rest = record { all = (tt, tt); left = tt }

told-so : (s : Stream) (ds : List Doing) (size : Option ℕ) (phase : Phase) → AreSized size ds
    → IsSized phase → IsTold (after_doings s ds size phase)
told-so s [] size phase sized is = record { all = tt; left = is }
told-so s (Answers n reply ∷ ds) size phase sized is =
    let rest : IsTold (after_doings s ds (Some n) phase) =
    told-so s ds (Some n) phase sized is in record { all = (tt, rest.all); left = rest.left }
told-so s (Delivers tsdu ∷ ds) size phase sized is =
    hearing-told s (tsdu_meaning phase tsdu) size (after_doings s ds size) sized.0
    (hearing-sized phase tsdu is)
    (λ p q. told-so s ds size p sized.1 q)
told-so s (Ends ∷ ds) size phase sized is = record { all = (tt, tt); left = tt }
told-so s (Fails fault ∷ ds) size phase sized is = record { all = (tt, tt); left = tt }

comes-told : (t : ConnectionState) (octets : List ℕ) → IsSized t.phase
    → IsTold (connection_step t octets)
comes-told t octets is =
    told-so (after t.stream octets) (doings t.stream octets) (size_agreed t.stream) t.phase
    (doings-sized t.stream octets) is

pub can-answer : (t : ConnectionState) (octets : List ℕ) → IsSized t.phase
    → CanAnswerAll (indications t octets)
can-answer t octets is = (comes-told t octets is).all

pub sized-behind : (t : ConnectionState) (octets : List ℕ) → IsSized t.phase
    → IsSized (connection_after t octets).phase
sized-behind t octets is = (comes-told t octets is).left
