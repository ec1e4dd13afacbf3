-- What one feeding comes to.
use Rattle.std.proofs.Common.{◌≡◌, ℕ, ◌-◌, ◌≤◌, List, [], ◌∷◌, ◌++◌, length, take, drop, Option, Some, None, IsSome, unwrap_or, option_to_list, refl, sym, ap, ◌∙◌, arith}
use Rattle.std.proofs.lemmas.List.{take_all}
use Rattle.bay_transport.specs.declared.fault.TransportFault.{TransportFault}
use Rattle.bay_transport.specs.declared.fault.TransportFault.TheVariants.{Failed, OutOfMemory}
use Rattle.bay_transport.specs.declared.fed.Got.{Got}
use Rattle.bay_transport.specs.declared.fed.Got.TheVariants as got
use Rattle.bay_transport.specs.Code.{code_of}
use Rattle.bay_transport.specs.Doings.{Doing, Answers, Delivers, Ends, Fails, StreamState, Going, Over, Broken, Stream, doings, after}
use Rattle.bay_transport.specs.Feeding as feeding
use Rattle.bay_transport.specs.Feeding.{TransportData, doing_of_result, size_agreed, agreed_from, size_after, end_of_stream, broken, AcceptsOctets, RefusesPiece}
use Rattle.bay_transport.proofs.SizeLemmas.{after-size, delivers-size, quiet-going}
use Rattle.bay_assoc.specs.declared.receive.Phase.{Phase}
use Rattle.bay_assoc.specs.declared.receive.Phase.TheVariants as phases
use Rattle.bay_connection.specs.ConnectionStates.{ConnectionState, Indication, ends, fails, ConnectionStep, ended_state, after_doings, connection_step, indications, connection_after}
use Rattle.bay_connection.specs.Feeding.{CompletesIndication, Completes, Feeds, IndicationThenRest}
use Rattle.bay_connection.specs.Stack.{AreJoined, IsJoined, IsReady, IndicatesIfSome}
use Rattle.bay_connection.proofs.CuttingLemmas.{indications-take, left_by-take}
use Rattle.bay_connection.proofs.GoingLemmas.{told-none}

-- ---- the law

comes-does : (t : ConnectionState) (piece : List ℕ) (used : ℕ) (i : Indication)
    → Completes t piece used i
    → indications t (take used piece) ≡ i ∷ []
comes-does t piece used (fails code) h = h.1
comes-does t piece used i h = h.does

pub feeding-indications : (old new : ConnectionState) (piece : List ℕ) (used : ℕ) (i : Indication)
    → new ≡ connection_after old (take used piece) → Completes old piece used i
    → IndicationThenRest old new piece used i
feeding-indications old new piece used i is comes =
    indications-take old piece used
    ∙ ap (λ (t : ConnectionState). indications old (take used piece)
    ++ indications t (drop used piece))
    (sym is) ∙ ap (λ (ds : List Indication). ds ++ indications new (drop used piece))
    (comes-does old piece used i comes)

pub feeding-left : (old new : ConnectionState) (piece : List ℕ) (used : ℕ)
    → new ≡ connection_after old (take used piece)
    → connection_after old piece ≡ connection_after new (drop used piece)
feeding-left old new piece used is =
    left_by-take old piece used
    ∙ ap (λ (t : ConnectionState). connection_after t (drop used piece)) (sym is)

-- ---- what is ready

agreed-joined : (left : StreamState) (phase : Phase) → IsSome (agreed_from left)
    → AreJoined left phase
agreed-joined (Going connection rest) (phases.Open l) some = some
agreed-joined (Going connection rest) phase some = tt
agreed-joined left phase some = absurd (cc)

pub sized-joined : (t : ConnectionState) → IsSome (size_agreed t.stream) → IsJoined t
sized-joined t some = agreed-joined t.stream.state t.phase some

going-joined : (old new : StreamState) (phase : Phase) → AreJoined old phase → AcceptsOctets old
    → AcceptsOctets new
    → agreed_from new ≡ agreed_from old → AreJoined new phase
going-joined (Going connection rest) (Going next more) (phases.Open l) joined a b e = rw e joined
going-joined (Going connection rest) (Going next more) phase joined a b e = tt
going-joined (Going connection rest) new phase joined a b e = absurd b
going-joined old new phase joined a b e = absurd a

-- what octets that do nothing leave
pub quiet-joined : (s : Stream) (phase : Phase) (octets : List ℕ) → AreJoined s.state phase
    → AcceptsOctets s.state → doings s octets ≡ [] → AreJoined (after s octets).state phase
quiet-joined s phase octets joined going quiet =
    going-joined s.state (after s octets).state phase joined going (quiet-going s octets going quiet)
    (after-size s octets ∙ rw quiet refl)

-- ---- one doing

told-some : (s : Stream) (d : Doing) (size : Option ℕ) (phase : Phase)
    → (after_doings s (d ∷ []) size phase).indications ≡ [] → ⊥
told-some s d size phase e =
    let none : d ∷ [] ≡ [] = told-none s (d ∷ []) size phase e in
    cc

one-done : (t : ConnectionState) (octets : List ℕ) (d : Doing) → doings t.stream octets ≡ d ∷ []
    → connection_step t octets ≡ after_doings (after t.stream octets) (d ∷ [])
    (size_agreed (after t.stream octets))
    t.phase
one-done t octets (Delivers tsdu) e =
    let size : size_agreed (after t.stream octets) ≡ size_agreed t.stream =
    after-size t.stream octets ∙ ap (size_after (size_agreed t.stream)) e in
    ap (λ (ds : List Doing). after_doings (after t.stream octets) ds (size_agreed t.stream) t.phase)
    e
    ∙ ap (λ (z : Option ℕ). after_doings (after t.stream octets) (Delivers tsdu ∷ []) z t.phase)
    (sym size)
one-done t octets d e =
    ap (λ (ds : List Doing). after_doings (after t.stream octets) ds (size_agreed t.stream) t.phase)
    e

-- ---- one feeding

-- What is answered to a piece, and what is left.
pub record FedSo (t : ConnectionState) (piece : List ℕ) (used : ℕ) (heard : Option Indication)
    (new : ConnectionState)
    : Type 0 where
  pub within : used ≤ length piece
  pub fed : Feeds t piece used heard
  pub state : new ≡ connection_after t (take used piece)

completes-comes : (t : ConnectionState) (piece : List ℕ) (used : ℕ) (i : Indication)
    → CompletesIndication t piece used i → Completes t piece used i
completes-comes t piece used (fails code) h = (h.within, h.does)
completes-comes t piece used i h = h

quiet-told : (t : ConnectionState) (octets : List ℕ) → doings t.stream octets ≡ []
    → connection_step t octets ≡ record
    { indications = []; state = record { stream = after t.stream octets; phase = t.phase } }
quiet-told t octets e =
    ap (λ (ds : List Doing). after_doings (after t.stream octets) ds (size_agreed t.stream) t.phase)
    e

record Done (t : ConnectionState) (piece : List ℕ) (used : ℕ) (i : Indication)
    (new : ConnectionState) : Type 0 where
  comes : Completes t piece used i
  state : new ≡ connection_after t (take used piece)

going-done : (t : ConnectionState) (piece : List ℕ) (used : ℕ) (d : Doing) (i : Indication)
    (new : ConnectionState)
    → feeding.CompletesDoing t.stream piece used d
    → after_doings (after t.stream (take used piece)) (d ∷ [])
    (size_agreed (after t.stream (take used piece)))
    t.phase ≡ record { indications = i ∷ []; state = new } → Done t piece used i new
going-done t piece used d i new c e =
    let all : connection_step t (take used piece) ≡ record { indications = i ∷ []; state = new } =
    one-done t (take used piece) d c.does ∙ e in
    record {
      comes =
          completes-comes t piece used i (record {
            moves = c.moves;
            within = c.within;
            quiet = ap (λ (r : ConnectionStep). r.indications)
                (quiet-told t (take (used - 1) piece) c.quiet);
            does = ap (λ (r : ConnectionStep). r.indications) all;
          });
      state = sym (ap (λ (r : ConnectionStep). r.state) all);
    }

abbrev talk_with : ℕ → StreamState → Phase → ConnectionState
talk_with number left phase =
    record { stream = record { number = number; state = left }; phase = phase }

over-done : (number : ℕ) (phase : Phase) (piece : List ℕ) (used : ℕ) (d : Doing) (i : Indication)
    (new : ConnectionState) (s : Stream) → phase ≡ phases.Over → used ≡ 0 → d ≡ Ends
    → s.number ≡ number
    → after_doings s (d ∷ []) (size_agreed s) phase ≡ record { indications = i ∷ []; state = new }
    → (i ≡ ends) × (new ≡ talk_with number Over phase)
over-done number phase piece used Ends i new s over none is same e =
    let a : ends ∷ [] ≡ i ∷ [] = ap (λ (r : ConnectionStep). r.indications) e in
    let b : ended_state s ≡ new = ap (λ (r : ConnectionStep). r.state) e in
    let f : i ≡ ends = cc in (
      f,
      sym b ∙ ap (λ (n : ℕ). talk_with n Over phases.Over) same
          ∙ ap (talk_with number Over) (sym over),
    )
over-done number phase piece used d i new s over none is same e = absurd (cc)

fed-some : (number : ℕ) (left : StreamState) (phase : Phase) (piece : List ℕ) (used : ℕ) (d : Doing)
    (heard : Option Indication) (new : ConnectionState) (s : Stream) → AreJoined left phase
    → feeding.FeedsFrom left (record { number = number; state = left }) piece used (Some d)
    → s ≡ after (record { number = number; state = left }) (take used piece)
    → after_doings s (d ∷ []) (size_agreed s) phase
    ≡ record { indications = option_to_list heard; state = new }
    → FedSo (talk_with number left phase) piece used heard new
fed-some number left phase piece used d None new s joined fed is e =
    absurd (told-some s d (size_agreed s) phase (ap (λ (r : ConnectionStep). r.indications) e))
fed-some number (Going connection rest) phase piece used d (Some i) new s joined fed is e =
    let e' : after_doings (after (record { number = number; state = Going connection rest })
    (take used piece)) (d ∷ [])
    (size_agreed (after (record { number = number; state = Going connection rest })
    (take used piece))) phase ≡ record { indications = i ∷ []; state = new } =
    ap (λ (x : Stream). after_doings x (d ∷ []) (size_agreed x) phase) (sym is) ∙ e
    in
    let done =
    going-done (talk_with number (Going connection rest) phase) piece used d i new fed e' in
    record { within = fed.within; fed = done.comes; state = done.state }
fed-some number Over phase piece used d (Some i) new s joined fed is e =
    let end_of_stream : d ≡ Ends = cc in
    let same : s.number ≡ number = ap (λ (x : Stream). x.number) is in
    let over = over-done number phase piece used d i new s joined fed.0 end_of_stream same e in
    record {
      within = omega (arith, fed.0);
      fed = (fed.0, ap (λ (x : Indication). Some x) over.0);
      state = over.1;
    }
fed-some number Broken phase piece used d (Some i) new s joined fed is e = absurd joined

fed-none : (number : ℕ) (left : StreamState) (phase : Phase) (piece : List ℕ) (used : ℕ)
    (heard : Option Indication) (new : ConnectionState) (s : Stream) → AreJoined left phase
    → feeding.FeedsFrom left (record { number = number; state = left }) piece used None
    → s ≡ after (record { number = number; state = left }) (take used piece)
    → heard ≡ None → new ≡ record { stream = s; phase = phase }
    → FedSo (talk_with number left phase) piece used heard new
fed-none number (Going connection rest) phase piece used heard new s joined fed is none same =
    let t = talk_with number (Going connection rest) phase in
    let all : take used piece ≡ piece = take_all used piece (omega (arith, fed.0)) in
    let quiet : doings t.stream (take used piece) ≡ [] = ap (doings t.stream) all ∙ fed.1 in
    rw none (record {
      within = omega (arith, fed.0);
      fed = (fed.0, ap (λ (r : ConnectionStep). r.indications) (quiet-told t piece fed.1));
      state = same ∙ ap (λ (x : Stream). let u : ConnectionState =
          record { stream = x; phase = phase } in u) is
          ∙ sym (ap (λ (r : ConnectionStep). r.state) (quiet-told t (take used piece) quiet));
    })
fed-none number Over phase piece used heard new s joined fed is none same =
    absurd (let f : None ≡ Some Ends = fed.1 in cc)
fed-none number Broken phase piece used heard new s joined fed is none same = absurd joined

pub fed-got : (t : ConnectionState) (r : TransportData) (got : Got) (piece : List ℕ) (used : ℕ)
    (heard : Option Indication) (new : ConnectionState) → IsJoined t
    → feeding.Feeds t.stream piece used (doing_of_result got r)
    → r.stream ≡ after t.stream (take used piece)
    → IndicatesIfSome (record { stream = r.stream; phase = t.phase }) (doing_of_result got r) heard
    new
    → FedSo t piece used heard new
fed-got t r got.More piece used heard new joined fed is so =
    fed-none t.stream.number t.stream.state t.phase piece used heard new r.stream joined fed is so.0
    so.1
fed-got t r got piece used heard new joined fed is so =
    fed-some t.stream.number t.stream.state t.phase piece used _ heard new r.stream joined fed is so

-- ---- what is ready

more-ready : (number : ℕ) (left : StreamState) (phase : Phase) (piece : List ℕ) (used : ℕ)
    → AreJoined left phase → feeding.FeedsFrom left (record { number = number; state = left }) piece
    used None
    → AreJoined (after (record { number = number; state = left }) (take used piece)).state phase
more-ready number (Going connection rest) phase piece used joined fed =
    let s : Stream = record { number = number; state = Going connection rest } in
    let all : take used piece ≡ piece = take_all used piece (omega (arith, fed.0)) in
    quiet-joined s phase (take used piece) joined tt (ap (doings s) all ∙ fed.1)
more-ready number Over phase piece used joined fed = absurd (let f : None ≡ Some Ends = fed.1 in cc)
more-ready number Broken phase piece used joined fed = absurd joined

answer-ready : (number : ℕ) (left : StreamState) (piece : List ℕ) (used n : ℕ) (reply : List ℕ)
    → feeding.FeedsFrom left (record { number = number; state = left }) piece used
    (Some (Answers n reply))
    → IsSome (size_agreed (after (record { number = number; state = left }) (take used piece)))
answer-ready number (Going connection rest) piece used n reply fed =
    let s : Stream = record { number = number; state = Going connection rest } in
    rw (after-size s (take used piece) ∙ ap (size_after connection.size) fed.does) refl
answer-ready number Over piece used n reply fed =
    absurd (let f : Some (Answers n reply) ≡ Some Ends = fed.1 in cc)
answer-ready number Broken piece used n reply fed = absurd fed

tsdu-ready : (number : ℕ) (left : StreamState) (piece : List ℕ) (used : ℕ) (tsdu : List ℕ)
    → feeding.FeedsFrom left (record { number = number; state = left }) piece used
    (Some (Delivers tsdu))
    → IsSome (size_agreed (after (record { number = number; state = left }) (take used piece)))
tsdu-ready number (Going connection rest) piece used tsdu fed =
    let s : Stream = record { number = number; state = Going connection rest } in
    rw (after-size s (take used piece) ∙ ap (size_after connection.size) fed.does)
    (delivers-size s (take used piece) tsdu [] fed.does)
tsdu-ready number Over piece used tsdu fed =
    absurd (let f : Some (Delivers tsdu) ≡ Some Ends = fed.1 in cc)
tsdu-ready number Broken piece used tsdu fed = absurd fed

pub is-ready : (t : ConnectionState) (r : TransportData) (got : Got) (piece : List ℕ) (used : ℕ)
    → IsJoined t
    → feeding.Feeds t.stream piece used (doing_of_result got r)
    → r.stream ≡ after t.stream (take used piece)
    → IsReady got (record { stream = r.stream; phase = t.phase })
is-ready t r got.More piece used joined fed is =
    rw is (more-ready t.stream.number t.stream.state t.phase piece used joined fed)
is-ready t r got.Answer piece used joined fed is =
    rw is (answer-ready t.stream.number t.stream.state piece used _ _ fed)
is-ready t r got.Tsdu piece used joined fed is =
    rw is (tsdu-ready t.stream.number t.stream.state piece used _ fed)
is-ready t r got.Ended piece used joined fed is = tt

-- ---- a fault of the transport

fault-done : (number : ℕ) (left : StreamState) (phase : Phase) (piece : List ℕ)
    (fault : TransportFault)
    (code : ℕ) → AreJoined left phase
    → doings (record { number = number; state = left }) piece ≡ Fails fault ∷ []
    → code_of fault ≡ Some code
    → FedSo (talk_with number left phase) piece (length piece) (Some (fails code))
    (talk_with number Over phases.Over)
fault-done number (Going connection rest) phase piece fault code joined e k =
    let t = talk_with number (Going connection rest) phase in
    let all : take (length piece) piece ≡ piece = take_all (length piece) piece (omega arith) in
    let q : doings t.stream (take (length piece) piece) ≡ Fails fault ∷ [] =
    ap (doings t.stream) all ∙ e in
    let c : connection_step t (take (length piece) piece)
    ≡ after_doings (after t.stream (take (length piece) piece)) (Fails fault ∷ [])
    (size_agreed t.stream)
    phase = ap (λ (ds : List Doing). after_doings (after t.stream (take (length piece) piece)) ds
    (size_agreed t.stream) phase) q in
    record {
      within = omega arith;
      fed = (
        omega arith,
        ap (λ (r : ConnectionStep). r.indications) c
            ∙ ap (λ (o : Option ℕ). fails (unwrap_or o 0) ∷ []) k,
      );
      state = sym (ap (λ (r : ConnectionStep). r.state) c);
    }
fault-done number Over phase piece fault code joined e k = absurd (cc)
fault-done number Broken phase piece fault code joined e k = absurd joined

joined-sound : (left : StreamState) (phase : Phase) → AreJoined left phase → left ≡ Broken → ⊥
joined-sound Broken phase joined e = joined
joined-sound left phase joined e = cc

pub fed-fault : (t : ConnectionState) (piece : List ℕ) (fault : TransportFault) (code : ℕ)
    → IsJoined t
    → RefusesPiece t.stream piece fault → code_of fault ≡ Some code
    → FedSo t piece (length piece) (Some (fails code)) (ended_state (broken t.stream))
fed-fault t piece Failed code joined refused k =
    absurd (joined-sound t.stream.state t.phase joined refused)
fed-fault t piece OutOfMemory code joined refused k = absurd (cc)
fed-fault t piece fault code joined refused k =
    fault-done t.stream.number t.stream.state t.phase piece fault code joined refused k
