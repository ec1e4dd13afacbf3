-- Which connections go on.
use Rattle.std.proofs.Common.{◌≡◌, ℕ, List, [], ◌∷◌, Option, Some, IsSome, Result, Ok, Err, refl, ap, subst, ◌∙◌}
use Rattle.bay_transport.specs.Doings.{Doing, Answers, Delivers, Ends, Fails, StreamState, Going, Stream, doings, after}
use Rattle.bay_transport.specs.Feeding.{size_agreed, agreed_from, size_after, AcceptsOctets}
use Rattle.bay_transport.proofs.SizeLemmas.{after-size, delivers-size, quiet-going}
use Rattle.bay_assoc.specs.declared.fault.AssocFault.{AssocFault}
use Rattle.bay_assoc.specs.declared.receive.Phase.{Phase}
use Rattle.bay_assoc.specs.TsduMeanings.{TsduMeaning, answer, mms, released, aborted, tsdu_meaning}
use Rattle.bay_connection.specs.ConnectionStates.{ConnectionState, Indication, ends, ConnectionStep, step_on_tsdu_result, after_doings, indications, connection_after}
use Rattle.bay_connection.specs.Feeding.{IsContinued}

-- a size is agreed only where octets are still taken
agreed-going : (left : StreamState) → IsSome (agreed_from left) → AcceptsOctets left
agreed-going (Going connection rest) some = tt
agreed-going left some = absurd (cc)

-- ---- what comes to nothing has no doings

hearing-some : (s : Stream) (r : Result (TsduMeaning × Phase) AssocFault) (size : Option ℕ)
    (later : Phase → ConnectionStep) → (step_on_tsdu_result size s r later).indications ≡ [] → ⊥
hearing-some s (Ok (answer tsdu, phase)) size later e = cc
hearing-some s r size later e = cc

pub told-none : (s : Stream) (ds : List Doing) (size : Option ℕ) (phase : Phase)
    → (after_doings s ds size phase).indications ≡ [] → ds ≡ []
told-none s [] size phase e = refl
told-none s (Delivers tsdu ∷ ds) size phase e =
    absurd (hearing-some s (tsdu_meaning phase tsdu) size (after_doings s ds size) e)
told-none s ds size phase e = absurd (cc)

quiet-left : (s : Stream) (ds : List Doing) (size : Option ℕ) (phase : Phase) → ds ≡ []
    → (after_doings s ds size phase).state.stream ≡ s
quiet-left s ds size phase none = rw none refl

pub nothing-going : (t : ConnectionState) (octets : List ℕ) → AcceptsOctets t.stream.state
    → indications t octets ≡ []
    → AcceptsOctets (connection_after t octets).stream.state
nothing-going t octets going none =
    let quiet : doings t.stream octets ≡ [] =
    told-none (after t.stream octets) (doings t.stream octets) (size_agreed t.stream) t.phase none
    in
    rw (quiet-left (after t.stream octets) (doings t.stream octets) (size_agreed t.stream) t.phase
    quiet)
    (quiet-going t.stream octets going quiet)

-- ---- one doing that goes on

-- What is left is the stream, of which a size is agreed, and so it goes on.
going-left : (s : Stream) (ds : List Doing) (size : Option ℕ) (phase : Phase)
    → (after_doings s ds size phase).indications ≡ [] → AcceptsOctets s.state
    → AcceptsOctets (after_doings s ds size phase).state.stream.state
going-left s ds size phase none going =
    rw (quiet-left s ds size phase (told-none s ds size phase none)) going

-- what goes on is not what ends
not-same : (j i : Indication) → j ∷ [] ≡ i ∷ [] → IsContinued i → (IsContinued j → ⊥) → ⊥
not-same j i e goes ends_it = let same : i ≡ j = cc in ends_it (subst IsContinued same goes)

hearing-going : (s : Stream) (r : Result (TsduMeaning × Phase) AssocFault) (size : Option ℕ)
    (later : Phase → ConnectionStep) (i : Indication)
    → (step_on_tsdu_result size s r later).indications ≡ i ∷ []
    → IsContinued i → ((p : Phase) → (later p).indications ≡ []
    → AcceptsOctets (later p).state.stream.state)
    → AcceptsOctets (step_on_tsdu_result size s r later).state.stream.state
hearing-going s (Ok (answer tsdu, phase)) size later i e goes rest = rest phase (cc)
hearing-going s (Ok (mms pdu, phase)) size later i e goes rest = rest phase (cc)
hearing-going s (Ok (released tsdu, phase)) size later i e goes rest =
    absurd (not-same _ i e goes (λ h. h))
hearing-going s (Ok (aborted, phase)) size later i e goes rest =
    absurd (not-same ends i e goes (λ h. h))
hearing-going s (Err fault) size later i e goes rest = absurd (not-same _ i e goes (λ h. h))

-- with the size that is agreed behind the doings, and one agreed before a TSDU
one-going : (s : Stream) (ds : List Doing) (size : Option ℕ) (phase : Phase) (i : Indication)
    → size_agreed s ≡ size_after size ds
    → ((tsdu : List ℕ) (later : List Doing) → ds ≡ Delivers tsdu ∷ later → IsSome size)
    → (after_doings s ds size phase).indications ≡ i ∷ [] → IsContinued i
    → AcceptsOctets (after_doings s ds size phase).state.stream.state
one-going s [] size phase i e delivers one goes = absurd (cc)
one-going s (Answers n reply ∷ ds) size phase i e delivers one goes =
    let none : (after_doings s ds (Some n) phase).indications ≡ [] = cc in
    let quiet : ds ≡ [] = told-none s ds (Some n) phase none in
    let size-is : size_agreed s ≡ Some n = e ∙ ap (size_after (Some n)) quiet in
    let some : IsSome (size_agreed s) = rw size-is refl in
    going-left s ds (Some n) phase none (agreed-going s.state some)
one-going s (Delivers tsdu ∷ ds) size phase i e delivers one goes =
    hearing-going s (tsdu_meaning phase tsdu) size (after_doings s ds size) i one goes
    (λ p none.
    let quiet : ds ≡ [] = told-none s ds size p none in
    let size-is : size_agreed s ≡ size = e ∙ ap (size_after size) quiet in
    let some : IsSome (size_agreed s) = rw size-is (delivers tsdu ds refl) in
    going-left s ds size p none (agreed-going s.state some))
one-going s (Ends ∷ ds) size phase i e delivers one goes =
    absurd (not-same ends i one goes (λ h. h))
one-going s (Fails fault ∷ ds) size phase i e delivers one goes =
    absurd (not-same _ i one goes (λ h. h))

pub heard-going : (t : ConnectionState) (octets : List ℕ) (i : Indication)
    → indications t octets ≡ i ∷ []
    → IsContinued i → AcceptsOctets (connection_after t octets).stream.state
heard-going t octets i one goes =
    one-going (after t.stream octets) (doings t.stream octets) (size_agreed t.stream) t.phase i
    (after-size t.stream octets)
    (λ tsdu later is. delivers-size t.stream octets tsdu later is) one goes
