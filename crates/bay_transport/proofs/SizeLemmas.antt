-- The size of a TPDU that is agreed, and what comes to nothing.
use Rattle.std.proofs.Common.{◌≡◌, ℕ, true, false, cond, List, [], ◌∷◌, ◌++◌, drop, Option, Some, None, Result, Ok, Err, refl, subst, ◌==◌, IsSome}
use Rattle.bay_transport.specs.declared.fault.TransportFault.{TransportFault}
use Rattle.bay_transport.specs.declared.fault.TransportFault.TheVariants.{BadCotp}
use Rattle.bay_transport.specs.declared.frame.FramePrefix.{FramePrefix}
use Rattle.bay_transport.specs.declared.frame.FramePrefix.TheVariants.{Begun, NoFrame, Whole}
use Rattle.bay_transport.specs.declared.frame.Tpdu.{Tpdu}
use Rattle.bay_transport.specs.declared.frame.Tpdu.TheVariants.{Request, Data}
use Rattle.bay_transport.specs.Frame.{frame_prefix, tpdu_of, cut_of}
use Rattle.bay_transport.specs.Connect.{Confirmation}
use Rattle.bay_transport.specs.Doings.{Doing, Answers, Delivers, Ends, Fails, TransportConnection, StreamState, Going, Over, Broken, Run, TpduEffect, Joins, Finishes, Agrees, Closes, Refuses, connect_effect, data_effect, kind_effect, tpdu_effect, effect_of, connection_after, run_with_effect, run_of_rest, frames_run, run_of, Stream, doings, after}
use Rattle.bay_transport.specs.Feeding.{AcceptsOctets, agreed_from, size_agreed, size_after}

-- ---- one TPDU

-- its data join a group or complete it
abbrev Gathers : TpduEffect → Type 0
Gathers (Joins group) = Unit {0}
Gathers (Finishes group) = Unit {0}
Gathers (Agrees size reply) = ⊥
Gathers Closes = ⊥
Gathers (Refuses fault) = ⊥

connected-not : (c : Result Confirmation TransportFault) → Gathers (connect_effect c) → ⊥
connected-not (Ok c) h = h
connected-not (Err fault) h = h

-- data come where a size was agreed
data-sized : (size : Option ℕ) (group : List ℕ) (indicator : ℕ) (octets : List ℕ)
    → Gathers (data_effect (record { size = size; group = group }) indicator octets) → IsSome size
data-sized size group indicator [] h = absurd h
data-sized (Some size) group indicator (mark ∷ octets) h = refl
data-sized None group indicator (mark ∷ octets) h =
    absurd (elim (indicator == 2) as
    (λ b. Gathers (cond b (Refuses BadCotp) (Refuses BadCotp)) → ⊥)
    [ true ↦ λ k. k | false ↦ λ k. k ] h)

kind-sized : (number : ℕ) (connection : TransportConnection) (kind : Tpdu) (indicator : ℕ)
    (octets : List ℕ) → Gathers (kind_effect number connection kind indicator octets)
    → IsSome connection.size
kind-sized number connection Request indicator octets h = absurd (connected-not _ h)
kind-sized number connection Data indicator octets h =
    data-sized connection.size connection.group indicator octets h
kind-sized number connection kind indicator octets h = absurd h

tpdu-sized : (number : ℕ) (connection : TransportConnection) (tpdu : List ℕ)
    → Gathers (tpdu_effect number connection tpdu) → IsSome connection.size
tpdu-sized number connection (indicator ∷ code ∷ octets) h =
    kind-sized number connection (tpdu_of code) indicator octets h
tpdu-sized number connection tpdu h = absurd h

-- ---- the size that is left

rest-size : (front : FramePrefix) (connection : TransportConnection) (rest : List ℕ)
    → agreed_from (run_of_rest front connection rest).state
    ≡ size_after connection.size (run_of_rest front connection rest).doings
rest-size Begun connection rest = refl
rest-size NoFrame connection rest = refl
rest-size (Whole frame) connection rest = refl

effect-size : (effect : TpduEffect) (connection : TransportConnection) (later : Run)
    → agreed_from later.state ≡ size_after (connection_after effect connection).size later.doings
    → agreed_from (run_with_effect effect later).state
    ≡ size_after connection.size (run_with_effect effect later).doings
effect-size (Joins group) connection later same = same
effect-size (Finishes group) connection later same = same
effect-size (Agrees size reply) connection later same = same
effect-size Closes connection later same = refl
effect-size (Refuses fault) connection later same = refl

frames-size : (number : ℕ) (connection : TransportConnection) (frames : List (List ℕ))
    (rest : List ℕ) → agreed_from (frames_run number connection frames rest).state
    ≡ size_after connection.size (frames_run number connection frames rest).doings
frames-size number connection [] rest = rest-size (frame_prefix rest) connection rest
frames-size number connection (frame ∷ frames) rest =
    effect-size (effect_of number connection frame) connection
    (frames_run number (connection_after (effect_of number connection frame) connection) frames
    rest) (frames-size number (connection_after (effect_of number connection frame) connection)
    frames rest)

left-size : (number : ℕ) (left : StreamState) (octets : List ℕ)
    → agreed_from (run_of number left octets).state
    ≡ size_after (agreed_from left) (run_of number left octets).doings
left-size number (Going connection rest) octets =
    frames-size number connection (cut_of (rest ++ octets)).frames (cut_of (rest ++ octets)).rest
left-size number Over octets = refl
left-size number Broken octets = refl

pub after-size : (s : Stream) (octets : List ℕ)
    → size_agreed (after s octets) ≡ size_after (size_agreed s) (doings s octets)
after-size s octets = left-size s.number s.state octets

-- ---- a TSDU

-- Each TSDU of these doings comes where a size is agreed, before them or among them.
abbrev pub AreSized : Option ℕ → List Doing → Type 0
AreSized size [] = Unit {0}
AreSized size (Answers n reply ∷ later) = AreSized (Some n) later
AreSized size (Delivers tsdu ∷ later) = IsSome size × AreSized size later
AreSized size (Ends ∷ later) = Unit {0}
AreSized size (Fails fault ∷ later) = Unit {0}

rest-sized : (front : FramePrefix) (connection : TransportConnection) (rest : List ℕ)
    → AreSized connection.size (run_of_rest front connection rest).doings
rest-sized Begun connection rest = tt
rest-sized NoFrame connection rest = tt
rest-sized (Whole frame) connection rest = tt

effect-sized : (effect : TpduEffect) (connection : TransportConnection) (later : Run)
    → (Gathers effect → IsSome connection.size)
    → AreSized (connection_after effect connection).size later.doings
    → AreSized connection.size (run_with_effect effect later).doings
effect-sized (Joins group) connection later some rest = rest
effect-sized (Finishes group) connection later some rest = (some tt, rest)
effect-sized (Agrees size reply) connection later some rest = rest
effect-sized Closes connection later some rest = tt
effect-sized (Refuses fault) connection later some rest = tt

frames-sized : (number : ℕ) (connection : TransportConnection) (frames : List (List ℕ))
    (rest : List ℕ) → AreSized connection.size (frames_run number connection frames rest).doings
frames-sized number connection [] rest = rest-sized (frame_prefix rest) connection rest
frames-sized number connection (frame ∷ frames) rest =
    let next : TransportConnection =
    connection_after (effect_of number connection frame) connection in
    effect-sized (effect_of number connection frame) connection (frames_run number next frames rest)
    (tpdu-sized number connection (drop 4 frame)) (frames-sized number next frames rest)

left-sized : (number : ℕ) (left : StreamState) (octets : List ℕ)
    → AreSized (agreed_from left) (run_of number left octets).doings
left-sized number (Going connection rest) octets =
    frames-sized number connection (cut_of (rest ++ octets)).frames (cut_of (rest ++ octets)).rest
left-sized number Over octets = tt
left-sized number Broken octets = tt

pub doings-sized : (s : Stream) (octets : List ℕ) → AreSized (size_agreed s) (doings s octets)
doings-sized s octets = left-sized s.number s.state octets

pub delivers-size : (s : Stream) (octets tsdu : List ℕ) (later : List Doing)
    → doings s octets ≡ Delivers tsdu ∷ later → IsSome (size_agreed s)
delivers-size s octets tsdu later e =
    let sized : AreSized (size_agreed s) (Delivers tsdu ∷ later) =
    subst (AreSized (size_agreed s)) e (doings-sized s octets) in
    sized.0

-- ---- what comes to nothing

rest-going : (front : FramePrefix) (connection : TransportConnection) (rest : List ℕ)
    → (run_of_rest front connection rest).doings ≡ []
    → AcceptsOctets (run_of_rest front connection rest).state
rest-going Begun connection rest e = tt
rest-going NoFrame connection rest e = cc
rest-going (Whole frame) connection rest e = tt

effect-going : (effect : TpduEffect) (later : Run) → (run_with_effect effect later).doings ≡ []
    → (later.doings ≡ [] → AcceptsOctets later.state)
    → AcceptsOctets (run_with_effect effect later).state
effect-going (Joins group) later e going = going e
effect-going effect later e going = cc

frames-going : (number : ℕ) (connection : TransportConnection) (frames : List (List ℕ))
    (rest : List ℕ) → (frames_run number connection frames rest).doings ≡ []
    → AcceptsOctets (frames_run number connection frames rest).state
frames-going number connection [] rest e = rest-going (frame_prefix rest) connection rest e
frames-going number connection (frame ∷ frames) rest e =
    let next = connection_after (effect_of number connection frame) connection in
    effect-going (effect_of number connection frame) (frames_run number next frames rest) e
    (frames-going number next frames rest)

left-going : (number : ℕ) (left : StreamState) (octets : List ℕ) → AcceptsOctets left
    → (run_of number left octets).doings ≡ [] → AcceptsOctets (run_of number left octets).state
left-going number (Going connection rest) octets going e =
    frames-going number connection (cut_of (rest ++ octets)).frames (cut_of (rest ++ octets)).rest e
left-going number Over octets going e = absurd going
left-going number Broken octets going e = absurd going

pub quiet-going : (s : Stream) (octets : List ℕ) → AcceptsOctets s.state → doings s octets ≡ []
    → AcceptsOctets (after s octets).state
quiet-going s octets going e = left-going s.number s.state octets going e
