-- What octets come to does not hang on how they are cut into pieces.
use Rattle.std.proofs.Common.{◌≡◌, ℕ, List, [], ◌∷◌, ◌++◌, take, drop, Option, Some, Result, Ok, Err, refl, sym, ap, ◌∙◌}
use Rattle.std.proofs.lemmas.List.{take-append-drop}
use Rattle.bay_transport.specs.Doings.{Doing, Answers, Delivers, Ends, Fails, Stream, doings, after}
use Rattle.bay_transport.specs.Feeding.{size_agreed, size_after}
use Rattle.bay_transport.proofs.RunLemmas.{doings-append, after-append}
use Rattle.bay_transport.proofs.SizeLemmas.{after-size}
use Rattle.bay_assoc.specs.declared.fault.AssocFault.{AssocFault}
use Rattle.bay_assoc.specs.declared.receive.Phase.{Phase}
use Rattle.bay_assoc.specs.TsduMeanings.{TsduMeaning, answer, mms, released, aborted, tsdu_meaning}
use Rattle.bay_connection.specs.ConnectionStates.{ConnectionState, Terms, answers, delivers, ConnectionStep, step_on_tsdu, step_on_tsdu_result, data_tpdus, after_doings, connection_step, indications, connection_after}
use Rattle.bay_connection.specs.Feeding.{and_then}

-- ---- doings, and then octets

heard-cut : (s : Stream) (h : TsduMeaning) (terms : Terms) (piece : List ℕ)
    (longer later : ConnectionStep)
    → longer ≡ and_then later (connection_step later.state piece)
    → step_on_tsdu (after s piece) h terms longer
    ≡ and_then (step_on_tsdu s h terms later)
    (connection_step (step_on_tsdu s h terms later).state piece)
heard-cut s (answer tsdu) terms piece longer later e =
    ap (λ (t : ConnectionStep). let r : ConnectionStep =
    record { indications = answers (data_tpdus terms.size tsdu) ∷ t.indications; state = t.state } in
    r) e
heard-cut s (mms pdu) terms piece longer later e =
    ap (λ (t : ConnectionStep). let r : ConnectionStep =
    record { indications = delivers terms pdu ∷ t.indications; state = t.state } in r) e
heard-cut s (released tsdu) terms piece longer later e = refl
heard-cut s aborted terms piece longer later e = refl

hearing-cut : (s : Stream) (r : Result (TsduMeaning × Phase) AssocFault) (size : Option ℕ)
    (piece : List ℕ) (longer later : Phase → ConnectionStep)
    → ((p : Phase) → longer p ≡ and_then (later p) (connection_step (later p).state piece))
    → step_on_tsdu_result size (after s piece) r longer
    ≡ and_then (step_on_tsdu_result size s r later)
    (connection_step (step_on_tsdu_result size s r later).state piece)
hearing-cut s (Ok x) size piece longer later e =
    heard-cut s x.0 (record { size = size; phase = x.1 }) piece (longer x.1) (later x.1) (e x.1)
hearing-cut s (Err fault) size piece longer later e = refl

told-cut : (s : Stream) (ds : List Doing) (size : Option ℕ) (phase : Phase) (piece : List ℕ)
    → size_agreed s ≡ size_after size ds
    → after_doings (after s piece) (ds ++ doings s piece) size phase
    ≡ and_then (after_doings s ds size phase)
    (connection_step (after_doings s ds size phase).state piece)
told-cut s [] size phase piece e =
    ap (λ (z : Option ℕ). after_doings (after s piece) (doings s piece) z phase) (sym e)
told-cut s (Answers n reply ∷ ds) size phase piece e =
    ap (λ (t : ConnectionStep). let r : ConnectionStep =
    record { indications = answers reply ∷ t.indications; state = t.state } in r)
    (told-cut s ds (Some n) phase piece e)
told-cut s (Delivers tsdu ∷ ds) size phase piece e =
    hearing-cut s (tsdu_meaning phase tsdu) size piece
    (after_doings (after s piece) (ds ++ doings s piece) size)
    (after_doings s ds size) (λ p. told-cut s ds size p piece e)
told-cut s (Ends ∷ ds) size phase piece e = refl
told-cut s (Fails fault ∷ ds) size phase piece e = refl

-- ---- octets

pub comes_to-append : (t : ConnectionState) (octets piece : List ℕ)
    → connection_step t (octets ++ piece)
    ≡ and_then (connection_step t octets) (connection_step (connection_after t octets) piece)
comes_to-append t octets piece =
    ap (λ (s : Stream). after_doings s (doings t.stream (octets ++ piece)) (size_agreed t.stream)
    t.phase)
    (after-append t.stream octets piece)
    ∙ ap (λ (ds : List Doing). after_doings (after (after t.stream octets) piece) ds
    (size_agreed t.stream)
    t.phase) (doings-append t.stream octets piece)
    ∙ told-cut (after t.stream octets) (doings t.stream octets) (size_agreed t.stream) t.phase piece
    (after-size t.stream octets)

pub indications-append : (t : ConnectionState) (octets piece : List ℕ)
    → indications t (octets ++ piece)
    ≡ indications t octets ++ indications (connection_after t octets) piece
indications-append t octets piece =
    ap (λ (r : ConnectionStep). r.indications) (comes_to-append t octets piece)

pub left_by-append : (t : ConnectionState) (octets piece : List ℕ)
    → connection_after t (octets ++ piece) ≡ connection_after (connection_after t octets) piece
left_by-append t octets piece =
    ap (λ (r : ConnectionStep). r.state) (comes_to-append t octets piece)

pub indications-take : (t : ConnectionState) (piece : List ℕ) (used : ℕ)
    → indications t piece ≡ indications t (take used piece)
    ++ indications (connection_after t (take used piece)) (drop used piece)
indications-take t piece used =
    ap (indications t) (sym (take-append-drop used piece))
    ∙ indications-append t (take used piece) (drop used piece)

pub left_by-take : (t : ConnectionState) (piece : List ℕ) (used : ℕ)
    → connection_after t piece
    ≡ connection_after (connection_after t (take used piece)) (drop used piece)
left_by-take t piece used =
    ap (connection_after t) (sym (take-append-drop used piece))
    ∙ left_by-append t (take used piece) (drop used piece)
