-- What is made of an answer.
use Rattle.std.proofs.Common.{◌≡◌, ℕ, List, [], ◌∷◌, ◌++◌, length, map, take, Option, Some, None, IsSome, IfSome, Result, Ok, Err, refl, ap, ap₂, ◌∙◌}
use Rattle.std.specs.Result.{IfOk, OnOk}
use Rattle.bay_assoc.specs.declared.receive.AssociationTerms.{AssociationTerms}
use Rattle.bay_connection.specs.ConnectionStates.{Terms, octets_to_send}
use Rattle.bay_mms_services.specs.Answers.{AnswerData}
use Rattle.bay_mms_services.specs.Bay.{Bay}
use Rattle.bay_mms_services.specs.declared.answer.Command.{Command}
use Rattle.bay_mms_services.specs.declared.answer.ControlDecision.{ControlDecision}
use Rattle.bay_device.specs.Device.{State, with_bay}
use Rattle.bay_device.specs.Receiving.{StepState, answered_with, pending_if, later_pending, sent_on, size_of}
use Rattle.bay_device.specs.declared.termination.PendingTermination.{PendingTermination}
use Rattle.bay_device.specs.declared.event.Sent.{Sent}

-- a front stays a front
pub front-kept : {A : Type 0} (front xs ys : List A) → take (length front) xs ≡ front
    → take (length front) (xs ++ ys) ≡ front
front-kept [] xs ys is = refl
front-kept (a ∷ front) [] ys is = absurd (cc)
front-kept (a ∷ front) (x ∷ xs) ys is =
    let first : x ≡ a = cc in
    let rest : take (length front) xs ≡ front = cc in
    ap (λ b. b ∷ take (length front) (xs ++ ys)) first
    ∙ ap (λ bs. a ∷ bs) (front-kept front xs ys rest)

pub front-whole : {A : Type 0} (xs : List A) → take (length xs) xs ≡ xs
front-whole [] = refl
front-whole (x ∷ xs) = ap (λ ys. x ∷ ys) (front-whole xs)

pub front-of : {A : Type 0} (xs ys : List A) → take (length xs) (xs ++ ys) ≡ xs
front-of xs ys = front-kept xs xs ys (front-whole xs)

-- a device, and what is made of it
abbrev done : State → List Sent → List Command → List ControlDecision → StepState
done s sent commands decisions =
    record { state = s; sent = sent; commands = commands; decisions = decisions }

-- what an answer comes to
pub answered-done : (a : ℕ) (terms : Terms) (x : AnswerData) (s : State) (sent made : List Sent)
    (commands obeyed : List Command) (before decisions : List ControlDecision) (b : Bay)
    (pending : Option PendingTermination) → b ≡ x.after
    → pending ≡ later_pending s.pending (pending_if a terms x.termination)
    → made ≡ sent ++ map (λ pdu. sent_on a (octets_to_send terms pdu)) x.sent
    → obeyed ≡ commands ++ x.commands → decisions ≡ before ++ x.decisions
    → done (record (with_bay b s) { pending = pending }) made obeyed decisions
    ≡ answered_with a terms x (done s sent commands before)
answered-done a terms x s sent made commands obeyed before decisions b pending after is sends does
    decides =
    ap (λ (y : Bay). done (record (with_bay y s) { pending = pending }) made obeyed decisions) after
    ∙ ap (λ (y : Option PendingTermination). done (record (with_bay x.after s) { pending = y }) made
    obeyed decisions)
    is
    ∙ ap (λ (y : List Sent). done
    (record (with_bay x.after s)
    { pending = later_pending s.pending (pending_if a terms x.termination) }) y obeyed
    decisions) sends
    ∙ ap₂ (done (record (with_bay x.after s)
    { pending = later_pending s.pending (pending_if a terms x.termination) })
    (sent ++ map (λ pdu. sent_on a (octets_to_send terms pdu)) x.sent)) does decides

pub all-ok : {T E : Type 0} (r : Result T E) (P R : T → Type 0) (S U V : Type 0) → IfOk r P
    → OnOk r S → OnOk r U → OnOk r V → ((x : T) → P x → S → U → V → R x) → IfOk r R
all-ok (Ok x) P R S U V p s u v f = f x p s u v
all-ok (Err e) P R S U V p s u v f = tt

-- the size that is agreed
pub size-is : (o : Option AssociationTerms) (n : ℕ) → IsSome o
    → IfSome o (λ (l : AssociationTerms). n ≡ l.size) → n ≡ size_of o
size-is None n some is = absurd (cc)
size-is (Some l) n some is = is
