-- What a turn has told stays told, and whom an answer closes.
use Rattle.std.proofs.Common.{Bool, Err, List, None, Ok, Option, Result, Some, [], ap, append-nil, append_assoc, cond, false, refl, sym, true, ℕ, ◌++◌, ◌+◌, ◌==◌, ◌∙◌, ◌∷◌, ◌≡◌, ◌≢◌}
use Rattle.bay_connection.specs.ConnectionStates.{ConnectionState}
use Rattle.bay_device.specs.Device.{State}
use Rattle.bay_device.specs.Outcomes.{closed_by, connection_at, octets_outcome, outcome, slot_of, recv_outcome}
use Rattle.bay_device.specs.declared.event.Event.TheVariants.{Recv}
use Rattle.bay_device.specs.declared.event.Step.{Step}
use Rattle.bay_device.specs.declared.event.Why.{Why}
use Rattle.bay_device.specs.declared.event.Why.TheVariants.{Ended, Fault, Memory}
use Rattle.bay_device.specs.declared.fault.StepFault.{StepFault}
use Rattle.bay_trace.specs.Resolving.{borrow_of}
use Rattle.bay_server_turn.specs.AssociationStates.{is_close_reported}
use Rattle.bay_server_turn.specs.Turns.{TurnData, noted_state, close_reported, with_closing}
use Rattle.bay_server_turn.specs.declared.association_state.AssociationState.{AssociationState}
use Rattle.bay_server_turn.specs.declared.association_state.AssociationState.TheVariants.{Full, Closed, Draining, DrainingFull, Steady}
use Rattle.bay_server_turn.specs.declared.turn_report.CloseReason.{CloseReason}
use Rattle.bay_server_turn.specs.declared.turn_report.CloseReason.TheVariants as closing
use Rattle.bay_server_turn_laws.specs.Causes.{reason_in, reasons_of}
use Rattle.bay_server_turn_laws.specs.CloseReports.{closed_in}
use Rattle.bay_server_turn_laws.proofs.CallLemmas.{other-number}
use Rattle.bay_server_turn_laws.proofs.CarryLemmas.{MayLose}
use Rattle.bay_server_turn_laws.proofs.KeepLemmas.{Each, IsNoted}
use Rattle.bay_server_turn_laws.proofs.QuietLemmas.{IsQuiet, at_any_moment}

-- ---- what is told stays told

-- no closing that was told before is gone
pub record IsLonger (before after : List (ℕ × CloseReason)) : Type 0 where
  pub closings : List (ℕ × CloseReason)
  pub closed : after ≡ before ++ closings

-- what was told is told still
abbrev pub Grown : TurnData → TurnData → Type 0
Grown n m = IsLonger n.closed m.closed

pub Grown-refl : (n : TurnData) → Grown n n
Grown-refl n = record { closings = []; closed = sym (append-nil n.closed) }

pub Grown-trans : (l m n : TurnData) → Grown l m → Grown m n → Grown l n
Grown-trans l m n a b = record {
  closings = a.closings ++ b.closings;
  closed = b.closed ∙ ap (λ x. x ++ b.closings) a.closed
      ∙ append_assoc l.closed a.closings b.closings;
}

told-grown : (l n : TurnData) (slot : ℕ) (why : CloseReason) → Grown l n
    → Grown l (with_closing slot why n)
told-grown l n slot why g = if-told (is_close_reported (noted_state slot n))
  where
    if-told : (b : Bool)
        → Grown l (cond b n (record n { closed = n.closed ++ (slot + 1, why) ∷ [] }))
    if-told true = g
    if-told false =
        Grown-trans l n (record n { closed = n.closed ++ (slot + 1, why) ∷ [] }) g
        (record { closings = (slot + 1, why) ∷ []; closed = refl })

why-grown : (l n : TurnData) (slot : ℕ) (why : Why) → Grown l n
    → Grown l (close_reported slot why n)
why-grown l n slot Ended g = told-grown l n slot closing.Ended g
why-grown l n slot (Fault code) g = told-grown l n slot (closing.Fault code) g
why-grown l n slot Memory g = if-told (is_close_reported (noted_state slot n))
  where
    if-told : (b : Bool)
        → Grown l (cond b n (record n { memory = n.memory ++ (slot + 1) ∷ [] }))
    if-told true = g
    if-told false = g

pub grown-kept : (most : ℕ) (l : TurnData) → IsNoted most Each (Grown l)
grown-kept most l = record {
  fills = λ slot n sized g. g;
  leaving = λ slot why n sized low may g. why-grown l n slot why g;
  going = λ slot why n sized low may g. told-grown l n slot why g;
  overflows = λ slot n sized low g. told-grown l n slot closing.QueueFull g;
  parts = λ slot n sized e g. g;
  orders = λ commands decisions n g. g;
  refuses = λ code n g. g;
}

-- ---- what comes from an association

-- an answer to octets of an association closes no other
abbrev pub IsOwn : ℕ → Option (ℕ × Why) → Type 0
IsOwn a None = Unit {0}
IsOwn a (Some x) = x.0 ≡ a

closed-own : (a : ℕ) (o : Option Why) → IsOwn a (closed_by a o)
closed-own a None = tt
closed-own a (Some why) = refl

octets-own : (choice : Option ℕ) (now a : ℕ) (s : State) (talk : ConnectionState) (octets : List ℕ)
    → IsOwn a (closed_in (octets_outcome choice now a s talk octets).answer)
octets-own choice now a s talk [] = tt
octets-own choice now a s talk (octet ∷ octets) = closed-own a _

recv-own : (choice : Option ℕ) (now a : ℕ) (octets : List ℕ) (s : State)
    (talk : Option ConnectionState)
    → IsOwn a (closed_in (recv_outcome choice now a octets s talk).answer)
recv-own choice now a octets s None = tt
recv-own choice now a octets s (Some talk) = octets-own choice now a s talk octets

pub outcome-own : (choice : Option ℕ) (now a : ℕ) (octets : List ℕ) (s : State)
    → IsOwn a (closed_in (outcome choice now (Recv a (borrow_of octets)) s).answer)
outcome-own choice now a octets s =
    at_any_moment (λ o. IsOwn a (closed_in o.answer)) choice now (Recv a (borrow_of octets)) s
    (λ f. tt)
    (recv-own choice now a octets s (connection_at (slot_of a) s))

-- an association that is open was not told of
pub up-untold : (x : AssociationState) (up : Bool) (q lost : List ℕ) → MayLose x up q lost
    → up ≡ true
    → is_close_reported x ≡ false
up-untold Steady up q lost m e = refl
up-untold Full up q lost m e = refl
up-untold Draining up q lost m e = absurd (let f : true ≡ false = sym e ∙ m.1 in cc)
up-untold DrainingFull up q lost m e = absurd (let f : true ≡ false = sym e ∙ m in cc)
up-untold Closed up q lost m e = absurd (let f : true ≡ false = sym e ∙ m.1 in cc)

-- ---- answers that say nothing of it

pub reasons-append : (a : ℕ) (xs ys : List (Result Step StepFault))
    → reasons_of a (xs ++ ys) ≡ reasons_of a xs ++ reasons_of a ys
reasons-append a [] ys = refl
reasons-append a (x ∷ xs) ys =
    ap (λ l. reason_in a (closed_in x) ++ l) (reasons-append a xs ys)
    ∙ sym (append_assoc (reason_in a (closed_in x)) (reasons_of a xs) (reasons_of a ys))

-- nothing more
pub plus-none : (z l : List Why) → l ≡ [] → z ≡ z ++ l
plus-none z l e = sym (append-nil z) ∙ ap (λ r. z ++ r) (sym e)

pub quiet-closes : (a : ℕ) (answer : Result Step StepFault) → IsQuiet answer
    → reason_in a (closed_in answer) ≡ []
quiet-closes a (Err fault) q = refl
quiet-closes a (Ok step) q = ap (reason_in a) q.closed

pub other-named : (p slot : ℕ) (o : Option (ℕ × Why)) → slot ≢ p → IsOwn (slot + 1) o
    → reason_in (p + 1) o ≡ []
other-named p slot None ne own = refl
other-named p slot (Some c) ne own =
    ap (λ b. cond b (c.1 ∷ []) []) (ap (λ a. a == p + 1) own ∙ other-number slot p ne)
