-- What the device sends for octets of an association, it sends to that association.
use Rattle.std.proofs.Common.{◌≡◌, ◌<◌, ℕ, zero, suc, Bool, true, cond, List, [], ◌∷◌, ◌++◌, length, map, Option, Some, None, Result, Ok, IfOk, refl, ap, subst, ◌∙◌, append_assoc, arith}
use Rattle.std.specs.List.{AllByRecursion, Contains, slice_index_or}
use Rattle.std.proofs.lemmas.Bool.{eq-eqb}
use Rattle.std.proofs.lemmas.List.Elements.{All-contains}
use Rattle.bay_connection.specs.ConnectionStates.{Indication, ConnectionState, answers, delivers, releases, ends, fails, indications, octets_to_send}
use Rattle.bay_mms_services.specs.Answers.{AnswerData, pdu_answer}
use Rattle.bay_mms_services.proofs.ReleaseLemmas.{all-of}
use Rattle.bay_device.specs.Device.{State, bay_of, device_at}
use Rattle.bay_device.specs.Receiving.{ReceiveResult, StepState, after_indications, after_pdu, client_at, on_indication, sent_on, with_sent}
use Rattle.bay_device.specs.Outcomes.{Outcome, connection_at, event_outcome, last_moment, step_start, octets_outcome, outcome, slot_of, recv_outcome, refusal_outcome}
use Rattle.bay_device.specs.declared.event.Event.TheVariants.{Recv}
use Rattle.bay_device.specs.declared.event.Sent.{Sent}
use Rattle.bay_device.specs.declared.event.Step.{Step}
use Rattle.bay_device.specs.declared.fault.StepFault.{StepFault}
use Rattle.bay_device.specs.declared.fault.StepFault.TheVariants.{MomentTooLarge, TimeWentBack}
use Rattle.std.specs.Borrow.{Bor}
use Rattle.std.proofs.Common.{nat_lt, false}
use Rattle.bay_server_turn_laws.specs.Flows.{sends_to, octets_to}
use Rattle.cmd_serve.specs.Requests.{IsPartOf}

-- ---- lists

pub record Mapped {A B : Type 0} (f : A → B) (xs : List A) (y : B) : Type 0 where
  pub item : A
  pub among : Contains xs item
  pub is : f item ≡ y

-- what a mapped list contains comes from an element
pub mapped : {A B : Type 0} (f : A → B) (xs : List A) (y : B) → Contains (map f xs) y
    → Mapped f xs y
mapped f xs y has = at xs has.0 has.1 has.2
  where
    at : (xs : List _) (k : ℕ) → k < length (map f xs) → slice_index_or (map f xs) k y ≡ y
        → Mapped f xs y
    at [] k low is = absurd (omega (arith, low))
    at (x ∷ xs) zero low is =
        record { item = x; among = (0, omega arith, refl); is = is }
    at (x ∷ xs) (suc k) low is =
        let later = at xs k (omega (arith, low)) is in
        record {
          item = later.item;
          among = (suc later.among.0, omega (arith, later.among.1), later.among.2);
          is = later.is;
        }

-- ---- to whom

-- it is sent to the association
abbrev pub IsTo : ℕ → Sent → Type 0
IsTo a sent = sent.association ≡ a

all-to : (a : ℕ) (terms : _) (old : List Sent) (pdus : List (List ℕ))
    → AllByRecursion (IsTo a) old
    → AllByRecursion (IsTo a) (old ++ map (λ pdu. sent_on a (octets_to_send terms pdu)) pdus)
all-to a terms [] [] old = tt
all-to a terms [] (pdu ∷ pdus) old = (refl, all-to a terms [] pdus tt)
all-to a terms (x ∷ xs) pdus old = (old.0, all-to a terms xs pdus old.1)

one-to : (a : ℕ) (octets : List ℕ) (old : List Sent) → AllByRecursion (IsTo a) old
    → AllByRecursion (IsTo a) (old ++ sent_on a octets ∷ [])
one-to a octets [] old = (refl, tt)
one-to a octets (x ∷ xs) old = (old.0, one-to a octets xs old.1)

module _ (now a : ℕ) where
  heard-one : (i : Indication) (d : StepState) (later : StepState → ReceiveResult)
      → AllByRecursion (IsTo a) d.sent
      → ((e : StepState) → AllByRecursion (IsTo a) e.sent
      → AllByRecursion (IsTo a) (later e).done.sent)
      → AllByRecursion (IsTo a) (on_indication now a i d later).done.sent
  heard-one (answers octets) d later to more =
      more (with_sent a octets d) (one-to a octets d.sent to)
  heard-one (delivers terms pdu) d later to more =
      let x : AnswerData = pdu_answer (client_at now a terms d.state) pdu (bay_of d.state) in
      more (after_pdu now a terms pdu d) (all-to a terms d.sent x.sent to)
  heard-one (releases octets) d later to more = one-to a octets d.sent to
  heard-one ends d later to more = to
  heard-one (fails code) d later to more = to

  heard-to : (choice : Option ℕ) (is : List Indication) (d : StepState)
      → AllByRecursion (IsTo a) d.sent
      → AllByRecursion (IsTo a) (after_indications choice now a is d).done.sent
  heard-to None [] d to = to
  heard-to None (i ∷ is) d to =
      heard-one i d (after_indications None now a is) to (heard-to None is)
  heard-to (Some zero) [] d to = to
  heard-to (Some zero) (i ∷ is) d to = to
  heard-to (Some (suc n)) [] d to = to
  heard-to (Some (suc n)) (i ∷ is) d to =
      heard-one i d (after_indications (Some n) now a is) to (heard-to (Some n) is)

  -- what an answer sends is sent to the association
  abbrev AreTo : Result Step StepFault → Type 0
  AreTo answer = IfOk answer (λ step. AllByRecursion (IsTo a) step.sent)

  octets-to : (choice : Option ℕ) (s : State) (talk : ConnectionState) (octets : List ℕ)
      → AreTo (octets_outcome choice now a s talk octets).answer
  octets-to choice s talk [] = tt
  octets-to choice s talk (octet ∷ octets) =
      heard-to choice (indications talk (octet ∷ octets)) (step_start (device_at now s)) tt

  recv-to : (choice : Option ℕ) (s : State) (octets : List ℕ) (talk : Option ConnectionState)
      → AreTo (recv_outcome choice now a octets s talk).answer
  recv-to choice s octets None = tt
  recv-to choice s octets (Some talk) = octets-to choice s talk octets

  to-if : (late early : Bool) (s : State) (o : Outcome) → AreTo o.answer
      → let x : Outcome =
      cond late (refusal_outcome MomentTooLarge s) (cond early (refusal_outcome TimeWentBack s) o)
      in
      AreTo x.answer
  to-if true early s o to = tt
  to-if false true s o to = tt
  to-if false false s o to = to

  pub sent-to : (choice : Option ℕ) (s : State) (octets : Bor (List ℕ)) (step : Step) (sent : Sent)
      → (outcome choice now (Recv a octets) s).answer ≡ Ok step → Contains step.sent sent
      → sent.association ≡ a
  sent-to choice s octets step sent answered has =
      let all : AreTo (outcome choice now (Recv a octets) s).answer =
      to-if (nat_lt last_moment now) (nat_lt now s.moment) s
      (event_outcome choice now (Recv a octets) s)
      (recv-to choice s octets.now (connection_at (slot_of a) s)) in
      let to : AllByRecursion (IsTo a) step.sent = subst AreTo answered all in
      All-contains (IsTo a) step.sent sent (all-of (IsTo a) step.sent to) has

-- ---- the octets that are sent

to-itself : (a : ℕ) (sent : Sent) → sent.association ≡ a → octets_to a sent ≡ sent.octets
to-itself a sent to =
    ap (λ b. cond b sent.octets []) (eq-eqb sent.association a to)

pub stands-in : (a : ℕ) (all : List Sent) (sent : Sent) → Contains all sent
    → sent.association ≡ a → IsPartOf sent.octets (sends_to a all)
stands-in a all sent has to = at all has.0 has.1 has.2
  where
    at : (all : List Sent) (k : ℕ) → k < length all → slice_index_or all k sent ≡ sent
        → IsPartOf sent.octets (sends_to a all)
    at [] k low is = absurd (omega (arith, low))
    at (x ∷ all) zero low is = (
      [],
      sends_to a all,
      ap (λ l. l ++ sends_to a all) (ap (octets_to a) is ∙ to-itself a sent to),
    )
    at (x ∷ all) (suc k) low is =
        let later = at all k (omega (arith, low)) is in (
          octets_to a x ++ later.0,
          later.1,
          ap (λ l. octets_to a x ++ l) later.2
              ∙ grouped (octets_to a x) later.0 sent.octets later.1,
        )
      where
        grouped : (w x y z : List ℕ) → w ++ (x ++ y ++ z) ≡ (w ++ x) ++ y ++ z
        grouped w x y z = simp append_assoc
