-- No event changes the domain or the revision of a device.
use Rattle.std.proofs.Common.{◌≡◌, ℕ, zero, suc, nat_lt, slice_get, Bool, true, false, cond, List, [], ◌∷◌, Option, Some, None, refl, ◌∙◌}
use Rattle.bay_connection.specs.ConnectionStates.{Indication, ConnectionState, Terms, answers, delivers, releases, ends, fails, indications, connection_after}
use Rattle.bay_mms_services.specs.Answers.{pdu_answer}
use Rattle.bay_mms_services.specs.Bay.{Bay}
use Rattle.bay_mms_services.specs.declared.client.ClientContext.{ClientContext}
use Rattle.bay_mms.specs.Grammar.{request_in}
use Rattle.bay_mms_services.proofs.WalkLemmas.{answer-by}
use Rattle.bay_nodes.specs.declared.switch.Switch.{Switch}
use Rattle.bay_device.specs.Device.{State, bay_of, device_at, device_after_loss}
use Rattle.bay_device.specs.Receiving.{ReceiveResult, StepState, after_indications, after_pdu, client_at, on_indication, with_sent}
use Rattle.bay_device.specs.Outcomes.{Outcome, bad_measure_outcome, close_outcome, connection_at, contact_outcome, event_outcome, initial_connection, input_outcome, last_moment, measure_outcome, step_start, octets_outcome, open_outcome, outcome, slot_of, recv_after, recv_outcome, refusal_outcome, with_connection, without_owner}
use Rattle.bay_device.specs.declared.event.Event.{Event}
use Rattle.bay_device.specs.declared.event.Event.TheVariants.{Open, Recv, Close, Contact, Input, Measure, BadMeasure, Lost, Scan}
use Rattle.bay_device.specs.declared.event.Why.{Why}
use Rattle.bay_device.specs.declared.fault.StepFault.TheVariants.{MomentTooLarge, TimeWentBack}
use Rattle.bay_device.proofs.LostLemmas.{loss-passes}
use Rattle.bay_server_turn_laws.specs.Events.{ChosenEvent, outcomes_at}

-- The domain and the revision are the same.
pub record SameNames (s t : State) : Type 0 where
  pub domain : t.domain ≡ s.domain
  pub revision : t.revision ≡ s.revision

abbrev names-refl : (s : State) → SameNames s s
names-refl s = record { domain = refl; revision = refl }

pub names-then : (s t u : State) → SameNames s t → SameNames t u → SameNames s u
names-then s t u p q =
    record { domain = q.domain ∙ p.domain; revision = q.revision ∙ p.revision }

names-with : (s : State) (o : Option ℕ) (x : Option ConnectionState) (t : State) → SameNames s t
    → SameNames s (with_connection o x t)
names-with s None x t same = same
names-with s (Some place) x t same =
    record { domain = same.domain; revision = same.revision }

-- ---- octets

domain-stays : (c : ClientContext) (pdu : List ℕ) (b : Bay)
    → (pdu_answer c pdu b).after.domain ≡ b.domain
domain-stays c pdu b =
    answer-by c b (λ entries x. x.after.domain ≡ b.domain) (λ pdu few. refl) (λ id ns is. refl)
    (λ id ns values is. refl) (request_in pdu)

revision-stays : (c : ClientContext) (pdu : List ℕ) (b : Bay)
    → (pdu_answer c pdu b).after.revision ≡ b.revision
revision-stays c pdu b =
    answer-by c b (λ entries x. x.after.revision ≡ b.revision) (λ pdu few. refl) (λ id ns is. refl)
    (λ id ns values is. refl) (request_in pdu)

names-said : (now a : ℕ) (terms : Terms) (pdu : List ℕ) (s : State) (d : StepState)
    → SameNames s d.state → SameNames s (after_pdu now a terms pdu d).state
names-said now a terms pdu s d same =
    let c = client_at now a terms d.state in
    let b = bay_of d.state in
    record {
      domain = domain-stays c pdu b ∙ same.domain;
      revision = revision-stays c pdu b ∙ same.revision;
    }

names-one : (now a : ℕ) (i : Indication) (s : State) (d : StepState)
    (later : StepState → ReceiveResult)
    → SameNames s d.state
    → ((e : StepState) → SameNames s e.state → SameNames s (later e).done.state)
    → SameNames s (on_indication now a i d later).done.state
names-one now a (answers octets) s d later same rest = rest (with_sent a octets d) same
names-one now a (delivers terms pdu) s d later same rest =
    rest (after_pdu now a terms pdu d) (names-said now a terms pdu s d same)
names-one now a (releases octets) s d later same rest = same
names-one now a ends s d later same rest = same
names-one now a (fails code) s d later same rest = same

names-indications : (choice : Option ℕ) (now a : ℕ) (is : List Indication) (s : State)
    (d : StepState)
    → SameNames s d.state → SameNames s (after_indications choice now a is d).done.state
names-indications None now a [] s d same = same
names-indications None now a (i ∷ is) s d same =
    names-one now a i s d (after_indications None now a is) same
    (λ e p. names-indications None now a is s e p)
names-indications (Some zero) now a [] s d same = same
names-indications (Some zero) now a (i ∷ is) s d same = same
names-indications (Some (suc n)) now a [] s d same = same
names-indications (Some (suc n)) now a (i ∷ is) s d same =
    names-one now a i s d (after_indications (Some n) now a is) same
    (λ e p. names-indications (Some n) now a is s e p)

-- ---- events

module _ (now : ℕ) (s : State) where
  names-left : (a : ℕ) (left : ConnectionState) (t : State) (why : Option Why) → SameNames s t
      → SameNames s (recv_after a left t why)
  names-left a left t None same = names-with s (slot_of a) (Some left) t same
  names-left a left t (Some why) same =
      names-with s (slot_of a) None (without_owner a t)
      (record { domain = same.domain; revision = same.revision })

  names-open : (a : ℕ) (o : Option ℕ) (talk : Option ConnectionState)
      → SameNames s (open_outcome now a s o talk).after
  names-open a None talk = names-refl s
  names-open a (Some place) (Some talk) = names-refl s
  names-open a (Some place) None =
      names-with s (slot_of a) (Some (initial_connection a)) (device_at now s)
      (record { domain = refl; revision = refl })

  names-close : (a : ℕ) (talk : Option ConnectionState)
      → SameNames s (close_outcome now a s talk).after
  names-close a None = names-refl s
  names-close a (Some talk) =
      names-with s (slot_of a) None (without_owner a (device_at now s))
      (record { domain = refl; revision = refl })

  names-octets : (choice : Option ℕ) (a : ℕ) (talk : ConnectionState) (octets : List ℕ)
      → SameNames s (octets_outcome choice now a s talk octets).after
  names-octets choice a talk [] = record { domain = refl; revision = refl }
  names-octets choice a talk (octet ∷ octets) =
      let is : List Indication = indications talk (octet ∷ octets) in
      let h : ReceiveResult = after_indications choice now a is (step_start (device_at now s)) in
      names-left a (connection_after talk (octet ∷ octets)) h.done.state h.why
      (names-indications choice now a is s (step_start (device_at now s))
      (record { domain = refl; revision = refl }))

  names-heard : (choice : Option ℕ) (a : ℕ) (octets : List ℕ) (talk : Option ConnectionState)
      → SameNames s (recv_outcome choice now a octets s talk).after
  names-heard choice a octets None = names-refl s
  names-heard choice a octets (Some talk) = names-octets choice a talk octets

  names-event : (choice : Option ℕ) (event : Event)
      → SameNames s (event_outcome choice now event s).after
  names-event choice (Open a) = names-open a (slot_of a) (connection_at (slot_of a) s)
  names-event choice (Recv a octets) =
      names-heard choice a octets.now (connection_at (slot_of a) s)
  names-event choice (Close a) = names-close a (connection_at (slot_of a) s)
  names-event choice (Contact k position) = by-point (slice_get s.switches k)
    where
      by-point : (o : Option Switch) → SameNames s (contact_outcome now k position s o).after
      by-point None = names-refl s
      by-point (Some switch) = record { domain = refl; revision = refl }
  names-event choice (Input k value) = by-point (slice_get s.input_values k)
    where
      by-point : (o : Option Bool) → SameNames s (input_outcome now k value s o).after
      by-point None = names-refl s
      by-point (Some before) = record { domain = refl; revision = refl }
  names-event choice (Measure k field value) = by-point (slice_get s.meters k)
    where
      by-point : (o : Option (List ℕ)) → SameNames s (measure_outcome now k field value s o).after
      by-point None = names-refl s
      by-point (Some id) = record { domain = refl; revision = refl }
  names-event choice (BadMeasure k field) = by-point (slice_get s.meters k)
    where
      by-point : (o : Option (List ℕ)) → SameNames s (bad_measure_outcome now k field s o).after
      by-point None = names-refl s
      by-point (Some id) = record { domain = refl; revision = refl }
  names-event choice Lost =
      let lost : SameNames s (device_after_loss now (device_at now s)) =
      loss-passes (λ t. SameNames s t) now
      (λ k switch t p. record { domain = p.domain; revision = p.revision })
      (λ k field t p. record { domain = p.domain; revision = p.revision })
      (λ t p. record { domain = p.domain; revision = p.revision })
      (λ t p. record { domain = p.domain; revision = p.revision }) (device_at now s)
      (record { domain = refl; revision = refl }) in
      record { domain = lost.domain; revision = lost.revision }
  names-event choice Scan = record { domain = refl; revision = refl }

  names-unless : (late early : Bool) (o : Outcome) → SameNames s o.after
      → SameNames s (cond late (refusal_outcome MomentTooLarge s)
      (cond early (refusal_outcome TimeWentBack s) o)).after
  names-unless true early o same = names-refl s
  names-unless false true o same = names-refl s
  names-unless false false o same = same

  names-outcome : (choice : Option ℕ) (event : Event)
      → SameNames s (outcome choice now event s).after
  names-outcome choice event =
      names-unless (nat_lt last_moment now) (nat_lt now s.moment)
      (event_outcome choice now event s) (names-event choice event)

-- so it is of all events of a turn
pub names-events : (now : ℕ) (es : List ChosenEvent) (s : State)
    → SameNames s (outcomes_at now es s).after
names-events now [] s = names-refl s
names-events now (e ∷ es) s =
    let t : State = (outcome e.0 now e.1 s).after in
    names-then s t (outcomes_at now es t).after (names-outcome now s e.0 e.1)
    (names-events now es t)
