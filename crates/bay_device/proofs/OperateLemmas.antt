-- The commands of events are the operates that are accepted in what they tell.
use Rattle.std.proofs.Common.{◌≡◌, ℕ, ℤ, zero, suc, Bool, true, false, ◌&&◌, cond, nat_lt, List, [], ◌∷◌, ◌++◌, slice_get, Option, None, Some, Result, Ok, Err, IfOk, ◌⊎◌, inl, inr, refl, ap, sym, ◌∙◌, subst, arith, append-nil, append_assoc}
use Rattle.std.specs.List.{Contains}
use Rattle.std.proofs.lemmas.List.Elements.{Contains-append_cases, Contains-append_left, Contains-append_right}
use Rattle.bay_base.specs.declared.point.MeterField.{MeterField}
use Rattle.bay_connection.specs.ConnectionStates.{Indication, ConnectionState, Terms, answers, delivers, releases, ends as ends-heard, fails, indications}
use Rattle.bay_control.specs.Acts.{Entry}
use Rattle.bay_mms.specs.Grammar.{request_in}
use Rattle.bay_nodes.specs.declared.switch.Switch.{Switch}
use Rattle.bay_mms_services.specs.ObservedEntries.{AreNamedAlike, observed_in_pdu, first_response, is_report, request_may_report}
use Rattle.bay_mms_services.specs.Bay.{Bay}
use Rattle.bay_mms_services.specs.Entries.{entries_on_pdu, operates_in}
use Rattle.bay_mms_services.specs.declared.answer.Command.{Command}
use Rattle.bay_mms_services.specs.declared.client.ClientContext.{ClientContext}
use Rattle.bay_mms_services.proofs.OperateLemmas.{answer-operates, operates-append}
use Rattle.bay_base.specs.declared.position.Dbpos.{Dbpos}
use Rattle.bay_device.specs.Device.{State, device_at, bay_of}
use Rattle.bay_device.specs.Entries.{entries_at, entries_on_close, entries_on_closing, entries_on_indications, entries_on_octets, entries_on_event, entries_on_indication, entries_on_open, entries_on_recv}
use Rattle.bay_device.specs.Receiving.{StepState, ReceiveResult, client_at, after_indications, on_indication, after_pdu, with_sent}
use Rattle.bay_device.specs.Operates.{AreOperates, AreReplied, AreRepliedForEvent, IsReplied}
use Rattle.bay_device.specs.Outcomes.{Outcome, close_outcome, connection_at, contact_outcome, bad_measure_outcome, event_outcome, input_outcome, last_moment, measure_outcome, step_start, octets_outcome, open_outcome, outcome, slot_of, recv_outcome, refusal_outcome}
use Rattle.bay_device.specs.Steps.{Steps}
use Rattle.bay_device.specs.ObservedRuns.{HaveAgreedSize, pdus_after_first, of_answer, pdus_in, connection_state_at, observed_in_close, observed_in_pdus, observed_in_recv, observed_in_step}
use Rattle.bay_device.specs.declared.event.Event.{Event}
use Rattle.bay_device.specs.declared.event.Event.TheVariants.{Open, Recv, Close, Contact, Input, Measure, BadMeasure, Lost, Scan}
use Rattle.bay_device.specs.declared.event.Step.{Step}
use Rattle.bay_device.specs.declared.event.Why.{Why}
use Rattle.bay_device.specs.declared.fault.StepFault.{StepFault}
use Rattle.bay_device.specs.declared.fault.StepFault.TheVariants.{MomentTooLarge, TimeWentBack}
use Rattle.bay_device.proofs.ToldLemmas.{none-accepted, outcome-told}

-- ---- lists

none-in : {A : Type 0} (x : A) → Contains [] x → ⊥
none-in x (k, lt, is) = omega (arith, lt)

only : {A : Type 0} (x : A) → Contains (x ∷ []) x
only x = (0, omega arith, refl)

-- ---- what was heard

-- the commands then are those before, and those of these entries
abbrev Adds : StepState → List Entry → ReceiveResult → Type 0
Adds d entries h = h.done.commands ≡ d.commands ++ operates_in entries

on-adds : (now a : ℕ) (i : Indication) (d : StepState) (later : StepState → ReceiveResult)
    (entries : StepState → List Entry) → ((e : StepState) → Adds e (entries e) (later e))
    → Adds d (entries_on_indication now a i d entries) (on_indication now a i d later)
on-adds now a (answers octets) d later entries rest = rest (with_sent a octets d)
on-adds now a (delivers terms pdu) d later entries rest =
    let c : ClientContext = client_at now a terms d.state in
    let b : Bay = bay_of d.state in
    let e : StepState = after_pdu now a terms pdu d in
    let own : List Entry = entries_on_pdu c pdu b in
    rest e
    ∙ ap (λ cs. (d.commands ++ cs) ++ operates_in (entries e)) (answer-operates c pdu b)
    ∙ append_assoc d.commands (operates_in own) (operates_in (entries e))
    ∙ ap (λ cs. d.commands ++ cs) (sym (operates-append own (entries e)))
on-adds now a (releases octets) d later entries rest = sym (append-nil d.commands)
on-adds now a ends-heard d later entries rest = sym (append-nil d.commands)
on-adds now a (fails code) d later entries rest = sym (append-nil d.commands)

heard-adds : (choice : Option ℕ) (now a : ℕ) (is : List Indication) (d : StepState)
    → Adds d (entries_on_indications choice now a is d) (after_indications choice now a is d)
heard-adds None now a [] d = sym (append-nil d.commands)
heard-adds None now a (i ∷ is) d =
    on-adds now a i d (after_indications None now a is) (entries_on_indications None now a is)
    (heard-adds None now a is)
heard-adds (Some zero) now a [] d = sym (append-nil d.commands)
heard-adds (Some zero) now a (i ∷ is) d = sym (append-nil d.commands)
heard-adds (Some (suc n)) now a [] d = sym (append-nil d.commands)
heard-adds (Some (suc n)) now a (i ∷ is) d =
    on-adds now a i d (after_indications (Some n) now a is)
    (entries_on_indications (Some n) now a is)
    (heard-adds (Some n) now a is)

-- ---- an event

-- the commands of an answer are the operates of these entries
abbrev Gives : List Entry → Result Step StepFault → Type 0
Gives entries answer = IfOk answer (λ step. step.commands ≡ operates_in entries)

closed-none : (now a : ℕ) (why : Option Why) → operates_in (entries_on_closing now a why) ≡ []
closed-none now a None = refl
closed-none now a (Some why) = refl

octets-gives : (choice : Option ℕ) (now a : ℕ) (s : State) (talk : ConnectionState)
    (octets : List ℕ)
    → Gives (entries_on_octets choice now a s talk octets)
    (octets_outcome choice now a s talk octets).answer
octets-gives choice now a s talk [] = refl
octets-gives choice now a s talk (octet ∷ octets) =
    let is : List Indication = indications talk (octet ∷ octets) in
    let d : StepState = step_start (device_at now s) in
    let own : List Entry = entries_on_indications choice now a is d in
    let why : Option Why = (after_indications choice now a is d).why in
    heard-adds choice now a is d ∙ sym (append-nil (operates_in own))
    ∙ ap (λ cs. operates_in own ++ cs) (sym (closed-none now a why))
    ∙ sym (operates-append own (entries_on_closing now a why))

recv-gives : (choice : Option ℕ) (now a : ℕ) (octets : List ℕ) (s : State)
    (talk : Option ConnectionState)
    → Gives (entries_on_recv choice now a octets s talk)
    (recv_outcome choice now a octets s talk).answer
recv-gives choice now a octets s None = tt
recv-gives choice now a octets s (Some talk) = octets-gives choice now a s talk octets

open-gives : (now a : ℕ) (s : State) (o : Option ℕ) (talk : Option ConnectionState)
    → Gives (entries_on_open now a o talk) (open_outcome now a s o talk).answer
open-gives now a s None talk = tt
open-gives now a s (Some place) (Some talk) = tt
open-gives now a s (Some place) None = refl

close-gives : (now a : ℕ) (s : State) (talk : Option ConnectionState)
    → Gives (entries_on_close now a talk) (close_outcome now a s talk).answer
close-gives now a s None = tt
close-gives now a s (Some talk) = refl

contact-gives : (now k : ℕ) (position : Dbpos) (s : State) (o : Option Switch)
    → Gives [] (contact_outcome now k position s o).answer
contact-gives now k position s None = tt
contact-gives now k position s (Some switch) = refl

input-gives : (now k : ℕ) (value : Bool) (s : State) (o : Option Bool)
    → Gives [] (input_outcome now k value s o).answer
input-gives now k value s None = tt
input-gives now k value s (Some before) = refl

measure-gives : (now k : ℕ) (field : MeterField) (value : ℤ) (s : State) (o : Option (List ℕ))
    → Gives [] (measure_outcome now k field value s o).answer
measure-gives now k field value s None = tt
measure-gives now k field value s (Some id) = refl

doubt-gives : (now k : ℕ) (field : MeterField) (s : State) (o : Option (List ℕ))
    → Gives [] (bad_measure_outcome now k field s o).answer
doubt-gives now k field s None = tt
doubt-gives now k field s (Some id) = refl

event-gives : (choice : Option ℕ) (now : ℕ) (event : Event) (s : State)
    → Gives (entries_on_event choice now event s) (event_outcome choice now event s).answer
event-gives choice now (Open a) s =
    open-gives now a s (slot_of a) (connection_at (slot_of a) s)
event-gives choice now (Recv a octets) s =
    recv-gives choice now a octets.now s (connection_at (slot_of a) s)
event-gives choice now (Close a) s = close-gives now a s (connection_at (slot_of a) s)
event-gives choice now (Contact k position) s =
    contact-gives now k position s (slice_get s.switches k)
event-gives choice now (Input k value) s =
    input-gives now k value s (slice_get s.input_values k)
event-gives choice now (Measure k field value) s =
    measure-gives now k field value s (slice_get s.meters k)
event-gives choice now (BadMeasure k field) s =
    doubt-gives now k field s (slice_get s.meters k)
event-gives choice now Lost s = refl
event-gives choice now Scan s = refl

gives-if : (b : Bool) (xs ys : List Entry) (x y : Outcome) → Gives xs x.answer → Gives ys y.answer
    → Gives (cond b xs ys) (cond b x y).answer
gives-if true xs ys x y p q = p
gives-if false xs ys x y p q = q

outcome-gives : (choice : Option ℕ) (now : ℕ) (event : Event) (s : State)
    → Gives (entries_at choice now event s) (outcome choice now event s).answer
outcome-gives choice now event s =
    gives-if (nat_lt last_moment now) [] _ (refusal_outcome MomentTooLarge s) _ tt
    (gives-if (nat_lt now s.moment) [] _ (refusal_outcome TimeWentBack s) _ tt
    (event-gives choice now event s))

-- ---- responses

-- the first response is one of those that are sent, if there is one, and so are those behind it
first-if : (reports : Bool) (pdu : List ℕ) (pdus : List (List ℕ)) (b : Bool)
    → ((first_response reports pdus).0 ≡ []) ⊎ Contains pdus (first_response reports pdus).0
    → ((cond b (first_response reports pdus) (pdu, pdus)).0 ≡ [])
    ⊎ Contains (pdu ∷ pdus) (cond b (first_response reports pdus) (pdu, pdus)).0
first-if reports pdu pdus true (inl none) = inl none
first-if reports pdu pdus true (inr found) = inr (Contains-append_right (pdu ∷ []) pdus _ found)
first-if reports pdu pdus false later = inr (Contains-append_left (pdu ∷ []) pdus pdu (only pdu))

first-in : (reports : Bool) (pdus : List (List ℕ))
    → ((first_response reports pdus).0 ≡ []) ⊎ Contains pdus (first_response reports pdus).0
first-in reports [] = inl refl
first-in reports (pdu ∷ pdus) =
    first-if reports pdu pdus (reports && is_report pdu) (first-in reports pdus)

behind-if : (reports : Bool) (pdu : List ℕ) (pdus : List (List ℕ)) (b : Bool) (x : List ℕ)
    → (Contains (first_response reports pdus).1 x → Contains pdus x)
    → Contains (cond b (first_response reports pdus) (pdu, pdus)).1 x → Contains (pdu ∷ pdus) x
behind-if reports pdu pdus true x rest found =
    Contains-append_right (pdu ∷ []) pdus x (rest found)
behind-if reports pdu pdus false x rest found = Contains-append_right (pdu ∷ []) pdus x found

behind-in : (reports : Bool) (pdus : List (List ℕ)) (x : List ℕ)
    → Contains (first_response reports pdus).1 x → Contains pdus x
behind-in reports [] x found = absurd (none-in x found)
behind-in reports (pdu ∷ pdus) x found =
    behind-if reports pdu pdus (reports && is_report pdu) x (behind-in reports pdus x) found

behind-one-in : (pdus : List (List ℕ)) (x : List ℕ) → Contains (pdus_after_first pdus) x
    → Contains pdus x
behind-one-in [] x found = absurd (none-in x found)
behind-one-in (pdu ∷ pdus) x found = Contains-append_right (pdu ∷ []) pdus x found

-- more was heard before, and more was sent
replied-later : (now a : ℕ) (n : Bay) (i : Indication) (is : List Indication)
    (rest pdus : List (List ℕ)) (x : Command)
    → ((y : List ℕ) → Contains rest y → Contains pdus y) → IsReplied now a n is rest x
    → IsReplied now a n (i ∷ is) pdus x
replied-later now a n i is rest pdus x wider r = record {
  terms = r.terms;
  pdu = r.pdu;
  asked = Contains-append_right (i ∷ []) is _ r.asked;
  response = r.response;
  replied = wider r.response r.replied;
  accepts = r.accepts;
}

replied-own : (now a : ℕ) (n : Bay) (terms : Terms) (pdu : List ℕ) (is : List Indication)
    (response : List ℕ) (pdus : List (List ℕ)) (x : Command)
    → (response ≡ []) ⊎ Contains pdus response
    → Contains (operates_in (observed_in_pdu now a pdu n response)) x
    → IsReplied now a n (delivers terms pdu ∷ is) pdus x
replied-own now a n terms pdu is response pdus x (inl none) own =
    absurd (none-in x (subst (λ (cs : List Command). Contains cs x)
    (ap (λ r. operates_in (observed_in_pdu now a pdu n r)) none
    ∙ ap operates_in (none-accepted now a n (request_in pdu))) own))
replied-own now a n terms pdu is response pdus x (inr found) own = record {
  terms = terms;
  pdu = pdu;
  asked = Contains-append_left (delivers terms pdu ∷ []) is _ (only (delivers terms pdu));
  response = response;
  replied = found;
  accepts = own;
}

replied-heard : (now a : ℕ) (n : Bay) (is : List Indication) (pdus : List (List ℕ)) (x : Command)
    → Contains (operates_in (observed_in_pdus now a n is pdus)) x → IsReplied now a n is pdus x
replied-heard now a n [] pdus x found = absurd (none-in x found)
replied-heard now a n (answers octets ∷ is) pdus x found =
    replied-later now a n (answers octets) is (pdus_after_first pdus) pdus x (behind-one-in pdus)
    (replied-heard now a n is (pdus_after_first pdus) x found)
replied-heard now a n (delivers terms pdu ∷ is) pdus x found =
    let may : Bool = request_may_report (request_in pdu) in
    let response = first_response may pdus in
    let own : List Entry = observed_in_pdu now a pdu n response.0 in
    let rest : List Entry = observed_in_pdus now a n is response.1 in
    elim (Contains-append_cases (operates_in own) (operates_in rest) x
    (subst (λ (cs : List Command). Contains cs x) (operates-append own rest) found)) [
      | inl here ↦ replied-own now a n terms pdu is response.0 pdus x (first-in may pdus) here
      | inr later ↦ replied-later now a n (delivers terms pdu) is response.1 pdus x
          (behind-in may pdus)
          (replied-heard now a n is response.1 x later)
    ]
replied-heard now a n (releases octets ∷ is) pdus x found = absurd (none-in x found)
replied-heard now a n (ends-heard ∷ is) pdus x found = absurd (none-in x found)
replied-heard now a n (fails code ∷ is) pdus x found = absurd (none-in x found)

told-closed-none : (now : ℕ) (entries : List Entry) (closed : Option (ℕ × Why))
    → operates_in (entries ++ observed_in_close now closed) ≡ operates_in entries
told-closed-none now entries None = ap operates_in (append-nil entries)
told-closed-none now entries (Some closed) =
    operates-append entries (observed_in_close now (Some closed)) ∙ append-nil (operates_in entries)

replied-recv : (now a : ℕ) (n : Bay) (octets : List ℕ) (talk : Option ConnectionState) (step : Step)
    → step.commands
    ≡ operates_in (observed_in_recv now a n octets talk step.sent
    ++ observed_in_close now step.closed)
    → AreReplied now a n octets talk step
replied-recv now a n octets None step is = is ∙ told-closed-none now [] step.closed
replied-recv now a n octets (Some talk) step is = λ x found.
    let told : List Entry =
    observed_in_pdus now a n (indications talk octets) (pdus_in step.sent) in
    replied-heard now a n (indications talk octets) (pdus_in step.sent) x
    (subst (λ (cs : List Command). Contains cs x)
    (is ∙ told-closed-none now told step.closed) found)

replied-step : (now : ℕ) (event : Event) (n : Bay) (talks : List (Option ConnectionState))
    (step : Step)
    → step.commands ≡ operates_in (observed_in_step now event n talks step)
    → AreRepliedForEvent now event n talks step
replied-step now (Open a) n talks step is = is
replied-step now (Recv a octets) n talks step is =
    replied-recv now a n octets.now (connection_state_at (slot_of a) talks) step is
replied-step now (Close a) n talks step is = is
replied-step now (Contact k position) n talks step is = is
replied-step now (Input k value) n talks step is = is
replied-step now (Measure k field value) n talks step is = is
replied-step now (BadMeasure k field) n talks step is = is
replied-step now Lost n talks step is = is
replied-step now Scan n talks step is = is

-- ---- steps

told-gives : (answer : Result Step StepFault) (entries : List Entry) (now : ℕ) (event : Event)
    (n : Bay) (talks : List (Option ConnectionState)) → Gives entries answer
    → of_answer [] (observed_in_step now event n talks) answer ≡ entries
    → IfOk answer (AreOperates now event n talks)
told-gives (Ok step) entries now event n talks gives told =
    let is : step.commands ≡ operates_in (observed_in_step now event n talks step) =
    gives ∙ ap operates_in (sym told) in
    record { operated = is; replied = replied-step now event n talks step is }
told-gives (Err fault) entries now event n talks gives told = tt

pub step-operates : (n : Bay) (now : ℕ) (event : Event) (old : State)
    (answer : Result Step StepFault)
    (new : State) → AreNamedAlike n (bay_of old) → HaveAgreedSize old.connections
    → Steps now event old answer new → IfOk answer (AreOperates now event n old.connections)
step-operates n now event old answer new alike sized steps =
    subst (λ (r : Result Step StepFault). IfOk r (AreOperates now event n old.connections))
    (sym steps.answered)
    (told-gives (outcome steps.choice now event old).answer (entries_at steps.choice now event old)
    now event n old.connections (outcome-gives steps.choice now event old)
    (outcome-told n now old alike sized steps.choice event).told)
