-- What events and their answers tell is what the device's definitions say of them.
use Rattle.std.specs.Prelude.{replicate}
use Rattle.std.proofs.Common.{◌≡◌, ◌≤◌, ℕ, zero, suc, ℤ, Bool, true, false, cond, nat_lt, List, [], ◌∷◌, ◌++◌, map, slice_get, slice_set, Option, None, Some, IsSome, unwrap_or, Result, Ok, Err, refl, ap, ap₂, sym, ◌∙◌, subst, arith, append-nil, append_assoc}
use Rattle.bay_base.specs.Options.{◌>>=◌}
use Rattle.bay_ber.specs.Values.{Part, only_one, content_with_tag, value_in, values_in}
use Rattle.bay_ber.proofs.ListingLemmas.{no-values}
use Rattle.bay_nodes.specs.declared.switch.Switch.{Switch}
use Rattle.bay_nodes.specs.Names.{switch_names, meter_names, float_names}
use Rattle.bay_base.specs.declared.point.MeterField.{MeterField}
use Rattle.bay_base.specs.declared.position.Dbpos.{Dbpos}
use Rattle.bay_process.specs.Names.{field_float, field_names}
use Rattle.il_scan.specs.Scans.{outputs_of}
use Rattle.bay_mms.specs.Grammar.{request_in}
use Rattle.bay_mms.specs.Requests.{identify, names, attributes, read, write, MmsRequest, initiate, conclude, confirmed}
use Rattle.bay_ber.specs.Tags.{constructed}
use Rattle.bay_mms.specs.declared.fault.MmsFault.{MmsFault}
use Rattle.bay_assoc.specs.Receives.{association_terms}
use Rattle.bay_assoc.specs.Sized.{IsSized}
use Rattle.bay_assoc.specs.declared.receive.Phase.{Phase}
use Rattle.bay_assoc.specs.declared.receive.Phase.TheVariants as phases
use Rattle.bay_connection.specs.ConnectionStates.{Indication, ConnectionState, Terms, answers, delivers, releases, ends as ends-heard, fails, indications, connection_after, octets_to_send}
use Rattle.bay_control.specs.Acts.{Entry}
use Rattle.bay_control.specs.Decisions as control
use Rattle.bay_control.specs.Decisions.{without_association}
use Rattle.bay_control.specs.TimedCalls.{LeadsControls}
use Rattle.bay_mms_services.specs.ObservedEntries.{AreNamedAlike, observed_in_pdu, part_after_id, first_response, request_may_report, observed_in_request, observed_in_read, read_results, observed_in_write, write_results}
use Rattle.bay_mms_services.specs.Answers.{AnswerData, pdu_answer}
use Rattle.bay_mms_services.specs.Bay.{Bay}
use Rattle.bay_mms_services.specs.Entries.{entries_on_pdu}
use Rattle.bay_mms_services.specs.declared.client.ClientContext.{ClientContext}
use Rattle.bay_mms_services.proofs.AcceptedLemmas.{alike-after, alike-still, none-read, none-written, response-tells}
use Rattle.bay_mms_services.proofs.ShortLemmas.{AreShort, answer-short}
use Rattle.bay_device.specs.Device.{State, device_at, bay_of, device_after_bad_measure, device_after_contact, device_after_input, device_after_loss, device_after_measure, run_result_at}
use Rattle.bay_device.specs.Entries.{IsIdle, LeadsByChoice, opens, entries_at, entries_on_close, entries_on_closing, entries_on_indications, entries_on_octets, entries_on_event, entries_on_indication, entries_on_open, entries_on_recv}
use Rattle.bay_device.specs.Receiving.{StepState, ReceiveResult, client_at, after_indications, on_indication, after_pdu, sent_on, size_of, with_sent}
use Rattle.bay_device.specs.Outcomes.{Outcome, close_outcome, without_connection, closed_by, connection_at, contact_outcome, bad_measure_outcome, event_outcome, initial_connection, input_outcome, last_moment, lost_outcome, measure_outcome, step_start, octets_outcome, open_outcome, outcome, slot_of, refusal_outcome, recv_after, recv_outcome, with_connection, without_owner}
use Rattle.bay_device.specs.ObservedRuns.{HaveAgreedSize, EntriesLead, of_answer, pdus_in, connection_state_at, state_after_octets, states_after_answer, states_after_recv, states_after_step, observed_in_answer, observed_in_close, observed_in_pdus, observed_in_recv, observed_in_step, with_connection_state}
use Rattle.bay_device.specs.declared.event.Event.{Event}
use Rattle.bay_device.specs.declared.event.Event.TheVariants.{Open, Recv, Close, Contact, Input, Measure, BadMeasure, Lost, Scan}
use Rattle.bay_device.specs.declared.event.Sent.{Sent}
use Rattle.bay_device.specs.declared.event.Step.{Step}
use Rattle.bay_device.specs.declared.event.Why.{Why}
use Rattle.bay_device.specs.declared.fault.StepFault.{StepFault}
use Rattle.bay_device.specs.declared.fault.StepFault.TheVariants.{MomentTooLarge, TimeWentBack}
use Rattle.bay_device.proofs.EntryLemmas.{heard-connected}
use Rattle.bay_device.proofs.LostLemmas.{Fixed, lost-fixed}
use Rattle.bay_device.proofs.NameLemmas.{alike-health, alike-lost, doubt-names, contact-names, input-names, measure-names, outputs-names}
use Rattle.bay_device.proofs.SentLemmas.{read-back}
use Rattle.bay_device.proofs.TalkLemmas.{CanAnswer, CanAnswerAll, IsOpen, can-answer, sized-behind}

-- ---- where nothing was sent

no-value : value_in [] ≡ None
no-value = ap (λ (o : Option (List Part)). o >>= only_one) no-values

none-read-in : read_results [] ≡ None
none-read-in =
    ap (λ (o : Option Part). o >>= content_with_tag (constructed 1) >>= values_in >>= part_after_id
    >>= content_with_tag (constructed 4) >>= value_in >>= content_with_tag (constructed 1)
    >>= values_in) no-value

none-written-in : write_results [] ≡ None
none-written-in =
    ap (λ (o : Option Part). o >>= content_with_tag (constructed 1) >>= values_in >>= part_after_id
    >>= content_with_tag (constructed 5) >>= values_in) no-value

pub none-accepted : (now a : ℕ) (n : Bay) (m : Result MmsRequest MmsFault)
    → observed_in_request now a n m [] ≡ []
none-accepted now a n (Ok (initiate proposal)) = refl
none-accepted now a n (Ok conclude) = refl
none-accepted now a n (Ok (confirmed id identify)) = refl
none-accepted now a n (Ok (confirmed id (names class place after))) = refl
none-accepted now a n (Ok (confirmed id (attributes name))) = refl
none-accepted now a n (Ok (confirmed id (read ns))) =
    ap (λ (o : Option (List Part)). observed_in_read now a n ns (unwrap_or o [])) none-read-in
    ∙ none-read now a n ns
none-accepted now a n (Ok (confirmed id (write ns values))) =
    ap (λ (o : Option (List Part)). observed_in_write now a n ns values (unwrap_or o []))
    none-written-in ∙ none-written now a n ns values
none-accepted now a n (Err fault) = refl

nothing-told : (now a : ℕ) (n : Bay) (is : List Indication) → observed_in_pdus now a n is [] ≡ []
nothing-told now a n [] = refl
nothing-told now a n (answers octets ∷ is) = nothing-told now a n is
nothing-told now a n (delivers terms pdu ∷ is) =
    ap₂ (λ (xs ys : List Entry). xs ++ ys) (none-accepted now a n (request_in pdu))
    (nothing-told now a n is)
nothing-told now a n (releases octets ∷ is) = refl
nothing-told now a n (ends-heard ∷ is) = refl
nothing-told now a n (fails code ∷ is) = refl

-- ---- what is heard

size-small : (phase : Phase) → IsOpen phase → size_of (association_terms phase) ≤ 65000
size-small phases.Idle is = absurd is
size-small (phases.Open terms) is = is.most
size-small phases.Over is = absurd is
size-small phases.Failed is = absurd is

pdus-back : (a : ℕ) (terms : Terms) (pdus : List (List ℕ)) (later : List Sent) → IsSome terms.size
    → IsOpen terms.phase → AreShort pdus
    → pdus_in (map (λ pdu. sent_on a (octets_to_send terms pdu)) pdus ++ later)
    ≡ pdus ++ pdus_in later
pdus-back a terms [] later some is short = refl
pdus-back a terms (pdu ∷ pdus) later some is short =
    ap₂ (λ (p : List ℕ) (ps : List (List ℕ)). p ∷ ps)
    (read-back terms pdu some is (short 0 [] (omega arith)))
    (pdus-back a terms pdus later some is (λ k d lt. short (suc k) d (omega arith)))

-- What was heard has sent more, which tells what is seen, and leaves the names as they are.
record Walks (now a : ℕ) (n : Bay) (is : List Indication) (h : ReceiveResult) (d : StepState)
    (entries : List Entry) : Type 0 where
  more : List Sent
  sent : h.done.sent ≡ d.sent ++ more
  told : observed_in_pdus now a n is (pdus_in more) ≡ entries
  alike : AreNamedAlike n (bay_of h.done.state)

on-walks : (now a : ℕ) (n : Bay) (i : Indication) (is : List Indication) (d : StepState)
    (later : StepState → ReceiveResult) (entries : StepState → List Entry) → CanAnswer i
    → AreNamedAlike n (bay_of d.state)
    → ((e : StepState) → AreNamedAlike n (bay_of e.state)
    → Walks now a n is (later e) e (entries e))
    → Walks now a n (i ∷ is) (on_indication now a i d later) d
    (entries_on_indication now a i d entries)
on-walks now a n (answers octets) is d later entries can alike rest =
    let e : StepState = with_sent a octets d in
    let w : Walks now a n is (later e) e (entries e) = rest e alike in
    record {
      more = sent_on a octets ∷ w.more;
      sent = w.sent ∙ append_assoc d.sent (sent_on a octets ∷ []) w.more;
      told = w.told;
      alike = w.alike;
    }
on-walks now a n (delivers terms pdu) is d later entries can alike rest =
    let c : ClientContext = client_at now a terms d.state in
    let b : Bay = bay_of d.state in
    let x : AnswerData = pdu_answer c pdu b in
    let e : StepState = after_pdu now a terms pdu d in
    let sents : List Sent = map (λ p. sent_on a (octets_to_send terms p)) x.sent in
    let w : Walks now a n is (later e) e (entries e) = rest e (alike-after n c pdu b alike) in
    let small : c.size ≤ 65000 = size-small terms.phase can.1 in
    let back : pdus_in (sents ++ w.more) ≡ x.sent ++ pdus_in w.more =
    pdus-back a terms x.sent w.more can.0 can.1 (answer-short c b (request_in pdu) small) in
    let response = response-tells c pdu n b (pdus_in w.more) small alike in
    let may : Bool = request_may_report (request_in pdu) in
    record {
      more = sents ++ w.more;
      sent = w.sent ∙ append_assoc d.sent sents w.more;
      told =
          ap (λ (pdus : List (List ℕ)). observed_in_pdu now a pdu n (first_response may pdus).0
          ++ observed_in_pdus now a n is (first_response may pdus).1) back
          ∙ ap₂ (λ (xs : List Entry) (pdus : List (List ℕ)). xs ++ observed_in_pdus now a n is pdus)
          response.0 response.1
          ∙ ap (λ (ys : List Entry). entries_on_pdu c pdu b ++ ys) w.told;
      alike = w.alike;
    }
on-walks now a n (releases octets) is d later entries can alike rest =
    record { more = sent_on a octets ∷ []; sent = refl; told = refl; alike = alike }
on-walks now a n ends-heard is d later entries can alike rest =
    record { more = []; sent = sym (append-nil d.sent); told = refl; alike = alike }
on-walks now a n (fails code) is d later entries can alike rest =
    record { more = []; sent = sym (append-nil d.sent); told = refl; alike = alike }

walks : (choice : Option ℕ) (now a : ℕ) (n : Bay) (is : List Indication) (d : StepState)
    → CanAnswerAll is → AreNamedAlike n (bay_of d.state)
    → Walks now a n is (after_indications choice now a is d) d
    (entries_on_indications choice now a is d)
walks None now a n [] d can alike =
    record { more = []; sent = sym (append-nil d.sent); told = refl; alike = alike }
walks None now a n (i ∷ is) d can alike =
    on-walks now a n i is d (after_indications None now a is) (entries_on_indications None now a is)
    can.0
    alike
    (λ e same. walks None now a n is e can.1 same)
walks (Some zero) now a n [] d can alike =
    record { more = []; sent = sym (append-nil d.sent); told = refl; alike = alike }
walks (Some zero) now a n (i ∷ is) d can alike =
    record {
      more = [];
      sent = sym (append-nil d.sent);
      told = nothing-told now a n (i ∷ is);
      alike = alike;
    }
walks (Some (suc k)) now a n [] d can alike =
    record { more = []; sent = sym (append-nil d.sent); told = refl; alike = alike }
walks (Some (suc k)) now a n (i ∷ is) d can alike =
    on-walks now a n i is d (after_indications (Some k) now a is)
    (entries_on_indications (Some k) now a is)
    can.0 alike
    (λ e same. walks (Some k) now a n is e can.1 same)

-- ---- talks

at-talk : (o : Option ℕ) (s : State) → connection_at o s ≡ connection_state_at o s.connections
at-talk None s = refl
at-talk (Some place) s = refl

with-one : (o : Option ℕ) (x : Option ConnectionState) (s : State)
    → (with_connection o x s).connections ≡ with_connection_state o x s.connections
with-one None x s = refl
with-one (Some place) x s = refl

alike-with : (n : Bay) (o : Option ℕ) (x : Option ConnectionState) (s : State)
    → AreNamedAlike n (bay_of s)
    → AreNamedAlike n (bay_of (with_connection o x s))
alike-with n None x s alike = alike
alike-with n (Some place) x s alike = alike

abbrev IsTalk : Option ConnectionState → Type 0
IsTalk None = Unit {0}
IsTalk (Some t) = IsSized t.phase

talk-set : (x : Option ConnectionState) (t : ConnectionState) → IsTalk x → x ≡ Some t
    → IsSized t.phase
talk-set None t is e = absurd cc
talk-set (Some u) t is e = let same : u ≡ t =
    cc in subst (λ (v : ConnectionState). IsSized v.phase) same is

set-talks : (talks : List (Option ConnectionState)) (i : ℕ) (x : Option ConnectionState)
    → HaveAgreedSize talks → IsTalk x
    → HaveAgreedSize (slice_set talks i x)
set-talks [] i x all is place t e = all place t e
set-talks (y ∷ talks) zero x all is zero t e = talk-set x t is e
set-talks (y ∷ talks) zero x all is (suc place) t e = all (suc place) t e
set-talks (y ∷ talks) (suc i) x all is zero t e = all zero t e
set-talks (y ∷ talks) (suc i) x all is (suc place) t e =
    set-talks talks i x (λ k u f. all (suc k) u f) is place t e

with-talks : (o : Option ℕ) (x : Option ConnectionState) (s : State) → HaveAgreedSize s.connections
    → IsTalk x
    → HaveAgreedSize (with_connection o x s).connections
with-talks None x s all is = all
with-talks (Some place) x s all is = set-talks s.connections place x all is

talk-sized : (o : Option ℕ) (s : State) (t : ConnectionState) → HaveAgreedSize s.connections
    → connection_at o s ≡ Some t → IsSized t.phase
talk-sized None s t all e = absurd cc
talk-sized (Some place) s t all e = all place t e

-- ---- an event

-- The answer tells what is seen, and of each talk what is left of it; the names and the sizes stay.
pub record IsTold (n : Bay) (talks : List (Option ConnectionState)) (f : Step → List Entry)
    (g : Step → List (Option ConnectionState)) (o : Outcome) (entries : List Entry) : Type 0 where
  pub told : of_answer [] f o.answer ≡ entries
  pub left : o.after.connections ≡ of_answer talks g o.answer
  pub alike : AreNamedAlike n (bay_of o.after)
  pub sized : HaveAgreedSize o.after.connections

closed-told : (now a : ℕ) (why : Option Why)
    → observed_in_close now (closed_by a why) ≡ entries_on_closing now a why
closed-told now a None = refl
closed-told now a (Some why) = refl

module _ (n : Bay) (now : ℕ) (s : State) (alike : AreNamedAlike n (bay_of s))
    (sized : HaveAgreedSize s.connections) where
  abbrev talks : List (Option ConnectionState)
  talks = s.connections

  alike-advanced : AreNamedAlike n (bay_of (device_at now s))
  alike-advanced = alike-still n (bay_of s) (control.controls_at now s.controls) alike

  refused-told : (f : Step → List Entry) (g : Step → List (Option ConnectionState))
      (fault : StepFault)
      → IsTold n talks f g (refusal_outcome fault s) []
  refused-told f g fault = record { told = refl; left = refl; alike = alike; sized = sized }

  open-told : (a : ℕ) (o : Option ℕ) (talk : Option ConnectionState)
      → IsTold n talks (observed_in_step now (Open a) n talks) (states_after_step (Open a) talks)
      (open_outcome now a s o talk) (entries_on_open now a o talk)
  open-told a None talk = record { told = refl; left = refl; alike = alike; sized = sized }
  open-told a (Some place) (Some talk) =
      record { told = refl; left = refl; alike = alike; sized = sized }
  open-told a (Some place) None = record {
    told = refl;
    left = with-one (slot_of a) (Some (initial_connection a)) (device_at now s);
    alike = alike-with n (slot_of a) (Some (initial_connection a)) (device_at now s)
        alike-advanced;
    sized = with-talks (slot_of a) (Some (initial_connection a)) (device_at now s) sized tt;
  }

  -- an association that is closed, on a device with these talks and names
  closed-alike : (a : ℕ) (t : State) → AreNamedAlike n (bay_of t)
      → AreNamedAlike n (bay_of (without_connection a t))
  closed-alike a t same =
      alike-with n (slot_of a) None (without_owner a t)
      (alike-still n (bay_of t) (without_association a t.controls) same)

  close-told : (a : ℕ) (talk : Option ConnectionState)
      → IsTold n talks (observed_in_step now (Close a) n talks) (states_after_step (Close a) talks)
      (close_outcome now a s talk) (entries_on_close now a talk)
  close-told a None = record { told = refl; left = refl; alike = alike; sized = sized }
  close-told a (Some talk) = record {
    told = refl;
    left = with-one (slot_of a) None (without_owner a (device_at now s));
    alike = closed-alike a (device_at now s) alike-advanced;
    sized = with-talks (slot_of a) None (without_owner a (device_at now s)) sized tt;
  }

  -- ---- octets

  after-left : (a : ℕ) (left : ConnectionState) (octet : ℕ) (octets : List ℕ)
      (talk : ConnectionState) (t : State)
      (why : Option Why) → t.connections ≡ talks
      → connection_state_at (slot_of a) talks ≡ Some talk
      → left ≡ connection_after talk (octet ∷ octets)
      → (recv_after a left t why).connections
      ≡ states_after_recv a (octet ∷ octets) talks (closed_by a why)
  after-left a left octet octets talk t None same here is =
      with-one (slot_of a) (Some left) t ∙ ap (with_connection_state (slot_of a) (Some left)) same
      ∙ ap (λ (u : ConnectionState). with_connection_state (slot_of a) (Some u) talks) is
      ∙ sym (ap (λ (o : Option ConnectionState). with_connection_state (slot_of a)
      (state_after_octets (octet ∷ octets) o) talks)
      here)
  after-left a left octet octets talk t (Some why) same here is =
      with-one (slot_of a) None (without_owner a t)
      ∙ ap (with_connection_state (slot_of a) None) same

  after-alike : (a : ℕ) (left : ConnectionState) (t : State) (why : Option Why)
      → AreNamedAlike n (bay_of t)
      → AreNamedAlike n (bay_of (recv_after a left t why))
  after-alike a left t None same = alike-with n (slot_of a) (Some left) t same
  after-alike a left t (Some why) same = closed-alike a t same

  after-sized : (a : ℕ) (left : ConnectionState) (t : State) (why : Option Why)
      → HaveAgreedSize t.connections
      → IsSized left.phase → HaveAgreedSize (recv_after a left t why).connections
  after-sized a left t None all is = with-talks (slot_of a) (Some left) t all is
  after-sized a left t (Some why) all is = with-talks (slot_of a) None (without_owner a t) all tt

  octets-told : (choice : Option ℕ) (a : ℕ) (talk : ConnectionState) (octets : List ℕ)
      → connection_at (slot_of a) s ≡ Some talk
      → IsTold n talks (λ step. observed_in_recv now a n octets
      (connection_state_at (slot_of a) talks) step.sent
      ++ observed_in_close now step.closed) (λ step. states_after_recv a octets talks step.closed)
      (octets_outcome choice now a s talk octets) (entries_on_octets choice now a s talk octets)
  octets-told choice a talk [] is =
      let here : connection_state_at (slot_of a) talks ≡ Some talk =
      sym (at-talk (slot_of a) s) ∙ is in
      record {
        told = ap (λ (o : Option ConnectionState). observed_in_recv now a n [] o [] ++ []) here
            ∙ ap (λ (es : List Entry). es ++ []) (nothing-told now a n (indications talk []));
        left = refl;
        alike = alike-advanced;
        sized = sized;
      }
  octets-told choice a talk (octet ∷ octets) is =
      let here : connection_state_at (slot_of a) talks ≡ Some talk =
      sym (at-talk (slot_of a) s) ∙ is in
      let all : List ℕ = octet ∷ octets in
      let begun : StepState = step_start (device_at now s) in
      let phased : IsSized talk.phase = talk-sized (slot_of a) s talk sized is in
      let h : ReceiveResult = after_indications choice now a (indications talk all) begun in
      let w : Walks now a n (indications talk all) h begun
      (entries_on_indications choice now a (indications talk all) begun) =
      walks choice now a n (indications talk all) begun (can-answer talk all phased) alike-advanced
      in
      let same : h.done.state.connections ≡ talks =
      heard-connected choice now a (indications talk all) begun in
      record {
        told =
            ap (λ (o : Option ConnectionState). observed_in_recv now a n all o h.done.sent
            ++ observed_in_close now (closed_by a h.why)) here
            ∙ ap (λ (sent : List Sent). observed_in_pdus now a n (indications talk all)
            (pdus_in sent)
            ++ observed_in_close now (closed_by a h.why)) w.sent
            ∙ ap₂ (λ (xs ys : List Entry). xs ++ ys) w.told (closed-told now a h.why);
        left = after-left a (connection_after talk all) octet octets talk h.done.state h.why same
            here refl;
        alike = after-alike a (connection_after talk all) h.done.state h.why w.alike;
        sized = after-sized a (connection_after talk all) h.done.state h.why
            (subst HaveAgreedSize (sym same) sized) (sized-behind talk all phased);
      }

  recv-told : (choice : Option ℕ) (a : ℕ) (octets : List ℕ) (talk : Option ConnectionState)
      → connection_at (slot_of a) s ≡ talk
      → IsTold n talks (λ step. observed_in_recv now a n octets
      (connection_state_at (slot_of a) talks) step.sent
      ++ observed_in_close now step.closed) (λ step. states_after_recv a octets talks step.closed)
      (recv_outcome choice now a octets s talk) (entries_on_recv choice now a octets s talk)
  recv-told choice a octets None is =
      record { told = refl; left = refl; alike = alike; sized = sized }
  recv-told choice a octets (Some talk) is = octets-told choice a talk octets is

  -- ---- the process

  contact-told : (k : ℕ) (position : Dbpos) (o : Option Switch)
      → IsTold n talks (observed_in_step now (Contact k position) n talks)
      (states_after_step (Contact k position) talks) (contact_outcome now k position s o) []
  contact-told k position None = record { told = refl; left = refl; alike = alike; sized = sized }
  contact-told k position (Some switch) =
      let t : State = device_at now s in
      record {
        told = refl;
        left = refl;
        alike = alike-health n now (device_after_contact now k switch position t) (record {
          domain = alike-advanced.domain;
          switches = alike-advanced.switches;
          names = contact-names (switch_names t.switches k switch) position now t.rows
              ∙ alike-advanced.names;
        });
        sized = sized;
      }

  input-told : (k : ℕ) (value : Bool) (o : Option Bool)
      → IsTold n talks (observed_in_step now (Input k value) n talks)
      (states_after_step (Input k value) talks)
      (input_outcome now k value s o) []
  input-told k value None = record { told = refl; left = refl; alike = alike; sized = sized }
  input-told k value (Some before) =
      let t : State = device_at now s in
      record {
        told = refl;
        left = refl;
        alike = alike-health n now (device_after_input now k value before t) (record {
          domain = alike-advanced.domain;
          switches = alike-advanced.switches;
          names = input-names t.profile t.inputs t.switches k value now t.rows
              ∙ alike-advanced.names;
        });
        sized = sized;
      }

  measure-told : (k : ℕ) (field : MeterField) (value : ℤ) (o : Option (List ℕ))
      → IsTold n talks (observed_in_step now (Measure k field value) n talks)
      (states_after_step (Measure k field value) talks) (measure_outcome now k field value s o) []
  measure-told k field value None =
      record { told = refl; left = refl; alike = alike; sized = sized }
  measure-told k field value (Some id) =
      let t : State = device_at now s in
      record {
        told = refl;
        left = refl;
        alike = alike-health n now (device_after_measure now k field value t) (record {
          domain = alike-advanced.domain;
          switches = alike-advanced.switches;
          names = measure-names (field_names field (meter_names k)) (field_float field (float_names k))
              value now t.rows
              ∙ alike-advanced.names;
        });
        sized = sized;
      }

  doubt-told : (k : ℕ) (field : MeterField) (o : Option (List ℕ))
      → IsTold n talks (observed_in_step now (BadMeasure k field) n talks)
      (states_after_step (BadMeasure k field) talks) (bad_measure_outcome now k field s o) []
  doubt-told k field None = record { told = refl; left = refl; alike = alike; sized = sized }
  doubt-told k field (Some id) =
      let t : State = device_at now s in
      record {
        told = refl;
        left = refl;
        alike = alike-health n now (device_after_bad_measure now k field t) (record {
          domain = alike-advanced.domain;
          switches = alike-advanced.switches;
          names = doubt-names (field_names field (meter_names k)) now t.rows
              ∙ alike-advanced.names;
        });
        sized = sized;
      }

  lost-told : IsTold n talks (observed_in_step now Lost n talks) (states_after_step Lost talks)
      (lost_outcome now s) []
  lost-told =
      let t : State = device_at now s in
      let left : (device_after_loss now t).connections ≡ talks =
      ap (λ (f : Fixed). f.connections) (lost-fixed now t) in
      record {
        told = refl;
        left = left;
        alike = alike-health n now (device_after_loss now t) (alike-lost n now t alike-advanced);
        sized = subst HaveAgreedSize (sym left) sized;
      }

  scan-told : IsTold n talks (observed_in_step now Scan n talks) (states_after_step Scan talks)
      (event_outcome None now Scan s) []
  scan-told =
      let t : State = device_at now s in
      record {
        told = refl;
        left = refl;
        alike = record {
          domain = alike-advanced.domain;
          switches = alike-advanced.switches;
          names = outputs-names t.switches t.writes
              (outputs_of t.machine.image.points (run_result_at now t).slots) now 0 t.switches
              t.rows
              ∙ alike-advanced.names;
        };
        sized = sized;
      }

  event-told : (choice : Option ℕ) (event : Event)
      → IsTold n talks (observed_in_step now event n talks) (states_after_step event talks)
      (event_outcome choice now event s) (entries_on_event choice now event s)
  event-told choice (Open a) = open-told a (slot_of a) (connection_at (slot_of a) s)
  event-told choice (Recv a octets) =
      recv-told choice a octets.now (connection_at (slot_of a) s) refl
  event-told choice (Close a) = close-told a (connection_at (slot_of a) s)
  event-told choice (Contact k position) = contact-told k position (slice_get s.switches k)
  event-told choice (Input k value) = input-told k value (slice_get s.input_values k)
  event-told choice (Measure k field value) = measure-told k field value (slice_get s.meters k)
  event-told choice (BadMeasure k field) = doubt-told k field (slice_get s.meters k)
  event-told choice Lost = lost-told
  event-told choice Scan = scan-told

  told-if : (b : Bool) (f : Step → List Entry) (g : Step → List (Option ConnectionState))
      (x y : Outcome)
      (xs ys : List Entry) → IsTold n talks f g x xs → IsTold n talks f g y ys
      → IsTold n talks f g (cond b x y) (cond b xs ys)
  told-if true f g x y xs ys p q = p
  told-if false f g x y xs ys p q = q

  pub outcome-told : (choice : Option ℕ) (event : Event)
      → IsTold n talks (observed_in_step now event n talks) (states_after_step event talks)
      (outcome choice now event s) (entries_at choice now event s)
  outcome-told choice event =
      let f : Step → List Entry = observed_in_step now event n talks in
      let g : Step → List (Option ConnectionState) = states_after_step event talks in
      let inner : IsTold n talks f g
      (cond (nat_lt now s.moment) (refusal_outcome TimeWentBack s)
      (event_outcome choice now event s))
      (cond (nat_lt now s.moment) [] (entries_on_event choice now event s)) =
      told-if (nat_lt now s.moment) f g (refusal_outcome TimeWentBack s)
      (event_outcome choice now event s)
      [] (entries_on_event choice now event s) (refused-told f g TimeWentBack)
      (event-told choice event) in
      told-if (nat_lt last_moment now) f g (refusal_outcome MomentTooLarge s)
      (cond (nat_lt now s.moment) (refusal_outcome TimeWentBack s)
      (event_outcome choice now event s))
      []
      (cond (nat_lt now s.moment) [] (entries_on_event choice now event s))
      (refused-told f g MomentTooLarge) inner

-- an event, from whatever was before
pub telling : (n : Bay) (now : ℕ) (event : Event) (old : State) (answer : Result Step StepFault)
    (new : State) → AreNamedAlike n (bay_of old) → HaveAgreedSize old.connections
    → LeadsByChoice now event old answer new → EntriesLead n now event old answer new
telling n now event old answer new alike sized l =
    let o : Outcome = outcome l.steps.choice now event old in
    let t : IsTold n old.connections (observed_in_step now event n old.connections)
    (states_after_step event old.connections) o (entries_at l.steps.choice now event old) =
    outcome-told n now old alike sized l.steps.choice event in
    let same : observed_in_answer now event n old.connections answer
    ≡ entries_at l.steps.choice now event old =
    ap (observed_in_answer now event n old.connections) l.steps.answered ∙ t.told in
    record {
      leads = λ past open_before before so_far.
          subst (λ (es : List Entry). LeadsControls (past ++ es) open_before before (opens new)
          new.controls) (sym same) (l.leads past open_before before so_far);
      left = ap (λ (u : State). u.connections) l.steps.left ∙ t.left
          ∙ sym (ap (states_after_answer event old.connections) l.steps.answered);
      alike = subst (λ (u : State). AreNamedAlike n (bay_of u)) (sym l.steps.left) t.alike;
      sized = subst (λ (u : State). HaveAgreedSize u.connections) (sym l.steps.left) t.sized;
    }

-- ---- a device as load made it

none-there : (n place : ℕ)
    → unwrap_or (slice_get (replicate n (let o : Option ConnectionState = None in o)) place) None
    ≡ None
none-there zero place = refl
none-there (suc n) zero = refl
none-there (suc n) (suc place) = none-there n place

pub idle-talks : (s : State) → IsIdle s → HaveAgreedSize s.connections
idle-talks s idle place t e =
    let none : unwrap_or (slice_get s.connections place) None ≡ None =
    ap (λ (cs : List (Option ConnectionState)). unwrap_or (slice_get cs place) None) idle.closed
    ∙ none-there 8 place in
    absurd (let no : None ≡ Some t = sym none ∙ e in cc)
