-- What events ask of a device's controls leads them from those before to those after.
use Rattle.std.proofs.Common.{◌≡◌, ◌≢◌, ◌<◌, ◌+◌, ◌-◌, ℕ, zero, suc, Bool, true, false, not, ◌&&◌, ◌||◌, cond, nat_lt, List, [], ◌∷◌, ◌++◌, length, Option, None, Some, is_some, unwrap_or, slice_get, slice_set, refl, ap, sym, subst, ◌∙◌, arith, append-nil}
use Rattle.std.specs.Prelude.{ℤ, ◌==◌, Result, is_ok}
use Rattle.std.proofs.lemmas.Bool.{eqb-true, eq-eqb}
use Rattle.std.proofs.lemmas.List.{length-set}
use Rattle.bay_base.specs.declared.point.MeterField.{MeterField}
use Rattle.bay_nodes.specs.declared.switch.Switch.{Switch}
use Rattle.bay_base.specs.declared.position.Dbpos.{Dbpos}
use Rattle.bay_control.specs.Acts as act
use Rattle.bay_control.specs.Acts.{Entry}
use Rattle.bay_control.specs.TimedCalls as call
use Rattle.bay_control.specs.TimedCalls.{LeadsControls, act_of, entries_of, is_open_after, is_orderly_call, outcome_of}
use Rattle.bay_control.proofs.LeadsLemmas.{none-leads, two-lead}
use Rattle.bay_connection.specs.ConnectionStates.{Indication, ConnectionState, answers, delivers, releases, ends as ends-heard, fails, indications, connection_after}
use Rattle.bay_mms_services.proofs.EntryLemmas.{request-leads}
use Rattle.bay_mms_services.specs.Entries.{entries_on_pdu}
use Rattle.bay_device.specs.Device.{State, device_at, bay_of, device_after_contact, with_health}
use Rattle.bay_device.specs.Entries.{LeadsByChoice, entries_at, entries_on_close, entries_on_closing, entries_on_indications, entries_on_octets, entries_on_event, entries_on_indication, entries_on_open, entries_on_recv, opens, entries_of_act}
use Rattle.bay_device.specs.Receiving.{StepState, ReceiveResult, client_at, after_indications, on_indication, after_pdu}
use Rattle.bay_device.specs.Outcomes.{Outcome, close_outcome, without_connection, connection_at, contact_outcome, bad_measure_outcome, event_outcome, initial_connection, input_outcome, last_moment, lost_outcome, measure_outcome, step_start, octets_outcome, open_outcome, outcome, slot_of, refusal_outcome, recv_after, recv_outcome, with_connection, without_owner}
use Rattle.bay_device.specs.Steps.{Steps}
use Rattle.bay_device.specs.declared.event.Event.{Event}
use Rattle.bay_device.specs.declared.event.Event.TheVariants.{Open, Recv, Close, Contact, Input, Measure, BadMeasure, Lost, Scan}
use Rattle.bay_device.specs.declared.event.Step.{Step}
use Rattle.bay_device.specs.declared.event.Why.{Why}
use Rattle.bay_device.specs.declared.fault.StepFault.{StepFault}
use Rattle.bay_device.specs.declared.fault.StepFault.TheVariants.{TimeWentBack}
use Rattle.bay_device.proofs.LostLemmas.{Fixed, Operating, lost-fixed, lost-operating}

-- ---- which associations are open

connections-at : (o : Option ℕ) (s t : State) → t.connections ≡ s.connections
    → connection_at o t ≡ connection_at o s
connections-at None s t same = refl
connections-at (Some place) s t same =
    ap (λ (cs : List (Option ConnectionState)). unwrap_or (slice_get cs place) None) same

opens-same : (s t : State) (a : ℕ) → t.connections ≡ s.connections → opens t a ≡ opens s a
opens-same s t a same =
    ap (λ (o : Option ConnectionState). is_some o) (connections-at (slot_of a) s t same)

-- an association of the eight, by its place
record IsPlaced (a place : ℕ) : Type 0 where
  within : place < 8
  is : a ≡ place + 1

placed-if : (b : Bool) (a place : ℕ) → (nat_lt 0 a && nat_lt a 9) ≡ b
    → cond b (Some (a - 1)) None ≡ Some place → IsPlaced a place
placed-if true a place e is = let p : a - 1 ≡ place =
    cc in record { within = grind arith; is = grind arith }
placed-if false a place e is = absurd cc

placed : (a place : ℕ) → slot_of a ≡ Some place → IsPlaced a place
placed a place is = placed-if (nat_lt 0 a && nat_lt a 9) a place refl is

-- a place that is set, and another one
at-set : (cs : List (Option ConnectionState)) (i : ℕ) (x : Option ConnectionState) → i < length cs
    → unwrap_or (slice_get (slice_set cs i x) i) None ≡ x
at-set [] i x within = absurd (omega arith)
at-set (c ∷ cs) zero x within = refl
at-set (c ∷ cs) (suc i) x within = at-set cs i x (omega arith)

beside-set : (cs : List (Option ConnectionState)) (i j : ℕ) (x : Option ConnectionState) → i ≢ j
    → slice_get (slice_set cs i x) j ≡ slice_get cs j
beside-set [] i j x apart = refl
beside-set (c ∷ cs) zero zero x apart = absurd (apart refl)
beside-set (c ∷ cs) zero (suc j) x apart = refl
beside-set (c ∷ cs) (suc i) zero x apart = refl
beside-set (c ∷ cs) (suc i) (suc j) x apart = beside-set cs i j x (λ e. apart (ap (λ n. suc n) e))

-- another association's connection, when one is set
others-at : (a b place : ℕ) (x : Option ConnectionState) (s : State) (o : Option ℕ)
    → slot_of a ≡ Some place
    → slot_of b ≡ o → (b ≡ a → ⊥)
    → connection_at o (with_connection (Some place) x s) ≡ connection_at o s
others-at a b place x s None here there apart = refl
others-at a b place x s (Some other) here there apart =
    let p = placed a place here in
    let q = placed b other there in
    ap (λ (c : Option (Option ConnectionState)). unwrap_or c None)
    (beside-set s.connections place other x
    (λ e. apart (q.is ∙ ap (λ n. n + 1) (sym e) ∙ sym p.is)))

opens-set-if : (is : Bool) (a b place : ℕ) (x : Option ConnectionState) (s : State)
    → length s.connections ≡ 8
    → slot_of a ≡ Some place → (b == a) ≡ is
    → opens (with_connection (Some place) x s) b ≡ cond is (is_some x) (opens s b)
opens-set-if true a b place x s sized here is =
    let same : slot_of b ≡ Some place = ap slot_of (eqb-true b a is) ∙ here in
    let within : place < length s.connections =
    (let p = placed a place here in omega (arith, p.within, sized)) in
    ap (λ (o : Option ℕ). is_some (connection_at o (with_connection (Some place) x s))) same
    ∙ ap (λ (o : Option ConnectionState). is_some o) (at-set s.connections place x within)
opens-set-if false a b place x s sized here is =
    ap (λ (o : Option ConnectionState). is_some o)
    (others-at a b place x s (slot_of b) here refl
    (λ e. let yes : (b == a) ≡ true = eq-eqb b a e in
    absurd (let no : true ≡ false = sym yes ∙ is in cc)))

opens-set : (a b place : ℕ) (x : Option ConnectionState) (s : State) → length s.connections ≡ 8
    → slot_of a ≡ Some place
    → opens (with_connection (slot_of a) x s) b ≡ cond (b == a) (is_some x) (opens s b)
opens-set a b place x s sized here =
    ap (λ (o : Option ℕ). opens (with_connection o x s) b) here
    ∙ opens-set-if (b == a) a b place x s sized here refl

-- what an association's connection leaves
sized-with : (o : Option ℕ) (x : Option ConnectionState) (s : State)
    → length (with_connection o x s).connections ≡ length s.connections
sized-with None x s = refl
sized-with (Some place) x s = length-set s.connections place x

controls-with : (o : Option ℕ) (x : Option ConnectionState) (s : State)
    → (with_connection o x s).controls ≡ s.controls
controls-with None x s = refl
controls-with (Some place) x s = refl

-- ---- from one device to another

-- What is seen leads the controls and the open associations of a device to those of another, which
-- has as many places for them.
record Led (entries : List Entry) (s t : State) : Type 0 where
  leads : LeadsControls entries (opens s) s.controls (opens t) t.controls
  sized : length t.connections ≡ length s.connections

quiet : (s t : State) → t.controls ≡ s.controls → ((a : ℕ) → opens t a ≡ opens s a)
    → length t.connections ≡ length s.connections → Led [] s t
quiet s t controls still sized = record {
  leads = record { timed_calls = []; orderly = tt; seen = refl; ends = controls; opens = still };
  sized = sized;
}

nothing : (s : State) → Led [] s s
nothing s = quiet s s refl (λ a. refl) refl

called : (asked : call.Call) (now : ℕ) (s t : State) → is_orderly_call (opens s) asked ≡ true
    → t.controls ≡ (outcome_of asked now s.controls).after
    → ((a : ℕ) → opens t a ≡ is_open_after (opens s) asked a)
    → length t.connections ≡ length s.connections
    → Led (entries_of now (act_of asked) (is_ok (outcome_of asked now s.controls).answer)) s t
called asked now s t orderly controls still sized = record {
  leads = record {
    timed_calls = record { now = now; call = asked } ∷ [];
    orderly = (orderly, tt);
    seen = sym
        (append-nil (entries_of now (act_of asked)
        (is_ok (outcome_of asked now s.controls).answer)));
    ends = controls;
    opens = still;
  };
  sized = sized;
}

behind : (first next : List Entry) (s t u : State) → Led first s t → Led next t u
    → Led (first ++ next) s u
behind first next s t u p q = record {
  leads = two-lead first next (opens s) (opens t) (opens u) s.controls t.controls u.controls p.leads
      q.leads;
  sized = q.sized ∙ p.sized;
}

-- ---- what ends by itself, and contacts

led-advanced : (now : ℕ) (s : State) → Led [] s (device_at now s)
led-advanced now s =
    called call.Advance now s (device_at now s) refl refl
    (λ a. opens-same s (device_at now s) a refl)
    refl

led-contact : (now k : ℕ) (switch : Switch) (position : Dbpos) (s : State)
    → Led [] s (device_after_contact now k switch position s)
led-contact now k switch position s =
    called (call.Contact k position) now s (device_after_contact now k switch position s) refl refl
    (λ a. opens-same s (device_after_contact now k switch position s) a refl) refl

-- ---- associations are opened and closed

or-if : (t x : Bool) → cond t true x ≡ (t || x)
or-if true x = refl
or-if false x = refl

and-if : (t x : Bool) → cond t false x ≡ (not t && x)
and-if true x = refl
and-if false x = refl

kept-if : (t : Bool) (f : ℕ → Bool) (a b : ℕ) → (b == a) ≡ t → f a ≡ true → cond t true (f b) ≡ f b
kept-if true f a b is opened = sym (ap f (eqb-true b a is) ∙ opened)
kept-if false f a b is opened = refl

led-opened : (now a place : ℕ) (x : ConnectionState) (s : State) → length s.connections ≡ 8
    → slot_of a ≡ Some place → connection_at (Some place) s ≡ None
    → Led (entries_of_act now (act.Opened a)) s (with_connection (slot_of a) (Some x) s)
led-opened now a place x s sized here none =
    called (call.Open a) now s (with_connection (slot_of a) (Some x) s)
    (ap (λ (o : Option ℕ). not (is_some (connection_at o s))) here
    ∙ ap (λ (o : Option ConnectionState). not (is_some o)) none)
    (controls-with (slot_of a) (Some x) s)
    (λ b. opens-set a b place (Some x) s sized here ∙ or-if (b == a) (opens s b))
    (sized-with (slot_of a) (Some x) s)

led-closed : (now a place : ℕ) (s : State) → length s.connections ≡ 8 → slot_of a ≡ Some place
    → opens s a ≡ true → Led (entries_of_act now (act.Closed a)) s (without_connection a s)
led-closed now a place s sized here opened =
    called (call.Close a) now s (without_connection a s) opened
    (controls-with (slot_of a) None (without_owner a s))
    (λ b. opens-set a b place None (without_owner a s) sized here
    ∙ ap (cond (b == a) false) (opens-same s (without_owner a s) b refl)
    ∙ and-if (b == a) (opens s b))
    (sized-with (slot_of a) None (without_owner a s))

led-kept : (a place : ℕ) (x : ConnectionState) (s : State) → length s.connections ≡ 8
    → slot_of a ≡ Some place
    → opens s a ≡ true → Led [] s (with_connection (slot_of a) (Some x) s)
led-kept a place x s sized here opened =
    quiet s (with_connection (slot_of a) (Some x) s) (controls-with (slot_of a) (Some x) s)
    (λ b. opens-set a b place (Some x) s sized here ∙ kept-if (b == a) (opens s) a b refl opened)
    (sized-with (slot_of a) (Some x) s)

led-after : (now a place : ℕ) (left : ConnectionState) (s : State) (why : Option Why)
    → length s.connections ≡ 8 → slot_of a ≡ Some place → opens s a ≡ true
    → Led (entries_on_closing now a why) s (recv_after a left s why)
led-after now a place left s None sized here opened = led-kept a place left s sized here opened
led-after now a place left s (Some why) sized here opened =
    led-closed now a place s sized here opened

-- ---- what is heard

module _ (now a : ℕ) (is_open : ℕ → Bool) (opened : is_open a ≡ true) where
  on-heard-leads : (i : Indication) (d : StepState) (entries : StepState → List Entry)
      (later : StepState → ReceiveResult)
      → ((e : StepState) → LeadsControls (entries e) is_open e.state.controls is_open
      (later e).done.state.controls)
      → LeadsControls (entries_on_indication now a i d entries) is_open d.state.controls is_open
      (on_indication now a i d later).done.state.controls
  on-heard-leads (answers octets) d entries later rest = rest _
  on-heard-leads (delivers terms pdu) d entries later rest =
      let e : StepState = after_pdu now a terms pdu d in
      two-lead (entries_on_pdu (client_at now a terms d.state) pdu (bay_of d.state)) (entries e)
      is_open
      is_open is_open
      d.state.controls e.state.controls (later e).done.state.controls
      (request-leads (client_at now a terms d.state) pdu (bay_of d.state) is_open opened) (rest e)
  on-heard-leads (releases octets) d entries later rest = none-leads is_open d.state.controls
  on-heard-leads ends-heard d entries later rest = none-leads is_open d.state.controls
  on-heard-leads (fails code) d entries later rest = none-leads is_open d.state.controls

  heard-leads : (choice : Option ℕ) (is : List Indication) (d : StepState)
      → LeadsControls (entries_on_indications choice now a is d) is_open d.state.controls is_open
      (after_indications choice now a is d).done.state.controls
  heard-leads None [] d = none-leads is_open d.state.controls
  heard-leads None (i ∷ is) d =
      on-heard-leads i d (entries_on_indications None now a is) (after_indications None now a is)
      (λ e. heard-leads None is e)
  heard-leads (Some zero) [] d = none-leads is_open d.state.controls
  heard-leads (Some zero) (i ∷ is) d = none-leads is_open d.state.controls
  heard-leads (Some (suc n)) [] d = none-leads is_open d.state.controls
  heard-leads (Some (suc n)) (i ∷ is) d =
      on-heard-leads i d (entries_on_indications (Some n) now a is)
      (after_indications (Some n) now a is)
      (λ e. heard-leads (Some n) is e)

on-heard-connected : (now a : ℕ) (i : Indication) (d : StepState)
    (later : StepState → ReceiveResult)
    → ((e : StepState) → (later e).done.state.connections ≡ e.state.connections)
    → (on_indication now a i d later).done.state.connections ≡ d.state.connections
on-heard-connected now a (answers octets) d later rest = rest _
on-heard-connected now a (delivers terms pdu) d later rest = rest (after_pdu now a terms pdu d)
on-heard-connected now a (releases octets) d later rest = refl
on-heard-connected now a ends-heard d later rest = refl
on-heard-connected now a (fails code) d later rest = refl

pub heard-connected : (choice : Option ℕ) (now a : ℕ) (is : List Indication) (d : StepState)
    → (after_indications choice now a is d).done.state.connections ≡ d.state.connections
heard-connected None now a [] d = refl
heard-connected None now a (i ∷ is) d =
    on-heard-connected now a i d (after_indications None now a is)
    (λ e. heard-connected None now a is e)
heard-connected (Some zero) now a [] d = refl
heard-connected (Some zero) now a (i ∷ is) d = refl
heard-connected (Some (suc n)) now a [] d = refl
heard-connected (Some (suc n)) now a (i ∷ is) d =
    on-heard-connected now a i d (after_indications (Some n) now a is)
    (λ e. heard-connected (Some n) now a is e)

led-heard : (choice : Option ℕ) (now a : ℕ) (is : List Indication) (d : StepState)
    → opens d.state a ≡ true
    → Led (entries_on_indications choice now a is d) d.state
    (after_indications choice now a is d).done.state
led-heard choice now a is d opened =
    let h : ReceiveResult = after_indications choice now a is d in
    let same : h.done.state.connections ≡ d.state.connections = heard-connected choice now a is d in
    let leads : LeadsControls (entries_on_indications choice now a is d) (opens d.state)
    d.state.controls
    (opens d.state) h.done.state.controls =
    heard-leads now a (opens d.state) opened choice is d in
    record {
      leads = record {
        timed_calls = leads.timed_calls;
        orderly = leads.orderly;
        seen = leads.seen;
        ends = leads.ends;
        opens = λ b. opens-same d.state h.done.state b same ∙ leads.opens b;
      };
      sized = ap (λ (cs : List (Option ConnectionState)). length cs) same;
    }

-- ---- a Recv

place-at : (a : ℕ) (o : Option ℕ) (s : State) (talk : ConnectionState) → slot_of a ≡ o
    → connection_at o s ≡ Some talk → (place : ℕ) × (slot_of a ≡ Some place)
place-at a None s talk here is = absurd cc
place-at a (Some place) s talk here is = (place, here)

led-octets : (choice : Option ℕ) (now a : ℕ) (s : State) (talk : ConnectionState) (octets : List ℕ)
    → length s.connections ≡ 8 → connection_at (slot_of a) s ≡ Some talk
    → Led (entries_on_octets choice now a s talk octets) s
    (octets_outcome choice now a s talk octets).after
led-octets choice now a s talk [] sized is = led-advanced now s
led-octets choice now a s talk (octet ∷ octets) sized is =
    let place = place-at a (slot_of a) s talk refl is in
    let t : State = device_at now s in
    let left : ConnectionState = connection_after talk (octet ∷ octets) in
    let is-heard : List Indication = indications talk (octet ∷ octets) in
    let h : ReceiveResult = after_indications choice now a is-heard (step_start t) in
    let opened : opens t a ≡ true =
    opens-same s t a refl ∙ ap (λ (o : Option ConnectionState). is_some o) is in
    let first : Led [] s t = led-advanced now s in
    let heard-so : Led (entries_on_indications choice now a is-heard (step_start t)) t
    h.done.state =
    led-heard choice now a is-heard (step_start t) opened in
    let connected : h.done.state.connections ≡ t.connections =
    heard-connected choice now a is-heard (step_start t) in
    let last : Led (entries_on_closing now a h.why) h.done.state
    (recv_after a left h.done.state h.why) =
    led-after now a place.0 left h.done.state h.why (heard-so.sized ∙ sized) place.1
    (opens-same t h.done.state a connected ∙ opened) in
    behind [] (entries_on_indications choice now a is-heard (step_start t)
    ++ entries_on_closing now a h.why) s
    t (recv_after a left h.done.state h.why) first
    (behind (entries_on_indications choice now a is-heard (step_start t))
    (entries_on_closing now a h.why) t
    h.done.state (recv_after a left h.done.state h.why) heard-so last)

led-recv : (choice : Option ℕ) (now a : ℕ) (octets : List ℕ) (s : State)
    (talk : Option ConnectionState)
    → length s.connections ≡ 8 → connection_at (slot_of a) s ≡ talk
    → Led (entries_on_recv choice now a octets s talk) s
    (recv_outcome choice now a octets s talk).after
led-recv choice now a octets s None sized is = nothing s
led-recv choice now a octets s (Some talk) sized is = led-octets choice now a s talk octets sized is

-- ---- an event

module _ (now : ℕ) (s : State) (sized : length s.connections ≡ 8) where
  led-open : (a : ℕ) (o : Option ℕ) (talk : Option ConnectionState) → slot_of a ≡ o
      → connection_at o s ≡ talk
      → Led (entries_on_open now a o talk) s (open_outcome now a s o talk).after
  led-open a None talk here is = nothing s
  led-open a (Some place) (Some talk) here is = nothing s
  led-open a (Some place) None here is =
      behind [] (entries_of_act now (act.Opened a)) s (device_at now s)
      (with_connection (slot_of a) (Some (initial_connection a)) (device_at now s))
      (led-advanced now s)
      (led-opened now a place (initial_connection a) (device_at now s) sized here
      (connections-at (Some place) s (device_at now s) refl ∙ is))

  led-close : (a : ℕ) (talk : Option ConnectionState) → connection_at (slot_of a) s ≡ talk
      → Led (entries_on_close now a talk) s (close_outcome now a s talk).after
  led-close a None is = nothing s
  led-close a (Some talk) is =
      let place = place-at a (slot_of a) s talk refl is in
      let opened : opens (device_at now s) a ≡ true =
      opens-same s (device_at now s) a refl ∙ ap (λ (o : Option ConnectionState). is_some o) is in
      behind [] (entries_of_act now (act.Closed a)) s (device_at now s)
      (without_connection a (device_at now s))
      (led-advanced now s) (led-closed now a place.0 (device_at now s) sized place.1 opened)

  led-contacted : (k : ℕ) (position : Dbpos) (o : Option Switch)
      → Led [] s (contact_outcome now k position s o).after
  led-contacted k position None = nothing s
  led-contacted k position (Some switch) =
      let t : State = device_after_contact now k switch position (device_at now s) in
      behind [] [] s t (with_health now t)
      (behind [] [] s (device_at now s) t (led-advanced now s)
      (led-contact now k switch position (device_at now s)))
      (quiet t (with_health now t) refl (λ a. opens-same t (with_health now t) a refl) refl)

  -- what leaves controls and connections
  led-beside : (t : State) → t.controls ≡ (device_at now s).controls → t.connections ≡ s.connections
      → Led [] s t
  led-beside t controls connections =
      behind [] [] s (device_at now s) t (led-advanced now s)
      (quiet (device_at now s) t controls (λ a. opens-same (device_at now s) t a connections)
      (ap (λ (cs : List (Option ConnectionState)). length cs) connections))

  led-input : (k : ℕ) (value : Bool) (o : Option Bool)
      → Led [] s (input_outcome now k value s o).after
  led-input k value None = nothing s
  led-input k value (Some before) = led-beside _ refl refl

  led-measure : (k : ℕ) (field : MeterField) (value : ℤ) (o : Option (List ℕ))
      → Led [] s (measure_outcome now k field value s o).after
  led-measure k field value None = nothing s
  led-measure k field value (Some id) = led-beside _ refl refl

  led-doubt : (k : ℕ) (field : MeterField) (o : Option (List ℕ))
      → Led [] s (bad_measure_outcome now k field s o).after
  led-doubt k field None = nothing s
  led-doubt k field (Some id) = led-beside _ refl refl

  led-lost : Led [] s (lost_outcome now s).after
  led-lost =
      led-beside _ (ap (λ (o : Operating). o.controls) (lost-operating now (device_at now s)))
      (ap (λ (f : Fixed). f.connections) (lost-fixed now (device_at now s)))

  led-event : (choice : Option ℕ) (event : Event)
      → Led (entries_on_event choice now event s) s (event_outcome choice now event s).after
  led-event choice (Open a) = led-open a (slot_of a) (connection_at (slot_of a) s) refl refl
  led-event choice (Recv a octets) =
      led-recv choice now a octets.now s (connection_at (slot_of a) s) sized refl
  led-event choice (Close a) = led-close a (connection_at (slot_of a) s) refl
  led-event choice (Contact k position) = led-contacted k position (slice_get s.switches k)
  led-event choice (Input k value) = led-input k value (slice_get s.input_values k)
  led-event choice (Measure k field value) = led-measure k field value (slice_get s.meters k)
  led-event choice (BadMeasure k field) = led-doubt k field (slice_get s.meters k)
  led-event choice Lost = led-lost
  led-event choice Scan = led-beside _ refl refl

  led-if : (b : Bool) (xs ys : List Entry) (x y : Outcome) → Led xs s x.after → Led ys s y.after
      → Led (cond b xs ys) s (cond b x y).after
  led-if true xs ys x y p q = p
  led-if false xs ys x y p q = q

  led-outcome : (choice : Option ℕ) (event : Event)
      → Led (entries_at choice now event s) s (outcome choice now event s).after
  led-outcome choice event =
      led-if (nat_lt last_moment now) _ _ _ _ (nothing s)
      (led-if (nat_lt now s.moment) [] (entries_on_event choice now event s)
      (refusal_outcome TimeWentBack s) (event_outcome choice now event s) (nothing s)
      (led-event choice event))

-- an event, from whatever was before
pub leading : (now : ℕ) (event : Event) (old : State) (answer : Result Step StepFault) (new : State)
    → length old.connections ≡ 8 → Steps now event old answer new
    → LeadsByChoice now event old answer new
leading now event old answer new sized steps =
    let after : State = (outcome steps.choice now event old).after in
    let led : Led (entries_at steps.choice now event old) old after =
    led-outcome now old sized steps.choice event in
    record {
      steps = steps;
      leads = λ past open_before before so_far.
          subst (λ (t : State). LeadsControls (past ++ entries_at steps.choice now event old)
          open_before
          before (opens t) t.controls) (sym steps.left)
          (two-lead past (entries_at steps.choice now event old) open_before (opens old)
          (opens after) before old.controls after.controls so_far led.leads);
    }

-- it leaves the eight places
pub eight-places : (now : ℕ) (event : Event) (old : State) (answer : Result Step StepFault)
    (new : State) → length old.connections ≡ 8 → Steps now event old answer new
    → length new.connections ≡ 8
eight-places now event old answer new sized steps =
    ap (λ (s : State). length s.connections) steps.left
    ∙ (led-outcome now old sized steps.choice event).sized ∙ sized
