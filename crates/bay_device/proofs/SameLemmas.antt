-- What clients leave as it is: the program, the process, the interlocking values, and what the
-- device notes of its scans.
use Rattle.std.proofs.Common.{◌≡◌, ℕ, zero, suc, Bool, true, false, cond, nat_lt, List, [], ◌∷◌, Option, Some, None, refl, ap₂, ◌∙◌}
use Rattle.bay_base.specs.declared.point.Source.{Source}
use Rattle.bay_connection.specs.ConnectionStates.{Indication, ConnectionState, Terms, answers, delivers, releases, ends, fails, indications, connection_after}
use Rattle.bay_nodes.specs.declared.profile.Profile.{Profile}
use Rattle.bay_nodes.specs.declared.switch.Switch.{Switch}
use Rattle.bay_control.specs.declared.control.SwitchControl.{SwitchControl}
use Rattle.bay_mms_services.specs.Answers.{pdu_answer}
use Rattle.bay_mms_services.proofs.AcceptedLemmas.{alike-after}
use Rattle.bay_mms_services.proofs.EntryLemmas.{inputs-stay, settings-stay}
use Rattle.bay_mms_services.proofs.ReleaseLemmas.{request-leaves}
use Rattle.bay_tree.specs.declared.row.Row.{Row}
use Rattle.il_scan.specs.Scans.{MachineData}
use Rattle.bay_device.specs.Device.{State, bay_of, device_at}
use Rattle.bay_device.specs.Receiving.{ReceiveResult, StepState, after_indications, after_pdu, client_at, on_indication, with_sent}
use Rattle.bay_device.specs.Outcomes.{Outcome, close_outcome, connection_at, event_outcome, initial_connection, last_moment, step_start, octets_outcome, open_outcome, outcome, slot_of, recv_after, recv_outcome, refusal_outcome, with_connection, without_owner}
use Rattle.bay_device.specs.Steps.{OfAssociation}
use Rattle.bay_device.specs.declared.event.Event.{Event}
use Rattle.bay_device.specs.declared.event.Event.TheVariants.{Open, Recv, Close, Contact, Input, Measure, BadMeasure, Lost, Scan}
use Rattle.bay_device.specs.declared.event.Why.{Why}
use Rattle.bay_device.specs.declared.fault.StepFault.TheVariants.{MomentTooLarge, TimeWentBack}

pub record Parts : Type 0 where
  pub machine : MachineData
  pub switches : List Switch
  pub meters : List (List ℕ)
  pub profile : Profile
  pub reads : List Source
  pub writes : List Source
  pub rows : List Row
  pub inputs : List Bool
  pub scans : Option ℕ
  pub stale : Bool
  pub lost : Bool
  pub age : ℕ
  pub names : List (List ℕ)
  pub settings : List SwitchControl

abbrev pub parts_of : State → Parts
parts_of s = record {
  machine = s.machine;
  switches = s.switches;
  meters = s.meters;
  profile = s.profile;
  reads = s.reads;
  writes = s.writes;
  rows = s.rows;
  inputs = s.input_values;
  scans = s.last_scan;
  stale = s.is_stale;
  lost = s.is_lost;
  age = s.scan_max_age_ms;
  names = s.inputs;
  settings = s.controls.controls;
}

-- all of this is the same
abbrev pub Same : State → State → Type 0
Same s t = parts_of t ≡ parts_of s

same-with : (s : State) (o : Option ℕ) (x : Option ConnectionState) (t : State) → Same s t
    → Same s (with_connection o x t)
same-with s None x t same = same
same-with s (Some place) x t same = same

-- ---- octets

same-said : (now a : ℕ) (terms : Terms) (pdu : List ℕ) (d : StepState)
    → Same d.state (after_pdu now a terms pdu d).state
same-said now a terms pdu d =
    let c = client_at now a terms d.state in
    let b = bay_of d.state in
    ap₂ (λ (switches : List Switch) (rows : List Row).
    record (parts_of d.state) {
      switches = switches;
      rows = rows;
      inputs = (pdu_answer c pdu b).after.inputs;
      settings = (pdu_answer c pdu b).after.controls.controls;
    })
    (alike-after b c pdu b (record { domain = refl; switches = refl; names = refl })).switches
    (request-leaves c pdu b).rows
    ∙ ap₂ (λ (inputs : List Bool) (settings : List SwitchControl).
    record (parts_of d.state) { inputs = inputs; settings = settings }) (inputs-stay c pdu b)
    (settings-stay c pdu b)

same-one : (now a : ℕ) (i : Indication) (s : State) (d : StepState)
    (later : StepState → ReceiveResult)
    → Same s d.state → ((e : StepState) → Same s e.state → Same s (later e).done.state)
    → Same s (on_indication now a i d later).done.state
same-one now a (answers octets) s d later same rest = rest (with_sent a octets d) same
same-one now a (delivers terms pdu) s d later same rest =
    rest (after_pdu now a terms pdu d) (same-said now a terms pdu d ∙ same)
same-one now a (releases octets) s d later same rest = same
same-one now a ends s d later same rest = same
same-one now a (fails code) s d later same rest = same

same-indications : (choice : Option ℕ) (now a : ℕ) (is : List Indication) (s : State)
    (d : StepState)
    → Same s d.state → Same s (after_indications choice now a is d).done.state
same-indications None now a [] s d same = same
same-indications None now a (i ∷ is) s d same =
    same-one now a i s d (after_indications None now a is) same
    (λ e p. same-indications None now a is s e p)
same-indications (Some zero) now a [] s d same = same
same-indications (Some zero) now a (i ∷ is) s d same = same
same-indications (Some (suc n)) now a [] s d same = same
same-indications (Some (suc n)) now a (i ∷ is) s d same =
    same-one now a i s d (after_indications (Some n) now a is) same
    (λ e p. same-indications (Some n) now a is s e p)

same-left : (a : ℕ) (left : ConnectionState) (s t : State) (why : Option Why) → Same s t
    → Same s (recv_after a left t why)
same-left a left s t None same = same-with s (slot_of a) (Some left) t same
same-left a left s t (Some why) same = same-with s (slot_of a) None (without_owner a t) same

-- ---- events

module _ (now : ℕ) (s : State) where
  same-open : (a : ℕ) (o : Option ℕ) (talk : Option ConnectionState)
      → Same s (open_outcome now a s o talk).after
  same-open a None talk = refl
  same-open a (Some place) (Some talk) = refl
  same-open a (Some place) None =
      same-with s (slot_of a) (Some (initial_connection a)) (device_at now s) refl

  same-close : (a : ℕ) (talk : Option ConnectionState) → Same s (close_outcome now a s talk).after
  same-close a None = refl
  same-close a (Some talk) =
      same-with s (slot_of a) None (without_owner a (device_at now s)) refl

  same-octets : (choice : Option ℕ) (a : ℕ) (talk : ConnectionState) (octets : List ℕ)
      → Same s (octets_outcome choice now a s talk octets).after
  same-octets choice a talk [] = refl
  same-octets choice a talk (octet ∷ octets) =
      let is : List Indication = indications talk (octet ∷ octets) in
      let h : ReceiveResult = after_indications choice now a is (step_start (device_at now s)) in
      same-left a (connection_after talk (octet ∷ octets)) s h.done.state h.why
      (same-indications choice now a is s (step_start (device_at now s)) refl)

  same-heard : (choice : Option ℕ) (a : ℕ) (octets : List ℕ) (talk : Option ConnectionState)
      → Same s (recv_outcome choice now a octets s talk).after
  same-heard choice a octets None = refl
  same-heard choice a octets (Some talk) = same-octets choice a talk octets

  pub same-event : (choice : Option ℕ) (event : Event) → OfAssociation event
      → Same s (event_outcome choice now event s).after
  same-event choice (Open a) of = same-open a (slot_of a) (connection_at (slot_of a) s)
  same-event choice (Recv a octets) of =
      same-heard choice a octets.now (connection_at (slot_of a) s)
  same-event choice (Close a) of = same-close a (connection_at (slot_of a) s)
  same-event choice (Contact k position) of = absurd of
  same-event choice (Input k value) of = absurd of
  same-event choice (Measure k field value) of = absurd of
  same-event choice (BadMeasure k field) of = absurd of
  same-event choice Lost of = absurd of
  same-event choice Scan of = absurd of

  -- where a moment may refuse the event
  if-refused : (P : State → Type 0) (late early : Bool) (o : Outcome) → P s → P o.after
      → P (cond late (refusal_outcome MomentTooLarge s)
      (cond early (refusal_outcome TimeWentBack s) o)).after
  if-refused P true early o here there = here
  if-refused P false true o here there = here
  if-refused P false false o here there = there

  pub same-outcome : (choice : Option ℕ) (event : Event) → OfAssociation event
      → Same s (outcome choice now event s).after
  same-outcome choice event of =
      if-refused (Same s) (nat_lt last_moment now) (nat_lt now s.moment)
      (event_outcome choice now event s) refl (same-event choice event of)
