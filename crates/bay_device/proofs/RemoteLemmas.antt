-- The key of a command's switch is at remote, by the events.
use Rattle.std.proofs.Common.{◌≡◌, ℕ, ℤ, Bool, true, false, not, cond, nat_eq, nat_lt, List, [], ◌∷◌, All, map, get_or, slice_get, slice_set, unwrap_or, Option, None, Some, option_and_then, option_map, Result, Ok, Err, IfOk, inl, inr, refl, ap, sym, subst, ◌∙◌, is_ok}
use Rattle.std.proofs.lemmas.Bool.{not-false}
use Rattle.std.proofs.lemmas.List.{get_or-set_other, get_or-set_same}
use Rattle.std.proofs.lemmas.Bool.Decides.{eqb_tells}
use Rattle.std.proofs.lemmas.Option.{slice_get-map, slice_get_within, unwrap_or-slice_get}
use Rattle.bay_base.specs.declared.point.MeterField.{MeterField}
use Rattle.bay_base.specs.declared.position.Dbpos.{Dbpos}
use Rattle.bay_nodes.specs.declared.switch.Switch.{Switch}
use Rattle.bay_control.specs.Decisions.{control_in, controls_of, key_input}
use Rattle.bay_control.specs.Requests.{control_of, control_or_none, is_local}
use Rattle.bay_control.specs.declared.control.SwitchControl.{SwitchControl}
use Rattle.bay_mms_services.specs.declared.answer.Command.{Command}
use Rattle.bay_device.specs.Commands.{AreCommanded, IsReleasedAt}
use Rattle.bay_device.specs.Device.{State, device_after_loss, device_at, inputs_lost, positions_lost}
use Rattle.bay_device.specs.Fresh.{IsHistory, PastEvent}
use Rattle.bay_device.specs.Outcomes.{Outcome, contact_outcome, bad_measure_outcome, event_outcome, input_outcome, last_moment, measure_outcome, outcome, refusal_outcome}
use Rattle.bay_device.specs.Remote.{AreAtRemote, IsAtRemote, RemoteAt, is_on, is_on_after, key_input_at}
use Rattle.bay_device.specs.Steps.{OfAssociation, Steps}
use Rattle.bay_device.specs.declared.event.Event.{Event}
use Rattle.bay_device.specs.declared.event.Event.TheVariants.{Open, Recv, Close, Contact, Input, Measure, BadMeasure, Lost, Scan}
use Rattle.bay_device.specs.declared.event.Step.{Step}
use Rattle.bay_device.specs.declared.fault.StepFault.{StepFault}
use Rattle.bay_device.specs.declared.fault.StepFault.TheVariants.{MomentTooLarge, TimeWentBack}
use Rattle.bay_device.proofs.CommandLemmas.{step-commanded}
use Rattle.bay_device.proofs.LostLemmas.{loss-passes, measures-pass}
use Rattle.bay_device.proofs.SameLemmas.{Parts, Same, same-event}

-- ---- what the bay file says of the switches and their keys

pub record Settings : Type 0 where
  pub names : List (List ℕ)
  pub switches : List Switch
  pub settings : List SwitchControl

abbrev pub settings_of : State → Settings
settings_of s = record {
  names = s.inputs;
  switches = s.switches;
  settings = s.controls.controls;
}

-- the value of the input at an index; FALSE if there is none
abbrev pub value_at : List Bool → ℕ → Bool
value_at values input = unwrap_or (slice_get values input) false

-- ---- the values of the inputs

set-value : (values : List Bool) (k : ℕ) (value before : Bool) (input : ℕ)
    → slice_get values k ≡ Some before
    → value_at (slice_set values k value) input
    ≡ cond (nat_eq k input) value (value_at values input)
set-value values k value before input here =
    elim (eqb_tells k input) [
      | inl p ↦
          unwrap_or-slice_get (slice_set values k value) input false
          ∙ ap (λ (j : ℕ). get_or (slice_set values k value) j false) (sym p.1)
          ∙ get_or-set_same values k value false (slice_get_within values k before here)
          ∙ ap (λ (b : Bool). cond b value (value_at values input)) (sym p.0)
      | inr p ↦
          unwrap_or-slice_get (slice_set values k value) input false
          ∙ get_or-set_other values k input value false (λ (e : input ≡ k). p.1 (sym e))
          ∙ sym (unwrap_or-slice_get values input false)
          ∙ ap (λ (b : Bool). cond b value (value_at values input)) (sym p.0)
    ]

none-on : {A : Type 0} (o : Option A)
    → unwrap_or (option_map (λ (x : A). false) o) false ≡ false
none-on None = refl
none-on (Some x) = refl

cleared : {A : Type 0} (xs : List A) (input : ℕ)
    → value_at (map (λ (x : A). false) xs) input ≡ false
cleared {A} xs input =
    ap (λ (o : Option Bool). unwrap_or o false) (slice_get-map (λ (x : A). false) xs input)
    ∙ none-on (slice_get xs input)

-- the same either way
either : (b h x : Bool) → h ≡ x → cond b h h ≡ x
either true h x is = is
either false h x is = is

module _ (now : ℕ) (s : State) where
  -- ---- the settings stay

  abbrev Fixed : Outcome → Type 0
  Fixed o = settings_of o.after ≡ settings_of s

  fixed-same : (choice : Option ℕ) (event : Event) → OfAssociation event
      → Fixed (event_outcome choice now event s)
  fixed-same choice event of =
      ap (λ (p : Parts). let x : Settings =
      record { names = p.names; switches = p.switches; settings = p.settings } in x)
      (same-event now s choice event of)

  fixed-contact : (k : ℕ) (position : Dbpos) (o : Option Switch)
      → Fixed (contact_outcome now k position s o)
  fixed-contact k position None = refl
  fixed-contact k position (Some switch) = refl

  fixed-input : (k : ℕ) (value : Bool) (o : Option Bool) → Fixed (input_outcome now k value s o)
  fixed-input k value None = refl
  fixed-input k value (Some before) = refl

  fixed-measure : (k : ℕ) (field : MeterField) (value : ℤ) (o : Option (List ℕ))
      → Fixed (measure_outcome now k field value s o)
  fixed-measure k field value None = refl
  fixed-measure k field value (Some id) = refl

  fixed-doubt : (k : ℕ) (field : MeterField) (o : Option (List ℕ))
      → Fixed (bad_measure_outcome now k field s o)
  fixed-doubt k field None = refl
  fixed-doubt k field (Some id) = refl

  fixed-event : (choice : Option ℕ) (event : Event) → Fixed (event_outcome choice now event s)
  fixed-event choice (Open a) = fixed-same choice (Open a) tt
  fixed-event choice (Recv a octets) = fixed-same choice (Recv a octets) tt
  fixed-event choice (Close a) = fixed-same choice (Close a) tt
  fixed-event choice (Contact k position) = fixed-contact k position (slice_get s.switches k)
  fixed-event choice (Input k value) = fixed-input k value (slice_get s.input_values k)
  fixed-event choice (Measure k field value) =
      fixed-measure k field value (slice_get s.meters k)
  fixed-event choice (BadMeasure k field) = fixed-doubt k field (slice_get s.meters k)
  fixed-event choice Lost =
      loss-passes (λ t. settings_of t ≡ settings_of s) now (λ k switch t p. p)
      (λ k field t p. p) (λ t p. p) (λ t p. p) (device_at now s) refl
  fixed-event choice Scan = refl

  fixed-if : (late early : Bool) (o : Outcome) → Fixed o
      → Fixed (cond late (refusal_outcome MomentTooLarge s)
      (cond early (refusal_outcome TimeWentBack s) o))
  fixed-if true early o is = refl
  fixed-if false true o is = refl
  fixed-if false false o is = is

  pub fixed-outcome : (choice : Option ℕ) (event : Event) → Fixed (outcome choice now event s)
  fixed-outcome choice event =
      fixed-if (nat_lt last_moment now) (nat_lt now s.moment) (event_outcome choice now event s)
      (fixed-event choice event)

  -- ---- what the process reports of an input

  module _ (past : List PastEvent) (input : ℕ)
      (tracks : value_at s.input_values input ≡ is_on input past) where
    abbrev Told : Event → Outcome → Type 0
    Told event o =
        value_at o.after.input_values input
        ≡ cond (is_ok o.answer) (is_on_after input event (is_on input past)) (is_on input past)

    told-same : (choice : Option ℕ) (event : Event) → OfAssociation event
        → is_on_after input event (is_on input past) ≡ is_on input past
        → Told event (event_outcome choice now event s)
    told-same choice event of stays =
        let o : Outcome = event_outcome choice now event s in
        ap (λ (p : Parts). value_at p.inputs input) (same-event now s choice event of) ∙ tracks
        ∙ sym (ap (λ (h : Bool). cond (is_ok o.answer) h (is_on input past)) stays
        ∙ either (is_ok o.answer) (is_on input past) (is_on input past) refl)

    told-contact : (k : ℕ) (position : Dbpos) (o : Option Switch)
        → Told (Contact k position) (contact_outcome now k position s o)
    told-contact k position None = tracks
    told-contact k position (Some switch) = tracks

    told-input : (k : ℕ) (value : Bool) (o : Option Bool) → slice_get s.input_values k ≡ o
        → Told (Input k value) (input_outcome now k value s o)
    told-input k value None here = tracks
    told-input k value (Some before) here =
        set-value s.input_values k value before input here
        ∙ ap (λ (b : Bool). cond (nat_eq k input) value b) tracks

    told-measure : (k : ℕ) (field : MeterField) (value : ℤ) (o : Option (List ℕ))
        → Told (Measure k field value) (measure_outcome now k field value s o)
    told-measure k field value None = tracks
    told-measure k field value (Some id) = tracks

    told-doubt : (k : ℕ) (field : MeterField) (o : Option (List ℕ))
        → Told (BadMeasure k field) (bad_measure_outcome now k field s o)
    told-doubt k field None = tracks
    told-doubt k field (Some id) = tracks

    told-lost : value_at (device_after_loss now (device_at now s)).input_values input ≡ false
    told-lost =
        let t : State = positions_lost now 0 s.switches (device_at now s) in
        measures-pass (λ u. value_at u.input_values input ≡ false) now (λ k switch u p. p)
        (λ k field u p. p) 0 s.meters (inputs_lost now t) (cleared t.input_values input)

    told-event : (choice : Option ℕ) (event : Event)
        → Told event (event_outcome choice now event s)
    told-event choice (Open a) = told-same choice (Open a) tt refl
    told-event choice (Recv a octets) = told-same choice (Recv a octets) tt refl
    told-event choice (Close a) = told-same choice (Close a) tt refl
    told-event choice (Contact k position) =
        told-contact k position (slice_get s.switches k)
    told-event choice (Input k value) = told-input k value (slice_get s.input_values k) refl
    told-event choice (Measure k field value) =
        told-measure k field value (slice_get s.meters k)
    told-event choice (BadMeasure k field) = told-doubt k field (slice_get s.meters k)
    told-event choice Lost = told-lost
    told-event choice Scan = tracks

    told-if : (late early : Bool) (event : Event) (o : Outcome) → Told event o
        → Told event
        (cond late (refusal_outcome MomentTooLarge s)
        (cond early (refusal_outcome TimeWentBack s) o))
    told-if true early event o told = tracks
    told-if false true event o told = tracks
    told-if false false event o told = told

    pub told-outcome : (choice : Option ℕ) (event : Event)
        → Told event (outcome choice now event s)
    told-outcome choice event =
        told-if (nat_lt last_moment now) (nat_lt now s.moment) event
        (event_outcome choice now event s) (told-event choice event)

-- ---- since load

-- after these events the inputs have the values that the process reported, and the settings of the
-- controls are those of the bay file
pub record Follows (past : List PastEvent) (s : State) : Type 0 where
  pub values : (input : ℕ) → value_at s.input_values input ≡ is_on input past
  pub settings : s.controls.controls ≡ controls_of s.inputs s.switches

pub follows-first : (s : State) → IsHistory [] s → Follows [] s
follows-first s came = record {
  values = λ input. ap (λ (t : State). value_at t.input_values input) came.2
      ∙ cleared came.0.inputs input;
  settings = ap (λ (t : State). t.controls.controls) came.2
      ∙ sym (ap (λ (t : State). controls_of t.inputs t.switches) came.2);
}

settings-kept : (s t : State) → settings_of t ≡ settings_of s
    → s.controls.controls ≡ controls_of s.inputs s.switches
    → t.controls.controls ≡ controls_of t.inputs t.switches
settings-kept s t same is =
    ap (λ (x : Settings). x.settings) same ∙ is
    ∙ sym (ap (λ (x : Settings). controls_of x.names x.switches) same)

-- no step changes the settings
pub fixed-step : (now : ℕ) (event : Event) (old : State) (answer : Result Step StepFault)
    (new : State) → Steps now event old answer new → settings_of new ≡ settings_of old
fixed-step now event old answer new steps =
    ap settings_of steps.left ∙ fixed-outcome now old steps.choice event

-- a step more
pub follows-step : (p : PastEvent) (past : List PastEvent) (before : State) → Follows past before
    → Steps p.now p.event before p.answer p.after → Follows (p ∷ past) p.after
follows-step p past before follows steps = record {
  values = λ input.
      ap (λ (t : State). value_at t.input_values input) steps.left
      ∙ told-outcome p.now before past input (follows.values input) steps.choice p.event
      ∙ sym (ap (λ (r : Result Step StepFault).
      cond (is_ok r) (is_on_after input p.event (is_on input past)) (is_on input past))
      steps.answered);
  settings =
      settings-kept before p.after
      (fixed-step p.now p.event before p.answer p.after steps) follows.settings;
}

came-follows : (past : List PastEvent) (s : State) → IsHistory past s → Follows past s
came-follows [] s came = follows-first s came
came-follows (p ∷ past) s came =
    subst (Follows (p ∷ past)) (sym came.0)
    (follows-step p past came.1.0 (came-follows past came.1.0 came.1.1) came.1.2)

-- ---- commands

key-in : (names : List (List ℕ)) (o : Option Switch)
    → (control_or_none (option_map (control_in names) o)).key
    ≡ option_and_then (key_input names) o
key-in names None = refl
key-in names (Some switch) = refl

key-at : (s : State) (k : ℕ) → s.controls.controls ≡ controls_of s.inputs s.switches
    → (control_of s.controls.controls k).key ≡ key_input_at s k
key-at s k is =
    ap (λ (cs : List SwitchControl). (control_of cs k).key) is
    ∙ ap (λ (o : Option SwitchControl). (control_or_none o).key)
    (slice_get-map (control_in s.inputs) s.switches k)
    ∙ key-in s.inputs (slice_get s.switches k)

-- what may be operated on a device has its key at remote
remote-by : (s : State) (past : List PastEvent) → Follows past s → (command : Command)
    → is_local (control_of s.controls.controls command.switch).key s.input_values ≡ false
    → IsAtRemote s past command
remote-by s past follows command local input is =
    let key : (control_of s.controls.controls command.switch).key ≡ Some input =
    key-at s command.switch follows.settings ∙ is in
    let off : not (value_at s.input_values input) ≡ false =
    sym (ap (λ (o : Option ℕ). is_local o s.input_values) key) ∙ local in
    sym (follows.values input) ∙ not-false (value_at s.input_values input) off

-- also on a device that has changed only for its clients since
pub remote-since : (old s : State) (past : List PastEvent) (now : ℕ) (command : Command)
    → Same old s
    → Follows past old → IsReleasedAt now s command → IsAtRemote old past command
remote-since old s past now command same follows released =
    remote-by old past follows command
    (sym (ap (λ (p : Parts). is_local (control_of p.settings command.switch).key p.inputs) same)
    ∙ released.remote)

-- the settings of a device say which keys there are
pub same-keys : (s t : State) → settings_of s ≡ settings_of t → (past : List PastEvent)
    (answer : Result Step StepFault) → AreAtRemote s past answer → AreAtRemote t past answer
same-keys s t same past answer all =
    subst (λ (x : Settings). IfOk answer (λ step. All (λ (command : Command). (input : ℕ)
    → option_and_then (key_input x.names) (slice_get x.switches command.switch) ≡ Some input
    → is_on input past ≡ true) step.commands)) same all

pub same-key : (s t : State) → settings_of s ≡ settings_of t → (past : List PastEvent)
    (command : Command) → IsAtRemote s past command → IsAtRemote t past command
same-key s t same past command all =
    subst (λ (x : Settings). (input : ℕ)
    → option_and_then (key_input x.names) (slice_get x.switches command.switch) ≡ Some input
    → is_on input past ≡ true) same all

remote-if : (now : ℕ) (past : List PastEvent) (s : State) (answer : Result Step StepFault)
    → Follows past s → IfOk answer (AreCommanded now s) → AreAtRemote s past answer
remote-if now past s (Ok step) follows commanded =
    λ k d within.
    remote-by s past follows (get_or step.commands k d) (commanded.released k d within).remote
remote-if now past s (Err fault) follows commanded = tt

pub step-remote : (now : ℕ) (event : Event) (old : State) (answer : Result Step StepFault)
    (new : State) → Steps now event old answer new → RemoteAt now event old answer new
step-remote now event old answer new steps past came =
    remote-if now past old answer (came-follows past old came)
    (step-commanded now event old answer new steps)
