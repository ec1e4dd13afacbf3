-- Each command of a step is released, and there is one at most.
use Rattle.std.proofs.Common.{◌≡◌, ◌≢◌, ◌≤◌, ℕ, zero, suc, Bool, true, false, not, ◌&&◌, cond, nat_lt, List, [], ◌∷◌, ◌++◌, map, slice_get, Option, Some, None, Result, IfOk, refl, ap, ap₂, sym, subst, ◌∙◌, arith}
use Rattle.std.specs.List.{AllByRecursion}
use Rattle.bay_base.specs.declared.position.Dbpos.{Dbpos}
use Rattle.bay_nodes.specs.declared.switch.Switch.{Switch}
use Rattle.bay_base.specs.declared.point.MeterField.{MeterField}
use Rattle.bay_control.specs.Decisions as control
use Rattle.bay_control.specs.Requests.{control_of, is_local}
use Rattle.bay_control.specs.declared.control.SwitchControl.{SwitchControl}
use Rattle.bay_connection.specs.ConnectionStates.{Indication, answers, delivers, releases, ends as ends-heard, fails, ConnectionState, Terms, indications, octets_to_send}
use Rattle.bay_mms_services.specs.Answers.{pdu_answer}
use Rattle.bay_mms_services.specs.Released.{HaveTravelTime, ChangesNoValue}
use Rattle.bay_mms_services.specs.Released as services
use Rattle.bay_mms_services.specs.declared.answer.Command.{Command}
use Rattle.bay_mms_services.proofs.ReleaseLemmas.{Sole, all-of, answer-sent, at-most-one, busy-still, commands-each, idle-now, leaves-then, leaves-with, request-leaves, sole-said}
use Rattle.bay_mms_services.proofs.EntryLemmas.{inputs-stay, settings-stay}
use Rattle.bay_device.specs.Commands.{AreCommanded, CommandsReleased, IsReleasedAt, IsSingle}
use Rattle.bay_device.specs.Device.{State, device_at, bay_of, expiry_report, is_recent}
use Rattle.bay_device.specs.Receiving.{StepState, ReceiveResult, client_at, after_indications, on_indication, after_pdu, sent_on, with_sent}
use Rattle.bay_device.specs.Outcomes.{Outcome, close_outcome, connection_at, contact_outcome, bad_measure_outcome, event_outcome, input_outcome, last_moment, measure_outcome, step_start, octets_outcome, open_outcome, slot_of, quiet_step, recv_outcome}
use Rattle.bay_device.specs.Steps.{Steps}
use Rattle.bay_device.specs.declared.event.Event.{Event}
use Rattle.bay_device.specs.declared.event.Event.TheVariants.{Open, Recv, Close, Contact, Input, Measure, BadMeasure, Lost, Scan}
use Rattle.bay_device.specs.declared.event.Sent.{Sent}
use Rattle.bay_device.specs.declared.event.Step.{Step}
use Rattle.bay_device.specs.declared.fault.StepFault.{StepFault}

-- what a device notes of its scans and of the process, its inputs and the settings of its controls,
-- which no client changes
pub record Notes : Type 0 where
  pub last_scan : Option ℕ
  pub is_stale : Bool
  pub age : ℕ
  pub inputs : List Bool
  pub is_lost : Bool
  pub settings : List SwitchControl

abbrev pub notes_of : State → Notes
notes_of s = record {
  last_scan = s.last_scan;
  is_stale = s.is_stale;
  age = s.scan_max_age_ms;
  inputs = s.input_values;
  is_lost = s.is_lost;
  settings = s.controls.controls;
}

-- what is made of octets: nothing is operated that was not released before them
pub record Makes (now : ℕ) (s : State) (d : StepState) : Type 0 where
  pub leaves : ChangesNoValue now (bay_of s) (bay_of d.state)
  pub notes : notes_of d.state ≡ notes_of s
  pub released : AllByRecursion (IsReleasedAt now s) d.commands
  pub replied : d.commands ≢ [] → d.sent ≢ []
  pub sole : HaveTravelTime s.controls.controls → Sole now d.commands d.state.controls

-- with nothing done yet, nothing is made
pub begins : (now : ℕ) (s : State) → Makes now s (step_start (device_at now s))
begins now s = record {
  leaves =
      leaves-with now (bay_of s) (control.controls_at now s.controls) (busy-still now s.controls);
  notes = refl;
  released = tt;
  replied = λ some. absurd (some refl);
  sole = λ timed. record { timed = timed; single = tt };
}

released-before : (now a : ℕ) (terms : Terms) (s : State) (d : StepState) (command : Command)
    → Makes now s d → services.IsReleased (client_at now a terms d.state) (bay_of d.state) command
    → IsReleasedAt now s command
released-before now a terms s d command makes is = record {
  heard = sym (ap (λ (n : Notes). n.is_lost) makes.notes) ∙ is.heard;
  remote = sym (ap (λ (n : Notes). is_local (control_of n.settings command.switch).key n.inputs)
      makes.notes)
      ∙ is.remote;
  fresh = sym (ap (λ (n : Notes). is_recent now n.age n.last_scan && not n.is_stale) makes.notes)
      ∙ is.fresh;
  enabled = rw makes.leaves.rows at is.enabled;
  idle = idle-now now s.controls d.state.controls (control.controls_at now s.controls).execution
      makes.leaves.busy is.idle refl;
}

all-before : (now a : ℕ) (terms : Terms) (s : State) (d : StepState) (commands : List Command)
    → Makes now s d
    → AllByRecursion (services.IsReleased (client_at now a terms d.state) (bay_of d.state)) commands
    → AllByRecursion (IsReleasedAt now s) commands
all-before now a terms s d [] makes all = tt
all-before now a terms s d (x ∷ commands) makes all =
    (released-before now a terms s d x makes all.0, all-before now a terms s d commands makes all.1)

joined : (now : ℕ) (s : State) (first more : List Command)
    → AllByRecursion (IsReleasedAt now s) first → AllByRecursion (IsReleasedAt now s) more
    → AllByRecursion (IsReleasedAt now s) (first ++ more)
joined now s [] more p q = q
joined now s (x ∷ first) more p q = (p.0, joined now s first more p.1 q)

-- an answer has something to send
not-empty : {A B : Type 0} (f : A → B) (before : List B) (xs : List A) → xs ≢ []
    → before ++ map f xs ≢ []
not-empty f [] [] some = absurd (some refl)
not-empty f [] (x ∷ xs) some = λ e. cc
not-empty f (b ∷ before) xs some = λ e. cc

makes-said : (now a : ℕ) (terms : Terms) (pdu : List ℕ) (s : State) (d : StepState) → Makes now s d
    → Makes now s (after_pdu now a terms pdu d)
makes-said now a terms pdu s d makes =
    let c = client_at now a terms d.state in
    let b = bay_of d.state in
    record {
      leaves =
          leaves-then now (bay_of s) b (pdu_answer c pdu b).after makes.leaves
          (request-leaves c pdu b);
      notes = ap₂ (λ (inputs : List Bool) (settings : List SwitchControl).
          record (notes_of d.state) { inputs = inputs; settings = settings })
          (inputs-stay c pdu b) (settings-stay c pdu b) ∙ makes.notes;
      released =
          joined now s d.commands (pdu_answer c pdu b).commands makes.released
          (all-before now a terms s d (pdu_answer c pdu b).commands makes (commands-each c pdu b));
      replied =
          λ some. not-empty (λ x. sent_on a (octets_to_send terms x)) d.sent
          (pdu_answer c pdu b).sent
          (answer-sent c pdu b);
      sole = λ timed. sole-said c pdu b d.commands (makes.sole timed);
    }

snoc-some : (xs : List Sent) (x : Sent) → xs ++ x ∷ [] ≢ []
snoc-some [] x e = cc
snoc-some (y ∷ xs) x e = cc

sent-some : (a : ℕ) (octets : List ℕ) (d : StepState) → (with_sent a octets d).sent ≢ []
sent-some a octets d = snoc-some d.sent (sent_on a octets)

makes-sent : (now a : ℕ) (octets : List ℕ) (s : State) (d : StepState) → Makes now s d
    → Makes now s (with_sent a octets d)
makes-sent now a octets s d makes =
    record {
      leaves = makes.leaves;
      notes = makes.notes;
      released = makes.released;
      replied = λ some. sent-some a octets d;
      sole = makes.sole;
    }

makes-one : (now a : ℕ) (i : Indication) (s : State) (d : StepState)
    (later : StepState → ReceiveResult)
    → Makes now s d → ((e : StepState) → Makes now s e → Makes now s (later e).done)
    → Makes now s (on_indication now a i d later).done
makes-one now a (answers octets) s d later makes rest = rest _ (makes-sent now a octets s d makes)
makes-one now a (delivers terms pdu) s d later makes rest =
    rest _ (makes-said now a terms pdu s d makes)
makes-one now a (releases octets) s d later makes rest = makes-sent now a octets s d makes
makes-one now a ends-heard s d later makes rest = makes
makes-one now a (fails code) s d later makes rest = makes

pub makes-heard : (choice : Option ℕ) (now a : ℕ) (is : List Indication) (s : State) (d : StepState)
    → Makes now s d → Makes now s (after_indications choice now a is d).done
makes-heard None now a [] s d makes = makes
makes-heard None now a (i ∷ is) s d makes =
    makes-one now a i s d (after_indications None now a is) makes
    (λ e m. makes-heard None now a is s e m)
makes-heard (Some zero) now a [] s d makes = makes
makes-heard (Some zero) now a (i ∷ is) s d makes = makes
makes-heard (Some (suc n)) now a [] s d makes = makes
makes-heard (Some (suc n)) now a (i ∷ is) s d makes =
    makes-one now a i s d (after_indications (Some n) now a is) makes
    (λ e m. makes-heard (Some n) now a is s e m)

-- ---- events

abbrev Commanded : ℕ → State → Result Step StepFault → Type 0
Commanded now s answer = IfOk answer (AreCommanded now s)

none-commanded : (now : ℕ) (s : State) (ended : Option Sent) (scan : Option ℕ)
    → AreCommanded now s (record (quiet_step ended) { scan = scan })
none-commanded now s ended scan =
    record { released = λ k d lt. absurd (omega (arith, lt)); replied = λ some. absurd (some refl) }

octets-commanded : (choice : Option ℕ) (now a : ℕ) (s : State) (talk : ConnectionState)
    (octets : List ℕ)
    → Commanded now s (octets_outcome choice now a s talk octets).answer
octets-commanded choice now a s talk [] = none-commanded now s (expiry_report now s) None
octets-commanded choice now a s talk (octet ∷ octets) =
    let makes =
    makes-heard choice now a (indications talk (octet ∷ octets)) s
    (step_start (device_at now s)) (begins now s) in
    record { released = all-of (IsReleasedAt now s) _ makes.released; replied = makes.replied }

recv-commanded : (choice : Option ℕ) (now a : ℕ) (octets : List ℕ) (s : State)
    (talk : Option ConnectionState)
    → Commanded now s (recv_outcome choice now a octets s talk).answer
recv-commanded choice now a octets s None = tt
recv-commanded choice now a octets s (Some talk) = octets-commanded choice now a s talk octets

open-commanded : (now a : ℕ) (s : State) (o : Option ℕ) (talk : Option ConnectionState)
    → Commanded now s (open_outcome now a s o talk).answer
open-commanded now a s None talk = tt
open-commanded now a s (Some place) (Some talk) = tt
open-commanded now a s (Some place) None = none-commanded now s (expiry_report now s) None

close-commanded : (now a : ℕ) (s : State) (talk : Option ConnectionState)
    → Commanded now s (close_outcome now a s talk).answer
close-commanded now a s None = tt
close-commanded now a s (Some talk) = none-commanded now s (expiry_report now s) None

contact-commanded : (now k : ℕ) (position : Dbpos) (s : State) (o : Option Switch)
    → Commanded now s (contact_outcome now k position s o).answer
contact-commanded now k position s None = tt
contact-commanded now k position s (Some switch) = none-commanded now s _ None

input-commanded : (now k : ℕ) (value : Bool) (s : State) (o : Option Bool)
    → Commanded now s (input_outcome now k value s o).answer
input-commanded now k value s None = tt
input-commanded now k value s (Some before) = none-commanded now s (expiry_report now s) None

measure-commanded : (now k : ℕ) (field : MeterField) (value : _) (s : State) (o : Option (List ℕ))
    → Commanded now s (measure_outcome now k field value s o).answer
measure-commanded now k field value s None = tt
measure-commanded now k field value s (Some id) = none-commanded now s (expiry_report now s) None

doubt-commanded : (now k : ℕ) (field : MeterField) (s : State) (o : Option (List ℕ))
    → Commanded now s (bad_measure_outcome now k field s o).answer
doubt-commanded now k field s None = tt
doubt-commanded now k field s (Some id) = none-commanded now s (expiry_report now s) None

event-commanded : (choice : Option ℕ) (now : ℕ) (event : Event) (s : State)
    → Commanded now s (event_outcome choice now event s).answer
event-commanded choice now (Open a) s =
    open-commanded now a s (slot_of a) (connection_at (slot_of a) s)
event-commanded choice now (Recv a octets) s =
    recv-commanded choice now a octets.now s (connection_at (slot_of a) s)
event-commanded choice now (Close a) s = close-commanded now a s (connection_at (slot_of a) s)
event-commanded choice now (Contact k position) s =
    contact-commanded now k position s (slice_get s.switches k)
event-commanded choice now (Input k value) s =
    input-commanded now k value s (slice_get s.input_values k)
event-commanded choice now (Measure k field value) s =
    measure-commanded now k field value s (slice_get s.meters k)
event-commanded choice now (BadMeasure k field) s =
    doubt-commanded now k field s (slice_get s.meters k)
event-commanded choice now Lost s = none-commanded now s (expiry_report now s) None
event-commanded choice now Scan s = none-commanded now s (expiry_report now s) _

commanded-if : (b : Bool) (now : ℕ) (s : State) (x y : Outcome) → Commanded now s x.answer
    → Commanded now s y.answer → Commanded now s (cond b x y).answer
commanded-if true now s x y p q = p
commanded-if false now s x y p q = q

pub step-commanded : (now : ℕ) (event : Event) (old : State) (answer : Result Step StepFault)
    (new : State) → Steps now event old answer new → CommandsReleased now event old answer new
step-commanded now event old answer new steps =
    subst (Commanded now old) (sym steps.answered)
    (commanded-if (nat_lt last_moment now) now old _ _ tt
    (commanded-if (nat_lt now old.moment) now old _ _ tt
    (event-commanded steps.choice now event old)))

-- ---- one command at most

none-single : 0 ≤ 1
none-single = omega arith

octets-single : (choice : Option ℕ) (now a : ℕ) (s : State) (talk : ConnectionState)
    (octets : List ℕ)
    → HaveTravelTime s.controls.controls
    → IsSingle (octets_outcome choice now a s talk octets).answer
octets-single choice now a s talk [] timed = none-single
octets-single choice now a s talk (octet ∷ octets) timed =
    let made =
    after_indications choice now a (indications talk (octet ∷ octets))
    (step_start (device_at now s)) in
    let makes =
    makes-heard choice now a (indications talk (octet ∷ octets)) s
    (step_start (device_at now s)) (begins now s) in
    at-most-one now made.done.commands made.done.state.controls (makes.sole timed).single

recv-single : (choice : Option ℕ) (now a : ℕ) (octets : List ℕ) (s : State)
    (talk : Option ConnectionState)
    → HaveTravelTime s.controls.controls → IsSingle (recv_outcome choice now a octets s talk).answer
recv-single choice now a octets s None timed = tt
recv-single choice now a octets s (Some talk) timed = octets-single choice now a s talk octets timed

open-single : (now a : ℕ) (s : State) (o : Option ℕ) (talk : Option ConnectionState)
    → IsSingle (open_outcome now a s o talk).answer
open-single now a s None talk = tt
open-single now a s (Some place) (Some talk) = tt
open-single now a s (Some place) None = none-single

close-single : (now a : ℕ) (s : State) (talk : Option ConnectionState)
    → IsSingle (close_outcome now a s talk).answer
close-single now a s None = tt
close-single now a s (Some talk) = none-single

contact-single : (now k : ℕ) (position : Dbpos) (s : State) (o : Option Switch)
    → IsSingle (contact_outcome now k position s o).answer
contact-single now k position s None = tt
contact-single now k position s (Some switch) = none-single

input-single : (now k : ℕ) (value : Bool) (s : State) (o : Option Bool)
    → IsSingle (input_outcome now k value s o).answer
input-single now k value s None = tt
input-single now k value s (Some before) = none-single

measure-single : (now k : ℕ) (field : MeterField) (value : _) (s : State) (o : Option (List ℕ))
    → IsSingle (measure_outcome now k field value s o).answer
measure-single now k field value s None = tt
measure-single now k field value s (Some id) = none-single

doubt-single : (now k : ℕ) (field : MeterField) (s : State) (o : Option (List ℕ))
    → IsSingle (bad_measure_outcome now k field s o).answer
doubt-single now k field s None = tt
doubt-single now k field s (Some id) = none-single

event-single : (choice : Option ℕ) (now : ℕ) (event : Event) (s : State)
    → HaveTravelTime s.controls.controls → IsSingle (event_outcome choice now event s).answer
event-single choice now (Open a) s timed =
    open-single now a s (slot_of a) (connection_at (slot_of a) s)
event-single choice now (Recv a octets) s timed =
    recv-single choice now a octets.now s (connection_at (slot_of a) s) timed
event-single choice now (Close a) s timed = close-single now a s (connection_at (slot_of a) s)
event-single choice now (Contact k position) s timed =
    contact-single now k position s (slice_get s.switches k)
event-single choice now (Input k value) s timed =
    input-single now k value s (slice_get s.input_values k)
event-single choice now (Measure k field value) s timed =
    measure-single now k field value s (slice_get s.meters k)
event-single choice now (BadMeasure k field) s timed =
    doubt-single now k field s (slice_get s.meters k)
event-single choice now Lost s timed = none-single
event-single choice now Scan s timed = none-single

single-if : (b : Bool) (x y : Outcome) → IsSingle x.answer → IsSingle y.answer
    → IsSingle (cond b x y).answer
single-if true x y p q = p
single-if false x y p q = q

-- a step on a device whose switches take some time
pub step-single : (now : ℕ) (event : Event) (old : State) (answer : Result Step StepFault)
    (new : State) → HaveTravelTime old.controls.controls → Steps now event old answer new
    → IsSingle answer
step-single now event old answer new timed steps =
    subst IsSingle (sym steps.answered)
    (single-if (nat_lt last_moment now) _ _ tt
    (single-if (nat_lt now old.moment) _ _ tt (event-single steps.choice now event old timed)))
