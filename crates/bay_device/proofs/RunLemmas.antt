-- A run, event by event.
use Rattle.std.proofs.Common.{◌≡◌, ℕ, List, [], ◌∷◌, ◌++◌, length, None, Option, Result, refl, subst, sym, append_assoc, append-nil}
use Rattle.bay_connection.specs.ConnectionStates.{ConnectionState}
use Rattle.bay_control.specs.Backing.{AreBacked}
use Rattle.bay_control.specs.TimedCalls.{LeadsControls}
use Rattle.bay_control.proofs.BackingLemmas.{all-backed}
use Rattle.bay_control.proofs.LeadsLemmas.{none-leads, two-lead}
use Rattle.bay_mms_services.specs.ObservedEntries.{AreNamedAlike}
use Rattle.bay_mms_services.specs.Bay.{Bay}
use Rattle.bay_device.specs.Device.{State, bay_of}
use Rattle.bay_device.specs.Entries.{opens}
use Rattle.bay_device.specs.Operates.{AllOperate}
use Rattle.bay_device.specs.Steps.{EachStep, Steps}
use Rattle.bay_device.specs.ObservedRuns.{HaveAgreedSize, states_after_answer, observed_in_run, observed_in_answer}
use Rattle.bay_device.specs.declared.event.Event.{Event}
use Rattle.bay_device.specs.declared.event.Step.{Step}
use Rattle.bay_device.specs.declared.fault.StepFault.{StepFault}
use Rattle.bay_device.proofs.EntryLemmas.{eight-places, leading}
use Rattle.bay_device.proofs.OperateLemmas.{step-operates}
use Rattle.bay_device.proofs.ToldLemmas.{telling}

-- ---- the loop

-- The events so far lead to a device: what is so of the rest from there is so of all of them.
pub record Goes (Does : ℕ → Event → State → Result Step StepFault → State → Type 0)
    (events : List (ℕ × Event)) (old : State) (answers : List (Result Step StepFault))
    (rest : List (ℕ × Event)) (now : State) : Type 0 where
  pub on : (more : List (Result Step StepFault)) (new : State) → EachStep Does rest now more new
      → EachStep Does events old (answers ++ more) new

module _ {Does : ℕ → Event → State → Result Step StepFault → State → Type 0} where
  pub goes-none : (events : List (ℕ × Event)) (old : State) → Goes Does events old [] events old
  goes-none events old = record { on = λ more new each. each }

  pub goes-step : (events : List (ℕ × Event)) (old : State) (answers : List (Result Step StepFault))
      (e : ℕ × Event) (rest : List (ℕ × Event)) (s : State) (answer : Result Step StepFault)
      (t : State) → Goes Does events old answers (e ∷ rest) s → Steps e.0 e.1 s answer t
      → Does e.0 e.1 s answer t → Goes Does events old (answers ++ answer ∷ []) rest t
  goes-step events old answers e rest s answer t goes steps does = record {
    on = λ more new each.
        subst (λ (rs : List (Result Step StepFault)). EachStep Does events old rs new)
        (sym (append_assoc answers (answer ∷ []) more))
        (goes.on (answer ∷ more) new (t, steps, does, each));
  }

  pub goes-all : (events : List (ℕ × Event)) (old : State) (answers : List (Result Step StepFault))
      (new : State) → Goes Does events old answers [] new → EachStep Does events old answers new
  goes-all events old answers new goes =
      subst (λ (rs : List (Result Step StepFault)). EachStep Does events old rs new)
      (append-nil answers) (goes.on [] new refl)

-- ---- laws of a step

-- A law of each step on a device of which something is so, which then stays so.
pub each-does : {Does : ℕ → Event → State → Result Step StepFault → State → Type 0}
    (Did : ℕ → Event → State → Result Step StepFault → State → Type 0) (Is : State → Type 0)
    → ((now : ℕ) (event : Event) (old : State)
    (answer : Result Step StepFault) (new : State) → Is old → Steps now event old answer new
    → Does now event old answer new × Is new)
    → (es : List (ℕ × Event)) (old : State) (answers : List (Result Step StepFault)) (new : State)
    → Is old → EachStep Did es old answers new → EachStep Does es old answers new × Is new
each-does Did Is law [] old [] new is each = (each, subst Is (sym each) is)
each-does Did Is law [] old (answer ∷ answers) new is each = absurd each
each-does Did Is law (e ∷ es) old [] new is each = absurd each
each-does Did Is law (e ∷ es) old (answer ∷ answers) new is each =
    let did = law e.0 e.1 old answer each.0 is each.1 in
    let rest = each-does Did Is law es each.0 answers new did.1 each.3 in
    ((each.0, each.1, did.0, rest.0), rest.1)

-- of each step on any device
pub each-so : {Does : ℕ → Event → State → Result Step StepFault → State → Type 0}
    (Did : ℕ → Event → State → Result Step StepFault → State → Type 0)
    → ((now : ℕ) (event : Event) (old : State) (answer : Result Step StepFault) (new : State)
    → Steps now event old answer new → Does now event old answer new)
    → (es : List (ℕ × Event)) (old : State) (answers : List (Result Step StepFault)) (new : State)
    → EachStep Did es old answers new → EachStep Does es old answers new
each-so Did law es old answers new each =
    (each-does Did (λ s. Unit {0}) (λ now event old answer new is steps. (
      law now event old answer new
          steps,
      tt,
    )) es old answers new tt each).0

-- ---- what events and their answers tell

-- It leads the controls on, and its accepted operates are the commands.
pub record Tells (n : Bay) (es : List (ℕ × Event)) (old : State)
    (answers : List (Result Step StepFault)) (new : State) : Type 0 where
  pub leads : LeadsControls (observed_in_run n old.connections es answers) (opens old) old.controls
      (opens new)
      new.controls
  pub operates : AllOperate n old.connections es answers

-- a run tells what its events tell, one after the other
pub tells : (Did : ℕ → Event → State → Result Step StepFault → State → Type 0) (n : Bay)
    (es : List (ℕ × Event)) (old : State) (answers : List (Result Step StepFault)) (new : State)
    → length old.connections ≡ 8 → AreNamedAlike n (bay_of old) → HaveAgreedSize old.connections
    → EachStep Did es old answers new → Tells n es old answers new
tells Did n [] old [] new eight alike sized each = record {
  leads = subst (λ (s : State). LeadsControls [] (opens old) old.controls (opens s) s.controls)
      (sym each)
      (none-leads (opens old) old.controls);
  operates = tt;
}
tells Did n [] old (answer ∷ answers) new eight alike sized each = absurd each
tells Did n (e ∷ es) old [] new eight alike sized each = absurd each
tells Did n (e ∷ es) old (answer ∷ answers) new eight alike sized each =
    let next : State = each.0 in
    let t = telling n e.0 e.1 old answer next alike sized
    (leading e.0 e.1 old answer next eight each.1) in
    let rest = tells Did n es next answers new
    (eight-places e.0 e.1 old answer next eight each.1) t.alike t.sized each.3 in
    record {
      leads = two-lead (observed_in_answer e.0 e.1 n old.connections answer)
          (observed_in_run n (states_after_answer e.1 old.connections answer) es answers)
          (opens old)
          (opens next) (opens new) old.controls next.controls new.controls
          (t.leads [] (opens old) old.controls (none-leads (opens old) old.controls))
          (subst (λ (talks : List (Option ConnectionState)). LeadsControls
          (observed_in_run n talks es answers) (opens next)
          next.controls (opens new) new.controls) t.left rest.leads);
      operates = (
        step-operates n e.0 e.1 old answer next alike sized each.1,
        subst (λ (talks : List (Option ConnectionState)). AllOperate n talks es answers) t.left
            rest.operates,
      );
    }

-- From no selection what they tell is backed.
pub tells-backed : (n : Bay) (es : List (ℕ × Event)) (old : State)
    (answers : List (Result Step StepFault)) (new : State) → old.controls.selection ≡ None
    → Tells n es old answers new
    → AreBacked old.controls.controls (observed_in_run n old.connections es answers)
tells-backed n es old answers new none t =
    all-backed (observed_in_run n old.connections es answers) (opens old) (opens new) old.controls
    new.controls t.leads none
