-- What holds of each step holds of a history of steps.
use Rattle.std.proofs.Common.{◌≡◌, ℕ, List, [], ◌∷◌, ◌++◌, length, Result, refl, subst, ◌∙◌}
use Rattle.bay_config.specs.declared.bay.Bay.{Bay}
use Rattle.il_image.specs.Images.{Image}
use Rattle.bay_device.specs.Device.{State, bay_of}
use Rattle.bay_device.specs.Fresh.{IsHistory, IsFresh, PastEvent}
use Rattle.bay_device.specs.Load.{initial_device}
use Rattle.bay_device.specs.Steps.{EachStep, Steps}
use Rattle.bay_device.specs.ObservedRuns.{HaveAgreedSize}
use Rattle.bay_device.specs.declared.event.Event.{Event}
use Rattle.bay_device.specs.declared.event.Step.{Step}
use Rattle.bay_device.specs.declared.fault.StepFault.{StepFault}
use Rattle.bay_device.proofs.FreshLemmas.{step-fresh}
use Rattle.bay_device.proofs.RemoteLemmas.{fixed-step, same-keys, settings_of, step-remote}
use Rattle.bay_device.proofs.RunLemmas.{Tells, tells}
use Rattle.cmd_replay.specs.History.{AllFresh, AllRemote, EachPast, answers_of, device_after, events_of}
use Rattle.cmd_replay.proofs.KeptLemmas.{Fixed, step-fixed}

-- ---- laws of a step

-- A law of each step on a device of which something is so, which then stays so.
pub past-does : (Does : ℕ → Event → State → Result Step StepFault → State → Type 0)
    (Is : State → Type 0) → ((now : ℕ) (event : Event) (old : State)
    (answer : Result Step StepFault) (new : State) → Is old → Steps now event old answer new
    → Does now event old answer new × Is new)
    → (first : State) (past : List PastEvent) → Is first → EachPast Steps first past
    → EachPast Does first past × Is (device_after first past)
past-does Does Is law first [] is steps = (tt, is)
past-does Does Is law first (p ∷ past) is steps =
    let before = past-does Does Is law first past is steps.1 in
    let here = law p.now p.event (device_after first past) p.answer p.after before.1 steps.0 in
    ((here.0, before.0), here.1)

-- of each step on any device
pub past-so : (Does : ℕ → Event → State → Result Step StepFault → State → Type 0)
    → ((now : ℕ) (event : Event) (old : State) (answer : Result Step StepFault) (new : State)
    → Steps now event old answer new → Does now event old answer new)
    → (first : State) (past : List PastEvent) → EachPast Steps first past → EachPast Does first past
past-so Does law first [] steps = tt
past-so Does law first (p ∷ past) steps = (
  law p.now p.event (device_after first past) p.answer p.after steps.0,
  past-so Does law first past steps.1,
)

-- ---- since load

pub past-came : (bay : Bay) (image : Image) (first : State) (past : List PastEvent)
    → first ≡ initial_device bay image → EachPast Steps first past
    → IsHistory past (device_after first past)
past-came bay image first [] is steps = (bay, image, is)
past-came bay image first (p ∷ past) is steps = (
  refl,
  (device_after first past, past-came bay image first past is steps.1, steps.0),
)

pub past-fixed : (first : State) (past : List PastEvent) → EachPast Steps first past
    → Fixed first (device_after first past)
past-fixed first [] steps = record { age = refl; image = refl; switches = refl; writes = refl }
past-fixed first (p ∷ past) steps =
    let before = past-fixed first past steps.1 in
    let here = step-fixed p.now p.event (device_after first past) p.answer p.after steps.0 in
    record {
      age = here.age ∙ before.age;
      image = here.image ∙ before.image;
      switches = here.switches ∙ before.switches;
      writes = here.writes ∙ before.writes;
    }

pub past-fresh : (bay : Bay) (image : Image) (first : State) (past : List PastEvent)
    → first ≡ initial_device bay image → EachPast Steps first past
    → AllFresh first.scan_max_age_ms past
past-fresh bay image first [] is steps = tt
past-fresh bay image first (p ∷ past) is steps = (
  subst (λ age. IsFresh p.now age past p.answer) (past-fixed first past steps.1).age
      (step-fresh p.now p.event (device_after first past) p.answer p.after steps.0 past
      (past-came bay image first past is steps.1)),
  past-fresh bay image first past is steps.1,
)

pub past-settings : (first : State) (past : List PastEvent) → EachPast Steps first past
    → settings_of (device_after first past) ≡ settings_of first
past-settings first [] steps = refl
past-settings first (p ∷ past) steps =
    fixed-step p.now p.event (device_after first past) p.answer p.after steps.0
    ∙ past-settings first past steps.1

pub past-remote : (bay : Bay) (image : Image) (first : State) (past : List PastEvent)
    → first ≡ initial_device bay image → EachPast Steps first past → AllRemote first past
past-remote bay image first [] is steps = tt
past-remote bay image first (p ∷ past) is steps = (
  same-keys (device_after first past) first (past-settings first past steps.1) past p.answer
      (step-remote p.now p.event (device_after first past) p.answer p.after steps.0 past
      (past-came bay image first past is steps.1)),
  past-remote bay image first past is steps.1,
)

-- ---- in the order of the events

abbrev Any : ℕ → Event → State → Result Step StepFault → State → Type 0
Any now event old answer new = Unit {0}

step-more : (es : List (ℕ × Event)) (old : State) (answers : List (Result Step StepFault))
    (mid : State) (e : ℕ × Event) (answer : Result Step StepFault) (new : State)
    → EachStep Any es old answers mid → Steps e.0 e.1 mid answer new
    → EachStep Any (es ++ e ∷ []) old (answers ++ answer ∷ []) new
step-more [] old [] mid e answer new each steps =
    (new, subst (λ (s : State). Steps e.0 e.1 s answer new) each steps, tt, refl)
step-more [] old (a ∷ answers) mid e answer new each steps = absurd each
step-more (x ∷ es) old [] mid e answer new each steps = absurd each
step-more (x ∷ es) old (a ∷ answers) mid e answer new each steps =
    (each.0, each.1, tt, step-more es each.0 answers mid e answer new each.3 steps)

past-steps : (first : State) (past : List PastEvent) → EachPast Steps first past
    → EachStep Any (events_of past) first (answers_of past) (device_after first past)
past-steps first [] steps = refl
past-steps first (p ∷ past) steps =
    step-more (events_of past) first (answers_of past) (device_after first past) (p.now, p.event)
    p.answer p.after (past-steps first past steps.1) steps.0

pub past-tells : (first : State) (past : List PastEvent) → length first.connections ≡ 8
    → HaveAgreedSize first.connections → EachPast Steps first past
    → Tells (bay_of first) (events_of past) first (answers_of past) (device_after first past)
past-tells first past eight sized steps =
    tells Any (bay_of first) (events_of past) first (answers_of past) (device_after first past)
    eight (record { domain = refl; switches = refl; names = refl }) sized
    (past-steps first past steps)
