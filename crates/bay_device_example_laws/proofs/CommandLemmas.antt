-- A command to open or to close: a device that issues it, and those that don't.
use Rattle.std.proofs.Common.{◌≡◌, ℕ, Bool, true, false, List, [], ◌∷◌, Ok, None, codes, refl, sym, subst, ◌∙◌, arith}
use Rattle.std.specs.Prelude.{All}
use Rattle.std.specs.Fmt.{digits}
use Rattle.bay_mms_services.specs.declared.answer.Command.{Command}
use Rattle.bay_device.specs.Commands.{AreCommanded, CommandsReleased, IsReleasedAt}
use Rattle.bay_device.specs.Device.{State}
use Rattle.bay_device.specs.declared.event.Event.{Event}
use Rattle.bay_device.specs.declared.event.Step.{Step}
use Rattle.bay_device_example_laws.specs.Commands.{HasOnlyCommand, close_command, interlocked_state, keyed_state, open_command, operating_state, released_state}
use Rattle.bay_device_example_laws.proofs.SplitLemmas.{all-one}

is-released : (s : State) → IsReleasedAt 5 (released_state s) open_command
unfolding digits
is-released s = record { heard = refl; remote = refl; fresh = refl; enabled = refl; idle = refl }

-- the command of a step that is released is issued
issued : (command : Command) (s t : State) (event : Event) (step : Step) → IsReleasedAt 5 s command
    → HasOnlyCommand command step → CommandsReleased 5 event s (Ok step) t
issued command s t event step is told = record {
  released = subst (λ (cs : List Command). All (IsReleasedAt 5 s) cs)
      (sym told.commands) (all-one (IsReleasedAt 5 s) command is);
  replied = λ _. told.sent;
}

pub is-commanded : (s t : State) (event : Event) (step : Step) → HasOnlyCommand open_command step
    → CommandsReleased 5 event (released_state s) (Ok step) t
is-commanded s t event step told =
    issued open_command (released_state s) t event step (is-released s) told

-- the command of the step is released, where its commands are
its : {command : Command} (now : ℕ) (s : State) (step : Step) → HasOnlyCommand command step
    → AreCommanded now s step → IsReleasedAt now s command
its {command} now s step told are =
    subst (λ (cs : List Command). All (IsReleasedAt now s) cs) told.commands are.released 0 command
    (omega arith)

pub not-unscanned : (s t : State) (event : Event) (step : Step) → HasOnlyCommand open_command step
    → CommandsReleased 5 event (record (released_state s) { last_scan = None }) (Ok step) t → ⊥
not-unscanned s t event step told h =
    let no : false ≡ true =
    (its 5 (record (released_state s) { last_scan = None }) step told h).fresh in
    absurd cc

pub not-old : (s t : State) (event : Event) (step : Step) → HasOnlyCommand open_command step
    → CommandsReleased 1006 event (released_state s) (Ok step) t → ⊥
not-old s t event step told h =
    let no : false ≡ true = (its 1006 (released_state s) step told h).fresh in absurd cc

pub not-stale : (s t : State) (event : Event) (step : Step) → HasOnlyCommand open_command step
    → CommandsReleased 5 event (record (released_state s) { is_stale = true }) (Ok step) t → ⊥
not-stale s t event step told h =
    let no : false ≡ true =
    (its 5 (record (released_state s) { is_stale = true }) step told h).fresh in
    absurd cc

pub not-lost : (s t : State) (event : Event) (step : Step) → HasOnlyCommand open_command step
    → CommandsReleased 5 event (record (released_state s) { is_lost = true }) (Ok step) t → ⊥
not-lost s t event step told h =
    let no : true ≡ false =
    (its 5 (record (released_state s) { is_lost = true }) step told h).heard in
    absurd cc

-- with a key it must be at remote
pub is-at-remote : (s t : State) (event : Event) (step : Step) → HasOnlyCommand open_command step
    → CommandsReleased 5 event (keyed_state true s) (Ok step) t
unfolding digits
is-at-remote s t event step told =
    issued open_command (keyed_state true s) t event step
    (record { heard = refl; remote = refl; fresh = refl; enabled = refl; idle = refl }) told

pub not-local : (s t : State) (event : Event) (step : Step) → HasOnlyCommand open_command step
    → CommandsReleased 5 event (keyed_state false s) (Ok step) t → ⊥
not-local s t event step told h =
    let no : true ≡ false = (its 5 (keyed_state false s) step told h).remote in absurd cc

pub not-blocked : (s t : State) (event : Event) (step : Step) → HasOnlyCommand open_command step
    → CommandsReleased 5 event (record (released_state s) { rows = [] }) (Ok step) t → ⊥
not-blocked s t event step told h =
    let no : false ≡ true = (its 5 (record (released_state s) { rows = [] }) step told h).enabled in
    absurd cc

pub not-busy : (s t : State) (event : Event) (step : Step) → HasOnlyCommand open_command step
    → CommandsReleased 5 event (operating_state s) (Ok step) t → ⊥
not-busy s t event step told h =
    let no : (operating_state s).controls.execution ≡ None =
    (its 5 (operating_state s) step told h).idle in
    absurd cc

pub not-silent : (s t : State) (event : Event) (step : Step) → HasOnlyCommand open_command step
    → CommandsReleased 5 event (released_state s) (Ok (record step { sent = [] })) t → ⊥
not-silent s t event step told h =
    h.replied (λ (none : step.commands ≡ []).
    let no : open_command ∷ [] ≡ [] = sym told.commands ∙ none in absurd cc) refl

-- ---- its own release

pub closes-alone : (opn : Bool) (s t : State) (event : Event) (step : Step)
    → HasOnlyCommand close_command step
    → CommandsReleased 5 event (interlocked_state (codes "CILO1") opn true s) (Ok step) t
unfolding digits
closes-alone opn s t event step told =
    issued close_command (interlocked_state (codes "CILO1") opn true s) t event step
    (record { heard = refl; remote = refl; fresh = refl; enabled = refl; idle = refl }) told

pub opens-alone : (cls : Bool) (s t : State) (event : Event) (step : Step)
    → HasOnlyCommand open_command step
    → CommandsReleased 5 event (interlocked_state (codes "CILO1") true cls s) (Ok step) t
unfolding digits
opens-alone cls s t event step told =
    issued open_command (interlocked_state (codes "CILO1") true cls s) t event step
    (record { heard = refl; remote = refl; fresh = refl; enabled = refl; idle = refl }) told

pub no-close : (opn : Bool) (s t : State) (event : Event) (step : Step)
    → HasOnlyCommand close_command step
    → CommandsReleased 5 event (interlocked_state (codes "CILO1") opn false s) (Ok step) t → ⊥
unfolding digits
no-close opn s t event step told h =
    let no : false ≡ true =
    (its 5 (interlocked_state (codes "CILO1") opn false s) step told h).enabled in
    absurd cc

pub no-open : (cls : Bool) (s t : State) (event : Event) (step : Step)
    → HasOnlyCommand open_command step
    → CommandsReleased 5 event (interlocked_state (codes "CILO1") false cls s) (Ok step) t → ⊥
unfolding digits
no-open cls s t event step told h =
    let no : false ≡ true =
    (its 5 (interlocked_state (codes "CILO1") false cls s) step told h).enabled in
    absurd cc

-- those of the second switch
pub other-close : (s t : State) (event : Event) (step : Step) → HasOnlyCommand close_command step
    → CommandsReleased 5 event (interlocked_state (codes "CILO2") true true s) (Ok step) t → ⊥
unfolding digits
other-close s t event step told h =
    let no : false ≡ true =
    (its 5 (interlocked_state (codes "CILO2") true true s) step told h).enabled in
    absurd cc

pub other-open : (s t : State) (event : Event) (step : Step) → HasOnlyCommand open_command step
    → CommandsReleased 5 event (interlocked_state (codes "CILO2") true true s) (Ok step) t → ⊥
unfolding digits
other-open s t event step told h =
    let no : false ≡ true =
    (its 5 (interlocked_state (codes "CILO2") true true s) step told h).enabled in
    absurd cc
