-- What it says of a command that it is fresh.
use Rattle.std.proofs.Common.{◌≡◌, ℕ, List, [], ◌∷◌, Ok, Err, refl, sym, ◌∙◌}
use Rattle.bay_device.specs.Device.{State}
use Rattle.bay_device.specs.Fresh.{IsHistory, FreshAt, HasScan, PastEvent}
use Rattle.bay_device.specs.declared.event.Event.{Event}
use Rattle.bay_device.specs.declared.event.Step.{Step}
use Rattle.bay_device.specs.declared.fault.StepFault.{StepFault}
use Rattle.bay_device_example_laws.specs.Commands.{HasOnlyCommand, open_command}
use Rattle.bay_device_example_laws.specs.Operates.{step_with_commands}
use Rattle.bay_device_example_laws.proofs.ScanLemmas.{none-stands}

-- a step that tells a command has some
some : (step : Step) → HasOnlyCommand open_command step → step.commands ≡ [] → ⊥
some step told none = let no : open_command ∷ [] ≡ [] = sym told.commands ∙ none in absurd cc

pub says-scan : (now : ℕ) (event : Event) (s t : State) (step : Step) (past : List PastEvent)
    → HasOnlyCommand open_command step → IsHistory past s → FreshAt now event s (Ok step) t
    → HasScan now s.scan_max_age_ms past
says-scan now event s t step past told came fresh = fresh past came (some step told)

pub says-nothing : (now : ℕ) (event : Event) (s t : State) (step : Step)
    → FreshAt now event s (Ok (step_with_commands [] step)) t
says-nothing now event s t step past came tells = absurd (tells refl)

pub says-nothing-refused : (now : ℕ) (event : Event) (s t : State) (fault : StepFault)
    → FreshAt now event s (Err fault) t
says-nothing-refused now event s t fault past came = tt

pub not-loaded : (now : ℕ) (event : Event) (s t : State) (step : Step)
    → HasOnlyCommand open_command step → IsHistory [] s → FreshAt now event s (Ok step) t → ⊥
not-loaded now event s t step told came fresh =
    none-stands now s.scan_max_age_ms (fresh [] came (some step told))
