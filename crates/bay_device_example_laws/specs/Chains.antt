-- The chain of devices of a run, one after each event, and what the clauses of the run say of it.
use Rattle.std.specs.Prelude.{ℕ, ◌≡◌, List, Result}
use Rattle.il_check.specs.Program.{Checked}
use Rattle.bay_device.specs.Commands.{CommandsReleased}
use Rattle.bay_device.specs.Device.{State}
use Rattle.bay_device.specs.Fresh.{FreshAt}
use Rattle.bay_device.specs.Meaning.{HaltsAt, MeansAt}
use Rattle.bay_device.specs.Remote.{RemoteAt}
use Rattle.bay_device.specs.Steps.{EachStep, Steps}
use Rattle.bay_device.specs.declared.event.Event.{Event}
use Rattle.bay_device.specs.declared.event.Step.{Step}
use Rattle.bay_device.specs.declared.fault.StepFault.{StepFault}

-- An event, its answer and the device before it determine the device after it.
abbrev pub AnswersFixStates : Type 0
AnswersFixStates =
    (now : ℕ) (event : Event) (old : State) (answer : Result Step StepFault) (new other : State)
    → Steps now event old answer new → Steps now event old answer other → new ≡ other

-- All that the clauses of a run say of each step: a scan halts within its budget, and a command is
-- released, comes after a fresh scan, and has its key at remote.
pub record IsPromised (now : ℕ) (event : Event) (old : State) (answer : Result Step StepFault)
    (new : State) : Type 0 where
  pub halts : HaltsAt now event old answer new
  pub released : CommandsReleased now event old answer new
  pub fresh : FreshAt now event old answer new
  pub remote : RemoteAt now event old answer new

-- The same, and a scan leaves what the program means.
pub record IsPromisedOf (c : Checked) (now : ℕ) (event : Event) (old : State)
    (answer : Result Step StepFault) (new : State) : Type 0 where
  pub promised : IsPromised now event old answer new
  pub means : MeansAt c now event old answer new

-- If each clause of a run is true along some chain of devices, all are true along one chain.
abbrev pub OneChain : Type 0
OneChain =
    (events : List (ℕ × Event)) (old : State) (answers : List (Result Step StepFault)) (new : State)
    → EachStep HaltsAt events old answers new → EachStep CommandsReleased events old answers new
    → EachStep FreshAt events old answers new → EachStep RemoteAt events old answers new
    → EachStep IsPromised events old answers new

-- The same for a device that runs a text.
abbrev pub OneChainOf : Type 0
OneChainOf =
    (c : Checked) (events : List (ℕ × Event)) (old : State) (answers : List (Result Step StepFault))
    (new : State)
    → EachStep IsPromised events old answers new → EachStep (MeansAt c) events old answers new
    → EachStep (IsPromisedOf c) events old answers new

-- The same events with the same answers lead from a device to one device.
abbrev pub OneEnd : Type 0
OneEnd =
    (events : List (ℕ × Event)) (old : State) (answers : List (Result Step StepFault))
    (new other : State)
    → EachStep HaltsAt events old answers new → EachStep HaltsAt events old answers other
    → new ≡ other
