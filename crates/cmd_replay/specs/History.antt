-- The events of a device since load, the last event first, and statements on all of them.
use Rattle.std.specs.Prelude.{ℕ, List, [], ◌∷◌, ◌++◌, Result}
use Rattle.bay_device.specs.Device.{State}
use Rattle.bay_device.specs.Fresh.{IsFresh, PastEvent}
use Rattle.bay_device.specs.Remote.{AreAtRemote}
use Rattle.bay_device.specs.declared.event.Event.{Event}
use Rattle.bay_device.specs.declared.event.Step.{Step}
use Rattle.bay_device.specs.declared.fault.StepFault.{StepFault}

-- the device after these events
abbrev pub device_after : State → List PastEvent → State
device_after first [] = first
device_after first (p ∷ past) = p.after

-- A statement holds for each event: for its moment, the event, the device before it, its answer and
-- the device after it.
abbrev pub EachPast : (ℕ → Event → State → Result Step StepFault → State → Type 0) → State
    → List PastEvent → Type 0
EachPast Holds first [] = Unit {0}
EachPast Holds first (p ∷ past) =
    Holds p.now p.event (device_after first past) p.answer p.after × EachPast Holds first past

-- Each command follows a fresh scan among the events before it.
abbrev pub AllFresh : ℕ → List PastEvent → Type 0
AllFresh age [] = Unit {0}
AllFresh age (p ∷ past) = IsFresh p.now age past p.answer × AllFresh age past

-- Each command is to a switch whose key, if it has one, was last reported to be at remote, among
-- the events before the command.
abbrev pub AllRemote : State → List PastEvent → Type 0
AllRemote first [] = Unit {0}
AllRemote first (p ∷ past) = AreAtRemote first past p.answer × AllRemote first past

-- the events in their order, and their answers
abbrev pub events_of : List PastEvent → List (ℕ × Event)
events_of [] = []
events_of (p ∷ past) = events_of past ++ (p.now, p.event) ∷ []

-- the answers to the events, in their order
abbrev pub answers_of : List PastEvent → List (Result Step StepFault)
answers_of [] = []
answers_of (p ∷ past) = answers_of past ++ p.answer ∷ []
