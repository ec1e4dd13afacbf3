-- The reports of a turn on associations that are closed.
use Rattle.std.specs.Prelude.{ℕ, suc, ◌+◌, ◌==◌, Bool, true, false, List, [], ◌∷◌, Option, None, Result, Ok, Err}
use Rattle.bay_device.specs.declared.event.Step.{Step}
use Rattle.bay_device.specs.declared.event.Why.{Why}
use Rattle.bay_device.specs.declared.fault.StepFault.{StepFault}
use Rattle.bay_server_turn.specs.declared.turn_report.CloseReason.{CloseReason}

-- one more, if the test is true
abbrev pub plus_if : Bool → ℕ → ℕ
plus_if true n = suc n
plus_if false n = n

-- how many of the closings are of an association
abbrev pub closings_of : ℕ → List (ℕ × CloseReason) → ℕ
closings_of a [] = 0
closings_of a (closing ∷ closings) = plus_if (closing.0 == a) (closings_of a closings)

-- how often its number is in a list
abbrev pub times_in : ℕ → List ℕ → ℕ
times_in a [] = 0
times_in a (number ∷ numbers) = plus_if (number == a) (times_in a numbers)

-- how often its closing is reported: with its reason, or as out of memory
abbrev pub times_reported : ℕ → List (ℕ × CloseReason) → List ℕ → ℕ
times_reported a closed memory = closings_of a closed + times_in a memory

-- the association that the device closed in an answer, and why
abbrev pub closed_in : Result Step StepFault → Option (ℕ × Why)
closed_in (Err fault) = None
closed_in (Ok step) = step.closed
