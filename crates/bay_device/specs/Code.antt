-- The number of each fault of an event.
use Rattle.std.specs.Prelude.{ℕ}
use Rattle.bay_device.specs.declared.fault.StepFault.{StepFault}
use Rattle.bay_device.specs.declared.fault.StepFault.TheVariants.{MomentTooLarge, TimeWentBack, NoSuchAssociation, AlreadyOpen, NoSuchPoint}

-- the number of a fault, as documents and tools cite it
abbrev pub step_code_of : StepFault → ℕ
step_code_of MomentTooLarge = 114
step_code_of TimeWentBack = 110
step_code_of NoSuchAssociation = 111
step_code_of AlreadyOpen = 112
step_code_of NoSuchPoint = 113
