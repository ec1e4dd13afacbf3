-- The numbers (IEC 61850-7-2, 20: AddCause) and the words of the causes.
use Rattle.std.specs.Prelude.{ℕ, List, codes}
use Rattle.bay_control.specs.declared.cause.AddCause.{AddCause}
use Rattle.bay_control.specs.declared.cause.AddCause.TheVariants.{NotSupported, BlockedBySwitchingHierarchy, SelectFailed, PositionReached, BlockedByMode, BlockedByProcess, BlockedByInterlocking, BlockedBySynchrocheck, CommandAlreadyInExecution, OneOfNControl, TimeLimitOver, ObjectNotSelected}

-- the number of a cause (IEC 61850-7-2, AddCause)
abbrev pub code_of : AddCause → ℕ
code_of NotSupported = 1
code_of BlockedBySwitchingHierarchy = 2
code_of SelectFailed = 3
code_of PositionReached = 5
code_of BlockedByMode = 8
code_of BlockedByProcess = 9
code_of BlockedByInterlocking = 10
code_of BlockedBySynchrocheck = 11
code_of CommandAlreadyInExecution = 12
code_of OneOfNControl = 14
code_of TimeLimitOver = 16
code_of ObjectNotSelected = 18

-- what the cause is, in words (own)
abbrev pub words_of : AddCause → List ℕ
words_of NotSupported = codes "the switch has no control of this kind"
words_of BlockedBySwitchingHierarchy = codes "the key of the switch is at local"
words_of SelectFailed = codes "another association has selected the switch"
words_of PositionReached = codes "the switch is where it is asked to go"
words_of BlockedByMode = codes "the request is a test request"
words_of BlockedByProcess = codes "the process is lost"
words_of BlockedByInterlocking = codes "the interlocking does not release the operation"
words_of BlockedBySynchrocheck = codes "the switch has no synchrocheck"
words_of CommandAlreadyInExecution = codes "the switch is operating"
words_of OneOfNControl = codes "another switch is selected or operating"
words_of TimeLimitOver = codes "the switch did not reach its position in time"
words_of ObjectNotSelected = codes "the association has not selected the switch for this"
