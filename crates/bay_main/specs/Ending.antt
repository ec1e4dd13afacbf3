-- The result of a command: its exit status, and what it writes to standard error.
use Rattle.std.specs.Prelude.{ℕ, List, codes, string_bytes, []}
use Rattle.bay_main.specs.declared.ending.CommandResult.{CommandResult}
use Rattle.bay_main.specs.declared.ending.CommandResult.TheVariants.{Status, WriteFailed, Refused}

-- a failed write has 3, and refused arguments have 2
abbrev pub status_of : CommandResult → ℕ
status_of (Status status) = status
status_of WriteFailed = 3
status_of (Refused text) = 2

-- the text for a failed write, and for refused arguments
abbrev pub error_message_of : CommandResult → List ℕ
error_message_of (Status status) = []
error_message_of WriteFailed = codes "fault 122\n"
error_message_of (Refused text) = string_bytes text
