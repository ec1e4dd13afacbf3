-- The numbers of the reasons for which the connection of a process is closed.
use Rattle.std.specs.Prelude.{ℕ}
use Rattle.bay_process_port.specs.declared.connection_event.DisconnectReason.{DisconnectReason}
use Rattle.bay_process_port.specs.declared.connection_event.DisconnectReason.TheVariants.{Ended, BadLine, QueueFull, LinkFailed, Foreign, Untimely, OutOfOrder, Silent, Jumped}

-- the number of a reason
abbrev pub code_of : DisconnectReason → ℕ
code_of Ended = 0
code_of (BadLine line) = 120
code_of QueueFull = 130
code_of LinkFailed = 131
code_of Foreign = 132
code_of Untimely = 133
code_of OutOfOrder = 133
code_of (Silent limit) = 134
code_of Jumped = 134
