-- The numbers and the words of the reasons of closings, and the numbers of the faults.
use Rattle.std.specs.Prelude.{ℕ, List, codes}
use Rattle.bay_connection.specs.Faults.{fault_words}
use Rattle.bay_server_turn.specs.declared.turn_report.CloseReason.{CloseReason}
use Rattle.bay_server_turn.specs.declared.turn_report.CloseReason.TheVariants.{Ended, Fault, QueueFull, LinkFailed}
use Rattle.bay_server_turn.specs.declared.fault.ServeFault.{ServeFault}
use Rattle.bay_server_turn.specs.declared.fault.ServeFault.TheVariants.{BadLine, MomentTooLarge}

-- the number of the reason for which an association was closed
abbrev pub code_of : CloseReason → ℕ
code_of Ended = 0
code_of (Fault code) = code
code_of QueueFull = 130
code_of LinkFailed = 131

-- the reason for which an association was closed, in words
abbrev pub words_of : CloseReason → List ℕ
words_of Ended = codes "its client ended it"
words_of (Fault code) = fault_words code
words_of QueueFull = codes "a reply does not fit its queue"
words_of LinkFailed = codes "its connection failed, or it sent nothing for too long"

-- the number of a refused turn
abbrev pub serve_code_of : ServeFault → ℕ
serve_code_of BadLine = 120
serve_code_of MomentTooLarge = 114
