use Rattle.std.proofs.Common.{rules}
use Rattle.bay_io.proofs.SentLemmas.{Puts-as, Puts-nil}
use Rattle.bay_report.proofs.lines.put_command.Goals as goal

pub returns-in-None : goal.returns-in-None
returns-in-None g c = Puts-as _ (search rules) (Puts-nil _)
