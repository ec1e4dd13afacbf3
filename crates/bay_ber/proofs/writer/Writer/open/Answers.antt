use Rattle.std.proofs.Common.{arith}
use Rattle.bay_ber.proofs.WriterLemmas.{is_end}
use Rattle.bay_ber.proofs.writer.Writer.open.Goals as goal

pub returns-clause-start : goal.returns-clause-start
returns-clause-start c = is_end c.self.inside _ _ c.self.view_is (omega arith)
