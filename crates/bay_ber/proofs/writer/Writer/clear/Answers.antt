use Rattle.bay_ber.proofs.WriterLemmas.{cleared}
use Rattle.bay_ber.proofs.writer.Writer.clear.Goals as goal

pub returns : goal.returns
returns c = cleared c.self.inside _ _ c.self.view_is c.truncate.ensures.items
