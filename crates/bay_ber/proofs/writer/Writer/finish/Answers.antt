use Rattle.bay_ber.proofs.WriterLemmas.{message-is, over-message}
use Rattle.bay_ber.proofs.writer.Writer.finish.Goals as goal

pub returns-then-over : goal.returns-then-over
returns-then-over c = over-message c.self.inside _ c.self.view_is c.if-over.true

pub returns : goal.returns
returns c =
    rw (c.behind.ensures, c.shrink_to_fit.ensures.items)
    (message-is c.self.inside _ c.self.view_is c.if-over.false c.self.invariant.front
    c.self.invariant.headers)
