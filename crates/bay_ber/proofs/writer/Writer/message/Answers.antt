use Rattle.std.proofs.lemmas.List.{take_rest}
use Rattle.bay_ber.proofs.WriterLemmas.{message-is, over-message}
use Rattle.bay_ber.proofs.writer.Writer.message.Goals as goal

pub returns-then-self : goal.returns-then-self
returns-then-self c = over-message c.self.inside _ c.self.view_is c.if-self.true

pub returns : goal.returns
returns c =
    rw (take_rest c.deref.result.now c.self.inside.first, c.deref.ensures.value)
    (message-is c.self.inside _ c.self.view_is c.if-self.false c.self.invariant.front
    c.self.invariant.headers)
