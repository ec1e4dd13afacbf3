use Rattle.bay_io.proofs.SentLemmas.{Puts-kept}
use Rattle.bay_io.proofs.writer.WatchedWriter.put_number.Goals as goal

pub returns-else-not-append_number : goal.returns-else-not-append_number
returns-else-not-append_number g c =
    Puts-kept _ c.self.inside.sink c.self.inside.outbox _ c.append_number.new.self
    c.append_number.result c.self.view_is
    c.append_number.ensures.after c.if-not-append_number.false
