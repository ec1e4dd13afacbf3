use Rattle.bay_io.proofs.SentLemmas.{Puts-kept}
use Rattle.bay_io.proofs.writer.WatchedWriter.put.Goals as goal

pub returns-else-not-keep : goal.returns-else-not-keep
returns-else-not-keep g c =
    Puts-kept _ c.self.inside.sink c.self.inside.outbox _ c.keep.new.self c.keep.result
    c.self.view_is
    c.keep.ensures.after c.if-not-keep.false
