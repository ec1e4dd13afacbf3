use Rattle.std.proofs.Common.{sym, ◌∙◌}
use Rattle.bay_io.proofs.SentLemmas.{Puts-after, Puts-stuck}
use Rattle.bay_io.proofs.writer.WatchedWriter.put_after_flush.Goals as goal

pub returns-then-is_ok : goal.returns-then-is_ok
returns-then-is_ok g c =
    let put = c.write_pending.ensures in
    Puts-after c.args.self.now c.write_pending.new.self c.put_first.new.self c.args.text.now
    c.write_pending.result put.ok put.empty put.fault put.kept put.calls_made put.logs
    (sym c.is_ok.ensures.value ∙ c.if-is_ok.true) c.put_first.ensures

pub returns-else-is_ok : goal.returns-else-is_ok
returns-else-is_ok g c =
    let put = c.write_pending.ensures in
    Puts-stuck c.args.self.now c.write_pending.new.self c.args.text.now c.write_pending.result
    put.err put.fault put.kept put.calls_made put.logs
    (sym c.is_ok.ensures.value ∙ c.if-is_ok.false)
