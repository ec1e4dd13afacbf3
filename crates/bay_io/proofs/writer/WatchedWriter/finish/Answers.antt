use Rattle.std.proofs.Common.{rules, sym, subst}
use Rattle.bay_io.specs.Calls.{SomeCalls, Unlogged, write_failed}
use Rattle.bay_io.specs.Watched.{WriterState}
use Rattle.bay_io.proofs.AskedLemmas.{Asked-then}
use Rattle.bay_io.proofs.writer.WatchedWriter.finish.Goals as goal

pub returns : goal.returns
returns g c = record {
  ends = search rules;
  calls_made = Asked-then _ _ _ _ _ _
      (subst (λ (w : WriterState _). SomeCalls (Unlogged g.W.Sink.does) write_failed
      c.args.self.now.inner
      c.args.self.now.has_failed w.inner w.has_failed) (sym c.self.view_is)
      c.write_pending.ensures.calls_made) c.flush_out.ensures.calls_made;
  same_logs = search rules;
}
