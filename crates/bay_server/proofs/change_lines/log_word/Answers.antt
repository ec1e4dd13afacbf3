use Rattle.std.proofs.Common.{◌≡◌, false, bytes_eq, sym, ◌∙◌}
use Rattle.bay_server.proofs.LogLemmas.{logs-one}
use Rattle.bay_server.proofs.change_lines.log_word.Goals as goal

pub returns : goal.returns
returns g c =
    let differ : bytes_eq c.args.before.now c.args.after.now ≡ false =
    sym c.eq.ensures ∙ c.if-eq.false in
    rw differ (logs-one g.W.Sink.contents g.W.Sink.does _ _ _ c.log.ensures)
