use Rattle.std.proofs.Common.{◌≡◌, ap, refl, sym, ◌∙◌}
use Rattle.bay_server.specs.ConnectionLines.{left_out, left_out_log}
use Rattle.bay_server.proofs.LineCountLemmas.{left-out-some}
use Rattle.bay_server.proofs.LogLemmas.{logs-as, logs-one}
use Rattle.bay_server.proofs.connection_lines.log_left_out.Goals as goal

pub returns-then-lines-eq0 : goal.returns-then-lines-eq0
returns-then-lines-eq0 g c =
    let none : left_out c.args.moment c.args.count ≡ 0 =
    sym c.left_out-lines.ensures ∙ c.if-lines-eq0.true in
    rw none refl

pub returns : goal.returns
returns g c =
    logs-as g.W.Sink.contents g.W.Sink.does _ _ _ _
    (sym (left-out-some c.args.moment c.left_out-lines.result c.if-lines-eq0.false)
    ∙ ap (left_out_log c.args.moment) c.left_out-lines.ensures)
    (logs-one g.W.Sink.contents g.W.Sink.does _ _ _ c.log.ensures)
