use Rattle.std.proofs.Common.{refl, sym}
use Rattle.bay_server.specs.declared.change_lines.Column.TheVariants.{Position, Release}
use Rattle.bay_server.proofs.ChangeLemmas.{views-stay}
use Rattle.bay_server.proofs.LogLemmas.{logs-then}
use Rattle.bay_server.proofs.change_lines.log_changes.Goals as goal

pub returns-then-has_changed : goal.returns-then-has_changed
returns-then-has_changed g c =
    rw (sym c.own_switches-before.ensures)
    (logs-then g.W.Sink.contents g.W.Sink.does _ _ _ _ _ c.log_switches.ensures
    c.log_switches-then-has_changed.ensures)

pub returns-else-has_changed : goal.returns-else-has_changed
returns-else-has_changed g c =
    let same = c.has_changed.ensures c.if-has_changed.false in
    rw (
      sym c.own_switches-before.ensures,
      views-stay Position c.args.moment c.args.device.now 0 c.own_switches-before.result.now same,
      views-stay Release c.args.moment c.args.device.now 0 c.own_switches-before.result.now same,
    ) refl
