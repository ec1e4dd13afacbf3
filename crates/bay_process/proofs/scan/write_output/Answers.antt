use Rattle.std.proofs.Common.{◌≡◌, subst, ap, ◌∙◌}
use Rattle.bay_process.specs.Values.{with_enabled}
use Rattle.bay_process.specs.Layout.{Layout, layout_of, status_names_in}
use Rattle.bay_nodes.specs.Names.{StatusNames, closing_names_at}
use Rattle.bay_process.specs.ReportedRows.{AreValued}
use Rattle.bay_process.proofs.ToldLemmas.{told-here}
use Rattle.bay_process.proofs.scan.write_output.Goals as goal

pub returns-clause-holds_release : goal.returns-clause-holds_release
returns-clause-holds_release c k named =
    let rows = c.args.tree.now in
    let mid = c.set_enabled.new.tree in
    let now = c.args.now in
    let first = c.set_enabled.ensures in
    let second = c.set_enabled-2.ensures in
    let closing : status_names_in (layout_of mid) c.args.rows.now.ena_cls ≡ closing_names_at k =
    ap (λ (l : Layout). status_names_in l c.args.rows.now.ena_cls) first.layout ∙ named.closing in
    told-here k c.args.enabled now rows mid c.set_enabled-2.new.tree
    (subst (AreValued rows) named.opening first.valued)
    (first.rows ∙ ap (λ (n : StatusNames). with_enabled n c.args.enabled.may_open now rows)
    named.opening)
    (subst (AreValued mid) closing second.valued)
    (second.rows ∙ ap (λ (n : StatusNames). with_enabled n c.args.enabled.may_close now mid)
    closing)
