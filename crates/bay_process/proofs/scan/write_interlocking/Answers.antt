use Rattle.std.proofs.Common.{◌≡◌, ◌<◌, ◌^◌, inl, length, arith, rules, ap, sym, ◌∙◌}
use Rattle.bay_nodes.specs.Names.{StatusNames, opening_names_at}
use Rattle.bay_process.specs.Layout.{layout_of, status_names_in, switch_names_in}
use Rattle.bay_process.specs.ReportedRows.{enabled_from}
use Rattle.bay_process.specs.Values.{with_enabled}
use Rattle.bay_process.proofs.KeptLemmas.{kept-written, output-same}
use Rattle.bay_process.proofs.ReleaseLemmas.{places-sized}
use Rattle.bay_process.proofs.scan.write_interlocking.Goals as goal

pub get-stood-requires-clause-within : goal.get-stood-requires-clause-within
get-stood-requires-clause-within c =
    let r = c.requires.kept in
    omega (arith, r.2, places-sized r.0 (enabled_from c.args.tree.now 0 r.0) _ _ r.1.shows)

pub returns-then-enabled-stood-2-clause-rows : goal.returns-then-enabled-stood-2-clause-rows
returns-then-enabled-stood-2-clause-rows c =
    let r = c.requires.kept in
    let got = c.get-stood.ensures r.0 (enabled_from c.args.tree.now 0 r.0) r.1.shows in
    sym (output-same c.args.tree.now c.args.index c.get-stood.result c.args.enabled
    (switch_names_in (layout_of c.args.tree.now) c.args.rows.now) c.args.now
    c.requires.rows.named.opening c.requires.rows.named.closing
    (r.1.written c.args.index c.get-stood.result got (inl c.if-kept.true))
    c.if-enabled-stood.true c.if-enabled-stood-2.true)

pub set-requires-clause-within : goal.set-requires-clause-within
set-requires-clause-within c =
    let r = c.requires.kept in
    omega (arith, r.2, places-sized r.0 (enabled_from c.args.tree.now 0 r.0) _ _ r.1.shows)

pub returns-clause-kept : goal.returns-clause-kept
returns-clause-kept c ss kept within =
    let rows = c.args.tree.now in
    let k = c.args.index in
    let e = c.args.enabled in
    let named = c.requires.rows.named in
    let few : c.args.kept.now.offsets.len < 2 ^ 63 = search rules in
    let so_many : length c.args.kept.now.offsets.items ≡ c.args.kept.now.offsets.len =
    search rules in
    kept-written rows c.write_output.new.tree ss k c.args.kept.now c.set.new.self e c.args.now kept
    within (omega (
      arith,
      few,
      so_many,
      places-sized ss (enabled_from c.args.tree.now 0 ss) _ _ kept.shows,
    ))
    c.set.ensures.flag (c.write_output.ensures.holds_release k named)
    (c.write_output.ensures.rows
    ∙ ap (λ (n : StatusNames). with_enabled
    (status_names_in (layout_of rows) c.args.rows.now.ena_cls) e.may_close c.args.now
    (with_enabled n e.may_open c.args.now rows)) named.opening
    ∙ ap (λ (n : StatusNames). with_enabled n e.may_close c.args.now
    (with_enabled (opening_names_at k) e.may_open c.args.now rows)) named.closing)
    (c.set.ensures.shows ss (enabled_from c.args.tree.now 0 ss) kept.shows)
