use Rattle.std.proofs.Common.{◌≤◌, ◌∙◌, ◌+◌, ◌++◌, ◌∷◌, [], List, arith, ap, append_assoc, length, subst, sym}
use Rattle.bay_audit.specs.Rules.{directions}
use Rattle.bay_audit.specs.declared.answer.Release.{Release}
use Rattle.bay_base.specs.declared.switch.Operation.TheVariants.{Open, Close}
use Rattle.cmd_audit.specs.Written.{PutsReleases}
use Rattle.cmd_audit.proofs.WrittenLemmas.{more-releases, no-releases, some-of, stopped-at, ways-at, ways-half, ways-next, when-err}
use Rattle.cmd_audit.proofs.written.write_releases.Goals as goal

pub loop-switch-init : goal.loop-switch-init
loop-switch-init g c =
    subst (λ (rs : List Release). PutsReleases g.W.Sink.contents g.W.Sink.does c.args.bay.now
    c.args.names.now c.args.program.now [] rs c.args.writer.now c.args.writer.now)
    (sym c.new-releases.ensures.items)
    (no-releases c.args.bay.now c.args.names.now c.args.program.now c.args.writer.now)

pub returns-in_err-first : goal.returns-in_err-first
returns-in_err-first g c =
    let k = c.loop-switch.switch in
    let n = length c.args.bay.now.switches in
    let low : k + 1 ≤ n = let t = c.loop-switch-test.true in let e =
    ap length c.as_slice-switch-end.ensures in
    omega (arith, t, e) in
    let before = c.loop-switch.releases.items in
    let at = ways-at k n low in
    when-err _ c.from_residual.result c.from_residual.ensures.0
    (stopped-at c.args.bay.now c.args.names.now c.args.program.now (directions n) (directions k)
    ((k, Close) ∷ at.0) (k, Open) before at.1 c.loop-switch.invariant c.in_err-first.ensures)

pub returns-in_err-push : goal.returns-in_err-push
returns-in_err-push g c =
    let k = c.loop-switch.switch in
    let n = length c.args.bay.now.switches in
    let low : k + 1 ≤ n = let t = c.loop-switch-test.true in let e =
    ap length c.as_slice-switch-end.ensures in
    omega (arith, t, e) in
    let before = c.loop-switch.releases.items in
    let one = more-releases c.args.bay.now c.args.names.now c.args.program.now (directions k) before
    (k, Open) c.in_ok-first.first c.loop-switch.invariant c.in_ok-first.ensures in
    let half = ways-half k n low in
    when-err _ c.from_residual-in_err-push.result c.from_residual-in_err-push.ensures.0
    (some-of c.args.bay.now c.args.names.now c.args.program.now (directions n)
    (directions k ++ (k, Open) ∷ []) ((k, Close) ∷ half.0) (before ++ c.in_ok-first.first ∷ [])
    half.1
    one)

pub returns-in_err-second : goal.returns-in_err-second
returns-in_err-second g c =
    let k = c.loop-switch.switch in
    let n = length c.args.bay.now.switches in
    let low : k + 1 ≤ n = let t = c.loop-switch-test.true in let e =
    ap length c.as_slice-switch-end.ensures in
    omega (arith, t, e) in
    let before = c.loop-switch.releases.items in
    let one = more-releases c.args.bay.now c.args.names.now c.args.program.now (directions k) before
    (k, Open) c.in_ok-first.first c.loop-switch.invariant c.in_ok-first.ensures in
    let half = ways-half k n low in
    when-err _ c.from_residual-in_err-second.result c.from_residual-in_err-second.ensures.0
    (stopped-at c.args.bay.now c.args.names.now c.args.program.now (directions n)
    (directions k ++ (k, Open) ∷ []) half.0 (k, Close) (before ++ c.in_ok-first.first ∷ []) half.1
    one
    c.in_err-second.ensures)

pub returns-in_err-push-2 : goal.returns-in_err-push-2
returns-in_err-push-2 g c =
    let k = c.loop-switch.switch in
    let n = length c.args.bay.now.switches in
    let low : k + 1 ≤ n = let t = c.loop-switch-test.true in let e =
    ap length c.as_slice-switch-end.ensures in
    omega (arith, t, e) in
    let before = c.loop-switch.releases.items in
    let one = more-releases c.args.bay.now c.args.names.now c.args.program.now (directions k) before
    (k, Open) c.in_ok-first.first c.loop-switch.invariant c.in_ok-first.ensures in
    let two = more-releases c.args.bay.now c.args.names.now c.args.program.now
    (directions k ++ (k, Open) ∷ []) (before ++ c.in_ok-first.first ∷ []) (k, Close)
    c.in_ok-second.second
    one c.in_ok-second.ensures in
    let half = ways-half k n low in
    when-err _ c.from_residual-in_err-push-2.result c.from_residual-in_err-push-2.ensures.0
    (some-of c.args.bay.now c.args.names.now c.args.program.now (directions n)
    ((directions k ++ (k, Open) ∷ []) ++ (k, Close) ∷ []) half.0
    ((before ++ c.in_ok-first.first ∷ []) ++ c.in_ok-second.second ∷ [])
    (half.1 ∙ sym (append_assoc (directions k ++ (k, Open) ∷ []) ((k, Close) ∷ []) half.0)) two)

pub loop-switch-preserved : goal.loop-switch-preserved
loop-switch-preserved g c =
    let k = c.loop-switch.switch in
    let before = c.loop-switch.releases.items in
    let one = more-releases c.args.bay.now c.args.names.now c.args.program.now (directions k) before
    (k, Open) c.in_ok-first.first c.loop-switch.invariant c.in_ok-first.ensures in
    let two = more-releases c.args.bay.now c.args.names.now c.args.program.now
    (directions k ++ (k, Open) ∷ []) (before ++ c.in_ok-first.first ∷ []) (k, Close)
    c.in_ok-second.second
    one c.in_ok-second.ensures in
    subst (λ (rs : List Release). PutsReleases g.W.Sink.contents g.W.Sink.does c.args.bay.now
    c.args.names.now c.args.program.now (directions (k + 1)) rs c.args.writer.now
    c.write_release-in-loop-switch.new.writer)
    (sym (c.in_ok-push-2.ensures.items
    ∙ ap (λ (rs : List Release). rs ++ c.in_ok-second.second ∷ []) c.in_ok-push.ensures.items))
    (subst (λ these. PutsReleases g.W.Sink.contents g.W.Sink.does c.args.bay.now c.args.names.now
    c.args.program.now these ((before ++ c.in_ok-first.first ∷ []) ++ c.in_ok-second.second ∷ [])
    c.args.writer.now c.write_release-in-loop-switch.new.writer)
    (ways-next k) two)
