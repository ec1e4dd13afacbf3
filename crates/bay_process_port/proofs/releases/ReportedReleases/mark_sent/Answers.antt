use Rattle.std.proofs.Common.{◌≡◌, None, length, length-set, ap, sym, ◌∙◌, arith}
use Rattle.std.proofs.lemmas.List.Edits.{fill_by_more}
use Rattle.std.proofs.lemmas.List.FromFn.{fill_by_all}
use Rattle.bay_device.specs.LookUps.{enabled_of}
use Rattle.bay_process_port.proofs.releases.ReportedReleases.mark_sent.Goals as goal

pub loop-index-preserved : goal.loop-index-preserved
loop-index-preserved c =
    let sent = c.loop-index.self-inside.releases in
    let sized = c.loop-index.invariant.0 in
    rw c.ena.ensures (
      simp length-set sized,
      fill_by_more (enabled_of c.args.device.now) sent c.loop-index.index None
          (omega (arith, sized))
          c.loop-index.invariant.1,
    )

pub returns : goal.returns
returns c =
    let sized : length c.args.self.now ≡ 32 =
    ap length (sym c.self.view_is) ∙ c.self.invariant in
    fill_by_all (enabled_of c.args.device.now) c.loop-index.self-inside.releases
    (length c.args.self.now) None (c.loop-index.invariant.0 ∙ sym sized)
    (λ k lt. c.loop-index.invariant.1 k (omega (arith, sized)))
