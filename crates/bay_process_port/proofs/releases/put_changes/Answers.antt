use Rattle.std.proofs.Common.{ap}
use Rattle.std.proofs.lemmas.List.{drop_all}
use Rattle.bay_process_port.specs.Releases.{releases_text, releases_from}
use Rattle.bay_process_port.proofs.ReleaseLemmas.{changes-turn}
use Rattle.bay_lines.proofs.PutLemmas.{puts-failed, puts-next, puts-nothing, puts-within}
use Rattle.bay_process_port.proofs.releases.put_changes.Goals as goal

pub returns-then-not-put_change : goal.returns-then-not-put_change
returns-then-not-put_change c =
    c.loop-index.invariant.goes _ _
    (puts-failed _ _ _ _ _ _ c.put_change.ensures.fits
    (changes-turn c.args.device.now c.args.sent.now c.loop-index.index _ c.loop-index-test.true) _
    c.if-not-put_change.true)

pub loop-index-preserved : goal.loop-index-preserved
loop-index-preserved c =
    let fit = c.if-not-put_change.false in
    record {
      within = puts-within _ _ _ _ _ c.put_change.ensures.fits fit
          (rw fit (c.put_change.ensures.after fit));
      goes = λ new answer rest. c.loop-index.invariant.goes _ _
          (puts-next _ _ _ _ _ _ c.put_change.ensures.fits
          (changes-turn c.args.device.now c.args.sent.now c.loop-index.index _
          c.loop-index-test.true) _ _ _ fit (rw fit (c.put_change.ensures.after fit)) rest);
    }

pub returns : goal.returns
returns c =
    c.loop-index.invariant.goes _ _
    (puts-nothing _ _ _ c.loop-index.invariant.within
    (ap (λ sent. releases_text c.args.device.now
    (releases_from c.args.device.now c.loop-index.index sent))
    (drop_all _ c.args.sent.now c.loop-index-test.false)))
