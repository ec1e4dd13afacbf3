use Rattle.std.proofs.Common.{ap}
use Rattle.std.proofs.lemmas.List.{drop_all}
use Rattle.bay_lines.specs.Puts.{text_of}
use Rattle.bay_lines.proofs.PutLemmas.{puts-failed, puts-next, puts-nothing, puts-within, text-turn}
use Rattle.bay_lines.proofs.bounded_buffer.BoundedBuffer.put_parts.Goals as goal

pub returns-then-not-put : goal.returns-then-not-put
returns-then-not-put g c =
    c.loop-part.invariant.goes _ _
    (puts-failed _ _ _ _ _ _ c.put.ensures.fits
    (text-turn c.args.parts.now c.loop-part.part-index _ c.loop-part-test.true) _
    c.if-not-put.true)

pub loop-part-preserved : goal.loop-part-preserved
loop-part-preserved g c =
    record {
      within = puts-within _ _ _ _ _ c.put.ensures.fits c.if-not-put.false c.put.ensures.after;
      goes = λ new answer rest. c.loop-part.invariant.goes _ _
          (puts-next _ _ _ _ _ _ c.put.ensures.fits
          (text-turn c.args.parts.now c.loop-part.part-index _ c.loop-part-test.true) _ _ _
          c.if-not-put.false c.put.ensures.after rest);
    }

pub returns : goal.returns
returns g c =
    c.loop-part.invariant.goes _ _ (puts-nothing _ _ _ c.loop-part.invariant.within
    (ap text_of (drop_all _ c.args.parts.now c.loop-part-test.false)))
