use Rattle.std.proofs.Common.{ap, drop, ◌+◌}
use Rattle.std.proofs.lemmas.List.{drop_all}
use Rattle.hex.specs.Hex.{encode_lower, encode_with}
use Rattle.bay_lines.proofs.PutLemmas.{puts-failed, puts-next, puts-nothing, puts-within}
use Rattle.bay_trace.proofs.PutLemmas.{digits_at, digits-turn}
use Rattle.bay_trace.proofs.record_lines.put_digits.Goals as goal

pub returns-then-not-put : goal.returns-then-not-put
returns-then-not-put c =
    c.loop-octet.invariant.goes _ _
    (puts-failed _ _ (digits_at c.args.octets.now c.loop-octet.octet-index)
    (encode_lower (drop (c.loop-octet.octet-index + 1) c.args.octets.now)) _ _ c.put.ensures.fits
    (digits-turn c.args.octets.now c.loop-octet.octet-index c.loop-octet-test.true) _
    c.if-not-put.true)

pub loop-octet-preserved : goal.loop-octet-preserved
loop-octet-preserved c =
    record {
      within = puts-within _ _ _ _ _ c.put.ensures.fits c.if-not-put.false c.put.ensures.after;
      goes = λ new answer rest. c.loop-octet.invariant.goes _ _
          (puts-next _ _ _ _ _ _ c.put.ensures.fits
          (digits-turn c.args.octets.now c.loop-octet.octet-index c.loop-octet-test.true) _ _ _
          c.if-not-put.false c.put.ensures.after rest);
    }

pub returns : goal.returns
unfolding encode_with
returns c =
    c.loop-octet.invariant.goes _ _ (puts-nothing _ _ _ c.loop-octet.invariant.within
    (ap encode_lower (drop_all _ c.args.octets.now c.loop-octet-test.false)))
