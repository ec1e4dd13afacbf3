use Rattle.std.proofs.Common.{◌≡◌, length, refl, ap, ◌∙◌, arith}
use Rattle.std.proofs.lemmas.Bool.Decides.{nat_tests}
use Rattle.hex.specs.Hex.{encode_lower, lower_digits}
use Rattle.bay_io.proofs.SentLemmas.{Rest-end, Rest-start, Rest-step}
use Rattle.bay_report.proofs.HexLemmas.{encode-append, encode-nil}
use Rattle.bay_report.proofs.ReportLemmas.{nil-from-length}
use Rattle.bay_report.proofs.lines.put_digits.Goals as goal

pub loop-rest-init : goal.loop-rest-init
loop-rest-init g c = record { progress = Rest-start _ _; sized = refl }

pub loop-rest-preserved : goal.loop-rest-preserved
loop-rest-preserved g c = record {
  progress =
      Rest-step c.loop-rest.invariant.progress
      (ap encode_lower c.split_at.ensures.by_index.0
      ∙ encode-append lower_digits c.split_at.result.0.now c.split_at.result.1.now)
      c.put_chunk.ensures;
  sized = omega arith;
}

pub returns : goal.returns
returns g c =
    let zero : length c.loop-rest.rest.now ≡ 0 = grind (arith, nat_tests) in
    Rest-end c.loop-rest.invariant.progress
    (ap encode_lower (nil-from-length c.loop-rest.rest.now zero) ∙ encode-nil)
