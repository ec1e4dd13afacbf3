use Rattle.std.proofs.Common.{◌<◌, ◌^◌, arith, length}
use Rattle.bay_ber.proofs.OctetLemmas.{pow-within}
use Rattle.bay_ber.proofs.tlv.length_at.Goals as goal

pub overflow_cast-result-2 : goal.overflow_cast-result-2
overflow_cast-result-2 c =
    let small : c.number_of.result < 256 ^ 4 =
    omega (
      arith,
      pow-within (length c.split_at.result.0.now) 4 (omega arith),
      c.number_of.ensures.below,
    ) in
    omega arith
