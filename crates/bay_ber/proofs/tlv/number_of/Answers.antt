use Rattle.std.proofs.Common.{◌<◌, ◌^◌, arith}
use Rattle.bay_ber.proofs.OctetLemmas.{pow-within}
use Rattle.bay_ber.proofs.tlv.number_of.Goals as goal

pub overflow_mul-number : goal.overflow_mul-number
overflow_mul-number c =
    let small : c.loop-octet.number < 256 ^ 8 =
    omega (arith, pow-within c.loop-octet.octet-index 8 (omega arith), c.loop-octet.invariant.1)
    in
    omega arith

pub overflow_add-number : goal.overflow_add-number
overflow_add-number c =
    let small : c.loop-octet.number < 256 ^ 8 =
    omega (arith, pow-within c.loop-octet.octet-index 8 (omega arith), c.loop-octet.invariant.1)
    in
    omega arith
