use Rattle.std.proofs.Common.{arith}
use Rattle.std.proofs.lemmas.Int.{to_z-of_z}
use Rattle.il_image.proofs.WrapLemmas.{wrap-short, wrap-long}
use Rattle.il_image.proofs.arithmetic.wrap.Goals as goal

pub returns-in-Int : goal.returns-in-Int
returns-in-Int c =
    let e = wrap-short c.args.number c.ranges.number in
    rw c.in-Int.is (grind (arith, to_z-of_z, e))

pub returns-in-Dint : goal.returns-in-Dint
returns-in-Dint c =
    let e = wrap-long c.args.number c.ranges.number in
    rw c.in-Dint.is (grind (arith, to_z-of_z, e))
