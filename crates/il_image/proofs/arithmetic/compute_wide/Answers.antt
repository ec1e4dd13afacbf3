use Rattle.std.proofs.Common.{ap, arith}
use Rattle.std.proofs.lemmas.Int.{to_z-of_z}
use Rattle.il_image.specs.Arithmetic.{wrap_to}
use Rattle.il_image.proofs.WrapLemmas.{wrap-sum, wrap-difference, wrap-product, wrap-quotient, rest-is}
use Rattle.il_image.proofs.arithmetic.compute_wide.Goals as goal

pub returns-in-Add : goal.returns-in-Add
returns-in-Add c =
    λ w. rw c.in-Add.is (wrap-sum w c.args.first c.args.second c.ranges.first c.ranges.second)

pub returns-in-Sub : goal.returns-in-Sub
returns-in-Sub c =
    λ w. rw c.in-Sub.is (wrap-difference w c.args.first c.args.second c.ranges.first
    c.ranges.second)

pub returns-in-Mul : goal.returns-in-Mul
returns-in-Mul c =
    λ w. rw c.in-Mul.is (wrap-product w c.args.first c.args.second c.ranges.first c.ranges.second)

pub returns-in-Div : goal.returns-in-Div
returns-in-Div c = λ w. let e = wrap-quotient w c.args.first c.args.second c.ranges.first in
    rw c.in-Div.is (grind (arith, to_z-of_z, e))

pub returns-in-Mod : goal.returns-in-Mod
returns-in-Mod c = λ w. let e = ap (wrap_to w) (rest-is c.args.first c.args.second) in
    rw c.in-Mod.is (grind (arith, to_z-of_z, e))
