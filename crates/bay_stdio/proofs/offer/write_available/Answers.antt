use Rattle.std.proofs.Common.{◌-◌, ◌++◌, length, take, drop, sym, ap, subst, ◌∙◌, arith, length-take}
use Rattle.std.proofs.Math.Seq.{take-add, take-take}
use Rattle.std.specs.Io.KnownBytes.{Appends}
use Rattle.std.proofs.KnownBytes.{Appends-trans}
use Rattle.bay_stdio.proofs.offer.write_available.Goals as goal

pub loop-taken-preserved : goal.loop-taken-preserved
loop-taken-preserved g c =
    let taken = c.loop-taken.taken in
    let n = c.in-Ok.n in
    let xs = c.args.octets.now in
    let before = c.loop-taken.invariant in
    let fits = c.in-Ok.ensures.bound in
    let most = length-take (length xs - taken) (drop taken xs) in
    let joined =
    ap (λ l. take taken xs ++ l) (take-take n (length xs - taken) (drop taken xs) (omega arith))
    ∙ sym (take-add taken n xs) in
    record {
      within = omega arith;
      taken =
          subst (Appends _ _) joined (Appends-trans _ _ _ _ _ before.taken c.in-Ok.ensures.bytes);
    }
