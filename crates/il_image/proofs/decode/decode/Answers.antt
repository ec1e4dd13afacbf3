use Rattle.std.proofs.Common.{refl}
use Rattle.il_image.specs.Decoding.{decoded_image}
use Rattle.il_image.proofs.ImageLemmas.{spelled-image}
use Rattle.il_image.proofs.decode.decode.Goals as goal

pub new-requires : goal.new-requires
unfolding decoded_image
new-requires c =
    (spelled-image c.args.octets.now _ (λ i. (c.type_inv.octets i).fits) (rw (
      c.in_ok-rest.ensures,
      c.in_ok-version.ensures,
      c.in_ok-points.ensures.read,
      c.in_ok-variables.ensures,
      c.in_ok-timers.ensures,
      c.in_ok-code.ensures,
    ) refl)).0
