use Rattle.std.proofs.Common.{rules}
use Rattle.il_image.specs.declared.write.Size.TheVariants.{One, Two, Four, Eight}
use Rattle.il_image.proofs.ReadLemmas.{whole-signed}
use Rattle.il_image.proofs.read.signed_at.Goals as goal

pub returns-in-One-len1-up : goal.returns-in-One-len1-up
returns-in-One-len1-up c =
    rw c.in-One-len1-up.is-0
    (whole-signed One c.args.octets.now _ c.in-One-len1-up.len_at_least (search rules))

pub returns-in-Two-len2-up : goal.returns-in-Two-len2-up
returns-in-Two-len2-up c =
    rw c.in-Two-len2-up.is-0
    (whole-signed Two c.args.octets.now _ c.in-Two-len2-up.len_at_least (search rules))

pub returns-in-Four-len4-up : goal.returns-in-Four-len4-up
returns-in-Four-len4-up c =
    rw c.in-Four-len4-up.is-0
    (whole-signed Four c.args.octets.now _ c.in-Four-len4-up.len_at_least (search rules))

pub returns-in-Eight-len8-up : goal.returns-in-Eight-len8-up
returns-in-Eight-len8-up c =
    rw c.in-Eight-len8-up.is-0
    (whole-signed Eight c.args.octets.now _ c.in-Eight-len8-up.len_at_least (search rules))
