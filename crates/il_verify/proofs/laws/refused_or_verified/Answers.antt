use Rattle.il_verify.proofs.TableLemmas.{refused-unsafe}
use Rattle.il_verify.proofs.laws.refused_or_verified.Goals as goal

pub returns : goal.returns
returns c points image fault place refused v =
    refused-unsafe points image fault place refused v.fits v.safe
