use Rattle.il_verify.proofs.TableLemmas.{refused-unsafe}
use Rattle.il_verify.proofs.verify.verify.Goals as goal

pub returns-in-Err-clause-exact : goal.returns-in-Err-clause-exact
returns-in-Err-clause-exact c =
    λ ne v. refused-unsafe c.args.points.now c.args.image c.in-Err.stop.fault c.in-Err.stop.place
    (c.in-Err.ensures.err ne) v.fits v.safe
