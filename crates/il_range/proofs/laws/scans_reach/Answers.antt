use Rattle.il_range.proofs.StartLemmas.{leaves-by-scan, reaches-by-scan}
use Rattle.il_range.proofs.laws.scans_reach.Goals as goal

pub returns : goal.returns
returns c = record { runs = leaves-by-scan; reaches = reaches-by-scan }
