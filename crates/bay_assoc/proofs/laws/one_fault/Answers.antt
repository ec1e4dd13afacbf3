use Rattle.bay_assoc.proofs.HearingLemmas.{verdict-fair}
use Rattle.bay_assoc.proofs.laws.one_fault.Goals as goal

pub returns : goal.returns
returns c =
    λ phase octets fault b. (
      (verdict-fair phase octets).why b fault,
      (verdict-fair phase octets).refused b fault,
    )
