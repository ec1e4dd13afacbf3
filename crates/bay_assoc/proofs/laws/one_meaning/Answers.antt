use Rattle.bay_assoc.proofs.HearingLemmas.{verdict-fair, one-way}
use Rattle.bay_assoc.proofs.laws.one_meaning.Goals as goal

pub returns-clause-heard : goal.returns-clause-heard
returns-clause-heard c = λ old new octets h. (verdict-fair old octets).read (h, new)

pub returns-clause-one : goal.returns-clause-one
returns-clause-one c = one-way

pub returns-clause-spelled : goal.returns-clause-spelled
returns-clause-spelled c = λ old new octets h b. (verdict-fair old octets).back b (h, new)
