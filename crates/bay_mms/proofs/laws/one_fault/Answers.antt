use Rattle.bay_mms.proofs.AskLemmas.{unknown-is, many-is, bad-is}
use Rattle.bay_mms.proofs.laws.one_fault.Goals as goal

pub returns-clause-unknown : goal.returns-clause-unknown
returns-clause-unknown c = unknown-is

pub returns-clause-many : goal.returns-clause-many
returns-clause-many c = many-is

pub returns-clause-bad : goal.returns-clause-bad
returns-clause-bad c = bad-is
