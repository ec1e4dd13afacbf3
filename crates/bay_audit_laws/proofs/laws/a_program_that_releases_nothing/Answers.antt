use Rattle.bay_audit_laws.proofs.ExampleLemmas.{breaks-always, harmless-anywhere, keeps-never}
use Rattle.bay_audit_laws.proofs.laws.a_program_that_releases_nothing.Goals as goal

pub returns-clause-never : goal.returns-clause-never
returns-clause-never l = keeps-never

pub returns-clause-always : goal.returns-clause-always
returns-clause-always l = breaks-always

pub returns-clause-harmless : goal.returns-clause-harmless
returns-clause-harmless l = harmless-anywhere
