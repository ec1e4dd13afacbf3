use Rattle.bay_mms.proofs.ResponseLemmas.{adds-held, holds-held, size-held}
use Rattle.bay_mms.proofs.results.ReadResponse.failure.Goals as goal

pub invariant_of-self : goal.invariant_of-self
invariant_of-self c =
    holds-held c.check_limit.result c.self.inside.results _ _ _ c.self.invariant
    c.put_result.ensures
    c.check_limit.ensures

pub returns-clause-added : goal.returns-clause-added
returns-clause-added c =
    rw (← c.self.view_is)
    (adds-held c.check_limit.result c.self.inside.results _ _ _ c.self.invariant
    c.put_result.ensures
    c.check_limit.ensures)

pub returns-clause-size : goal.returns-clause-size
returns-clause-size c =
    rw (← c.self.view_is)
    (size-held c.check_limit.result c.self.inside.results _ _ _ c.put_result.ensures
    c.check_limit.ensures)
