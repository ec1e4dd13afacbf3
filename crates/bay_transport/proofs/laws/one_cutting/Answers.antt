use Rattle.bay_transport.proofs.FrameLemmas.{is-cut, only-cut}
use Rattle.bay_transport.proofs.laws.one_cutting.Goals as goal

pub returns-clause-cut : goal.returns-clause-cut
returns-clause-cut c = is-cut

pub returns-clause-only : goal.returns-clause-only
returns-clause-only c = only-cut
