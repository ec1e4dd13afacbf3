use Rattle.bay_transport.proofs.SizeLemmas.{after-size, delivers-size}
use Rattle.bay_transport.proofs.laws.one_size.Goals as goal

pub returns-clause-after : goal.returns-clause-after
returns-clause-after c = after-size

pub returns-clause-delivers : goal.returns-clause-delivers
returns-clause-delivers c = delivers-size
