use Rattle.std.proofs.Common.{arith}
use Rattle.bay_transport.proofs.RequestLemmas.{size-of-power}
use Rattle.bay_transport.proofs.request.size_of.Goals as goal

pub returns-in-Some-len1-clause-size : goal.returns-in-Some-len1-clause-size
returns-in-Some-len1-clause-size c = size-of-power c.min-power.result (omega arith) (omega arith)
