use Rattle.std.proofs.Common.{refl, arith}
use Rattle.bay_connection.proofs.stack.Stack.close.Goals as goal

pub returns-clause-kept : goal.returns-clause-kept
returns-clause-kept c =
    record { within = omega arith; joined = rw (c.end.ensures, c.end-2.ensures) refl }
