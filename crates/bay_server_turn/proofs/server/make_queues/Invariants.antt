use Rattle.std.proofs.Common.{◌≡◌, [], replicate}
use Rattle.bay_server_turn.proofs.server.make_queues.Given as goal

abbrev pub invariant-loop-i : goal.invariant-loop-i
invariant-loop-i l = l.queues.items ≡ replicate l.i []
