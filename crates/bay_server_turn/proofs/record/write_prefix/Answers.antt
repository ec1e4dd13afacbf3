use Rattle.std.proofs.Common.{◌-◌, length, drop, arith, length-drop, length-take}
use Rattle.std.proofs.lemmas.List.{take_rest}
use Rattle.bay_server_turn.proofs.WriteLemmas.{took-more, took-none}
use Rattle.bay_server_turn.proofs.record.write_prefix.Goals as goal
use Rattle.bay_server_turn.proofs.record.write_prefix.Goals.{in-Ok, in-Err+else-ne}

pub loop-preserved : goal.loop-preserved
loop-preserved g c =
    elim c.match-write.branch [
      | in-Ok w ↦ record {
        within = omega (
          arith,
          w.in-Ok.ensures.bound,
          w.taken-is,
          c.loop.invariant.within,
          length-take (length c.args.octets.now - c.loop.taken) (drop c.loop.taken c.args.octets.now),
          length-drop c.loop.taken c.args.octets.now,
        );
        bytes = took-more _ _ _ _ _ _ _ (take_rest c.args.octets.now c.loop.taken)
            c.loop.invariant.bytes c.write.ensures.bytes _ _ w.in-Ok.is w.taken-is;
      }
      | in-Err+else-ne w ↦ record {
        within = omega (arith, w.taken-is, c.loop.invariant.within);
        bytes = took-none _ _ _ _ _ _ _ (take_rest c.args.octets.now c.loop.taken)
            c.loop.invariant.bytes c.write.ensures.bytes _ _ w.in-Err.is w.taken-is;
      }
    ]

pub returns-after-write-clause-bytes : goal.returns-after-write-clause-bytes
returns-after-write-clause-bytes g c =
    elim c.match-write.branch [
      | in-Ok w ↦ took-more _ _ _ _ _ _ _ (take_rest c.args.octets.now c.loop.taken)
          c.loop.invariant.bytes c.write.ensures.bytes _ _ w.in-Ok.is w.taken-is
      | in-Err+else-ne w ↦ took-none _ _ _ _ _ _ _ (take_rest c.args.octets.now c.loop.taken)
          c.loop.invariant.bytes c.write.ensures.bytes _ _ w.in-Err.is w.taken-is
    ]
