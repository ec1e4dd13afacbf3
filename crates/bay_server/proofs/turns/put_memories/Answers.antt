use Rattle.bay_io.proofs.SentLemmas.{Rest-start, Rest-step}
use Rattle.bay_server.proofs.TurnLemmas.{memories-turn}
use Rattle.bay_server.proofs.turns.put_memories.Goals as goal

pub loop-association-init : goal.loop-association-init
loop-association-init g c = Rest-start _ _

pub loop-association-preserved : goal.loop-association-preserved
loop-association-preserved g c =
    Rest-step c.loop-association.invariant
    (memories-turn c.args.moment c.args.memory.now c.loop-association.association-index _
    c.loop-association-test.true)
    c.put_closing_line.ensures
