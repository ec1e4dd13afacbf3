use Rattle.bay_io.proofs.SentLemmas.{Rest-start, Rest-step}
use Rattle.bay_server.proofs.TurnLemmas.{closings-turn}
use Rattle.bay_server.proofs.turns.put_closings.Goals as goal

pub loop-entry-init : goal.loop-entry-init
loop-entry-init g c = Rest-start _ _

pub loop-entry-preserved : goal.loop-entry-preserved
loop-entry-preserved g c =
    Rest-step c.loop-entry.invariant
    (closings-turn c.args.moment c.args.closed.now c.loop-entry.entry-index _
    c.loop-entry-test.true)
    c.put_entry.ensures
