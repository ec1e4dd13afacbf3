use Rattle.bay_server.specs.LogLines.{memory_line}
use Rattle.bay_server.proofs.LogLemmas.{up-to-start, up-to-next, up-to-end}
use Rattle.bay_server.proofs.log_lines.log_memories.Goals as goal

pub loop-association-init : goal.loop-association-init
loop-association-init g c =
    up-to-start g.W.Sink.contents g.W.Sink.does (memory_line c.args.moment) c.args.memory.now _

pub loop-association-preserved : goal.loop-association-preserved
loop-association-preserved g c =
    up-to-next g.W.Sink.contents g.W.Sink.does (memory_line c.args.moment) c.args.memory.now _ _ _
    c.loop-association.association-index _ c.loop-association.invariant c.loop-association-test.true
    c.log_memory.ensures

pub returns : goal.returns
returns g c =
    up-to-end g.W.Sink.contents g.W.Sink.does (memory_line c.args.moment) c.args.memory.now _ _
    c.loop-association.association-index c.loop-association.invariant c.loop-association-test.false
