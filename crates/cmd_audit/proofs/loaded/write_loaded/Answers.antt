use Rattle.cmd_audit.proofs.LoadedLemmas.{put-nothing, said-of}
use Rattle.cmd_audit.proofs.loaded.write_loaded.Goals as goal

pub returns-then-has_failed : goal.returns-then-has_failed
returns-then-has_failed g c =
    put-nothing c.args.loaded.now c.args.texts.now c.args.writer.now

pub returns-in-Ok-diagram_of : goal.returns-in-Ok-diagram_of
returns-in-Ok-diagram_of g c =
    said-of g.W.Sink.contents g.W.Sink.does c.args.loaded.now c.args.texts.now c.in-Ok.rules
    c.in-Ok-diagram_of.diagram c.args.writer.now c.write_answered.new.writer
    c.write_answered.result (rw c.bay.ensures at c.in-Ok.ensures.read)
    (rw c.bay-2.ensures at c.in-Ok-diagram_of.ensures.read) c.write_answered.ensures

pub returns-then-is_none : goal.returns-then-is_none
returns-then-is_none g c =
    put-nothing c.args.loaded.now c.args.texts.now c.args.writer.now
