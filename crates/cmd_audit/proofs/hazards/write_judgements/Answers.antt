use Rattle.std.proofs.Common.{◌∙◌}
use Rattle.cmd_audit.proofs.HazardLemmas.{cut-at-once, judged-of}
use Rattle.cmd_audit.proofs.WrittenLemmas.{when-err}
use Rattle.cmd_audit.proofs.hazards.write_judgements.Goals as goal

pub returns-in_err-program : goal.returns-in_err-program
returns-in_err-program g c =
    when-err _ c.from_residual.result c.from_residual.ensures.0
    (cut-at-once c.args.loaded.now c.args.diagram.now c.args.writer.now)

pub returns-in_err-ways : goal.returns-in_err-ways
returns-in_err-ways g c =
    when-err _ c.from_residual-in_err-ways.result c.from_residual-in_err-ways.ensures.0
    (cut-at-once c.args.loaded.now c.args.diagram.now c.args.writer.now)

pub returns : goal.returns
returns g c =
    judged-of g.W.Sink.contents g.W.Sink.does c.args.loaded.now c.args.diagram.now
    c.in_ok-program.program c.as_slice-ways.result.now c.args.writer.now
    c.write_judged.new.writer c.write_judged.result
    (rw (c.bay-bay.ensures, c.verified.ensures) at c.in_ok-program.ensures)
    (c.as_slice-ways.ensures.value ∙ (rw c.bay-bay.ensures at c.in_ok-ways.ensures))
    (rw c.bay-bay.ensures at c.write_judged.ensures)
