use Rattle.std.proofs.Common.{◌∙◌, ◌+◌, ◌++◌, ◌&&◌, Bool, List, ℕ, ap, subst, sym, take}
use Rattle.std.proofs.lemmas.List.{take_more}
use Rattle.cmd_audit.specs.HazardText.{hazard_line}
use Rattle.cmd_audit.specs.Written.{PutsJudged}
use Rattle.cmd_audit.proofs.HazardLemmas.{first-put, next-put, none-put}
use Rattle.cmd_audit.proofs.WrittenLemmas.{when-err}
use Rattle.cmd_audit.proofs.hazards.write_judged.Goals as goal

pub loop-way-init : goal.loop-way-init
loop-way-init g c =
    none-put c.args.bay.now c.args.diagram.now c.args.program.now c.args.writer.now

pub returns-in_err-judged : goal.returns-in_err-judged
returns-in_err-judged g c =
    when-err _ c.from_residual.result c.from_residual.ensures.0
    (first-put c.args.bay.now c.args.diagram.now c.args.program.now c.args.ways.now
    c.loop-way.way-index c.loop-way.passed c.loop-way.invariant)

pub returns-in_err-put_hazard_line : goal.returns-in_err-put_hazard_line
returns-in_err-put_hazard_line g c =
    when-err _ c.from_residual-in_err-put_hazard_line.result
    c.from_residual-in_err-put_hazard_line.ensures.0
    (first-put c.args.bay.now c.args.diagram.now c.args.program.now c.args.ways.now
    c.loop-way.way-index c.loop-way.passed c.loop-way.invariant)

pub returns-in_err-write_now : goal.returns-in_err-write_now
returns-in_err-write_now g c =
    when-err _ c.from_residual-in_err-write_now.result c.from_residual-in_err-write_now.ensures.0
    (first-put c.args.bay.now c.args.diagram.now c.args.program.now c.args.ways.now
    (c.loop-way.way-index + 1) _
    (next-put c.args.bay.now c.args.diagram.now c.args.program.now c.args.ways.now
    c.loop-way.way-index c.loop-way.passed _ c.in_ok-judged.judged
    c.as_slice.result.now
    (take_more c.args.ways.now c.loop-way.way-index _ c.loop-way-test.true)
    c.loop-way.invariant c.in_ok-judged.ensures.right c.in_ok-judged.ensures.way
    (c.as_slice.ensures.value ∙ c.in_ok-put_hazard_line.ensures
    ∙ ap (λ (t : List ℕ). t
    ++ hazard_line c.args.bay.now c.args.diagram.now c.in_ok-judged.judged)
    c.new-text.ensures.items)
    c.write_now.ensures))

pub loop-way-preserved : goal.loop-way-preserved
loop-way-preserved g c =
    subst (λ (b : Bool). PutsJudged g.W.Sink.contents g.W.Sink.does c.args.bay.now
    c.args.diagram.now c.args.program.now (take (c.loop-way.way-index + 1) c.args.ways.now) b
    c.args.writer.now c.write_now.new.writer)
    (sym (c.both-passed.ensures ∙ ap (λ (b : Bool). c.loop-way.passed && b) c.is_safe.ensures))
    (next-put c.args.bay.now c.args.diagram.now c.args.program.now c.args.ways.now
    c.loop-way.way-index c.loop-way.passed _ c.in_ok-judged.judged
    c.as_slice.result.now
    (take_more c.args.ways.now c.loop-way.way-index _ c.loop-way-test.true)
    c.loop-way.invariant c.in_ok-judged.ensures.right c.in_ok-judged.ensures.way
    (c.as_slice.ensures.value ∙ c.in_ok-put_hazard_line.ensures
    ∙ ap (λ (t : List ℕ). t
    ++ hazard_line c.args.bay.now c.args.diagram.now c.in_ok-judged.judged)
    c.new-text.ensures.items)
    c.write_now.ensures)
