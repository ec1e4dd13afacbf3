use Rattle.std.proofs.Common.{sym, ◌∙◌}
use Rattle.cmd_replay.proofs.PartLemmas.{PartSoFar-step, PartSoFar-end}
use Rattle.cmd_replay.proofs.scenario.cut_part.Goals as goal

pub returns-then-is_separator-clause-part : goal.returns-then-is_separator-clause-part
returns-then-is_separator-clause-part c =
    sym (PartSoFar-end _ _ _ _ _ c.loop-rest.invariant c.split_line.ensures.cuts
    (sym c.is_separator.ensures ∙ c.if-is_separator.true))

pub loop-rest-preserved : goal.loop-rest-preserved
loop-rest-preserved c =
    PartSoFar-step _ _ _ _ _ c.loop-rest.invariant c.split_line.ensures.cuts
    (sym c.is_separator.ensures ∙ c.if-is_separator.false)
