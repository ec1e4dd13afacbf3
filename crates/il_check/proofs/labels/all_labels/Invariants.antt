use Rattle.il_check.proofs.LabelLemmas.{LabelsSoFar}
use Rattle.il_check.proofs.labels.all_labels.Given as goal

abbrev pub invariant-loop-item : goal.invariant-loop-item
invariant-loop-item l = LabelsSoFar l.items l.item-index l.labels
