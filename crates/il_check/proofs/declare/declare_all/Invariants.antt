use Rattle.il_check.proofs.DeclarationsViewLemmas.{SoFar}
use Rattle.il_check.proofs.declare.declare_all.Given as goal

abbrev pub invariant-loop-declaration : goal.invariant-loop-declaration
invariant-loop-declaration l = SoFar l.points l.declarations l.declaration-index l.declared
