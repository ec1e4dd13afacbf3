use Rattle.std.proofs.Common.{refl}
use Rattle.bay_audit_rules.specs.Words.{words}
use Rattle.bay_audit_rules.proofs.lexer.words.Goals as goal

pub returns : goal.returns
unfolding words
returns c = refl
