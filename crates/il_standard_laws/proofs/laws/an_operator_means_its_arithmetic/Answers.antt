use Rattle.il_standard_laws.proofs.MeaningLemmas.{converts, instruction, inverts, parenthesis}
use Rattle.il_standard_laws.proofs.laws.an_operator_means_its_arithmetic.Goals as goal

pub returns : goal.returns
returns l = record {
  instructions = instruction;
  parentheses = parenthesis;
  conversions = converts;
  negation = inverts;
}
