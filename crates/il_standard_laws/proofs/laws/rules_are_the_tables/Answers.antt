use Rattle.il_standard_laws.proofs.InstructionLemmas.{initial-is}
use Rattle.il_standard_laws.proofs.RightTextLemmas.{pass}
use Rattle.il_standard_laws.proofs.TableLemmas.{table}
use Rattle.il_standard_laws.proofs.laws.rules_are_the_tables.Goals as goal

pub returns : goal.returns
returns l = record { operators = table; initial_values = initial-is; programs = pass }
