use Rattle.il_standard_laws.proofs.IntegerLemmas.{computed}
use Rattle.il_standard_laws.proofs.MeaningLemmas.{joins, tests}
use Rattle.il_standard_laws.proofs.laws.arithmetic_is_that_of_the_integers.Goals as goal

pub returns : goal.returns
returns l = record { computed = computed; compared = tests; connected = joins }
