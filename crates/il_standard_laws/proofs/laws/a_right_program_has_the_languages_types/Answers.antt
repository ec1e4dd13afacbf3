use Rattle.il_standard_laws.proofs.TypedTextLemmas.{has-types}
use Rattle.il_standard_laws.proofs.laws.a_right_program_has_the_languages_types.Goals as goal

pub returns : goal.returns
returns l = has-types
