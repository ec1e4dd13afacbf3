use Rattle.bay_device_example_laws.proofs.BackingLemmas.{matched-backs, other-backs-none, plain-backs-none, earlier-backs-none, taken-matches-none, moved-matches-none, another-matches-none}
use Rattle.bay_device_example_laws.proofs.laws.a_select_with_value_backs_what_it_requested.Goals as goal

pub returns-clause-backed : goal.returns-clause-backed
returns-clause-backed l = matched-backs

pub returns-clause-other : goal.returns-clause-other
returns-clause-other l = other-backs-none

pub returns-clause-plain : goal.returns-clause-plain
returns-clause-plain l = plain-backs-none

pub returns-clause-earlier : goal.returns-clause-earlier
returns-clause-earlier l = earlier-backs-none

pub returns-clause-taken : goal.returns-clause-taken
returns-clause-taken l = taken-matches-none

pub returns-clause-moved : goal.returns-clause-moved
returns-clause-moved l = moved-matches-none

pub returns-clause-of_another : goal.returns-clause-of_another
returns-clause-of_another l = another-matches-none
