use Rattle.std.proofs.Common.{refl}
use Rattle.bay_tree.proofs.RowLemmas.{name_at-set, leaf_at-own, leaf_at-other, leaves_at-others}
use Rattle.bay_tree.proofs.laws.a_write_is_to_one_row.Goals as goal

pub returns-clause-own : goal.returns-clause-own
returns-clause-own c = leaf_at-own

pub returns-clause-other : goal.returns-clause-other
returns-clause-other c = leaf_at-other

pub returns-clause-others : goal.returns-clause-others
returns-clause-others c = leaves_at-others

pub returns-clause-names : goal.returns-clause-names
returns-clause-names c = λ rows row other leaf within. name_at-set rows row _ other within refl
