use Rattle.std.proofs.Common.{ap, sym, ◌∙◌}
use Rattle.bay_tree.specs.Rows.{row_index}
use Rattle.bay_tree.proofs.ArenaLemmas.{place_of-same}
use Rattle.bay_tree.proofs.SearchLemmas.{place_of-found}
use Rattle.bay_tree.proofs.TreeLemmas.{place_of-own}
use Rattle.bay_tree.proofs.laws.a_row_is_found_by_its_name.Goals as goal

pub returns-clause-named : goal.returns-clause-named
returns-clause-named c =
    λ rows row name tree within. (
      λ found. (place_of-found rows name row found).1,
      λ named. ap (row_index rows) (sym named) ∙ place_of-own rows row tree within,
    )

pub returns-clause-stays : goal.returns-clause-stays
returns-clause-stays c = place_of-same
