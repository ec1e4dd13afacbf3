use Rattle.std.proofs.Common.{◌≡◌, Some, None, List, ap, sym, refl, ◌∙◌}
use Rattle.bay_tree.specs.declared.row.Row.{Row}
use Rattle.bay_tree.specs.Rows.{row_index}
use Rattle.bay_tree.proofs.NamedLemmas.{found-leaf}
use Rattle.bay_tree.proofs.SearchLemmas.{place_of-found, place_of-none, place_of-some}
use Rattle.bay_tree.proofs.tree.Tree.find_octets.Goals as goal

place : (c : goal.In-Some) → row_index c.args.self.now c.args.name.now ≡ Some c.in-Some.index
place c =
    ap (λ (rs : List Row). row_index rs c.args.name.now)
    (sym (c.deref.ensures.value ∙ c.self.view_is))
    ∙ sym c.in-Some.ensures

pub returns-in-Some-clause-found : goal.returns-in-Some-clause-found
returns-in-Some-clause-found c =
    place_of-found c.args.self.now c.args.name.now c.in-Some.index (place c)

pub returns-in-Some-clause-value : goal.returns-in-Some-clause-value
returns-in-Some-clause-value c =
    found-leaf c.args.name.now c.args.self.now c.in-Some.index (place c)

pub returns-in-Some-clause-unknown : goal.returns-in-Some-clause-unknown
returns-in-Some-clause-unknown c = (
  λ e. absurd cc,
  λ lacking. absurd
      (place_of-some c.args.self.now c.args.name.now c.in-Some.index (place c) lacking),
)

pub returns-in-None-clause-unknown : goal.returns-in-None-clause-unknown
returns-in-None-clause-unknown c =
    let none : row_index c.args.self.now c.args.name.now ≡ None =
    ap (λ (rs : List Row). row_index rs c.args.name.now)
    (sym (c.deref.ensures.value ∙ c.self.view_is)) ∙ sym c.in-None.ensures in
    (λ _. place_of-none c.args.self.now c.args.name.now none, λ _. refl)
