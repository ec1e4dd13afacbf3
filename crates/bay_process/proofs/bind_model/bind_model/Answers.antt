use Rattle.std.proofs.Common.{◌∙◌, ℕ, List, ap, length, subst, sym}
use Rattle.bay_process.specs.Layout.{layout_of}
use Rattle.bay_process.specs.ModelRows.{AreInputsBound, AreLocalsBound}
use Rattle.bay_process.specs.declared.rows.StatusRows.{StatusRows}
use Rattle.bay_nodes.specs.Names.{health_names, physical_health_names}
use Rattle.bay_process.proofs.BoundModelLemmas.{are-locals-bound, found-health, has-model}
use Rattle.bay_process.proofs.bind_model.bind_model.Goals as goal

pub find_locals-requires : goal.find_locals-requires
find_locals-requires c = (has-model c.requires.0 _ _ _ _ _ c.requires.1 c.in-Two.is).locals

pub find_inputs-requires : goal.find_inputs-requires
find_inputs-requires c = (has-model c.requires.0 _ _ _ _ _ c.requires.1 c.in-Two.is).inputs

pub returns-in_ok-rows-in-Two-clause-bound : goal.returns-in_ok-rows-in-Two-clause-bound
returns-in_ok-rows-in-Two-clause-bound c bay source =
    let rows = c.args.tree.now in
    let layout = layout_of rows in
    let model = has-model bay _ _ _ _ _ source c.in-Two.is in
    let locals = c.in_ok-locals-in-Two in
    let inputs = c.in_ok-rows-in-Two in
    record {
      health = found-health rows health_names c.in_ok-health-in-Two.health model.health
          c.in_ok-health-in-Two.ensures;
      physical = found-health rows physical_health_names c.in_ok-physical-in-Two.physical
          model.physical c.in_ok-physical-in-Two.ensures;
      locals = subst (AreLocalsBound layout bay.inputs bay.switches 0 bay.switches)
          (sym c.new.ensures)
          (are-locals-bound bay c.args.nodes.now layout c.args.controls.now locals.locals.items
          source.nodes_named source.controls_are source.nodes_sized locals.ensures.sized
          locals.ensures.named);
      inputs_sized = ap (λ (rs : List StatusRows). length rs) c.new-in-Two.ensures
          ∙ inputs.ensures.sized ∙ ap (λ (is : List (List ℕ)). length is) (sym source.inputs_are);
      inputs_bound = subst (AreInputsBound layout 0) (sym c.new-in-Two.ensures)
          inputs.ensures.bound;
    }
