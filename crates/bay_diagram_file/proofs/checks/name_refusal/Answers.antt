use Rattle.std.proofs.Common.{◌∙◌, ℕ, List, ap, ap₂, position}
use Rattle.bay_diagram_file.specs.Checks.{is_no_input, first_refusal, refusal}
use Rattle.bay_diagram_file.specs.declared.fault.FaultKind.TheVariants.{DuplicateName, UnknownName}
use Rattle.bay_diagram_file.specs.declared.fault.Place.TheVariants as places
use Rattle.bay_diagram_file.proofs.checks.name_refusal.Goals as goal

pub returns : goal.returns
returns c =
    c.first_refusal-3.ensures
    ∙ ap₂ first_refusal
    (c.node_refusal-node.ensures
    ∙ ap (refusal DuplicateName places.Node) c.duplicate_node.ensures)
    (c.first_refusal-2.ensures
    ∙ ap₂ first_refusal
    (c.between_refusal-switch.ensures
    ∙ ap (refusal DuplicateName places.Between) c.duplicate_switch.ensures)
    (c.first_refusal.ensures
    ∙ ap₂ first_refusal
    (c.node_refusal-input.ensures
    ∙ ap (refusal UnknownName places.Node)
    (c.unknown_input_node-no_input.ensures
    ∙ ap (λ (inputs : List (List ℕ)). position (λ n. is_no_input inputs n.dead) c.args.nodes.now)
    c.as_slice.ensures))
    (c.between_refusal-name.ensures
    ∙ ap (refusal UnknownName places.Between) c.unknown_name_switch-no_name.ensures)))
