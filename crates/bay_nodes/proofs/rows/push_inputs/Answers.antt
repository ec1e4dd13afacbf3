use Rattle.std.proofs.Common.{◌++◌, ◌∙◌, codes, map, ap, refl}
use Rattle.bay_nodes.specs.declared.subject.Subject.TheVariants.{Device, Input}
use Rattle.bay_nodes.specs.NodeRows.{input_description_rows, input_rows, line_row, object_rows, table_rows}
use Rattle.bay_nodes.proofs.NodeLemmas.{inputs-appended}
use Rattle.bay_nodes.proofs.rows.push_inputs.Goals as goal

pub returns : goal.returns
returns c =
    let n = c.args.nameplate.now in
    let inputs = c.args.inputs.now in
    let first = map (line_row n Device) c.inputs_table-first.result.now in
    let plate = map (line_row n Device) c.inputs_plate_table-plate.result.now in
    let values = object_rows (codes "GGIO1$ST$Ind") (λ name. input_rows) 1 inputs in
    let texts = object_rows (codes "GGIO1$DC$Ind") input_description_rows 1 inputs in
    c.in_ok-push_input_objects-2.ensures input_description_rows
    (λ name. c.input_description_table-text.ensures n name)
    ∙ ap (λ rows. rows ++ texts)
    (c.in_ok-push_table.ensures
    ∙ ap (λ rows. rows ++ table_rows n Device (codes "GGIO1") c.inputs_plate_table-plate.result.now)
    (c.in_ok-push_input_objects.ensures (λ name. input_rows)
    (λ name. c.input_table-value.ensures n (Input name))
    ∙ ap (λ rows. rows ++ values) c.in_ok-push_node.ensures))
    ∙ inputs-appended n inputs c.args.rows.now.items first values plate texts
    (c.inputs_table-first.ensures n Device) refl (c.inputs_plate_table-plate.ensures n) refl
