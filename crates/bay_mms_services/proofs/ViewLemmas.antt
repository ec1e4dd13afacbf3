-- What a decision sees of a switch, at the rows of the switch.
use Rattle.std.proofs.Common.{◌≡◌, ℕ, ◌<◌, true, List, length, get_or, slice_get, Option, Some, option_map, ap, sym, ◌∙◌}
use Rattle.std.proofs.lemmas.Option.{slice_get-map, slice_get-get_or}
use Rattle.bay_nodes.specs.declared.switch.Switch.{Switch}
use Rattle.bay_tree.specs.Rows.{leaf_named}
use Rattle.bay_tree.specs.declared.row.Row.{Row}
use Rattle.bay_base.specs.declared.position.Dbpos.{Dbpos}
use Rattle.bay_tree.specs.declared.leaf.Leaf.TheVariants as leaf
use Rattle.bay_process.specs.Layout.{layout_of, row_name_in, switch_names_in, switches_of}
use Rattle.bay_nodes.specs.Names.{SwitchNames, opening_names_at, closing_names_at, switch_names}
use Rattle.bay_process.specs.Values.{is_truth, position_leaf}
use Rattle.bay_process.specs.declared.switch.BoundSwitch.{BoundSwitch}
use Rattle.bay_mms_services.specs.Controls.{dbpos_of}

-- the switch at a place
pub there : (switches lent : List BoundSwitch) (k : ℕ) (d : BoundSwitch) → lent ≡ switches
    → k < length switches → slice_get switches k ≡ Some (get_or lent k d)
there switches lent k d is within =
    slice_get-get_or switches k d within
    ∙ ap (λ (s : List BoundSwitch). Some (get_or s k d)) (sym is)

pub seen-position : (switches : List BoundSwitch) (rows : List Row) (k : ℕ) (bound : BoundSwitch)
    (p : Dbpos) → slice_get switches k ≡ Some bound
    → switch_names_in (layout_of rows) bound.rows
    ≡ switch_names (switches_of switches) k bound.switch
    → leaf_named (row_name_in (layout_of rows) bound.rows.position.value) rows ≡ Some (leaf.Dbpos p)
    → p ≡ dbpos_of (position_leaf (switches_of switches) rows k
    (slice_get (switches_of switches) k))
seen-position switches rows k bound p here named stands =
    let switch : slice_get (switches_of switches) k ≡ Some bound.switch =
    slice_get-map (λ (b : BoundSwitch). b.switch) switches k
    ∙ ap (λ o. option_map (λ (b : BoundSwitch). b.switch) o) here in
    let at : leaf_named (switch_names (switches_of switches) k bound.switch).position.value rows
    ≡ Some (leaf.Dbpos p) =
    ap (λ (n : SwitchNames). leaf_named n.position.value rows) (sym named) ∙ stands in
    sym (ap (λ (o : Option Switch). dbpos_of (position_leaf (switches_of switches) rows k o)) switch
    ∙ ap dbpos_of at)

pub seen-opening : (switches : List Switch) (rows : List Row) (k : ℕ) (bound : BoundSwitch)
    → switch_names_in (layout_of rows) bound.rows ≡ switch_names switches k bound.switch
    → is_truth true (leaf_named (row_name_in (layout_of rows) bound.rows.ena_opn.value) rows)
    ≡ is_truth true (leaf_named (opening_names_at k).value rows)
seen-opening switches rows k bound named =
    ap (λ (n : SwitchNames). is_truth true (leaf_named n.ena_opn.value rows)) named

pub seen-closing : (switches : List Switch) (rows : List Row) (k : ℕ) (bound : BoundSwitch)
    → switch_names_in (layout_of rows) bound.rows ≡ switch_names switches k bound.switch
    → is_truth true (leaf_named (row_name_in (layout_of rows) bound.rows.ena_cls.value) rows)
    ≡ is_truth true (leaf_named (closing_names_at k).value rows)
seen-closing switches rows k bound named =
    ap (λ (n : SwitchNames). is_truth true (leaf_named n.ena_cls.value rows)) named
