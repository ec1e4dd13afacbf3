use Rattle.std.proofs.Common.{◌∙◌, refl, get_or}
use Rattle.bay_process.specs.Layout.{switches_of}
use Rattle.bay_mms_services.proofs.ViewLemmas.{there, seen-position, seen-opening, seen-closing}
use Rattle.bay_mms_services.proofs.bay.ServedBay.view.Goals as goal

pub position_at-requires : goal.position_at-requires
position_at-requires c =
    let d = c.args.self.now in
    (d.placed c.args.switch _
    (there d.switches c.as_slice.result.now c.args.switch c.index-as_slice-switch.result
    c.as_slice.ensures c.requires)).leaf_typed.position.value_type

pub is_truth-requires : goal.is_truth-requires
is_truth-requires c =
    let d = c.args.self.now in
    (d.placed c.args.switch _
    (there d.switches c.as_slice.result.now c.args.switch c.index-as_slice-switch.result
    c.as_slice.ensures c.requires)).leaf_typed.ena_opn.value_type

pub is_truth-requires-2 : goal.is_truth-requires-2
is_truth-requires-2 c =
    let d = c.args.self.now in
    (d.placed c.args.switch _
    (there d.switches c.as_slice.result.now c.args.switch c.index-as_slice-switch.result
    c.as_slice.ensures c.requires)).leaf_typed.ena_cls.value_type

pub returns : goal.returns
returns c =
    let d = c.args.self.now in
    let k = c.args.switch in
    let bound = get_or c.as_slice.result.now k c.index-as_slice-switch.result in
    let here =
    there d.switches c.as_slice.result.now k c.index-as_slice-switch.result c.as_slice.ensures
    c.requires in
    let named = (d.placed k bound here).named in
    let p = seen-position d.switches d.tree k bound c.position_at.result here named
    c.position_at.ensures in
    let o = c.is_truth.ensures.value ∙ seen-opening (switches_of d.switches) d.tree k bound named in
    let x = c.is_truth-2.ensures.value
    ∙ seen-closing (switches_of d.switches) d.tree k bound named in
    rw (p, c.is_local.ensures, o, x) refl
