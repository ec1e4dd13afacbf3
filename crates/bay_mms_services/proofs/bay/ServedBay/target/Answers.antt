use Rattle.std.proofs.Common.{◌<◌, ◌≤◌, ◌^◌, length, ap, sym, ◌∙◌, arith}
use Rattle.std.proofs.lemmas.Bool.Decides.{nat_tests}
use Rattle.bay_tree.specs.Rows.{name_at}
use Rattle.bay_process.specs.Controls.{AreAllControlRows}
use Rattle.bay_mms_services.proofs.TargetLemmas.{HasIndex, beyond-all, part-here, target-there, without-index}
use Rattle.bay_mms_services.proofs.bay.ServedBay.target.Goals as goal

pub returns-in_err-switch-clause-target : goal.returns-in_err-switch-clause-target
returns-in_err-switch-clause-target c =
    let d = c.args.self.now in
    let name = name_at d.tree c.args.row in
    let rows = c.as_slice-rows.result.now in
    let has : HasIndex name c.control_index.result =
    λ k path few is. c.control_index.ensures k path few
    (c.as_bytes.ensures.value ∙ c.name.ensures ∙ is) in
    let few : length rows < 2 ^ 64 = omega (arith, c.as_slice-rows.type_inv) in
    c.from_residual.ensures
    ∙ sym (without-index (length rows) name c.control_index.result has few c.in_err-switch.was)
    ∙ target-there _ _ _ (ap length c.as_slice-rows.ensures ∙ d.sized)

pub returns-in_err-get-clause-target : goal.returns-in_err-get-clause-target
returns-in_err-get-clause-target c =
    let d = c.args.self.now in
    let name = name_at d.tree c.args.row in
    let rows = c.as_slice-rows.result.now in
    let has : HasIndex name c.control_index.result =
    λ k path few is. c.control_index.ensures k path few
    (c.as_bytes.ensures.value ∙ c.name.ensures ∙ is) in
    let few : length rows < 2 ^ 64 = omega (arith, c.as_slice-rows.type_inv) in
    let test = c.in_err-get.ensures.lookup.0 in
    let over : length rows ≤ c.in_ok-switch.switch = grind (arith, nat_tests) in
    c.from_residual-in_err-get.ensures
    ∙ sym (beyond-all (length rows) name c.control_index.result c.in_ok-switch.switch has few
    c.in_ok-switch.was over)
    ∙ target-there _ _ _ (ap length c.as_slice-rows.ensures ∙ d.sized)

pub returns-in_err-part-clause-target : goal.returns-in_err-part-clause-target
returns-in_err-part-clause-target c =
    let d = c.args.self.now in
    let rows = c.as_slice-rows.result.now in
    let has : HasIndex (name_at d.tree c.args.row) c.control_index.result =
    λ k path few is. c.control_index.ensures k path few
    (c.as_bytes.ensures.value ∙ c.name.ensures ∙ is) in
    let few : length rows < 2 ^ 64 = omega (arith, c.as_slice-rows.type_inv) in
    let all : AreAllControlRows d.tree rows = rw c.as_slice-rows.ensures d.controlled in
    let found = c.in_ok-get.ensures.lookup.3 in
    c.from_residual-in_err-part.ensures
    ∙ sym (part-here d.tree rows c.args.row _ _ _ _ all c.requires.first few has
    c.in_ok-switch.was found.0 found.1 (sym c.part_of_row.ensures ∙ c.in_err-part.was))
    ∙ target-there _ _ _ (ap length c.as_slice-rows.ensures ∙ d.sized)

pub returns-clause-target : goal.returns-clause-target
returns-clause-target c =
    let d = c.args.self.now in
    let rows = c.as_slice-rows.result.now in
    let has : HasIndex (name_at d.tree c.args.row) c.control_index.result =
    λ k path few is. c.control_index.ensures k path few
    (c.as_bytes.ensures.value ∙ c.name.ensures ∙ is) in
    let few : length rows < 2 ^ 64 = omega (arith, c.as_slice-rows.type_inv) in
    let all : AreAllControlRows d.tree rows = rw c.as_slice-rows.ensures d.controlled in
    let found = c.in_ok-get.ensures.lookup.3 in
    sym (part-here d.tree rows c.args.row _ _ _ _ all c.requires.first few has
    c.in_ok-switch.was found.0 found.1 (sym c.part_of_row.ensures ∙ c.in_ok-part.was))
    ∙ target-there _ _ _ (ap length c.as_slice-rows.ensures ∙ d.sized)
