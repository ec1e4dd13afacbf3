use Rattle.std.proofs.Common.{◌≡◌, Ok, ap, refl, sym, ◌∙◌}
use Rattle.bay_control.specs.Decisions.{select_with_outcome}
use Rattle.bay_mms.specs.ControlViews.{operate_view, result_view}
use Rattle.bay_mms.specs.Controls.{operate_or_error}
use Rattle.bay_mms.specs.Views.{datum_of}
use Rattle.bay_tree.specs.Rows.{name_at}
use Rattle.bay_control.specs.declared.request.Ask.{Ask}
use Rattle.bay_mms_services.specs.Views.{bay_of, write_state_view}
use Rattle.bay_mms_services.specs.Writes.{write_select_with, after_decision}
use Rattle.bay_mms_services.specs.declared.target.ControlPart.TheVariants.{SelectWith}
use Rattle.bay_mms_services.proofs.ReplyLemmas.{all_three}
use Rattle.bay_mms_services.proofs.WriteLemmas.{put-down}
use Rattle.bay_mms_services.proofs.invocation.Invocation.write_select_with.Goals as goal

pub returns : goal.returns
returns c =
    let d = c.args.self.now.bay.now in
    let b = bay_of c.args.self.now in
    let a = c.args.self.now.client in
    let k = c.args.part.switch in
    let item = name_at d.tree c.args.part.row in
    let w = write_state_view d c.args.controls.now c.args.written.now in
    let read : operate_or_error (datum_of c.args.given.now) ≡ Ok (operate_view c.in-Ok.operate) =
    sym c.operate_of.ensures ∙ ap (result_view operate_view) c.in-Ok.is in
    let control = (operate_view c.in-Ok.operate).control in
    let o = select_with_outcome a.association k c.control_request_of.result a.now w.controls in
    all_three c.put_decision.result _ _ _ _ c.put_decision.ensures.response
    c.put_decision.ensures.reports c.put_decision.ensures.decisions
    (λ has told decided. put-down a b k SelectWith item control control w o _ _ _ _ _ _ _
    c.select_with-answer.ensures.after c.select_with-answer.ensures.answer
    refl has told
    (ap (λ (v : _). v.items) c.put_decision.ensures.commands) decided
    c.put_decision.ensures.termination
    ∙ ap (λ (x : Ask). after_decision a b k SelectWith item control
    (select_with_outcome a.association k x a.now w.controls) w) c.control_request_of.ensures
    ∙ sym (ap (write_select_with a b k item w) read))
