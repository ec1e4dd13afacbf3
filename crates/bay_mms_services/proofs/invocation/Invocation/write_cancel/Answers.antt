use Rattle.std.proofs.Common.{◌≡◌, Ok, refl, ap, sym, ◌∙◌}
use Rattle.bay_control.specs.Decisions.{cancel_outcome}
use Rattle.bay_mms.specs.ControlViews.{cancel_view, result_view}
use Rattle.bay_mms.specs.Controls.{cancel_or_error}
use Rattle.bay_mms.specs.Views.{datum_of}
use Rattle.bay_tree.specs.Rows.{name_at}
use Rattle.bay_mms_services.specs.Views.{bay_of, write_state_view}
use Rattle.bay_mms_services.specs.Writes.{write_cancel}
use Rattle.bay_mms_services.specs.declared.target.ControlPart.TheVariants.{Cancel}
use Rattle.bay_mms_services.proofs.ReplyLemmas.{all_three}
use Rattle.bay_mms_services.proofs.WriteLemmas.{put-down}
use Rattle.bay_mms_services.proofs.invocation.Invocation.write_cancel.Goals as goal

pub returns : goal.returns
returns c =
    let d = c.args.self.now.bay.now in
    let b = bay_of c.args.self.now in
    let a = c.args.self.now.client in
    let k = c.args.part.switch in
    let item = name_at d.tree c.args.part.row in
    let w = write_state_view d c.args.controls.now c.args.written.now in
    let read : cancel_or_error (datum_of c.args.given.now) ≡ Ok (cancel_view c.in-Ok.cancel) =
    sym c.cancel_of.ensures ∙ ap (result_view cancel_view) c.in-Ok.is in
    let control = cancel_view c.in-Ok.cancel in
    let o = cancel_outcome a.association k a.now w.controls in
    all_three c.put_decision.result _ _ _ _ c.put_decision.ensures.response
    c.put_decision.ensures.reports c.put_decision.ensures.decisions
    (λ has told decided. put-down a b k Cancel item control control w o _ _ _ _ _ _ _
    c.cancel-answer.ensures.after c.cancel-answer.ensures.answer refl
    has told (ap (λ (v : _). v.items) c.put_decision.ensures.commands) decided
    c.put_decision.ensures.termination
    ∙ sym (ap (write_cancel a b k item w) read))
