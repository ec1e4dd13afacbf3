use Rattle.std.proofs.Common.{◌≡◌, ◌++◌, Option, Ok, ap, refl, sym, ◌∙◌}
use Rattle.bay_control.specs.Decisions.{operate_outcome}
use Rattle.bay_control.specs.declared.request.Ask.{Ask}
use Rattle.bay_mms.specs.ControlViews.{operate_view, result_view}
use Rattle.bay_mms.specs.Controls.{operate_or_error}
use Rattle.bay_mms.specs.Views.{datum_of}
use Rattle.bay_tree.specs.Rows.{name_at}
use Rattle.bay_mms_services.specs.Controls.{accepted_termination, decision_view}
use Rattle.bay_mms_services.specs.Views.{bay_of, write_state_view}
use Rattle.bay_mms_services.specs.Writes.{write_operate, after_operate, operate_commands, later_ending}
use Rattle.bay_mms_services.specs.declared.answer.TerminationReports.{TerminationReports}
use Rattle.bay_mms_services.proofs.ReplyLemmas.{both}
use Rattle.bay_mms_services.proofs.WriteLemmas.{operated}
use Rattle.bay_mms_services.proofs.invocation.Invocation.write_operate.Goals as goal

pub returns : goal.returns
returns c =
    let d = c.args.self.now.bay.now in
    let b = bay_of c.args.self.now in
    let a = c.args.self.now.client in
    let k = c.args.part.switch in
    let item = name_at d.tree c.args.part.row in
    let w = write_state_view d c.args.controls.now c.args.written.now in
    let asking = operate_view c.in-Ok.operate in
    let read : operate_or_error (datum_of c.args.given.now) ≡ Ok asking =
    sym c.operate_of.ensures ∙ ap (result_view operate_view) c.in-Ok.is in
    let view = decision_view a k b in
    let o = operate_outcome a.association k c.control_request_of.result view a.now w.controls in
    let answer = c.operate-answer.result in
    let put = c.in_ok-put_decision.ensures in
    let did = c.accept.ensures in
    both c.accept.result _ _ _ did.commands did.termination
    (λ ordered due. operated a b k item asking asking.control w o _ answer _ _ _ _ _
    (rw c.view.ensures at c.operate-answer.ensures.after)
    (rw c.view.ensures at c.operate-answer.ensures.answer) refl
    (did.response ∙ put.response)
    (ap (λ (v : _). v.items) did.reports ∙ put.reports)
    (ordered ∙ ap (λ (v : _). v.items ++ operate_commands k asking answer) put.commands)
    (ap (λ (v : _). v.items) did.decisions ∙ put.decisions)
    (due ∙ ap (λ (e : Option TerminationReports). later_ending e
    (accepted_termination a k item asking b answer))
    put.termination)
    ∙ ap (λ (x : Ask). after_operate a b k item asking
    (operate_outcome a.association k x view a.now w.controls) w) c.control_request_of.ensures
    ∙ sym (ap (write_operate a b k item w) read))
