use Rattle.std.proofs.Common.{◌≡◌, Ok, sym, ◌∙◌}
use Rattle.bay_mms_services.specs.Controls.{object_of}
use Rattle.bay_mms_services.specs.Reads.{selected_text}
use Rattle.bay_mms_services.specs.Views.{bay_of, read_state_view}
use Rattle.bay_control.specs.Decisions.{select_outcome}
use Rattle.bay_tree.specs.Rows.{name_at}
use Rattle.bay_mms_services.proofs.ReadLemmas.{selected, selected-long}
use Rattle.bay_mms_services.proofs.ReplyLemmas.{added, too_long}
use Rattle.bay_mms_services.proofs.invocation.Invocation.read_select.Goals as goal

pub returns-in_ok-object-in-Ok-clause-ok : goal.returns-in_ok-object-in-Ok-clause-ok
returns-in_ok-object-in-Ok-clause-ok c =
    let d = c.args.self.now.bay.now in
    let b = bay_of c.args.self.now in
    let r = read_state_view d c.args.controls.now c.args.decisions.now.items
    c.args.response.now.octets
    in
    let told : c.as_str.result.now
    ≡ selected_text (object_of b (name_at d.tree c.args.row)) (Ok tt) =
    c.as_str.ensures ∙ c.in_ok-object-in-Ok.ensures in
    added c.text.result c.args.response.now.size c.args.response.now.octets c.text.new.self.octets _
    _ c.text.ensures.added
    (λ has. selected c.args.self.now.client b c.args.switch (name_at d.tree c.args.row) r
    (select_outcome c.args.self.now.client.association c.args.switch c.args.self.now.client.now
    r.controls) _
    (Ok tt) _ c.as_str.result.now c.text.new.self.octets
    c.select-answer.ensures.after
    (sym c.in-Ok.is ∙ c.select-answer.ensures.answer)
    (rw c.in-Ok.is at c.in_ok-put_select.ensures) told has)

pub returns-in_ok-object-in-Ok-clause-long : goal.returns-in_ok-object-in-Ok-clause-long
returns-in_ok-object-in-Ok-clause-long c =
    let d = c.args.self.now.bay.now in
    let b = bay_of c.args.self.now in
    let r = read_state_view d c.args.controls.now c.args.decisions.now.items
    c.args.response.now.octets
    in
    let told : c.as_str.result.now
    ≡ selected_text (object_of b (name_at d.tree c.args.row)) (Ok tt) =
    c.as_str.ensures ∙ c.in_ok-object-in-Ok.ensures in
    too_long c.text.result c.args.response.now.size c.args.response.now.octets
    c.text.new.self.octets _ _ c.text.ensures.added
    (λ long. selected-long c.args.self.now.client b c.args.switch (name_at d.tree c.args.row) r
    (select_outcome c.args.self.now.client.association c.args.switch c.args.self.now.client.now
    r.controls)
    (Ok tt) c.as_str.result.now c.args.response.now.size
    (sym c.in-Ok.is ∙ c.select-answer.ensures.answer) told long)
