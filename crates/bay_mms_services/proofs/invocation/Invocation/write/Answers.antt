use Rattle.std.proofs.Common.{◌≡◌, map, ap, sym, ◌∙◌}
use Rattle.bay_mms.specs.RequestViews.{object_name_view}
use Rattle.bay_mms.specs.Views.{data_in}
use Rattle.bay_mms_services.specs.Answers.{answer_from_writing}
use Rattle.bay_mms_services.specs.Views.{bay_of, write_state_view}
use Rattle.bay_mms_services.specs.Writes.{initial_write, write_all}
use Rattle.bay_mms_services.proofs.ReplyLemmas.{said_as, write-over}
use Rattle.bay_mms_services.proofs.invocation.Invocation.write.Goals as goal

pub returns-in-None : goal.returns-in-None
returns-in-None c =
    let d = c.args.self.now.bay.now in
    let b = bay_of c.args.self.now in
    let w = write_all c.args.self.now.client b (map object_name_view c.args.names.now)
    (data_in c.args.values.now)
    (initial_write b) in
    let made = write_state_view d c.write_all.new.controls c.write_all.new.written in
    let ok : made ≡ w =
    rw (
      c.requires,
      c.new.ensures,
      c.new-2.ensures.items,
      c.new-3.ensures.items,
      c.new-4.ensures.items,
    ) at
    c.in_ok-write_all.ensures in
    rw c.duplicate.ensures (said_as c.answer_error.result _ b _ c.answer_error.ensures
    (ap (answer_from_writing c.args.self.now.client c.args.self.now.id b) (sym ok)
    ∙ write-over c.args.self.now.client c.args.self.now.id b made c.in_ok-pdu.field-0
    (c.in_ok-pdu.ensures.pdu c.args.self.now.client.size _ c.finish.ensures) c.in-None.is))
