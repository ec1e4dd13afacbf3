use Rattle.std.proofs.Common.{◌∙◌, List, ℕ, ap}
use Rattle.bay_ber.specs.EncoderBuffers.{buffer_with}
use Rattle.bay_mms.specs.Reports.{variable_text, item_name, operate_text}
use Rattle.bay_mms.proofs.ReportLemmas.{reported, ended-is}
use Rattle.bay_mms.proofs.report.put_termination.Goals as goal

pub returns : goal.returns
returns c =
    reported c.args.writer.now c.open-report.new.self c.open-information.new.self
    c.put_item_list.new.writer c.open-results.new.self _ _ _ _ c.open-report.result
    c.open-information.result c.open-results.result
    (variable_text (item_name c.args.domain.now c.args.item.now))
    (operate_text c.args.operate.now)
    c.open-report.ensures.start (rw c.context_constructed.ensures at c.open-report.ensures.tag)
    c.open-information.ensures.start
    (rw c.context_constructed-2.ensures at c.open-information.ensures.tag) c.put_item_list.ensures
    c.open-results.ensures.start
    (rw c.context_constructed-3.ensures at c.open-results.ensures.tag)
    c.put_operate.ensures c.close.ensures c.close-2.ensures c.close-3.ensures
    ∙ ap (λ (t : List ℕ). buffer_with c.args.writer.now t)
    (ended-is c.args.domain.now c.args.item.now c.args.operate.now)
