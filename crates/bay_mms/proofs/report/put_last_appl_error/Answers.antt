use Rattle.std.proofs.Common.{◌∙◌, List, ℕ, ap}
use Rattle.bay_ber.specs.EncoderBuffers.{buffer_with}
use Rattle.bay_mms.specs.Reports.{variable_text, failure_name, failure_data}
use Rattle.bay_mms.proofs.ReportLemmas.{reported, refused-is}
use Rattle.bay_mms.proofs.report.put_last_appl_error.Goals as goal

pub returns : goal.returns
returns c =
    reported c.args.writer.now c.open-report.new.self c.open-information.new.self
    c.put_failure_list.new.writer c.open-results.new.self _ _ _ _ c.open-report.result
    c.open-information.result c.open-results.result
    (variable_text failure_name)
    (failure_data c.args.failure.now)
    c.open-report.ensures.start (rw c.context_constructed.ensures at c.open-report.ensures.tag)
    c.open-information.ensures.start
    (rw c.context_constructed-2.ensures at c.open-information.ensures.tag)
    c.put_failure_list.ensures
    c.open-results.ensures.start
    (rw c.context_constructed-3.ensures at c.open-results.ensures.tag)
    c.put_failure.ensures c.close.ensures c.close-2.ensures c.close-3.ensures
    ∙ ap (λ (t : List ℕ). buffer_with c.args.writer.now t) (refused-is c.args.failure.now)
