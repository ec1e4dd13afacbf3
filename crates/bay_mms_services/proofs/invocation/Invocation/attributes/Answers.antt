use Rattle.std.proofs.Common.{ap, sym, ◌∙◌}
use Rattle.bay_mms_services.specs.Answers.{attributes_answer}
use Rattle.bay_mms_services.specs.Views.{bay_of}
use Rattle.bay_mms_services.proofs.ReplyLemmas.{said_as}
use Rattle.bay_mms_services.proofs.invocation.Invocation.attributes.Goals as goal

pub returns-in-None : goal.returns-in-None
returns-in-None c =
    let b = bay_of c.args.self.now in
    said_as c.answer_error.result _ b _ c.answer_error.ensures
    (ap (attributes_answer c.args.self.now.client c.args.self.now.id b)
    (sym c.row_named.ensures.row ∙ c.in-None.is))
