use Rattle.std.proofs.Common.{Ok, List, ℕ, length, ap, sym, ◌∙◌, arith}
use Rattle.bay_mms.specs.Responses.{error_text}
use Rattle.bay_mms.specs.declared.response.ErrorClass.TheVariants.{NoSuchObject}
use Rattle.bay_mms_services.proofs.ReplyLemmas.{is-written}
use Rattle.bay_mms_services.proofs.invocation.Invocation.write_unknown.Goals as goal

pub returns : goal.returns
returns c =
    let text = error_text c.args.self.now.id NoSuchObject in
    let same = ap (λ (octets : List ℕ). length octets) c.in_ok-error.ensures.text in
    is-written c.args.self.now.client.size text
    (omega (arith, same, c.in_ok-error.ensures.few, c.requires))
    ∙ ap Ok (sym c.in_ok-error.ensures.text)
