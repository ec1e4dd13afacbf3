use Rattle.std.proofs.Common.{sym, ◌∙◌}
use Rattle.bay_assoc.proofs.WrapLemmas.{sent-is-heard}
use Rattle.bay_assoc.proofs.assoc.Assoc.data_prefix.Goals as goal

pub returns-clause-heard : goal.returns-clause-heard
returns-clause-heard c short =
    sent-is-heard c.args.self.now c.in-Open.terms c.data_prefix.result.items c.args.pdu.now
    (sym c.self.view_is ∙ c.in-Open.is) c.data_prefix.ensures.low short c.data_prefix.ensures.text
