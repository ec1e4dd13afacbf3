use Rattle.std.proofs.Common.{rules}
use Rattle.bay_trace.proofs.VerbLemmas.{alone-truth}
use Rattle.bay_trace.proofs.trace.parse_input.Goals as goal

pub returns-in_err-value : goal.returns-in_err-value
returns-in_err-value c =
    let none = alone-truth c.in_ok-tail.field-0.now in
    search (rules, none)
