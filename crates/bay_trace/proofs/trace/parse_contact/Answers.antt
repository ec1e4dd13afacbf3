use Rattle.std.proofs.Common.{rules}
use Rattle.bay_trace.proofs.VerbLemmas.{alone-position}
use Rattle.bay_trace.proofs.trace.parse_contact.Goals as goal

pub returns-in_err-position : goal.returns-in_err-position
returns-in_err-position c =
    let none = alone-position c.in_ok-tail.field-0.now in
    search (rules, none)
