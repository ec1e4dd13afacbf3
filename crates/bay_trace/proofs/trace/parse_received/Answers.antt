use Rattle.std.proofs.Common.{rules}
use Rattle.bay_trace.proofs.VerbLemmas.{alone-octets}
use Rattle.bay_trace.proofs.trace.parse_received.Goals as goal

pub returns-in_err-digits : goal.returns-in_err-digits
returns-in_err-digits c =
    let none = alone-octets c.in_ok-tail.field-0.now in
    search (rules, none)

pub returns : goal.returns
returns c =
    let one = alone-octets c.in_ok-tail.field-0.now in
    search (rules, one)
