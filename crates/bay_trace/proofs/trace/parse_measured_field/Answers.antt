use Rattle.std.proofs.Common.{rules}
use Rattle.bay_trace.proofs.VerbLemmas.{alone-told}
use Rattle.bay_trace.proofs.trace.parse_measured_field.Goals as goal

pub returns-then-eq : goal.returns-then-eq
returns-then-eq c =
    let one = alone-told c.args.id.now c.in_ok-field.field c.in_ok-rest.rest.now in
    search (rules, one)

pub returns-in_err-value : goal.returns-in_err-value
returns-in_err-value c =
    let none = alone-told c.args.id.now c.in_ok-field.field c.in_ok-rest.rest.now in
    search (rules, none)

pub returns : goal.returns
returns c =
    let one = alone-told c.args.id.now c.in_ok-field.field c.in_ok-rest.rest.now in
    search (rules, one)
