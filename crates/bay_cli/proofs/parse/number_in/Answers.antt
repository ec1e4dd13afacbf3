use Rattle.std.proofs.Common.{sym, ◌∙◌, arith}
use Rattle.bay_cli.proofs.JobLemmas.{parsed-number, unparsed-number}
use Rattle.bay_cli.proofs.parse.number_in.Goals as goal

pub returns-in_err-number : goal.returns-in_err-number
returns-in_err-number c =
    rw (sym c.value_of.ensures, c.in_ok-value_of.was)
    (c.from_residual-in_err-number.ensures ∙ sym
    (unparsed-number 32 c.args.least c.args.greatest c.in_ok-value_of.field-0.now c.parse.result
    c.parse.ensures.value.0 (omega (arith, c.ranges.greatest.fits))
    (sym c.ok.ensures.value ∙ c.in_err-number.was)))

pub returns : goal.returns
returns c =
    rw (sym c.value_of.ensures, c.in_ok-value_of.was)
    (sym (parsed-number 32 c.args.least c.args.greatest c.in_ok-value_of.field-0.now c.parse.result
    c.parse.ensures.value.0 (omega arith) c.in_ok-number.number
    (sym c.ok.ensures.value ∙ c.in_ok-number.was) (omega (arith, c.if-number-least.false))
    (omega (arith, c.if-number-greatest.false))))
