use Rattle.std.proofs.Common.{sym, ◌∙◌, arith}
use Rattle.bay_cli.proofs.JobLemmas.{parsed-number, unparsed-number}
use Rattle.bay_cli.proofs.parse.port_in.Goals as goal

pub returns-in_err-port : goal.returns-in_err-port
returns-in_err-port c =
    rw (sym c.value_of.ensures, c.in_ok-value_of.was)
    (c.from_residual-in_err-port.ensures ∙ sym
    (unparsed-number 16 1 65535 c.in_ok-value_of.field-0.now c.parse.result c.parse.ensures.value.0
    (omega arith) (sym c.ok.ensures.value ∙ c.in_err-port.was)))

pub returns-else-port-eq0 : goal.returns-else-port-eq0
returns-else-port-eq0 c =
    rw (sym c.value_of.ensures, c.in_ok-value_of.was)
    (sym (parsed-number 16 1 65535 c.in_ok-value_of.field-0.now c.parse.result
    c.parse.ensures.value.0 (omega arith) c.in_ok-port.port
    (sym c.ok.ensures.value ∙ c.in_ok-port.was) (omega (arith, c.if-port-eq0.false)) (omega arith)))
