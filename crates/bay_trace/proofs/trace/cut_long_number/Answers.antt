use Rattle.std.proofs.Common.{sym, ◌∙◌, arith}
use Rattle.bay_trace.proofs.WordLemmas.{number-first}
use Rattle.bay_trace.proofs.trace.cut_long_number.Goals as goal

pub returns : goal.returns
returns c =
    let word = c.split_word.result.0.now in
    let first = number-first word c.in_ok-rest.field-0.now c.in_ok-number.number
    (sym c.read_decimal.ensures ∙ c.in_ok-number.was) in
    grind (arith, first, c.split_word.ensures, c.in_ok-rest.was)
