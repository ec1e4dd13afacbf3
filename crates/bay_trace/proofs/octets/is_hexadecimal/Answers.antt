use Rattle.std.proofs.Common.{ap, sym, ◌∙◌, arith, take_all}
use Rattle.std.specs.Char.{is_ascii_hexdigit}
use Rattle.std.specs.List.{list_all}
use Rattle.bay_trace.proofs.DigitLemmas.{octets-even, octets-none}
use Rattle.bay_trace.proofs.octets.is_hexadecimal.Goals as goal

pub returns-then-is_empty : goal.returns-then-is_empty
returns-then-is_empty c = octets-none c.args.word.now (sym c.is_empty.ensures ∙ c.if-is_empty.true)

pub returns : goal.returns
returns c =
    let word = c.args.word.now in
    let all = c.loop-octet.invariant
    ∙ ap (list_all is_ascii_hexdigit)
    (take_all c.loop-octet.octet-index word (omega (arith, c.loop-octet-test.false))) in
    octets-even word c.loop-octet.all (sym c.is_empty.ensures ∙ c.if-is_empty.false) (omega arith)
    all
