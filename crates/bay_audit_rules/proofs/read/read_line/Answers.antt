use Rattle.std.proofs.Common.{inr, sym}
use Rattle.bay_audit_rules.specs.Meaning.{LineRead}
use Rattle.bay_audit_rules.proofs.TextLemmas.{tells-line}
use Rattle.bay_audit_rules.proofs.read.read_line.Goals as goal

pub returns-in_default : goal.returns-in_default
returns-in_default c =
    inr (LineRead.bad_word (sym (rw c.in_default.is at c.in_ok-tokens.ensures)))

pub returns : goal.returns
returns c =
    tells-line c.args.bay.now c.args.line c.args.text.now c.in-Some.tokens.items
    c.as_slice.result.now c.args.rules.now.items c.read_tokens.new.rules.items c.read_tokens.result
    c.as_slice.ensures.value (rw c.in-Some.is at c.in_ok-tokens.ensures) c.read_tokens.ensures
