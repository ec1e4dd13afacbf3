use Rattle.std.proofs.Common.{◌≡◌, Some, sym, ap, ◌∙◌}
use Rattle.il_text.specs.Literals.{split_at_hash}
use Rattle.il_text.specs.Runs.{capped_signed}
use Rattle.il_text.proofs.LiteralLemmas.{integer_some}
use Rattle.il_text.proofs.literal.parse_integer.Goals as goal

pub returns-in-Some : goal.returns-in-Some
returns-in-Some c =
    let parts : split_at_hash c.args.word.now ≡ Some (c.in-Some.base.now, c.in-Some.digits.now) =
    sym c.in-Some.ensures in
    c.parse_based.ensures ∙ ap capped_signed (sym (integer_some c.args.word.now _ parts))
