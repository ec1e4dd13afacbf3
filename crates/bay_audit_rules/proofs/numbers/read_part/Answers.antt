use Rattle.std.proofs.Common.{sym, ◌∙◌}
use Rattle.bay_audit_rules.specs.Pieces.{pieces}
use Rattle.bay_audit_rules.specs.declared.pieces.Cut.TheVariants.{Time}
use Rattle.bay_audit_rules.proofs.NumberLemmas.{part-cut}
use Rattle.bay_audit_rules.proofs.numbers.read_part.Goals as goal

pub returns-clause-read : goal.returns-clause-read
returns-clause-read c =
    let rest = c.split_piece-2.result.1.now in
    part-cut c.split_piece.result.0.now c.split_piece-2.result.0.now (pieces Time c.args.word.now)
    (pieces Time c.split_piece.result.1.now) (pieces Time rest) c.in_ok-read_digits.field-0
    c.in_ok-unit_milliseconds.field-0 c.cap.result c.split_piece.ensures.cut
    c.split_piece-2.ensures.cut
    (sym c.in_ok-read_digits.was ∙ c.read_digits.ensures)
    (sym c.in_ok-unit_milliseconds.was ∙ c.unit_milliseconds.ensures)
    c.cap.ensures
