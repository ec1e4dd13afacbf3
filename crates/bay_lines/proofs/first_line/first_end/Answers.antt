use Rattle.std.proofs.Common.{rules, tests}
use Rattle.std.proofs.lemmas.Iterator.{YieldsList-from_slice}
use Rattle.std.proofs.lemmas.Iterator.Search.{position_from_yields_List}
use Rattle.bay_lines.specs.FirstLines.{is_lf}
use Rattle.bay_lines.proofs.first_line.first_end.Goals as goal

pub returns : goal.returns
returns c =
    position_from_yields_List is_lf _ _ _ c.position.ensures.ran
    (YieldsList-from_slice c.args.octets.now cc) (λ x b q k. search (rules, tests))
