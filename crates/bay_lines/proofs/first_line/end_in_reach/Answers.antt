use Rattle.std.proofs.Common.{◌∙◌, ap, take}
use Rattle.std.proofs.lemmas.List.{take_min}
use Rattle.std.specs.List.{position}
use Rattle.bay_lines.specs.FirstLines.{is_lf}
use Rattle.bay_lines.proofs.FrontLemmas.{first-within}
use Rattle.bay_lines.proofs.first_line.end_in_reach.Goals as goal

pub returns-clause-value : goal.returns-clause-value
returns-clause-value c =
    let xs = c.args.octets.now in
    c.first_end.ensures
    ∙ ap (position is_lf) (ap (λ n. take n xs) c.min.ensures ∙ take_min 257 xs)

pub returns-clause-within : goal.returns-clause-within
returns-clause-within c =
    let xs = c.args.octets.now in
    first-within xs c.first_end.result
    (c.first_end.ensures
    ∙ ap (position is_lf) (ap (λ n. take n xs) c.min.ensures ∙ take_min 257 xs))
