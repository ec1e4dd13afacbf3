use Rattle.std.proofs.Common.{Option, Some, false, refl}
use Rattle.il_text.specs.Literals.{Duration, parts}
use Rattle.il_text.proofs.literal.parse_parts.Goals as goal

pub returns : goal.returns
unfolding parts
returns c =
    let start : Option Duration =
    Some (record { rest = c.args.word.now; total = 0; begun = false }) in
    let days = c.parse_part-days.ensures start refl in
    let hours = c.parse_part-hours.ensures _ days in
    let minutes = c.parse_part-minutes.ensures _ hours in
    let seconds = c.parse_part-seconds.ensures _ minutes in
    c.parse_part.ensures _ seconds
