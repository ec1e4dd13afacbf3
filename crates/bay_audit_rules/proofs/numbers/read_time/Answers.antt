use Rattle.std.proofs.Common.{Some, option_map, sym, ap, ◌∙◌}
use Rattle.bay_audit_rules.specs.Numbers.{time_of, timer_time}
use Rattle.bay_audit_rules.specs.Pieces.{pieces}
use Rattle.bay_audit_rules.specs.declared.pieces.Cut.TheVariants.{Time}
use Rattle.bay_audit_rules.proofs.NumberLemmas.{map-min, timer-min}
use Rattle.bay_audit_rules.proofs.numbers.read_time.Goals as goal

pub returns-in_err-read_milliseconds : goal.returns-in_err-read_milliseconds
returns-in_err-read_milliseconds c =
    c.from_residual.ensures
    ∙ ap (option_map timer_time) (sym c.in_err-read_milliseconds.was)
    ∙ map-min timer_time timer-min (time_of (pieces Time c.args.word.now))
    c.read_milliseconds.result
    c.read_milliseconds.ensures

pub returns : goal.returns
returns c =
    ap Some c.to_timer_time.ensures
    ∙ ap (option_map timer_time) (sym c.in_ok-read_milliseconds.was)
    ∙ map-min timer_time timer-min (time_of (pieces Time c.args.word.now))
    c.read_milliseconds.result
    c.read_milliseconds.ensures
