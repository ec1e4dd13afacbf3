use Rattle.std.proofs.Common.{sym, ap, ◌∙◌, ◌+◌, ◌^◌, min, option_map, arith}
use Rattle.bay_audit_rules.specs.Numbers.{time_of}
use Rattle.bay_audit_rules.specs.Pieces.{pieces}
use Rattle.bay_audit_rules.specs.declared.pieces.Cut.TheVariants.{Time}
use Rattle.bay_audit_rules.proofs.NumberLemmas.{part-more, time-init}
use Rattle.bay_audit_rules.proofs.numbers.read_milliseconds.Goals as goal

pub loop-rest-init : goal.loop-rest-init
loop-rest-init c = record {
  few = omega arith;
  read = time-init (time_of (pieces Time c.args.word.now));
}

pub loop-rest-preserved : goal.loop-rest-preserved
loop-rest-preserved c = record {
  few = omega (arith, c.cap-total.ensures);
  read = c.loop-rest.invariant.read
      ∙ part-more c.loop-rest.total c.in_ok-time.time (time_of (pieces Time c.loop-rest.rest.now))
      (time_of (pieces Time c.in_ok-time.behind.now)) c.in_ok-time.ensures.read
      ∙ ap (λ k. option_map (λ t. min (2 ^ 32) (k + t)) (time_of (pieces Time
      c.in_ok-time.behind.now)))
      (sym c.cap-total.ensures);
}
