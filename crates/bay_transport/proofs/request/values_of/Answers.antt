use Rattle.std.proofs.Common.{ℕ, ◌≡◌, ◌≤◌, ◌+◌, ◌-◌, length, take, drop, get_or, refl, ap, arith}
use Rattle.std.specs.Option.{option_copied}
use Rattle.bay_transport.proofs.RequestLemmas.{keeps-none, one-alone, value-past, keeps-found}
use Rattle.bay_transport.proofs.request.values_of.Goals as goal

pub returns-then-octets-at-lt2-clause-err : goal.returns-then-octets-at-lt2-clause-err
returns-then-octets-at-lt2-clause-err c = (
  refl,
  keeps-none 192 c.args.octets.now (drop c.loop-at.at c.args.octets.now)
      (option_copied c.loop-at.values.size) c.loop-at.invariant.size
      (one-alone c.args.octets.now c.loop-at.at c.loop-at-test.true c.if-octets-at-lt2.true),
)

pub returns-then-octets-at-clause-err : goal.returns-then-octets-at-clause-err
returns-then-octets-at-clause-err c = (
  refl,
  keeps-none 192 c.args.octets.now (drop c.loop-at.at c.args.octets.now)
      (option_copied c.loop-at.values.size) c.loop-at.invariant.size
      (value-past c.args.octets.now c.loop-at.at (get_or c.args.octets.now (c.loop-at.at + 1) 0)
      (omega arith) refl c.if-octets-at.true),
)

pub loop-at-preserved : goal.loop-at-preserved
loop-at-preserved c =
    let octets = c.args.octets.now in
    let count = get_or octets (c.loop-at.at + 1) 0 in
    let fits : count ≤ length octets - c.loop-at.at - 2 = c.if-octets-at.false in
    let within : c.loop-at.at + 2 ≤ length octets = omega arith in
    let same : c.loop-at.at + 2 + count - (c.loop-at.at + 2) ≡ count = omega arith in
    let value : take (c.loop-at.at + 2 + count - (c.loop-at.at + 2))
    (drop (c.loop-at.at + 2) octets) ≡ take count (drop (c.loop-at.at + 2) octets) =
    ap (λ (n : ℕ). take n (drop (c.loop-at.at + 2) octets)) same in
    record {
      within = omega arith;
      size = keeps-found 192 octets c.loop-at.at _ _ _ _ within fits refl value c.found_then.ensures
          c.loop-at.invariant.size;
      called =
          keeps-found 194 octets c.loop-at.at _ _ _ _ within fits refl value
          c.found_then-in-loop-at.ensures c.loop-at.invariant.called;
      calling =
          keeps-found 193 octets c.loop-at.at _ _ _ _ within fits refl value
          c.found_then-in-loop-at-2.ensures c.loop-at.invariant.calling;
    }
