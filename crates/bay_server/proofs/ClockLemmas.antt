-- Lemmas on the clock of a server.
use Rattle.std.proofs.Common.{◌≡◌, ◌+◌, ◌%◌, ◌^◌, ◌<◌, List, [], ◌∷◌, ap, arith}
use Rattle.std.proofs.lemmas.Bool.Decides.{nat_tests}
use Rattle.bay_server.specs.Clock.{ClockData, KeepsPace, after_reading, elapsed_time, after_readings}
use Rattle.bay_server.specs.declared.clock.Clocks.{Clocks}

pace-none : (c : ClockData) → KeepsPace c c
pace-none c = record {
  passed = 0;
  steady = omega arith;
  forward = omega arith;
  least = omega arith;
  most = omega arith;
}

pace-one : (clocks : Clocks) (c : ClockData) → c.carry < 100 → c.moment < 2 ^ 64
    → KeepsPace c (after_reading clocks c)
pace-one clocks c small fits = record {
  passed = elapsed_time clocks c;
  steady = omega arith;
  forward = grind (arith, nat_tests);
  least = grind (arith, nat_tests);
  most = grind (arith, nat_tests);
}

pace-then : (first second third : ClockData) (one : KeepsPace first second)
    → second.carry ≡ (first.carry + one.passed) % 100 → KeepsPace second third
    → KeepsPace first third
pace-then first second third one carried two = record {
  passed = one.passed + two.passed;
  steady = omega (arith, one.steady, two.steady);
  forward = omega (arith, one.forward, two.forward);
  least = omega (arith, one.least, two.least, carried);
  most = omega (arith, one.most, two.most, carried);
}

pub pace-all : (readings : List Clocks) (c : ClockData) → c.carry < 100 → c.moment < 2 ^ 64
    → KeepsPace c (after_readings readings c)
pace-all [] c small fits = pace-none c
pace-all (clocks ∷ readings) c small fits =
    let one = pace-one clocks c small fits in
    let passed : elapsed_time clocks c ≡ one.passed = omega (arith, one.steady) in
    pace-then c (after_reading clocks c) (after_readings readings (after_reading clocks c)) one
    (ap (λ n. (c.carry + n) % 100) passed)
    (pace-all readings (after_reading clocks c) (omega arith) (omega arith))
