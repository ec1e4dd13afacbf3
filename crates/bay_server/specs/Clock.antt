-- The clock of a server: the system's time at its start, carried on by a clock that does not jump.
use Rattle.std.specs.Prelude.{◌≡◌, ℕ, ◌+◌, ◌-◌, ◌/◌, ◌%◌, ◌^◌, ◌≤◌, nat_le, nat_lt, min, max, Bool, true, false, List, [], ◌∷◌, Option, None, Some, option_map, if◌then◌else◌}
use Rattle.bay_server.specs.declared.clock.Clocks.{Clocks}
use Rattle.bay_server.specs.declared.clock.ClockShift.{ClockShift}
use Rattle.bay_server.specs.declared.clock.ClockSide.{ClockSide}
use Rattle.bay_server.specs.declared.clock.ClockSide.TheVariants.{Near, Ahead, Behind}

-- the last moment, the latest time of the steady clock, the last time of the system's clock, what
-- has passed and was not yet enough to draw the moment by a millisecond, where the system's time
-- was, and the least milliseconds that a turn lasts, if there are some
pub record ClockData : Type 0 where
  pub moment : ℕ
  pub steady : ℕ
  pub system : ℕ
  pub carry : ℕ
  pub side : ClockSide
  pub cycle : Option ℕ

-- the side of a system's time, relative to a moment: at most 1,000 milliseconds away, more than
-- that ahead, or more than that late
abbrev pub side_of : ℕ → ℕ → ClockSide
side_of moment system =
    if nat_lt (moment + 1000) system then Ahead
    else if nat_lt (system + 1000) moment then Behind
    else Near

-- two sides are equal
abbrev pub is_same_side : ClockSide → ClockSide → Bool
is_same_side Near Near = true
is_same_side Ahead Ahead = true
is_same_side Behind Behind = true
is_same_side _ _ = false

-- a change of the side, if there is one, with the distance
abbrev pub shift_of : ClockSide → ℕ → ℕ → Option ClockShift
shift_of was moment system =
    let side : ClockSide = side_of moment system in
    if is_same_side side was then None
    else Some (record { side = side; distance = (system - moment) + (moment - system) })

-- the clock as it starts, for turns that last at least this many milliseconds, if a number is given
abbrev pub initial_clock : Clocks → Option ℕ → ClockData
initial_clock clocks cycle = record {
  moment = clocks.system;
  steady = clocks.steady;
  system = clocks.system;
  carry = 0;
  side = Near;
  cycle = cycle;
}

-- the time that has passed by the steady clock since the last reading; 0 if that clock went back
abbrev pub elapsed_time : Clocks → ClockData → ℕ
elapsed_time clocks c = clocks.steady - c.steady

-- how far the system's clock has gone on beyond the steady one since the last reading: while a
-- machine sleeps the steady clock stops and the system's goes on
abbrev pub jump_of : Clocks → ClockData → ℕ
jump_of clocks c = (clocks.system - c.system) - elapsed_time clocks c

-- by how much the moment may be drawn toward the system's time: a millisecond in each hundred
abbrev pub max_adjustment : Clocks → ClockData → ℕ
max_adjustment clocks c = (c.carry + elapsed_time clocks c) / 100

-- A moment is adjusted toward the system's time, by no more than that, and not beyond it.
abbrev pub adjusted_moment : ℕ → ℕ → ℕ → ℕ
adjusted_moment moment by system =
    if nat_le moment system then min (moment + by) system else max (moment - by) system

-- The moment of a reading: the time that has passed is added to the last moment, and the sum is
-- adjusted toward the system's time, up to the largest number of 64 bits.
abbrev pub moment_read : Clocks → ClockData → ℕ
moment_read clocks c =
    min (adjusted_moment (c.moment + elapsed_time clocks c) (max_adjustment clocks c) clocks.system)
    (2 ^ 64 - 1)

-- the clock after a reading
abbrev pub after_reading : Clocks → ClockData → ClockData
after_reading clocks c = record {
  moment = moment_read clocks c;
  steady = max c.steady clocks.steady;
  system = clocks.system;
  carry = (c.carry + elapsed_time clocks c) % 100;
  side = side_of (moment_read clocks c) clocks.system;
  cycle = c.cycle;
}

-- the time of the steady clock at which a turn may end that began at the last reading, if turns
-- have a least length
abbrev pub turn_end : ClockData → Option ℕ
turn_end c = option_map (λ ms. min (c.steady + ms) (2 ^ 64 - 1)) c.cycle

-- the clock after several readings
abbrev pub after_readings : List Clocks → ClockData → ClockData
after_readings [] c = c
after_readings (clocks ∷ readings) c = after_readings readings (after_reading clocks c)

-- From one clock to a later one the moment did not go back. It advanced as far as the steady clock,
-- give or take a millisecond in each hundred, up to the largest number of 64 bits.
pub record KeepsPace (before after : ClockData) : Type 0 where
  pub passed : ℕ
  pub steady : after.steady ≡ before.steady + passed
  pub forward : before.moment ≤ after.moment
  pub least : min (before.moment + passed) (2 ^ 64 - 1)
      ≤ after.moment + (before.carry + passed) / 100
  pub most : after.moment ≤ before.moment + passed + (before.carry + passed) / 100
