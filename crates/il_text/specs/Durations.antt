-- Inner: durations of the code as those of the definitions.
use Rattle.std.specs.Prelude.{ℕ, ◌^◌, Option, option_map, min}
use Rattle.il_text.specs.Literals.{Duration}
use Rattle.il_text.specs.declared.literal.Duration as code

-- ---- own: views of the code

-- a duration of the code
abbrev pub duration_view : code.Duration → Duration
duration_view d = record { rest = d.rest.now; total = d.total; begun = d.begun }

-- the duration with a total of at most 2 ^ 32 milliseconds, a total that no TIME has
abbrev pub capped_one : Duration → Duration
capped_one d = record { rest = d.rest; total = min d.total (2 ^ 32); begun = d.begun }

-- a duration with a total of at most 2 ^ 32 milliseconds, if there is a duration
abbrev pub capped_duration : Option Duration → Option Duration
capped_duration = option_map capped_one

-- milliseconds, at most 2 ^ 32, if there are any
abbrev pub capped_time : Option ℕ → Option ℕ
capped_time = option_map (λ n. min n (2 ^ 32))
