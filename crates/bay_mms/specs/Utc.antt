-- A moment as a utc-time (IEC 61850-8-1, the mapping of TimeStamp).
use Rattle.std.specs.Prelude.{ℕ, ◌*◌, ◌/◌, ◌%◌, ◌^◌, List, [], ◌∷◌, ◌++◌}
use Rattle.std.specs.Int.{bytes_high_first}

-- ---- IEC 61850-8-1 TimeStamp: moments

-- Four octets of seconds since 1970 (counted modulo 2 ^ 32), three of the fraction of a second in
-- units of 2 ^ -24, rounded down, and the quality 2A.
abbrev pub utc_octets : ℕ → List ℕ
utc_octets ms =
    bytes_high_first 4 (ms / 1000 % 2 ^ 32) ++ bytes_high_first 3 (ms % 1000 * 2 ^ 24 / 1000)
    ++ 0x2A ∷ []
