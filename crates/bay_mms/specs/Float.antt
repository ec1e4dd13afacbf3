-- A whole number as a float (IEC 61850-8-1, the mapping of FLOAT32; IEEE 754, binary32).
use Rattle.std.specs.Prelude.{ℕ, ℤ, List, ◌∷◌}
use Rattle.std.specs.Int.{bytes_high_first}
use Rattle.std.specs.Float.Ieee.{binary32, of_int, to_bits}

-- ---- ISO 9506-2 FloatingPoint: the octets of a float

-- the width of the exponent, 8 bits, and the four octets of the float that is nearest to a number;
-- if two are as near, of the one whose last bit is 0
abbrev pub float_octets : ℤ → List ℕ
float_octets number = 8 ∷ bytes_high_first 4 (to_bits binary32 (of_int binary32 number))
