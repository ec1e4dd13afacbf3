-- Numbers and times in a line.
use Rattle.std.specs.Prelude.{ℕ, ℤ, ◌==◌, ◌&&◌, ◌+◌, ◌*◌, ◌^◌, nat_lt, List, [], ◌∷◌, codes, Option, None, Some, option_map, if◌then◌else◌}
use Rattle.bay_base.specs.Decimals.{digits_in, negative_of, positive_of}
use Rattle.bay_base.specs.Names.{same_name}
use Rattle.bay_base.specs.Options.{◌>>=◌}
use Rattle.bay_audit_rules.specs.Pieces.{pieces}
use Rattle.bay_audit_rules.specs.declared.pieces.Cut.TheVariants.{Time}

-- a number, with an optional `-` before it; it may be out of range
abbrev pub number_in : List ℕ → Option (Option ℤ)
number_in [] = None
number_in (b ∷ bs) =
    if b == 45 then option_map negative_of (digits_in bs)
    else option_map positive_of (digits_in (b ∷ bs))

-- the length of a unit in milliseconds
abbrev pub unit_of : List ℕ → Option ℕ
unit_of word =
    if same_name word (codes "ms") then Some 1
    else if same_name word (codes "s") then Some 1000
    else if same_name word (codes "m") then Some 60000
    else if same_name word (codes "h") then Some 3600000
    else if same_name word (codes "d") then Some 86400000
    else None

-- the milliseconds of a sequence of numbers, each with a unit
abbrev pub time_of : List (List ℕ) → Option ℕ
time_of [] = Some 0
time_of (n ∷ []) = None
time_of (n ∷ u ∷ parts) =
    digits_in n >>= λ number. unit_of u >>= λ unit. option_map (λ t. number * unit + t) (time_of
    parts)

-- a time that a timer can have: 1 to 2 ^ 31 - 1 milliseconds
abbrev pub timer_time : ℕ → Option ℕ
timer_time t = if nat_lt 0 t && nat_lt t (2 ^ 31) then Some t else None

-- a time in milliseconds; it may be out of range
abbrev pub time_in : List ℕ → Option (Option ℕ)
time_in word = option_map timer_time (time_of (pieces Time word))
