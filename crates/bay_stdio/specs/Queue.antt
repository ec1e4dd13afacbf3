-- What a queue has room for.
use Rattle.std.specs.Prelude.{ℕ, ◌+◌, nat_le, Bool, List, length}

-- whether octets fit after those in a queue
abbrev pub fits_queue : List ℕ → List ℕ → Bool
fits_queue queue octets = nat_le (length queue + length octets) 1048576
