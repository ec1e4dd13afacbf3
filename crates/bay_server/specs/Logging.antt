-- Lines that are logged, one after the other.
use Rattle.std.specs.Prelude.{◌≡◌, ℕ, List, [], ◌∷◌, Option}
use Rattle.bay_io.specs.Calls.{WriteCall}
use Rattle.bay_io.specs.Sent.{Logs}
use Rattle.bay_io.specs.Watched.{WriterState}

-- each of these lines was logged
abbrev pub LogsAll : {W : Type 0} → (W → Option (List ℕ)) → (W → WriteCall → W → Type 0)
    → WriterState W → List (List ℕ) → WriterState W → Type 0
LogsAll contents asks old [] new = new ≡ old
LogsAll {W} contents asks old (line ∷ lines) new =
    (mid : WriterState W) × Logs contents asks old line mid × LogsAll contents asks mid lines new
