-- The room of queues.
use Rattle.std.specs.Prelude.{ℕ, ◌≤◌, All, List, length}
use Rattle.bay_server_turn.specs.Turns.{ServerData}

-- No queue has more than 262,144 octets.
abbrev pub AreInRoom : ServerData → Type 0
AreInRoom h = All (λ (queue : List ℕ). length queue ≤ 262144) h.queues
