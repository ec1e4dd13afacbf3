-- Lemmas on the count of the log lines of connections.
use Rattle.std.proofs.Common.{◌≡◌, ℕ, zero, suc, List, [], ◌∷◌, take, refl}
use Rattle.bay_server.specs.ConnectionLines.{left_out_line, left_out_log}

pub left-out-some : (now n : ℕ) → (n ≡ 0 → ⊥) → left_out_log now n ≡ left_out_line now n ∷ []
left-out-some now zero isnt = absurd (isnt refl)
left-out-some now (suc n) isnt = refl

pub take-one : (room : ℕ) (line : List ℕ) → (room ≡ 0 → ⊥) → take room (line ∷ []) ≡ line ∷ []
take-one zero line isnt = absurd (isnt refl)
take-one (suc zero) line isnt = refl
take-one (suc (suc n)) line isnt = refl

pub take-none : (room : ℕ) → (let none : List (List ℕ) = [] in take room none) ≡ []
take-none zero = refl
take-none (suc n) = refl
