-- Inner: the budget as the pass over the code counts it.
use Rattle.std.specs.Prelude.{ℕ, Bool, max, cond}

-- the budget after an instruction, raised if the instruction is HALT
abbrev pub raised_budget : Bool → ℕ → ℕ → ℕ
raised_budget halts longest budget = cond halts (max longest budget) budget
