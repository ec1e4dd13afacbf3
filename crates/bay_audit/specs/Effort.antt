-- The passes that an audit may make, and how its answers share them.
use Rattle.std.specs.Prelude.{ℕ, zero, suc, ◌≡◌, ◌≤◌, ◌-◌, ◌/◌, nat_lt, if◌then◌else◌}
use Rattle.bay_audit.specs.declared.effort.PassBudget.{PassBudget}

-- a share of some passes, and one more if there are others
abbrev pub rounded_up : ℕ → ℕ → ℕ
rounded_up share passes = if nat_lt share passes then suc share else share

-- the passes of the next answer: those that are left, divided by the answers that are left, and one
-- more
abbrev pub share_among : ℕ → ℕ → ℕ
share_among passes zero = passes
share_among passes (suc others) = rounded_up (passes / suc others) passes

-- the passes that the next answer may make
abbrev pub share_of : PassBudget → ℕ
share_of budget = share_among budget.passes budget.answers

-- what is left for the answers after one that made this number of passes
abbrev pub budget_after : ℕ → PassBudget → PassBudget
budget_after used budget = record {
  passes = budget.passes - used;
  answers = budget.answers - 1;
}

-- An answer made at most its share of passes. All others are left, for one answer less.
pub record IsSpent (old new : PassBudget) : Type 0 where
  pub used : ℕ
  pub within : used ≤ share_of old
  pub rest : new ≡ budget_after used old
