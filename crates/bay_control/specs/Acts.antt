-- The requests on the controls of a bay as an outside observer sees them: what was done, and
-- whether it was accepted.
use Rattle.std.specs.Prelude.{ℕ, Bool}
use Rattle.bay_control.specs.declared.request.Choice.{Choice}

-- ---- own: acts and entries

-- an association a is opened or closed, or it selects, operates or cancels a switch k
pub data Act : Type 0 where
  Opened : (a : ℕ) → Act
  Closed : (a : ℕ) → Act
  Select : (a k : ℕ) → Act
  SelectWith : (a k : ℕ) (choice : Choice) → Act
  Operate : (a k : ℕ) (choice : Choice) → Act
  Cancel : (a k : ℕ) → Act

-- an act, its time, and whether it was accepted; opening and closing always are
pub record Entry : Type 0 where
  pub now : ℕ
  pub act : Act
  pub is_accepted : Bool
