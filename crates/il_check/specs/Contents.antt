-- The content of a checked program of the code.
use Rattle.std.specs.Prelude.{List}
use Rattle.il_check.specs.declared.typed.External.{External}
use Rattle.il_check.specs.declared.typed.Variable.{Variable}
use Rattle.il_check.specs.declared.typed.Timer.{Timer}
use Rattle.il_check.specs.declared.typed.TypedItem.{TypedItem}

-- ---- own: views of the code

-- the externals, variables, timers and items, each in the order of the text
pub record Contents : Type 0 where
  pub externals : List External
  pub variables : List Variable
  pub timers : List Timer
  pub items : List TypedItem
