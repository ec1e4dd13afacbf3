-- Compiled code does what the text means.
use Rattle.std.specs.Prelude.{◌≡◌, ℕ, List, ◌++◌, length, map, Some}
use Rattle.il_image.specs.Machine.{run_from, initial_state, Halted}
use Rattle.il_image.specs.Values.{type_of}
use Rattle.il_check.specs.Program.{Checked}
use Rattle.il_compile.specs.Meaning.{Memory, mean}

-- Each external, variable and timer of the program has a value of its type.
pub record HasTypes (c : Checked) (m : Memory) : Type 0 where
  pub externals : map type_of m.externals ≡ map (λ e. e.kind) c.externals
  pub variables : map type_of m.variables ≡ map (λ v. type_of v.initial) c.variables
  pub timers : map (λ t. t.kind) m.timers ≡ map (λ t. t.kind) c.timers

-- The program has a meaning, and leaves values of its types.
pub record HasMeaning (c : Checked) (now : ℕ) (m : Memory) : Type 0 where
  pub after : Memory
  pub is : mean now c.items m ≡ Some after
  pub typed : HasTypes c after

-- The code halts with what the program means, in at most as many steps as it has octets.
pub record ImplementsAt (c : Checked) (code : List ℕ) (now : ℕ) (m : Memory) : Type 0 where
  pub means : HasMeaning c now m
  pub steps : ℕ
  pub halts : run_from code now (length code) (initial_state (m.externals ++ m.variables) m.timers)
      0
      ≡ Halted (means.after.externals ++ means.after.variables) means.after.timers steps

-- The code follows the program at each moment, from all values of the program's types.
abbrev pub ImplementsText : Checked → List ℕ → Type 0
ImplementsText c code = (now : ℕ) (m : Memory) → HasTypes c m → ImplementsAt c code now m
