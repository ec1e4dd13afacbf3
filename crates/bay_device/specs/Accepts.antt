-- The texts that load accepts, by what they spell and not by how they are parsed.
use Rattle.std.specs.Prelude.{ℕ, ◌≡◌, List, Result, Ok}
use Rattle.bay_config.specs.Bay.{bay_of}
use Rattle.bay_config.specs.declared.bay.Bay.{Bay}
use Rattle.il_text.specs.Listing.{PlainProgram}
use Rattle.il_text.specs.Texts.{ReadsAs}
use Rattle.il_text.specs.declared.fault.TextFault.{TextFault}
use Rattle.il_check.specs.RightProgram.{IsRightProgram}

-- The first text is a bay file. The second one spells, by the grammar of Instruction List, a
-- program that is right with the points of that bay: all of it is declared and well typed.
pub record IsRight (bay logic : List ℕ) : Type 0 where
  pub read : Bay
  pub file : bay_of bay ≡ Ok read
  pub program : PlainProgram
  pub text : ReadsAs logic (let r : Result PlainProgram TextFault = Ok program in r)
  pub right : IsRightProgram read.points program
