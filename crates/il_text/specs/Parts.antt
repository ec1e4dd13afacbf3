-- The parts of a line, in order (IEC 61131-3:2003, annexes B.1.5.3 and B.2.1).
use Rattle.std.specs.Prelude.{ℕ, Bool, List, Option}
use Rattle.il_text.specs.Listing.{Action}
use Rattle.il_text.specs.declared.program.DeclaredType.{DeclaredType}
use Rattle.il_text.specs.declared.program.Literal.{Literal}
use Rattle.il_text.specs.declared.program.Operator.{Operator}
use Rattle.il_text.specs.declared.program.VariableScope.{VariableScope}

-- ---- IEC 61131-3 B.1.4.3, B.1.5.3, B.2.1: the parts of a line

-- a part of a line
pub data LineContent : Type 0 where
  -- `PROGRAM name`
  program_start : List ℕ → LineContent
  -- `VAR` or `VAR_EXTERNAL`
  block_start : VariableScope → LineContent
  -- `name {"," name} ":" type [":=" literal] ";"`
  names_part : List (List ℕ) → DeclaredType → Option Literal → LineContent
  -- `END_VAR`
  block_end : LineContent
  -- `name ":"`
  label_part : List ℕ → LineContent
  -- an instruction, except an operator with a parenthesis
  action_part : Action → LineContent
  -- an operator, and whether it is negated, with `(`
  parenthesis_start : Operator → Bool → LineContent
  -- `)`
  parenthesis_end : LineContent
  -- `END_PROGRAM`
  program_end : LineContent
