-- What the operators do, and the machine's conversions and conditions for those of Instruction
-- List.
use Rattle.il_text.specs.declared.program.Condition.{Condition}
use Rattle.il_text.specs.declared.program.Condition.TheVariants as condition
use Rattle.il_text.specs.declared.program.Conversion.{Conversion}
use Rattle.il_text.specs.declared.program.Conversion.TheVariants as conversion
use Rattle.il_text.specs.declared.program.Operator.{Operator}
use Rattle.il_text.specs.declared.program.Operator.TheVariants as operator
use Rattle.il_image.specs.declared.arithmetic.Comparison.{Comparison}
use Rattle.il_image.specs.declared.arithmetic.Comparison.TheVariants.{Gt, Ge, Eq, Ne, Le, Lt}
use Rattle.il_image.specs.declared.arithmetic.ArithmeticOperation.{ArithmeticOperation}
use Rattle.il_image.specs.declared.arithmetic.ArithmeticOperation.TheVariants.{Add, Sub, Mul, Div, Mod}
use Rattle.il_image.specs.declared.opcode.Connective.{Connective}
use Rattle.il_image.specs.declared.opcode.Connective.TheVariants.{And, Or, Xor}
use Rattle.il_image.specs.declared.opcode.When.{When}
use Rattle.il_image.specs.declared.opcode.When.TheVariants as when
use Rattle.il_image.specs.declared.opcode.Widening.{Widening}
use Rattle.il_image.specs.declared.opcode.Widening.TheVariants as widening

-- An operator connects BOOLs, computes with numbers of one width, or compares values of one type.
pub data OperatorClass : Type 0 where
  connects : Connective → OperatorClass
  computes : ArithmeticOperation → OperatorClass
  compares : Comparison → OperatorClass

-- what an operator does
abbrev pub class_of : Operator → OperatorClass
class_of operator.And = connects And
class_of operator.Or = connects Or
class_of operator.Xor = connects Xor
class_of operator.Add = computes Add
class_of operator.Sub = computes Sub
class_of operator.Mul = computes Mul
class_of operator.Div = computes Div
class_of operator.Mod = computes Mod
class_of operator.Gt = compares Gt
class_of operator.Ge = compares Ge
class_of operator.Eq = compares Eq
class_of operator.Ne = compares Ne
class_of operator.Le = compares Le
class_of operator.Lt = compares Lt

-- the machine's conversion for one of Instruction List
abbrev pub widening_of : Conversion → Widening
widening_of conversion.IntToDint = widening.IntToDint
widening_of conversion.DintToLint = widening.DintToLint

-- when a jump is taken
abbrev pub when_of : Condition → When
when_of condition.Always = when.Always
when_of condition.IfTrue = when.IfTrue
when_of condition.IfFalse = when.IfFalse
