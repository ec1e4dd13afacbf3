-- On which types an operator works, and the type of its result, as tables (IEC 61131-3:2003, 2.5.1
-- and table 52).
use Rattle.std.specs.Prelude.{Option, Some, None}
use Rattle.bay_base.specs.declared.types.ElementaryType.{ElementaryType}
use Rattle.bay_base.specs.declared.types.ElementaryType.TheVariants.{Bool, Int, Dint, Lint, Time}
use Rattle.il_text.specs.declared.program.Operator.{Operator}
use Rattle.il_text.specs.declared.program.Operator.TheVariants.{And, Or, Xor, Add, Sub, Mul, Div, Mod, Gt, Ge, Eq, Ne, Le, Lt}

-- On a result of the first type, with an operand of the second: the type of the new result; none if
-- the operator does not work on these.

-- AND, OR, XOR (IEC 61131-3, table 26)
abbrev pub logic : ElementaryType → ElementaryType → Option ElementaryType
logic Bool Bool = Some Bool
logic first second = None

-- ADD, SUB, MUL, DIV, MOD (IEC 61131-3, table 24)
abbrev pub arithmetic : ElementaryType → ElementaryType → Option ElementaryType
arithmetic Int Int = Some Int
arithmetic Dint Dint = Some Dint
arithmetic Lint Lint = Some Lint
arithmetic first second = None

-- GT, GE, LE, LT (IEC 61131-3, table 28)
abbrev pub order : ElementaryType → ElementaryType → Option ElementaryType
order Int Int = Some Bool
order Dint Dint = Some Bool
order Lint Lint = Some Bool
order Time Time = Some Bool
order first second = None

-- EQ, NE (IEC 61131-3, table 28)
abbrev pub equality : ElementaryType → ElementaryType → Option ElementaryType
equality Bool Bool = Some Bool
equality Int Int = Some Bool
equality Dint Dint = Some Bool
equality Lint Lint = Some Bool
equality Time Time = Some Bool
equality first second = None

-- the table of each operator (IEC 61131-3, table 52)
abbrev pub result_type : Operator → ElementaryType → ElementaryType → Option ElementaryType
result_type And first second = logic first second
result_type Or first second = logic first second
result_type Xor first second = logic first second
result_type Add first second = arithmetic first second
result_type Sub first second = arithmetic first second
result_type Mul first second = arithmetic first second
result_type Div first second = arithmetic first second
result_type Mod first second = arithmetic first second
result_type Gt first second = order first second
result_type Ge first second = order first second
result_type Eq first second = equality first second
result_type Ne first second = equality first second
result_type Le first second = order first second
result_type Lt first second = order first second
