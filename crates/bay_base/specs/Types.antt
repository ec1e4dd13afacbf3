-- The elementary types (IEC 61131-3:2003, table 10).
use Rattle.std.specs.Prelude.{Bool as Truth, true, false}
use Rattle.bay_base.specs.declared.types.ElementaryType.{ElementaryType}
use Rattle.bay_base.specs.declared.types.ElementaryType.TheVariants.{Bool, Int, Dint, Lint, Time}

-- whether two types are the same
abbrev pub same_type : ElementaryType → ElementaryType → Truth
same_type Bool Bool = true
same_type Int Int = true
same_type Dint Dint = true
same_type Lint Lint = true
same_type Time Time = true
same_type first second = false
