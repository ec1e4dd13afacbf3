-- The number and the words of each fault.
use Rattle.std.specs.Prelude.{ℕ, List, codes, Option, Some, None}
use Rattle.il_compile.specs.declared.fault.CompileFault.{CompileFault}
use Rattle.il_compile.specs.declared.fault.CompileFault.TheVariants.{CodeTooLong, OutOfMemory}

-- the fault's number; out of memory has none
abbrev pub code_of : CompileFault → Option ℕ
code_of CodeTooLong = Some 85
code_of OutOfMemory = None

-- what the fault is, in words
abbrev pub words_of : CompileFault → List ℕ
words_of CodeTooLong = codes "the image of the program would have more than 65,535 octets"
words_of OutOfMemory = codes "out of memory"
