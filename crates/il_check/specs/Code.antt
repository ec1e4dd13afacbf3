-- The numbers, the lines and the words of the faults.
use Rattle.std.specs.Prelude.{ℕ, List, codes, Option, Some, None}
use Rattle.il_check.specs.declared.fault.CheckFault.{CheckFault}
use Rattle.il_check.specs.declared.fault.CheckFault.TheVariants.{UnknownName, DuplicateName, TypeMismatch, UnsetResult, BackwardJump, UnknownLabel, Unreachable, ReadOnly, ZeroDivisor, TooMany, OutOfMemory}

-- ---- own: numbers, lines and words of faults

-- the fault's number, 70 to 79; out of memory has none
abbrev pub code_of : CheckFault → Option ℕ
code_of (UnknownName line) = Some 70
code_of (DuplicateName line) = Some 71
code_of (TypeMismatch line) = Some 72
code_of (UnsetResult line) = Some 73
code_of (BackwardJump line) = Some 74
code_of (UnknownLabel line) = Some 75
code_of (Unreachable line) = Some 76
code_of (ReadOnly line) = Some 77
code_of (ZeroDivisor line) = Some 78
code_of (TooMany line) = Some 79
code_of OutOfMemory = None

-- the line of the fault, counted from 1, or 0 for out of memory
abbrev pub line_of : CheckFault → ℕ
line_of (UnknownName line) = line
line_of (DuplicateName line) = line
line_of (TypeMismatch line) = line
line_of (UnsetResult line) = line
line_of (BackwardJump line) = line
line_of (UnknownLabel line) = line
line_of (Unreachable line) = line
line_of (ReadOnly line) = line
line_of (ZeroDivisor line) = line
line_of (TooMany line) = line
line_of OutOfMemory = 0

-- what the fault is, in words
abbrev pub words_of : CheckFault → List ℕ
words_of (UnknownName line) = codes "the name is unknown"
words_of (DuplicateName line) = codes "the name is declared twice"
words_of (TypeMismatch line) = codes "the type is not the one that is needed"
words_of (UnsetResult line) = codes "the result is not set"
words_of (BackwardJump line) = codes "the jump goes backward"
words_of (UnknownLabel line) = codes "the label is unknown"
words_of (Unreachable line) = codes "the instruction can't be reached"
words_of (ReadOnly line) = codes "the variable may only be read"
words_of (ZeroDivisor line) = codes "the divisor is not a literal other than 0"
words_of (TooMany line) = codes "too many names are declared, or parentheses are too deep"
words_of OutOfMemory = codes "out of memory"
