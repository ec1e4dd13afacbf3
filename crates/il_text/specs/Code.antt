-- The numbers, the lines and the words of the faults.
use Rattle.std.specs.Prelude.{ℕ, List, codes, Option, Some, None}
use Rattle.il_text.specs.declared.fault.TextFault.{TextFault}
use Rattle.il_text.specs.declared.fault.TextFault.TheVariants.{BadToken, BadLine, TooDeep, BadLiteral, TooLong, OutOfMemory}

-- ---- own: numbers, lines and words of faults

-- the fault's number; out of memory has none
abbrev pub code_of : TextFault → Option ℕ
code_of (BadToken line) = Some 60
code_of (BadLine line) = Some 61
code_of (TooDeep line) = Some 62
code_of (BadLiteral line) = Some 63
code_of (TooLong line) = Some 64
code_of OutOfMemory = None

-- the line of the fault, or 0 for out of memory
abbrev pub line_of : TextFault → ℕ
line_of (BadToken line) = line
line_of (BadLine line) = line
line_of (TooDeep line) = line
line_of (BadLiteral line) = line
line_of (TooLong line) = line
line_of OutOfMemory = 0

-- what the fault is, in words
abbrev pub words_of : TextFault → List ℕ
words_of (BadToken line) = codes "a token cannot be read"
words_of (BadLine line) = codes "a line cannot be read"
words_of (TooDeep line) = codes "parentheses are too deep"
words_of (BadLiteral line) = codes "a literal is out of range"
words_of (TooLong line) = codes "the program is too long"
words_of OutOfMemory = codes "out of memory"
