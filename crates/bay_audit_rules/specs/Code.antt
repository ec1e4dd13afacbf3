-- The numbers, the lines and the words of the faults.
use Rattle.std.specs.Prelude.{ℕ, List, codes, Option, Some, None}
use Rattle.bay_audit_rules.specs.declared.fault.RuleFault.{RuleFault}
use Rattle.bay_audit_rules.specs.declared.fault.RuleFault.TheVariants.{BadWord, BadLine, UnknownName, BadValue, TooMany, NoRule, OutOfMemory}

-- the number of a fault; out of memory has none
abbrev pub code_of : RuleFault → Option ℕ
code_of (BadWord line) = Some 140
code_of (BadLine line) = Some 141
code_of (UnknownName line) = Some 142
code_of (BadValue line) = Some 143
code_of (TooMany line) = Some 144
code_of NoRule = Some 145
code_of OutOfMemory = None

-- the line of a fault: 1 for a text without a rule, 0 for out of memory
abbrev pub line_of : RuleFault → ℕ
line_of (BadWord line) = line
line_of (BadLine line) = line
line_of (UnknownName line) = line
line_of (BadValue line) = line
line_of (TooMany line) = line
line_of NoRule = 1
line_of OutOfMemory = 0

-- what the fault is, in words
abbrev pub words_of : RuleFault → List ℕ
words_of (BadWord line) = codes "a word or a sign that no rule has"
words_of (BadLine line) = codes "a line is no rule"
words_of (UnknownName line) = codes "a name is unknown"
words_of (BadValue line) = codes "a position, a value or a time that what is named can't have"
words_of (TooMany line) = codes "too many rules, or too many parentheses within each other"
words_of NoRule = codes "a text without a rule"
words_of OutOfMemory = codes "out of memory"
