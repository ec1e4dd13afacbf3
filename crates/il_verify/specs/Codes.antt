-- The number and the words of each fault.
use Rattle.std.specs.Prelude.{ℕ, List, codes, Option, Some, None}
use Rattle.il_verify.specs.declared.fault.VerifyFault.{VerifyFault}
use Rattle.il_verify.specs.declared.fault.VerifyFault.TheVariants.{StackEmpty, StackFull, WrongKind, ZeroDivisor, NoSlot, NoTimer, BadTarget, Unreachable, DepthClash, NoHalt, BadBinding, OutOfMemory}

-- the fault's number, 90 to 100 in the order of the faults; out of memory has none
abbrev pub code_of : VerifyFault → Option ℕ
code_of StackEmpty = Some 90
code_of StackFull = Some 91
code_of WrongKind = Some 92
code_of ZeroDivisor = Some 93
code_of NoSlot = Some 94
code_of NoTimer = Some 95
code_of BadTarget = Some 96
code_of Unreachable = Some 97
code_of DepthClash = Some 98
code_of NoHalt = Some 99
code_of BadBinding = Some 100
code_of OutOfMemory = None

-- what the fault is, in words
abbrev pub words_of : VerifyFault → List ℕ
words_of StackEmpty = codes "too few values lie on the stack"
words_of StackFull = codes "too many values lie on the stack"
words_of WrongKind = codes "a value is of a wrong kind"
words_of ZeroDivisor = codes "a divisor may be zero"
words_of NoSlot = codes "there is no such slot"
words_of NoTimer = codes "there is no such timer"
words_of BadTarget = codes "a jump leads to no instruction"
words_of Unreachable = codes "an instruction is not reached"
words_of DepthClash = codes "stacks of two depths meet"
words_of NoHalt = codes "the code does not end at a HALT or a JUMP"
words_of BadBinding = codes "the image does not fit the bay"
words_of OutOfMemory = codes "out of memory"
