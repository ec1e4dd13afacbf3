-- The number and the words of each fault.
use Rattle.std.specs.Prelude.{ℕ, List, codes, Option, Some, None}
use Rattle.bay_config.specs.declared.fault.BayFault.{BayFault}
use Rattle.bay_config.specs.declared.fault.BayFault.TheVariants.{BadToml, MissingKey, UnknownKey, BadValue, DuplicateName, TooMany, OutOfMemory}

-- the number of a fault, as documents and tools cite it; out of memory has none
abbrev pub code_of : BayFault → Option ℕ
code_of BadToml = Some 50
code_of MissingKey = Some 51
code_of UnknownKey = Some 52
code_of BadValue = Some 53
code_of DuplicateName = Some 54
code_of TooMany = Some 55
code_of OutOfMemory = None

-- what the fault is, in words
abbrev pub words_of : BayFault → List ℕ
words_of BadToml = codes "the text is not a TOML document, or is too long"
words_of MissingKey = codes "a section or a key is missing"
words_of UnknownKey = codes "a key is unknown, or the kind of control or of switch excludes it"
words_of BadValue = codes "a value is of a wrong kind or out of its range"
words_of DuplicateName = codes "two points have one name"
words_of TooMany = codes "a section has too many entries"
words_of OutOfMemory = codes "out of memory"
