-- The number and the words of each fault.
use Rattle.std.specs.Prelude.{ℕ, List, codes, Option, Some, None}
use Rattle.il_image.specs.declared.fault.ImageFault.{ImageFault}
use Rattle.il_image.specs.declared.fault.ImageFault.TheVariants.{BadMagic, BadVersion, BadOpcode, Truncated, OutOfMemory}

-- ---- own: numbers and words of faults

-- the fault's number; out of memory has none
abbrev pub code_of : ImageFault → Option ℕ
code_of BadMagic = Some 80
code_of BadVersion = Some 81
code_of BadOpcode = Some 82
code_of Truncated = Some 83
code_of OutOfMemory = None

-- what the fault is, in words
abbrev pub words_of : ImageFault → List ℕ
words_of BadMagic = codes "this is no image"
words_of BadVersion = codes "the version of the image is not known"
words_of BadOpcode = codes "an octet of the image stands for nothing"
words_of Truncated = codes "the image ends too early or too late"
words_of OutOfMemory = codes "out of memory"
