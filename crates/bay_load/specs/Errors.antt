-- The errors of a load: the fault of a bay file, of a program or of an image, with its number, its
-- line and its words.
use Rattle.std.specs.Prelude.{ℕ, List, codes, Option, None, Some}
use Rattle.bay_config.specs.Code as bay
use Rattle.bay_config.specs.declared.fault.BayFault.{BayFault}
use Rattle.il_text.specs.Code as text
use Rattle.il_text.specs.declared.fault.TextFault.{TextFault}
use Rattle.il_check.specs.Code as check
use Rattle.il_check.specs.declared.fault.CheckFault.{CheckFault}
use Rattle.il_compile.specs.Faults as compile
use Rattle.il_compile.specs.declared.fault.CompileFault.{CompileFault}
use Rattle.il_image.specs.Codes as image
use Rattle.il_image.specs.declared.fault.ImageFault.{ImageFault}
use Rattle.il_verify.specs.Codes as verify
use Rattle.il_verify.specs.declared.fault.VerifyFault.{VerifyFault}
use Rattle.bay_load.specs.declared.error.LoadError.{LoadError}
use Rattle.bay_load.specs.declared.error.LoadError.TheVariants.{Bay, Text, Check, Compile, Image, Verify, OutOfMemory}

-- an error has a number; out of memory, which has none, is one error whatever ran out of it
abbrev pub unless_memory : Option ℕ → LoadError → LoadError
unless_memory (Some code) error = error
unless_memory None error = OutOfMemory

-- the error of a fault of the bay file
abbrev pub bay_error : BayFault → LoadError
bay_error fault = unless_memory (bay.code_of fault) (Bay fault)

-- the error of a fault of the text
abbrev pub text_error : TextFault → LoadError
text_error fault = unless_memory (text.code_of fault) (Text fault)

-- the error of a fault of the checks
abbrev pub check_error : CheckFault → LoadError
check_error fault = unless_memory (check.code_of fault) (Check fault)

-- the error of a fault of the compiler
abbrev pub compile_error : CompileFault → LoadError
compile_error fault = unless_memory (compile.code_of fault) (Compile fault)

-- the error of a fault of octets that are no image
abbrev pub image_error : ImageFault → LoadError
image_error fault = unless_memory (image.code_of fault) (Image fault)

-- the error of a fault of the verifier
abbrev pub verify_error : VerifyFault → LoadError
verify_error fault = unless_memory (verify.code_of fault) (Verify fault)

-- the number of an error, as documents and tools cite it; out of memory has none
abbrev pub code_of : LoadError → Option ℕ
code_of (Bay fault) = bay.code_of fault
code_of (Text fault) = text.code_of fault
code_of (Check fault) = check.code_of fault
code_of (Compile fault) = compile.code_of fault
code_of (Image fault) = image.code_of fault
code_of (Verify fault) = verify.code_of fault
code_of OutOfMemory = None

-- the line of the program that is at fault, counted from 1; 0 if there is none
abbrev pub line_of : LoadError → ℕ
line_of (Bay fault) = 0
line_of (Text fault) = text.line_of fault
line_of (Check fault) = check.line_of fault
line_of (Compile fault) = 0
line_of (Image fault) = 0
line_of (Verify fault) = 0
line_of OutOfMemory = 0

-- what an error is, in words: those of its fault
abbrev pub words_of : LoadError → List ℕ
words_of (Bay fault) = bay.words_of fault
words_of (Text fault) = text.words_of fault
words_of (Check fault) = check.words_of fault
words_of (Compile fault) = compile.words_of fault
words_of (Image fault) = image.words_of fault
words_of (Verify fault) = verify.words_of fault
words_of OutOfMemory = codes "out of memory"
