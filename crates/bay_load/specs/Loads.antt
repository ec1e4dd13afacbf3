-- What is loaded from the octets of a bay file and of a program or an image, or the first error.
use Rattle.std.specs.Prelude.{◌≡◌, ◌⊎◌, ℕ, List, [], Result, Ok, Err, if◌then◌else◌}
use Rattle.std.specs.Str.{is_utf8}
use Rattle.bay_config.specs.Bay.{bay_of}
use Rattle.bay_config.specs.Laws.{IsBay}
use Rattle.bay_config.specs.declared.bay.Bay.{Bay}
use Rattle.bay_config.specs.declared.fault.BayFault.{BayFault}
use Rattle.bay_config.specs.declared.fault.BayFault.TheVariants.{BadToml}
use Rattle.il_text.specs.Listing.{DeclaredName, PlainProgram}
use Rattle.il_text.specs.Reading.{program_of}
use Rattle.il_text.specs.declared.fault.TextFault.{TextFault}
use Rattle.il_text.specs.declared.fault.TextFault.TheVariants.{BadToken}
use Rattle.il_check.specs.Checking.{checked_of}
use Rattle.il_check.specs.Program.{Checked}
use Rattle.il_check.specs.declared.fault.CheckFault.{CheckFault}
use Rattle.il_image.specs.Decoding.{decoded_image}
use Rattle.il_image.specs.Images.{Image as Code}
use Rattle.il_image.specs.declared.fault.ImageFault.{ImageFault}
use Rattle.il_compile.specs.Compiled.{compiled_of}
use Rattle.il_compile.specs.declared.fault.CompileFault.{CompileFault}
use Rattle.il_verify.specs.Refusals.{IsRefusal}
use Rattle.il_verify.specs.Verdicts.{IsVerified}
use Rattle.il_verify.specs.declared.fault.VerifyFault.{VerifyFault}
use Rattle.bay_load.specs.Errors.{bay_error, check_error, compile_error, image_error, text_error, verify_error}
use Rattle.bay_load.specs.Names.{NamesData, names_of, no_names}
use Rattle.bay_load.specs.declared.error.LoadError.{LoadError}
use Rattle.bay_load.specs.declared.error.LoadError.TheVariants.{OutOfMemory}
use Rattle.bay_load.specs.declared.load.Form.{Form}
use Rattle.bay_load.specs.declared.load.Form.TheVariants.{Logic, Image}

-- ---- what is loaded

-- a bay, the names of its program, and the program's image
pub record LoadData : Type 0 where
  pub bay : Bay
  pub names : NamesData
  pub image : Code

-- A file describes the bay.
pub record IsDescribed (bay : Bay) : Type 0 where
  pub text : List ℕ
  pub file : bay_of text ≡ Ok bay
  pub sound : IsBay bay

-- A file describes the bay, and the image is verified for its points.
pub record IsSoundLoad (bay : Bay) (image : Code) : Type 0 where
  pub read : IsDescribed bay
  pub verified : IsVerified bay.points image

-- ---- texts

-- what is loaded of a bay and the compiler's result for its program
abbrev pub load_of_compiled : Bay → NamesData → Result Code CompileFault → Result LoadData LoadError
load_of_compiled bay names (Ok image) = Ok (record { bay = bay; names = names; image = image })
load_of_compiled bay names (Err fault) = Err (compile_error fault)

-- what is loaded of a bay and the result of the checks of its program
abbrev pub load_of_checked : Bay → NamesData → Result Checked CheckFault → Result LoadData LoadError
load_of_checked bay names (Ok checked) = load_of_compiled bay names (compiled_of checked)
load_of_checked bay names (Err fault) = Err (check_error fault)

-- what is loaded of a bay and the parsed text of its program
abbrev pub load_of_program : Bay → Result PlainProgram TextFault → Result LoadData LoadError
load_of_program bay (Ok program) =
    load_of_checked bay (names_of program.declarations) (checked_of bay.points program)
load_of_program bay (Err fault) = Err (text_error fault)

-- what is loaded of a bay file and a program: a fault of the bay file comes before one of the
-- program's text, that before one of its checks, and that before the refusal of an image that would
-- be too long
abbrev pub load_of_bay : Result Bay BayFault → Result PlainProgram TextFault
    → Result LoadData LoadError
load_of_bay (Ok bay) program = load_of_program bay program
load_of_bay (Err fault) program = Err (bay_error fault)

-- the checked program of a bay file and a text, if neither is refused before the program is
-- compiled
abbrev pub checked_in : Result Bay BayFault → Result PlainProgram TextFault
    → Result Checked LoadError
checked_in (Ok bay) (Ok program) =
    elim (checked_of bay.points program) [ Ok c ↦ Ok c | Err fault ↦ Err (check_error fault) ]
checked_in (Ok bay) (Err fault) = Err (text_error fault)
checked_in (Err fault) program = Err (bay_error fault)

-- A program's text is compiled to an image: it spells a program, which passes its checks with the
-- points of the bay.
pub record IsCompiled (text : Result PlainProgram TextFault) (bay : Bay) (image : Code)
    : Type 0 where
  pub program : PlainProgram
  pub reads : text ≡ Ok program
  pub checked : Checked
  pub passes : checked_of bay.points program ≡ Ok checked
  pub compiles : compiled_of checked ≡ Ok image

-- ---- images

-- The image is loaded if it is verified for the bay's points; otherwise it is refused with its
-- first fault.
abbrev pub LoadsImage : Bay → Code → Result LoadData LoadError → Type 0
LoadsImage bay image (Ok loaded) =
    IsVerified bay.points image
    × (loaded ≡ record { bay = bay; names = no_names; image = image })
LoadsImage bay image (Err error) =
    (fault : VerifyFault) × (place : ℕ) × IsRefusal bay.points image fault place
    × (error ≡ verify_error fault)

-- The result of loading the octets of an image for a bay: the first fault of the octets, or the
-- result of loading the image that they spell.
abbrev pub LoadsDecoded : Bay → Result Code ImageFault → Result LoadData LoadError → Type 0
LoadsDecoded bay (Ok image) result = LoadsImage bay image result
LoadsDecoded bay (Err fault) result = result ≡ Err (image_error fault)

-- A bay file and the octets of an image are loaded, or refused: a fault of the bay file comes
-- before one of the octets, and that before one of the image.
abbrev pub LoadsImageFiles : Result Bay BayFault → Result Code ImageFault
    → Result LoadData LoadError
    → Type 0
LoadsImageFiles (Ok bay) image result = LoadsDecoded bay image result
LoadsImageFiles (Err fault) image result = result ≡ Err (bay_error fault)

-- ---- octets

-- a program that is not UTF-8 has a bad token in its first line
abbrev pub parsed_program : List ℕ → Result PlainProgram TextFault
parsed_program logic = if is_utf8 logic then program_of logic else Err (BadToken 1)

-- a bay file that is not UTF-8 is no TOML
abbrev pub parsed_bay : List ℕ → Result Bay BayFault
parsed_bay bay = if is_utf8 bay then bay_of bay else Err BadToml

-- what is loaded of the octets of a bay file and of a program, or the first error
abbrev pub load_of : List ℕ → List ℕ → Result LoadData LoadError
load_of bay logic = load_of_bay (parsed_bay bay) (parsed_program logic)

-- this is loaded of the octets of a bay file and of a program or an image, or they are refused with
-- this error
abbrev pub LoadsTo : List ℕ → Form → List ℕ → Result LoadData LoadError → Type 0
LoadsTo bay Logic program loaded = load_of bay program ≡ loaded
LoadsTo bay Image program loaded = LoadsImageFiles (parsed_bay bay) (decoded_image program) loaded

-- This is loaded or refused as `LoadsTo` says, or memory ran out.
abbrev pub MayLoadTo : List ℕ → Form → List ℕ → Result LoadData LoadError → Type 0
MayLoadTo bay form program loaded = LoadsTo bay form program loaded ⊎ (loaded ≡ Err OutOfMemory)

-- the image of the octets of a program or an image, for a bay
abbrev pub IsImageOf : Form → List ℕ → Bay → Code → Type 0
IsImageOf Logic program bay image = IsCompiled (parsed_program program) bay image
IsImageOf Image program bay image = decoded_image program ≡ Ok image

-- the declarations of a program, if the text is one
abbrev pub declarations_of : Result PlainProgram TextFault → List DeclaredName
declarations_of (Ok program) = program.declarations
declarations_of (Err fault) = []

-- the declarations in the octets of a program; an image has none
abbrev pub declared_in : Form → List ℕ → List DeclaredName
declared_in Logic program = declarations_of (parsed_program program)
declared_in Image program = []

-- What is loaded of octets: the bay that the file describes, the names that the program declares,
-- and the program's image, which is verified for the points of the bay.
pub record IsLoad (bay : List ℕ) (form : Form) (program : List ℕ) (loaded : LoadData)
    : Type 0 where
  pub read : parsed_bay bay ≡ Ok loaded.bay
  pub named : loaded.names ≡ names_of (declared_in form program)
  pub made : IsImageOf form program loaded.bay loaded.image
  pub verified : IsVerified loaded.bay.points loaded.image
