-- What is loaded is made of its files: the bay of the file, the names of the program, and its
-- image, which is verified.
use Rattle.std.proofs.Common.{◌≡◌, ◌≢◌, ◌⊎◌, inl, inr, List, ℕ, true, Result, Ok, Err, IfOk, IfErr, ap, refl, subst, sym}
use Rattle.std.specs.Str.{is_utf8}
use Rattle.bay_base.specs.Exact.{ExactOr}
use Rattle.bay_config.specs.Bay.{bay_of}
use Rattle.bay_config.specs.Laws.{IsBay}
use Rattle.bay_config.specs.declared.bay.Bay.{Bay}
use Rattle.bay_config.specs.declared.fault.BayFault.{BayFault}
use Rattle.bay_config.specs.declared.fault.BayFault.TheVariants as bay_fault
use Rattle.il_text.specs.Listing.{PlainProgram}
use Rattle.il_text.specs.Reading.{program_of}
use Rattle.il_text.specs.Texts.{ReadsAs}
use Rattle.il_text.specs.Views.{plain_program}
use Rattle.il_text.specs.declared.fault.TextFault.{TextFault}
use Rattle.il_text.specs.declared.fault.TextFault.TheVariants as text_fault
use Rattle.il_text.specs.declared.program.Program.{Program}
use Rattle.il_text.proofs.UniqueLemmas.{program_is_read}
use Rattle.il_check.specs.Checking.{checked_of}
use Rattle.il_check.specs.Program.{Checked}
use Rattle.il_check.specs.declared.fault.CheckFault.{CheckFault}
use Rattle.il_check.proofs.TypedLemmas.{typed-of}
use Rattle.il_compile.specs.Compiled.{compiled_of}
use Rattle.il_compile.specs.declared.fault.CompileFault.{CompileFault}
use Rattle.il_image.specs.Decoding.{decoded_image}
use Rattle.il_image.specs.Images.{Image as Code}
use Rattle.il_image.specs.declared.fault.ImageFault.{ImageFault}
use Rattle.il_verify.specs.Refusals.{IsRefusal}
use Rattle.il_verify.specs.Verdicts.{IsVerified}
use Rattle.il_verify.specs.declared.fault.VerifyFault.{VerifyFault}
use Rattle.bay_load.specs.Errors.{bay_error, verify_error}
use Rattle.bay_load.specs.Loads.{IsCompiled, IsLoad, IsDescribed, LoadData, LoadsImageFiles, LoadsDecoded, LoadsTo, MayLoadTo, declarations_of, parsed_bay, load_of_bay, load_of_checked, load_of_compiled, load_of_program, parsed_program}
use Rattle.bay_load.specs.Names.{NamesData, names_of, no_names}
use Rattle.bay_load.specs.declared.error.LoadError.{LoadError}
use Rattle.bay_load.specs.declared.error.LoadError.TheVariants.{Bay as BayError, Text, Check, Compile, Image as ImageError, Verify, OutOfMemory}
use Rattle.bay_load.specs.declared.load.Form.{Form}
use Rattle.bay_load.specs.declared.load.Form.TheVariants.{Logic, Image}
use Rattle.bay_load.proofs.Fits.{verified}

-- an error is out of memory, or another
pub memory-or : {P : Type 0} (e : LoadError) → (e ≢ OutOfMemory → P) → P ⊎ (e ≡ OutOfMemory)
memory-or OutOfMemory h = inr refl
memory-or (BayError fault) h = inl (h (λ f. cc))
memory-or (Text fault) h = inl (h (λ f. cc))
memory-or (Check fault) h = inl (h (λ f. cc))
memory-or (Compile fault) h = inl (h (λ f. cc))
memory-or (ImageError fault) h = inl (h (λ f. cc))
memory-or (Verify fault) h = inl (h (λ f. cc))

-- an error that can't be another is out of memory
pub only-memory : (e : LoadError) → (e ≢ OutOfMemory → ⊥) → e ≡ OutOfMemory
only-memory e h = elim (memory-or e h) [ inl never ↦ absurd never | inr memory ↦ memory ]

-- ---- the parts of a load

pub is-read : (text : List ℕ) (r : Result Bay BayFault)
    → ExactOr bay_fault.OutOfMemory (λ b. b) r (bay_of text) → IfOk r IsBay → IfOk r IsDescribed
is-read text (Ok b) read sound = record { text = text; file = read; sound = sound }
is-read text (Err e) read sound = tt

pub text-ok : (logic text : List ℕ) (r : Result Program TextFault) → is_utf8 logic ≡ true
    → text ≡ logic → IfOk r (λ p. ReadsAs text (Ok (plain_program p)))
    → IfOk r (λ p. parsed_program logic ≡ Ok (plain_program p))
text-ok logic text (Ok p) utf8 is reads =
    rw utf8 (subst (λ (t : List ℕ). program_of t ≡ Ok (plain_program p)) is
    ((program_is_read text (Ok (plain_program p))).0 reads))
text-ok logic text (Err e) utf8 is reads = tt

pub text-refused : (logic text : List ℕ) (r : Result Program TextFault) → is_utf8 logic ≡ true
    → text ≡ logic → IfErr r (λ e. e ≢ text_fault.OutOfMemory → ReadsAs text (Err e))
    → IfErr r (λ e. e ≢ text_fault.OutOfMemory → parsed_program logic ≡ Err e)
text-refused logic text (Ok p) utf8 is reads = tt
text-refused logic text (Err e) utf8 is reads = λ other.
    rw utf8 (subst (λ (t : List ℕ). program_of t ≡ Err e) is
    ((program_is_read text (Err e)).0 (reads other)))

-- what is compiled is verified
pub compiled-gives : (bay : Bay) (names : NamesData) (held : Result Code CompileFault)
    (image : Code) (r : Result LoadData LoadError) → held ≡ Ok image
    → IsVerified bay.points image
    → IfOk r (λ l. l ≡ record { bay = bay; names = names; image = image })
    → IfErr r (λ e. e ≢ OutOfMemory → IsVerified bay.points image → ⊥)
    → ExactOr OutOfMemory (λ (l : LoadData). l) r (load_of_compiled bay names held)
compiled-gives bay names held image (Ok l) is fits same exact =
    rw is (ap (λ (x : LoadData). let r : Result LoadData LoadError = Ok x in r) (sym same))
compiled-gives bay names held image (Err e) is fits same exact =
    inl (only-memory e (λ m. exact m fits))

pub image-ok : (bay : Bay) (spelled : Result Code ImageFault) (image : Code)
    (r : Result LoadData LoadError) → spelled ≡ Ok image
    → IfOk r (λ l. l ≡ record { bay = bay; names = no_names; image = image })
    → IfOk r (λ l. IsVerified bay.points image) → IfOk r (λ l. LoadsDecoded bay spelled (Ok l))
image-ok bay spelled image (Ok l) is same fits = rw is (fits, same)
image-ok bay spelled image (Err e) is same fits = tt

pub image-refused : (bay : Bay) (spelled : Result Code ImageFault) (image : Code)
    (r : Result LoadData LoadError) → spelled ≡ Ok image
    → IfErr r (λ e. e ≢ OutOfMemory → (fault : VerifyFault) × (place : ℕ)
    × IsRefusal bay.points image fault place × (e ≡ verify_error fault))
    → IfErr r (λ e. e ≢ OutOfMemory → LoadsDecoded bay spelled (Err e))
image-refused bay spelled image (Ok l) is refused = tt
image-refused bay spelled image (Err e) is refused = λ other. rw is (refused other)

-- ---- by the form of the program

pub bay-refused : (bay : List ℕ) (form : Form) (program : List ℕ) (fault : BayFault)
    → (fault ≡ bay_fault.OutOfMemory) ⊎ (parsed_bay bay ≡ Err fault)
    → MayLoadTo bay form program (Err (bay_error fault))
bay-refused bay form program fault (inl memory) =
    inr (ap (λ f. let r : Result LoadData LoadError = Err (bay_error f) in r) memory)
bay-refused bay Logic program fault (inr is) = inl (rw is refl)
bay-refused bay Image program fault (inr is) = inl (rw is refl)

module _ (bay program : List ℕ) (b : Bay) (is : parsed_bay bay ≡ Ok b) where
  pub logic-ok : (r : Result LoadData LoadError)
      → ExactOr OutOfMemory (λ (l : LoadData). l) r (load_of_program b (parsed_program program))
      → IfOk r (λ l. LoadsTo bay Logic program (Ok l))
  logic-ok (Ok l) gives = rw is gives
  logic-ok (Err e) gives = tt

  pub logic-refused : (r : Result LoadData LoadError)
      → ExactOr OutOfMemory (λ (l : LoadData). l) r (load_of_program b (parsed_program program))
      → IfErr r (λ e. MayLoadTo bay Logic program (Err e))
  logic-refused (Ok l) gives = tt
  logic-refused (Err e) (inl memory) =
      inr (ap (λ (x : LoadError). let r : Result LoadData LoadError = Err x in r) memory)
  logic-refused (Err e) (inr held) = inl (rw is held)

  pub decoded-ok : (r : Result LoadData LoadError)
      → IfOk r (λ l. LoadsDecoded b (decoded_image program) (Ok l))
      → IfOk r (λ l. LoadsTo bay Image program (Ok l))
  decoded-ok (Ok l) loads = rw is loads
  decoded-ok (Err e) loads = tt

  pub decoded-refused : (r : Result LoadData LoadError)
      → IfErr r (λ e. e ≢ OutOfMemory → LoadsDecoded b (decoded_image program) (Err e))
      → IfErr r (λ e. MayLoadTo bay Image program (Err e))
  decoded-refused (Ok l) refused = tt
  decoded-refused (Err e) refused =
      elim (memory-or e refused) [
        | inl loads ↦ inl (rw is loads)
        | inr memory ↦ inr (ap (λ (x : LoadError).
            let r : Result LoadData LoadError = Err x in r) memory)
      ]

-- ---- from texts

-- what is made of a parsed bay file and a parsed text
record IsMade (file : Result Bay BayFault) (text : Result PlainProgram TextFault) (l : LoadData)
    : Type 0 where
  pub read : file ≡ Ok l.bay
  pub named : l.names ≡ names_of (declarations_of text)
  pub made : IsCompiled text l.bay l.image
  pub verified : IsVerified l.bay.points l.image

by-image : (b : Bay) (p : PlainProgram) (c : Checked) (image : Result Code CompileFault)
    (l : LoadData) → checked_of b.points p ≡ Ok c → compiled_of c ≡ image
    → load_of_compiled b (names_of p.declarations) image ≡ Ok l → IsMade (Ok b) (Ok p) l
by-image b p c (Ok image) l passes compiles e =
    let is : record { bay = b; names = names_of p.declarations; image = image } ≡ l = cc in
    subst (IsMade (Ok b) (Ok p)) is (record {
      read = refl;
      named = refl;
      made = record {
        program = p;
        reads = refl;
        checked = c;
        passes = passes;
        compiles = compiles;
      };
      verified = verified b.points p c passes (typed-of b.points p c passes) image compiles;
    })
by-image b p c (Err fault) l passes compiles e = absurd cc

by-checked : (b : Bay) (p : PlainProgram) (checked : Result Checked CheckFault) (l : LoadData)
    → checked_of b.points p ≡ checked
    → load_of_checked b (names_of p.declarations) checked ≡ Ok l → IsMade (Ok b) (Ok p) l
by-checked b p (Ok c) l passes e = by-image b p c (compiled_of c) l passes refl e
by-checked b p (Err fault) l passes e = absurd cc

text-made : (file : Result Bay BayFault) (text : Result PlainProgram TextFault) (l : LoadData)
    → load_of_bay file text ≡ Ok l → IsMade file text l
text-made (Ok b) (Ok p) l e = by-checked b p (checked_of b.points p) l refl e
text-made (Ok b) (Err fault) l e = absurd cc
text-made (Err fault) text l e = absurd cc

-- ---- from octets

-- what is made of a parsed bay file and a decoded image
record IsDecoded (file : Result Bay BayFault) (image : Result Code ImageFault) (l : LoadData)
    : Type 0 where
  pub read : file ≡ Ok l.bay
  pub named : l.names ≡ no_names
  pub made : image ≡ Ok l.image
  pub verified : IsVerified l.bay.points l.image

image-made : (file : Result Bay BayFault) (image : Result Code ImageFault) (l : LoadData)
    → LoadsImageFiles file image (Ok l) → IsDecoded file image l
image-made (Ok b) (Ok image) l e =
    let is : record { bay = b; names = no_names; image = image } ≡ l = cc in
    subst (IsDecoded (Ok b) (Ok image)) is
    (record { read = refl; named = refl; made = refl; verified = e.0 })
image-made (Ok b) (Err fault) l e = absurd cc
image-made (Err fault) image l e = absurd cc

pub load-made : (bay : List ℕ) (form : Form) (program : List ℕ) (l : LoadData)
    → LoadsTo bay form program (Ok l) → IsLoad bay form program l
load-made bay Logic program l e =
    let m = text-made (parsed_bay bay) (parsed_program program) l e in
    record { read = m.read; named = m.named; made = m.made; verified = m.verified }
load-made bay Image program l e =
    let m = image-made (parsed_bay bay) (decoded_image program) l e in
    record { read = m.read; named = m.named; made = m.made; verified = m.verified }
