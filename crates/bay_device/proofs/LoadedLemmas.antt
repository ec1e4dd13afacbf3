-- A device as load made it: it is that of its files, runs the program of a text, has nothing
-- selected, and no association of it is open.
use Rattle.std.proofs.Common.{◌≡◌, ◌≢◌, ◌⊎◌, inl, inr, Bool, true, false, cond, ℕ, List, Option, Some, None, Result, Ok, Err, refl, ap, sym, subst, ◌∙◌}
use Rattle.std.specs.Str.{is_utf8}
use Rattle.toml.specs.Data.{Members}
use Rattle.bay_config.specs.Bay.{bay_of, bay_of_document, document_of}
use Rattle.bay_config.specs.Laws.{IsBay}
use Rattle.bay_config.specs.declared.bay.Bay.{Bay}
use Rattle.bay_config.specs.declared.fault.BayFault.{BayFault}
use Rattle.bay_config.specs.declared.fault.BayFault.TheVariants.{BadToml}
use Rattle.bay_config.proofs.LawLemmas.{bay-is-sound}
use Rattle.il_text.specs.Listing.{PlainProgram}
use Rattle.il_text.specs.Reading.{program_of}
use Rattle.il_text.specs.declared.fault.TextFault.{TextFault}
use Rattle.il_check.specs.Checking.{checked_of}
use Rattle.il_check.specs.Program.{Checked}
use Rattle.il_check.specs.declared.fault.CheckFault.{CheckFault}
use Rattle.il_check.proofs.TypedLemmas.{typed-of}
use Rattle.il_compile.specs.Correct.{ImplementsText}
use Rattle.il_compile.proofs.CompiledLemmas.{does-the-text}
use Rattle.il_image.specs.Decoding.{decoded_image}
use Rattle.il_image.specs.Images.{Image as Code}
use Rattle.il_verify.specs.Verdicts.{IsVerified}
use Rattle.bay_load.specs.Errors.{check_error}
use Rattle.bay_load.specs.Loads.{IsCompiled, IsImageOf, LoadData, LoadsImageFiles, MayLoadTo, checked_in, parsed_bay, load_of_bay, parsed_program}
use Rattle.bay_load.specs.declared.error.LoadError.{LoadError}
use Rattle.bay_load.specs.declared.error.LoadError.TheVariants as error
use Rattle.bay_load.specs.declared.load.Form.{Form}
use Rattle.bay_load.specs.declared.load.Form.TheVariants.{Logic, Image}
use Rattle.bay_load.proofs.Fits.{verified}
use Rattle.bay_load.proofs.LoadLemmas.{load-made}
use Rattle.bay_device.specs.Device.{State}
use Rattle.bay_device.specs.Entries.{IsIdle}
use Rattle.bay_device.specs.Load.{IsLoaded, LoadsAs, LoadsDevice, device_from, device_of, initial_device, load_fault_of}
use Rattle.bay_device.specs.Meaning.{Runs}
use Rattle.bay_device.specs.declared.fault.LoadFault.{LoadFault}
use Rattle.bay_device.specs.declared.fault.LoadFault.TheVariants.{OutOfMemory}
use Rattle.bay_device.proofs.LoadLemmas.{image-is}
use Rattle.bay_device.proofs.MeaningLemmas.{runs-first}

-- ---- the bay of a file

document-sound : (o : Option Members) (b : Bay) → bay_of_document o ≡ Ok b → IsBay b
document-sound None b e = absurd cc
document-sound (Some file) b e = bay-is-sound file b e

pub bay-sound : (bay : List ℕ) (b : Bay) → bay_of bay ≡ Ok b → IsBay b
bay-sound bay b e = document-sound (document_of bay) b e

utf8-sound : (u : Bool) (bay : List ℕ) (b : Bay)
    → (let r : Result Bay BayFault = cond u (bay_of bay) (Err BadToml) in r) ≡ Ok b → IsBay b
utf8-sound true bay b e = bay-sound bay b e
utf8-sound false bay b e = absurd cc

pub file-sound : (bay : List ℕ) (b : Bay) → parsed_bay bay ≡ Ok b → IsBay b
file-sound bay b e = utf8-sound (is_utf8 bay) bay b e

-- ---- which device it is

pub device-loaded : (bay : List ℕ) (form : Form) (program : List ℕ) (s : State)
    → LoadsDevice bay form program s → IsLoaded (parsed_bay bay) (IsImageOf form program) s
device-loaded bay form program s is =
    let made = load-made bay form program is.0 is.1 in
    record {
      bay = is.0.bay;
      read = made.read;
      image = is.0.image;
      made = made.made;
      is = is.2;
    }

pub initial-idle : (bay : Bay) (image : Code) → IsIdle (initial_device bay image)
initial-idle bay image = record { unselected = refl; closed = refl }

pub loaded-idle : (file : Result Bay BayFault) (IsImage : Bay → Code → Type 0) (s : State)
    → IsLoaded file IsImage s → IsIdle s
loaded-idle file IsImage s loaded =
    subst IsIdle (sym loaded.is) (initial-idle loaded.bay loaded.image)

-- ---- what it runs

pub text-runs : (file : Result Bay BayFault) (text : Result PlainProgram TextFault) (s : State)
    (loaded : IsLoaded file (IsCompiled text) s) → IsBay loaded.bay
    → Runs loaded.made.checked s
text-runs file text s loaded sound =
    let c : Checked = loaded.made.checked in
    let typed = typed-of loaded.bay.points loaded.made.program c loaded.made.passes in
    let fits : IsVerified loaded.bay.points loaded.image =
    verified loaded.bay.points loaded.made.program c loaded.made.passes typed loaded.image
    loaded.made.compiles in
    let does : ImplementsText c loaded.image.code =
    does-the-text c loaded.image typed loaded.made.compiles in
    let is = image-is c loaded.image loaded.made.compiles in
    subst (Runs c) (sym (loaded.is ∙ ap (initial_device loaded.bay) is))
    (runs-first c loaded.bay sound
    (subst (λ (i : Code). IsVerified loaded.bay.points i) is fits)
    (subst (λ (i : Code). ImplementsText c i.code) is does))

pub loaded-runs : (bay logic : List ℕ) (s : State)
    (loaded : IsLoaded (parsed_bay bay) (IsCompiled (parsed_program logic)) s)
    → Runs loaded.made.checked s
loaded-runs bay logic s loaded =
    text-runs (parsed_bay bay) (parsed_program logic) s loaded
    (file-sound bay loaded.bay loaded.read)

-- ---- from texts

checked-by : (r : Result Checked CheckFault) (c : Checked) → r ≡ Ok c
    → elim r as (λ _. Result Checked LoadError)
    [ Ok x ↦ Ok x | Err fault ↦ Err (check_error fault) ] ≡ Ok c
checked-by (Ok x) c e = cc
checked-by (Err fault) c e = absurd cc

pub text-checked : (file : Result Bay BayFault) (text : Result PlainProgram TextFault) (s : State)
    (loaded : IsLoaded file (IsCompiled text) s)
    → checked_in file text ≡ Ok loaded.made.checked
text-checked file text s loaded =
    rw (loaded.read, loaded.made.reads)
    (checked-by (checked_of loaded.bay.points loaded.made.program) loaded.made.checked
    loaded.made.passes)

module _ (bay logic : List ℕ) (one : is_utf8 bay ≡ true) (two : is_utf8 logic ≡ true) where
  pub text-loaded : (s : State) → IsLoaded (parsed_bay bay) (IsCompiled (parsed_program logic)) s
      → IsLoaded (bay_of bay) (IsCompiled (program_of logic)) s
  text-loaded s loaded = rw (one, two) at loaded

  pub text-device : (s : State) → LoadsDevice bay Logic logic s
      → device_from (load_of_bay (bay_of bay) (program_of logic)) ≡ Ok s
  text-device s is =
      let e : load_of_bay (bay_of bay) (program_of logic) ≡ Ok is.0 = rw (one, two) at is.1 in
      ap device_from e ∙ ap (λ (d : State). let r : Result State LoadFault = Ok d in r) (sym is.2)

  pub text-refused : (e : LoadError) → MayLoadTo bay Logic logic (Err e)
      → (load_fault_of e ≡ OutOfMemory)
      ⊎ (device_from (load_of_bay (bay_of bay) (program_of logic)) ≡ Err (load_fault_of e))
  text-refused e (inl held) =
      let is : load_of_bay (bay_of bay) (program_of logic) ≡ Err e = rw (one, two) at held in
      inr (ap device_from is)
  text-refused e (inr memory) =
      let is : e ≡ error.OutOfMemory = cc in inl (ap load_fault_of is)

module _ (bay image : List ℕ) (one : is_utf8 bay ≡ true) where
  pub image-loaded : (s : State) → IsLoaded (parsed_bay bay) (IsImageOf Image image) s
      → IsLoaded (bay_of bay) (λ _ code. decoded_image image ≡ Ok code) s
  image-loaded s loaded = rw one at loaded

  pub image-device : (s : State) → LoadsDevice bay Image image s
      → LoadsAs (LoadsImageFiles (bay_of bay) (decoded_image image)) (Ok s)
  image-device s is = (is.0, rw one at is.1, is.2)

  pub image-refused : (e : LoadError) → MayLoadTo bay Image image (Err e)
      → load_fault_of e ≢ OutOfMemory
      → LoadsAs (LoadsImageFiles (bay_of bay) (decoded_image image)) (Err (load_fault_of e))
  image-refused e (inl loads) other = (e, rw one at loads, refl)
  image-refused e (inr memory) other =
      let is : e ≡ error.OutOfMemory = cc in absurd (other (ap load_fault_of is))
