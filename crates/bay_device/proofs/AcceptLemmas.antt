-- What is accepted is right, and what is right is refused only where its image would be too long.
use Rattle.std.proofs.Common.{◌≡◌, ◌≢◌, ℕ, Bool, true, false, cond, nat_le, List, Result, Ok, Err, IfOk, IfErr, ◌⊎◌, inl, inr, refl, ap, sym, ◌∙◌}
use Rattle.bay_base.specs.Exact.{ExactOr}
use Rattle.bay_config.specs.Bay.{bay_of}
use Rattle.bay_config.specs.declared.bay.Bay.{Bay}
use Rattle.bay_config.specs.declared.fault.BayFault.{BayFault}
use Rattle.il_text.specs.Listing.{PlainProgram}
use Rattle.il_text.specs.Reading.{program_of}
use Rattle.il_text.specs.declared.fault.TextFault.{TextFault}
use Rattle.il_check.specs.Checking.{checked_of}
use Rattle.il_check.specs.Program.{Checked}
use Rattle.il_text.proofs.UniqueLemmas.{program_is_read}
use Rattle.il_check.proofs.RightLemmas.{right_programs_pass}
use Rattle.il_check.specs.declared.fault.CheckFault.{CheckFault}
use Rattle.il_image.specs.Images.{Image}
use Rattle.il_compile.specs.Compiled.{compiled_of, image_of, image_size}
use Rattle.il_compile.specs.declared.fault.CompileFault.TheVariants.{CodeTooLong}
use Rattle.bay_load.specs.Errors.{check_error}
use Rattle.bay_load.specs.Loads.{checked_in, load_of_bay, load_of_checked, load_of_compiled, load_of_program}
use Rattle.bay_load.specs.Names.{NamesData, names_of}
use Rattle.bay_load.specs.declared.error.LoadError.{LoadError}
use Rattle.bay_device.specs.Accepts.{IsRight}
use Rattle.bay_device.specs.Device.{State}
use Rattle.bay_device.specs.Load.{device_from}
use Rattle.bay_device.specs.declared.fault.LoadFault.{LoadFault}
use Rattle.bay_device.specs.declared.fault.LoadFault.TheVariants.{OutOfMemory, Refused}
use Rattle.bay_device.specs.Meaning.{Runs}

-- ---- what is accepted

checked-is : (r : Result Checked CheckFault) (c : Checked)
    → elim r as (λ _. Result Checked LoadError)
    [ Ok x ↦ Ok x | Err fault ↦ Err (check_error fault) ] ≡ Ok c → r ≡ Ok c
checked-is (Ok x) c e = let is : x ≡ c =
    cc in ap (λ (y : Checked). let r : Result Checked CheckFault = Ok y in r) is
checked-is (Err fault) c e = absurd (cc)

right-by : (rb : Result Bay BayFault) (rp : Result PlainProgram TextFault) (bay logic : List ℕ)
    (c : Checked) → bay_of bay ≡ rb → program_of logic ≡ rp → checked_in rb rp ≡ Ok c
    → IsRight bay logic
right-by (Ok b) (Ok program) bay logic c file text is = record {
  read = b;
  file = file;
  program = program;
  text = (program_is_read logic (Ok program)).1 text;
  right = (right_programs_pass b.points program).0
      (c, checked-is (checked_of b.points program) c is);
}
right-by (Ok b) (Err fault) bay logic c file text is = absurd (cc)
right-by (Err fault) rp bay logic c file text is = absurd (cc)

pub accepted : (bay logic : List ℕ) (c : Checked)
    → checked_in (bay_of bay) (program_of logic) ≡ Ok c → IsRight bay logic
accepted bay logic c is = right-by (bay_of bay) (program_of logic) bay logic c refl refl is

-- ---- what is refused

compiled-if : (b : Bay) (names : NamesData) (fits : Bool) (image : Image) (e : LoadFault)
    → device_from (load_of_compiled b names (cond fits (Ok image) (Err CodeTooLong))) ≡ Err e
    → e ≡ Refused 85 0
compiled-if b names true image e is = absurd (cc)
compiled-if b names false image e is = cc

pub refused : (bay logic : List ℕ) (e : LoadFault)
    → device_from (load_of_bay (bay_of bay) (program_of logic)) ≡ Err e
    → IsRight bay logic → e ≡ Refused 85 0
refused bay logic e is right =
    let b = right.read in
    let program = right.program in
    let text : program_of logic ≡ Ok program = (program_is_read logic (Ok program)).0 right.text in
    let checked = (right_programs_pass b.points program).1 right.right in
    let names = names_of program.declarations in
    let whole : load_of_bay (bay_of bay) (program_of logic)
    ≡ load_of_compiled b names (compiled_of checked.0)
    = ap (λ (r : Result Bay BayFault). load_of_bay r (program_of logic)) right.file
    ∙ ap (load_of_program b) text ∙ ap (load_of_checked b names) checked.1 in
    compiled-if b names (nat_le (image_size checked.0) 65_535) (image_of checked.0) e
    (sym (ap device_from whole) ∙ is)

-- ---- the answer of load

pub accepted-ok : (bay logic : List ℕ) (r : Result State LoadFault)
    → IfOk r (λ device. (c : Checked) × (checked_in (bay_of bay) (program_of logic) ≡ Ok c)
    × Runs c device) → IfOk r (λ _. IsRight bay logic)
accepted-ok bay logic (Ok device) runs = accepted bay logic runs.0 runs.1
accepted-ok bay logic (Err e) runs = tt

refused-by : (bay logic : List ℕ) (e : LoadFault)
    → (e ≡ OutOfMemory) ⊎ (device_from (load_of_bay (bay_of bay) (program_of logic)) ≡ Err e)
    → e ≢ OutOfMemory
    → IsRight bay logic → e ≡ Refused 85 0
refused-by bay logic e (inl memory) other right = absurd (other memory)
refused-by bay logic e (inr is) other right = refused bay logic e is right

pub refused-err : (bay logic : List ℕ) (r : Result State LoadFault)
    → ExactOr OutOfMemory (λ device. device) r
    (device_from (load_of_bay (bay_of bay) (program_of logic)))
    → IfErr r (λ e. e ≢ OutOfMemory → IsRight bay logic → e ≡ Refused 85 0)
refused-err bay logic (Ok device) gives = tt
refused-err bay logic (Err e) gives = λ other right. refused-by bay logic e gives other right
