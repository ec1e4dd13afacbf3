use Rattle.il_check.specs.Program.{Checked}
use Rattle.il_check.specs.ProgramViews.{checked_view}
use Rattle.il_check.proofs.TypedLemmas.{typed-of}
use Rattle.il_compile.specs.Compiled.{compiled_of}
use Rattle.bay_load.proofs.Fits.{verified}
use Rattle.bay_load.proofs.LoadLemmas.{compiled-gives}
use Rattle.bay_load.proofs.load.load_checked.Goals as goal

pub returns : goal.returns
returns c =
    let bay = c.args.bay.value in
    let program : Checked = checked_view c.args.typed in
    compiled-gives bay c.args.names (compiled_of program) c.in_ok-image.image c.load_decoded.result
    c.in_ok-image.ensures.image
    (verified bay.points c.requires.checked.0 program c.requires.checked.1
    (typed-of bay.points c.requires.checked.0 program c.requires.checked.1) c.in_ok-image.image
    c.in_ok-image.ensures.image)
    c.load_decoded.ensures.ok c.load_decoded.ensures.exact
