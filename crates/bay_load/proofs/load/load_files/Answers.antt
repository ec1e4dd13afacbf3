use Rattle.std.proofs.lemmas.Result.{err_from_is_err_and}
use Rattle.bay_load.proofs.LoadLemmas.{bay-refused, decoded-ok, decoded-refused, logic-ok, logic-refused}
use Rattle.bay_load.proofs.load.load_files.Goals as goal

pub returns-in_err-bay-clause-refused : goal.returns-in_err-bay-clause-refused
returns-in_err-bay-clause-refused c =
    let p = err_from_is_err_and c.from_residual.result c.from_residual.ensures.1 in
    rw (p.1, p.2) (bay-refused c.args.bay.now c.args.form c.args.program.now _
    c.in_err-bay.ensures.file)

pub returns-in-Logic-clause-ok : goal.returns-in-Logic-clause-ok
returns-in-Logic-clause-ok c =
    rw c.in-Logic.is (logic-ok c.args.bay.now c.args.program.now c.in_ok-boxed.boxed.value
    (rw c.in_ok-boxed.ensures.ok c.in_ok-bay.ensures.file) c.load_logic.result
    c.load_logic.ensures)

pub returns-in-Logic-clause-refused : goal.returns-in-Logic-clause-refused
returns-in-Logic-clause-refused c =
    rw c.in-Logic.is (logic-refused c.args.bay.now c.args.program.now c.in_ok-boxed.boxed.value
    (rw c.in_ok-boxed.ensures.ok c.in_ok-bay.ensures.file) c.load_logic.result
    c.load_logic.ensures)

pub returns-in-Image-clause-ok : goal.returns-in-Image-clause-ok
returns-in-Image-clause-ok c =
    rw c.in-Image.is (decoded-ok c.args.bay.now c.args.program.now c.in_ok-boxed.boxed.value
    (rw c.in_ok-boxed.ensures.ok c.in_ok-bay.ensures.file) c.load_image.result
    c.load_image.ensures.ok)

pub returns-in-Image-clause-refused : goal.returns-in-Image-clause-refused
returns-in-Image-clause-refused c =
    rw c.in-Image.is (decoded-refused c.args.bay.now c.args.program.now c.in_ok-boxed.boxed.value
    (rw c.in_ok-boxed.ensures.ok c.in_ok-bay.ensures.file) c.load_image.result
    c.load_image.ensures.refused)
