use Rattle.std.proofs.Common.{◌∙◌, ap, sym}
use Rattle.bay_process.specs.Values.{is_float}
use Rattle.bay_process.proofs.FloatLemmas.{float-found, float-missing}
use Rattle.bay_process.proofs.NodeLemmas.{lacking-leaf, refused-so}
use Rattle.bay_process.proofs.meters.float_named.Goals as goal

pub returns-else-is_float : goal.returns-else-is_float
returns-else-is_float c =
    float-missing c.args.tree.now c.args.name.now
    (sym (ap is_float (c.get.ensures.value ∙ c.in-Ok.ensures.value)) ∙ sym c.is_float.ensures
    ∙ c.if-is_float.false)

pub returns-in-Err : goal.returns-in-Err
returns-in-Err c =
    float-missing c.args.tree.now c.args.name.now
    (ap is_float
    (lacking-leaf c.args.tree.now c.args.name.now
    (c.find.ensures.unknown.0
    (c.find.ensures.place ∙ refused-so _ _ _ (rw c.find.ensures.place at c.in-Err.is)))))

pub returns-then-is_float : goal.returns-then-is_float
returns-then-is_float c =
    float-found c.args.tree.now c.args.name.now c.in-Ok.handle c.in-Ok.ensures.found.1
    (sym (ap is_float c.get.ensures.value) ∙ sym c.is_float.ensures ∙ c.if-is_float.true)
