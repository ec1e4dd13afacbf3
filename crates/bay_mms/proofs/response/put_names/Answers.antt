use Rattle.bay_mms.proofs.ResponseLemmas.{names-next, names-end}
use Rattle.bay_mms.proofs.response.put_names.Goals as goal

pub loop-name-preserved : goal.loop-name-preserved
loop-name-preserved c =
    names-next c.loop-name.writer _ _ c.args.names.now c.loop-name.name-index c.name-item.result _
    c.loop-name-test.true c.name-item.is
    (rw (c.universal.ensures, c.as_str.ensures) at c.text.ensures)
    c.loop-name.invariant

pub returns : goal.returns
returns c =
    names-end c.loop-name.writer _ c.args.names.now c.loop-name.name-index c.loop-name-test.false
    c.loop-name.invariant
