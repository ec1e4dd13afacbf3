use Rattle.cmd_audit.proofs.LoadedLemmas.{rest-stopped}
use Rattle.cmd_audit.proofs.loaded.write_rest.Goals as goal

pub returns-in-Err : goal.returns-in-Err
returns-in-Err g c =
    rest-stopped c.args.loaded.now c.args.texts.now c.in-Err.ensures c.put.ensures
