use Rattle.cmd_audit.proofs.LoadedLemmas.{none-judged}
use Rattle.cmd_audit.proofs.loaded.write_judgements_if.Goals as goal

pub returns-in-None : goal.returns-in-None
returns-in-None g c = rw c.in-None.is (none-judged c.args.loaded.now c.args.writer.now)
