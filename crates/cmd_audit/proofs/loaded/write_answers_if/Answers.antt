use Rattle.cmd_audit.proofs.LoadedLemmas.{none-answered}
use Rattle.cmd_audit.proofs.loaded.write_answers_if.Goals as goal

pub returns-in-None : goal.returns-in-None
returns-in-None g c = rw c.in-None.is (none-answered c.args.loaded.now c.args.writer.now)
