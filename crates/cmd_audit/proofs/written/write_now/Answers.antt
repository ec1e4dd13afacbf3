use Rattle.cmd_audit.proofs.WrittenLemmas.{put-flushed}
use Rattle.cmd_audit.proofs.written.write_now.Goals as goal

pub returns-in_err-finish : goal.returns-in_err-finish
returns-in_err-finish g c =
    put-flushed c.args.text.now c.finish.result c.put.ensures c.finish.ensures

pub returns : goal.returns
returns g c = put-flushed c.args.text.now c.finish.result c.put.ensures c.finish.ensures
