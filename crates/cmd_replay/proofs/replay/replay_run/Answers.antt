use Rattle.std.proofs.Common.{refl}
use Rattle.bay_report.proofs.ReportLemmas.{Prints-fault}
use Rattle.cmd_replay.proofs.replay.replay_run.Goals as goal

pub returns : goal.returns
returns g c =
    let given = rw (c.new-reader.ensures, c.new-writer.ensures) at c.replay_reader.ensures.given in
    record {
      end = c.replay_reader.new.reader;
      last = c.replay_reader.new.writer;
      replays = given;
      fault = Prints-fault _ _ _ given.prints.printed refl;
    }
