use Rattle.bay_replay_laws.proofs.ReadBackLemmas.{reads-budgets, reads-commands, reads-scans, reads-sends}
use Rattle.bay_replay_laws.proofs.laws.what_is_printed_is_read_back.Goals as goal

pub returns : goal.returns
returns c =
    record {
      budgets = reads-budgets;
      scans = reads-scans;
      commands = reads-commands;
      sends = reads-sends;
    }
