use Rattle.bay_server.proofs.turns.report_turn.Goals as goal

pub returns : goal.returns
returns g c = record {
  mid = c.log_turn.new.writer;
  logged = c.log_turn.ensures;
  printed = c.print_turn.ensures;
}
