use Rattle.bay_server.proofs.turns.report_turn_refusal.Goals as goal

pub returns : goal.returns
returns g c = record {
  mid = c.log_turn_refusal.new.writer;
  logged = c.log_turn_refusal.ensures;
  printed = c.write_turn_refusal.ensures;
}
