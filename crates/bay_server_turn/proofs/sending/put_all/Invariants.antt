use Rattle.std.proofs.Common.{◌≡◌, ◌≤◌, length, drop}
use Rattle.bay_server_turn.specs.Turns.{put_all, turn_state}
use Rattle.bay_server_turn.proofs.sending.put_all.Given as goal

abbrev pub invariant-loop-sent : goal.invariant-loop-sent
invariant-loop-sent l = record {
  within : l.sent-index ≤ length l.sends;
  so_far : put_all l.sends (turn_state l.initial.server l.initial.notes)
      ≡ put_all (drop l.sent-index l.sends) (turn_state l.server l.notes);
  commands : l.notes.commands ≡ l.initial.notes.commands;
}
