use Rattle.std.proofs.Common.{lit<, rules, sym, ◌∙◌}
use Rattle.bay_server_turn.proofs.RoomLemmas.{entry-room}
use Rattle.bay_server_turn.proofs.turn_builder.TurnBuilder.start_closing.Goals as goal

pub push-requires : goal.push-requires
push-requires c =
    let n = c.self.inside in
    let room = entry-room n.states c.args.slot n.closed n.memory (search rules) c.requires
    (sym c.is_close_reported.ensures ∙ c.if-not-is_close_reported.true) c.self.invariant in
    (lit< tt, room.0)

pub push-requires-in-Fault : goal.push-requires-in-Fault
push-requires-in-Fault c =
    let n = c.self.inside in
    let room = entry-room n.states c.args.slot n.closed n.memory (search rules) c.requires
    (sym c.is_close_reported.ensures ∙ c.if-not-is_close_reported.true) c.self.invariant in
    (lit< tt, room.0)

pub push-requires-in-Memory : goal.push-requires-in-Memory
push-requires-in-Memory c =
    let n = c.self.inside in
    let room = entry-room n.states c.args.slot n.closed n.memory (search rules) c.requires
    (sym c.is_close_reported.ensures ∙ c.if-not-is_close_reported.true) c.self.invariant in
    (lit< tt, room.1)
