use Rattle.std.proofs.Common.{◌-◌, ap, map, sym, take, ◌∙◌}
use Rattle.bay_server.proofs.LogLemmas.{logs-as, logs-then, unlogged}
use Rattle.bay_server.specs.ConnectionLines.{count_at, count_at_closings, count_at_memory, first_ten}
use Rattle.bay_server.specs.LogLines.{closed_line, memory_line, opened_log}
use Rattle.bay_server.specs.declared.connection_lines.LineCount.{LineCount}
use Rattle.bay_server.proofs.log_lines.log_turn.Goals as goal

pub returns-then-not-is_logging : goal.returns-then-not-is_logging
returns-then-not-is_logging g c =
    unlogged g.W.Sink.contents g.W.Sink.does _ _
    (sym c.is_logging.ensures ∙ c.if-not-is_logging.true)

pub returns : goal.returns
returns g c =
    let opened =
    logs-as g.W.Sink.contents g.W.Sink.does _ _ _
    (first_ten (count_at c.args.moment c.args.count)
    (opened_log c.args.moment c.args.turn.now.opened))
    (ap (λ n. take n (opened_log c.args.moment c.args.turn.now.opened))
    (c.room-3.ensures ∙ ap (λ (x : LineCount). 10 - x.lines) c.at.ensures)) c.log_opened.ensures in
    let closings =
    logs-as g.W.Sink.contents g.W.Sink.does _ _ _
    (map (closed_line c.args.moment)
    (first_ten (count_at_closings c.args.moment c.args.turn.now c.args.count)
    c.args.turn.now.closed))
    (ap (map (closed_line c.args.moment))
    (c.take_first-closed.ensures ∙ (ap (take c.room.result) c.as_slice.ensures
    ∙ ap (λ n. take n c.args.turn.now.closed)
    (c.room.ensures ∙ ap (λ (x : LineCount). 10 - x.lines) c.at_closings.ensures))))
    c.log_closings.ensures in
    let memories =
    logs-as g.W.Sink.contents g.W.Sink.does _ _ _
    (map (memory_line c.args.moment)
    (first_ten (count_at_memory c.args.moment c.args.turn.now c.args.count)
    c.args.turn.now.memory))
    (ap (map (memory_line c.args.moment))
    (c.take_first-memory.ensures ∙ (ap (take c.room-2.result) c.as_slice-2.ensures
    ∙ ap (λ n. take n c.args.turn.now.memory)
    (c.room-2.ensures ∙ ap (λ (x : LineCount). 10 - x.lines) c.at_memory.ensures))))
    c.log_memories.ensures in
    logs-then g.W.Sink.contents g.W.Sink.does _ _ _ _ _
    (logs-then g.W.Sink.contents g.W.Sink.does _ _ _ _ _
    (logs-then g.W.Sink.contents g.W.Sink.does _ _ _ _ _
    (logs-then g.W.Sink.contents g.W.Sink.does _ _ _ _ _
    (logs-then g.W.Sink.contents g.W.Sink.does _ _ _ _ _
    (logs-then g.W.Sink.contents g.W.Sink.does _ _ _ _ _
    (logs-then g.W.Sink.contents g.W.Sink.does _ _ _ _ _
    (logs-then g.W.Sink.contents g.W.Sink.does _ _ _ _ _ c.log_left_out.ensures opened)
    c.log_lost.ensures)
    c.log_refused.ensures) c.log_controls.ensures) closings) memories) c.log_ends.ensures)
    c.log_changes.ensures
