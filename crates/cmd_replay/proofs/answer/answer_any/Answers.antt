use Rattle.std.proofs.Common.{refl, ap₂}
use Rattle.cmd_replay.specs.LineAnswers.{Replaying, heard, unread}
use Rattle.cmd_replay.proofs.AnswerLemmas.{Does-same, memory-said}
use Rattle.bay_trace.specs.Resolving.{resolved_event}
use Rattle.bay_trace.specs.TraceView.{named_view}
use Rattle.cmd_replay.proofs.answer.answer_any.Goals as goal

pub returns-in-Err : goal.returns-in-Err
returns-in-Err g c =
    let event = named_view c.args.event in
    let r : Replaying = record { device = c.args.device.now; room = c.args.octets.now.room } in
    let is =
    memory-said c.args.moment event r c.in-Err.ensures in
    record {
      choice = unread;
      text = rw is c.put.ensures;
      last = rw is refl;
      after_is = λ e. absurd cc;
    }

pub returns-in-Ok : goal.returns-in-Ok
returns-in-Ok g c =
    let event = named_view c.args.event in
    let r : Replaying = record { device = c.args.device.now; room = c.args.octets.now.room } in
    let done =
    Does-same g.W.Sink.contents g.W.Sink.does c.args.writer.now c.args.moment
    c.resolve_event-event.result
    (resolved_event r.device event) r.device c.answer_event.new.writer c.answer_event.new.device
    c.resolve_event-event.ensures c.answer_event.ensures in
    let room = c.in-Ok.ensures in
    record {
      choice = heard done.choice;
      text = done.text;
      last = refl;
      after_is = λ e. ap₂ (λ d n. record { device = d; room = n }) done.after_is room.room;
    }
