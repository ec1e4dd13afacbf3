use Rattle.std.proofs.Common.{◌≡◌, ◌∙◌, max, ap, subst}
use Rattle.bay_device.specs.Device.{State}
use Rattle.bay_server.specs.ChangeLines.{bay_view}
use Rattle.bay_server.specs.Clock.{ClockData, moment_read, shift_of}
use Rattle.bay_server.specs.Serving.{with_host}
use Rattle.bay_server.proofs.ServeLemmas.{failed-cut, reports-seen, tried-cut, turn-fails, turn-goes}
use Rattle.bay_server_turn.specs.Calls.{CountedCall}
use Rattle.bay_server_turn.specs.Turns.{moment_at}
use Rattle.bay_server.proofs.serving.try_turn.Goals as goal

pub returns-in_err-reported-in-Ok : goal.returns-in_err-reported-in-Ok
returns-in_err-reported-in-Ok g c =
    let now : c.max-moment.result
    ≡ moment_at c.read-reading.result.moment c.args.served.now.server =
    c.max-moment.ensures ∙ ap (λ m. max c.read-reading.result.moment m)
    (c.moment.ensures ∙ ap (λ (d : State). d.moment) c.device.ensures) in
    tried-cut (CountedCall g.L.Link.does g.L.Link.failures) g.H.Host.does g.W.Sink.contents
    g.W.Sink.does
    (with_host c.args.served.now c.args.host.now c.args.lines.now) c.args.writer.now
    _ c.log_record.new.writer _ c.from_residual.result
    c.from_residual.ensures.0
    (turn-goes (λ busy. busy.link) g.L.Link.does g.L.Link.failures g.H.Host.does
    g.W.Sink.contents
    g.W.Sink.does
    _ _ _ _ _ _ _ _ _ _ _ _ _ _ _ _ _ _ _ _ _ _ _ _ _ _ _ _ _ _ _ _ _
    c.read-reading.ensures.clock c.read-reading.ensures.moment now c.read-reading.ensures.shift
    c.device-2.ensures c.read-reading.ensures.jump c.next_input-next.ensures.next
    c.next_input-next.ensures.process
    c.next_input-next.ensures.lines
    c.device-in-Ok.ensures c.as_slice-source_line.ensures c.write_record.ensures
    c.clocks.ensures c.log_shift.ensures
    c.in-Ok.ensures.right
    c.in-Ok.ensures.ok
    (ap bay_view c.device-3.ensures)
    (reports-seen {H = Unit {0}} (CountedCall g.L.Link.does g.L.Link.failures) (λ _ _ _. Unit {0})
    g.W.Sink.contents g.W.Sink.does _ _ _ _ _ _ _ _ _ _ _ _ c.view_for_log-before.ensures
    c.in_err-reported-in-Ok.ensures) c.after-served.ensures c.log_record.ensures)

pub returns-in_ok-reported-in-Ok : goal.returns-in_ok-reported-in-Ok
returns-in_ok-reported-in-Ok g c =
    let now : c.max-moment.result
    ≡ moment_at c.read-reading.result.moment c.args.served.now.server =
    c.max-moment.ensures ∙ ap (λ m. max c.read-reading.result.moment m)
    (c.moment.ensures ∙ ap (λ (d : State). d.moment) c.device.ensures) in (
      c.in_ok-reported-in-Ok.field-0,
      rw (
        c.is_idle-was_idle.ensures.link,
        c.is_idle-was_idle.ensures.server,
        c.is_idle-was_idle.ensures.clock,
        c.is_idle-was_idle.ensures.count,
        c.is_idle-was_idle.ensures.process,
      )
          (turn-goes (λ busy. busy.link) g.L.Link.does g.L.Link.failures g.H.Host.does
          g.W.Sink.contents g.W.Sink.does
          _ _ _ _ _ _ _ _ _ _ _ _ _ _ _ _ _ _ _ _ _ _ _ _ _ _ _ _ _ _ _ _ _
          c.read-reading.ensures.clock c.read-reading.ensures.moment now
          c.read-reading.ensures.shift c.device-2.ensures c.read-reading.ensures.jump
          c.next_input-next.ensures.next
          c.next_input-next.ensures.process c.next_input-next.ensures.lines
          c.device-in-Ok.ensures c.as_slice-source_line.ensures c.write_record.ensures
          c.clocks.ensures c.log_shift.ensures c.in-Ok.ensures.right
          c.in-Ok.ensures.ok
          (ap bay_view c.device-3.ensures)
          (reports-seen {H = Unit {0}} (CountedCall g.L.Link.does g.L.Link.failures)
          (λ _ _ _. Unit {0})
          g.W.Sink.contents g.W.Sink.does _ _ _ _ _ _ _ _ _ _ _ _ c.view_for_log-before.ensures
          c.in_ok-reported-in-Ok.ensures) c.after-served.ensures c.log_record.ensures),
    )

pub returns-in_err-status-in-Err : goal.returns-in_err-status-in-Err
returns-in_err-status-in-Err g c =
    let now : c.max-moment.result
    ≡ moment_at c.read-reading.result.moment c.args.served.now.server =
    c.max-moment.ensures ∙ ap (λ m. max c.read-reading.result.moment m)
    (c.moment.ensures ∙ ap (λ (d : State). d.moment) c.device.ensures) in
    let read : c.read-reading.new.self.moment
    ≡ moment_read c.clocks.result c.args.served.now.clock =
    ap (λ (x : ClockData). x.moment) c.read-reading.ensures.clock in
    failed-cut (CountedCall g.L.Link.does g.L.Link.failures) g.H.Host.does g.W.Sink.contents
    g.W.Sink.does (with_host c.args.served.now c.args.host.now c.args.lines.now) c.args.writer.now
    _ c.report_turn_refusal.new.writer _ c.from_residual-in_err-status-in-Err.result
    c.from_residual-in_err-status-in-Err.ensures.0
    (turn-fails (CountedCall g.L.Link.does g.L.Link.failures) g.H.Host.does g.W.Sink.contents
    g.W.Sink.does _ _ _ _ _ _ _ _ _ _ _ _ _ _ _ _ _ _ _ _
    (c.read-reading.ensures.moment ∙ read) now
    (subst (λ m. c.read-reading.result.shift ≡ shift_of c.args.served.now.clock.side m
    c.clocks.result.system) read c.read-reading.ensures.shift) c.device-2.ensures
    c.read-reading.ensures.jump
    c.next_input-next.ensures.next c.clocks.ensures c.log_shift.ensures c.in-Err.ensures.refused
    c.in_err-status-in-Err.ensures)

pub returns-in_ok-status-in-Err : goal.returns-in_ok-status-in-Err
returns-in_ok-status-in-Err g c =
    let now : c.max-moment.result
    ≡ moment_at c.read-reading.result.moment c.args.served.now.server =
    c.max-moment.ensures ∙ ap (λ m. max c.read-reading.result.moment m)
    (c.moment.ensures ∙ ap (λ (d : State). d.moment) c.device.ensures) in
    let read : c.read-reading.new.self.moment
    ≡ moment_read c.clocks.result c.args.served.now.clock =
    ap (λ (x : ClockData). x.moment) c.read-reading.ensures.clock in
    turn-fails (CountedCall g.L.Link.does g.L.Link.failures) g.H.Host.does g.W.Sink.contents
    g.W.Sink.does _ _ _ _ _ _ _ _ _ _ _ _ _ _ _ _ _ _ _ _
    (c.read-reading.ensures.moment ∙ read) now
    (subst (λ m. c.read-reading.result.shift ≡ shift_of c.args.served.now.clock.side m
    c.clocks.result.system) read c.read-reading.ensures.shift) c.device-2.ensures
    c.read-reading.ensures.jump
    c.next_input-next.ensures.next c.clocks.ensures c.log_shift.ensures c.in-Err.ensures.refused
    c.in_ok-status-in-Err.ensures
