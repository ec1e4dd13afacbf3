use Rattle.std.proofs.Common.{◌≡◌, ◌+◌, ◌-◌, suc, arith}
use Rattle.std.proofs.lemmas.Bool.Decides.{nat_tests}
use Rattle.bay_server.specs.Serving.{with_host}
use Rattle.bay_server.proofs.ServeLemmas.{Reached-done, Reached-end, Reached-ends, Reached-fails, awaits-next}
use Rattle.bay_server_turn.specs.Calls.{CountedCall}
use Rattle.bay_server.proofs.serving.serve_lines.Goals as goal

pub returns-in_err-status : goal.returns-in_err-status
returns-in_err-status g c =
    let more : c.args.turns - c.loop-turn.turn ≡ suc (c.args.turns - (c.loop-turn.turn + 1)) =
    grind (arith, nat_tests) in
    Reached-fails (CountedCall g.L.Link.does g.L.Link.failures) g.H.Host.does g.W.Sink.contents
    g.W.Sink.does _ _ _ _ _ _ _ c.loop-turn.invariant.reached more
    (with_host c.try_turn.new.served c.try_turn.new.host c.try_turn.new.lines)
    c.try_turn.new.writer _ c.from_residual.result c.from_residual.ensures.0
    c.in_err-status.ensures

pub returns-in-Ends : goal.returns-in-Ends
returns-in-Ends g c =
    let more : c.args.turns - c.loop-turn.turn ≡ suc (c.args.turns - (c.loop-turn.turn + 1)) =
    grind (arith, nat_tests) in
    Reached-ends (CountedCall g.L.Link.does g.L.Link.failures) g.H.Host.does g.W.Sink.contents
    g.W.Sink.does _ _ _ _ _ _ _ c.loop-turn.invariant.reached more
    (with_host c.try_turn.new.served c.try_turn.new.host c.try_turn.new.lines)
    c.try_turn.new.writer _ _ c.in-Ends.is c.in_ok-status.ensures

pub loop-turn-preserved : goal.loop-turn-preserved
loop-turn-preserved g c =
    let more : c.args.turns - c.loop-turn.turn ≡ suc (c.args.turns - (c.loop-turn.turn + 1)) =
    grind (arith, nat_tests) in
    record {
      within = grind (arith, nat_tests);
      reached =
          Reached-done (CountedCall g.L.Link.does g.L.Link.failures) g.H.Host.does
          g.W.Sink.contents
          g.W.Sink.does _ _ _ _ _ _ _ c.loop-turn.invariant.reached more
          (with_host c.try_turn.new.served c.try_turn.new.host c.try_turn.new.lines) _
          c.try_turn.new.writer _ _ c.in-Done.is c.in_ok-status.ensures
          (awaits-next (CountedCall g.L.Link.does g.L.Link.failures) g.H.Host.does
          g.W.Sink.contents
          g.W.Sink.does (with_host c.try_turn.new.served c.try_turn.new.host c.try_turn.new.lines)
          _ (rw c.turn_end.ensures at c.await_next.ensures));
    }

pub returns : goal.returns
returns g c =
    rw c.code.ensures
    (Reached-end (CountedCall g.L.Link.does g.L.Link.failures) g.H.Host.does g.W.Sink.contents
    g.W.Sink.does _ _ _ _ (with_host c.loop-turn.served c.loop-turn.host c.loop-turn.lines) _ _
    c.loop-turn.invariant.reached (grind (arith, nat_tests))
    (rw (c.moment.ensures, c.device.ensures) at c.log_all_served.ensures))
