use Rattle.std.proofs.Common.{◌≡◌, ap, rules}
use Rattle.bay_server_turn.specs.Turns.{moment_at, turn_state}
use Rattle.bay_server_turn.proofs.PartLemmas.{serves-as, serves-with}
use Rattle.bay_server_turn.proofs.turn.serve_event.Goals as goal

pub returns-clause-ok : goal.returns-clause-ok
returns-clause-ok g c =
    let now : c.max-now.result ≡ moment_at c.args.clock c.args.server.now = search rules in
    serves-as _ _ _ _ _ _ _ _ _ _ _
    (serves-with _ _ _ _ _ _ _ _ _ _ _ _ _ _ _ _ _ _ _ _ _ _ _ _
    (ap (turn_state c.args.server.now) c.new-notes.ensures) c.loss_event.ensures
    c.accept_one-opened.ensures.opens c.apply_event_if_any.ensures.makes
    c.apply_event_if_any.ensures.after
    (rw c.reading_count.ensures.count at c.read_clients.ensures)
    c.apply_event_if_any-2.ensures.makes c.apply_event_if_any-2.ensures.after c.scan.ensures.makes
    c.scan.ensures.after c.offer_each.ensures (search rules) c.into_turn.ensures)
    now (search rules)
