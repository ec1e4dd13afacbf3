use Rattle.std.proofs.Common.{refl}
use Rattle.std.proofs.lemmas.Result.{err_from_is_err_and}
use Rattle.bay_connection.specs.Feeding.{indication_of}
use Rattle.bay_device.specs.ReceivingViews.{step_state}
use Rattle.bay_device.specs.StateView.{state_view}
use Rattle.bay_device.proofs.TurnLemmas.{goes-on, moves-heard, stops-by, stops-heard, stops-memory, used-some}
use Rattle.bay_device.proofs.octets.feed_once.Goals as goal

pub handle_indication-requires : goal.handle_indication-requires
handle_indication-requires c = c.in_ok-fed.ensures.open

pub returns-in_err-fed-clause-err : goal.returns-in_err-fed-clause-err
returns-in_err-fed-clause-err c =
    let p = err_from_is_err_and c.from_residual.result c.from_residual.ensures.1 in
    rw (p.1, p.2) (λ connections.
    stops-memory c.args.now c.args.association c.args.connection.now.state c.args.rest.now
    (step_state (state_view connections c.args.state.now) c.args.effects.now) _ refl)

pub returns-in_err-handle_indication-clause-err : goal.returns-in_err-handle_indication-clause-err
returns-in_err-handle_indication-clause-err c =
    let p = err_from_is_err_and c.from_residual-in_err-handle_indication.result
    c.from_residual-in_err-handle_indication.ensures.1 in
    let old = c.args.connection.now.state in
    let new = c.feed.new.self in
    let fed = c.in_ok-fed.ensures in
    let why = c.in_err-handle_indication.field-0.0 in
    rw (p.1, p.2) (λ connections.
    let d = step_state (state_view connections c.args.state.now) c.args.effects.now in
    let e = step_state (state_view connections c.handle_indication.new.state)
    c.handle_indication.new.effects in
    stops-by c.args.now c.args.association old c.args.rest.now d e why
    (λ is. c.in_err-handle_indication.ensures.memory is connections)
    (λ other. stops-heard c.args.now c.args.association old c.args.rest.now c.in_ok-fed.fed.used
    new.state c.requires.going fed.left
    (indication_of c.in_ok-fed.fed.indication new) d e why fed.fed
    (λ later. c.in_err-handle_indication.ensures.stops other connections later)))

pub returns-clause-moves : goal.returns-clause-moves
returns-clause-moves c =
    let new = c.feed.new.self in
    let fed = c.in_ok-fed.ensures in
    used-some c.args.now c.args.association c.args.connection.now.state c.args.rest.now
    c.in_ok-fed.fed.used new.state c.requires.going fed.left
    (indication_of c.in_ok-fed.fed.indication new) c.requires.some fed.fed
    c.in_ok-handle_indication.ensures.goes

pub returns-clause-going : goal.returns-clause-going
returns-clause-going c =
    let new = c.feed.new.self in
    let fed = c.in_ok-fed.ensures in
    goes-on c.args.now c.args.association c.args.connection.now.state c.args.rest.now
    c.in_ok-fed.fed.used new.state c.requires.going fed.left
    (indication_of c.in_ok-fed.fed.indication new) fed.fed c.in_ok-handle_indication.ensures.goes

pub returns-clause-ok : goal.returns-clause-ok
returns-clause-ok c connections =
    let new = c.feed.new.self in
    let fed = c.in_ok-fed.ensures in
    moves-heard c.args.now c.args.association c.args.connection.now.state c.args.rest.now
    c.in_ok-fed.fed.used new.state c.requires.going fed.left
    (indication_of c.in_ok-fed.fed.indication new)
    (step_state (state_view connections c.args.state.now) c.args.effects.now)
    (step_state (state_view connections c.handle_indication.new.state)
    c.handle_indication.new.effects)
    fed.fed (λ later. c.in_ok-handle_indication.ensures.ok connections later)
