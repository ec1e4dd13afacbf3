use Rattle.std.proofs.Common.{◌∙◌, sym, ap}
use Rattle.bay_connection.specs.ConnectionStates.{ended_state}
use Rattle.bay_connection.specs.Feeding.{indication_of}
use Rattle.bay_connection.specs.Stack.{connection_state_of, client_of}
use Rattle.bay_connection.proofs.FeedingLemmas.{is-ready, fed-got, fed-fault}
use Rattle.bay_connection.proofs.stack.Stack.feed.Goals as goal

pub indication_for-requires-clause-ready : goal.indication_for-requires-clause-ready
indication_for-requires-clause-ready c =
    is-ready (connection_state_of c.args.self.now) c.feed.new.self c.in-Ok.fed.got c.args.piece.now
    c.in-Ok.fed.used c.requires.joined c.in-Ok.ensures.fed c.in-Ok.ensures.after

pub returns-in_ok-indication-in-Ok-clause-fed : goal.returns-in_ok-indication-in-Ok-clause-fed
returns-in_ok-indication-in-Ok-clause-fed c =
    let f = fed-got (connection_state_of c.args.self.now) c.feed.new.self c.in-Ok.fed.got
    c.args.piece.now
    c.in-Ok.fed.used (indication_of c.in_ok-indication-in-Ok.indication (client_of c.indication_for.new.self))
    (connection_state_of c.indication_for.new.self) c.requires.joined c.in-Ok.ensures.fed
    c.in-Ok.ensures.after
    c.in_ok-indication-in-Ok.ensures.told in
    f.fed

pub returns-in_ok-indication-in-Ok-clause-left : goal.returns-in_ok-indication-in-Ok-clause-left
returns-in_ok-indication-in-Ok-clause-left c =
    let f = fed-got (connection_state_of c.args.self.now) c.feed.new.self c.in-Ok.fed.got
    c.args.piece.now
    c.in-Ok.fed.used (indication_of c.in_ok-indication-in-Ok.indication (client_of c.indication_for.new.self))
    (connection_state_of c.indication_for.new.self) c.requires.joined c.in-Ok.ensures.fed
    c.in-Ok.ensures.after
    c.in_ok-indication-in-Ok.ensures.told in
    f.state

pub returns-in-Some-clause-fed : goal.returns-in-Some-clause-fed
returns-in-Some-clause-fed c =
    let code = c.in-Some.code in
    let f = fed-fault (connection_state_of c.args.self.now) c.args.piece.now c.in-Err.fault code
    c.requires.joined c.in-Err.ensures.refused
    (sym c.code.ensures ∙ c.in-Some.is) in
    f.fed

pub returns-in-Some-clause-left : goal.returns-in-Some-clause-left
returns-in-Some-clause-left c =
    let code = c.in-Some.code in
    let f = fed-fault (connection_state_of c.args.self.now) c.args.piece.now c.in-Err.fault code
    c.requires.joined c.in-Err.ensures.refused
    (sym c.code.ensures ∙ c.in-Some.is) in
    c.close.ensures.closed ∙ ap ended_state c.in-Err.ensures.broken ∙ f.state
