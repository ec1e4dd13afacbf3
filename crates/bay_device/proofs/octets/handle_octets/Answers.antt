use Rattle.std.proofs.Common.{◌≡◌, ◌≤◌, ◌+◌, ◌-◌, ℕ, List, [], length, take, drop, refl, ap, ◌∙◌, arith, length-drop}
use Rattle.std.proofs.Math.ListN.{drop_of_length-le}
use Rattle.std.proofs.Math.Seq.{take-length}
use Rattle.std.proofs.lemmas.Grind.{common_steps}
use Rattle.std.proofs.lemmas.Result.{err_from_is_err_and}
use Rattle.bay_connection.specs.ConnectionStates.{connection_after}
use Rattle.bay_device.specs.ReceivingViews.{step_state}
use Rattle.bay_device.specs.StateView.{state_view}
use Rattle.bay_device.proofs.TurnLemmas.{ends-all, left-on, moves-none, moves-on, stops-then}
use Rattle.bay_device.proofs.octets.handle_octets.Goals as goal

-- what `&octets[at..]` is
rest-of : (xs : List ℕ) (i : ℕ) → take (length xs - i) (drop i xs) ≡ drop i xs
rest-of xs i = grind (arith, common_steps)

drop-drop : (xs : List ℕ) (i j : ℕ) → drop j (drop i xs) ≡ drop (i + j) xs
drop-drop xs i j = grind (arith, common_steps)

pub loop-at-init : goal.loop-at-init
loop-at-init c = record {
  within = omega arith;
  going = c.requires.going;
  first = λ none. refl;
  later = λ some. absurd (omega (arith, some));
  moves = λ connections. moves-none c.args.now c.args.association c.args.connection.now.state
      c.args.octets.now (step_state (state_view connections c.args.state.now) c.args.effects.now);
}

pub loop-at-preserved : goal.loop-at-preserved
loop-at-preserved c =
    let at = c.loop-at.at in
    let used = c.in_ok-at.field-0 in
    let octets = c.args.octets.now in
    let did = c.in_ok-at.ensures in
    let stood = c.loop-at.invariant in
    let inside : used ≤ length (drop at octets) = rw rest-of at did.within in
    record {
      within = omega (arith, stood.within, length-drop at octets);
      going = did.going;
      first = λ none. absurd (omega (arith, did.moves, none));
      later = λ some. left-on c.args.connection.now.state c.loop-at.connection.state
          c.feed_once.new.connection.state octets at used stood.first stood.later
          (did.left ∙ ap (λ rest. connection_after c.loop-at.connection.state (take used rest))
          (rest-of octets at));
      moves = λ connections. rw (← drop-drop octets at used)
          (moves-on _ _ _ _ _ _ _ _ _ _ _ (stood.moves connections)
          ((rw rest-of at did.ok) connections));
    }

pub returns-in_err-at-clause-err : goal.returns-in_err-at-clause-err
returns-in_err-at-clause-err c =
    let p = err_from_is_err_and c.from_residual.result c.from_residual.ensures.1 in
    rw (p.1, p.2) (λ connections. stops-then _ _ _ _ _ _ _ _ _ _
    (c.loop-at.invariant.moves connections)
    ((rw rest-of at c.in_err-at.ensures.err) connections))

pub returns-clause-left : goal.returns-clause-left
returns-clause-left c =
    let octets = c.args.octets.now in
    let stood = c.loop-at.invariant in
    let all : c.loop-at.at ≡ length octets = omega (arith, stood.within, c.loop-at-test.false) in
    let whole : take c.loop-at.at octets ≡ octets =
    ap (λ n. take n octets) all ∙ take-length octets in
    stood.later (omega (arith, all, c.requires.some))
    ∙ ap (connection_after c.args.connection.now.state) whole

pub returns-clause-ok : goal.returns-clause-ok
returns-clause-ok c connections =
    let octets = c.args.octets.now in
    let past : length octets ≤ c.loop-at.at = omega (arith, c.loop-at-test.false) in
    let none : drop c.loop-at.at octets ≡ [] = drop_of_length-le octets past in
    ends-all c.args.now c.args.association c.args.connection.now.state octets
    (step_state (state_view connections c.args.state.now) c.args.effects.now)
    c.loop-at.connection.state
    (step_state (state_view connections c.loop-at.state) c.loop-at.effects) (returns-clause-left c)
    (rw none at (c.loop-at.invariant.moves connections))
