use Rattle.std.proofs.Common.{◌<◌, ◌≤◌, length, drop, arith, length-drop, zero-le}
use Rattle.std.proofs.lemmas.List.{take_rest}
use Rattle.bay_server_turn.proofs.OfferLemmas.{Offering-none, Offering-more, Offers-all, Offers-stopped, Offers-failed}
use Rattle.bay_server_turn.proofs.offering.offer.Goals as goal

pub loop-done-init : goal.loop-done-init
loop-done-init g c = record { within = zero-le; so_far = Offering-none _ _ _ _ }

pub loop-done-preserved : goal.loop-done-preserved
loop-done-preserved g c =
    let xs = c.args.octets.now in
    let done = c.loop-done.done in
    let more : 0 < length (drop done xs) = omega (arith, length-drop done xs) in
    record {
      within = omega (arith, length-drop done xs, c.in-Ok.ensures.within);
      so_far =
          Offering-more _ _ _ _ _ _ _ c.in-Ok.count _ c.loop-done.invariant.so_far
          (take_rest xs done) more c.in-Ok.count-test.1 c.in-Ok.ensures.call;
    }

pub returns-in-Ok-eq0-clause-offers : goal.returns-in-Ok-eq0-clause-offers
returns-in-Ok-eq0-clause-offers g c =
    let xs = c.args.octets.now in
    let done = c.loop-done.done in
    let more : 0 < length (drop done xs) = omega (arith, length-drop done xs) in
    Offers-stopped _ _ _ _ _ _ _ _ _ c.loop-done.invariant.so_far (take_rest xs done) more
    c.in-Ok-eq0.field-0-test c.in-Ok-eq0.ensures.call

pub returns-in-Err-clause-offers : goal.returns-in-Err-clause-offers
returns-in-Err-clause-offers g c =
    let xs = c.args.octets.now in
    let done = c.loop-done.done in
    let more : 0 < length (drop done xs) = omega (arith, length-drop done xs) in
    Offers-failed _ _ _ _ _ _ _ _ c.loop-done.invariant.so_far (take_rest xs done) more
    c.in-Err.ensures.call

pub returns-clause-offers : goal.returns-clause-offers
returns-clause-offers g c =
    let all : length c.args.octets.now ≤ c.loop-done.done = omega arith in
    Offers-all _ _ _ _ _ _ c.loop-done.invariant.so_far all
