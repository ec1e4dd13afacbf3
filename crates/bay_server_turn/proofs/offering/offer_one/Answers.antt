use Rattle.std.proofs.Common.{◌≡◌, ap, refl, true, false, rules}
use Rattle.bay_server_turn.specs.AssociationStates.{is_draining}
use Rattle.bay_server_turn.specs.Turns.{turn_state, is_open_at, state_at}
use Rattle.bay_server_turn.proofs.PartLemmas.{Offers-as, turning-as, offers-not, offers-leaving, offers-cut, offers-kept}
use Rattle.bay_server_turn.proofs.offering.offer_one.Goals as goal

pub returns-then-is_draining : goal.returns-then-is_draining
returns-then-is_draining g c =
    let leaves : is_draining (state_at c.args.slot (turn_state c.args.server.now c.args.notes.now))
    ≡ true = search rules in
    offers-leaving _ _ _ _ _ _ _ _ _ _ leaves
    (Offers-as _ _ _ _ _ _ _ _ _ c.offer.ensures.offers c.queue.ensures refl) c.close.ensures
    (turning-as _ _ _ _ c.clear.ensures c.finish_closing.ensures)

pub returns-then-not-is_open : goal.returns-then-not-is_open
returns-then-not-is_open g c =
    let leaves : is_draining (state_at c.args.slot (turn_state c.args.server.now c.args.notes.now))
    ≡ false = search rules in
    let down : is_open_at c.args.slot (turn_state c.args.server.now c.args.notes.now) ≡ false =
    search rules in
    offers-not _ _ _ _ _ leaves down

pub returns-then-offered : goal.returns-then-offered
returns-then-offered g c =
    let leaves : is_draining (state_at c.args.slot (turn_state c.args.server.now c.args.notes.now))
    ≡ false = search rules in
    let up : is_open_at c.args.slot (turn_state c.args.server.now c.args.notes.now) ≡ true =
    search rules in
    offers-cut _ _ _ _ _ _ _ _ _ _ _ leaves up
    (Offers-as _ _ _ _ _ _ _ _ _ c.offer-offered.ensures.offers c.queue-2.ensures
    c.if-offered.true) c.close_at_once.ensures.call c.close_at_once.ensures.after
    c.close_overflowed.ensures.makes
    c.close_overflowed.ensures.after

pub returns-else-offered : goal.returns-else-offered
returns-else-offered g c =
    let leaves : is_draining (state_at c.args.slot (turn_state c.args.server.now c.args.notes.now))
    ≡ false = search rules in
    let up : is_open_at c.args.slot (turn_state c.args.server.now c.args.notes.now) ≡ true =
    search rules in
    offers-kept _ _ _ _ _ _ _ _ leaves up
    (Offers-as _ _ _ _ _ _ _ _ _ c.offer-offered.ensures.offers c.queue-2.ensures
    c.if-offered.false) (ap (λ s. turn_state s c.args.notes.now) c.remove_first.ensures)
