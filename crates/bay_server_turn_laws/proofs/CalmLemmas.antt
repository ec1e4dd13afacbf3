-- Associations to which a reply did not fit are closed, until none is left.
use Rattle.std.proofs.Common.{None, Option, Some, ap, arith, false, get_or, length, refl, set, suc, zero, ℕ, ◌+◌, ◌∙◌, ◌≡◌, ◌≤◌}
use Rattle.std.proofs.lemmas.List.Quantifiers.{position-Some}
use Rattle.bay_device.specs.Outcomes.{outcome}
use Rattle.bay_device.specs.declared.event.Event.TheVariants.{Close}
use Rattle.bay_server_turn.specs.AssociationStates.{is_full, is_draining}
use Rattle.bay_server_turn.specs.Turns.{TurnState, after_event, after_closing_full, close_at_once, first_full, put_quiet, after_closing_some_full, after_closing_next_full, state_at, with_device}
use Rattle.bay_server_turn.specs.declared.association_state.AssociationState.TheVariants.{Full, Closed, Steady}
use Rattle.bay_server_turn.specs.declared.turn_report.CloseReason.{CloseReason}
use Rattle.bay_server_turn.specs.declared.turn_report.CloseReason.TheVariants as closing
use Rattle.bay_server_turn_laws.proofs.PutLemmas.{Puts, put_quiet-puts, told-standings}
use Rattle.bay_server_turn_laws.proofs.SameLemmas.{Same, put_quiet-same}
use Rattle.bay_server_turn_laws.proofs.StandingLemmas.{AreCalm, full-is, goes-kept, goes-remaining, none-full, none-remains, remaining, remaining-le}

-- the standings behind the closing of one
pub gone-standings : (now slot : ℕ) (why : CloseReason) (s : TurnState)
    → (close_at_once now why slot s).noted.states
    ≡ set (after_event now (Close (slot + 1)) s).noted.states slot Closed
unfolding close_at_once
gone-standings now slot why s = let t : TurnState = after_event now (Close (slot + 1)) s in
    ap (λ l. set l slot Closed) (told-standings slot why t.noted)

pub closing-puts : (now slot : ℕ) (s : TurnState) → Puts s (after_event now (Close (slot + 1)) s)
closing-puts now slot s =
    let o = outcome None now (Close (slot + 1)) s.server.device in
    let puts = put_quiet-puts o.answer (with_device o.after s) in
    record { queues = puts.queues; fills = puts.fills }

cut-remaining : (now slot : ℕ) (why : CloseReason) (s : TurnState) → state_at slot s ≡ Full
    → suc (remaining (close_at_once now why slot s).noted.states) ≡ remaining s.noted.states
cut-remaining now slot why s e =
    let t : TurnState = after_event now (Close (slot + 1)) s in
    let puts : Puts s t = closing-puts now slot s in
    ap (λ l. suc (remaining l)) (gone-standings now slot why s)
    ∙ goes-remaining t.noted.states slot (puts.fills.full slot e) ∙ puts.fills.remain

pub cut-kept : (now slot i : ℕ) (why : CloseReason) (s : TurnState)
    → is_draining (state_at i s) ≡ false
    → is_draining (state_at i (close_at_once now why slot s)) ≡ false
cut-kept now slot i why s e =
    let t : TurnState = after_event now (Close (slot + 1)) s in
    let puts : Puts s t = closing-puts now slot s in
    ap (λ l. is_draining (get_or l i Steady)) (gone-standings now slot why s)
    ∙ goes-kept t.noted.states slot i (puts.fills.kept i e)

-- ---- all that did not fit is dealt with

calm-next : (now count : ℕ) (o : Option ℕ) (s : TurnState) → first_full s.noted ≡ o
    → remaining s.noted.states ≤ suc count
    → ((t : TurnState) → remaining t.noted.states ≤ count
    → AreCalm (after_closing_some_full now count t).noted.states)
    → AreCalm (after_closing_next_full now o s (after_closing_some_full now count)).noted.states
calm-next now count None s e h later = none-full s.noted.states e
calm-next now count (Some slot) s e h later =
    let found = position-Some is_full s.noted.states slot Steady e in
    let full : state_at slot s ≡ Full = full-is (state_at slot s) found.1 in
    let fewer = cut-remaining now slot closing.QueueFull s full in
    later (close_at_once now closing.QueueFull slot s) (omega (arith, fewer))

calm-in : (now count : ℕ) (s : TurnState) → remaining s.noted.states ≤ count
    → AreCalm (after_closing_some_full now count s).noted.states
calm-in now zero s h = none-remains s.noted.states h
calm-in now (suc count) s h =
    calm-next now count (first_full s.noted) s refl h (λ t g. calm-in now count t g)

-- no association is left to which a reply did not fit
pub settled-calm : (now : ℕ) (s : TurnState) → length s.noted.states ≡ 8
    → AreCalm (after_closing_full now s).noted.states
unfolding after_closing_full
settled-calm now s e = let most =
    remaining-le s.noted.states in calm-in now 8 s (omega (arith, most, e))

kept-next : (now count i : ℕ) (o : Option ℕ) (s : TurnState) → is_draining (state_at i s) ≡ false
    → ((t : TurnState) → is_draining (state_at i t) ≡ false
    → is_draining (state_at i (after_closing_some_full now count t)) ≡ false)
    → is_draining (state_at i (after_closing_next_full now o s (after_closing_some_full now count)))
    ≡ false
kept-next now count i None s e later = e
kept-next now count i (Some slot) s e later =
    later (close_at_once now closing.QueueFull slot s) (cut-kept now slot i closing.QueueFull s e)

kept-in : (now count i : ℕ) (s : TurnState) → is_draining (state_at i s) ≡ false
    → is_draining (state_at i (after_closing_some_full now count s)) ≡ false
kept-in now zero i s e = e
kept-in now (suc count) i s e =
    kept-next now count i (first_full s.noted) s e (λ t g. kept-in now count i t g)

pub settled-kept : (now i : ℕ) (s : TurnState) → is_draining (state_at i s) ≡ false
    → is_draining (state_at i (after_closing_full now s)) ≡ false
unfolding after_closing_full
settled-kept now i s e = kept-in now 8 i s e

pub cut-device : (now i : ℕ) (why : CloseReason) (s : TurnState)
    → (close_at_once now why i s).server.device
    ≡ (outcome None now (Close (i + 1)) s.server.device).after
unfolding close_at_once
cut-device now i why s =
    let o = outcome None now (Close (i + 1)) s.server.device in
    let same : Same (with_device o.after s) (put_quiet o.answer (with_device o.after s)) =
    put_quiet-same o.answer (with_device o.after s) in
    same.device
