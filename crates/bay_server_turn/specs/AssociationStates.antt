-- The state of an association within a turn.
use Rattle.std.specs.Prelude.{Bool, true, false}
use Rattle.bay_server_turn.specs.declared.association_state.AssociationState.{AssociationState}
use Rattle.bay_server_turn.specs.declared.association_state.AssociationState.TheVariants.{Steady, Full, Draining, DrainingFull, Closed}

-- it is open, and a reply to it did not fit its queue
abbrev pub is_full : AssociationState → Bool
is_full Steady = false
is_full Full = true
is_full Draining = false
is_full DrainingFull = false
is_full Closed = false

-- it was closed, and its queue will be offered once more
abbrev pub is_draining : AssociationState → Bool
is_draining Steady = false
is_draining Full = false
is_draining Draining = true
is_draining DrainingFull = true
is_draining Closed = false

-- the turn reports that it was closed
abbrev pub is_close_reported : AssociationState → Bool
is_close_reported Steady = false
is_close_reported Full = false
is_close_reported Draining = true
is_close_reported DrainingFull = true
is_close_reported Closed = true

-- its queue accepts replies: that of an open association, or of one that is closed and whose queue
-- will be offered once more, until a reply does not fit
abbrev pub accepts_replies : AssociationState → Bool → Bool
accepts_replies Steady is_open = is_open
accepts_replies Full is_open = false
accepts_replies Draining is_open = true
accepts_replies DrainingFull is_open = false
accepts_replies Closed is_open = false

-- the state after a reply that did not fit
abbrev pub after_full : AssociationState → AssociationState
after_full Steady = Full
after_full Full = Full
after_full Draining = DrainingFull
after_full DrainingFull = DrainingFull
after_full Closed = Closed
