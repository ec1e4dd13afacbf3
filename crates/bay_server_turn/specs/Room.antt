-- The number of reported closings.
use Rattle.std.specs.Prelude.{◌≡◌, ◌+◌, List, length, count_by}
use Rattle.bay_server_turn.specs.AssociationStates.{is_close_reported}
use Rattle.bay_server_turn.specs.declared.association_state.AssociationState.{AssociationState}

-- There is one entry for each association whose closing is reported.
abbrev pub HasEntries : {C M : Type 0} → List AssociationState → List C → List M → Type 0
HasEntries states closed memory =
    length closed + length memory ≡ count_by is_close_reported states
