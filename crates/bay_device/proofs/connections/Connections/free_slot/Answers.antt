use Rattle.std.proofs.Common.{is_none, position, ap, sym, ◌∙◌}
use Rattle.bay_connection.specs.ConnectionStates.{ConnectionState}
use Rattle.bay_device.proofs.ConnectionLemmas.{talks-free}
use Rattle.bay_device.proofs.connections.Connections.free_slot.Goals as goal

pub returns-clause-lowest : goal.returns-clause-lowest
returns-clause-lowest c =
    c.free_slot_in.ensures.lowest ∙ sym (talks-free c.self.inside.slots)
    ∙ ap (λ ts. position (is_none {T = ConnectionState}) ts) c.self.view_is
