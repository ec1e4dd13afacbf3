use Rattle.std.proofs.Common.{ap, ◌∙◌, slice_set}
use Rattle.bay_device.specs.Connections.{state_without_pdu, connection_states}
use Rattle.bay_device.proofs.ConnectionLemmas.{are-eight, talks-set}
use Rattle.bay_device.proofs.connections.Connections.put.Goals as goal

pub invariant_of-self : goal.invariant_of-self
invariant_of-self c =
    rw c.put_at.ensures (are-eight c.self.inside.slots c.args.slot c.args.connection
    c.self.invariant c.requires.going)

pub returns : goal.returns
returns c =
    ap connection_states c.put_at.ensures
    ∙ talks-set c.self.inside.slots c.args.slot c.args.connection
    ∙ ap (λ ts. slice_set ts c.args.slot (state_without_pdu c.args.connection)) c.self.view_is
