use Rattle.std.proofs.Common.{None, ap, ◌∙◌, slice_get, slice_set, unwrap_or}
use Rattle.bay_device.specs.Connections.{state_without_pdu, connection_states}
use Rattle.bay_device.proofs.ConnectionLemmas.{are-eight, taken, talk-at, talks-set}
use Rattle.bay_device.proofs.connections.Connections.take.Goals as goal

pub invariant_of-self : goal.invariant_of-self
invariant_of-self c =
    rw c.take_at.ensures.rest (are-eight c.self.inside.slots c.args.slot None c.self.invariant tt)

pub returns-clause-value : goal.returns-clause-value
returns-clause-value c =
    ap state_without_pdu c.take_at.ensures.value ∙ talk-at c.self.inside.slots c.args.slot
    ∙ ap (λ ts. unwrap_or (slice_get ts c.args.slot) None) c.self.view_is

pub returns-clause-rest : goal.returns-clause-rest
returns-clause-rest c =
    ap connection_states c.take_at.ensures.rest ∙ talks-set c.self.inside.slots c.args.slot None
    ∙ ap (λ ts. slice_set ts c.args.slot None) c.self.view_is

pub returns-clause-going : goal.returns-clause-going
returns-clause-going c =
    taken c.self.inside.slots c.args.slot c.take_at.result c.self.invariant
    c.take_at.ensures.value
