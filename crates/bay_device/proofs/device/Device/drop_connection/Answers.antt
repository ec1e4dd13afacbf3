use Rattle.std.proofs.Common.{ℕ, List, Option, Some, None, ap, sym, ◌∙◌}
use Rattle.bay_connection.specs.ConnectionStates.{ConnectionState}
use Rattle.bay_device.specs.Outcomes.{without_connection, with_connection, without_owner}
use Rattle.bay_device.specs.StateView.{state_view}
use Rattle.bay_device.proofs.device.Device.drop_connection.Goals as goal

pub returns : goal.returns
returns c =
    let a = c.args.association in
    let inside = c.self.inside in
    ap (λ (cs : List (Option ConnectionState)). state_view cs c.drop_owner.new.self)
    (rw c.deref_mut.ensures.value at c.put.ensures)
    ∙ ap (with_connection (Some c.args.slot) None)
    (rw c.deref_mut-2.ensures.value at c.drop_owner.ensures inside.connections.value)
    ∙ sym (ap (λ (o : Option ℕ). with_connection o None
    (without_owner a (state_view inside.connections.value inside.state.value))) c.requires)
    ∙ ap (without_connection a) c.self.view_is
