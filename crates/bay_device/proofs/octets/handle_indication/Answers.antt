use Rattle.std.proofs.Common.{ap, sym, ◌∙◌}
use Rattle.bay_connection.specs.Feeding.{indication_of}
use Rattle.bay_device.specs.ReceivingViews.{step_state, on_indication_if}
use Rattle.bay_device.specs.StateView.{state_view}
use Rattle.bay_device.proofs.octets.handle_indication.Goals as goal

pub returns-in_ok-handle_pdu-in-Mms-clause-ok : goal.returns-in_ok-handle_pdu-in-Mms-clause-ok
returns-in_ok-handle_pdu-in-Mms-clause-ok c connections later =
    ap (λ h. on_indication_if c.args.now c.args.association (indication_of h c.args.connection.now)
    (step_state (state_view connections c.args.state.now) c.args.effects.now) later) c.in-Mms.is
    ∙ ap later (sym (c.in_ok-handle_pdu-in-Mms.ensures.ok connections))
