use Rattle.std.proofs.Common.{◌<◌, ap, arith, length, true}
use Rattle.il_image.proofs.MapLemmas.{mapped-turn}
use Rattle.il_verify.specs.Slots.{variable_slot}
use Rattle.il_verify.proofs.slots.push_variables.Goals as goal

pub loop-variable-preserved : goal.loop-variable-preserved
loop-variable-preserved c =
    let within : c.loop-variable.variable-index < length c.args.variables.now = omega arith in
    mapped-turn variable_slot c.args.variables.now c.loop-variable.variable-index _ _
    c.args.slots.now.items c.loop-variable.slots.items c.push.new.self.items
    c.loop-variable.invariant within
    (ap (λ t. record { elementary = t; writable = true }) c.type_of.ensures)
    c.in_ok-push.ensures.items
