use Rattle.std.proofs.Common.{◌<◌, arith, length, rules}
use Rattle.il_scan.proofs.SlotLemmas.{number-turn}
use Rattle.il_scan.proofs.slots.push_numbers.Goals as goal

pub loop-variable-preserved : goal.loop-variable-preserved
loop-variable-preserved c =
    let within : c.loop-variable.variable-index < length c.args.variables.now = omega arith in
    number-turn c.args.variables.now c.loop-variable.variable-index _ c.args.slots.now.items
    c.loop-variable.slots.items c.push.new.self.items c.loop-variable.invariant within
    c.in_ok-push.ensures.items (search rules)
