use Rattle.il_image.specs.Images.{variable_octets}
use Rattle.il_image.specs.declared.opcode.Version.TheVariants.{Two}
use Rattle.il_image.proofs.EachLemmas.{each-turn-at}
use Rattle.il_image.proofs.encode.push_variables.Goals as goal

pub loop-value-preserved : goal.loop-value-preserved
loop-value-preserved c =
    each-turn-at (variable_octets Two) c.args.values.now c.loop-value.value-index _
    c.push_number.new.octets.items c.loop-value.octets.items c.push_variable.new.octets.items
    c.loop-value-test.true c.loop-value.invariant c.in_ok-push_variable.ensures
