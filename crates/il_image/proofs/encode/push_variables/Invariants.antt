use Rattle.std.proofs.Common.{◌≡◌, ◌++◌, take}
use Rattle.il_image.specs.Images.{each_spelled, variable_octets}
use Rattle.il_image.specs.declared.opcode.Version.TheVariants.{Two}
use Rattle.il_image.proofs.encode.push_variables.Given as goal

abbrev pub invariant-loop-value : goal.invariant-loop-value
invariant-loop-value l =
    l.octets.items ≡ l.initial.octets.items
    ++ each_spelled (variable_octets Two) (take l.value-index l.values)
