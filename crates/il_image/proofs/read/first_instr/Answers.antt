use Rattle.std.proofs.Common.{arith}
use Rattle.il_image.specs.declared.opcode.Version.TheVariants.{Two}
use Rattle.il_image.proofs.InstrLemmas.{less}
use Rattle.il_image.proofs.read.first_instr.Goals as goal

pub overflow_sub-result : goal.overflow_sub-result
overflow_sub-result c =
    omega (arith, less Two c.args.octets.now c.in-Ok.instr c.in-Ok.rest.now c.in-Ok.ensures)
