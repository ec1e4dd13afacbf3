use Rattle.std.proofs.Common.{◌≡◌, length}
use Rattle.il_image.specs.Decoding.{code_fault}
use Rattle.il_image.proofs.decode.check_code.Given as goal

abbrev pub invariant-loop-rest : goal.invariant-loop-rest
invariant-loop-rest l =
    code_fault l.version (length l.code) l.code ≡ code_fault l.version (length l.rest) l.rest

abbrev pub decreases-loop-rest : goal.decreases-loop-rest
decreases-loop-rest l = length l.rest
