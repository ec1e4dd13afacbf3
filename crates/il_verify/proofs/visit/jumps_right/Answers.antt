use Rattle.std.proofs.Common.{ℕ, ◌+◌, subst, Some, true, ◌≡◌}
use Rattle.std.specs.Prelude.{IsTrue, slice_get, ◌↔◌}
use Rattle.il_verify.proofs.VisitLemmas.{jumps_wrong}
use Rattle.il_verify.proofs.visit.jumps_right.Goals as goal

pub returns-in-Jump-clause-wrong : goal.returns-in-Jump-clause-wrong
returns-in-Jump-clause-wrong c =
    jumps_wrong c.args.code.now c.args.starts.now c.args.instr c.in-Jump.field-0 c.args.next
    c.in-Jump.distance c.begins_instr.result c.requires.marks c.in-Jump.is
    (subst (λ (d : ℕ). IsTrue c.begins_instr.result
    ↔ (slice_get c.args.starts.now (c.args.next + d) ≡ Some true)) c.from.ensures
    c.begins_instr.ensures)
