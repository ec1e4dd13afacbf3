use Rattle.std.proofs.Common.{ℕ, ◌+◌, ap, subst, sym}
use Rattle.il_image.specs.declared.instr.Instr.{Instr}
use Rattle.il_verify.specs.Refusals.{JumpsTo}
use Rattle.il_verify.proofs.frame.follow_jump.Goals as goal

pub join_pending-requires-clause-room : goal.join_pending-requires-clause-room
join_pending-requires-clause-room c =
    let to = c.args.next + c.from.result in
    c.requires.room to
    (subst (λ (i : Instr). JumpsTo i c.args.next to) (sym c.in-Jump.is)
    (ap (λ (n : ℕ). c.args.next + n) c.from.ensures))
