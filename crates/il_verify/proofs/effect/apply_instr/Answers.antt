use Rattle.std.proofs.Common.{◌<◌, ◌≤◌, ◌∙◌, arith, length, reverse, sym}
use Rattle.il_verify.specs.Judging.{operands}
use Rattle.std.proofs.lemmas.List.{length-reverse}
use Rattle.std.proofs.lemmas.Result.{err_from_is_err_and}
use Rattle.il_verify.proofs.JudgeLemmas.{allowed-faultless, misfit-fault, missing-fault, room-fault, write-fault}
use Rattle.il_verify.proofs.effect.apply_instr.Goals as goal
use Rattle.il_image.specs.Machine.{most_cells}

pub returns-in_err-check_slot_or_timer-clause-err
    : goal.returns-in_err-check_slot_or_timer-clause-err
returns-in_err-check_slot_or_timer-clause-err c =
    let p = err_from_is_err_and c.from_residual.result c.from_residual.ensures.1 in
    rw (p.1, p.2) (missing-fault c.args.slots.now c.args.timers c.args.instr
    (reverse c.args.kinds.now.items) _ c.in_err-check_slot_or_timer.ensures)

pub returns-in_err-apply-clause-err : goal.returns-in_err-apply-clause-err
returns-in_err-apply-clause-err c =
    let p = err_from_is_err_and c.from_residual-in_err-apply.result
    c.from_residual-in_err-apply.ensures.1 in
    let many : operands c.args.instr ≤ length (reverse c.args.kinds.now.items) =
    rw (length-reverse c.args.kinds.now.items) (omega arith) in
    rw (p.1, p.2) (misfit-fault c.args.slots.now c.args.timers c.args.instr
    (reverse c.args.kinds.now.items) _ c.in_ok-check_slot_or_timer.ensures many
    c.in_err-apply.ensures.err)

pub returns-then-writes_read_only-clause-err : goal.returns-then-writes_read_only-clause-err
returns-then-writes_read_only-clause-err c =
    write-fault c.args.slots.now c.args.timers c.args.instr (reverse c.args.kinds.now.items)
    (reverse c.apply.new.kinds.items) c.in_ok-apply.ensures.ok
    (sym c.writes_read_only.ensures ∙ c.if-writes_read_only.true)

pub returns-then-len-gt-MAX_KINDS-clause-err : goal.returns-then-len-gt-MAX_KINDS-clause-err
returns-then-len-gt-MAX_KINDS-clause-err c =
    let many : most_cells < length (reverse c.apply.new.kinds.items) =
    rw (length-reverse c.apply.new.kinds.items) (omega arith) in
    room-fault c.args.slots.now c.args.timers c.args.instr (reverse c.args.kinds.now.items)
    (reverse c.apply.new.kinds.items) c.in_ok-apply.ensures.ok
    (sym c.writes_read_only.ensures ∙ c.if-writes_read_only.false) many

pub returns-clause-faultless : goal.returns-clause-faultless
returns-clause-faultless c =
    let room : length (reverse c.apply.new.kinds.items) ≤ most_cells =
    rw (length-reverse c.apply.new.kinds.items) (omega arith) in
    allowed-faultless c.args.slots.now c.args.timers c.args.instr (reverse c.args.kinds.now.items)
    (reverse c.apply.new.kinds.items) c.in_ok-apply.ensures.ok
    (sym c.writes_read_only.ensures ∙ c.if-writes_read_only.false) room
