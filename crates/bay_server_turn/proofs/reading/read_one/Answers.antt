use Rattle.std.proofs.Common.{◌≡◌, ◌+◌, true, false, rules, ap, ◌∙◌}
use Rattle.bay_device.specs.declared.event.Event.TheVariants.{Close}
use Rattle.bay_server_turn.specs.Turns.{TurnData, is_open_at, after_event, turn_state}
use Rattle.bay_server_turn.proofs.PartLemmas.{heard-as, heard-broken, reads-not, reads-octets, reads-silence, reads-over, reads-broken}
use Rattle.bay_server_turn.proofs.reading.read_one.Goals as goal

pub returns-then-not-is_open-clause-performs : goal.returns-then-not-is_open-clause-performs
returns-then-not-is_open-clause-performs g c =
    let down : is_open_at c.args.slot (turn_state c.args.server.now c.args.notes.now) ≡ false =
    search rules in
    reads-not _ _ _ _ _ down

pub returns-in-Ok-Bytes-clause-performs : goal.returns-in-Ok-Bytes-clause-performs
returns-in-Ok-Bytes-clause-performs g c =
    let up : is_open_at c.args.slot (turn_state c.args.server.now c.args.notes.now) ≡ true =
    search rules in
    reads-octets _ _ _ _ _ _ _ _ _ _ _ up
    (heard-as _ _ _ _ c.in-Ok-Bytes.is c.in-Ok-Bytes.field-0-is) c.read.ensures.call
    c.handle_octets.ensures.takes c.close_overflowed.ensures.makes c.close_overflowed.ensures.after

pub returns-in-Ok-Nothing-clause-performs : goal.returns-in-Ok-Nothing-clause-performs
returns-in-Ok-Nothing-clause-performs g c =
    let up : is_open_at c.args.slot (turn_state c.args.server.now c.args.notes.now) ≡ true =
    search rules in
    reads-silence _ _ _ _ _ _ _ up (heard-as _ _ _ _ c.in-Ok-Nothing.is c.in-Ok-Nothing.field-0-is)
    c.read.ensures.call

pub returns-in-Ok-End-clause-performs : goal.returns-in-Ok-End-clause-performs
returns-in-Ok-End-clause-performs g c =
    let up : is_open_at c.args.slot (turn_state c.args.server.now c.args.notes.now) ≡ true =
    search rules in
    let now = c.args.now in
    let slot = c.args.slot in
    let hung =
    c.step_without_replies.ensures.after
    ∙ ap (λ (n : TurnData). after_event now (Close (slot + 1)) (turn_state c.args.server.now n))
    c.start_closing.ensures in
    reads-over _ _ _ _ _ _ _ _ _ _ up (heard-as _ _ _ _ c.in-Ok-End.is c.in-Ok-End.field-0-is)
    c.read.ensures.call hung c.close_overflowed-in-Ok-End.ensures.makes
    c.close_overflowed-in-Ok-End.ensures.after

pub returns-in-Err-clause-performs : goal.returns-in-Err-clause-performs
returns-in-Err-clause-performs g c =
    let up : is_open_at c.args.slot (turn_state c.args.server.now c.args.notes.now) ≡ true =
    search rules in
    reads-broken _ _ _ _ _ _ _ _ _ _ _ up (heard-broken _ _ _ c.in-Err.is) c.read.ensures.call
    c.close_at_once.ensures.call c.close_at_once.ensures.after
    c.close_overflowed-in-Err.ensures.makes
    c.close_overflowed-in-Err.ensures.after
