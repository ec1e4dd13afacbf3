use Rattle.std.proofs.Common.{ap, ◌∙◌}
use Rattle.bay_process_port.proofs.AttendLemmas.{welcomes-gone, welcomes-taken}
use Rattle.bay_process_port.proofs.BoundLemmas.{emptied-same, emptied-twice}
use Rattle.bay_process_port.specs.Ports.{with_no_data}
use Rattle.bay_process_port.specs.declared.port.Presence.TheVariants.{Absent, Present}
use Rattle.bay_process_port.proofs.poll.start_connection.Goals as goal

pub returns-in-Ok : goal.returns-in-Ok
returns-in-Ok g c =
    welcomes-taken _ c.args.moment c.args.device.now _ _ c.args.port.now _
    (rw c.set_presence.ensures at c.in-Ok.ensures.does)

pub returns-in-Err : goal.returns-in-Err
returns-in-Err g c =
    let same = c.set_presence-in-Err.ensures ∙ emptied-same Absent _ _ c.in-Err.ensures.bound
    ∙ ap (with_no_data Absent) c.set_presence.ensures
    ∙ emptied-twice Absent Present c.args.port.now in
    rw same
    (welcomes-gone _ c.args.moment c.args.device.now _ _ _ c.args.port.now _ _
    (rw c.set_presence.ensures at c.in-Err.ensures.does) c.close.ensures)
