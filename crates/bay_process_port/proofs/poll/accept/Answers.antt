use Rattle.std.proofs.Common.{Some, None, refl}
use Rattle.bay_process_port.proofs.AttendLemmas.{accepts-none, accepts-one}
use Rattle.bay_process_port.proofs.poll.accept.Goals as goal

pub returns-in-Ok-Some : goal.returns-in-Ok-Some
returns-in-Ok-Some g c =
    accepts-one _ c.args.moment c.args.device.now _ _ _ _ _ _ _
    (rw c.in-Ok-Some.field-0-is at c.in-Ok-Some.ensures.call) c.start_connection.ensures

pub returns-in-Ok-None : goal.returns-in-Ok-None
returns-in-Ok-None g c =
    accepts-none _ c.args.moment c.args.device.now _ _ _ (Some None) refl
    (rw c.in-Ok-None.field-0-is at c.in-Ok-None.ensures.call)

pub returns-in-Err : goal.returns-in-Err
returns-in-Err g c =
    accepts-none _ c.args.moment c.args.device.now _ _ _ None refl
    (rw c.in-Err.is at c.accept.ensures.call)
