use Rattle.std.proofs.lemmas.Result.{err_from_is_err_and}
use Rattle.bay_process_port.proofs.AttendLemmas.{begins-gone, begins-not, begins-whole}
use Rattle.bay_process_port.proofs.BoundLemmas.{bound-trans}
use Rattle.bay_process_port.proofs.port.Port.begin.Goals as goal

pub returns-in_err-greet-clause-does : goal.returns-in_err-greet-clause-does
returns-in_err-greet-clause-does g c =
    let p = err_from_is_err_and c.from_residual.result c.from_residual.ensures.1 in
    rw (p.1, p.2)
    (begins-not _ c.args.moment c.args.device.now _ _ _ _ c.in_err-greet.ensures.leads)

pub returns-in_err-read-clause-does : goal.returns-in_err-read-clause-does
returns-in_err-read-clause-does g c =
    let p =
    err_from_is_err_and c.from_residual-in_err-read.result c.from_residual-in_err-read.ensures.1 in
    rw (p.1, p.2)
    (begins-gone _ c.args.moment c.args.device.now _ _ _ c.in_ok-greet.ensures.leads _ _ _
    c.in_err-read.ensures.does)

pub returns-in_err-read-clause-bound : goal.returns-in_err-read-clause-bound
returns-in_err-read-clause-bound g c =
    bound-trans _ _ _ c.in_ok-greet.ensures.bound c.in_err-read.ensures.bound

pub returns-clause-does : goal.returns-clause-does
returns-clause-does g c =
    begins-whole _ c.args.moment c.args.device.now _ _ _ c.in_ok-greet.ensures.leads _ _ _ _ _
    c.in_ok-read.ensures.does c.read-2.ensures.does

pub returns-clause-bound : goal.returns-clause-bound
returns-clause-bound g c =
    bound-trans _ _ _ c.in_ok-greet.ensures.bound
    (bound-trans _ _ _ c.in_ok-read.ensures.bound c.read-2.ensures.bound)
