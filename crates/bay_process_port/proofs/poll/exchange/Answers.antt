use Rattle.std.proofs.lemmas.Result.{err_from_is_err_and}
use Rattle.bay_process_port.proofs.AttendLemmas.{talks-unoffered, talks-untold, talks-whole}
use Rattle.bay_process_port.specs.ProcessOutput.{reported_turn}
use Rattle.bay_process_port.proofs.BoundLemmas.{bound-trans}
use Rattle.bay_process_port.proofs.poll.exchange.Goals as goal

pub returns-in_err-queue_report-clause-does : goal.returns-in_err-queue_report-clause-does
returns-in_err-queue_report-clause-does g c =
    let p = err_from_is_err_and c.from_residual.result c.from_residual.ensures.1 in
    let text = reported_turn c.args.moment c.args.turn.now c.args.device.now in
    rw (p.1, p.2) (talks-untold _ text c.args.device.now _ _ _ _
    c.in_err-queue_report.ensures.leads)

pub returns-in_err-offer-clause-does : goal.returns-in_err-offer-clause-does
returns-in_err-offer-clause-does g c =
    let p =
    err_from_is_err_and c.from_residual-in_err-offer.result c.from_residual-in_err-offer.ensures.1
    in
    let text = reported_turn c.args.moment c.args.turn.now c.args.device.now in
    rw (p.1, p.2)
    (talks-unoffered _ text c.args.device.now _ _ _ c.in_ok-queue_report.ensures.leads _ _ _
    c.in_err-offer.ensures.does)

pub returns-clause-does : goal.returns-clause-does
returns-clause-does g c =
    let text = reported_turn c.args.moment c.args.turn.now c.args.device.now in
    talks-whole _ text c.args.device.now _ _ _ c.in_ok-queue_report.ensures.leads _ _
    c.in_ok-offer.ensures.does _ _ _ c.read.ensures.does

pub returns-in_err-offer-clause-bound : goal.returns-in_err-offer-clause-bound
returns-in_err-offer-clause-bound g c =
    bound-trans _ _ _ c.in_ok-queue_report.ensures.bound c.in_err-offer.ensures.bound

pub returns-clause-bound : goal.returns-clause-bound
returns-clause-bound g c =
    bound-trans _ _ _ c.in_ok-queue_report.ensures.bound
    (bound-trans _ _ _ c.in_ok-offer.ensures.bound c.read.ensures.bound)
