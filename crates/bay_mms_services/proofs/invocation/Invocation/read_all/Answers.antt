use Rattle.std.proofs.Common.{arith}
use Rattle.std.proofs.lemmas.Result.{err_from_is_err_and}
use Rattle.bay_mms_services.specs.Views.{bay_of, read_state_view}
use Rattle.bay_mms_services.proofs.ReadLemmas.{long-all}
use Rattle.bay_mms_services.proofs.invocation.Invocation.read_all.Goals as goal

pub returns-in_err-read_one-clause-long : goal.returns-in_err-read_one-clause-long
returns-in_err-read_one-clause-long c =
    let p = err_from_is_err_and c.from_residual.result c.from_residual.ensures.1 in
    rw (p.1, p.2) (λ is. long-all c.args.self.now.client (bay_of c.args.self.now)
    c.args.response.now.size
    c.args.names.now
    c.loop-name.name-index _
    (read_state_view c.args.self.now.bay.now c.args.controls.now c.args.decisions.now.items
    c.args.response.now.octets)
    (read_state_view c.args.self.now.bay.now c.loop-name.controls c.loop-name.decisions.items
    c.loop-name.response.octets)
    c.loop-name.invariant.ok
    (omega (arith, c.loop-name-test.true))
    (rw c.loop-name.invariant.size at c.in_err-read_one.ensures.long is))
