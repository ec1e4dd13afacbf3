use Rattle.std.proofs.Common.{[], map, arith}
use Rattle.std.proofs.lemmas.Result.{err_from_is_err_and}
use Rattle.bay_mms.specs.RequestViews.{object_name_view}
use Rattle.bay_mms.specs.Responses.{read_text}
use Rattle.bay_mms_services.specs.Reads.{read_all}
use Rattle.bay_mms_services.specs.Views.{bay_of, read_state_view}
use Rattle.bay_mms_services.proofs.ReplyLemmas.{fault-told, response-more}
use Rattle.bay_mms_services.proofs.invocation.Invocation.read_response.Goals as goal

pub returns-in_err-read_all-clause-response : goal.returns-in_err-read_all-clause-response
returns-in_err-read_all-clause-response c =
    let p = err_from_is_err_and c.from_residual-in_err-read_all.result
    c.from_residual-in_err-read_all.ensures.1 in
    let results =
    (read_all c.args.self.now.client (bay_of c.args.self.now)
    (map object_name_view c.args.names.now)
    (read_state_view c.args.self.now.bay.now c.args.controls.now
    c.args.decisions.now.items [])).results in
    rw (p.1, p.2) (fault-told c.in_err-read_all.field-0.0 c.args.self.now.client.size
    (read_text c.args.self.now.id results)
    (λ is. let long = rw c.in_ok-response.ensures at c.in_err-read_all.ensures.long is in
    omega (arith, response-more c.args.self.now.id results, long)))
