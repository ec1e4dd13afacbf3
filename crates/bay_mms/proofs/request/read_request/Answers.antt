use Rattle.std.proofs.Common.{arith}
use Rattle.bay_ber.proofs.ReadLemmas.{IsBytes}
use Rattle.bay_mms.proofs.AnswerLemmas.{answer-is, memory-taken}
use Rattle.bay_mms.proofs.request.read_request.Goals as goal

pub returns : goal.returns
returns c =
    let octets = c.args.octets.now in
    let bytes : IsBytes octets = λ i. omega (arith, c.type_inv.octets i) in
    answer-is octets c.parse_request.result bytes c.parse_request.ensures.requested
    (λ e. memory-taken octets bytes (c.parse_request.ensures.memory e))
