use Rattle.std.proofs.Common.{◌*◌, ◌∙◌, arith}
use Rattle.std.proofs.lemmas.Nat.{one_shl}
use Rattle.bay_ber.proofs.OctetLemmas.{pow-octets}
use Rattle.bay_ber.proofs.content.span.Goals as goal

pub returns : goal.returns
returns c = one_shl (8 * c.args.count) 128 (omega arith) ∙ pow-octets c.args.count
