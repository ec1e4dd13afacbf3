use Rattle.std.proofs.Common.{ap, ◌∙◌}
use Rattle.std.specs.Fmt.{decimal}
use Rattle.bay_io.proofs.SentLemmas.{Puts-as, Puts-then}
use Rattle.bay_server.proofs.turns.put_disconnect.Goals as goal

pub returns : goal.returns
returns g c =
    Puts-then (Puts-then (Puts-then c.put_number.ensures c.put.ensures)
    (Puts-as _ (ap decimal (c.from.ensures ∙ c.code.ensures)) c.put_number-2.ensures))
    c.put-2.ensures
