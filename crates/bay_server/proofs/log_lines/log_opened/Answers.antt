use Rattle.std.proofs.Common.{refl}
use Rattle.bay_server.proofs.LineCountLemmas.{take-none, take-one}
use Rattle.bay_server.proofs.LogLemmas.{logs-one}
use Rattle.bay_server.proofs.log_lines.log_opened.Goals as goal

pub returns-then-room-eq0 : goal.returns-then-room-eq0
returns-then-room-eq0 g c = rw c.if-room-eq0.true refl

pub returns-in-Some : goal.returns-in-Some
returns-in-Some g c =
    rw (c.in-Some.is, take-one c.args.room _ c.if-room-eq0.false)
    (logs-one g.W.Sink.contents g.W.Sink.does _ _ _ c.log_open.ensures)

pub returns-in-None : goal.returns-in-None
returns-in-None g c = rw (c.in-None.is, take-none c.args.room) refl
