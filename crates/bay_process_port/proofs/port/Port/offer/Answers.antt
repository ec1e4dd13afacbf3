use Rattle.std.proofs.Common.{◌≡◌, ◌==◌, Some, Ok, false, length, refl, rules}
use Rattle.bay_server_turn.specs.Calls.{CountedCall, Writes}
use Rattle.bay_process_port.specs.Ports.{PortData}
use Rattle.bay_process_port.proofs.AttendLemmas.{offers-some}
use Rattle.bay_process_port.proofs.port.Port.offer.Goals as goal

pub returns-in-Ok-clause-does : goal.returns-in-Ok-clause-does
returns-in-Ok-clause-does g c =
    let before : PortData = c.args.self.now in
    let some : (length before.queue == 0) ≡ false = search rules in
    let call : CountedCall g.L.Link.does g.L.Link.failures c.args.link.now
    (Writes 1 before.queue (Some c.in-Ok.count)) c.write.new.self = search rules in
    offers-some (CountedCall g.L.Link.does g.L.Link.failures) c.args.link.now c.write.new.self
    before _ (Some c.in-Ok.count) (Ok tt) some (search rules) (c.write.new.self, call, refl)
