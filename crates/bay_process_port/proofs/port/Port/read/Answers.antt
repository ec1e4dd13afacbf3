use Rattle.std.proofs.Common.{◌≡◌, ◌≤◌, ◌+◌, nat_le, true, take, length, arith, rules}
use Rattle.std.proofs.lemmas.List.{length-take}
use Rattle.bay_lines.specs.FirstLines.{first_line_of}
use Rattle.bay_server_turn.specs.Calls.{CountedCall, Octets, read_outcome_of}
use Rattle.bay_process_port.specs.Fit.{is_waiting}
use Rattle.bay_process_port.specs.Ports.{PortData}
use Rattle.bay_process_port.proofs.AttendLemmas.{reads-some}
use Rattle.bay_process_port.proofs.port.Port.read.Goals as goal

pub returns-in-Ok-Bytes-clause-does : goal.returns-in-Ok-Bytes-clause-does
returns-in-Ok-Bytes-clause-does g c =
    let before : PortData = c.args.self.now in
    let octets = take c.in-Ok-Bytes.count c.read.new.room in
    let waits : is_waiting (first_line_of before.buffer) ≡ true = search rules in
    let is : read_outcome_of c.read.result c.read.new.room ≡ Octets octets = search rules in
    let few : length octets ≤ 4096 =
    omega (arith, length-take c.in-Ok-Bytes.count c.read.new.room) in
    let fits : c.put.result ≡ nat_le (length before.buffer + length octets) 4352 = search rules in
    reads-some (CountedCall g.L.Link.does g.L.Link.failures) c.args.link.now c.read.new.self
    before _ octets (read_outcome_of c.read.result c.read.new.room) c.put.result waits is
    c.read.ensures.call few fits (search rules)
