use Rattle.bay_server.proofs.turns.report_connection_event.Goals as goal

pub returns-in-Some : goal.returns-in-Some
returns-in-Some g c =
    rw c.in-Some.is (
      c.log_connection_event.new.writer,
      c.log_connection_event.ensures,
      c.write_connection_event.ensures,
    )
