use Rattle.bay_server.proofs.control_lines.log_decision.Goals as goal

pub returns-in-Some : goal.returns-in-Some
returns-in-Some g c =
    rw c.in-Some.is (rw (
      c.switch_id-id.ensures,
      c.as_slice-in-Some.ensures,
      c.new-ident.ensures,
      c.as_slice.ensures,
    ) at c.log_written.ensures)
