use Rattle.bay_assoc.proofs.receive.answer_connect.Goals as goal

pub returns-clause-text : goal.returns-clause-text
returns-clause-text c =
    rw (
      c.as_slice-3.ensures,
      c.in_ok-user.ensures.text,
      c.as_slice-list.ensures.value,
      c.as_slice-2.ensures,
      c.in_ok-value.ensures.text,
      c.as_slice.ensures,
      c.in_ok-pdu.ensures.text,
    ) at c.accept.ensures.text
