use Rattle.std.proofs.Common.{◌+◌, length, refl, arith}
use Rattle.bay_assoc.proofs.FrontLemmas.{front-is}
use Rattle.bay_assoc.proofs.data_prefix.data_prefix.Goals as goal

pub returns-clause-text : goal.returns-clause-text
returns-clause-text c =
    let value = c.args.value.now in
    rw (
      c.extend-3.ensures.text,
      c.as_slice-2.ensures.value,
      c.push_header-3.ensures.text,
      c.extend-2.ensures.text,
      c.new-out.ensures,
    )
    (front-is c.args.id (c.len.result + length value) (c.len-2.result + length value)
    c.push_header.new.out.items c.extend.new.out.items value
    (rw (c.push_header.ensures.text, c.push_id.ensures.text, c.new-inner.ensures) refl)
    (omega (arith, c.len.ensures.value))
    (rw (
      c.extend.ensures.text,
      c.as_slice.ensures.value,
      c.push_header-2.ensures.text,
      c.new-list.ensures,
    ) refl)
    (omega (arith, c.len-2.ensures.value)))
