use Rattle.std.proofs.Common.{arith}
use Rattle.bay_assoc.proofs.FrontLemmas.{number-one, number-two, number-three}
use Rattle.bay_assoc.proofs.data_prefix.push_id.Goals as goal

pub returns-in-0-to-127-clause-text : goal.returns-in-0-to-127-clause-text
returns-in-0-to-127-clause-text c =
    rw (c.push-in-0-to-127-2.ensures.items, c.push-in-0-to-127.ensures.items, c.push.ensures.items)
    (number-one c.args.out.now.items c.args.id (omega arith))

pub returns-in-128-to-32767-clause-text : goal.returns-in-128-to-32767-clause-text
returns-in-128-to-32767-clause-text c =
    rw (
      c.push-in-128-to-32767-3.ensures.items,
      c.push-in-128-to-32767-2.ensures.items,
      c.push-in-128-to-32767.ensures.items,
      c.push.ensures.items,
    )
    (number-two c.args.out.now.items c.args.id (omega arith) (omega arith))

pub returns-in-32768-to-65535-clause-text : goal.returns-in-32768-to-65535-clause-text
returns-in-32768-to-65535-clause-text c =
    rw (
      c.push-in-32768-to-65535-4.ensures.items,
      c.push-in-32768-to-65535-3.ensures.items,
      c.push-in-32768-to-65535-2.ensures.items,
      c.push-in-32768-to-65535.ensures.items,
      c.push.ensures.items,
    ) (number-three c.args.out.now.items c.args.id (omega arith)
    (omega arith))
