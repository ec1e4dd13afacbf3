use Rattle.std.proofs.Common.{codes}
use Rattle.std.specs.Fmt.{decimal}
use Rattle.cmd_audit.proofs.TextLemmas.{after-ok}
use Rattle.cmd_audit.proofs.text.put_holds.Goals as goal

pub returns : goal.returns
returns c =
    after-ok c.put_number.result c.args.text.now.items c.extend_from_slice.new.self.items
    c.put_number.new.text.items (codes " holds cases=") (decimal c.args.cases)
    c.in_ok-extend_from_slice.ensures.items (rw c.from.ensures at c.put_number.ensures)
