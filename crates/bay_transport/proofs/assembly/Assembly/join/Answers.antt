use Rattle.std.proofs.Common.{◌-◌, ◌<◌, length, arith}
use Rattle.bay_transport.proofs.AssemblyLemmas.{too_long, frame-behind}
use Rattle.bay_transport.proofs.assembly.Assembly.join.Goals as goal

pub returns-then-len-gt-TSDU_MAX-clause-err : goal.returns-then-len-gt-TSDU_MAX-clause-err
returns-then-len-gt-TSDU_MAX-clause-err c =
    let a = c.args.self.now in
    let long : 70000 < length a.buffer.items - 7 = omega arith in
    rw c.if-indicator-ne2.false
    (too_long a.size a.buffer.items a.group c.if-is_none.ensures
    (frame-behind a.buffer.items a.group c.requires.bounds c.requires.whole) long)
