use Rattle.std.proofs.Common.{◌≡◌, length, sym, ap, arith}
use Rattle.bay_tree.proofs.tree.Tree.index_after.Goals as goal

pub overflow_add-result : goal.overflow_add-result
overflow_add-result c =
    let long : length c.args.self.now ≡ length c.self.inside.rows.items =
    sym (ap length c.self.view_is) in
    let found = rw c.in-Ok.is at c.find_octets.ensures.found in
    omega (arith, long, found.0, c.self.inside.rows.ok, c.self.inside.rows.small)
