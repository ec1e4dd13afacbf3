use Rattle.std.proofs.Common.{◌≡◌, ◌+◌, length, sym, ap, arith}
use Rattle.bay_mms.specs.Pages.{NameTextsData}
use Rattle.bay_mms.proofs.names.NameTexts.size.Goals as goal

pub overflow_add-start : goal.overflow_add-start
overflow_add-start c =
    let long : length c.args.self.now.ends ≡ length c.self.inside.ends.items =
    ap (λ (n : NameTextsData). length n.ends) (sym c.self.view_is) in
    omega (arith, long, c.requires, c.self.inside.ends.ok, c.self.inside.ends.small)

pub overflow_sub-result : goal.overflow_sub-result
overflow_sub-result c =
    let long : length c.args.self.now.ends ≡ length c.self.inside.ends.items =
    ap (λ (n : NameTextsData). length n.ends) (sym c.self.view_is) in
    let rise = c.self.invariant.rise c.args.start (c.args.start + c.args.count) (omega arith)
    (omega (arith, long, c.requires)) in
    omega (
      arith,
      rise,
      rw c.deref.ensures.value at c.begin_of_name.ensures,
      rw c.deref-2.ensures.value at c.begin_of_name-2.ensures,
    )
