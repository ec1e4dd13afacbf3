use Rattle.std.proofs.Common.{◌≡◌, length, sym, ap, ◌∙◌, arith}
use Rattle.bay_assoc.specs.Session.{units_in}
use Rattle.bay_assoc.proofs.UnitLemmas.{units-step, units-stop, units-end}
use Rattle.bay_assoc.proofs.session.Units.next_unit.Goals as goal

pub returns-then-is_empty : goal.returns-then-is_empty
returns-then-is_empty c =
    let left : c.self.inside.rest.now ≡ c.args.self.now = c.self.view_is in
    ap units_in (sym left) ∙ units-end c.self.inside.rest.now c.if-is_empty.ensures

pub returns-in-Some : goal.returns-in-Some
returns-in-Some c =
    let left : c.self.inside.rest.now ≡ c.args.self.now = c.self.view_is in
    let same = ap length left in (
      ap units_in (sym left) ∙ units-step c.self.inside.rest.now _ (sym c.in-Some.ensures.exact),
      omega (arith, c.in-Some.ensures.shorter),
    )

pub returns-in-None : goal.returns-in-None
returns-in-None c =
    let left : c.self.inside.rest.now ≡ c.args.self.now = c.self.view_is in
    ap units_in (sym left) ∙ units-stop c.self.inside.rest.now c.if-is_empty.ensures
    (sym c.in-None.ensures.exact)
