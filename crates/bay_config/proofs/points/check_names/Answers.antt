use Rattle.std.proofs.Common.{◌≡◌, ◌∙◌, map, true, false, is_some, sym}
use Rattle.std.specs.List.{list_any}
use Rattle.bay_config.specs.Point.{has_twin}
use Rattle.bay_base.specs.Words.{reserved_of}
use Rattle.bay_config.proofs.PointLemmas.{any-names}
use Rattle.bay_config.proofs.points.check_names.Goals as goal

pub returns-then-has_reserved_name : goal.returns-then-has_reserved_name
returns-then-has_reserved_name c =
    let ps = c.args.points.now in
    let none : has_twin (map (λ p. p.name) ps) ≡ false =
    sym c.has_twin.ensures ∙ c.if-has_twin.false in
    let some : list_any (λ name. is_some (reserved_of name)) (map (λ p. p.name) ps) ≡ true =
    any-names (λ name. is_some (reserved_of name)) ps ∙ sym c.has_reserved_name.ensures
    ∙ c.if-has_reserved_name.true in
    rw (none, some)

pub returns : goal.returns
returns c =
    let ps = c.args.points.now in
    let none : has_twin (map (λ p. p.name) ps) ≡ false =
    sym c.has_twin.ensures ∙ c.if-has_twin.false in
    let some : list_any (λ name. is_some (reserved_of name)) (map (λ p. p.name) ps) ≡ false =
    any-names (λ name. is_some (reserved_of name)) ps ∙ sym c.has_reserved_name.ensures
    ∙ c.if-has_reserved_name.false in
    rw (none, some)
