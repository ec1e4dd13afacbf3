use Rattle.std.proofs.Common.{refl, ◌∙◌}
use Rattle.std.specs.String.{string_bytes}
use Rattle.std.specs.Option.{option_copied}
use Rattle.il_text.specs.Views.{declared_name}
use Rattle.il_check.proofs.TakenLemmas.{taken}
use Rattle.il_check.proofs.declare.Declarations.declare.Goals as goal

pub returns : goal.returns
returns c =
    taken c.args.points.now (declared_name c.args.declaration.now) c.args.self.now _ c.add.new.self
    (string_bytes c.in_ok-name.name) c.in_ok-text.text
    (option_copied c.point_of-point.result) c.in_ok-is_known.is_known c.is_full-is_full.result
    c.next_meaning-meaning.result
    c.in_ok-name.ensures (c.in_ok-text.ensures ∙ c.as_str.ensures.value) c.point_of-point.ensures
    (record {
      beyond = c.is_full-is_full.ensures;
      meant = c.next_meaning-meaning.ensures;
      known = c.in_ok-is_known.ensures.known;
      meanings = c.in_ok-is_known.ensures.meanings;
      found = c.declaration_fault-self.ensures;
      externals = refl;
      variables = refl;
      timers = refl;
    })
    c.in_ok-add.ensures
