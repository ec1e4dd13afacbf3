use Rattle.std.proofs.Common.{◌≤◌, List, length, slice_get, sym, ap, ◌∙◌, arith}
use Rattle.std.proofs.lemmas.Bool.Decides.{nat_tests}
use Rattle.il_image.specs.declared.value.Value.{Value}
use Rattle.il_scan.specs.OutputValues.{is_true, output_value}
use Rattle.il_scan.proofs.PlaceLemmas.{below-at, mapped-at, mapped-none}
use Rattle.il_scan.proofs.points.Outputs.is_true.Goals as goal

pub is_output_true-requires-clause-within : goal.is_output_true-requires-clause-within
is_output_true-requires-clause-within c =
    below-at (length c.self.inside.points.now) c.self.inside.writes.now c.args.place
    c.self.invariant.1 c.if-place-self.true

pub returns-then-place-self : goal.returns-then-place-self
returns-then-place-self c =
    let f = output_value c.self.inside.points.now c.self.inside.slots.now in
    let there = mapped-at f c.self.inside.writes.now c.args.place c.if-place-self.true in
    c.is_output_true.ensures
    ∙ ap is_true (sym there
    ∙ ap (λ (vs : List Value). slice_get vs c.args.place) c.self.view_is)

pub returns-else-place-self : goal.returns-else-place-self
returns-else-place-self c =
    let f = output_value c.self.inside.points.now c.self.inside.slots.now in
    let past : length c.self.inside.writes.now ≤ c.args.place = grind (arith, nat_tests) in
    sym (ap is_true (ap (λ (vs : List Value). slice_get vs c.args.place) (sym c.self.view_is)
    ∙ mapped-none f c.self.inside.writes.now c.args.place past))
