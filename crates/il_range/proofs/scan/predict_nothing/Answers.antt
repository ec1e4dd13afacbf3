use Rattle.std.proofs.Common.{◌≡◌, ◌+◌, length, ap, ap₂, ◌∙◌, replicate}
use Rattle.std.proofs.lemmas.List.{length-replicate}
use Rattle.il_range.specs.declared.range.Range.TheVariants.{Any}
use Rattle.il_range.proofs.StartLemmas.{any-tells, slot_count}
use Rattle.il_range.proofs.scan.predict_nothing.Goals as goal

count : (c : goal.After-new-2) → c.in_ok-ranges.ranges.items
    ≡ replicate (slot_count c.args.image.now) Any
count c =
    c.in_ok-ranges.ensures
    ∙ ap₂ (λ points variables. replicate (length points + length variables) Any)
    c.points.ensures.value c.variables.ensures.value

pub returns-clause-size : goal.returns-clause-size
returns-clause-size c = ap length (count c) ∙ length-replicate (slot_count c.args.image.now) Any

pub returns-clause-predicts : goal.returns-clause-predicts
returns-clause-predicts c start delays =
    any-tells c.args.image.now start delays c.new.result.items c.in_ok-ranges.ranges.items
    c.new.ensures.items (count c)
