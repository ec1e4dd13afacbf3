use Rattle.std.proofs.Common.{Option, option_map, option_and_then, sym, refl, ap, ◌∙◌}
use Rattle.il_text.specs.Literals.{Duration, milliseconds, total_of}
use Rattle.il_text.specs.Durations.{duration_view, capped_time}
use Rattle.il_text.proofs.DurationLemmas.{none-from, total-from}
use Rattle.il_text.proofs.literal.parse_milliseconds.Goals.{else-last-via-then-last+else-is_empty, else-last-via-else-last}
use Rattle.il_text.proofs.literal.parse_milliseconds.Goals as goal

pub returns-in_default : goal.returns-in_default
unfolding milliseconds
returns-in_default c =
    let none =
    none-from _ (c.parse_parts.ensures ∙ ap (option_map duration_view) c.in_default.is) in
    sym (ap (λ (o : Option Duration). capped_time (option_and_then total_of o)) none)

pub returns-then-is_empty : goal.returns-then-is_empty
unfolding milliseconds
returns-then-is_empty c =
    let total =
    total-from _ (duration_view c.in-Some.last)
    (c.parse_parts.ensures ∙ ap (option_map duration_view) c.in-Some.is) in
    let begun = c.if-last.true in
    let empty = sym c.is_empty.ensures ∙ c.if-is_empty.true in
    sym (total ∙ rw (begun, empty) refl)

pub returns-else-last : goal.returns-else-last
unfolding milliseconds
returns-else-last c =
    let total =
    total-from _ (duration_view c.in-Some.last)
    (c.parse_parts.ensures ∙ ap (option_map duration_view) c.in-Some.is) in
    elim c.else-last.branch [
      | else-last-via-then-last+else-is_empty w ↦ (
          let empty = sym w.is_empty.ensures ∙ w.if-is_empty.false in
          sym (total ∙ rw (w.if-last.true, empty) refl))
      | else-last-via-else-last w ↦ sym (total ∙ rw w.if-last.false refl)
    ]
