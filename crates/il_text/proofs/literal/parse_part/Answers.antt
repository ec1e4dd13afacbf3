use Rattle.std.proofs.Common.{◌≡◌, ℕ, List, Some, None, true, false, option_map, take, drop, sym, refl, ap, ◌∙◌}
use Rattle.bay_base.specs.Names.{same_name}
use Rattle.il_text.specs.Literals.{number_len, unit_len, number_of_part}
use Rattle.il_text.specs.Runs.{capped_number}
use Rattle.il_text.specs.Durations.{duration_view}
use Rattle.il_text.proofs.DurationLemmas.{part-other, part-bad, part-more}
use Rattle.il_text.proofs.literal.parse_part.Goals as goal

pub returns-then-not-same_letters : goal.returns-then-not-same_letters
returns-then-not-same_letters c = λ before e.
    let r : List ℕ = c.in_ok-duration.duration.rest.now in
    let letters : c.split_at-2.result.0.now ≡ take (unit_len r) (drop (number_len r) r) =
    c.split_at-2.ensures.front
    ∙ rw (c.letter_len.ensures.len, c.split_at.ensures.back, c.number_len.ensures.len) refl in
    let other : same_name (take (unit_len r) (drop (number_len r) r)) c.args.unit.now ≡ false =
    sym (c.same_letters.ensures ∙ ap (λ (w : List ℕ). same_name w c.args.unit.now) letters)
    ∙ c.if-not-same_letters.true in
    part-other before (duration_view c.in_ok-duration.duration) c.args.unit.now c.args.factor
    (e ∙ ap (option_map duration_view) c.in_ok-duration.was) other

pub returns-in_err-number : goal.returns-in_err-number
returns-in_err-number c = λ before e.
    let r : List ℕ = c.in_ok-duration.duration.rest.now in
    let letters : c.split_at-2.result.0.now ≡ take (unit_len r) (drop (number_len r) r) =
    c.split_at-2.ensures.front
    ∙ rw (c.letter_len.ensures.len, c.split_at.ensures.back, c.number_len.ensures.len) refl in
    let same : same_name (take (unit_len r) (drop (number_len r) r)) c.args.unit.now ≡ true =
    sym (c.same_letters.ensures ∙ ap (λ (w : List ℕ). same_name w c.args.unit.now) letters)
    ∙ c.if-not-same_letters.false in
    let digits : c.split_at.result.0.now ≡ take (number_len r) r =
    c.split_at.ensures.front ∙ rw c.number_len.ensures.len refl in
    let bad : capped_number (number_of_part c.in_ok-duration.duration.begun (take (number_len r) r))
    ≡ None =
    sym (c.part_number.ensures
    ∙ ap (λ (w : List ℕ). capped_number (number_of_part c.in_ok-duration.duration.begun w)) digits)
    ∙ c.in_err-number.was in
    part-bad before (duration_view c.in_ok-duration.duration) c.args.unit.now c.args.factor
    (e ∙ ap (option_map duration_view) c.in_ok-duration.was) same bad
    ∙ sym (ap (option_map duration_view) c.from_residual-in_err-number.ensures)

pub returns : goal.returns
returns c = λ before e.
    let r : List ℕ = c.in_ok-duration.duration.rest.now in
    let letters : c.split_at-2.result.0.now ≡ take (unit_len r) (drop (number_len r) r) =
    c.split_at-2.ensures.front
    ∙ rw (c.letter_len.ensures.len, c.split_at.ensures.back, c.number_len.ensures.len) refl in
    let rest : c.split_at-2.result.1.now ≡ drop (unit_len r) (drop (number_len r) r) =
    c.split_at-2.ensures.back
    ∙ rw (c.letter_len.ensures.len, c.split_at.ensures.back, c.number_len.ensures.len) refl in
    let same : same_name (take (unit_len r) (drop (number_len r) r)) c.args.unit.now ≡ true =
    sym (c.same_letters.ensures ∙ ap (λ (w : List ℕ). same_name w c.args.unit.now) letters)
    ∙ c.if-not-same_letters.false in
    let digits : c.split_at.result.0.now ≡ take (number_len r) r =
    c.split_at.ensures.front ∙ rw c.number_len.ensures.len refl in
    let number : capped_number
    (number_of_part c.in_ok-duration.duration.begun (take (number_len r) r))
    ≡ Some c.in_ok-number.number =
    sym (c.part_number.ensures
    ∙ ap (λ (w : List ℕ). capped_number (number_of_part c.in_ok-duration.duration.begun w)) digits)
    ∙ c.in_ok-number.was in
    rw (rest, c.add_capped.ensures)
    (part-more before (duration_view c.in_ok-duration.duration) c.args.unit.now c.args.factor
    c.in_ok-number.number c.requires.some (e ∙ ap (option_map duration_view) c.in_ok-duration.was)
    same
    number)
