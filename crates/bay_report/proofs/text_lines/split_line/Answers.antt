use Rattle.std.proofs.Common.{rules, ◌+◌, ◌-◌, ◌<◌, length, subst, arith, sym, ◌∙◌}
use Rattle.bay_report.specs.TextLines.{CutsLine}
use Rattle.bay_report.proofs.FeedLemmas.{first-feed, no-feed}
use Rattle.bay_report.proofs.PieceLemmas.{cuts-fed, cuts-unfed}
use Rattle.bay_base.proofs.ListLemmas.{take-rest}
use Rattle.bay_report.proofs.text_lines.split_line.Goals as goal

pub slice_bounds-strip_return-end : goal.slice_bounds-strip_return-end
slice_bounds-strip_return-end c =
    let first =
    first-feed c.args.text.now 0 _ _ _
    (sym c.memchr_iter.ensures.value ∙ c.in-Some.ensures.steps) in
    let within : c.in-Some.at < length c.args.text.now = omega (arith, first.high) in
    search (rules, within)

pub overflow_add-result : goal.overflow_add-result
overflow_add-result c =
    let first =
    first-feed c.args.text.now 0 _ _ _
    (sym c.memchr_iter.ensures.value ∙ c.in-Some.ensures.steps) in
    let within : c.in-Some.at < length c.args.text.now = omega (arith, first.high) in
    search (rules, within)

pub slice_bounds-result-count : goal.slice_bounds-result-count
slice_bounds-result-count c =
    let first =
    first-feed c.args.text.now 0 _ _ _
    (sym c.memchr_iter.ensures.value ∙ c.in-Some.ensures.steps) in
    let within : c.in-Some.at < length c.args.text.now = omega (arith, first.high) in
    search (rules, within)

pub slice_bounds-result-start : goal.slice_bounds-result-start
slice_bounds-result-start c =
    let first =
    first-feed c.args.text.now 0 _ _ _
    (sym c.memchr_iter.ensures.value ∙ c.in-Some.ensures.steps) in
    let within : c.in-Some.at < length c.args.text.now = omega (arith, first.high) in
    search (rules, within)

pub returns-in-Some-clause-cuts : goal.returns-in-Some-clause-cuts
returns-in-Some-clause-cuts c =
    let xs = c.args.text.now in
    let line = c.strip_return.result.now in
    let first = first-feed xs 0 _ _ _ (sym c.memchr_iter.ensures.value ∙ c.in-Some.ensures.steps) in
    subst (CutsLine xs line) (sym (take-rest xs (c.in-Some.at + 1)))
    (cuts-fed xs line c.in-Some.at (omega (arith, first.high))
    (λ k lt. first.before k (omega arith) lt) first.at c.strip_return.ensures)

pub returns-in-None-clause-cuts : goal.returns-in-None-clause-cuts
returns-in-None-clause-cuts c =
    let xs = c.args.text.now in
    let none =
    no-feed xs 0 (length xs - 0) (sym c.memchr_iter.ensures.value ∙ c.in-None.ensures.steps.0)
    in
    subst (CutsLine xs xs) (sym (take-rest xs (length xs)))
    (cuts-unfed xs c.requires (λ k lt. none k (omega arith) (omega (arith, lt))))
