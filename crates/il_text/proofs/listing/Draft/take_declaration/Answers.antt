use Rattle.std.proofs.Common.{sym, ◌∙◌}
use Rattle.std.proofs.lemmas.Result.{err_from_is_err_and}
use Rattle.il_text.specs.ListingViews.{draft_data}
use Rattle.il_text.proofs.ListingLemmas.{declared-ok, declared-bad, declared-refused, step-outside, step-initial}
use Rattle.il_text.proofs.listing.Draft.take_declaration.Goals as goal

pub returns-in_default-clause-none : goal.returns-in_default-clause-none
returns-in_default-clause-none c = λ _.
    declared-refused _ _ _ _
    (λ ns. step-outside _ (draft_data c.args.self.now) _ _ _ (sym c.in_default.ensures))

pub returns-then-not-may_begin_with-clause-none : goal.returns-then-not-may_begin_with-clause-none
returns-then-not-may_begin_with-clause-none c = λ _.
    declared-refused _ _ _ _
    (λ ns. step-initial _ (draft_data c.args.self.now) _ _ _ c.in-Some.scope (sym c.in-Some.ensures)
    (sym c.may_begin_with.ensures ∙ c.if-not-may_begin_with.true))

pub returns-in_err-declare-clause-none : goal.returns-in_err-declare-clause-none
returns-in_err-declare-clause-none c =
    let p = err_from_is_err_and c.from_residual.result c.from_residual.ensures.1 in
    rw (p.1, p.2) (λ m. declared-bad c.args.line (draft_data c.args.self.now) c.in-Some.scope
    c.args.tail _ (c.in_err-declare.ensures.none m))

pub returns-clause-ok : goal.returns-clause-ok
returns-clause-ok c =
    declared-ok c.args.line (draft_data c.args.self.now) c.in-Some.scope c.args.tail _ _
    (sym c.in-Some.ensures)
    (sym c.may_begin_with.ensures ∙ c.if-not-may_begin_with.false) c.in_ok-declare.ensures.ok
