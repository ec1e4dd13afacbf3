use Rattle.std.proofs.Common.{Err, sym, ◌∙◌, ap, refl, None}
use Rattle.std.proofs.lemmas.Result.{err_from_is_err_and}
use Rattle.il_text.specs.FormViews.{line_parts}
use Rattle.il_text.specs.ListingViews.{draft_data, progress_of}
use Rattle.il_text.specs.TokenViews.{symbols_of}
use Rattle.il_text.proofs.ListingLemmas.{line-taken, line-refused}
use Rattle.il_text.proofs.listing.Draft.take_line.Goals as goal

pub returns-in_default-clause-refused : goal.returns-in_default-clause-refused
returns-in_default-clause-refused c = λ _.
    line-refused c.args.position.line c.args.position.last (progress_of c.args.self.now)
    (symbols_of c.args.tokens.now) None c.in_default.ensures refl

pub returns-in_err-take_form-clause-refused : goal.returns-in_err-take_form-clause-refused
returns-in_err-take_form-clause-refused c =
    let p = err_from_is_err_and c.from_residual.result c.from_residual.ensures.1 in
    rw (p.1, p.2)
    (λ m. line-refused c.args.position.line c.args.position.last (progress_of c.args.self.now)
    (symbols_of c.args.tokens.now) (line_parts c.in-Some.form) c.in-Some.ensures
    (c.in_err-take_form.ensures.none m)
    ∙ ap Err (sym (c.in_err-take_form.ensures.bad m)))

pub returns-in_err-count-clause-refused : goal.returns-in_err-count-clause-refused
returns-in_err-count-clause-refused c =
    let p = err_from_is_err_and c.from_residual-in_err-count.result
    c.from_residual-in_err-count.ensures.1 in
    rw (p.1, p.2)
    (λ m. line-taken c.args.position.line c.args.position.last (progress_of c.args.self.now)
    (symbols_of c.args.tokens.now) (line_parts c.in-Some.form) (draft_data c.take_form.new.self)
    c.has_instruction.result
    c.in-Some.ensures c.has_instruction.ensures c.in_ok-take_form.ensures.ok
    ∙ rw (c.if-has_instruction.true, sym c.in_ok-take_form.ensures.count)
    c.in_err-count.ensures.refused)

pub returns-in_ok-count-clause-ok : goal.returns-in_ok-count-clause-ok
returns-in_ok-count-clause-ok c =
    line-taken c.args.position.line c.args.position.last (progress_of c.args.self.now)
    (symbols_of c.args.tokens.now) (line_parts c.in-Some.form) (draft_data c.take_form.new.self)
    c.has_instruction.result
    c.in-Some.ensures c.has_instruction.ensures c.in_ok-take_form.ensures.ok
    ∙ rw (c.if-has_instruction.true, sym c.in_ok-take_form.ensures.count) c.in_ok-count.ensures.ok

pub returns-else-has_instruction-clause-ok : goal.returns-else-has_instruction-clause-ok
returns-else-has_instruction-clause-ok c =
    line-taken c.args.position.line c.args.position.last (progress_of c.args.self.now)
    (symbols_of c.args.tokens.now) (line_parts c.in-Some.form) (draft_data c.take_form.new.self)
    c.has_instruction.result
    c.in-Some.ensures c.has_instruction.ensures c.in_ok-take_form.ensures.ok
    ∙ rw (c.if-has_instruction.false, c.in_ok-take_form.ensures.count) refl
