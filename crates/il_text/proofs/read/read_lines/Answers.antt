use Rattle.std.proofs.Common.{◌≤◌, length, sym, ◌∙◌, refl}
use Rattle.std.proofs.lemmas.Result.{err_from_is_err_and}
use Rattle.il_text.specs.ListingViews.{draft_data, progress_of}
use Rattle.il_text.specs.Reading.{draft_program}
use Rattle.il_text.specs.TokenViews.{symbols_of}
use Rattle.il_text.proofs.ReadLemmas.{program-start, text-end}
use Rattle.il_text.proofs.UniqueLemmas.{items-rise}
use Rattle.il_text.proofs.read.read_lines.Goals as goal

pub loop-reader-init : goal.loop-reader-init
loop-reader-init c = record {
  same = refl;
  left = rw c.new.ensures.items
      (program-start c.args.text.now _ _ c.last_line_of.ensures c.new-2.ensures);
}

pub returns-in_err-step-clause-refused : goal.returns-in_err-step-clause-refused
returns-in_err-step-clause-refused c =
    let p = err_from_is_err_and c.from_residual.result c.from_residual.ensures.1 in
    rw (p.1, p.2) (λ m. sym c.loop-reader.invariant.left ∙ c.in_err-step.ensures.refused m)

pub returns-in_err-finish-clause-refused : goal.returns-in_err-finish-clause-refused
returns-in_err-finish-clause-refused c =
    let r = c.loop-reader.reader in
    let end : length r.text.now ≤ r.at = rw c.loop-reader.invariant.same c.loop-reader-test.false in
    let p = err_from_is_err_and c.from_residual-in_err-finish.result
    c.from_residual-in_err-finish.ensures.1 in
    rw (p.1, p.2)
    (λ m. sym c.loop-reader.invariant.left
    ∙ text-end r.last (progress_of r.listing) r.line (symbols_of r.tokens.items) r.text.now
    r.in_comment r.at end ∙ c.in_err-finish.ensures.refused m)

pub returns-clause-ok : goal.returns-clause-ok
returns-clause-ok c =
    let r = c.loop-reader.reader in
    let end : length r.text.now ≤ r.at = rw c.loop-reader.invariant.same c.loop-reader-test.false in
    sym c.loop-reader.invariant.left
    ∙ text-end r.last (progress_of r.listing) r.line (symbols_of r.tokens.items) r.text.now
    r.in_comment r.at end ∙ c.in_ok-finish.ensures.ok

pub invariant_of-result : goal.invariant_of-result
invariant_of-result c =
    let r = c.loop-reader.reader in
    let end : length r.text.now ≤ r.at = rw c.loop-reader.invariant.same c.loop-reader-test.false in
    record {
      rising =
          items-rise c.args.text.now (draft_program (draft_data c.finish.new.self.listing))
          (sym c.loop-reader.invariant.left
          ∙ text-end r.last (progress_of r.listing) r.line (symbols_of r.tokens.items) r.text.now
          r.in_comment r.at end ∙ c.in_ok-finish.ensures.ok);
    }
