use Rattle.std.proofs.Common.{arith, ℕ, List, sym, subst}
use Rattle.std.proofs.lemmas.List.{map-append}
use Rattle.il_text.specs.ListingViews.{progress_of}
use Rattle.il_text.specs.Runs.{IsFirstLexeme}
use Rattle.il_text.specs.TokenViews.{symbols_of}
use Rattle.il_text.proofs.ReadLemmas.{step-ended, step-blank, step-token, step-dropped, step-bad-literal}
use Rattle.il_text.proofs.read.Reader.piece_step.Goals as goal

pub returns-in-LineEnd-clause-ok : goal.returns-in-LineEnd-clause-ok
returns-in-LineEnd-clause-ok c =
    let old = c.args.self.now in
    let piece =
    subst (λ (bs : List ℕ). IsFirstLexeme bs old.at c.lexeme_end-end.result)
    c.as_bytes.ensures.value
    c.lexeme_end-end.ensures.piece in
    rw (sym (step-ended old.last (progress_of old.listing) old.line (symbols_of old.tokens.items)
    old.text.now old.in_comment old.at _ c.requires.outside piece c.in-LineEnd.ensures)) at
    c.end_line.ensures.ok

pub returns-in-LineEnd-clause-refused : goal.returns-in-LineEnd-clause-refused
returns-in-LineEnd-clause-refused c =
    let old = c.args.self.now in
    let piece =
    subst (λ (bs : List ℕ). IsFirstLexeme bs old.at c.lexeme_end-end.result)
    c.as_bytes.ensures.value
    c.lexeme_end-end.ensures.piece in
    rw (sym (step-ended old.last (progress_of old.listing) old.line (symbols_of old.tokens.items)
    old.text.now old.in_comment old.at _ c.requires.outside piece c.in-LineEnd.ensures)) at
    c.end_line.ensures.refused

pub returns-in-Blank-clause-ok : goal.returns-in-Blank-clause-ok
returns-in-Blank-clause-ok c = grind (arith, step-blank)

pub returns-in_ok-push-in-Token-clause-ok : goal.returns-in_ok-push-in-Token-clause-ok
returns-in_ok-push-in-Token-clause-ok c = grind (arith, step-token, map-append)

pub returns-else-not-begins_no_line-clause-ok : goal.returns-else-not-begins_no_line-clause-ok
returns-else-not-begins_no_line-clause-ok c = grind (arith, step-dropped)

pub returns-in-BadLiteral-clause-refused : goal.returns-in-BadLiteral-clause-refused
returns-in-BadLiteral-clause-refused c = grind (arith, step-bad-literal)
