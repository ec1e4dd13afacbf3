use Rattle.std.proofs.Common.{◌≡◌, ℕ, List, [], length, Result, Err, refl, subst, sym, ◌∙◌}
use Rattle.std.proofs.lemmas.List.{nil_from_length}
use Rattle.std.proofs.lemmas.Bool.{eqb-true}
use Rattle.std.proofs.lemmas.Result.{err_from_is_err_and}
use Rattle.il_text.specs.Listing.{PlainProgram}
use Rattle.il_text.specs.Forms.{whole_line}
use Rattle.il_text.specs.Lexemes.{without_comments, lexemes}
use Rattle.il_text.specs.Places.{last_line}
use Rattle.il_text.specs.Reading.{lines, tokens_of, after_line, program_of_lines, program_of}
use Rattle.il_text.specs.Steps.{steps}
use Rattle.il_text.specs.Symbols.{text_lexemes}
use Rattle.il_text.specs.Texts.{ReadsAs}
use Rattle.il_text.specs.Views.{plain_program}
use Rattle.il_text.specs.declared.fault.TextFault.{TextFault}
use Rattle.il_text.specs.declared.fault.TextFault.TheVariants.{BadLine}
use Rattle.il_text.proofs.TextLemmas.{text-reads}
use Rattle.il_text.proofs.UniqueLemmas.{items-rise}
use Rattle.il_text.proofs.read.read_program.Goals as goal

nothing_read : program_of [] ≡ Err (BadLine 1)
unfolding program_of program_of_lines last_line lines text_lexemes without_comments lexemes tokens_of after_line whole_line steps
nothing_read = refl

pub returns-then-is_empty-clause-refused : goal.returns-then-is_empty-clause-refused
returns-then-is_empty-clause-refused c =
    let reads : ReadsAs [] (Err (BadLine 1)) =
    subst (λ (x : Result PlainProgram TextFault). ReadsAs [] x) nothing_read (text-reads []) in
    λ m. subst (λ (text : List ℕ). ReadsAs text (Err (BadLine 1)))
    (sym (nil_from_length c.args.text.now
    (eqb-true (length c.args.text.now) 0 (sym c.is_empty.ensures ∙ c.if-is_empty.true)))) reads

pub returns-in_err-program-clause-refused : goal.returns-in_err-program-clause-refused
returns-in_err-program-clause-refused c =
    let p = err_from_is_err_and c.from_residual.result c.from_residual.ensures.1 in
    rw (p.1, p.2)
    (λ m. subst (λ (x : Result PlainProgram TextFault). ReadsAs c.args.text.now x)
    (c.in_err-program.ensures.refused m) (text-reads c.args.text.now))

pub returns-clause-ok : goal.returns-clause-ok
returns-clause-ok c =
    subst (λ (x : Result PlainProgram TextFault). ReadsAs c.args.text.now x)
    c.in_ok-program.ensures.ok (text-reads c.args.text.now)

pub returns-clause-lines : goal.returns-clause-lines
returns-clause-lines c =
    items-rise c.args.text.now (plain_program c.in_ok-program.program) c.in_ok-program.ensures.ok
