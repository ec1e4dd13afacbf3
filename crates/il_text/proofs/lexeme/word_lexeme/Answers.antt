use Rattle.std.proofs.Common.{◌≡◌, ℕ, List, slice_index, sym, ap, ◌∙◌}
use Rattle.il_text.specs.Characters.{begins_name}
use Rattle.il_text.specs.Literals.{plain_literal, decimal}
use Rattle.il_text.specs.Runs.{capped_signed}
use Rattle.il_text.specs.Symbols.{literal_lexeme}
use Rattle.il_text.proofs.LexemeLemmas.{word-some, word-number}
use Rattle.il_text.proofs.LiteralLemmas.{untyped_capped}
use Rattle.il_text.proofs.lexeme.word_lexeme.Goals as goal

pub returns-in-Some : goal.returns-in-Some
returns-in-Some c =
    c.literal_lexeme.ensures ∙ ap literal_lexeme c.parse_prefixed.ensures
    ∙ sym (word-some c.args.word.now _ c.in-Some.ensures)

pub returns-else-begins_name : goal.returns-else-begins_name
returns-else-begins_name c =
    let first : c.byte_at.result ≡ slice_index c.args.word.now 0 =
    c.byte_at.ensures ∙ ap (λ (w : List ℕ). slice_index w 0) c.as_bytes.ensures.value in
    let number =
    c.parse_decimal.ensures ∙ ap (λ (w : List ℕ). capped_signed (decimal w))
    c.as_bytes-else-begins_name.ensures.value in
    c.literal_lexeme-else-begins_name.ensures
    ∙ ap literal_lexeme (c.plain_literal.ensures ∙ ap plain_literal number
    ∙ untyped_capped (decimal c.args.word.now))
    ∙ sym (word-number c.args.word.now (sym c.in_default.ensures)
    (sym (c.begins_name.ensures ∙ ap begins_name first) ∙ c.if-begins_name.false))
