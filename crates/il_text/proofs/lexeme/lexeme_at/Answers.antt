use Rattle.std.proofs.Common.{◌≡◌, ◌<◌, ◌≤◌, List, ℕ, Bool, length, slice_index, slice_range, sym, ap, ◌∙◌, subst}
use Rattle.il_text.specs.Characters.{is_blank, begins_word}
use Rattle.il_text.specs.Symbols.{is_line_end, mark_of, word}
use Rattle.il_text.proofs.PieceLemmas.{boundary-after}
use Rattle.il_text.proofs.LexemeLemmas.{first-of-range, piece-blank, piece-line-end, piece-word, piece-mark, piece-none}
use Rattle.il_text.proofs.lexeme.lexeme_at.Goals as goal

-- what a test of the octets says of the text's piece
tested : (f : ℕ → Bool) (text bytes : List ℕ) (s e : ℕ) (r b : Bool) → s < e → e ≤ length text
    → bytes ≡ text
    → r ≡ f (slice_index bytes s) → r ≡ b → f (slice_index (slice_range text s e) 0) ≡ b
tested f text bytes s e r b h w same is was =
    ap f (first-of-range text s e h w ∙ sym (ap (λ (bs : List ℕ). slice_index bs s) same)) ∙ sym is
    ∙ was

pub range-requires-clause-end_boundary : goal.range-requires-clause-end_boundary
range-requires-clause-end_boundary c =
    let ascii =
    subst (λ (bs : List ℕ). slice_index bs c.args.start < 128) c.as_bytes-bytes.ensures.value
    (c.begins_word.ensures.ascii c.if-begins_word.true) in
    boundary-after c.args.text.now c.args.start c.args.end c.utf8.text c.requires.after
    c.requires.within (c.requires.ascii ascii)

pub returns-then-is_blank : goal.returns-then-is_blank
returns-then-is_blank c =
    sym (piece-blank _ (tested is_blank c.args.text.now _ c.args.start c.args.end _ _
    c.requires.after c.requires.within c.as_bytes-bytes.ensures.value c.is_blank.ensures
    c.if-is_blank.true))

pub returns-then-is_line_end : goal.returns-then-is_line_end
returns-then-is_line_end c =
    let line_end =
    sym (ap (λ (bs : List ℕ). is_line_end (slice_range bs c.args.start c.args.end))
    c.as_bytes-bytes.ensures.value) ∙ sym c.is_line_end.ensures ∙ c.if-is_line_end.true in
    sym (piece-line-end _
    (tested is_blank c.args.text.now _ c.args.start c.args.end _ _ c.requires.after
    c.requires.within c.as_bytes-bytes.ensures.value c.is_blank.ensures c.if-is_blank.false)
    line_end)

pub returns-then-begins_word : goal.returns-then-begins_word
returns-then-begins_word c =
    let line_end =
    sym (ap (λ (bs : List ℕ). is_line_end (slice_range bs c.args.start c.args.end))
    c.as_bytes-bytes.ensures.value) ∙ sym c.is_line_end.ensures ∙ c.if-is_line_end.false in
    c.word_lexeme.ensures ∙ ap word c.range.ensures.value ∙ sym (piece-word _
    (tested is_blank c.args.text.now _ c.args.start c.args.end _ _ c.requires.after
    c.requires.within c.as_bytes-bytes.ensures.value c.is_blank.ensures c.if-is_blank.false)
    line_end
    (tested begins_word c.args.text.now _ c.args.start c.args.end _ _ c.requires.after
    c.requires.within c.as_bytes-bytes.ensures.value c.begins_word.ensures.value
    c.if-begins_word.true))

pub returns-in-Some : goal.returns-in-Some
returns-in-Some c =
    let line_end =
    sym (ap (λ (bs : List ℕ). is_line_end (slice_range bs c.args.start c.args.end))
    c.as_bytes-bytes.ensures.value) ∙ sym c.is_line_end.ensures ∙ c.if-is_line_end.false in
    sym (piece-mark _ _
    (tested is_blank c.args.text.now _ c.args.start c.args.end _ _ c.requires.after
    c.requires.within c.as_bytes-bytes.ensures.value c.is_blank.ensures c.if-is_blank.false)
    line_end
    (tested begins_word c.args.text.now _ c.args.start c.args.end _ _ c.requires.after
    c.requires.within c.as_bytes-bytes.ensures.value c.begins_word.ensures.value
    c.if-begins_word.false)
    (c.in-Some.ensures ∙ ap (λ (bs : List ℕ). mark_of (slice_range bs c.args.start c.args.end))
    c.as_bytes-bytes.ensures.value))

pub returns-in-None : goal.returns-in-None
returns-in-None c =
    let line_end =
    sym (ap (λ (bs : List ℕ). is_line_end (slice_range bs c.args.start c.args.end))
    c.as_bytes-bytes.ensures.value) ∙ sym c.is_line_end.ensures ∙ c.if-is_line_end.false in
    sym (piece-none _
    (tested is_blank c.args.text.now _ c.args.start c.args.end _ _ c.requires.after
    c.requires.within c.as_bytes-bytes.ensures.value c.is_blank.ensures c.if-is_blank.false)
    line_end
    (tested begins_word c.args.text.now _ c.args.start c.args.end _ _ c.requires.after
    c.requires.within c.as_bytes-bytes.ensures.value c.begins_word.ensures.value
    c.if-begins_word.false)
    (c.in-None.ensures ∙ ap (λ (bs : List ℕ). mark_of (slice_range bs c.args.start c.args.end))
    c.as_bytes-bytes.ensures.value))
