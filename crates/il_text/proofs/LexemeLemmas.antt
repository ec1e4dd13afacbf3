-- A piece of a text, by its first character.
use Rattle.std.proofs.Common.{◌≡◌, ℕ, ◌<◌, ◌≤◌, true, false, List, Some, None, length, slice_index, slice_range, refl, sym, arith}
use Rattle.std.proofs.lemmas.Grind.{common_steps}
use Rattle.il_text.specs.Characters.{is_blank, begins_word, begins_name}
use Rattle.il_text.specs.Literals.{split_at_hash, prefixed_literal, decimal, plain_literal}
use Rattle.il_text.specs.Symbols.{word, plain_word, literal_lexeme, is_line_end, mark_of, lexeme_of}
use Rattle.il_text.specs.Tokens.{Symbol, blank, line_end, token, bad_token}

pub word-some : (w : List ℕ) (h : List ℕ × List ℕ) → Some h ≡ split_at_hash w
    → word w ≡ literal_lexeme (prefixed_literal h.0 h.1)
unfolding word
word-some w h e = rw (sym e) refl

pub word-name : (w : List ℕ) → split_at_hash w ≡ None → begins_name (slice_index w 0) ≡ true
    → word w ≡ plain_word w
unfolding word
word-name w e b = rw (e, b) refl

pub word-number : (w : List ℕ) → split_at_hash w ≡ None → begins_name (slice_index w 0) ≡ false
    → word w ≡ literal_lexeme (plain_literal (decimal w))
unfolding word
word-number w e b = rw (e, b) refl

pub ruleset word_rules = (word-some, word-name, word-number)

pub first-of-range : (bs : List ℕ) (s e : ℕ) → s < e → e ≤ length bs
    → slice_index (slice_range bs s e) 0 ≡ slice_index bs s
first-of-range bs s e h w = grind (arith, common_steps)

pub piece-blank : (p : List ℕ) → is_blank (slice_index p 0) ≡ true → lexeme_of p ≡ blank
unfolding lexeme_of
piece-blank p a = rw a refl

pub piece-line-end : (p : List ℕ) → is_blank (slice_index p 0) ≡ false → is_line_end p ≡ true
    → lexeme_of p ≡ line_end
unfolding lexeme_of
piece-line-end p a b = rw (a, b) refl

pub piece-word : (p : List ℕ) → is_blank (slice_index p 0) ≡ false → is_line_end p ≡ false
    → begins_word (slice_index p 0) ≡ true → lexeme_of p ≡ word p
unfolding lexeme_of
piece-word p a b d = rw (a, b, d) refl

pub piece-mark : (p : List ℕ) (m : Symbol) → is_blank (slice_index p 0) ≡ false
    → is_line_end p ≡ false → begins_word (slice_index p 0) ≡ false
    → Some m ≡ mark_of p → lexeme_of p ≡ token m
unfolding lexeme_of
piece-mark p m a b d e = rw (a, b, d, sym e) refl

pub piece-none : (p : List ℕ) → is_blank (slice_index p 0) ≡ false → is_line_end p ≡ false
    → begins_word (slice_index p 0) ≡ false
    → None ≡ mark_of p → lexeme_of p ≡ bad_token
unfolding lexeme_of
piece-none p a b d e = rw (a, b, d, sym e) refl
