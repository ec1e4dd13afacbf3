-- What a lexeme of a text is: a blank, a line end, a token, or none of these (IEC 61131-3:2003, 2.1
-- and annex B).
use Rattle.std.specs.Prelude.{ℕ, Bool, true, false, ◌||◌, nat_le, if◌then◌else◌, List, [], ◌∷◌, length, slice_index, codes, map, Option, Some, None, Result, Ok, Err}
use Rattle.std.specs.Str.{bytes_eq}
use Rattle.bay_base.specs.Names.{same_name}
use Rattle.il_text.specs.Characters.{is_blank, begins_word, begins_name}
use Rattle.il_text.specs.Literals.{split_at_hash, prefixed_literal, decimal, plain_literal}
use Rattle.il_text.specs.Lexemes.{lexemes, without_comments}
use Rattle.il_text.specs.Tokens.{Symbol, name, literal, mnemonic_word, mark_symbol, LexemeData, blank, line_end, token, bad_token, bad_literal}
use Rattle.il_text.specs.Words.{reserved_symbol}
use Rattle.il_text.specs.declared.literal.LiteralFault.{LiteralFault}
use Rattle.il_text.specs.declared.literal.LiteralFault.TheVariants.{Malformed, OutOfRange}
use Rattle.il_text.specs.declared.program.Literal.{Literal}
use Rattle.il_text.specs.declared.program.Operator.TheVariants.{And}
use Rattle.il_text.specs.declared.token.Mark.TheVariants as mark
use Rattle.il_text.specs.declared.token.Mnemonic.TheVariants.{Combine}

-- ---- IEC 61131-3 2.1.2, 2.1.3: names and reserved words

-- the lexeme of a word that was read as a literal, or of the fault found in it (own)
abbrev pub literal_lexeme : Result Literal LiteralFault → LexemeData
literal_lexeme (Ok value) = token (literal value)
literal_lexeme (Err Malformed) = bad_token
literal_lexeme (Err OutOfRange) = bad_literal

-- a reserved word, or else a name of at most 64 characters
abbrev pub name_or_reserved : List ℕ → Option Symbol → LexemeData
name_or_reserved w (Some s) = token s
name_or_reserved w None = if nat_le (length w) 64 then token (name w) else bad_token

-- a word that begins with a letter or `_` and has no `#`: a reserved word, or a name
unfoldable pub plain_word : List ℕ → LexemeData
plain_word w = name_or_reserved w (reserved_symbol w)

-- a word: a literal if it has a `#`, or else a name, a reserved word or a number (own)
abbrev word_split_at_hash : List ℕ → Option (List ℕ × List ℕ) → LexemeData
word_split_at_hash w (Some h) = literal_lexeme (prefixed_literal h.0 h.1)
word_split_at_hash w None =
    if begins_name (slice_index w 0)
    then plain_word w
    else literal_lexeme (plain_literal (decimal w))

-- a name, a reserved word or a literal
unfoldable pub word : List ℕ → LexemeData
word w = word_split_at_hash w (split_at_hash w)

-- ---- IEC 61131-3 annex C: marks

-- the token of a mark, or of the operators `&` and `&N`
unfoldable pub mark_of : List ℕ → Option Symbol
mark_of p =
    if bytes_eq p (codes ":") then Some (mark_symbol mark.Colon)
    else if bytes_eq p (codes ":=") then Some (mark_symbol mark.Assign)
    else if bytes_eq p (codes ",") then Some (mark_symbol mark.Comma)
    else if bytes_eq p (codes ";") then Some (mark_symbol mark.Semicolon)
    else if bytes_eq p (codes ".") then Some (mark_symbol mark.Dot)
    else if bytes_eq p (codes "(") then Some (mark_symbol mark.Open)
    else if bytes_eq p (codes ")") then Some (mark_symbol mark.Close)
    else if bytes_eq p (codes "&") then Some (mnemonic_word (Combine And false))
    else if same_name p (codes "&N") then Some (mnemonic_word (Combine And true))
    else None

-- ---- own: lexemes of a text

-- the lexeme of a mark; other characters are a bad token
abbrev pub mark_lexeme : Option Symbol → LexemeData
mark_lexeme (Some s) = token s
mark_lexeme None = bad_token

-- whether a lexeme is LF, or CR LF
abbrev pub is_line_end : List ℕ → Bool
is_line_end p = bytes_eq p (10 ∷ []) || bytes_eq p (13 ∷ 10 ∷ [])

-- what a lexeme of the text is
unfoldable pub lexeme_of : List ℕ → LexemeData
lexeme_of p =
    if is_blank (slice_index p 0) then blank
    else if is_line_end p then line_end
    else if begins_word (slice_index p 0) then word p
    else mark_lexeme (mark_of p)

-- the lexemes of a text; `inside`: the text begins within a comment
unfoldable pub text_lexemes : Bool → List ℕ → List LexemeData
text_lexemes inside text = map lexeme_of (lexemes (without_comments inside text))
