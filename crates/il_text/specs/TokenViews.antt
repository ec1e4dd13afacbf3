-- Inner: tokens and lexemes of the code as plain data.
use Rattle.std.specs.Prelude.{List, map}
use Rattle.il_text.specs.Tokens.{Symbol, name, keyword_word, type_word, literal, mnemonic_word, mark_symbol, LexemeData, blank, line_end, token, bad_token, bad_literal}
use Rattle.il_text.specs.declared.token.Token.{Token}
use Rattle.il_text.specs.declared.token.Token.TheVariants as t
use Rattle.il_text.specs.declared.lexeme.Lexeme.{Lexeme}
use Rattle.il_text.specs.declared.lexeme.Lexeme.TheVariants as x

-- ---- own: views of the code

-- a token
abbrev pub symbol_of : Token → Symbol
symbol_of (t.Name n) = name n.now
symbol_of (t.Keyword word) = keyword_word word
symbol_of (t.Type kind) = type_word kind
symbol_of (t.Literal value) = literal value
symbol_of (t.Mnemonic operator) = mnemonic_word operator
symbol_of (t.Mark m) = mark_symbol m

-- the tokens of a line
abbrev pub symbols_of : List Token → List Symbol
symbols_of = map symbol_of

-- a lexeme of the text
abbrev pub lexeme_data : Lexeme → LexemeData
lexeme_data x.Blank = blank
lexeme_data x.LineEnd = line_end
lexeme_data (x.Token k) = token (symbol_of k)
lexeme_data x.BadToken = bad_token
lexeme_data x.BadLiteral = bad_literal
