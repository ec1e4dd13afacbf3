-- The tokens of a line, and the lexemes of a text (IEC 61131-3:2003, 2.1 and annex B).
use Rattle.std.specs.Prelude.{ℕ, List}
use Rattle.il_text.specs.declared.program.DeclaredType.{DeclaredType}
use Rattle.il_text.specs.declared.program.Literal.{Literal}
use Rattle.il_text.specs.declared.token.Keyword.{Keyword}
use Rattle.il_text.specs.declared.token.Mark.{Mark}
use Rattle.il_text.specs.declared.token.Mnemonic.{Mnemonic}

-- ---- IEC 61131-3 2.1: tokens

-- a token: a name, a keyword, a type, a literal, an operator, or a mark
pub data Symbol : Type 0 where
  name : List ℕ → Symbol
  keyword_word : Keyword → Symbol
  type_word : DeclaredType → Symbol
  literal : Literal → Symbol
  mnemonic_word : Mnemonic → Symbol
  mark_symbol : Mark → Symbol

-- the contents of a lexeme
pub data LexemeData : Type 0 where
  blank : LexemeData
  line_end : LexemeData
  token : Symbol → LexemeData
  bad_token : LexemeData
  bad_literal : LexemeData
