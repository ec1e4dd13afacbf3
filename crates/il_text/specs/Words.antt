-- Inner: the token of each reserved word (IEC 61131-3:2003, annex B and table 52).
use Rattle.std.specs.Prelude.{ℕ, true, false, List, Option, option_map}
use Rattle.bay_base.specs.Words.{reserved_of}
use Rattle.bay_base.specs.declared.types.ElementaryType.TheVariants as elementary
use Rattle.bay_base.specs.declared.words.ReservedWord.{ReservedWord}
use Rattle.bay_base.specs.declared.words.ReservedWord.TheVariants as word
use Rattle.il_text.specs.declared.program.Condition.TheVariants as condition
use Rattle.il_text.specs.declared.program.Conversion.TheVariants as conversion
use Rattle.il_text.specs.declared.program.DeclaredType.TheVariants.{Elementary, Timer}
use Rattle.il_text.specs.declared.program.Literal.TheVariants.{Truth}
use Rattle.il_text.specs.declared.program.Operator.TheVariants as operator
use Rattle.il_text.specs.declared.program.StoreKind.TheVariants as kind
use Rattle.bay_base.specs.declared.types.TimerKind.TheVariants as timer
use Rattle.il_text.specs.declared.token.Keyword.TheVariants as keyword
use Rattle.il_text.specs.declared.token.Mnemonic.TheVariants as mnemonic
use Rattle.il_text.specs.Tokens.{Symbol, keyword_word, type_word, literal, mnemonic_word}

-- ---- IEC 61131-3 annex C, table 52: reserved words

-- the token of each reserved word
abbrev pub symbol_of_word : ReservedWord → Symbol
symbol_of_word word.Ld = mnemonic_word (mnemonic.Load false)
symbol_of_word word.Ldn = mnemonic_word (mnemonic.Load true)
symbol_of_word word.St = mnemonic_word (mnemonic.Store kind.Plain)
symbol_of_word word.Stn = mnemonic_word (mnemonic.Store kind.Negated)
symbol_of_word word.S = mnemonic_word (mnemonic.Store kind.Set)
symbol_of_word word.R = mnemonic_word (mnemonic.Store kind.Reset)
symbol_of_word word.And = mnemonic_word (mnemonic.Combine operator.And false)
symbol_of_word word.Andn = mnemonic_word (mnemonic.Combine operator.And true)
symbol_of_word word.Or = mnemonic_word (mnemonic.Combine operator.Or false)
symbol_of_word word.Orn = mnemonic_word (mnemonic.Combine operator.Or true)
symbol_of_word word.Xor = mnemonic_word (mnemonic.Combine operator.Xor false)
symbol_of_word word.Xorn = mnemonic_word (mnemonic.Combine operator.Xor true)
symbol_of_word word.Not = mnemonic_word mnemonic.Not
symbol_of_word word.Add = mnemonic_word (mnemonic.Combine operator.Add false)
symbol_of_word word.Sub = mnemonic_word (mnemonic.Combine operator.Sub false)
symbol_of_word word.Mul = mnemonic_word (mnemonic.Combine operator.Mul false)
symbol_of_word word.Div = mnemonic_word (mnemonic.Combine operator.Div false)
symbol_of_word word.Mod = mnemonic_word (mnemonic.Combine operator.Mod false)
symbol_of_word word.Gt = mnemonic_word (mnemonic.Combine operator.Gt false)
symbol_of_word word.Ge = mnemonic_word (mnemonic.Combine operator.Ge false)
symbol_of_word word.Eq = mnemonic_word (mnemonic.Combine operator.Eq false)
symbol_of_word word.Ne = mnemonic_word (mnemonic.Combine operator.Ne false)
symbol_of_word word.Le = mnemonic_word (mnemonic.Combine operator.Le false)
symbol_of_word word.Lt = mnemonic_word (mnemonic.Combine operator.Lt false)
symbol_of_word word.Jmp = mnemonic_word (mnemonic.Jump condition.Always)
symbol_of_word word.Jmpc = mnemonic_word (mnemonic.Jump condition.IfTrue)
symbol_of_word word.Jmpcn = mnemonic_word (mnemonic.Jump condition.IfFalse)
symbol_of_word word.Cal = mnemonic_word mnemonic.Call
symbol_of_word word.Ret = mnemonic_word (mnemonic.Return condition.Always)
symbol_of_word word.Retc = mnemonic_word (mnemonic.Return condition.IfTrue)
symbol_of_word word.Retcn = mnemonic_word (mnemonic.Return condition.IfFalse)
symbol_of_word word.IntToDint = mnemonic_word (mnemonic.Convert conversion.IntToDint)
symbol_of_word word.DintToLint = mnemonic_word (mnemonic.Convert conversion.DintToLint)
symbol_of_word word.Program = keyword_word keyword.Program
symbol_of_word word.EndProgram = keyword_word keyword.EndProgram
symbol_of_word word.Var = keyword_word keyword.Var
symbol_of_word word.VarExternal = keyword_word keyword.VarExternal
symbol_of_word word.EndVar = keyword_word keyword.EndVar
symbol_of_word word.Bool = type_word (Elementary elementary.Bool)
symbol_of_word word.Int = type_word (Elementary elementary.Int)
symbol_of_word word.Dint = type_word (Elementary elementary.Dint)
symbol_of_word word.Lint = type_word (Elementary elementary.Lint)
symbol_of_word word.Time = type_word (Elementary elementary.Time)
symbol_of_word word.Ton = type_word (Timer timer.OnDelay)
symbol_of_word word.Tof = type_word (Timer timer.OffDelay)
symbol_of_word word.True = literal (Truth true)
symbol_of_word word.False = literal (Truth false)

-- the token of a word, if the word is reserved
unfoldable pub reserved_symbol : List ℕ → Option Symbol
reserved_symbol w = option_map symbol_of_word (reserved_of w)
