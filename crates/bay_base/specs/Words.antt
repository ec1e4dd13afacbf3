-- The reserved words of Instruction List (IEC 61131-3:2003, table 52 and annex C).
use Rattle.std.specs.Prelude.{ℕ, Option, option_map, List, [], ◌∷◌, codes, find}
use Rattle.bay_base.specs.Names.{same_name}
use Rattle.bay_base.specs.declared.words.ReservedWord.{ReservedWord}
use Rattle.bay_base.specs.declared.words.ReservedWord.TheVariants as word

-- each reserved word: its spelling in upper case, and its value
unfoldable pub reserved_words : List (List ℕ × ReservedWord)
reserved_words =
    (codes "LD", word.Ld) ∷
    (codes "LDN", word.Ldn) ∷
    (codes "ST", word.St) ∷
    (codes "STN", word.Stn) ∷
    (codes "S", word.S) ∷
    (codes "R", word.R) ∷
    (codes "AND", word.And) ∷
    (codes "ANDN", word.Andn) ∷
    (codes "OR", word.Or) ∷
    (codes "ORN", word.Orn) ∷
    (codes "XOR", word.Xor) ∷
    (codes "XORN", word.Xorn) ∷
    (codes "NOT", word.Not) ∷
    (codes "ADD", word.Add) ∷
    (codes "SUB", word.Sub) ∷
    (codes "MUL", word.Mul) ∷
    (codes "DIV", word.Div) ∷
    (codes "MOD", word.Mod) ∷
    (codes "GT", word.Gt) ∷
    (codes "GE", word.Ge) ∷
    (codes "EQ", word.Eq) ∷
    (codes "NE", word.Ne) ∷
    (codes "LE", word.Le) ∷
    (codes "LT", word.Lt) ∷
    (codes "JMP", word.Jmp) ∷
    (codes "JMPC", word.Jmpc) ∷
    (codes "JMPCN", word.Jmpcn) ∷
    (codes "CAL", word.Cal) ∷
    (codes "RET", word.Ret) ∷
    (codes "RETC", word.Retc) ∷
    (codes "RETCN", word.Retcn) ∷
    (codes "INT_TO_DINT", word.IntToDint) ∷
    (codes "DINT_TO_LINT", word.DintToLint) ∷
    (codes "PROGRAM", word.Program) ∷
    (codes "END_PROGRAM", word.EndProgram) ∷
    (codes "VAR", word.Var) ∷
    (codes "VAR_EXTERNAL", word.VarExternal) ∷
    (codes "END_VAR", word.EndVar) ∷
    (codes "BOOL", word.Bool) ∷
    (codes "INT", word.Int) ∷
    (codes "DINT", word.Dint) ∷
    (codes "LINT", word.Lint) ∷
    (codes "TIME", word.Time) ∷
    (codes "TON", word.Ton) ∷
    (codes "TOF", word.Tof) ∷
    (codes "TRUE", word.True) ∷
    (codes "FALSE", word.False) ∷
    []

-- the reserved word that a text spells, in letters of either case, or None
unfoldable pub reserved_of : List ℕ → Option ReservedWord
reserved_of w = option_map (λ r. r.1) (find (λ r. same_name w r.0) reserved_words)
