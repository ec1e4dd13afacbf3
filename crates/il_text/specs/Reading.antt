-- The program of a text, line by line (IEC 61131-3:2003, 2.5.3 and annex B).
use Rattle.std.specs.Prelude.{ℕ, ◌+◌, Bool, true, false, ◌||◌, ◌==◌, nat_lt, nat_le, if◌then◌else◌, List, [], ◌∷◌, length, Option, Some, None, Result, Ok, Err}
use Rattle.bay_base.specs.Results.{◌>>=◌}
use Rattle.il_text.specs.Listing.{PlainProgram}
use Rattle.il_text.specs.Tokens.{Symbol, LexemeData, blank, line_end, token, bad_token, bad_literal}
use Rattle.il_text.specs.Symbols.{text_lexemes}
use Rattle.il_text.specs.Forms.{parts_of}
use Rattle.il_text.specs.Parts.{LineContent, program_start, block_start, names_part, block_end, label_part, action_part, parenthesis_start, parenthesis_end, program_end}
use Rattle.il_text.specs.Places.{last_line}
use Rattle.il_text.specs.Steps.{DraftData, empty_draft, steps}
use Rattle.il_text.specs.declared.fault.TextFault.{TextFault}
use Rattle.il_text.specs.declared.fault.TextFault.TheVariants.{BadToken, BadLine, TooDeep, BadLiteral, TooLong}
use Rattle.il_text.specs.declared.listing.Stage.{Stage}
use Rattle.il_text.specs.declared.listing.Stage.TheVariants as stage

-- ---- own: how a program is read line by line

-- a lexeme before those of the first line
abbrev pub prepend_lexeme : LexemeData → List (List LexemeData) → List (List LexemeData)
prepend_lexeme p [] = (p ∷ []) ∷ []
prepend_lexeme p (l ∷ ls) = (p ∷ l) ∷ ls

-- the lexemes of each line of a text, without blanks
unfoldable pub lines : List LexemeData → List (List LexemeData)
lines [] = [] ∷ []
lines (blank ∷ ps) = lines ps
lines (line_end ∷ ps) = [] ∷ lines ps
lines (token s ∷ ps) = prepend_lexeme (token s) (lines ps)
lines (bad_token ∷ ps) = prepend_lexeme bad_token (lines ps)
lines (bad_literal ∷ ps) = prepend_lexeme bad_literal (lines ps)

-- the tokens of a line, or its leftmost fault
unfoldable pub tokens_of : ℕ → List LexemeData → Result (List Symbol) TextFault
tokens_of line [] = Ok []
tokens_of line (blank ∷ ps) = tokens_of line ps
tokens_of line (line_end ∷ ps) = tokens_of line ps
tokens_of line (token s ∷ ps) = tokens_of line ps >>= (λ ss. Ok (s ∷ ss))
tokens_of line (bad_token ∷ ps) = Err (BadToken line)
tokens_of line (bad_literal ∷ ps) = Err (BadLiteral line)

-- what the lines so far make, and the number of these lines with an instruction or `)`
pub record Progress : Type 0 where
  pub draft : DraftData
  pub instructions : ℕ

-- whether the part counts towards the limit of lines
abbrev pub is_instruction : LineContent → Bool
is_instruction (program_start name) = false
is_instruction (block_start scope) = false
is_instruction (names_part ns kind initial) = false
is_instruction block_end = false
is_instruction (label_part name) = false
is_instruction (action_part a) = true
is_instruction (parenthesis_start operator negated) = true
is_instruction parenthesis_end = true
is_instruction program_end = false

-- whether an instruction or `)` is among the parts
abbrev pub has_instruction : List LineContent → Bool
has_instruction [] = false
has_instruction (p ∷ ps) = is_instruction p || has_instruction ps

-- The fault of a line past a limit. If it is the last line, the text also ends early there, and
-- that fault comes first.
abbrev pub past_limit : ℕ → ℕ → TextFault → TextFault
past_limit line last fault = if line == last then BadLine line else fault

-- the most lines with an instruction or `)`
abbrev pub most_instructions : ℕ
most_instructions = 4000

-- the most open parentheses
abbrev pub most_open : ℕ
most_open = 16

-- one more line with an instruction, if the limit allows it
abbrev pub with_instruction : ℕ → ℕ → ℕ → DraftData → Result Progress TextFault
with_instruction line last before s =
    if nat_lt before most_instructions
    then Ok (record { draft = s; instructions = before + 1 })
    else Err (past_limit line last (TooLong line))

-- the state after a line with an instruction, if both limits allow it
unfoldable pub after_instruction : ℕ → ℕ → ℕ → DraftData → Result Progress TextFault
after_instruction line last before s =
    if nat_le (length s.parentheses) most_open
    then with_instruction line last before s
    else Err (past_limit line last (TooDeep line))

-- the state after a line; the limits apply only to a line with an instruction
abbrev pub within_limits : ℕ → ℕ → ℕ → List LineContent → DraftData → Result Progress TextFault
within_limits line last before ps s =
    if has_instruction ps
    then after_instruction line last before s
    else Ok (record { draft = s; instructions = before })

-- the state after a line with these parts, given the state by its parts alone; none means that the
-- line is not allowed here
abbrev pub after_text_line : ℕ → ℕ → ℕ → List LineContent → Option DraftData
    → Result Progress TextFault
after_text_line line last before ps None = Err (BadLine line)
after_text_line line last before ps (Some s) = within_limits line last before ps s

-- the state after a line with these parts; none means that the line has no form
abbrev pub after_parts : ℕ → ℕ → Progress → Option (List LineContent) → Result Progress TextFault
after_parts line last r None = Err (BadLine line)
after_parts line last r (Some ps) =
    after_text_line line last r.instructions ps (steps line r.draft ps)

-- the state after a line of tokens, or the fault of the line
unfoldable pub after_line : ℕ → ℕ → Progress → List Symbol → Result Progress TextFault
after_line line last r ts = after_parts line last r (parts_of ts)

-- the program that the lines make
abbrev pub draft_program : DraftData → PlainProgram
draft_program s = record { name = s.name; declarations = s.declarations; items = s.items }

-- the program; the text must be complete: END_PROGRAM was the last line
abbrev pub program_at_stage : ℕ → DraftData → Stage → Result PlainProgram TextFault
program_at_stage last s stage.Finished = Ok (draft_program s)
program_at_stage last s other = Err (BadLine last)

-- the program, if the text is complete
abbrev pub complete_program : ℕ → DraftData → Result PlainProgram TextFault
complete_program last s = program_at_stage last s s.stage

-- the program of the lines after others; the first of them has the number `line`, and the first
-- faulty one decides
unfoldable pub program_of_lines : ℕ → Progress → ℕ → List (List LexemeData)
    → Result PlainProgram TextFault
program_of_lines last r line [] = complete_program last r.draft
program_of_lines last r line (l ∷ ls) =
    tokens_of line l >>= (λ ts. after_line line last r ts
    >>= (λ s. program_of_lines last s (line + 1) ls))

-- the state before the first line
abbrev pub no_progress : Progress
no_progress = record { draft = empty_draft; instructions = 0 }

-- the program of a text, or its fault
unfoldable pub program_of : List ℕ → Result PlainProgram TextFault
program_of text = program_of_lines (last_line text) no_progress 1 (lines (text_lexemes false text))
