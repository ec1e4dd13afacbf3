-- How a text is read: its program, or its first faulty line (IEC 61131-3:2003, 2.1, 2.5.3 and 3.2).
use Rattle.std.specs.Prelude.{◌≡◌, ◌↔◌, ℕ, ◌+◌, ◌<◌, ◌⊎◌, Bool, true, false, List, [], ◌∷◌, ◌++◌, map, count_by, Option, Some, None, Result, Ok, Err}
use Rattle.std.specs.List.{flat_map}
use Rattle.il_text.specs.Forms.{parts_of}
use Rattle.il_text.specs.Grammar.{Numbered, Derives, IsProgramPrefix}
use Rattle.il_text.specs.Listing.{PlainProgram}
use Rattle.il_text.specs.Parts.{LineContent, parenthesis_start, parenthesis_end}
use Rattle.il_text.specs.Places.{last_line}
use Rattle.il_text.specs.Reading.{lines, tokens_of, has_instruction, most_instructions, most_open, past_limit, program_of}
use Rattle.il_text.specs.Symbols.{text_lexemes}
use Rattle.il_text.specs.Tokens.{Symbol, LexemeData}
use Rattle.il_text.specs.declared.fault.TextFault.{TextFault}
use Rattle.il_text.specs.declared.fault.TextFault.TheVariants.{BadLine, TooDeep, TooLong}

-- ---- own: which line is the first faulty one

-- a line: its number, and its parts
abbrev pub TextLine : Type 0
TextLine = ℕ × List LineContent

-- the parts of a line, each with its number
abbrev pub numbered_parts : TextLine → List Numbered
numbered_parts l = map (λ p. (l.0, p)) l.1

-- the parts of lines, in order
abbrev pub all_parts : List TextLine → List Numbered
all_parts = flat_map numbered_parts

-- whether the part opens a parenthesis
abbrev pub is_entering : Numbered → Bool
is_entering (line, parenthesis_start operator negated) = true
is_entering (line, other) = false

-- whether the part closes a parenthesis
abbrev pub is_leaving : Numbered → Bool
is_leaving (line, parenthesis_end) = true
is_leaving (line, other) = false

-- More parentheses are open than allowed.
abbrev pub IsDeep : List TextLine → Type 0
IsDeep ls = count_by is_leaving (all_parts ls) + most_open < count_by is_entering (all_parts ls)

-- More lines have an instruction or `)` than allowed.
abbrev pub IsLong : List TextLine → Type 0
IsLong ls = most_instructions < count_by (λ l. has_instruction l.1) ls

-- A program may begin with these lines.
pub record AreAllowed (ls : List TextLine) : Type 0 where
  pub is_prefix : IsProgramPrefix (all_parts ls)
  pub shallow : IsDeep ls → ⊥
  pub short : IsLong ls → ⊥

-- The fault of the last of these lines, if the lines before it are allowed.
pub data LineFault (last line : ℕ) (ls : List TextLine) (fault : TextFault) : Type 0 where
  no_program : (IsProgramPrefix (all_parts ls) → ⊥) → fault ≡ BadLine line
      → LineFault last line ls fault
  too_deep : IsProgramPrefix (all_parts ls) → IsDeep ls
      → fault ≡ past_limit line last (TooDeep line)
      → LineFault last line ls fault
  too_long : IsProgramPrefix (all_parts ls) → (IsDeep ls → ⊥) → IsLong ls
      → fault ≡ past_limit line last (TooLong line)
      → LineFault last line ls fault

-- The last of these lines is the faulty one.
abbrev pub IsFaultyLine : ℕ → ℕ → List TextLine → Result PlainProgram TextFault → Type 0
IsFaultyLine last line ls (Ok program) = ⊥
IsFaultyLine last line ls (Err fault) = LineFault last line ls fault

-- The text ends here: the lines are a program, or it ends too early.
abbrev pub EndsText : ℕ → List TextLine → Result PlainProgram TextFault → Type 0
EndsText last ls (Ok program) = Derives (all_parts ls) program
EndsText last ls (Err fault) =
    ((program : PlainProgram) → Derives (all_parts ls) program → ⊥) × (fault ≡ BadLine last)

-- A line with these parts goes on as the second argument says; one without a form is a bad line.
abbrev pub ReadsParts : ℕ → (List LineContent → Type 0) → Option (List LineContent)
    → Result PlainProgram TextFault
    → Type 0
ReadsParts line goes None r = r ≡ Err (BadLine line)
ReadsParts line goes (Some ps) r = goes ps

-- A line of these tokens is read by its form; a bad token or literal is the fault of its line.
abbrev pub ReadsTokens : ℕ → (List LineContent → Type 0) → Result (List Symbol) TextFault
    → Result PlainProgram TextFault → Type 0
ReadsTokens line goes (Err fault) r = r ≡ Err fault
ReadsTokens line goes (Ok ts) r = ReadsParts line goes (parts_of ts) r

-- How the lines from this number on are read, after allowed lines: the first faulty line decides.
-- In a line a bad token or literal comes first, then a missing form, then a line after which no
-- program is possible, then the limits.
abbrev pub ReadsLines : ℕ → List TextLine → ℕ → List (List LexemeData)
    → Result PlainProgram TextFault
    → Type 0
ReadsLines last before line [] r = EndsText last before r
ReadsLines last before line (l ∷ ls) r =
    ReadsTokens line
    (λ ps. (AreAllowed (before ++ (line, ps) ∷ [])
    × ReadsLines last (before ++ (line, ps) ∷ []) (line + 1) ls r)
    ⊎ IsFaultyLine last line (before ++ (line, ps) ∷ []) r)
    (tokens_of line l) r

-- The text is read as this program, or has this fault.
unfoldable pub ReadsAs : List ℕ → Result PlainProgram TextFault → Type 0
ReadsAs text r = ReadsLines (last_line text) [] 1 (lines (text_lexemes false text)) r

-- A text is read as at most one program, or has at most one fault.
abbrev pub OneReading : Type 0
OneReading =
    (text : List ℕ) (x y : Result PlainProgram TextFault) → ReadsAs text x → ReadsAs text y → x ≡ y

-- A text is read as a program, or has a fault, exactly if the reading line by line results in it.
abbrev pub ProgramIsRead : Type 0
ProgramIsRead =
    (text : List ℕ) (r : Result PlainProgram TextFault) → ReadsAs text r ↔ (program_of text ≡ r)
