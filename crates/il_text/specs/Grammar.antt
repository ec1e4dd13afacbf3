-- The grammar of a program, over the parts of its lines (IEC 61131-3:2003, 2.5.3 and annexes
-- B.1.4.3, B.1.5.3 and B.2).
use Rattle.std.specs.Prelude.{◌≡◌, ℕ, Bool, true, false, ◌&&◌, nat_le, List, [], ◌∷◌, ◌++◌, map, Option}
use Rattle.std.specs.Option.{is_none}
use Rattle.std.specs.List.{flat_map, list_all}
use Rattle.il_text.specs.Listing.{Action, load, store, combine, invert, convert, jump, leave, call, Entry, label, action, block, Entries, no_entries, entry, DeclaredName, PlainProgram}
use Rattle.il_text.specs.Parts.{LineContent, program_start, block_start, names_part, block_end, label_part, action_part, parenthesis_start, parenthesis_end, program_end}
use Rattle.il_text.specs.declared.program.DeclaredType.{DeclaredType}
use Rattle.il_text.specs.declared.program.Literal.{Literal}
use Rattle.il_text.specs.declared.program.VariableScope.{VariableScope}
use Rattle.il_text.specs.declared.program.VariableScope.TheVariants.{Local, External}

-- ---- own: parts with their lines

-- a part with the number of its line
abbrev pub Numbered : Type 0
Numbered = ℕ × LineContent

-- ---- IEC 61131-3 B.1.4.3: declaration blocks

-- name {"," name} ":" type [":=" literal] ";", with its line
pub record Declaration : Type 0 where
  pub line : ℕ
  pub names : List (List ℕ)
  pub kind : DeclaredType
  pub initial : Option Literal

-- ("VAR" | "VAR_EXTERNAL") {declaration} "END_VAR", with the lines of both ends
pub record Block : Type 0 where
  pub line : ℕ
  pub scope : VariableScope
  pub declarations : List Declaration
  pub end : ℕ

-- a declaration as a part of its line
abbrev pub declaration_part : Declaration → Numbered
declaration_part d = (d.line, names_part d.names d.kind d.initial)

-- the parts of a block: its first and last line, and the declarations between them
abbrev pub block_parts : Block → List Numbered
block_parts b =
    (b.line, block_start b.scope) ∷ (map declaration_part b.declarations ++ (b.end, block_end) ∷ [])

-- the names that a declaration in a block declares, one by one
abbrev pub names_declared : VariableScope → Declaration → List DeclaredName
names_declared scope d =
    map (λ name. record {
      line = d.line;
      scope = scope;
      name = name;
      kind = d.kind;
      initial = d.initial;
    }) d.names

-- the names that a block declares
abbrev pub block_declared : Block → List DeclaredName
block_declared b = flat_map (names_declared b.scope) b.declarations

-- whether the scope allows the declaration: an external has no initial value
abbrev pub may_declare : VariableScope → Declaration → Bool
may_declare Local d = true
may_declare External d = is_none d.initial

-- whether the scope of the block allows each of its declarations
abbrev pub is_allowed : Block → Bool
is_allowed b = list_all (may_declare b.scope) b.declarations

-- ---- IEC 61131-3 B.2.1: instructions in order

abbrev mutual
  pub entry_parts : Entry → List Numbered
  entry_parts (label line name) = (line, label_part name) ∷ []
  entry_parts (action line a) = (line, action_part a) ∷ []
  entry_parts (block line operator negated es end) =
      (line, parenthesis_start operator negated) ∷ (entries_parts es ++ (end, parenthesis_end) ∷ [])

  pub entries_parts : Entries → List Numbered
  entries_parts no_entries = []
  entries_parts (entry e es) = entry_parts e ++ entries_parts es

-- whether an instruction may be in a parenthesis: no jump, no return, and no call
abbrev pub is_plain : Action → Bool
is_plain (load negated source) = true
is_plain (store kind place) = true
is_plain (combine operator negated source) = true
is_plain invert = true
is_plain (convert conversion) = true
is_plain (jump condition to) = false
is_plain (leave condition) = false
is_plain (call timer arguments) = false

-- whether a parenthesis may begin with the entry: LD or LDN
abbrev pub is_first : Entry → Bool
is_first (label line name) = false
is_first (action line (load negated source)) = true
is_first (action line other) = false
is_first (block line operator negated es end) = false

abbrev mutual
  -- whether an entry may be in a parenthesis
  pub is_inner : Entry → Bool
  is_inner (label line name) = false
  is_inner (action line a) = is_plain a
  is_inner (block line operator negated es end) = is_parenthesis es

  pub all_inner : Entries → Bool
  all_inner no_entries = true
  all_inner (entry e es) = is_inner e && all_inner es

  -- whether entries may be those of a parenthesis
  pub is_parenthesis : Entries → Bool
  is_parenthesis no_entries = false
  is_parenthesis (entry e es) = is_first e && (is_inner e && all_inner es)

-- whether an entry may be in the body
abbrev pub is_outer : Entry → Bool
is_outer (label line name) = true
is_outer (action line a) = true
is_outer (block line operator negated es end) = is_parenthesis es

-- ---- IEC 61131-3 B.1.5.3: a program

-- `text ::= "PROGRAM" name, {block}, {entry}, "END_PROGRAM"`
pub record Derives (ps : List Numbered) (program : PlainProgram) : Type 0 where
  pub first : ℕ
  pub blocks : List Block
  pub end : ℕ
  pub parts : ps
      ≡ (first, program_start program.name)
      ∷ (flat_map block_parts blocks
      ++ (flat_map entry_parts program.items ++ (end, program_end) ∷ []))
  pub declared : program.declarations ≡ flat_map block_declared blocks
  pub blocks_allowed : list_all is_allowed blocks ≡ true
  pub items_allowed : list_all is_outer program.items ≡ true

-- ---- own: beginnings of programs, and lines of parts

-- More parts after these make a program.
pub record IsProgramPrefix (ps : List Numbered) : Type 0 where
  pub more : List Numbered
  pub program : PlainProgram
  pub derived : Derives (ps ++ more) program

-- At most one program is derived from the parts of lines.
abbrev pub OneProgram : Type 0
OneProgram = (ps : List Numbered) (p q : PlainProgram) → Derives ps p → Derives ps q → p ≡ q

-- the number of a part's line
abbrev pub line_of : Numbered → ℕ
line_of p = p.0

-- whether the numbers never decrease, from k on
abbrev pub rises : ℕ → List ℕ → Bool
rises k [] = true
rises k (x ∷ xs) = nat_le k x && rises x xs

-- the lines of entries in order; a parenthesis has the line of its operator, those of its entries,
-- and the line of its `)`
abbrev pub item_lines : List Entry → List ℕ
item_lines es = map line_of (flat_map entry_parts es)
