-- Reads the parts of lines one after the other, with a list of the open parentheses.
use Rattle.std.specs.Prelude.{ℕ, Bool, true, false, ◌&&◌, ◌||◌, if◌then◌else◌, List, [], ◌∷◌, ◌++◌, map, Option, Some, None, option_and_then}
use Rattle.il_text.specs.Listing.{Action, load, Entry, label, action, block, entries_of, DeclaredName}
use Rattle.il_text.specs.Grammar.{is_plain}
use Rattle.il_text.specs.Parts.{LineContent, program_start, block_start, names_part, block_end, label_part, action_part, parenthesis_start, parenthesis_end, program_end}
use Rattle.il_text.specs.declared.listing.Stage.{Stage}
use Rattle.il_text.specs.declared.listing.Stage.TheVariants as stage
use Rattle.il_text.specs.declared.program.DeclaredType.{DeclaredType}
use Rattle.il_text.specs.declared.program.Literal.{Literal}
use Rattle.il_text.specs.declared.program.Operator.{Operator}
use Rattle.il_text.specs.declared.program.VariableScope.{VariableScope}
use Rattle.il_text.specs.declared.program.VariableScope.TheVariants.{Local, External}

-- ---- own: how a program is read line by line

-- an open parenthesis: its line, its operator, whether that is negated, and the items before it
pub record Parenthesis : Type 0 where
  pub line : ℕ
  pub operator : Operator
  pub negated : Bool
  pub outer : List Entry

-- the stage of the next line; the name; the declarations; the items of the innermost open
-- parenthesis, or of the body; and the open parentheses, the innermost first
pub record DraftData : Type 0 where
  pub stage : Stage
  pub name : List ℕ
  pub declarations : List DeclaredName
  pub items : List Entry
  pub parentheses : List Parenthesis

-- the state before the first line
abbrev pub empty_draft : DraftData
empty_draft =
    record { stage = stage.Start; name = []; declarations = []; items = []; parentheses = [] }

-- the state at another stage of the program
abbrev pub at_stage : Stage → DraftData → DraftData
at_stage p r =
    record {
      stage = p;
      name = r.name;
      declarations = r.declarations;
      items = r.items;
      parentheses = r.parentheses;
    }

-- the state after the line of PROGRAM
abbrev pub with_name : List ℕ → DraftData → DraftData
with_name n r =
    record {
      stage = stage.Declarations;
      name = n;
      declarations = r.declarations;
      items = r.items;
      parentheses = r.parentheses;
    }

-- one name of a line of declarations
abbrev pub declared_in : ℕ → VariableScope → DeclaredType → Option Literal → List ℕ → DeclaredName
declared_in line scope kind initial name =
    record { line = line; scope = scope; name = name; kind = kind; initial = initial }

-- the state with these names declared too
abbrev pub with_declarations : List DeclaredName → DraftData → DraftData
with_declarations ds r =
    record {
      stage = r.stage;
      name = r.name;
      declarations = r.declarations ++ ds;
      items = r.items;
      parentheses = r.parentheses;
    }

-- the state with one more item, in the body
abbrev pub with_item : Entry → DraftData → DraftData
with_item e r =
    record {
      stage = stage.Body;
      name = r.name;
      declarations = r.declarations;
      items = r.items ++ e ∷ [];
      parentheses = r.parentheses;
    }

-- the state within a parenthesis that begins on this line
abbrev pub with_opened : ℕ → Operator → Bool → DraftData → DraftData
with_opened line operator negated r =
    record {
      stage = stage.Body;
      name = r.name;
      declarations = r.declarations;
      items = [];
      parentheses =
          record { line = line; operator = operator; negated = negated; outer = r.items }
          ∷ r.parentheses;
    }

-- the state after the innermost parenthesis, which ends on this line
abbrev pub with_closed : ℕ → DraftData → Parenthesis → List Parenthesis → DraftData
with_closed line r f fs =
    record {
      stage = stage.Body;
      name = r.name;
      declarations = r.declarations;
      items = f.outer ++ block f.line f.operator f.negated (entries_of r.items) line ∷ [];
      parentheses = fs;
    }

-- whether the line of PROGRAM comes next
abbrev pub is_start : Stage → Bool
is_start stage.Start = true
is_start other = false

-- whether a declaration block may begin here
abbrev pub is_between_blocks : Stage → Bool
is_between_blocks stage.Declarations = true
is_between_blocks other = false

-- the scope of the open block, if one is open
abbrev pub block_scope : Stage → Option VariableScope
block_scope (stage.Block scope) = Some scope
block_scope other = None

-- whether a line of the body may come here, the first one or a later one
abbrev pub is_body : Stage → Bool
is_body stage.Declarations = true
is_body stage.Body = true
is_body other = false

-- whether no parenthesis is open
abbrev pub is_outside : List Parenthesis → Bool
is_outside [] = true
is_outside (f ∷ fs) = false

-- whether there is an entry
abbrev pub has_entries : List Entry → Bool
has_entries [] = false
has_entries (e ∷ es) = true

-- whether the instruction is LD or LDN
abbrev pub is_load : Action → Bool
is_load (load negated source) = true
is_load other = false

-- whether a variable of the scope may have this initial value: an external has none
abbrev pub may_begin_with : VariableScope → Option Literal → Bool
may_begin_with Local initial = true
may_begin_with External None = true
may_begin_with External (Some value) = false

-- declares names in the open block; none if no block is open, or it does not allow the initial
-- value
abbrev pub after_declaration : ℕ → List (List ℕ) → DeclaredType → Option Literal → DraftData
    → Option VariableScope → Option DraftData
after_declaration n ns kind initial r None = None
after_declaration n ns kind initial r (Some scope) =
    if may_begin_with scope initial
    then Some (with_declarations (map (declared_in n scope kind initial) ns) r)
    else None

-- ends the open block; none if no block is open
abbrev pub closed_block : DraftData → Option VariableScope → Option DraftData
closed_block r None = None
closed_block r (Some scope) = Some (at_stage stage.Declarations r)

-- whether a line of the body may come here, outside of parentheses
unfoldable pub may_follow : DraftData → Bool
may_follow r = is_body r.stage && is_outside r.parentheses

-- whether an instruction may come here: the first in a parenthesis is a load, and none leaves it
unfoldable pub may_have_instruction : DraftData → Action → Bool
may_have_instruction r a =
    is_body r.stage && (is_outside r.parentheses
    || (is_plain a && (has_entries r.items || is_load a)))

-- whether a parenthesis may begin here
unfoldable pub may_enter : DraftData → Bool
may_enter r = is_body r.stage && (is_outside r.parentheses || has_entries r.items)

-- whether the innermost parenthesis may end here
unfoldable pub may_leave : DraftData → Bool
may_leave r = is_body r.stage && has_entries r.items

-- ends the innermost parenthesis; none if none is open
abbrev pub after_parenthesis : ℕ → DraftData → List Parenthesis → Option DraftData
after_parenthesis n r [] = None
after_parenthesis n r (f ∷ fs) = Some (with_closed n r f fs)

-- the state after one part, on line n; none if the part is not allowed here
unfoldable pub step : ℕ → DraftData → LineContent → Option DraftData
step n r (program_start name) = if is_start r.stage then Some (with_name name r) else None
step n r (block_start scope) =
    if is_between_blocks r.stage then Some (at_stage (stage.Block scope) r) else None
step n r (names_part ns kind initial) = after_declaration n ns kind initial r (block_scope r.stage)
step n r block_end = closed_block r (block_scope r.stage)
step n r (label_part name) = if may_follow r then Some (with_item (label n name) r) else None
step n r (action_part a) =
    if may_have_instruction r a then Some (with_item (action n a) r) else None
step n r (parenthesis_start operator negated) =
    if may_enter r then Some (with_opened n operator negated r) else None
step n r parenthesis_end = if may_leave r then after_parenthesis n r r.parentheses else None
step n r program_end = if may_follow r then Some (at_stage stage.Finished r) else None

-- the state after the parts of one line, in order
unfoldable pub steps : ℕ → DraftData → List LineContent → Option DraftData
steps n r [] = Some r
steps n r (p ∷ ps) = option_and_then (λ s. steps n s ps) (step n r p)
