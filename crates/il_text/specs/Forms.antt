-- The grammar of a line, as forms of its tokens (IEC 61131-3:2003, annexes B.1.4.3, B.1.5.3 and
-- B.2).
use Rattle.std.specs.Prelude.{◌≡◌, ◌↔◌, ℕ, Bool, true, false, not, ◌&&◌, ◌||◌, if◌then◌else◌, List, [], ◌∷◌, codes, Option, Some, None, option_map, option_and_then, is_some}
use Rattle.bay_base.specs.Names.{same_name}
use Rattle.il_text.specs.Listing.{VariableData, named, output, OperandData, constant, variable, Action, load, store, combine, invert, convert, jump, leave, call}
use Rattle.il_text.specs.Parts.{LineContent, program_start, block_start, names_part, block_end, label_part, action_part, parenthesis_start, parenthesis_end, program_end}
use Rattle.il_text.specs.Tokens.{Symbol, name, keyword_word, type_word, literal, mnemonic_word, mark_symbol}
pub use Rattle.il_text.specs.TokenForms.{name_of, is_mark, split_at_mark}
use Rattle.il_text.specs.TokenForms.{Form, map_form, try_map_form, none, no_token, one, one_of, bind_form, after_mark, either, choose_by, split_form, has_mark, names, names_from}
use Rattle.il_text.specs.declared.form.Tail.{Tail}
use Rattle.il_text.specs.declared.program.DeclaredType.{DeclaredType}
use Rattle.il_text.specs.declared.program.DeclaredType.TheVariants.{Elementary}
use Rattle.il_text.specs.declared.program.Input.{Input}
use Rattle.il_text.specs.declared.program.Input.TheVariants as input
use Rattle.il_text.specs.declared.program.Literal.{Literal}
use Rattle.il_text.specs.declared.program.Operator.{Operator}
use Rattle.il_text.specs.declared.program.TimerOutput.{TimerOutput}
use Rattle.il_text.specs.declared.program.TimerOutput.TheVariants as gives
use Rattle.il_text.specs.declared.program.VariableScope.TheVariants.{Local, External}
use Rattle.il_text.specs.declared.token.Keyword.{Keyword}
use Rattle.il_text.specs.declared.token.Keyword.TheVariants as keyword
use Rattle.il_text.specs.declared.token.Mark.TheVariants as mark
use Rattle.il_text.specs.declared.token.Mnemonic.{Mnemonic}
use Rattle.il_text.specs.declared.token.Mnemonic.TheVariants as mnemonic

-- ---- own: what a token is

-- the literal of a token, if it is one
abbrev pub literal_of : Symbol → Option Literal
literal_of (literal value) = Some value
literal_of other = None

-- the type of a token, if it is one
abbrev pub type_of : Symbol → Option DeclaredType
type_of (type_word kind) = Some kind
type_of other = None

-- the type of a token, if its variables may have an initial value: any type but a timer
abbrev pub elementary_of : Symbol → Option DeclaredType
elementary_of (type_word (Elementary kind)) = Some (Elementary kind)
elementary_of other = None

-- the operator of a token, if it is one
abbrev pub mnemonic_of : Symbol → Option Mnemonic
mnemonic_of (mnemonic_word m) = Some m
mnemonic_of other = None

-- the output that a word names: `Q` or `ET`, in letters of either case (IEC 61131-3, table 37)
unfoldable pub output_named : List ℕ → Option TimerOutput
output_named w =
    if same_name w (codes "Q") then Some gives.Q
    else (if same_name w (codes "ET") then Some gives.Et else None)

-- the output that a token names, if it names one
abbrev pub output_of : Symbol → Option TimerOutput
output_of s = option_and_then output_named (name_of s)

-- the name, if the tokens are exactly one name
abbrev pub only_name : List Symbol → Option (List ℕ)
only_name = one_of name_of

-- the literal, if the tokens are exactly one literal
abbrev pub only_literal : List Symbol → Option Literal
only_literal = one_of literal_of

-- whether there is exactly one token
abbrev pub is_one : List Symbol → Bool
is_one (s ∷ []) = true
is_one other = false

-- ---- IEC 61131-3 B.2.1: operands, arguments and instructions

-- `symbolic_variable ::= name | name "." ("Q" | "ET")`
unfoldable pub symbolic_variable : Form VariableData
symbolic_variable =
    choose_by is_one (map_form named (one name_of))
    (bind_form name_of (λ timer. after_mark mark.Dot (map_form (output timer) (one output_of))))

-- `operand ::= literal | symbolic_variable`
unfoldable pub operand : Form OperandData
operand = either (map_form constant (one literal_of)) (map_form variable symbolic_variable)

-- the input that a word names: `IN` or `PT`, in letters of either case (IEC 61131-3, table 37)
unfoldable pub input_named : List ℕ → Option Input
input_named w =
    if same_name w (codes "IN") then Some input.In
    else (if same_name w (codes "PT") then Some input.Pt else None)

-- the input that a token names, if it names one (own)
abbrev pub input_of : Symbol → Option Input
input_of s = option_and_then input_named (name_of s)

-- `arg ::= ("IN" | "PT") ":=" operand`
unfoldable pub argument : Form (Input × OperandData)
argument = bind_form input_of (λ k. after_mark mark.Assign (map_form (λ x. (k, x)) operand))

-- whether two inputs are the same (own)
abbrev pub same_input : Input → Input → Bool
same_input input.In input.In = true
same_input input.In input.Pt = false
same_input input.Pt input.In = false
same_input input.Pt input.Pt = true

-- two arguments; none if both are for the same input
abbrev pub two_arguments : (Input × OperandData) → (Input × OperandData)
    → Option (List (Input × OperandData))
two_arguments a b = if same_input a.0 b.0 then None else Some (a ∷ b ∷ [])

-- [arg {"," arg}], no two for the same input: there are two inputs, so there are at most two
-- arguments
unfoldable pub argument_list : Form (List (Input × OperandData))
argument_list =
    choose_by (has_mark mark.Comma)
    (try_map_form (λ p. two_arguments p.0 p.1) (split_form mark.Comma argument argument))
    (map_form (λ a. a ∷ []) argument)

-- `[arg {"," arg}]`: the arguments of a call, none, one or two
unfoldable pub arguments : Form (List (Input × OperandData))
arguments = either (no_token []) argument_list

-- the arguments, and then `)` as the last token
unfoldable pub closed_arguments : Form (List (Input × OperandData))
closed_arguments = map_form (λ p. p.0) (split_form mark.Close arguments (no_token true))

-- name "(" [arg {"," arg}] ")"
unfoldable pub call_action : Form Action
call_action =
    bind_form name_of (λ timer. after_mark mark.Open (map_form (call timer) closed_arguments))

-- an instruction that is the only part (own)
abbrev pub only_action : Form Action → Form (List LineContent)
only_action = map_form (λ a. action_part a ∷ [])

-- [operand]: the first item of the parenthesis is a load of the operand
unfoldable pub parenthesis : Operator → Bool → Form (List LineContent)
parenthesis o n =
    either (no_token (parenthesis_start o n ∷ []))
    (map_form (λ x. parenthesis_start o n ∷ action_part (load false x) ∷ []) operand)

-- whether the first token is `(` (own)
abbrev pub begins_open : List Symbol → Bool
begins_open [] = false
begins_open (s ∷ ss) = is_mark mark.Open s

-- an operator's operand, or "(" [operand]
unfoldable pub operator_parts : Operator → Bool → Form (List LineContent)
operator_parts o n =
    choose_by begins_open (after_mark mark.Open (parenthesis o n))
    (only_action (map_form (combine o n) operand))

-- the tokens after an operator
unfoldable pub statement : Mnemonic → Form (List LineContent)
statement (mnemonic.Load n) = only_action (map_form (load n) operand)
statement (mnemonic.Store k) = only_action (map_form (store k) symbolic_variable)
statement (mnemonic.Combine o n) = operator_parts o n
statement mnemonic.Not = no_token (action_part invert ∷ [])
statement (mnemonic.Convert c) = no_token (action_part (convert c) ∷ [])
statement (mnemonic.Return c) = no_token (action_part (leave c) ∷ [])
statement (mnemonic.Jump c) = only_action (map_form (jump c) (one name_of))
statement mnemonic.Call = only_action call_action

-- `instr ::= op0 | op1 operand | bin operand | bin "(" [operand] | jump name
--     | "CAL" name "(" [arg {"," arg}] ")"`
unfoldable pub instruction : Form (List LineContent)
instruction = bind_form mnemonic_of statement

-- ---- IEC 61131-3 B.1.4.3: declarations

-- the end of a declaration: its type, without an initial value
abbrev pub plain_tail : DeclaredType → Tail
plain_tail kind = record { kind = kind; initial = None }

-- the end of a declaration: its type and an initial value
abbrev pub initial_tail : DeclaredType → Literal → Tail
initial_tail kind value = record { kind = kind; initial = Some value }

-- whether there are exactly two tokens (own)
abbrev pub is_two : List Symbol → Bool
is_two (s ∷ t ∷ []) = true
is_two other = false

-- type [":=" literal] ";", with an initial value only for an elementary type
unfoldable pub tail : Form Tail
tail =
    choose_by is_two (bind_form type_of
    (λ kind. after_mark mark.Semicolon (no_token (plain_tail kind))))
    (bind_form elementary_of (λ kind. after_mark mark.Assign
    (bind_form literal_of (λ value. after_mark mark.Semicolon
    (no_token (initial_tail kind value))))))

-- the part that declares these names
abbrev pub declared_part : List (List ℕ) → Tail → List LineContent
declared_part ns t = names_part ns t.kind t.initial ∷ []

-- the part that declares the names of these tokens; none if the tokens are no list of names
abbrev pub declared_names : Tail → List Symbol → Option (List LineContent)
declared_names t ss = option_map (λ ns. declared_part ns t) (names_from false ss)

-- `decl ::= name {"," name} ":" type [":=" literal] ";"`
unfoldable pub declaration : Form (List LineContent)
declaration = map_form (λ p. declared_part p.0 p.1) (split_form mark.Colon names tail)

-- ---- IEC 61131-3 B.2.1: labels

-- whether the token is an operator (own)
abbrev pub is_mnemonic : Symbol → Bool
is_mnemonic s = is_some (mnemonic_of s)

-- whether these tokens may follow a label: an operator first, or no token
unfoldable pub may_follow_label : List Symbol → Bool
may_follow_label [] = true
may_follow_label (m ∷ ss) = is_mnemonic m

-- whether the first token is a label (own)
abbrev pub is_labelled : List Symbol → Bool
is_labelled [] = false
is_labelled (s ∷ []) = false
is_labelled (s ∷ c ∷ ss) = is_mark mark.Colon c && may_follow_label ss

-- a label and the tokens after it: an instruction, or nothing
unfoldable pub label_parts : List ℕ → Form (List LineContent)
label_parts n =
    either (no_token (label_part n ∷ [])) (map_form (λ ps. label_part n ∷ ps) instruction)

-- ---- IEC 61131-3 B.1.4.3, B.1.5.3, B.2.1: lines

-- a line that begins with a name: a label and the tokens after it, or a declaration
unfoldable pub named_line : Form (List LineContent)
named_line =
    choose_by is_labelled (bind_form name_of (λ n. after_mark mark.Colon (label_parts n)))
    declaration

-- the tokens after a keyword: a name after PROGRAM, no token after the others
unfoldable pub keyword_line : Keyword → Form (List LineContent)
keyword_line keyword.Program = map_form (λ n. program_start n ∷ []) (one name_of)
keyword_line keyword.EndProgram = no_token (program_end ∷ [])
keyword_line keyword.Var = no_token (block_start Local ∷ [])
keyword_line keyword.VarExternal = no_token (block_start External ∷ [])
keyword_line keyword.EndVar = no_token (block_end ∷ [])

-- the tokens after a first token that is no name
unfoldable pub other_line : Symbol → Form (List LineContent)
other_line (keyword_word w) = keyword_line w
other_line (mnemonic_word m) = statement m
other_line (mark_symbol mark.Close) = no_token (parenthesis_end ∷ [])
other_line other = none

-- whether the first token is a name (own)
abbrev pub begins_named : List Symbol → Bool
begins_named [] = false
begins_named (s ∷ ss) = is_some (name_of s)

-- A line: blank; PROGRAM with its name; a word of a block; a declaration; [name ":"] [instr]; `)`;
-- END_PROGRAM.
unfoldable pub whole_line : Form (List LineContent)
whole_line =
    either (no_token []) (choose_by begins_named named_line (bind_form (λ s. Some s) other_line))

-- the parts of a line, if it has a form
abbrev pub parts_of : List Symbol → Option (List LineContent)
parts_of ts = whole_line.reads ts

-- ---- own: lines without a form

-- Reading a line returns the parts that the line spells, and none exactly if it spells none.
abbrev pub LinesAreProduced : Type 0
LinesAreProduced =
    (ts : List Symbol) (ps : List LineContent) → whole_line.Spells ts ps ↔ (parts_of ts ≡ Some ps)

-- whether a line that begins with this token has no other token
abbrev pub is_single : Symbol → Bool
is_single (type_word kind) = true
is_single (literal value) = true
is_single (mark_symbol m) = true
is_single other = false

-- whether the token may follow a name with which a line begins
abbrev pub follows_name : Symbol → Bool
follows_name s = is_mark mark.Colon s || is_mark mark.Comma s

-- whether the second token can't follow the first, with which a line begins
abbrev pub is_misplaced : Symbol → Symbol → Bool
is_misplaced (name n) t = not (follows_name t)
is_misplaced s t = is_single s

-- whether the first two tokens show that no line begins with these tokens
abbrev pub begins_no_line : List Symbol → Bool
begins_no_line [] = false
begins_no_line (s ∷ []) = false
begins_no_line (s ∷ t ∷ ss) = is_misplaced s t
