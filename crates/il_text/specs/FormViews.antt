-- Inner: the parts of the code's lines.
use Rattle.std.specs.Prelude.{Bool, false, List, [], ◌∷◌, Option, Some, None}
use Rattle.il_text.specs.Forms.{declared_names}
use Rattle.il_text.specs.Listing.{load}
use Rattle.il_text.specs.Parts.{LineContent, program_start, block_start, block_end, label_part, action_part, parenthesis_start, parenthesis_end, program_end}
use Rattle.il_text.specs.TokenViews.{symbols_of}
use Rattle.il_text.specs.Views.{action_of, operand_data}
use Rattle.il_text.specs.Tokens.{Symbol}
use Rattle.il_text.specs.declared.form.Halves.{Halves}
use Rattle.il_text.specs.declared.form.Line.{Line}
use Rattle.il_text.specs.declared.form.Line.TheVariants as line
use Rattle.il_text.specs.declared.form.Statement.{Statement}
use Rattle.il_text.specs.declared.form.Statement.TheVariants.{Plain, Open}
use Rattle.il_text.specs.declared.program.Operand.{Operand}
use Rattle.il_text.specs.declared.program.Operator.{Operator}

-- ---- own: views of the code

-- an operator with `(`, and the load of the operand after it, if there is one
abbrev pub opened_parts : Operator → Bool → Option Operand → List LineContent
opened_parts o n None = parenthesis_start o n ∷ []
opened_parts o n (Some x) = parenthesis_start o n ∷ action_part (load false (operand_data x)) ∷ []

-- the parts of an instruction or of an operator with `(`
abbrev pub statement_parts : Statement → List LineContent
statement_parts (Plain instruction) = action_part (action_of instruction) ∷ []
statement_parts (Open operator negated operand) = opened_parts operator negated operand

-- the parts of the code's line; none if the names of a declaration are no list
abbrev pub line_parts : Line → Option (List LineContent)
line_parts (line.Heading name) = Some (program_start name.now ∷ [])
line_parts (line.Opening scope) = Some (block_start scope ∷ [])
line_parts (line.Declaration names tail) = declared_names tail (symbols_of names.now)
line_parts line.Closing = Some (block_end ∷ [])
line_parts (line.Label name) = Some (label_part name.now ∷ [])
line_parts (line.Labelled name statement) = Some (label_part name.now ∷ statement_parts statement)
line_parts (line.Statement statement) = Some (statement_parts statement)
line_parts line.Leaving = Some (parenthesis_end ∷ [])
line_parts line.Ending = Some (program_end ∷ [])

-- the tokens before and after the mark that separates them
abbrev pub halves_of : Halves → List Symbol × List Symbol
halves_of h = (symbols_of h.front.now, symbols_of h.rest.now)
