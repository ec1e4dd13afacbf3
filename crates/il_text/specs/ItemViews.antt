-- Declarations and items of the code as plain data.
use Rattle.std.specs.Prelude.{List, [], ◌∷◌}
use Rattle.il_text.specs.Listing.{VariableData, named, output, OperandData, constant, variable, Action, load, store, combine, invert, convert, jump, leave, call, Entry, label, action, block, entries_of, DeclaredName}
use Rattle.il_text.specs.declared.program.SymbolicVariable.{SymbolicVariable}
use Rattle.il_text.specs.declared.program.SymbolicVariable.TheVariants as v
use Rattle.il_text.specs.declared.program.Operand.{Operand}
use Rattle.il_text.specs.declared.program.Operand.TheVariants as o
use Rattle.il_text.specs.declared.program.Input.{Input}
use Rattle.il_text.specs.declared.program.Argument.{Argument}
use Rattle.il_text.specs.declared.program.Arguments.{Arguments}
use Rattle.il_text.specs.declared.program.Arguments.TheVariants as a
use Rattle.il_text.specs.declared.program.Instruction.{Instruction}
use Rattle.il_text.specs.declared.program.Instruction.TheVariants as i
use Rattle.il_text.specs.declared.program.Item.{Item, fold-Item}
use Rattle.il_text.specs.declared.program.Item.TheOpen.{Item-F}
use Rattle.il_text.specs.declared.program.Declaration.{Declaration}

-- ---- own: views of the code

-- a name, or an output of a timer
abbrev pub variable_data : SymbolicVariable → VariableData
variable_data (v.Name name) = named name.now
variable_data (v.TimerOutput timer gives) = output timer.now gives

-- the operand that an instruction reads
abbrev pub operand_data : Operand → OperandData
operand_data (o.Literal value) = constant value
operand_data (o.Variable place) = variable (variable_data place)

-- an input of a timer, and its operand
abbrev pub argument_of : Argument → Input × OperandData
argument_of given = (given.input, operand_data given.operand)

-- the arguments of a call in the order of the text
abbrev pub arguments_of : Arguments → List (Input × OperandData)
arguments_of a.None = []
arguments_of (a.One first) = argument_of first ∷ []
arguments_of (a.Two first second) = argument_of first ∷ argument_of second ∷ []

-- an instruction
abbrev pub action_of : Instruction → Action
action_of (i.Load negated operand) = load negated (operand_data operand)
action_of (i.Store kind target) = store kind (variable_data target)
action_of (i.Combine operator negated operand) = combine operator negated (operand_data operand)
action_of i.Not = invert
action_of (i.Convert conversion) = convert conversion
action_of (i.Jump condition to) = jump condition to.now
action_of (i.Return condition) = leave condition
action_of (i.Call timer arguments) = call timer.now (arguments_of arguments)

-- an item as an entry, given the entries of the items in it
abbrev pub entry_step : Item-F Entry → Entry
entry_step (Item-F.Label line name) = label line name.now
entry_step (Item-F.Instruction line instruction) = action line (action_of instruction)
entry_step (Item-F.Block line operator negated items end) =
    block line operator negated (entries_of items.items) end

-- an item as an entry
abbrev pub entry_of : Item → Entry
entry_of = fold-Item Entry entry_step

-- a declared name
abbrev pub declared_name : Declaration → DeclaredName
declared_name d =
    record { line = d.line; scope = d.scope; name = d.name.now; kind = d.kind; initial = d.initial }
