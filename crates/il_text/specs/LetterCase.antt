-- A program with its names in upper case.
use Rattle.std.specs.Prelude.{ℕ, List, map, Result, Ok, Err}
use Rattle.bay_base.specs.Names.{upper}
use Rattle.il_text.specs.Listing.{VariableData, named, output, OperandData, constant, variable, Action, load, store, combine, invert, convert, jump, leave, call, Entry, label, action, block, Entries, no_entries, entry, DeclaredName, PlainProgram}
use Rattle.il_text.specs.Texts.{ReadsAs}
use Rattle.il_text.specs.declared.fault.TextFault.{TextFault}
use Rattle.il_text.specs.declared.program.Input.{Input}

-- ---- own: a program with its names in upper case

-- a name, or an output of a timer, in upper case
abbrev pub upper_place : VariableData → VariableData
upper_place (named n) = named (upper n)
upper_place (output timer gives) = output (upper timer) gives

-- an operand with its names in upper case
abbrev pub upper_source : OperandData → OperandData
upper_source (constant value) = constant value
upper_source (variable place) = variable (upper_place place)

-- an argument with its names in upper case
abbrev pub upper_argument : (Input × OperandData) → (Input × OperandData)
upper_argument a = (a.0, upper_source a.1)

-- an instruction with its names in upper case
abbrev pub upper_action : Action → Action
upper_action (load negated source) = load negated (upper_source source)
upper_action (store kind place) = store kind (upper_place place)
upper_action (combine operator negated source) = combine operator negated (upper_source source)
upper_action invert = invert
upper_action (convert conversion) = convert conversion
upper_action (jump condition to) = jump condition (upper to)
upper_action (leave condition) = leave condition
upper_action (call timer arguments) = call (upper timer) (map upper_argument arguments)

abbrev mutual
  pub upper_entry : Entry → Entry
  upper_entry (label line name) = label line (upper name)
  upper_entry (action line a) = action line (upper_action a)
  upper_entry (block line operator negated es end) =
      block line operator negated (upper_entries es) end

  pub upper_entries : Entries → Entries
  upper_entries no_entries = no_entries
  upper_entries (entry e es) = entry (upper_entry e) (upper_entries es)

-- a declared name in upper case
abbrev pub upper_declared : DeclaredName → DeclaredName
upper_declared d =
    record {
      line = d.line;
      scope = d.scope;
      name = upper d.name;
      kind = d.kind;
      initial = d.initial;
    }

-- a program with its names in upper case
abbrev pub upper_listing : PlainProgram → PlainProgram
upper_listing l =
    record {
      name = upper l.name;
      declarations = map upper_declared l.declarations;
      items = map upper_entry l.items;
    }

-- what a text is read as, with the names of its program in upper case; a fault is unchanged
abbrev pub upper_program : Result PlainProgram TextFault → Result PlainProgram TextFault
upper_program (Ok l) = Ok (upper_listing l)
upper_program (Err e) = Err e

-- A text in upper case reads as the original does, with its names in upper case, and has the same
-- fault. So letters may be spelled in either case (IEC 61131-3, 2.1.1).
abbrev pub LettersMayBeRespelled : Type 0
LettersMayBeRespelled = (text : List ℕ) (read : Result PlainProgram TextFault) → ReadsAs text read
    → ReadsAs (upper text) (upper_program read)
