-- Programs of the code as plain data.
use Rattle.std.specs.Prelude.{map}
pub use Rattle.il_text.specs.ItemViews.{variable_data, operand_data, argument_of, arguments_of, action_of, entry_of, declared_name}
use Rattle.il_text.specs.Listing.{PlainProgram}
use Rattle.il_text.specs.declared.program.Program.{Program}

-- ---- own: views of the code

-- a program
abbrev pub plain_program : Program → PlainProgram
plain_program p =
    record {
      name = p.name.now;
      declarations = map declared_name p.declarations.items;
      items = map entry_of p.items.items;
    }
