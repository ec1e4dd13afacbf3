-- Inner: the lines read so far by the code, as plain data.
use Rattle.std.specs.Prelude.{map, reverse}
use Rattle.il_text.specs.Reading.{Progress}
use Rattle.il_text.specs.Steps.{Parenthesis, DraftData}
use Rattle.il_text.specs.Views.{declared_name, entry_of}
use Rattle.il_text.specs.declared.listing.Draft as code
use Rattle.il_text.specs.declared.listing.Open.{Open}

-- ---- own: views of the code

-- an open parenthesis
abbrev pub parenthesis_of : Open → Parenthesis
parenthesis_of f =
    record {
      line = f.line;
      operator = f.operator;
      negated = f.negated;
      outer = map entry_of f.outer.items;
    }

-- what the lines so far make; the innermost parenthesis comes first
abbrev pub draft_data : code.Draft → DraftData
draft_data l =
    record {
      stage = l.stage;
      name = l.name.now;
      declarations = map declared_name l.declarations.items;
      items = map entry_of l.items.items;
      parentheses = reverse (map parenthesis_of l.parentheses.items);
    }

-- what the lines so far make, and the number of these lines with an instruction or `)`
abbrev pub progress_of : code.Draft → Progress
progress_of l = record { draft = draft_data l; instructions = l.instructions }
