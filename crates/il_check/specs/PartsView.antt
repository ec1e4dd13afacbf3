-- Inner: the parts of a checked program.
use Rattle.il_check.specs.Contents.{Contents}
use Rattle.il_check.specs.declared.program.Parts.{Parts}

-- ---- own: views of the code

-- the parts, with vectors as lists
abbrev pub parts_view : Parts → Contents
parts_view p =
    record {
      externals = p.externals.items;
      variables = p.variables.items;
      timers = p.timers.items;
      items = p.items.items;
    }
