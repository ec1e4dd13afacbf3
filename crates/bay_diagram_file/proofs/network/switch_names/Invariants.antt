use Rattle.std.proofs.Common.{◌≡◌, map, take}
use Rattle.bay_diagram_file.specs.Checks.{name_of}
use Rattle.bay_diagram_file.proofs.network.switch_names.Given as goal

abbrev pub invariant-loop-row : goal.invariant-loop-row
invariant-loop-row l = l.names.items ≡ map name_of (take l.row-index l.rows)
