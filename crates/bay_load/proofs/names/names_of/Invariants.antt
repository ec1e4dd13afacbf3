use Rattle.std.proofs.Common.{◌≡◌, ◌++◌, drop, map}
use Rattle.il_text.specs.ItemViews.{declared_name}
use Rattle.bay_load.specs.Names.{timer_names, variable_names}
use Rattle.bay_load.proofs.names.names_of.Given as goal

abbrev pub invariant-loop-declared : goal.invariant-loop-declared
invariant-loop-declared l = record {
  variables : l.names.variables
      ++ variable_names (map declared_name (drop l.declared-index l.declarations))
      ≡ variable_names (map declared_name l.declarations);
  timers : l.names.timers ++ timer_names (map declared_name (drop l.declared-index l.declarations))
      ≡ timer_names (map declared_name l.declarations);
}
