-- The parts of a scenario as values, without the slices that the code returns.
use Rattle.cmd_replay.specs.declared.scenario.Scenario.{Scenario}
use Rattle.cmd_replay.specs.Scenario.{ScenarioParts}

-- the parts of a scenario, as definitions use them
abbrev pub scenario_view : Scenario → ScenarioParts
scenario_view s = record { bay = s.bay.now; logic = s.logic.now; trace = s.trace.now }
