use Rattle.std.proofs.Common.{◌≡◌, ◌++◌, drop}
use Rattle.std.specs.List.{flat_map}
use Rattle.bay_diagram_file.specs.Words.{step_text}
use Rattle.bay_diagram_file.proofs.words.put_steps.Given as goal

abbrev pub invariant-loop-step : goal.invariant-loop-step
invariant-loop-step l =
    l.fn.text.items ++ flat_map (step_text l.diagram) l.steps
    ≡ l.text.items ++ flat_map (step_text l.diagram) (drop l.step-index l.steps)
