-- A program of HALT alone, and rules about the first switch.
use Rattle.std.specs.Prelude.{[], ◌∷◌, None}
use Rattle.bay_audit.specs.Rules.{BoundProgram, program}
use Rattle.bay_base.specs.declared.switch.Operation.TheVariants.{Open}
use Rattle.bay_audit_rules.specs.declared.rule.ConditionItem.TheVariants as items
use Rattle.bay_audit_rules.specs.declared.rule.Rule.{Rule}
use Rattle.bay_audit_rules.specs.declared.rule.RuleKind.{RuleKind}

-- the program, without points, variables and timers
abbrev pub halting_program : BoundProgram
halting_program = program (record { points = []; variables = []; timers = []; code = 1 ∷ [] }) [] []

-- the rule that the first switch is never, or always, released for opening, for every process
abbrev pub at_all_times : RuleKind → Rule
at_all_times kind = record {
  line = 1;
  kind = kind;
  switch = 0;
  operation = Open;
  when = items.True ∷ [];
  timed = None;
}
