-- The results of the parts of the reader, in terms of the meaning of a text.
use Rattle.std.specs.Prelude.{◌≡◌, ◌⊎◌, ℕ, Bool, true, false, List, [], ◌++◌, Option, None, Some, Result, Ok, Err}
use Rattle.std.specs.List.{slice_split}
use Rattle.bay_audit_rules.specs.declared.fault.RuleFault.{RuleFault}
use Rattle.bay_audit_rules.specs.declared.fault.RuleFault.TheVariants.{OutOfMemory}
use Rattle.bay_audit_rules.specs.declared.rule.Rule.{Rule}
use Rattle.bay_audit_rules.specs.Meaning.{is_line_end}

-- the rules were appended, if there are any
abbrev pub Pushes : Option (List Rule) → List Rule → List Rule → Bool → Type 0
Pushes None old new false = Unit {0}
Pushes None old new true = ⊥
Pushes (Some rules) old new false = ⊥
Pushes (Some rules) old new true = new ≡ old ++ rules

-- either the rules of a reading were appended, or the fault is that of a reading, or memory ran out
abbrev pub AppendsRules : (Result (List Rule) RuleFault → Type 0) → List Rule → List Rule
    → Result Unit RuleFault → Type 0
AppendsRules IsRead old new (Ok x) = (rules : List Rule) × IsRead (Ok rules) × (new ≡ old ++ rules)
AppendsRules IsRead old new (Err fault) = (fault ≡ OutOfMemory) ⊎ IsRead (Err fault)

-- the lines after the first
abbrev pub rest_lines : Option (List ℕ) → List (List ℕ)
rest_lines None = []
rest_lines (Some rest) = slice_split is_line_end rest
