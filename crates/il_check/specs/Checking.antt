-- The result of checking a program: the checked program, or the fault to report.
use Rattle.std.specs.Prelude.{◌+◌, ◌<◌, List, [], ◌++◌, length, map, Result}
use Rattle.bay_base.specs.Exact.{unless_refused}
use Rattle.bay_base.specs.declared.point.Point.{Point}
use Rattle.il_text.specs.Listing as text
use Rattle.il_check.specs.Declaring.{names_in, labels_from, externals_of, variables_of, timers_of, declarations_faults}
use Rattle.il_check.specs.Faults.{least_fault}
use Rattle.il_check.specs.Program.{Checked}
use Rattle.il_check.specs.WellTyped.{Progress, start_progress, no_reach, items_faults, typed_items_of}
use Rattle.il_check.specs.declared.fault.CheckFault.{CheckFault}

-- ---- own: faults, and the result of a check

-- the state before the first item: no jump has reached a label yet
abbrev pub initial_progress : text.PlainProgram → Progress
initial_progress program = start_progress (map (λ l. no_reach) (labels_from 0 program.items))

-- all faults of a program
abbrev pub faults_of : List Point → text.PlainProgram → List CheckFault
faults_of points program =
    declarations_faults points [] program.declarations
    ++ items_faults (names_in points program) program.items (initial_progress program)

-- the checked program of a program without a fault
abbrev pub checked_program : List Point → text.PlainProgram → Checked
checked_program points program = record {
  externals = externals_of points program.declarations;
  variables = variables_of program.declarations;
  timers = timers_of program.declarations;
  items = typed_items_of (names_in points program) program.items (initial_progress program);
}

-- The program declares something or has an item. Checking another program does not run out of
-- memory.
abbrev pub Allocates : text.PlainProgram → Type 0
Allocates program = 0 < length program.declarations + length program.items

-- the checked program, or the fault to report
abbrev pub checked_of : List Point → text.PlainProgram → Result Checked CheckFault
checked_of points program =
    unless_refused (least_fault (faults_of points program)) (checked_program points program)
