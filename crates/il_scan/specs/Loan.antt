-- What the outputs of a scan are borrowed from.
use Rattle.std.specs.Prelude.{ℕ, List}
use Rattle.std.specs.Borrow.{Fml, MutBor}
use Rattle.std.specs.Io.BufRead.{Rests}
use Rattle.il_image.specs.declared.value.Value.{Value}
use Rattle.il_scan.specs.Scans.{MachineData, Scans}
use Rattle.il_scan.specs.contracts.machine.Machine.{the_row}

-- Once the borrow of the outputs ends, the machine is in the state after a scan with these inputs
-- at this moment.
abbrev pub LendsOutputs : MutBor MachineData → List Value → ℕ → ℕ → List Value → Fml
LendsOutputs machine inputs now steps outputs =
    Rests the_row machine (λ last. Scans machine.now inputs now last steps outputs)
