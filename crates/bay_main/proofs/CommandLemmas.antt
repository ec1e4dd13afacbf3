-- What follows the line of a load that is compiled.
use Rattle.bay_io.specs.Calls.{WriteCall}
use Rattle.std.proofs.Common.{◌≡◌, ℕ, List, Option, Result, Ok, Err, IsErr, refl}
use Rattle.il_image.specs.Images.{Image}
use Rattle.bay_load.specs.Report.{IsReport}
use Rattle.bay_load.specs.declared.report.Report.{Report}
use Rattle.bay_files.specs.Files.{FileWrites}
use Rattle.bay_io.specs.Watched.{WriterState}
use Rattle.bay_io.specs.declared.outbox.WriteFault.{WriteFault}
use Rattle.bay_main.specs.Commands.{CompilesImage}
use Rattle.bay_report.specs.Report.{IsOutput, Prints, report_text}

-- the line could not be written
pub line-fails : {F W : Type 0} (writes : FileWrites F) (contents : W → Option (List ℕ))
    (asks : W → WriteCall → W → Type 0)
    (out : List ℕ) (image : Image) (report : Report) → IsReport image report → (files : F)
    (old middle : WriterState W) (fault : WriteFault)
    → Prints contents asks (IsOutput (report_text report) 0) old middle (Err fault)
    → (answer : Result ℕ WriteFault) → IsErr answer
    → CompilesImage writes contents asks out image files files old middle answer
line-fails writes contents asks out image report is files old middle fault printed (Ok n) e =
    absurd cc
line-fails writes contents asks out image report is files old middle fault printed (Err f) e =
    record {
      report = report;
      is = is;
      middle = middle;
      reported = Err f;
      printed = printed;
      continuation = (refl, refl, refl);
    }
