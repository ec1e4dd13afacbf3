use Rattle.std.proofs.Common.{None}
use Rattle.bay_report.proofs.ReportLemmas.{Prints-alone, with-line}
use Rattle.bay_report.proofs.log.write_out_of_memory.Goals as goal

pub returns : goal.returns
returns g c = Prints-alone c.write_text.result (with-line None c.write_text.ensures)
