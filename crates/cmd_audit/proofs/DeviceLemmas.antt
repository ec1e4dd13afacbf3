-- Lemmas on the text of an audit whose files are loaded.
use Rattle.std.proofs.Common.{◌≡◌, ℕ, List, Option, Result, Ok, Err, IsErr, IfOk, refl}
use Rattle.bay_io.specs.Calls.{WriteCall}
use Rattle.bay_io.specs.Sent.{Finishes, Puts}
use Rattle.bay_io.specs.Watched.{WriterState}
use Rattle.bay_io.specs.declared.outbox.WriteFault.{WriteFault}
use Rattle.bay_io.proofs.SentLemmas.{Puts-then}
use Rattle.bay_load.specs.Loads.{LoadData}
use Rattle.bay_load.specs.Report.{IsReport}
use Rattle.bay_load.specs.declared.report.Report.{Report}
use Rattle.bay_report.specs.LogLines.{LogsIfAny, PrintsLogs}
use Rattle.bay_report.specs.Report.{Prints, report_text}
use Rattle.bay_report.proofs.ReportLemmas.{Prints-last}
use Rattle.cmd_audit.specs.Auditing.{LoadedReport}
use Rattle.cmd_audit.specs.Written.{PutsRest}
use Rattle.cmd_audit.specs.declared.loaded.AuditTexts.{AuditTexts}
use Rattle.cmd_audit.proofs.WrittenLemmas.{put-flushed}

module _ {W : Type 0} {contents : W → Option (List ℕ)} {does : W → WriteCall → W → Type 0}
    (loaded : LoadData) (texts : AuditTexts) (report : Report) (is : IsReport loaded.image report)
    (log : Option (List ℕ)) (status : ℕ) where
  -- the line of a load was put and written out, and then the rest
  pub device-prints : {X E : Type 0} {old first begun mid : WriterState W} (early : Result X E)
      (between : WriterState W) (r : Result ℕ WriteFault)
      → Puts contents does old (report_text report) first
      → Finishes contents does first begun early
      → PutsRest contents does loaded texts log status begun mid
      → Finishes contents does mid between r → IfOk r (λ n. n ≡ status)
      → Prints contents does (LoadedReport loaded texts.rules texts.diagram log) old between r
  device-prints {X} {E} {old} {first} {begun} {mid} early between r put flushed p f ends =
      Prints-last (LoadedReport loaded texts.rules texts.diagram log) between status r
      (record { report = report; is = is; rest = p.rest; whole = refl; prints = p.prints })
      (Puts-then (put-flushed {X = X} {E = E} (report_text report) early put flushed) p.put) f ends

  pub device-told : {old between new : WriterState W} (answered : ℕ)
      → Prints contents does (LoadedReport loaded texts.rules texts.diagram log) old between
      (Ok answered)
      → LogsIfAny contents does between log new
      → PrintsLogs contents does (LoadedReport loaded texts.rules texts.diagram) old new
      (Ok answered)
  device-told {old} {between} {new} answered p logged =
      record { line = log; between = between; printed = p; logged = logged }

  pub device-cut : {old between : WriterState W} (fault : WriteFault) (r : Result ℕ WriteFault)
      → IsErr r
      → Prints contents does (LoadedReport loaded texts.rules texts.diagram log) old between
      (Err fault)
      → PrintsLogs contents does (LoadedReport loaded texts.rules texts.diagram) old between r
  device-cut fault (Ok answered) wrong p = absurd cc
  device-cut {old} {between} fault (Err f) wrong p =
      record { line = log; between = between; printed = p; logged = refl }
