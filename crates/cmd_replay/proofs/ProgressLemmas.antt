-- How far a report has come.
use Rattle.bay_io.specs.Calls.{WriteCall}
use Rattle.std.proofs.Common.{◌≡◌, ℕ, ◌+◌, Bool, true, false, List, [], ◌∷◌, ◌++◌, Option, None, Result, Err, IfOk, subst, refl, sym, append_assoc, MatchBool}
use Rattle.bay_device.specs.Device.{State}
use Rattle.bay_load.specs.Report.{IsReport}
use Rattle.bay_load.specs.declared.report.Report.{Report}
use Rattle.bay_io.proofs.SentLemmas.{Puts-then}
use Rattle.bay_io.specs.Sent.{Finishes, Puts}
use Rattle.bay_io.specs.Watched.{WriterState}
use Rattle.bay_io.specs.declared.outbox.WriteFault.{WriteFault}
use Rattle.cmd_replay.specs.LineAnswers.{Choice, LineAnswer, Replaying, heard, line_answer}
use Rattle.cmd_replay.specs.Answering.{FinishesLogs}
use Rattle.cmd_replay.specs.Replay.{DeviceReport, TraceReport, last_log}
use Rattle.bay_report.proofs.ReportLemmas.{Prints-cut, Prints-last}
use Rattle.bay_report.specs.LogLines.{PrintsLogs}
use Rattle.bay_report.specs.Report.{Prints, report_text}
use Rattle.bay_trace.specs.Trace.{trace_line_of}

-- what was printed so far, and what may follow it
pub record Progress {W : Type 0} (contents : W → Option (List ℕ))
    (asks : W → WriteCall → W → Type 0) (May : Option (List ℕ) → List ℕ → ℕ → Type 0)
    (s : Replaying) (k : ℕ) (rest : List (List ℕ)) (old new : WriterState W) : Type 0 where
  pub printed : List ℕ
  pub continues : (log : Option (List ℕ)) (text : List ℕ) (status : ℕ)
      → TraceReport s k rest log text status → May log (printed ++ text) status
  pub put : Puts contents asks old printed new

pub Progress-start : {W : Type 0} {contents : W → Option (List ℕ)}
    {asks : W → WriteCall → W → Type 0} {old new : WriterState W}
    (report : Report) (s : State) (lines : List (List ℕ)) → IsReport s.machine.image report
    → Puts contents asks old (report_text report) new
    → Progress contents asks (DeviceReport s lines) (record { device = s; room = 0 }) 1 lines old
    new
Progress-start report s lines is put = record {
  printed = report_text report;
  continues = λ log text status told. (report, is, (text, refl, told));
  put = put;
}

when_true : (b : Bool) (P Q : Type 0) → b ≡ true → P → MatchBool b P Q
when_true true P Q e p = p
when_true false P Q e p = absurd cc

when_false : (b : Bool) (P Q : Type 0) → b ≡ false → Q → MatchBool b P Q
when_false true P Q e q = absurd cc
when_false false P Q e q = q

-- each trace has a report
pub record Told (s : Replaying) (k : ℕ) (lines : List (List ℕ)) : Type 0 where
  pub log : Option (List ℕ)
  pub text : List ℕ
  pub status : ℕ
  pub told : TraceReport s k lines log text status

pub told-trace : (s : Replaying) (k : ℕ) (lines : List (List ℕ)) → Told s k lines
told-trace s k [] =
    record { log = None; text = []; status = 0; told = (refl, (refl, refl)) }
told-trace s k (line ∷ lines) =
    by-last (line_answer (heard None) k (trace_line_of line) s).is_last refl
    (told-trace (line_answer (heard None) k (trace_line_of line) s).after (k + 1) lines)
  where
    by-last : (b : Bool) → (line_answer (heard None) k (trace_line_of line) s).is_last ≡ b
        → Told (line_answer (heard None) k (trace_line_of line) s).after (k + 1) lines
        → Told s k (line ∷ lines)
    by-last true is rest = record {
      log = last_log k line;
      text = (line_answer (heard None) k (trace_line_of line) s).text;
      status = 3;
      told = (heard None, when_true _ _ _ is (refl, (refl, refl)));
    }
    by-last false is rest = record {
      log = rest.log;
      text = (line_answer (heard None) k (trace_line_of line) s).text ++ rest.text;
      status = rest.status;
      told = (heard None, when_false _ _ _ is (rest.text, refl, rest.told));
    }

module _ {W : Type 0} {contents : W → Option (List ℕ)} {asks : W → WriteCall → W → Type 0}
    {May : Option (List ℕ) → List ℕ → ℕ → Type 0}
    {s : Replaying} {k : ℕ} {rest : List (List ℕ)} {old mid : WriterState W}
    (p : Progress contents asks May s k rest old mid) where
  -- a last text ends the report
  pub Progress-last : {put : WriterState W} {text : List ℕ} (end : WriterState W)
      (log : Option (List ℕ))
      (status : ℕ) (r : Result ℕ WriteFault) → TraceReport s k rest log text status
      → Puts contents asks mid text put → Finishes contents asks put end r
      → IfOk r (λ n. n ≡ status) → Prints contents asks (May log) old end r
  Progress-last {put} {text} end log status r told more ends is =
      Prints-last (May log) end status r (p.continues log text status told) (Puts-then p.put more)
      ends is

  -- and then the line that goes with it is logged
  pub Progress-logged : {put end : WriterState W} {text : List ℕ} (log : Option (List ℕ))
      (status : ℕ)
      (r : Result ℕ WriteFault) → TraceReport s k rest log text status
      → Puts contents asks mid text put → FinishesLogs contents asks status log put end r
      → PrintsLogs contents asks May old end r
  Progress-logged log status r told more ends = record {
    line = log;
    between = ends.between;
    printed = Progress-last ends.between log status r told more ends.finishes ends.status_is;
    logged = ends.logged;
  }

  -- a write has failed
  pub Progress-cut : (fault : WriteFault) → mid.has_failed ≡ true
      → PrintsLogs contents asks May old mid (Err fault)
  Progress-cut fault failed =
      let more = told-trace s k rest in
      record {
        line = more.log;
        between = mid;
        printed = Prints-cut (May more.log) more.text more.status fault
            (p.continues more.log more.text more.status more.told) p.put failed;
        logged = refl;
      }

  -- the next line is answered
  module _ (choice : Choice) (line : List ℕ) (after : List (List ℕ)) (e : rest ≡ line ∷ after)
    where
      abbrev said : LineAnswer
      said = line_answer choice k (trace_line_of line) s

      pub Progress-step : {new : WriterState W} → said.is_last ≡ false
          → Puts contents asks mid said.text new
          → Progress contents asks May said.after (k + 1) after old new
      Progress-step {new} more put =
          record {
            printed = p.printed ++ said.text;
            continues = λ log text status told.
                subst (λ t. May log t status) (sym (append_assoc p.printed said.text text))
                (p.continues log (said.text ++ text) status
                (subst (λ ls. TraceReport s k ls log (said.text ++ text) status) (sym e)
                (choice, when_false said.is_last _ _ more (text, refl, told))));
            put = Puts-then p.put put;
          }

      pub Progress-fault : said.is_last ≡ true
          → TraceReport s k rest (last_log k line) said.text 3
      Progress-fault is =
          subst (λ ls. TraceReport s k ls (last_log k line) said.text 3) (sym e)
          (choice, when_true said.is_last _ _ is (refl, (refl, refl)))

-- the end of the trace
pub no-lines : (s : Replaying) (k : ℕ) (rest : List (List ℕ)) → rest ≡ []
    → TraceReport s k rest None [] 0
no-lines s k rest e = subst (λ ls. TraceReport s k ls None [] 0) (sym e) (refl, (refl, refl))
