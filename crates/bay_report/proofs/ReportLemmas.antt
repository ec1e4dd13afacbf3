-- Lemmas on what is printed.
use Rattle.bay_io.specs.Calls.{WriteCall, some_call, write_failed}
use Rattle.std.proofs.Common.{◌≡◌, ℕ, suc, ◌+◌, ◌<◌, ◌==◌, Bool, true, false, List, [], ◌∷◌, ◌++◌, length, drop, get_or, ◌||◌, Option, None, Result, Ok, Err, is_err, IsErr, IfOk, subst, refl, ap, sym, ◌∙◌, arith, add-one, append_assoc, MatchBool}
use Rattle.std.proofs.Math.Seq.{drop-cons}
use Rattle.std.proofs.lemmas.Bool.Decides.{nat_tests}
use Rattle.bay_device.specs.Device.{State}
use Rattle.bay_device.specs.declared.event.Sent.{Sent}
use Rattle.bay_io.proofs.AskedLemmas.{Asked-then}
use Rattle.bay_io.proofs.SentLemmas.{SendsPart-more, Sends-rest, Sends-rest_part}
use Rattle.bay_io.specs.Sent.{FlushOutcome, Finishes, Puts, Sends, SendsPart}
use Rattle.bay_io.specs.Watched.{WriterState}
use Rattle.bay_io.specs.declared.outbox.WriteFault.{WriteFault}
use Rattle.bay_report.specs.Lines.{command_text, commands_text, send_text, sends_text}
use Rattle.bay_report.specs.LogLines.{IsLoggedOutput, LogsIfAny, PrintsLogs}
use Rattle.bay_report.specs.Report.{IsOutput, Printed, Prints}
use Rattle.bay_mms_services.specs.declared.answer.Command.{Command}

pub sends-turn : (now : ℕ) (sends : List Sent) (k : ℕ) (sent : Sent) → sent ≡ get_or sends k sent
    → k < length sends → sends_text now (drop k sends)
    ≡ send_text now sent ++ sends_text now (drop (k + 1) sends)
sends-turn now sends k sent is lt =
    let next : drop k sends ≡ sent ∷ drop (k + 1) sends =
    rw (add-one, drop-cons sends k sent) (ap (λ x. x ∷ drop (suc k) sends) (sym is)) in
    ap (sends_text now) next

pub commands-turn : (now : ℕ) (s : State) (commands : List Command) (k : ℕ) (d : Command)
    → k < length commands
    → commands_text now s (drop k commands)
    ≡ command_text now s (get_or commands k d) ++ commands_text now s (drop (k + 1) commands)
commands-turn now s commands k d lt =
    let next : drop k commands ≡ get_or commands k d ∷ drop (k + 1) commands =
    rw (add-one, drop-cons commands k d) refl in
    ap (commands_text now s) next

pub nil-from-length : (xs : List ℕ) → length xs ≡ 0 → xs ≡ []
nil-from-length [] e = refl
nil-from-length (x ∷ xs) e = absurd (omega arith)

-- ---- what becomes of a text that may be printed

module _ {W : Type 0} {contents : W → Option (List ℕ)} {asks : W → WriteCall → W → Type 0}
    (May : List ℕ → ℕ → Type 0) where
  last-printed : {old mid : WriterState W} {text : List ℕ} (new : WriterState W) (status : ℕ)
      (r : Result ℕ WriteFault) → May text status → Puts contents asks old text mid
      → FlushOutcome contents mid new r → IfOk r (λ s. s ≡ status) → Printed contents May old new r
  last-printed {old} {mid} {text} new status (Ok s) reported put ends is = by_failed mid.has_failed
      refl put.sent
    where
      by_failed : (b : Bool) → mid.has_failed ≡ b
          → MatchBool b (SendsPart (contents old.inner) (contents mid.inner) (old.pending ++ text))
          (Sends (contents old.inner) (contents mid.inner) (old.pending ++ text) mid.pending)
          → Printed contents May old new (Ok s)
      by_failed true failed sent = let well = ends.0 in absurd cc
      by_failed false failed sent = (
        record {
          text = text;
          reported = subst (May text) (sym is) reported;
          appended = Sends-rest (contents old.inner) (contents mid.inner) (contents new.inner)
              (old.pending ++ text) mid.pending sent ends.1;
        },
        (ends.2, ends.3.0, ends.3.1),
      )
  last-printed {old} {mid} {text} new status (Err fault) reported put ends is = (
    record {
      text = text;
      status = status;
      reported = reported;
      part = by_failed mid.has_failed refl put.sent;
    },
    ends.2,
  )
    where
      by_failed : (b : Bool) → mid.has_failed ≡ b
          → MatchBool b (SendsPart (contents old.inner) (contents mid.inner) (old.pending ++ text))
          (Sends (contents old.inner) (contents mid.inner) (old.pending ++ text) mid.pending)
          → SendsPart (contents old.inner) (contents new.inner) (old.pending ++ text)
      by_failed true failed sent =
          subst (λ x. SendsPart (contents old.inner) x (old.pending ++ text))
          (sym (ap contents (ends.1 failed))) sent
      by_failed false failed sent =
          Sends-rest_part (contents old.inner) (contents mid.inner) (contents new.inner)
          (old.pending ++ text) mid.pending sent ends.0

  -- a text was put, and all was written out
  pub Prints-last : {old mid : WriterState W} {text : List ℕ} (new : WriterState W) (status : ℕ)
      (r : Result ℕ WriteFault) → May text status → Puts contents asks old text mid
      → Finishes contents asks mid new r → IfOk r (λ s. s ≡ status)
      → Prints contents asks May old new r
  Prints-last {old} {mid} {text} new status r reported put f is = record {
    printed = last-printed new status r reported put f.ends is;
    calls_made =
        Asked-then old.inner mid.inner new.inner old.has_failed mid.has_failed new.has_failed
        put.calls_made f.calls_made;
    same_logs = f.same_logs ∙ put.same_logs;
  }

  -- a front of a text was put, and a write has failed
  pub Prints-cut : {old new : WriterState W} {front : List ℕ} (more : List ℕ) (status : ℕ)
      (fault : WriteFault) → May (front ++ more) status → Puts contents asks old front new
      → new.has_failed ≡ true → Prints contents asks May old new (Err fault)
  Prints-cut {old} {new} {front} more status fault reported put failed = record {
    printed = (
      record {
        text = front ++ more;
        status = status;
        reported = reported;
        part = SendsPart-more (contents old.inner) (contents new.inner) (old.pending ++ front) more
            (old.pending ++ (front ++ more)) (by_failed new.has_failed failed put.sent)
            (sym (append_assoc old.pending front more));
      },
      failed,
    );
    calls_made = put.calls_made;
    same_logs = put.same_logs;
  }
    where
      by_failed : (b : Bool) → b ≡ true
          → MatchBool b (SendsPart (contents old.inner) (contents new.inner) (old.pending ++ front))
          (Sends (contents old.inner) (contents new.inner) (old.pending ++ front) new.pending)
          → SendsPart (contents old.inner) (contents new.inner) (old.pending ++ front)
      by_failed true e sent = sent
      by_failed false e sent = absurd cc

weaker : {W : Type 0} (contents : W → Option (List ℕ)) (May Might : List ℕ → ℕ → Type 0)
    (old new : WriterState W) (r : Result ℕ WriteFault)
    → ((text : List ℕ) (status : ℕ) → May text status → Might text status)
    → Printed contents May old new r → Printed contents Might old new r
weaker contents May Might old new (Ok status) wider p = (
  record {
    text = p.0.text;
    reported = wider p.0.text status p.0.reported;
    appended = p.0.appended;
  },
  p.1,
)
weaker contents May Might old new (Err fault) wider p = (
  record {
    text = p.0.text;
    status = p.0.status;
    reported = wider p.0.text p.0.status p.0.reported;
    part = p.0.part;
  },
  p.1,
)

pub Prints-weaker : {W : Type 0} (contents : W → Option (List ℕ))
    (asks : W → WriteCall → W → Type 0) (May Might : List ℕ → ℕ → Type 0) (old new : WriterState W)
    (r : Result ℕ WriteFault)
    → ((text : List ℕ) (status : ℕ) → May text status → Might text status)
    → Prints contents asks May old new r → Prints contents asks Might old new r
Prints-weaker contents asks May Might old new r wider p =
    record {
      printed = weaker contents May Might old new r wider p.printed;
      calls_made = p.calls_made;
      same_logs = p.same_logs;
    }

-- ---- with a line for the log

module _ {W : Type 0} {contents : W → Option (List ℕ)} {asks : W → WriteCall → W → Type 0}
    {May : Option (List ℕ) → List ℕ → ℕ → Type 0} {old new : WriterState W} where
  -- where none goes with the text nothing is logged
  pub Prints-alone : (r : Result ℕ WriteFault) → Prints contents asks (May None) old new r
      → PrintsLogs contents asks May old new r
  Prints-alone (Ok status) p = record { line = None; between = new; printed = p; logged = refl }
  Prints-alone (Err fault) p = record { line = None; between = new; printed = p; logged = refl }

  pub PrintsLogs-weaker : (Might : Option (List ℕ) → List ℕ → ℕ → Type 0) (r : Result ℕ WriteFault)
      → ((line : Option (List ℕ)) (text : List ℕ) (status : ℕ) → May line text status
      → Might line text status) → PrintsLogs contents asks May old new r
      → PrintsLogs contents asks Might old new r
  PrintsLogs-weaker Might r wider p = record {
    line = p.line;
    between = p.between;
    printed = Prints-weaker contents asks (May p.line) (Might p.line) old p.between r (wider p.line)
        p.printed;
    logged = p.logged;
  }

module _ {W : Type 0} {contents : W → Option (List ℕ)} {asks : W → WriteCall → W → Type 0}
    {last : List ℕ} {status : ℕ} {old between : WriterState W} where
  -- a text goes with its line
  pub with-line : {r : Result ℕ WriteFault} (line : Option (List ℕ))
      → Prints contents asks (IsOutput last status) old between r
      → Prints contents asks (IsLoggedOutput line last status line) old between r
  with-line {r} line p = Prints-weaker contents asks (IsOutput last status)
      (IsLoggedOutput line last status line) old between r
      (λ text answered reported. (refl, reported)) p

  -- a text was printed, and its line was logged
  pub PrintsLogs-told : {new : WriterState W} (line : Option (List ℕ)) (answered : ℕ)
      → Prints contents asks (IsOutput last status) old between (Ok answered)
      → LogsIfAny contents asks between line new
      → PrintsLogs contents asks (IsLoggedOutput line last status) old new (Ok answered)
  PrintsLogs-told line answered p logged =
      record { line = line; between = between; printed = with-line line p; logged = logged }

  -- it could not be printed
  pub PrintsLogs-cut : (line : Option (List ℕ)) (fault : WriteFault) (r : Result ℕ WriteFault)
      → IsErr r → Prints contents asks (IsOutput last status) old between (Err fault)
      → PrintsLogs contents asks (IsLoggedOutput line last status) old between r
  PrintsLogs-cut line fault (Ok answered) is p = absurd cc
  PrintsLogs-cut line fault (Err f) is p =
      record { line = line; between = between; printed = with-line line p; logged = refl }

-- a fault is answered where a write or a flush failed
pub Prints-fault : {W : Type 0} {contents : W → Option (List ℕ)} {asks : W → WriteCall → W → Type 0}
    {May : List ℕ → ℕ → Type 0} (old new : WriterState W) (r : Result ℕ WriteFault)
    (p : Prints contents asks May old new r) → old.has_failed ≡ false
    → is_err r ≡ some_call write_failed p.calls_made.calls
Prints-fault old new (Ok status) p e =
    sym p.printed.1.1 ∙ p.calls_made.failed
    ∙ ap (λ b. b || some_call write_failed p.calls_made.calls) e
Prints-fault old new (Err fault) p e =
    sym p.printed.1 ∙ p.calls_made.failed
    ∙ ap (λ b. b || some_call write_failed p.calls_made.calls) e

-- of two, the first where the condition holds
pub chosen : {A : Type 0} (B : Type 0) (b : Bool) → b ≡ true → A → MatchBool b A B
chosen B true e a = a
chosen B false e a = absurd cc

-- of two, the second where it does not
pub other : (A : Type 0) {B : Type 0} (b : Bool) → b ≡ false → B → MatchBool b A B
other A true e x = absurd cc
other A false e x = x

pub is-not : (status : ℕ) → (status ≡ 0 → ⊥) → (status == 0) ≡ false
is-not status isnt = grind (arith, nat_tests)
