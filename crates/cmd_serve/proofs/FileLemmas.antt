-- Lemmas on serving files.
use Rattle.std.proofs.Common.{◌≡◌, ◌≤◌, ◌&&◌, ℕ, nat_le, min, Bool, true, false, if◌then◌else◌, IsErr, List, length, take, drop, Option, None, Some, Result, Ok, Err, refl, sym, subst, arith}
use Rattle.std.specs.Char.{is_ascii_hexdigit}
use Rattle.std.specs.List.{prefix_len}
use Rattle.std.proofs.lemmas.Bool.{and_parts}
use Rattle.std.proofs.lemmas.Bool.Decides.{nat_tests}
use Rattle.std.proofs.lemmas.List.{length-take}
use Rattle.bay_cli.specs.declared.task.ServeTask.{ServeTask}
use Rattle.bay_files.specs.Files.{ProtectedReads}
use Rattle.bay_files.specs.Keys.{ReadsKeyIfNamed, is_key_end, key_in}
use Rattle.bay_device.specs.Device.{State}
use Rattle.bay_device.specs.Load.{LoadsDevice}
use Rattle.bay_load.specs.Report.{IsReport}
use Rattle.bay_load.specs.declared.report.Report.{Report}
use Rattle.bay_files.specs.Files.{FilesData}
use Rattle.bay_io.specs.Calls.{WriteCall}
use Rattle.bay_io.specs.Watched.{WriterState}
use Rattle.bay_io.specs.declared.outbox.WriteFault.{WriteFault}
use Rattle.bay_device.proofs.LoadedLemmas.{device-loaded, loaded-runs}
use Rattle.bay_report.specs.Report.{IsOutput, Prints, report_text}
use Rattle.bay_load.specs.declared.load.Form.{Form}
use Rattle.bay_load.specs.declared.load.Form.TheVariants.{Logic, Image}
use Rattle.bay_replay_laws.specs.ReadBack.{HaveIds}
use Rattle.bay_server_turn.specs.Calls.{Call}
use Rattle.bay_server.specs.Host.{HostCall}
use Rattle.bay_server.specs.ServeReport.{ServiceState, ServesTurns}
use Rattle.cmd_serve.specs.Serve.{RunsText, key_of, ServesLoaded, ServesRun}
use Rattle.cmd_serve.specs.declared.permit.Permit.{Permit}
use Rattle.cmd_serve.specs.declared.serve.LoadedFiles.{LoadedFiles}
use Rattle.cmd_serve.specs.Service.{DoneTurn, IsBegun, turns_in}
use Rattle.cmd_serve.proofs.BeginLemmas.{ordered-from}
use Rattle.cmd_serve.proofs.LiveLemmas.{commands-live}
use Rattle.cmd_serve.proofs.RecordLemmas.{record-kept}
use Rattle.cmd_serve.proofs.TextLemmas.{printed-from}
use Rattle.cmd_serve.proofs.TurnLemmas.{service-of, turned}

-- a key has at most 64 digits
key-short : (text key : List ℕ) → key_in text ≡ Some key → length key ≤ 64
key-short text key e =
    by-test ((nat_le 32 digits && nat_le digits 64) && is_key_end (drop digits text)) refl e
  where
    digits : ℕ
    digits = prefix_len is_ascii_hexdigit text

    by-test : (v : Bool)
        → ((nat_le 32 digits && nat_le digits 64) && is_key_end (drop digits text)) ≡ v
        → (if v then Some (take digits text) else None) ≡ Some key → length key ≤ 64
    by-test false is e = absurd cc
    by-test true is e =
        let few : nat_le digits 64 ≡ true =
        (and_parts (nat_le 32 digits) (nat_le digits 64)
        (and_parts (nat_le 32 digits && nat_le digits 64) (is_key_end (drop digits text)) is).0).1
        in
        let same : take digits text ≡ key = cc in
        let within : length (take digits text) ≡ min digits (length text) =
        length-take digits text in
        let low : digits ≤ 64 = grind (arith, nat_tests) in
        subst (λ k. length k ≤ 64) same (omega arith)

pub named-short : {F : Type 0} (guards : ProtectedReads F) (files : F) (named key : Option (List ℕ))
    → ReadsKeyIfNamed guards files named (Ok key) → length (key_of key) ≤ 64
named-short guards files None key read =
    let none : key ≡ None = cc in subst (λ k. length (key_of k) ≤ 64) (sym none) (omega arith)
named-short guards files (Some name) None read = absurd read
named-short guards files (Some name) (Some key) read = key-short read.0 key read.2

-- a device that was loaded from a text runs it
pub text-runs : (form : Form) (both : FilesData) (s : State)
    → LoadsDevice both.bay form both.program s → RunsText form both s
text-runs Logic both s loads =
    let loaded = device-loaded both.bay Logic both.program s loads in
    (loaded, loaded-runs both.bay both.program s loaded)
text-runs Image both s loads = tt

-- a permit that fails as a write did
pub permit-fails : (permit : Result Permit WriteFault) (fault : WriteFault) → IsErr permit
    → permit ≡ Err fault
permit-fails (Ok permit) fault e = absurd cc
permit-fails (Err f) fault e = refl

-- an answer that fails so
pub answer-fails : (answer : Result ℕ WriteFault) (fault : WriteFault) → IsErr answer
    → answer ≡ Err fault
answer-fails (Ok status) fault e = absurd cc
answer-fails (Err f) fault e = refl

module _ {L H W : Type 0} (step : L → Call → L → Type 0) (acts : H → HostCall L → H → Type 0)
    (contents : W → Option (List ℕ)) (asks : W → WriteCall → W → Type 0) where
  -- turns of a server as it was made are one run
  pub one-run : (turns : ℕ) (before : ServiceState L H) (old : WriterState W)
      (host : H) (new : WriterState W) (answer : Result ℕ WriteFault)
      → ServesTurns step acts contents asks turns before old host new answer
      → IsBegun before.held → HaveIds before.held.device.switches
      → ServesRun step acts contents asks turns before old new host answer
  one-run turns before old host new answer serves begun ids =
      let done : List DoneTurn =
      turns_in step acts contents asks turns before old host new answer serves in
      let are = turned step acts contents asks turns before old host new answer serves in
      record {
        serves = serves;
        done = done;
        are = refl;
        run =
            service-of step acts contents asks turns before old new host answer serves
            begun.loaded;
        ordered = ordered-from before.held done begun are;
        printed = printed-from before.held done begun ids are;
        live = λ settings supervised. commands-live step acts contents asks settings turns before
            old
            host new answer serves begun supervised;
        recorded = record-kept step acts contents asks turns before old host new answer serves;
      }

  -- the line of a load could not be written
  pub line-fails : (task : ServeTask (List ℕ)) (loaded : LoadedFiles) (report : Report)
      → IsReport loaded.load.image report → (host : H) (old middle : WriterState W)
      (fault : WriteFault) → Prints contents asks (IsOutput (report_text report) 0) old middle
      (Err fault)
      → (answer : Result ℕ WriteFault) → IsErr answer
      → ServesLoaded step acts contents asks task loaded host host old middle answer
  line-fails task loaded report is host old middle fault printed (Ok n) e = absurd cc
  line-fails task loaded report is host old middle fault printed (Err f) e = record {
    report = report;
    is = is;
    middle = middle;
    reported = Err f;
    printed = printed;
    continuation = (refl, refl, refl);
  }
