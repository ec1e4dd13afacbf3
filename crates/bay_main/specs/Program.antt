-- The program as a whole: its output, its command, and the exit status.
use Rattle.std.specs.Prelude.{◌≡◌, ℕ, Bool, false, not, List, [], ◌∷◌, codes, Option, Some, None, if◌then◌else◌}
use Rattle.std.specs.Str.{bytes_eq}
use Rattle.bay_files.specs.Files.{ProtectedReads, FileReads, FileWrites}
use Rattle.bay_io.specs.Calls.{WriteCall, Log}
use Rattle.bay_io.specs.Watched.{WriterState}
use Rattle.bay_stdio.specs.Descriptor.{DescriptorData, accepted_octets}
use Rattle.bay_stdio.specs.Output.{CallEffect, Drains, OutputData, written_octets}
use Rattle.bay_server_turn.specs.Calls.{Call}
use Rattle.bay_server.specs.Host.{HostCall}
use Rattle.bay_main.specs.Commands.{CommandEnvironment, Obeys}
use Rattle.bay_main.specs.Ending.{error_message_of, status_of}
use Rattle.bay_main.specs.declared.ending.CommandResult.{CommandResult}
use Rattle.bay_main.specs.declared.ending.CommandResult.TheVariants.{Status, WriteFailed, Refused}

-- the output of a program over two writers
abbrev pub SystemOutput : Type 0 → Type 0 → Type 0
SystemOutput O E = OutputData (DescriptorData O) (DescriptorData E)

-- the first argument is `serve`
abbrev pub names_serve : List (List ℕ) → Bool
names_serve [] = false
names_serve (word ∷ words) = bytes_eq word (codes "serve")

-- An output before anything was written. That of a server has a queue, and does not wait for its
-- reader; that of another command waits. The log never waits.
abbrev pub fresh_output : {O E : Type 0} → Bool → O → E → SystemOutput O E
fresh_output serving out err = record {
  out = record { writer = out; waits = not serving };
  queue = if serving then Some [] else None;
  err = record { writer = err; waits = false };
  log = record { waiting = []; lost = 0 };
}

-- a sink that was not used before
abbrev pub unused_writer : {W : Type 0} → W → WriterState W
unused_writer sink = record {
  inner = sink;
  has_failed = false;
  is_flushed = false;
  logs = false;
  pending = [];
}

-- nothing is known of a call of the system but the octets that it takes
abbrev pub AnyCall : {S : Type 0} → S → WriteCall → S → Type 0
AnyCall old call new = Unit {0}

-- what is queued is written; if some is left, that is a failed write
abbrev pub EndsDrained : {O E : Type 0} → (O → Option (List ℕ)) → (E → Option (List ℕ))
    → OutputData O E → CommandResult → OutputData O E → CommandResult → Type 0
EndsDrained contents log_contents old ended new last =
    (done : Bool) × Drains contents log_contents AnyCall old new done
    × (last ≡ (if done then ended else WriteFailed))

-- After a command its queued output is written, and the program has the result of the command, or,
-- if some output is left, a failed write. After a failed write nothing more is written.
abbrev pub OutputDrained : {O E : Type 0} → (O → Option (List ℕ)) → (E → Option (List ℕ))
    → OutputData O E → CommandResult → OutputData O E → CommandResult → Type 0
OutputDrained contents log_contents old WriteFailed new last = (new ≡ old) × (last ≡ WriteFailed)
OutputDrained contents log_contents old (Status status) new last =
    EndsDrained contents log_contents old (Status status) new last
OutputDrained contents log_contents old (Refused text) new last =
    EndsDrained contents log_contents old (Refused text) new last

-- what is known of a program's output at a call
abbrev pub SystemDoes : {O E : Type 0} → (O → Option (List ℕ)) → (E → Option (List ℕ))
    → SystemOutput O E → WriteCall → SystemOutput O E → Type 0
SystemDoes contents log_contents =
    CallEffect (accepted_octets contents) AnyCall (accepted_octets log_contents) AnyCall

-- The program obeys its arguments; then it writes what is queued of its output, logs a failed
-- write, and exits with the status of the result.
pub record RunsProgram {F L H R O E : Type 0} (reads : FileReads F) (guards : ProtectedReads F)
    (writes : FileWrites F) (same : F → List ℕ → List ℕ → Bool → Type 0)
    (step : L → Call → L → Type 0) (acts : H → HostCall L → H → Type 0)
    (remaining : R → Option (List ℕ)) (contents : O → Option (List ℕ))
    (log_contents : E → Option (List ℕ)) (words : List (List ℕ))
    (old : CommandEnvironment F H R (SystemOutput O E)) (status : ℕ) : Type 0 where
  pub new : CommandEnvironment F H R (SystemOutput O E)
  pub ended : CommandResult
  pub obeys : Obeys reads guards writes same step acts remaining
      (λ output. written_octets (accepted_octets contents output.out) output.queue)
      (SystemDoes contents log_contents) words old new ended
  pub output : SystemOutput O E
  pub last : CommandResult
  pub drained : OutputDrained (accepted_octets contents) (accepted_octets log_contents)
      new.writer.inner ended
      output
      last
  pub logs_failure : last ≡ WriteFailed → (reported : SystemOutput O E)
      × SystemDoes contents log_contents output (Log (error_message_of last)) reported
  pub status_is : status ≡ status_of last

-- The program runs with an output over these writers, which were not used before.
pub record RunsFresh {F L H R O E : Type 0} (reads : FileReads F) (guards : ProtectedReads F)
    (writes : FileWrites F) (same : F → List ℕ → List ℕ → Bool → Type 0)
    (step : L → Call → L → Type 0) (acts : H → HostCall L → H → Type 0)
    (remaining : R → Option (List ℕ)) (contents : O → Option (List ℕ))
    (log_contents : E → Option (List ℕ)) (words : List (List ℕ)) (out : O) (err : E) (status : ℕ)
    : Type 0 where
  pub old : CommandEnvironment F H R (SystemOutput O E)
  pub fresh : old.writer ≡ unused_writer (fresh_output (names_serve words) out err)
  pub runs : RunsProgram reads guards writes same step acts remaining contents log_contents words
      old
      status
