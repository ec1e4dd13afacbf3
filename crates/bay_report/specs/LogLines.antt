-- The line that is logged for a fault, and the text that is printed before it.
use Rattle.std.specs.Prelude.{◌≡◌, ℕ, ◌==◌, List, [], ◌++◌, codes, Option, None, Some, Result, MatchResult, if◌then◌else◌}
use Rattle.std.specs.Fmt.{decimal}
use Rattle.std.specs.declared.io.ErrorKind.{ErrorKind}
use Rattle.std.specs.declared.io.ErrorKind.TheVariants as kind
use Rattle.bay_io.specs.Calls.{WriteCall}
use Rattle.bay_io.specs.Sent.{Logs}
use Rattle.bay_io.specs.Watched.{WriterState}
use Rattle.bay_io.specs.declared.input.ReadFault.{ReadFault}
use Rattle.bay_io.specs.declared.input.ReadFault.TheVariants as unread
use Rattle.bay_io.specs.declared.outbox.WriteFault.{WriteFault}
use Rattle.bay_lines.specs.Escaped.{escaped_text}
use Rattle.bay_load.specs.Errors.{code_of, line_of, words_of}
use Rattle.bay_load.specs.declared.error.LoadError.{LoadError}
use Rattle.bay_report.specs.Report.{IsOutput, Prints, load_refusal_text}

-- a line is logged, if there is one
abbrev pub LogsIfAny : {W : Type 0} → (W → Option (List ℕ)) → (W → WriteCall → W → Type 0)
    → WriterState W → Option (List ℕ) → WriterState W → Type 0
LogsIfAny contents asks old None new = new ≡ old
LogsIfAny contents asks old (Some line) new = Logs contents asks old line new

-- A text is printed, and then the line that goes with it, if any, is logged. If the text could not
-- be printed, nothing is logged.
pub record PrintsLogs {W : Type 0} (contents : W → Option (List ℕ))
    (asks : W → WriteCall → W → Type 0) (May : Option (List ℕ) → List ℕ → ℕ → Type 0)
    (old new : WriterState W) (result : Result ℕ WriteFault) : Type 0 where
  pub line : Option (List ℕ)
  pub between : WriterState W
  pub printed : Prints contents asks (May line) old between result
  pub logged : MatchResult result (λ status. LogsIfAny contents asks between line new)
      (λ fault. new ≡ between)

-- this line, or none, with this text and this status alone
abbrev pub IsLoggedOutput : Option (List ℕ) → List ℕ → ℕ → Option (List ℕ) → List ℕ → ℕ → Type 0
IsLoggedOutput logged last answered line text status =
    (line ≡ logged) × IsOutput last answered text status

-- ---- files

-- why the system can't read a file
abbrev pub read_error_words : ErrorKind → List ℕ
read_error_words kind.NotFound = codes "there is no such file"
read_error_words kind.PermissionDenied = codes "permission denied"
read_error_words kind.IsADirectory = codes "it is a folder"
read_error_words kind.NotADirectory = codes "a part of its name is no folder"
read_error_words kind.FilesystemLoop = codes "too many links"
read_error_words kind.InvalidFilename = codes "its name is too long"
read_error_words _ = codes "the system can't read it"

-- the log line of a file that can't be read, with its name; none if memory ran out
abbrev pub unread_line : List ℕ → ReadFault → Option (List ℕ)
unread_line name unread.TooLong =
    Some (codes "bayctl: fault 121: " ++ (name ++ codes ": it is longer than 16,777,216 bytes\n"))
unread_line name (unread.Failed kind) =
    Some (codes "bayctl: fault 121: "
    ++ (name ++ (codes ": " ++ (read_error_words kind ++ codes "\n"))))
unread_line name unread.OutOfMemory = None

-- the text that is printed for a file that can't be read
abbrev pub unread_text : ReadFault → List ℕ
unread_text unread.TooLong = codes "fault 121\n"
unread_text (unread.Failed kind) = codes "fault 121\n"
unread_text unread.OutOfMemory = codes "fault memory\n"

-- the log line, the text and the status of a file that can't be read, by its name
abbrev pub UnreadReport : List ℕ → ReadFault → Option (List ℕ) → List ℕ → ℕ → Type 0
UnreadReport name fault = IsLoggedOutput (unread_line name fault) (unread_text fault) 3

-- ---- loads

-- the log line of a refused load, by the number, the line and the words of its error, with the line
-- of the program, if it has one; none if memory ran out
abbrev pub coded_refusal_log : Option ℕ → ℕ → List ℕ → Option (List ℕ)
coded_refusal_log (Some code) line words =
    Some (codes "bayctl: load refused " ++ (decimal code
    ++ ((if line == 0 then [] else codes " line " ++ decimal line)
    ++ (codes ": " ++ (words ++ codes "\n")))))
coded_refusal_log None line words = None

-- the log line of a refused load; none if memory ran out
abbrev pub load_refusal_log : LoadError → Option (List ℕ)
load_refusal_log error = coded_refusal_log (code_of error) (line_of error) (words_of error)

-- the log line, the text and the status of a refused load
abbrev pub RefusalReport : LoadError → Option (List ℕ) → List ℕ → ℕ → Type 0
RefusalReport error = IsLoggedOutput (load_refusal_log error) (load_refusal_text error) 1

-- ---- traces

-- the log line for a line of a trace that is not valid, by its number
abbrev pub unreadable_line : ℕ → List ℕ → List ℕ
unreadable_line k line =
    codes "bayctl: fault 120 line " ++ (decimal k
    ++ (codes ": " ++ (escaped_text line ++ codes "\n")))

-- ---- writing

-- why the system can't write a file, in words
abbrev pub write_error_words : ErrorKind → List ℕ
write_error_words kind.AlreadyExists = codes "it exists already, so name a new file"
write_error_words kind.NotFound = codes "there is no such folder"
write_error_words kind.PermissionDenied = read_error_words kind.PermissionDenied
write_error_words kind.IsADirectory = read_error_words kind.IsADirectory
write_error_words kind.NotADirectory = read_error_words kind.NotADirectory
write_error_words kind.FilesystemLoop = read_error_words kind.FilesystemLoop
write_error_words kind.InvalidFilename = read_error_words kind.InvalidFilename
write_error_words kind.StorageFull = codes "no space is left"
write_error_words kind.ReadOnlyFilesystem = codes "its file system is read-only"
write_error_words _ = codes "it can't be written"

-- the log line of a file that can't be written
abbrev pub unwritten_line : List ℕ → ErrorKind → List ℕ
unwritten_line name kind =
    codes "bayctl: fault 122: " ++ (name ++ (codes ": " ++ (write_error_words kind ++ codes "\n")))
