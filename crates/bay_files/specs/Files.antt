-- Files as a command sees them: the result of a read of a name, and the effect of a write to a
-- name.
use Rattle.std.specs.Prelude.{◌≡◌, ℕ, zero, suc, ◌+◌, Bool, true, false, List, [], Option, None, Some, Result, Ok, Err, ◌⊎◌}
use Rattle.bay_files.specs.declared.files.FileFault.{FileFault}
use Rattle.bay_files.specs.declared.files.FileFault.TheVariants.{Failed}
use Rattle.std.specs.declared.io.ErrorKind.TheVariants as kind
use Rattle.bay_files.specs.declared.files.UnreadFile.{UnreadFile}
use Rattle.bay_io.specs.declared.input.ReadFault.{ReadFault}

-- the type of a relation of reads: files, a name and the result
abbrev pub FileReads : Type 0 → Type 1
FileReads F = F → List ℕ → Result (List ℕ) ReadFault → Type 0

-- the type of a relation of reads whose result also has whether the file's mode denies all access
-- to its group and others
abbrev pub ProtectedReads : Type 0 → Type 1
ProtectedReads F = F → List ℕ → Result (List ℕ × Bool) ReadFault → Type 0

-- the type of a relation of attempts to write: files, a name, the attempt's number, octets, the
-- outcome and the files after it
abbrev pub FileWrites : Type 0 → Type 1
FileWrites F = F → List ℕ → ℕ → List ℕ → Result Bool FileFault → F → Type 0

-- the octets of the two files of a command: the bay, and a program or an image
pub record FilesData : Type 0 where
  pub bay : List ℕ
  pub program : List ℕ

-- the name of a file that could not be read, and why
pub record UnreadData : Type 0 where
  pub name : List ℕ
  pub fault : ReadFault

-- the view of the code's value
abbrev pub unread_view : UnreadFile → UnreadData
unread_view unread = record { name = unread.name.now; fault = unread.fault }

-- a file was read: its octets, or its name and why it could not be read
abbrev pub ReadsFile : {F : Type 0} → FileReads F → F → List ℕ → Result (List ℕ) UnreadData → Type 0
ReadsFile reads files name (Ok octets) = reads files name (Ok octets)
ReadsFile reads files name (Err unread) =
    (unread.name ≡ name) × reads files name (Err unread.fault)

-- a file was read if it was named; without a name the result is no octets
abbrev pub ReadsIfNamed : {F : Type 0} → FileReads F → F → Option (List ℕ)
    → Result (List ℕ) UnreadData → Type 0
ReadsIfNamed reads files None read = read ≡ Ok []
ReadsIfNamed reads files (Some name) read = ReadsFile reads files name read

-- two files were read, in this order: the octets of both, or the first that could not be read
abbrev pub ReadsBoth : {F : Type 0} → FileReads F → F → List ℕ → List ℕ
    → Result FilesData UnreadData → Type 0
ReadsBoth reads files bay program (Ok both) =
    ReadsFile reads files bay (Ok both.bay) × ReadsFile reads files program (Ok both.program)
ReadsBoth reads files bay program (Err unread) =
    ReadsFile reads files bay (Err unread)
    ⊎ ((octets : List ℕ) × ReadsFile reads files bay (Ok octets)
    × ReadsFile reads files program (Err unread))

-- what holds after an attempt: the file was written; or the name beside it is taken, and `next`
-- holds; or the file could not be written
abbrev pub AttemptOutcome : {F : Type 0} → Result Bool FileFault → Type 0 → F → F → Option FileFault
    → Type 0
AttemptOutcome (Ok true) next mid new fault = (new ≡ mid) × (fault ≡ None)
AttemptOutcome (Ok false) next mid new fault = next
AttemptOutcome (Err e) next mid new fault = (new ≡ mid) × (fault ≡ Some e)

-- A file is written in at most n attempts (the first number), numbered from `number` on, until one
-- finds a free name beside the file. If none does, it fails, and nothing more is done.
unfoldable pub WritesAtomically : {F : Type 0}
    → FileWrites F → ℕ → ℕ → List ℕ
    → List ℕ → F → F → Option FileFault → Type 0
WritesAtomically writes zero number name octets old new fault =
    (new ≡ old) × (fault ≡ Some (Failed kind.Other))
WritesAtomically {F} writes (suc left) number name octets old new fault =
    (outcome : Result Bool FileFault) × (mid : F)
    × writes old name number octets outcome mid
    × AttemptOutcome outcome (WritesAtomically writes left (number + 1) name octets mid new fault)
    mid new
    fault
