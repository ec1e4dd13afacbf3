-- The octets of reads, and how reading ends.
use Rattle.std.specs.Prelude.{◌≡◌, ℕ, ◌+◌, ◌<◌, ◌≤◌, Bool, true, false, List, [], ◌∷◌, ◌++◌, length, Some, unwrap_or, Result, Ok, Err, MatchResult}
use Rattle.bay_io.specs.Calls.{MakesFewCalls, ReadCall, read_failed}
use Rattle.bay_io.specs.declared.input.ReadFault.{ReadFault}
use Rattle.bay_io.specs.declared.input.ReadFault.TheVariants.{TooLong, Failed, OutOfMemory}

-- whether a result means that a read failed
abbrev pub is_read_failure : {A : Type 0} → Result A ReadFault → Bool
is_read_failure (Ok octets) = false
is_read_failure (Err TooLong) = false
is_read_failure (Err (Failed kind)) = true
is_read_failure (Err OutOfMemory) = false

-- the octets of all reads, in their order
abbrev pub octets_of : List ReadCall → List ℕ
octets_of [] = []
octets_of (call ∷ calls) = unwrap_or call.octets_read [] ++ octets_of calls

-- The last of these reads had room and returned no octets: that is the end.
pub record IsEnded (calls : List ReadCall) : Type 0 where
  pub before : List ReadCall
  pub room : ℕ
  pub some : 0 < room
  pub split : calls ≡ before ++ record { room = room; octets_read = Some [] } ∷ []

-- When reads up to a limit end with a fault: with `TooLong` if they returned more octets than the
-- limit; with `OutOfMemory` only if they reached the end within the limit; `Failed` follows from
-- any reads (a failed read is stated by `CallsMade`).
abbrev pub FailsAs : ℕ → List ReadCall → ReadFault → Type 0
FailsAs limit calls TooLong = limit < length (octets_of calls)
FailsAs limit calls (Failed kind) = Unit {0}
FailsAs limit calls OutOfMemory = IsEnded calls × (length (octets_of calls) ≤ limit)

-- At most `limit` + 1 reads were made. The result is all octets that they returned, in their order,
-- up to the end; or a fault.
pub record ReadsAll {S A : Type 0} (does : S → ReadCall → S → Type 0) (octets : A → List ℕ)
    (limit : ℕ) (old : S) (had_failed : Bool) (new : S) (has_failed : Bool)
    (result : Result A ReadFault)
    : Type 0 where
  pub calls_made : MakesFewCalls does read_failed (limit + 1) old had_failed new has_failed
  pub gave : MatchResult result
      (λ all. (octets all ≡ octets_of calls_made.calls_made.calls)
      × IsEnded calls_made.calls_made.calls)
      (FailsAs limit calls_made.calls_made.calls)
