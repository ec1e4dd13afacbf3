-- Which octets reached a sink, and what was logged.
use Rattle.std.specs.Prelude.{◌≡◌, ℕ, ◌+◌, nat_le, Bool, true, false, List, [], ◌++◌, length, Option, Result, Ok, Err, MatchBool}
use Rattle.std.specs.Io.KnownBytes.{Appends, Keeps}
use Rattle.bay_io.specs.Calls.{SomeCalls, WriteCall, Log, Unlogged, write_failed}
use Rattle.bay_io.specs.Watched.{WriterState}

-- whether a text fits after the pending octets in a buffer of 65,536 octets
abbrev pub fits_buffer : List ℕ → List ℕ → Bool
fits_buffer pending text = nat_le (length pending + length text) 65536

-- the sink accepted a prefix of the given octets, `taken`, and not the rest, `left`
pub record Sends (old new : Option (List ℕ)) (given left : List ℕ) : Type 0 where
  pub taken : List ℕ
  pub appended : Appends old new taken
  pub parts : given ≡ taken ++ left

-- the sink accepted a prefix of the given octets, and nothing else
pub record SendsPart (old new : Option (List ℕ)) (given : List ℕ) : Type 0 where
  pub left : List ℕ
  pub sends : Sends old new given left

-- A text was put after the pending octets. Either no write has failed: the sink accepted a prefix
-- of both, and the rest is pending. Or a write failed, now or before: the sink accepted a prefix of
-- both. `calls_made` has the calls of the sink, none of which logs.
pub record Puts {W : Type 0} (contents : W → Option (List ℕ)) (does : W → WriteCall → W → Type 0)
    (old : WriterState W) (text : List ℕ) (new : WriterState W) : Type 0 where
  pub calls_made : SomeCalls (Unlogged does) write_failed old.inner old.has_failed new.inner
      new.has_failed
  pub sent : MatchBool new.has_failed
      (SendsPart (contents old.inner) (contents new.inner) (old.pending ++ text))
      (Sends (contents old.inner) (contents new.inner) (old.pending ++ text) new.pending)
  pub kept : old.has_failed ≡ true → (new.inner ≡ old.inner) × (new.has_failed ≡ true)
  pub same_logs : new.logs ≡ old.logs

-- The sink accepted all pending octets and was flushed. Or a write or the flush failed, now or
-- before, and the sink accepted a prefix of the pending octets (and is unchanged if a call had
-- failed before).
abbrev pub FlushOutcome : {W X E : Type 0} → (W → Option (List ℕ)) → WriterState W → WriterState W
    → Result X E
    → Type 0
FlushOutcome contents old new (Ok x) =
    (old.has_failed ≡ false) × Appends (contents old.inner) (contents new.inner) old.pending
    × (new.pending ≡ []) × ((new.has_failed ≡ false) × (new.is_flushed ≡ true))
FlushOutcome contents old new (Err e) =
    SendsPart (contents old.inner) (contents new.inner) old.pending
    × (old.has_failed ≡ true → new.inner ≡ old.inner) × (new.has_failed ≡ true)

-- The writer was finished as `FlushOutcome` states, by these calls of the sink, none of which logs.
pub record Finishes {W X E : Type 0} (contents : W → Option (List ℕ))
    (does : W → WriteCall → W → Type 0) (old new : WriterState W) (result : Result X E)
    : Type 0 where
  pub ends : FlushOutcome contents old new result
  pub calls_made : SomeCalls (Unlogged does) write_failed old.inner old.has_failed new.inner
      new.has_failed
  pub same_logs : new.logs ≡ old.logs

-- A line is logged, by one call of the sink, if logging was started; else nothing happens. In
-- neither case does anything else of the writer change.
pub record Logs {W : Type 0} (contents : W → Option (List ℕ)) (does : W → WriteCall → W → Type 0)
    (old : WriterState W) (line : List ℕ) (new : WriterState W) : Type 0 where
  pub logged : MatchBool old.logs (does old.inner (Log line) new.inner) (new.inner ≡ old.inner)
  pub rest : new ≡ record old { inner = new.inner }
  pub kept : Keeps (contents old.inner) (contents new.inner)
