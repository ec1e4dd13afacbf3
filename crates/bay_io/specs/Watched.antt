-- What is known of a reader, a sink and a writer that record failures.
use Rattle.std.specs.Prelude.{ℕ, Bool, true, ◌&&◌, ◌==◌, nat_lt, List, length, Result, Ok, Err}

-- a reader, and whether a read has failed
pub record ReaderState (R : Type 0) : Type 0 where
  pub inner : R
  pub has_failed : Bool

-- a sink, whether a write or a flush has failed, whether the sink was flushed since its last write,
-- and whether lines are logged
pub record SinkState (W : Type 0) : Type 0 where
  pub inner : W
  pub has_failed : Bool
  pub is_flushed : Bool
  pub logs : Bool

-- a writer: its sink, what is known of the sink, and the octets not yet written
pub record WriterState (W : Type 0) : Type 0 where
  pub inner : W
  pub has_failed : Bool
  pub is_flushed : Bool
  pub logs : Bool
  pub pending : List ℕ

-- whether a write fails, or accepts none of the octets offered
abbrev pub is_write_failure : {E : Type 0} → List ℕ → Result ℕ E → Bool
is_write_failure given (Ok n) = n == 0 && nat_lt 0 (length given)
is_write_failure given (Err e) = true
