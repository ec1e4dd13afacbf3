-- The output of a program: octets that are written or wait, and the log beside them.
use Rattle.std.specs.Prelude.{◌≡◌, ℕ, ◌==◌, Bool, false, List, [], ◌++◌, length, Option, None, Some, unwrap_or, ◌⊎◌}
use Rattle.std.specs.Io.KnownBytes.{append_known}
use Rattle.bay_io.specs.Calls.{WriteCall, Write, Flush, Log}
use Rattle.bay_io.specs.Sent.{Sends}
use Rattle.bay_stdio.specs.Log.{LogData, with_line}
use Rattle.bay_stdio.specs.Offers.{OffersQueue, OfferStops}
use Rattle.bay_stdio.specs.Queue.{fits_queue}

-- a sink; the octets in its queue, if there is one; the sink of the log; and the waiting lines of
-- the log
pub record OutputData (O E : Type 0) : Type 0 where
  pub out : O
  pub queue : Option (List ℕ)
  pub err : E
  pub log : LogData

-- the octets written, followed by those in the queue, if there is one
abbrev pub written_octets : Option (List ℕ) → Option (List ℕ) → Option (List ℕ)
written_octets known queue = append_known known (unwrap_or queue [])

-- Octets were put after the octets left in a queue: all of them; or none, since they don't fit once
-- the sink accepts no more, or since its last call failed.
abbrev pub QueueOutcome : {S : Type 0} → (S → WriteCall → S → Type 0) → List ℕ → List ℕ → List ℕ → S
    → Option ℕ → Type 0
QueueOutcome does octets left after new (Some n) = (n ≡ length octets) × (after ≡ left ++ octets)
QueueOutcome {S} does octets left after new None =
    (after ≡ left)
    × (((fits_queue left octets ≡ false) × OfferStops does left new)
    ⊎ ((mid : S) × does mid (Write left None) new))

-- Octets were put into a queue, of which the sink may have accepted a prefix: all of them; or none,
-- since they don't fit after the rest of the queue, or since the last call of the sink failed.
pub record PutsIntoQueue {S : Type 0} (contents : S → Option (List ℕ))
    (does : S → WriteCall → S → Type 0)
    (before : List ℕ) (old : S) (octets after : List ℕ) (new : S) (taken : Option ℕ) : Type 0 where
  pub left : List ℕ
  pub sends : Sends (contents old) (contents new) before left
  pub put : QueueOutcome does octets left after new taken

-- ---- the effect of each call on the output

-- octets are written at once, or put into the queue if there is one
abbrev pub Writes : {S : Type 0} → (S → Option (List ℕ)) → (S → WriteCall → S → Type 0)
    → Option (List ℕ) → S → List ℕ → Option (List ℕ) → S → Option ℕ → Type 0
Writes contents does None old octets after new taken =
    does old (Write octets taken) new × (after ≡ None)
Writes contents does (Some queue) old octets after new taken =
    (left : List ℕ) × (after ≡ Some left)
    × PutsIntoQueue contents does queue old octets left new taken

-- the sink is flushed; or, with a queue, the queue is written as far as the sink accepts it
abbrev pub Flushes : {S : Type 0} → (S → Option (List ℕ)) → (S → WriteCall → S → Type 0)
    → Option (List ℕ) → S → Option (List ℕ) → S → Bool → Type 0
Flushes contents does None old after new done = does old (Flush done) new × (after ≡ None)
Flushes contents does (Some queue) old after new done =
    (left : List ℕ) × (after ≡ Some left) × OffersQueue contents does queue old left new done

-- the waiting lines are written as far as the sink of the log accepts them
pub record SendsLog {S : Type 0} (contents : S → Option (List ℕ))
    (does : S → WriteCall → S → Type 0)
    (before : LogData) (old : S) (after : LogData) (new : S) : Type 0 where
  pub done : Bool
  pub sends : OffersQueue contents does before.waiting old after.waiting new done
  pub lost : after.lost ≡ before.lost

-- What each call does. A write: the octets are written or wait. A flush: the queue and the log are
-- written as far as their sinks accept them. A line: it waits whole, or is lost and counted, and
-- then the log is written.
abbrev pub CallEffect : {O E : Type 0} → (O → Option (List ℕ)) → (O → WriteCall → O → Type 0)
    → (E → Option (List ℕ)) → (E → WriteCall → E → Type 0) → OutputData O E → WriteCall
    → OutputData O E → Type 0
CallEffect contents does log_contents log_does old (Write octets taken) new =
    Writes contents does old.queue old.out octets new.queue new.out taken
    × (new.err ≡ old.err) × (new.log ≡ old.log)
CallEffect contents does log_contents log_does old (Flush done) new =
    Flushes contents does old.queue old.out new.queue new.out done
    × SendsLog log_contents log_does old.log old.err new.log new.err
CallEffect contents does log_contents log_does old (Log line) new =
    (new.out ≡ old.out) × (new.queue ≡ old.queue)
    × SendsLog log_contents log_does (with_line line old.log) old.err new.log new.err

-- The output is drained: a prefix of the queue is written (`done` if that is all of it), and of the
-- log as much as its sink accepts, with the number of lost lines.
pub record Drains {O E : Type 0} (contents : O → Option (List ℕ))
    (log_contents : E → Option (List ℕ))
    (log_does : E → WriteCall → E → Type 0) (old new : OutputData O E) (done : Bool)
    : Type 0 where
  pub sends : Sends (contents old.out) (contents new.out) (unwrap_or old.queue [])
      (unwrap_or new.queue [])
  pub log : SendsLog log_contents log_does (with_line [] old.log) old.err new.log new.err
  pub all : done ≡ (length (unwrap_or new.queue []) == 0)
