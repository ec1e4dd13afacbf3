-- What happens in a turn behind the connection that is taken: one act after the other, each with
-- its calls on the link, its event, and what it leaves.
use Rattle.std.proofs.Common.{Bool, List, Option, [], ap, cond, false, refl, true, ℕ, ◌++◌, ◌+◌, ◌<◌, ◌==◌, ◌||◌, ◌∷◌, ◌≡◌}
use Rattle.std.specs.declared.net.socket_addr.SocketAddrV4.{SocketAddrV4}
use Rattle.bay_device.specs.declared.event.Event.TheVariants.{Recv, Scan}
use Rattle.bay_trace.specs.Resolving.{borrow_of}
use Rattle.bay_server_turn.specs.Calls.{Accepts, Failure, Call, Closes, Octets, StreamEnd, Reads, Silence}
use Rattle.bay_server_turn.specs.AssociationStates.{is_full, is_draining}
use Rattle.bay_server_turn.specs.Turns.{TurnState, after_event, after_closing, close_at_once, event_of, after_end, is_open_at, turn_queue, state_at, after_octets, after_process_event, with_queue}
use Rattle.bay_server_turn.specs.declared.process_input.ProcessEvent.{ProcessEvent}
use Rattle.bay_server_turn.specs.declared.association_state.AssociationState.TheVariants.{Full}
use Rattle.bay_server_turn.specs.declared.turn_report.CloseReason.TheVariants as closing
use Rattle.bay_server_turn_laws.specs.Events.{ChosenEvent, closing_of, with_memory}
use Rattle.bay_server_turn_laws.specs.Flows.{read_by_calls}
use Rattle.bay_server_turn_laws.proofs.CallLemmas.{Offering, SayNothing, and-no, and-true, one-fails}

-- A call brings nothing, and nothing happens; octets of an association are heard, with where memory
-- was refused; its client hangs up; what happens to the process is told, with the line that it was
-- read from; the program runs; an association is closed to which a reply did not fit; one is closed
-- of which the last of these calls failed; what is to be sent to one is offered, by these calls, and
-- so much is left; and that is done for the last time.
pub data Act : Type 0 where
  Asks : Call → Act
  Hears : ℕ → Option ℕ → List ℕ → Act
  HangsUp : ℕ → Act
  Tells : List ℕ → ProcessEvent → Act
  Scans : Act
  Fills : ℕ → Act
  Breaks : ℕ → List Call → Act
  Offers : ℕ → List Call → List ℕ → Act
  Parts : ℕ → List Call → Act

-- the calls on the link
abbrev pub calls_by : Act → List Call
calls_by (Asks call) = call ∷ []
calls_by (Hears slot choice octets) = Reads (slot + 1) 4096 (Octets octets) ∷ []
calls_by (HangsUp slot) = Reads (slot + 1) 4096 StreamEnd ∷ []
calls_by (Tells source event) = []
calls_by Scans = []
calls_by (Fills slot) = Closes (slot + 1) ∷ []
calls_by (Breaks slot calls) = calls ++ Closes (slot + 1) ∷ []
calls_by (Offers slot calls left) = calls
calls_by (Parts slot calls) = calls ++ Closes (slot + 1) ∷ []

-- the event, if there is one
abbrev pub events_by : Act → List ChosenEvent
events_by (Asks call) = []
events_by (Hears slot choice octets) = (choice, Recv (slot + 1) (borrow_of octets)) ∷ []
events_by (HangsUp slot) = closing_of slot ∷ []
events_by (Tells source event) = with_memory (event_of event) ∷ []
events_by Scans = with_memory Scan ∷ []
events_by (Fills slot) = closing_of slot ∷ []
events_by (Breaks slot calls) = closing_of slot ∷ []
events_by (Offers slot calls left) = []
events_by (Parts slot calls) = []

-- the turn after it
abbrev pub after : ℕ → Act → TurnState → TurnState
after now (Asks call) s = s
after now (Hears slot choice octets) s = after_octets now slot choice octets s
after now (HangsUp slot) s = after_end now slot s
after now (Tells source event) s = after_process_event now source event s
after now Scans s = after_event now Scan s
after now (Fills slot) s = close_at_once now closing.QueueFull slot s
after now (Breaks slot calls) s = close_at_once now closing.LinkFailed slot s
after now (Offers slot calls left) s = with_queue slot left s
after now (Parts slot calls) s = after_closing slot s

-- nothing, whichever it is
pub none-if : (b : Bool) → cond b [] [] ≡ (let l : List ℕ = [] in l)
none-if true = refl
none-if false = refl

-- a call that brings nothing, and says nothing
pub record IsIdle (call : Call) : Type 0 where
  pub says : (a : ℕ) → SayNothing a (call ∷ [])
  pub gives : (a : ℕ) → read_by_calls a (call ∷ []) ≡ []

-- an accept, with or without a connection
pub accepts : (a : ℕ) (taken : Option (Option SocketAddrV4)) → IsIdle (Accepts a taken)
accepts a taken = record {
  says = λ b. record { fails = refl; ends = refl; takes = refl };
  gives = λ b. refl;
}

-- a read that brings nothing yet
pub silent : (slot : ℕ) → IsIdle (Reads (slot + 1) 4096 Silence)
silent slot = record {
  says = λ a. record {
    fails = ap (λ b. b || false) (and-no (slot + 1 == a));
    ends = ap (λ b. b || false) (and-no (slot + 1 == a));
    takes = refl;
  };
  gives = λ a. ap (λ l. l ++ []) (none-if (slot + 1 == a));
}

-- a read that fails
pub broken : (slot : ℕ) (queue : List ℕ)
    → Offering slot queue queue true (Reads (slot + 1) 4096 Failure ∷ [])
broken slot queue =
    one-fails slot queue (Reads (slot + 1) 4096 Failure) (λ a. and-true (slot + 1 == a))
    (λ a. and-no (slot + 1 == a)) (λ a. refl) (λ a. none-if (slot + 1 == a)) refl

-- an association that is open, to which each reply fitted
pub record IsOpenAt (most slot : ℕ) (s : TurnState) : Type 0 where
  pub low : slot < most
  pub up : is_open_at slot s ≡ true
  pub calm : is_full (state_at slot s) ≡ false

-- what is to be sent to it was offered, or a call of it failed that takes nothing
pub record IsOffered (most slot : ℕ) (left : List ℕ) (failed : Bool) (calls : List Call)
    (s : TurnState) : Type 0 where
  pub is_open : IsOpenAt most slot s
  pub offered : Offering slot (turn_queue slot s) left failed calls

-- what is to be sent to one that is leaving was offered
pub record IsParted (slot : ℕ) (calls : List Call) (s : TurnState) : Type 0 where
  pub leaves : is_draining (state_at slot s) ≡ true
  pub left : List ℕ
  pub failed : Bool
  pub offered : Offering slot (turn_queue slot s) left failed calls

-- when it happens in a turn; associations that are read or offered have places below some number
abbrev pub Can : ℕ → Act → TurnState → Type 0
Can most (Asks call) s = IsIdle call
Can most (Hears slot choice octets) s = IsOpenAt most slot s
Can most (HangsUp slot) s = IsOpenAt most slot s
Can most (Tells source event) s = Unit {0}
Can most Scans s = Unit {0}
Can most (Fills slot) s = (slot < 8) × (state_at slot s ≡ Full)
Can most (Breaks slot calls) s =
    (left : List ℕ) × IsOffered most slot left true calls s
Can most (Offers slot calls left) s = IsOffered most slot left false calls s
Can most (Parts slot calls) s = IsParted slot calls s
