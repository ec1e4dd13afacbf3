-- What putting replies into queues keeps, and what telling does to how associations stand.
use Rattle.std.proofs.Common.{Bool, Err, List, None, Ok, Option, Result, Some, [], cond, false, if◌then◌else◌, length, refl, true, ℕ, ◌++◌, ◌+◌, ◌∙◌, ◌∷◌, ◌≡◌}
use Rattle.std.proofs.lemmas.List.{length-set}
use Rattle.bay_device.specs.Outcomes.{slot_of}
use Rattle.bay_device.specs.declared.event.Sent.{Sent}
use Rattle.bay_device.specs.declared.event.Step.{Step}
use Rattle.bay_device.specs.declared.event.Why.{Why}
use Rattle.bay_device.specs.declared.event.Why.TheVariants.{Ended, Fault, Memory}
use Rattle.bay_device.specs.declared.fault.StepFault.{StepFault}
use Rattle.bay_server_turn.specs.AssociationStates.{after_full, is_close_reported, accepts_replies}
use Rattle.bay_server_turn.specs.Turns.{TurnData, TurnState, has_room, is_open_at, put_all, put_at, put_ended, put_quiet, put_sent, put_whole, turn_queue, noted_state, state_at, with_state, close_reported, with_closing, with_noted, with_queue}
use Rattle.bay_server_turn.specs.declared.turn_report.CloseReason.{CloseReason}
use Rattle.bay_server_turn.specs.declared.turn_report.CloseReason.TheVariants as closing
use Rattle.bay_server_turn_laws.proofs.StandingLemmas.{Fills, Fills-one, Fills-refl, Fills-trans}

-- ---- what each reply keeps

-- What a reply that fits keeps, and one that does not.
pub record IsPut (P : TurnState → Type 0) : Type 0 where
  pub fits : (slot : ℕ) (octets : List ℕ) (s : TurnState)
      → has_room (turn_queue slot s) octets ≡ true → P s
      → P (with_queue slot (turn_queue slot s ++ octets) s)
  pub fills : (slot : ℕ) (s : TurnState) → P s
      → P (with_noted (with_state slot (after_full (state_at slot s)) s.noted) s)

module _ (P : TurnState → Type 0) (k : IsPut P) where
  at : (slot : Option ℕ) (octets : List ℕ) (s : TurnState) → P s → P (put_at slot octets s)
  at None octets s p = p
  at (Some slot) octets s p =
      takes (accepts_replies (state_at slot s) (is_open_at slot s))
    where
      fitting : (room : Bool) → has_room (turn_queue slot s) octets ≡ room
          → P (cond room (with_queue slot (turn_queue slot s ++ octets) s)
          (with_noted (with_state slot (after_full (state_at slot s)) s.noted) s))
      fitting true is = k.fits slot octets s is p
      fitting false is = k.fills slot s p

      takes : (b : Bool) → P (cond b (put_whole slot octets s) s)
      takes true = fitting (has_room (turn_queue slot s) octets) refl
      takes false = p

  pub puts-all : (sent : List Sent) (s : TurnState) → P s → P (put_all sent s)
  puts-all [] s p = p
  puts-all (x ∷ more) s p = puts-all more (put_sent x s) (at (slot_of x.association) x.octets s p)

  pub puts-ended : (sent : Option Sent) (s : TurnState) → P s → P (put_ended sent s)
  puts-ended None s p = p
  puts-ended (Some sent) s p = at (slot_of sent.association) sent.octets s p

  pub puts-quiet : (answer : Result Step StepFault) (s : TurnState) → P s → P (put_quiet answer s)
  puts-quiet (Err fault) s p = p
  puts-quiet (Ok step) s p = puts-ended step.ended s p

-- ---- standings and queues

pub record Puts (s t : TurnState) : Type 0 where
  pub queues : length t.server.queues ≡ length s.server.queues
  pub fills : Fills s.noted.states t.noted.states

pub put_quiet-puts : (answer : Result Step StepFault) (s : TurnState) → Puts s (put_quiet answer s)
put_quiet-puts answer s =
    puts-quiet (Puts s) (record {
      fits = λ slot octets t room p. record {
        queues = length-set t.server.queues slot (turn_queue slot t ++ octets) ∙ p.queues;
        fills = p.fills;
      };
      fills = λ slot t p. record {
        queues = p.queues;
        fills = Fills-trans s.noted.states t.noted.states _ p.fills
            (Fills-one t.noted.states slot);
      };
    }) answer s (record { queues = refl; fills = Fills-refl s.noted.states })

-- ---- telling changes no standing

told-if : (b : Bool) (n m : TurnData) → m.states ≡ n.states
    → (let o : TurnData = if b then n else m in o).states ≡ n.states
told-if true n m e = refl
told-if false n m e = e

pub told-standings : (slot : ℕ) (why : CloseReason) (n : TurnData)
    → (with_closing slot why n).states ≡ n.states
told-standings slot why n =
    told-if (is_close_reported (noted_state slot n)) n
    (record n { closed = n.closed ++ (slot + 1, why) ∷ [] }) refl

pub told_why-standings : (slot : ℕ) (why : Why) (n : TurnData)
    → (close_reported slot why n).states ≡ n.states
told_why-standings slot Ended n = told-standings slot closing.Ended n
told_why-standings slot (Fault code) n = told-standings slot (closing.Fault code) n
told_why-standings slot Memory n =
    told-if (is_close_reported (noted_state slot n)) n
    (record n { memory = n.memory ++ (slot + 1) ∷ [] })
    refl
