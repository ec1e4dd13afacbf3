-- What each change of a turn's notes keeps, an act keeps.
use Rattle.std.proofs.Common.{Err, List, None, Ok, Option, Result, Some, ap, length, slice_set, true, ℕ, ◌++◌, ◌+◌, ◌<◌, ◌∙◌, ◌≡◌}
use Rattle.std.proofs.lemmas.List.{length-set}
use Rattle.bay_mms_services.specs.declared.answer.Command.{Command}
use Rattle.bay_mms_services.specs.declared.answer.ControlDecision.{ControlDecision}
use Rattle.bay_device.specs.Code.{step_code_of}
use Rattle.bay_device.specs.Outcomes.{outcome}
use Rattle.bay_device.specs.declared.event.Event.{Event}
use Rattle.bay_device.specs.declared.event.Event.TheVariants.{Close, Recv, Scan}
use Rattle.bay_device.specs.declared.event.Sent.{Sent}
use Rattle.bay_device.specs.declared.event.Step.{Step}
use Rattle.bay_device.specs.declared.event.Why.{Why}
use Rattle.bay_device.specs.declared.event.Why.TheVariants.{Ended}
use Rattle.bay_device.specs.declared.fault.StepFault.{StepFault}
use Rattle.bay_trace.specs.Resolving.{borrow_of}
use Rattle.bay_server_turn.specs.AssociationStates.{after_full, is_draining}
use Rattle.bay_server_turn.specs.Turns.{TurnData, TurnState, after_event, close_at_once, event_of, mark_closed, start_closing, after_device_close, put_all, put_answer, put_ended, record_refusal, noted_state, with_state, close_reported, with_closing, with_device, with_noted}
use Rattle.bay_server_turn.specs.declared.association_state.AssociationState.TheVariants.{Closed, Draining}
use Rattle.bay_server_turn.specs.declared.turn_report.CloseReason.{CloseReason}
use Rattle.bay_server_turn.specs.declared.turn_report.CloseReason.TheVariants as closing
use Rattle.bay_server_turn_laws.proofs.Acts.{Act, Asks, Breaks, Can, Fills, HangsUp, Hears, Offers, Parts, Scans, Tells, after}
use Rattle.bay_server_turn_laws.proofs.PutLemmas.{IsPut, puts-all, puts-ended, puts-quiet, told-standings, told_why-standings}

-- What a reply that does not fit keeps.
abbrev pub IsFilled : (TurnData → Type 0) → Type 0
IsFilled P =
    (slot : ℕ) (n : TurnData) → P n → P (with_state slot (after_full (noted_state slot n)) n)

-- What holds of a turn's notes, and each change of them keeps: each association may be closed for a
-- full queue, and these for whatever reason.
pub record IsNoted (most : ℕ) (Ends : ℕ → Type 0) (P : TurnData → Type 0) : Type 0 where
  pub fills : (slot : ℕ) (n : TurnData) → length n.states ≡ 8 → P n
      → P (with_state slot (after_full (noted_state slot n)) n)
  pub leaving : (slot : ℕ) (why : Why) (n : TurnData) → length n.states ≡ 8 → slot < most
      → Ends slot → P n → P (start_closing slot why n)
  pub going : (slot : ℕ) (why : CloseReason) (n : TurnData) → length n.states ≡ 8 → slot < most
      → Ends slot → P n → P (mark_closed slot why n)
  pub overflows : (slot : ℕ) (n : TurnData) → length n.states ≡ 8 → slot < 8 → P n
      → P (mark_closed slot closing.QueueFull n)
  pub parts : (slot : ℕ) (n : TurnData) → length n.states ≡ 8
      → is_draining (noted_state slot n) ≡ true → P n → P (with_state slot Closed n)
  pub orders : (commands : List Command) (decisions : List (Option (List ControlDecision)))
      (n : TurnData)
      → P n → P (record n { commands = n.commands ++ commands; decisions = decisions })
  pub refuses : (code : Option ℕ) (n : TurnData) → P n → P (record n { refused = code })

-- it holds, and each association has its standing
pub record Kept (P : TurnData → Type 0) (n : TurnData) : Type 0 where
  pub sized : length n.states ≡ 8
  pub holds : P n

-- those of which an act tells the end concern it
abbrev pub Concerns : (ℕ → Type 0) → Act → Type 0
Concerns E (Asks call) = Unit {0}
Concerns E (Hears slot choice octets) = E slot
Concerns E (HangsUp slot) = E slot
Concerns E (Tells source event) = Unit {0}
Concerns E Scans = Unit {0}
Concerns E (Fills slot) = Unit {0}
Concerns E (Breaks slot calls) = E slot
Concerns E (Offers slot calls left) = Unit {0}
Concerns E (Parts slot calls) = Unit {0}

pub all-concern : (E : ℕ → Type 0) → ((slot : ℕ) → E slot) → (a : Act) → Concerns E a
all-concern E all (Asks call) = tt
all-concern E all (Hears slot choice octets) = all slot
all-concern E all (HangsUp slot) = all slot
all-concern E all (Tells source event) = tt
all-concern E all Scans = tt
all-concern E all (Fills slot) = tt
all-concern E all (Breaks slot calls) = all slot
all-concern E all (Offers slot calls left) = tt
all-concern E all (Parts slot calls) = tt

-- each association
abbrev pub Each : ℕ → Type 0
Each slot = Unit {0}

module _ (P : TurnData → Type 0) (fills : IsFilled P) (now : ℕ) where
  noted-put : IsPut (λ s. P s.noted)
  noted-put = record {
    fits = λ slot octets s room p. p;
    fills = λ slot s p. fills slot s.noted p;
  }

  pub keep-ended : (sent : Option Sent) (s : TurnState) → P s.noted → P (put_ended sent s).noted
  keep-ended = puts-ended (λ s. P s.noted) noted-put

  pub keep-stepped : (event : Event) (s : TurnState) → P s.noted → P (after_event now event s).noted
  keep-stepped event s p =
      let o = outcome None now event s.server.device in
      puts-quiet (λ t. P t.noted) noted-put o.answer (with_device o.after s) p

  -- what is sent once it is noted whether the association was closed, the commands, and what was
  -- decided
  pub keep-rest : (slot : ℕ) (step : Step) (s : TurnState)
      → ((commands : List Command) (decisions : List (Option (List ControlDecision))) (n : TurnData)
      → P n → P (record n { commands = n.commands ++ commands; decisions = decisions }))
      → P (after_device_close slot step.closed s).noted → P (put_answer slot (Ok step) s).noted
  keep-rest slot step s orders p =
      let left : TurnState = after_device_close slot step.closed s in
      let t : TurnState = put_all step.sent (put_ended step.ended left) in
      orders step.commands (slice_set t.noted.decisions slot (Some step.decisions)) t.noted
      (puts-all (λ u. P u.noted) noted-put step.sent (put_ended step.ended left)
      (keep-ended step.ended left p))

module _ (most : ℕ) (Ends : ℕ → Type 0) (P : TurnData → Type 0) (k : IsNoted most Ends P) (now : ℕ)
  where
    pub fills-kept : IsFilled (Kept P)
    fills-kept slot n q = record {
      sized = length-set n.states slot (after_full (noted_state slot n)) ∙ q.sized;
      holds = k.fills slot n q.sized q.holds;
    }

    pub cut-kept : (why : CloseReason) (slot : ℕ) (s : TurnState)
        → ((n : TurnData) → length n.states ≡ 8 → P n → P (mark_closed slot why n))
        → Kept P s.noted
        → Kept P (close_at_once now why slot s).noted
    unfolding close_at_once
    cut-kept why slot s mark_closed q =
        let n : TurnData = (after_event now (Close (slot + 1)) s).noted in
        let r = keep-stepped (Kept P) fills-kept now (Close (slot + 1)) s q in
        record {
          sized = length-set (with_closing slot why n).states slot Closed
              ∙ ap length (told-standings slot why n) ∙ r.sized;
          holds = mark_closed n r.sized r.holds;
        }

    leaves-kept : (slot : ℕ) (why : Why) (n : TurnData) → slot < most → Ends slot → Kept P n
        → Kept P (start_closing slot why n)
    leaves-kept slot why n low may q = record {
      sized = length-set (close_reported slot why n).states slot Draining
          ∙ ap length (told_why-standings slot why n) ∙ q.sized;
      holds = k.leaving slot why n q.sized low may q.holds;
    }

    left-kept : (slot : ℕ) (left : Option (ℕ × Why)) (s : TurnState) → slot < most → Ends slot
        → Kept P s.noted → Kept P (after_device_close slot left s).noted
    left-kept slot None s low may q = q
    left-kept slot (Some x) s low may q = leaves-kept slot x.1 s.noted low may q

    orders-kept : (commands : List Command) (decisions : List (Option (List ControlDecision)))
        (n : TurnData)
        → Kept P n → Kept P (record n { commands = n.commands ++ commands; decisions = decisions })
    orders-kept commands decisions n q =
        record { sized = q.sized; holds = k.orders commands decisions n q.holds }

    answer-kept : (slot : ℕ) (answer : Result Step StepFault) (s : TurnState) → slot < most
        → Ends slot → Kept P s.noted → Kept P (put_answer slot answer s).noted
    answer-kept slot (Err fault) s low may q = q
    answer-kept slot (Ok step) s low may q =
        keep-rest (Kept P) fills-kept now slot step s orders-kept
        (left-kept slot step.closed s low may q)

    told-kept : (answer : Result Step StepFault) (s : TurnState) → Kept P s.noted
        → Kept P (record_refusal answer s).noted
    told-kept (Err fault) s q = record {
      sized = q.sized;
      holds = k.refuses (Some (step_code_of fault)) s.noted q.holds;
    }
    told-kept (Ok step) s q = keep-ended (Kept P) fills-kept now step.ended s q

    pub keep-act : (a : Act) (s : TurnState) → Can most a s → Concerns Ends a → Kept P s.noted
        → Kept P (after now a s).noted
    keep-act (Asks call) s can may q = q
    keep-act (Hears slot choice octets) s can may q =
        let o = outcome choice now (Recv (slot + 1) (borrow_of octets)) s.server.device in
        answer-kept slot o.answer (with_device o.after s) can.low may q
    keep-act (HangsUp slot) s can may q =
        keep-stepped (Kept P) fills-kept now (Close (slot + 1))
        (with_noted (start_closing slot Ended s.noted) s)
        (leaves-kept slot Ended s.noted can.low may q)
    keep-act (Tells source event) s can may q =
        let o = outcome None now (event_of event) s.server.device in
        told-kept o.answer (with_device o.after s) q
    keep-act Scans s can may q = keep-stepped (Kept P) fills-kept now Scan s q
    keep-act (Fills slot) s can may q =
        cut-kept closing.QueueFull slot s (λ n sized. k.overflows slot n sized can.0) q
    keep-act (Breaks slot calls) s can may q =
        cut-kept closing.LinkFailed slot s
        (λ n sized. k.going slot closing.LinkFailed n sized can.1.is_open.low may) q
    keep-act (Offers slot calls left) s can may q = q
    keep-act (Parts slot calls) s can may q = record {
      sized = length-set s.noted.states slot Closed ∙ q.sized;
      holds = k.parts slot s.noted q.sized can.leaves q.holds;
    }
