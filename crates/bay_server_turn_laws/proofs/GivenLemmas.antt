-- What the link gives of an association is what the events of a turn bring.
use Rattle.std.proofs.Common.{List, [], ap, append_assoc, arith, length, position, refl, sym, ℕ, ◌++◌, ◌+◌, ◌==◌, ◌∙◌, ◌∷◌, ◌≡◌}
use Rattle.bay_server_turn.specs.Calls.{Call, Closes}
use Rattle.bay_server_turn.specs.Turns.{ServerData, Script, TurnState, after_turn, event_of, turn_calls}
use Rattle.bay_server_turn.specs.declared.process_input.ProcessEvent.{ProcessEvent}
use Rattle.bay_server_turn.specs.declared.process_input.ProcessEvent.TheVariants.{BadMeasure, Contact, Input, Lost, Measure}
use Rattle.bay_server_turn.specs.declared.process_input.ProcessReport.{ProcessReport}
use Rattle.bay_server_turn_laws.specs.Events.{ChosenEvent, turn_events}
use Rattle.bay_server_turn_laws.specs.Flows.{event_octets, read_by_calls, received_of}
use Rattle.bay_server_turn_laws.proofs.Acts.{Act, Asks, Breaks, Can, Fills, HangsUp, Hears, Offers, Parts, Scans, Tells, calls_by, events_by, none-if}
use Rattle.bay_server_turn_laws.proofs.CallLemmas.{given-append}
use Rattle.bay_server_turn_laws.proofs.KeptLemmas.{turned-keeps}
use Rattle.bay_server_turn_laws.proofs.WalkLemmas.{Begins, Opening, Quietly, turn-is-acts}

module _ (a : ℕ) where
  received-append : (xs ys : List ChosenEvent)
      → received_of a (xs ++ ys) ≡ received_of a xs ++ received_of a ys
  received-append [] ys = refl
  received-append (x ∷ xs) ys =
      ap (λ l. event_octets a x.1 ++ l) (received-append xs ys)
      ∙ sym (append_assoc (event_octets a x.1) (received_of a xs) (received_of a ys))

  told-brings : (event : ProcessEvent) → event_octets a (event_of event) ≡ []
  told-brings (Contact k position) = refl
  told-brings (Input k value) = refl
  told-brings (Measure k field value) = refl
  told-brings (BadMeasure k field) = refl
  told-brings Lost = refl

  -- a call that closes gives nothing
  closed-gives : (slot : ℕ) (calls : List Call) → read_by_calls a calls ≡ []
      → read_by_calls a (calls ++ Closes (slot + 1) ∷ []) ≡ []
  closed-gives slot calls e = given-append a calls (Closes (slot + 1) ∷ []) ∙ ap (λ l. l ++ []) e

  act-brings : (most : ℕ) (x : Act) (s : TurnState) → Can most x s
      → read_by_calls a (calls_by x) ≡ received_of a (events_by x)
  act-brings most (Asks call) s can = can.gives a
  act-brings most (Hears slot choice octets) s can = refl
  act-brings most (HangsUp slot) s can = ap (λ l. l ++ []) (none-if (slot + 1 == a))
  act-brings most (Tells source event) s can = ap (λ l. l ++ []) (sym (told-brings event))
  act-brings most Scans s can = refl
  act-brings most (Fills slot) s can = refl
  act-brings most (Breaks slot calls) s can =
      closed-gives slot calls (can.1.offered.given a)
  act-brings most (Offers slot calls left) s can = can.offered.given a
  act-brings most (Parts slot calls) s can = closed-gives slot calls (can.offered.given a)

  begins-brings : (now most : ℕ) (h : ServerData) (s : TurnState) (c : List Call)
      (e : List ChosenEvent)
      → Begins now most h s c e → read_by_calls a c ≡ received_of a e
  begins-brings now most h s c e Quietly = refl
  begins-brings now most h s c e (Opening slot from free) = refl

  pub turn-brings : (now : ℕ) (given : ProcessReport) (script : Script) (h : ServerData)
      → read_by_calls a (turn_calls now given script h)
      ≡ received_of a (turn_events now given script h)
  turn-brings now given script h =
      let most = length script.readings + length script.offers in
      let m = turn-is-acts now most given script h (omega arith) (omega arith) in
      turned-keeps now most (λ c e r s. read_by_calls a c ≡ received_of a e)
      (λ x c e r s sized can i. given-append a c (calls_by x)
      ∙ ap (λ l. l ++ read_by_calls a (calls_by x)) i
      ∙ ap (λ l. received_of a e ++ l) (act-brings most x s can)
      ∙ sym (received-append e (events_by x))) h script.accepted (after_turn now given script h)
      (turn_calls now given script h) (turn_events now given script h) m
      (begins-brings now most h m.start m.calls m.events m.begins)
