-- The effects of an event so far in the code, and how the code handles octets piece by piece.
use Rattle.std.specs.Prelude.{ℕ, ◌≡◌, List, Option, Some, None}
use Rattle.bay_control.specs.Decisions.{state_of}
use Rattle.bay_control.specs.declared.controls.Controls.{Controls}
use Rattle.bay_connection.specs.ConnectionStates.{Indication, ConnectionState, indications}
use Rattle.bay_connection.specs.Feeding.{IsContinued}
use Rattle.bay_device.specs.Device.{State}
use Rattle.bay_device.specs.Receiving.{StepState, ReceiveResult, later_pending, after_indications, on_indication}
use Rattle.bay_device.specs.declared.termination.PendingTermination.{PendingTermination}
use Rattle.bay_device.specs.declared.event.Why.{Why}
use Rattle.bay_device.specs.declared.message.EventEffects.{EventEffects}

-- the result so far, from a device and the effects in the code
abbrev pub step_state : State → EventEffects → StepState
step_state s effects = record {
  state = s;
  sent = effects.sent.items;
  commands = effects.commands.items;
  decisions = effects.decisions.items;
}

-- the device after the effects of an answered PDU
abbrev pub with_effect : Controls → Option PendingTermination → State → State
with_effect controls pending s =
    record s {
      controls = state_of s.controls.controls controls;
      pending = later_pending s.pending pending;
    }

-- the result of an indication, if there is one, and then of the later ones
abbrev pub on_indication_if : ℕ → ℕ → Option Indication → StepState → (StepState → ReceiveResult)
    → ReceiveResult
on_indication_if now a None d later = later d
on_indication_if now a (Some i) d later = on_indication now a i d later

-- The indication, if there is one, does not end the association.
abbrev pub IsContinuedIf : Option Indication → Type 0
IsContinuedIf None = Unit {0}
IsContinuedIf (Some i) = IsContinued i

-- Some of the octets have this effect, and the rest of them can then have any later effect:
-- wherever a later allocation fails, there is a choice for all octets.
pub record AdvancesTo (now a : ℕ) (old : ConnectionState) (octets : List ℕ) (d : StepState)
    (new : ConnectionState) (rest : List ℕ)
    (e : StepState) : Type 0 where
  pub goes : (later : Option ℕ)
      → (choice : Option ℕ) ×
      (after_indications choice now a (indications old octets) d
      ≡ after_indications later now a (indications new rest) e)

-- The octets have this result, for some choice.
pub record ResultsIn (now a : ℕ) (old : ConnectionState) (octets : List ℕ) (d : StepState)
    (why : Option Why)
    (e : StepState) : Type 0 where
  pub choice : Option ℕ
  pub is : after_indications choice now a (indications old octets) d
      ≡ record { done = e; why = why }
