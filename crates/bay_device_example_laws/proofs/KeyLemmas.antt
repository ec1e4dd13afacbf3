-- Which reports say that a key is at remote.
use Rattle.std.proofs.Common.{◌≡◌, ℕ, Bool, true, false, List, [], ◌∷◌, None, Some, refl, sym, subst, ◌∙◌}
use Rattle.bay_base.specs.Names.{same_name}
use Rattle.bay_device.specs.Device.{State}
use Rattle.bay_device.specs.Fresh.{PastEvent}
use Rattle.bay_device.specs.Remote.{IsAtRemote, is_on, key_input_at}
use Rattle.bay_device.specs.declared.event.Step.{Step}
use Rattle.bay_device.specs.declared.fault.StepFault.{StepFault}
use Rattle.bay_device_example_laws.specs.Keys.{input_past, open_switch, refused_input, two_switches}
use Rattle.bay_device_example_laws.specs.Scans.{contact_past, lost_past}

key-is : (s : State) → key_input_at (two_switches s) 0 ≡ Some 1
unfolding same_name
key-is s = refl

-- what is so of input 1 is so of the key
by-key : (s : State) (past : List PastEvent) → is_on 1 past ≡ true
    → IsAtRemote (two_switches s) past (open_switch 0)
unfolding same_name
by-key s past on input is =
    let same : input ≡ 1 = cc in subst (λ (i : ℕ). is_on i past ≡ true) (sym same) on

pub at-remote : (s : State) (step : Step)
    → IsAtRemote (two_switches s) (input_past 1 true s step ∷ []) (open_switch 0)
at-remote s step = by-key s (input_past 1 true s step ∷ []) refl

pub still-remote : (s : State) (step : Step)
    → IsAtRemote (two_switches s)
    (input_past 0 false s step ∷ contact_past s step ∷ input_past 1 true s step ∷ [])
    (open_switch 0)
still-remote s step =
    by-key s (input_past 0 false s step ∷ contact_past s step ∷ input_past 1 true s step ∷ []) refl

pub remote-again : (s : State) (step : Step)
    → IsAtRemote (two_switches s)
    (input_past 1 true s step ∷ lost_past s step ∷ input_past 1 true s step ∷ []) (open_switch 0)
remote-again s step =
    by-key s (input_past 1 true s step ∷ lost_past s step ∷ input_past 1 true s step ∷ []) refl

no-report : (s : State) (past : List PastEvent) → is_on 1 past ≡ false
    → IsAtRemote (two_switches s) past (open_switch 0) → ⊥
no-report s past off h =
    let no : true ≡ false = sym (h 1 (key-is s)) ∙ off in absurd cc

pub never-told : (s : State) → IsAtRemote (two_switches s) [] (open_switch 0) → ⊥
never-told s = no-report s [] refl

pub at-local : (s : State) (step : Step)
    → IsAtRemote (two_switches s) (input_past 1 false s step ∷ input_past 1 true s step ∷ [])
    (open_switch 0) → ⊥
at-local s step = no-report s (input_past 1 false s step ∷ input_past 1 true s step ∷ []) refl

pub of-another : (s : State) (step : Step)
    → IsAtRemote (two_switches s) (input_past 0 true s step ∷ []) (open_switch 0) → ⊥
of-another s step = no-report s (input_past 0 true s step ∷ []) refl

pub after-loss : (s : State) (step : Step)
    → IsAtRemote (two_switches s)
    (contact_past s step ∷ lost_past s step ∷ input_past 1 true s step ∷ []) (open_switch 0) → ⊥
after-loss s step =
    no-report s (contact_past s step ∷ lost_past s step ∷ input_past 1 true s step ∷ []) refl

pub not-accepted : (s : State) (fault : StepFault)
    → IsAtRemote (two_switches s) (refused_input 1 true s fault ∷ []) (open_switch 0) → ⊥
not-accepted s fault = no-report s (refused_input 1 true s fault ∷ []) refl

pub without-key : (s : State) (past : List PastEvent)
    → IsAtRemote (two_switches s) past (open_switch 1)
without-key s past input is = absurd cc
