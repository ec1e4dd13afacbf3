-- Commands of octets that asked for them, and those that nothing asked for.
use Rattle.std.proofs.Common.{◌≡◌, ℕ, List, [], ◌∷◌, None, Some, Ok, Err, refl, ap, sym, ◌∙◌, subst, arith}
use Rattle.std.specs.List.{Contains}
use Rattle.std.specs.Borrow.{Bor}
use Rattle.bay_base.specs.declared.switch.Operation.TheVariants as told
use Rattle.bay_mms_services.specs.Bay.{Bay}
use Rattle.bay_mms_services.specs.declared.answer.Command.{Command}
use Rattle.bay_device.specs.Device.{State}
use Rattle.bay_device.specs.Operates.{AllOperate, AreOperates, AreReplied, AreRepliedForEvent}
use Rattle.bay_device.specs.Outcomes.{initial_connection}
use Rattle.bay_device.specs.declared.event.Event.{Event}
use Rattle.bay_device.specs.declared.event.Event.TheVariants.{Open, Recv, Close, Contact, Input, Measure, BadMeasure, Lost, Scan}
use Rattle.bay_device.specs.declared.event.Step.{Step}
use Rattle.bay_device.specs.declared.fault.StepFault.{StepFault}
use Rattle.bay_device_example_laws.specs.Commands.{close_command, open_command}
use Rattle.bay_device_example_laws.specs.Operates.{IsAccepted, IsOther, IsRefused, step_with_commands}

-- the command that a step tells is one of its commands
told-there : Contains (open_command ∷ []) open_command
told-there = (0, omega arith, refl)

-- a step with another list of commands is not what was asked for
differs : (commands : List Command) (now : ℕ) (names : Bay) (octets : Bor (List ℕ)) (step : Step)
    → IsAccepted now names octets step
    → AreOperates now (Recv 1 octets) names (Some (initial_connection 1) ∷ [])
    (step_with_commands commands step)
    → commands ≡ open_command ∷ []
differs commands now names octets step is h = h.operated ∙ is.told

pub is-operate : (now : ℕ) (names : Bay) (octets : Bor (List ℕ)) (step : Step)
    → IsAccepted now names octets step
    → AreOperates now (Recv 1 octets) names (Some (initial_connection 1) ∷ [])
    (step_with_commands (open_command ∷ []) step)
is-operate now names octets step is = record { operated = sym is.told; replied = is.replied }

pub not-left-out : (now : ℕ) (names : Bay) (octets : Bor (List ℕ)) (step : Step)
    → IsAccepted now names octets step
    → AreOperates now (Recv 1 octets) names (Some (initial_connection 1) ∷ [])
    (step_with_commands [] step) → ⊥
not-left-out now names octets step is h =
    let no : [] ≡ open_command ∷ [] = differs [] now names octets step is h in absurd cc

pub not-doubled : (now : ℕ) (names : Bay) (octets : Bor (List ℕ)) (step : Step)
    → IsAccepted now names octets step
    → AreOperates now (Recv 1 octets) names (Some (initial_connection 1) ∷ [])
    (step_with_commands (open_command ∷ open_command ∷ []) step) → ⊥
not-doubled now names octets step is h =
    let no : open_command ∷ open_command ∷ [] ≡ open_command ∷ [] =
    differs (open_command ∷ open_command ∷ []) now names octets step is h in absurd cc

-- to close is not to open
apart : close_command ∷ [] ≡ open_command ∷ [] → ⊥
apart same =
    let one : close_command ≡ open_command = cc in
    let no : told.Close ≡ told.Open = ap (λ (c : Command). c.operation) one in absurd cc

pub not-exchanged : (now : ℕ) (names : Bay) (octets : Bor (List ℕ)) (step : Step)
    → IsAccepted now names octets step
    → AreOperates now (Recv 1 octets) names (Some (initial_connection 1) ∷ [])
    (step_with_commands (close_command ∷ []) step) → ⊥
not-exchanged now names octets step is h =
    apart (differs (close_command ∷ []) now names octets step is h)

pub not-silent : (now : ℕ) (names : Bay) (octets : Bor (List ℕ)) (step : Step)
    → AreRepliedForEvent now (Recv 1 octets) names (Some (initial_connection 1) ∷ [])
    (record (step_with_commands (open_command ∷ []) step) { sent = [] }) → ⊥
not-silent now names octets step h =
    let (k, lt, _) = (h open_command told-there).replied in omega (arith, lt)

-- no octets are nothing that was heard
unheard : (now : ℕ) (names : Bay) (step : Step)
    → AreReplied now 1 names [] (Some (initial_connection 1))
    (step_with_commands (open_command ∷ []) step) → ⊥
unheard now names step h = let (k, lt, _) = (h open_command told-there).asked in omega (arith, lt)

pub not-unasked : (now : ℕ) (names : Bay) (octets : Bor (List ℕ)) (step : Step)
    → octets.now ≡ []
    → AreRepliedForEvent now (Recv 1 octets) names (Some (initial_connection 1) ∷ [])
    (step_with_commands (open_command ∷ []) step) → ⊥
not-unasked now names octets step none h =
    unheard now names step (subst (λ (os : List ℕ).
    AreReplied now 1 names os (Some (initial_connection 1))
    (step_with_commands (open_command ∷ []) step)) none h)

pub not-accepted : (now : ℕ) (names : Bay) (octets : Bor (List ℕ)) (step : Step)
    → IsRefused now names step
    → AreRepliedForEvent now (Recv 1 octets) names (Some (initial_connection 1) ∷ [])
    (step_with_commands (open_command ∷ []) step) → ⊥
not-accepted now names octets step refuses h =
    let (k, lt, _) = subst (λ (cs : List Command). Contains cs open_command)
    (refuses (h open_command told-there).pdu (h open_command told-there).response
    (h open_command told-there).replied)
    (h open_command told-there).accepts in omega (arith, lt)

pub not-on-closed : (now : ℕ) (names : Bay) (octets : Bor (List ℕ)) (step : Step)
    → AreRepliedForEvent now (Recv 1 octets) names (None ∷ [])
    (step_with_commands (open_command ∷ []) step) → ⊥
not-on-closed now names octets step h = let no : open_command ∷ [] ≡ [] = h in absurd cc

pub not-elsewhere : (now : ℕ) (event : Event) (names : Bay) (s : State) (step : Step)
    → IsOther event
    → AreRepliedForEvent now event names s.connections (step_with_commands (open_command ∷ []) step)
    → ⊥
not-elsewhere now (Open a) names s step other h = let no : open_command ∷ [] ≡ [] = h in absurd cc
not-elsewhere now (Recv a octets) names s step other h = other a octets refl
not-elsewhere now (Close a) names s step other h = let no : open_command ∷ [] ≡ [] = h in absurd cc
not-elsewhere now (Contact k position) names s step other h =
    let no : open_command ∷ [] ≡ [] = h in absurd cc
not-elsewhere now (Input k value) names s step other h =
    let no : open_command ∷ [] ≡ [] = h in absurd cc
not-elsewhere now (Measure k field value) names s step other h =
    let no : open_command ∷ [] ≡ [] = h in absurd cc
not-elsewhere now (BadMeasure k field) names s step other h =
    let no : open_command ∷ [] ≡ [] = h in absurd cc
not-elsewhere now Lost names s step other h = let no : open_command ∷ [] ≡ [] = h in absurd cc
not-elsewhere now Scan names s step other h = let no : open_command ∷ [] ≡ [] = h in absurd cc

pub tells-nothing : (now : ℕ) (event : Event) (names : Bay) (s : State) (step : Step)
    → IsOther event → AreOperates now event names s.connections (step_with_commands [] step)
tells-nothing now (Open a) names s step other = record { operated = refl; replied = refl }
tells-nothing now (Recv a octets) names s step other = absurd (other a octets refl)
tells-nothing now (Close a) names s step other = record { operated = refl; replied = refl }
tells-nothing now (Contact k position) names s step other =
    record { operated = refl; replied = refl }
tells-nothing now (Input k value) names s step other = record { operated = refl; replied = refl }
tells-nothing now (Measure k field value) names s step other =
    record { operated = refl; replied = refl }
tells-nothing now (BadMeasure k field) names s step other =
    record { operated = refl; replied = refl }
tells-nothing now Lost names s step other = record { operated = refl; replied = refl }
tells-nothing now Scan names s step other = record { operated = refl; replied = refl }

-- ---- runs of two events

pub behind-open : (now : ℕ) (names : Bay) (octets : Bor (List ℕ)) (step : Step)
    → IsAccepted now names octets step
    → AllOperate names (None ∷ []) ((now, Open 1) ∷ (now, Recv 1 octets) ∷ [])
    (Ok (step_with_commands [] step) ∷ Ok (step_with_commands (open_command ∷ []) step) ∷ [])
behind-open now names octets step is =
    (record { operated = refl; replied = refl }, (is-operate now names octets step is, tt))

pub not-unopened : (now : ℕ) (names : Bay) (octets : Bor (List ℕ)) (step : Step)
    → AllOperate names (None ∷ []) ((now, Scan) ∷ (now, Recv 1 octets) ∷ [])
    (Ok (step_with_commands [] step) ∷ Ok (step_with_commands (open_command ∷ []) step) ∷ []) → ⊥
not-unopened now names octets step h = not-on-closed now names octets step h.1.0.replied

pub not-refused : (now : ℕ) (names : Bay) (octets : Bor (List ℕ)) (fault : StepFault) (step : Step)
    → AllOperate names (None ∷ []) ((now, Open 1) ∷ (now, Recv 1 octets) ∷ [])
    (Err fault ∷ Ok (step_with_commands (open_command ∷ []) step) ∷ []) → ⊥
not-refused now names octets fault step h = not-on-closed now names octets step h.1.0.replied

pub not-closed : (now : ℕ) (names : Bay) (octets : Bor (List ℕ)) (step : Step)
    → AllOperate names (Some (initial_connection 1) ∷ [])
    ((now, Close 1) ∷ (now, Recv 1 octets) ∷ [])
    (Ok (step_with_commands [] step) ∷ Ok (step_with_commands (open_command ∷ []) step) ∷ []) → ⊥
not-closed now names octets step h = not-on-closed now names octets step h.1.0.replied
