-- The scans and the commands of a device, if a rule holds of its program, or releases are harmless.
use Rattle.std.specs.Prelude.{ℕ, ℤ, ◌-◌, ◌≤◌, ◌≤ℤ◌, negsuc, pos, [], ◌∷◌, ◌≡◌, ◌<◌, ◌⊎◌, Bool, true, false, All, List, length, slice_get, unwrap_or, Result, Ok, Err, IfOk, IsSomeAnd, OnOk}
use Rattle.bay_config.specs.Laws.{IsBay}
use Rattle.bay_config.specs.declared.bay.Bay.{Bay}
use Rattle.bay_tree.specs.Rows.{leaf_named}
use Rattle.bay_process.specs.Values.{is_truth, measure_leaf, number_of_leaf, position_leaf}
use Rattle.bay_base.specs.declared.switch.Operation.{Operation}
use Rattle.bay_audit_rules.specs.Process.{Process, holds}
use Rattle.bay_audit_rules.specs.declared.rule.ConditionItem.{ConditionItem}
use Rattle.bay_audit_rules.specs.declared.rule.Rule.{Rule}
use Rattle.bay_audit_rules.specs.declared.rule.RuleKind.TheVariants.{Never}
use Rattle.bay_audit_rules.specs.declared.rule.Timing.{Timing}
use Rattle.bay_mms_services.specs.Controls.{dbpos_of}
use Rattle.bay_mms_services.specs.Released.{enable_name}
use Rattle.bay_mms_services.specs.declared.answer.Command.{Command}
use Rattle.il_image.specs.Images.{Image}
use Rattle.bay_device.specs.Device.{State}
use Rattle.bay_device.specs.Load.{initial_device}
use Rattle.bay_device.specs.Meaning.{HaltsAt}
use Rattle.bay_device.specs.Steps.{EachStep, Steps}
use Rattle.bay_device.specs.declared.event.Event.{Event}
use Rattle.bay_device.specs.declared.event.Event.TheVariants.{Open, Recv, Close, Contact, Input, Measure, BadMeasure, Lost, Scan}
use Rattle.bay_device.specs.declared.event.Step.{Step}
use Rattle.bay_device.specs.declared.fault.StepFault.{StepFault}
use Rattle.bay_audit.specs.Rules.{BoundProgram, IsByTimer, IsDueByTimer, IsMet, RuleHolds, is_obeyed, program_of, sufficient_demand}
use Rattle.bay_audit_hazards.specs.Judged.{IsHarmless, is_hazard_of}
use Rattle.bay_diagram.specs.declared.network.Network.{Network}

-- ---- a device

-- the values that the process last reported, as the device has them: a switch without a report is
-- intermediate, an input FALSE, a measured value 0
abbrev pub process_of : State → Process
process_of s = record {
  position = λ k. dbpos_of (position_leaf s.switches s.rows k (slice_get s.switches k));
  input = λ k. unwrap_or (slice_get s.input_values k) false;
  measure = λ k field. number_of_leaf (measure_leaf s.rows k field (slice_get s.meters k));
}

-- the operation of the switch is released: EnaCls of its CILO for closing, EnaOpn for opening
abbrev pub is_released : State → ℕ → Operation → Bool
is_released s k operation = is_truth true (leaf_named (enable_name k operation) s.rows)

-- The interlocking values obey a rule, for the process of the device.
abbrev pub RowsObey : Rule → State → Type 0
RowsObey rule s =
    is_obeyed rule.kind (holds rule.when (process_of s)) (is_released s rule.switch rule.operation)
    ≡ true

-- ---- events

-- A number fits 32 bits with a sign.
pub record Has32Bits (z : ℤ) : Type 0 where
  pub least : negsuc 2147483647 ≤ℤ z
  pub greatest : z ≤ℤ pos 2147483647

-- A measured value of an event fits 32 bits, as its type requires.
abbrev pub IsOfType : Event → Type 0
IsOfType (Open a) = Unit {0}
IsOfType (Recv a octets) = Unit {0}
IsOfType (Close a) = Unit {0}
IsOfType (Contact k position) = Unit {0}
IsOfType (Input k value) = Unit {0}
IsOfType (Measure k field value) = Has32Bits value
IsOfType (BadMeasure k field) = Unit {0}
IsOfType Lost = Unit {0}
IsOfType Scan = Unit {0}

-- Each measured value of the events fits 32 bits.
abbrev pub AreOfTypes : List (ℕ × Event) → Type 0
AreOfTypes [] = Unit {0}
AreOfTypes (e ∷ es) = IsOfType e.1 × AreOfTypes es

-- An accepted scan leaves interlocking values that obey a rule.
abbrev pub ScanObeysAt : Rule → ℕ → Event → State → Result Step StepFault → State → Type 0
ScanObeysAt rule now event old answer new =
    event ≡ Scan → OnOk answer (RowsObey rule new)

-- A command of this switch and operation is issued only while the values that the process last
-- reported are not in a set.
abbrev pub IsOutside : (Process → Bool) → ℕ → Operation → State → Command → Type 0
IsOutside set k operation s command =
    command.switch ≡ k → command.operation ≡ operation → set (process_of s) ≡ false

-- If a rule forbids a command while its condition is TRUE, the command is issued only while the
-- condition is FALSE for the values that the process last reported.
abbrev pub IsAllowed : Rule → State → Command → Type 0
IsAllowed rule s command =
    rule.kind ≡ Never → IsOutside (holds rule.when) rule.switch rule.operation s command

-- Each command of an accepted event obeys a rule.
abbrev pub CommandsObeyAt : Rule → ℕ → Event → State → Result Step StepFault → State → Type 0
CommandsObeyAt rule now event old answer new =
    IfOk answer (λ step. All (IsAllowed rule old) step.commands)

-- Each command of an accepted event is issued so.
abbrev pub CommandsOutsideAt : (Process → Bool) → ℕ → Operation → ℕ → Event → State
    → Result Step StepFault → State → Type 0
CommandsOutsideAt set k operation now event old answer new =
    IfOk answer (λ step. All (IsOutside set k operation old) step.commands)

-- Each command of this switch and operation is issued by an accepted event only while the operation
-- is no hazard in a network, by the values that the process last reported.
abbrev pub CommandsAreHarmlessAt : Network → ℕ → Operation → ℕ → Event → State
    → Result Step StepFault → State → Type 0
CommandsAreHarmlessAt net k operation now event old answer new =
    CommandsOutsideAt (is_hazard_of net k operation) k operation now event old answer new

-- ---- the laws

-- `Law` is true for each event in each run of a device, from load of a bay and an image on.
abbrev pub InEachRun : Bay → Image → (ℕ → Event → State → Result Step StepFault → State → Type 0)
    → Type 0
InEachRun bay image Law =
    (events : List (ℕ × Event)) (answers : List (Result Step StepFault)) (last : State)
    → AreOfTypes events → EachStep HaltsAt events (initial_device bay image) answers last
    → EachStep Law events (initial_device bay image) answers last

-- `Law` is true in each run, if a rule holds of the program.
abbrev pub ForEachRule : (Rule → ℕ → Event → State → Result Step StepFault → State → Type 0)
    → Type 0
ForEachRule Law =
    (bay : Bay) (image : Image) (rule : Rule) → IsBay bay
    → rule.switch < length bay.switches → RuleHolds (program_of bay image) rule
    → InEachRun bay image (Law rule)

-- Each scan of a device obeys each rule that holds of its program.
abbrev pub ScansObey : Type 0
ScansObey = ForEachRule ScanObeysAt

-- Each command of a device obeys each rule that holds of its program.
abbrev pub CommandsObey : Type 0
CommandsObey = ForEachRule CommandsObeyAt

-- No command of a device is a hazard in a network, if the release of its switch and operation is
-- harmless in this network.
abbrev pub CommandsAreHarmless : Type 0
CommandsAreHarmless =
    (bay : Bay) (image : Image) (net : Network) (k : ℕ) (operation : Operation) → IsBay bay
    → k < length bay.switches → IsHarmless (program_of bay image) net k operation
    → InEachRun bay image (CommandsAreHarmlessAt net k operation)

-- ---- rules with a time

-- the accepted scans, the last one first: the time of each, and whether a condition was TRUE for
-- the values that the process had last reported
abbrev pub add_scan : List ConditionItem → ℕ → State → Result Step StepFault → List (ℕ × Bool)
    → List (ℕ × Bool)
add_scan condition now s (Ok step) scans = (now, holds condition (process_of s)) ∷ scans
add_scan condition now s (Err fault) scans = scans

abbrev pub scans_after : List ConditionItem → ℕ → Event → State → Result Step StepFault
    → List (ℕ × Bool)
    → List (ℕ × Bool)
scans_after condition now (Open a) s answer scans = scans
scans_after condition now (Recv a octets) s answer scans = scans
scans_after condition now (Close a) s answer scans = scans
scans_after condition now (Contact k position) s answer scans = scans
scans_after condition now (Input k value) s answer scans = scans
scans_after condition now (Measure k field value) s answer scans = scans
scans_after condition now (BadMeasure k field) s answer scans = scans
scans_after condition now Lost s answer scans = scans
scans_after condition now Scan s answer scans = add_scan condition now s answer scans

-- The condition has held for a time, as of `now`: it was TRUE at the last scan, and at each scan
-- before it back to one that is at least this time ago.
abbrev pub HasHeld : ℕ → ℕ → List (ℕ × Bool) → Type 0
HasHeld time now [] = ⊥
HasHeld time now (scan ∷ scans) =
    (scan.1 ≡ true) × ((time ≤ now - scan.0) ⊎ HasHeld time now scans)

-- An accepted scan releases the switch, in a state that the rule covers, only if the condition has
-- held for the time.
abbrev pub ScanWaitsAt : Rule → Timing → List (ℕ × Bool) → ℕ → Event → State
    → Result Step StepFault → State → Type 0
ScanWaitsAt rule timing scans now event old answer new =
    event ≡ Scan → OnOk answer (holds rule.when (process_of new) ≡ true
    → is_released new rule.switch rule.operation ≡ true
    → HasHeld timing.time now (scans_after timing.condition now event old answer scans))

-- A command to move the switch so is issued, in a state that the rule covers, only if at the last
-- scan the condition had held for the time.
abbrev pub HasWaited : Rule → Timing → List (ℕ × Bool) → State → Command → Type 0
HasWaited rule timing scans s command =
    command.switch ≡ rule.switch → command.operation ≡ rule.operation
    → holds rule.when (process_of s) ≡ true
    → IsSomeAnd s.last_scan (λ m. HasHeld timing.time m scans)

-- Each command of an accepted event waits for the time of a rule.
abbrev pub CommandsWaitAt : Rule → Timing → List (ℕ × Bool) → ℕ → Event → State
    → Result Step StepFault → State → Type 0
CommandsWaitAt rule timing scans now event old answer new =
    IfOk answer (λ step. All (HasWaited rule timing scans old) step.commands)

-- Each event is a step for which `Law` is true, with the scans before it.
abbrev pub EachEvent : (List (ℕ × Bool) → ℕ → Event → State → Result Step StepFault → State
    → Type 0)
    → List ConditionItem → List (ℕ × Event) → List (ℕ × Bool) → State → List (Result Step StepFault)
    → State → Type 0
EachEvent Law condition [] scans s [] last = last ≡ s
EachEvent Law condition [] scans s (answer ∷ answers) last = ⊥
EachEvent Law condition (e ∷ es) scans s [] last = ⊥
EachEvent Law condition (e ∷ es) scans s (answer ∷ answers) last =
    (new : State) × Steps e.0 e.1 s answer new × Law scans e.0 e.1 s answer new
    × EachEvent Law condition es (scans_after condition e.0 e.1 s answer scans) new answers last

-- An accepted scan releases the switch, in a state that the rule covers, if the condition has held
-- for the time.
abbrev pub ScanIsDueAt : Rule → Timing → List (ℕ × Bool) → ℕ → Event → State
    → Result Step StepFault → State → Type 0
ScanIsDueAt rule timing scans now event old answer new =
    event ≡ Scan → OnOk answer (holds rule.when (process_of new) ≡ true
    → HasHeld timing.time now (scans_after timing.condition now event old answer scans)
    → is_released new rule.switch rule.operation ≡ true)

-- An accepted scan releases the switch, in a state that the rule covers, if the condition is TRUE.
abbrev pub ScanReleasesAt : Rule → Timing → List (ℕ × Bool) → ℕ → Event → State
    → Result Step StepFault → State → Type 0
ScanReleasesAt rule timing scans now event old answer new =
    event ≡ Scan → OnOk answer (holds rule.when (process_of new) ≡ true
    → holds timing.condition (process_of new) ≡ true
    → is_released new rule.switch rule.operation ≡ true)

-- `Law` is true in each run of a device, from load of a bay and an image on, if a rule with a time
-- is established in this way.
abbrev pub InEachRunIf : (BoundProgram → Rule → Timing → Type 0)
    → (Rule → Timing → List (ℕ × Bool) → ℕ → Event → State → Result Step StepFault → State
    → Type 0) → Type 0
InEachRunIf IsEstablished Law =
    (bay : Bay) (image : Image) (rule : Rule) (timing : Timing) → IsBay bay
    → rule.switch < length bay.switches → IsEstablished (program_of bay image) rule timing
    → (events : List (ℕ × Event)) (answers : List (Result Step StepFault)) (last : State)
    → AreOfTypes events → EachStep HaltsAt events (initial_device bay image) answers last
    → EachEvent (Law rule timing) timing.condition events [] (initial_device bay image) answers
    last

-- `Law` is true in each run of a device, from load of a bay and an image on, if a timer
-- establishes a rule with a time.
abbrev pub IfByTimer : (Rule → Timing → List (ℕ × Bool) → ℕ → Event → State → Result Step StepFault
    → State → Type 0) → Type 0
IfByTimer Law = (n : ℕ) → InEachRunIf (λ g rule timing. IsByTimer g rule timing n) Law

-- Each scan that releases a switch waits for the time of each rule that a timer establishes.
abbrev pub ScansWait : Type 0
ScansWait = IfByTimer ScanWaitsAt

-- Each command waits for the time of each rule that a timer establishes.
abbrev pub CommandsWait : Type 0
CommandsWait = IfByTimer CommandsWaitAt

-- ---- rules that require a release

-- Each scan releases a switch when a rule requires it, if a timer establishes the rule.
abbrev pub ScansAreDue : Type 0
ScansAreDue = (n : ℕ) → InEachRunIf (λ g rule timing. IsDueByTimer g rule timing n) ScanIsDueAt

-- Each scan with the condition TRUE releases the switch, if the condition alone releases it.
abbrev pub ScansRelease : Type 0
ScansRelease =
    InEachRunIf (λ g rule timing. IsMet g (sufficient_demand rule timing.condition)) ScanReleasesAt
