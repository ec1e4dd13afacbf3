-- What obeys a rule in small runs.
use Rattle.std.proofs.Common.{◌≡◌, ◌+◌, ⊎_elim, ℕ, Bool, true, false, not, [], ◌∷◌, None, inl, refl, ap, sym, ◌∙◌, arith}
use Rattle.bay_audit_laws.specs.Examples.{at_all_times}
use Rattle.bay_audit_laws.specs.Laws.{HasWaited, IsAllowed, RowsObey, ScanObeysAt}
use Rattle.bay_audit_rules.specs.declared.rule.RuleKind.TheVariants.{Always, Never}
use Rattle.bay_base.specs.declared.switch.Operation.{Operation}
use Rattle.bay_base.specs.declared.switch.Operation.TheVariants.{Close}
use Rattle.bay_device.specs.Device.{State}
use Rattle.bay_device.specs.declared.event.Step.{Step}
use Rattle.cmd_replay.specs.History.{EachPast}
use Rattle.cmd_audit_laws.proofs.ReleaseLemmas.{is-enabled}
use Rattle.cmd_audit_laws.specs.Orders.{contact_past, five_milliseconds, open_command, scan_past, scanned_at, with_enable_value}

-- ---- scans

never-of : (b : Bool) (s : State) → RowsObey (at_all_times Never) (with_enable_value b s)
    → b ≡ false
never-of true s h = let no : false ≡ true = sym (ap not (is-enabled true s)) ∙ h in absurd cc
never-of false s h = refl

always-of : (b : Bool) (s : State) → RowsObey (at_all_times Always) (with_enable_value b s)
    → b ≡ true
always-of true s h = refl
always-of false s h = let no : false ≡ true = sym (is-enabled false s) ∙ h in absurd cc

pub blocked-obeys-never : (first s : State) (step : Step)
    → EachPast (ScanObeysAt (at_all_times Never)) first
    (scan_past (with_enable_value false s) step ∷ [])
blocked-obeys-never first s step = (λ scan. ap not (is-enabled false s), tt)

pub released-breaks-never : (first s : State) (step : Step)
    → EachPast (ScanObeysAt (at_all_times Never)) first
    (scan_past (with_enable_value true s) step ∷ []) → ⊥
released-breaks-never first s step h =
    let no : true ≡ false = never-of true s (h.0 refl) in absurd cc

pub earlier-breaks-never : (first s t : State) (step : Step)
    → EachPast (ScanObeysAt (at_all_times Never)) first
    (contact_past t step ∷ scan_past (with_enable_value true s) step ∷ []) → ⊥
earlier-breaks-never first s t step h = released-breaks-never first s step h.1

pub released-obeys-always : (first s : State) (step : Step)
    → EachPast (ScanObeysAt (at_all_times Always)) first
    (scan_past (with_enable_value true s) step ∷ [])
released-obeys-always first s step = (λ scan. is-enabled true s, tt)

pub blocked-breaks-always : (first s : State) (step : Step)
    → EachPast (ScanObeysAt (at_all_times Always)) first
    (scan_past (with_enable_value false s) step ∷ []) → ⊥
blocked-breaks-always first s step h =
    let no : false ≡ true = always-of false s (h.0 refl) in absurd cc

-- ---- commands

pub opening-is-forbidden : (s : State) → IsAllowed (at_all_times Never) s open_command → ⊥
opening-is-forbidden s h = let no : true ≡ false = h refl refl refl in absurd cc

pub closing-is-allowed : (s : State) (k : ℕ)
    → IsAllowed (at_all_times Never) s (record { switch = k; operation = Close })
closing-is-allowed s k kind switch operation = absurd cc

pub another-is-allowed : (s : State) (k : ℕ) (operation : Operation)
    → IsAllowed (at_all_times Never) s (record { switch = k + 1; operation = operation })
another-is-allowed s k operation kind switch same =
    let first : k + 1 ≡ 0 = switch in absurd (omega arith)

-- ---- rules with a time

pub five-have-passed : (s : State)
    → HasWaited (at_all_times Never) five_milliseconds ((0, true) ∷ []) (scanned_at 5 s)
    open_command
five-have-passed s switch operation when = (refl, inl (omega arith))

pub four-are-too-few : (s : State)
    → HasWaited (at_all_times Never) five_milliseconds ((0, true) ∷ []) (scanned_at 4 s)
    open_command → ⊥
four-are-too-few s h = ⊎_elim (λ few. omega arith) (λ none. none) (h refl refl refl).1

pub false-interrupts : (s : State)
    → HasWaited (at_all_times Never) five_milliseconds ((3, false) ∷ (0, true) ∷ [])
    (scanned_at 5 s) open_command → ⊥
false-interrupts s h = let no : false ≡ true = (h refl refl refl).0 in absurd cc

pub none-has-held : (s : State)
    → HasWaited (at_all_times Never) five_milliseconds [] (scanned_at 5 s) open_command → ⊥
none-has-held s h = h refl refl refl

pub no-scan-has-held : (s : State)
    → HasWaited (at_all_times Never) five_milliseconds ((0, true) ∷ [])
    (record s { last_scan = None }) open_command → ⊥
no-scan-has-held s h = h refl refl refl
