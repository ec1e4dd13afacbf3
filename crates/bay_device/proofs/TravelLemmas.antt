-- A switch of a bay file that can be operated takes some time.
use Rattle.std.proofs.Common.{◌≡◌, ◌≤◌, ℕ, ℤ, pos, negsuc, zero, suc, true, nat_le, List, [], ◌∷◌, ◌++◌, map, codes, option_map, option_and_then, unwrap_or, Option, Some, None, Ok}
use Rattle.std.proofs.lemmas.Bool.{and_parts, leb-true}
use Rattle.toml.specs.Data.{Data, Members, get_member, as_integer}
use Rattle.bay_base.specs.declared.switch.Control.{Control}
use Rattle.bay_base.specs.declared.switch.Control.TheVariants.{Status, Direct, Sbo, SboEnhanced}
use Rattle.bay_nodes.specs.declared.switch.Switch.{Switch}
use Rattle.bay_config.specs.Bay.{bay_of}
use Rattle.bay_config.specs.Key.{Key, entry_refusal, first_fault, value_refusal, is_within, key_refusal, natural, number, number_in, passes, unknown_refusal}
use Rattle.bay_config.specs.Laws.{IsBay}
use Rattle.bay_config.specs.Switch.{control_key, control_of, id_key, kind_key, kind_of, optional_keys, sbo_timeout_key, switch_in, switch_keys, time_keys, travel_key}
use Rattle.bay_config.specs.declared.bay.Bay.{Bay}
use Rattle.bay_config.specs.declared.fault.BayFault.{BayFault}
use Rattle.bay_config.proofs.PassedLemmas.{accepted-is, none-behind, none-first, switches-pass}
use Rattle.bay_config.proofs.SwitchLemmas.{first-keys}
use Rattle.bay_control.specs.Decisions.{controls_of}
use Rattle.bay_control.specs.Requests.{is_controlled}
use Rattle.bay_mms_services.specs.Released.{HaveTravelTime}
use Rattle.bay_device.specs.BoundBay.{IsTimedBay}

-- ---- a key

within-travel : (o : Option ℤ) → passes (is_within 1 600000) o ≡ true
    → 1 ≤ unwrap_or (option_map natural o) 0
within-travel None passed = absurd cc
within-travel (Some (pos n)) passed =
    leb-true 1 n (and_parts (nat_le 1 n) (nat_le n 600000) passed).0
within-travel (Some (negsuc n)) passed = absurd cc

held-travel : (d : Option Data) → value_refusal (number 1 600000) d ≡ None
    → 1 ≤ unwrap_or (option_map natural (option_and_then as_integer d)) 0
held-travel None none = absurd cc
held-travel (Some d) none =
    within-travel (as_integer d) (accepted-is (passes (is_within 1 600000) (as_integer d)) none)

-- ---- a table

behind-timeout : (t : Members)
    → first_fault (map (key_refusal t) (sbo_timeout_key ∷ travel_key ∷ [])) ≡ None
    → 1 ≤ number_in t (codes "travel_ms")
behind-timeout t none =
    let rest = none-first (key_refusal t sbo_timeout_key) (key_refusal t travel_key ∷ []) none in
    held-travel (get_member (codes "travel_ms") t)
    (none-first (key_refusal t travel_key) [] rest.1).0

by-control : (t : Members) (c : Option Control)
    → first_fault (map (key_refusal t) (time_keys c)) ≡ None
    → is_controlled (unwrap_or c Status) ≡ true → 1 ≤ number_in t (codes "travel_ms")
by-control t None none controlled = absurd cc
by-control t (Some Status) none controlled = absurd cc
by-control t (Some Direct) none controlled =
    held-travel (get_member (codes "travel_ms") t) (none-first (key_refusal t travel_key) [] none).0
by-control t (Some Sbo) none controlled = behind-timeout t none
by-control t (Some SboEnhanced) none controlled = behind-timeout t none

table-travels : (t : Members) → entry_refusal (switch_keys t) t ≡ None
    → is_controlled (switch_in t).control ≡ true → 1 ≤ (switch_in t).travel_ms
table-travels t none controlled =
    let first : List (Option BayFault) =
    unknown_refusal (map (λ (key : Key). key.name) (switch_keys t)) t
    ∷ map (key_refusal t) (id_key ∷ kind_key ∷ control_key ∷ []) in
    by-control t (control_of t)
    (first-keys t (time_keys (control_of t)) (optional_keys (control_of t) (kind_of t))
    (none-behind first (map (key_refusal t)
    (time_keys (control_of t) ++ optional_keys (control_of t) (kind_of t))) none)) controlled

-- ---- a file

one-travels : (inputs : List (List ℕ)) (t : Members) (ss : List Switch)
    → entry_refusal (switch_keys t) t ≡ None
    → HaveTravelTime (controls_of inputs ss)
    → HaveTravelTime (controls_of inputs (switch_in t ∷ ss))
one-travels inputs t ss none rest zero controlled = table-travels t none controlled
one-travels inputs t ss none rest (suc k) controlled = rest k controlled

none-travels : (inputs : List (List ℕ)) → HaveTravelTime (controls_of inputs [])
none-travels inputs zero controlled = absurd cc
none-travels inputs (suc k) controlled = absurd cc

-- a bay that was read is so
pub timed-bay : (text : List ℕ) (bay : Bay) → IsBay bay → bay_of text ≡ Ok bay → IsTimedBay bay
timed-bay text bay is read =
    record {
      sound = is;
      timed =
          switches-pass (λ ss. HaveTravelTime (controls_of bay.inputs ss)) (none-travels bay.inputs)
          (one-travels bay.inputs) text bay read;
    }
