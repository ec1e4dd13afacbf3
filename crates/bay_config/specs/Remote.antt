-- The inputs of the switches' keys.
use Rattle.std.specs.Prelude.{ℕ, Bool, true, not, List, Option, None, Some}
use Rattle.std.specs.List.{list_all, list_any}
use Rattle.bay_base.specs.Names.{same_name}
use Rattle.bay_nodes.specs.declared.switch.Switch.{Switch}
use Rattle.bay_config.specs.declared.fault.BayFault.{BayFault}
use Rattle.bay_config.specs.declared.fault.BayFault.TheVariants.{BadValue}
use Rattle.bay_config.specs.Key.{refused_if}

-- an input has the name, whatever the case of its letters
abbrev pub has_input : List (List ℕ) → List ℕ → Bool
has_input inputs name = list_any (λ input. same_name input name) inputs

-- the key of a switch is an input, if there is a key
abbrev pub is_input : List (List ℕ) → Option (List ℕ) → Bool
is_input inputs None = true
is_input inputs (Some name) = has_input inputs name

-- the key of each switch, if it has one, is an input
abbrev pub are_inputs : List (List ℕ) → List Switch → Bool
are_inputs inputs switches = list_all (λ switch. is_input inputs switch.remote) switches

-- the refusal of a switch whose key is not an input
abbrev pub remotes_refusal : List (List ℕ) → List Switch → Option BayFault
remotes_refusal inputs switches = refused_if (not (are_inputs inputs switches)) BadValue
