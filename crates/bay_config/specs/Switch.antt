-- The switch that a table of the section `switch` describes.
use Rattle.std.specs.Prelude.{ℕ, Bool, List, [], ◌∷◌, ◌++◌, map, codes, Option, None, Some, is_some, option_and_then, unwrap_or}
use Rattle.toml.specs.Data.{Members, get_member, as_str}
use Rattle.bay_nodes.specs.declared.switch.Switch.{Switch}
use Rattle.bay_base.specs.declared.switch.SwitchKind.{SwitchKind}
use Rattle.bay_base.specs.declared.switch.SwitchKind.TheVariants.{Breaker, Disconnector, Earthing}
use Rattle.bay_base.specs.declared.switch.Control.{Control}
use Rattle.bay_base.specs.declared.switch.Control.TheVariants.{Status, Direct, Sbo, SboEnhanced}
use Rattle.bay_config.specs.Key.{Key, identifier, number, optional, word, value_named, text_in, number_in}

-- the words for the kinds of switch
abbrev pub kinds : List (List ℕ × SwitchKind)
kinds = (codes "breaker", Breaker) ∷ (codes "disconnector", Disconnector)
    ∷ (codes "earthing", Earthing) ∷ []

-- the words for the kinds of control
abbrev pub controls : List (List ℕ × Control)
controls =
    (codes "status", Status) ∷ (codes "direct", Direct) ∷ (codes "sbo", Sbo)
    ∷ (codes "sbo-enhanced", SboEnhanced) ∷ []

-- the kind of a switch in a table; `None` if missing or invalid
abbrev pub kind_of : Members → Option SwitchKind
kind_of table =
    option_and_then (value_named kinds) (option_and_then as_str (get_member (codes "kind") table))

-- the kind of control in a table; `None` if missing or invalid
abbrev pub control_of : Members → Option Control
control_of table =
    option_and_then (value_named controls)
    (option_and_then as_str (get_member (codes "control") table))

-- the key for the id of a switch
abbrev pub id_key : Key
id_key = record { name = codes "id"; form = identifier 16 }

-- the key for the kind of a switch
abbrev pub kind_key : Key
kind_key = record { name = codes "kind"; form = word (map (λ e. e.0) kinds) }

-- the key for the kind of control of a switch
abbrev pub control_key : Key
control_key = record { name = codes "control"; form = word (map (λ e. e.0) controls) }

-- the key for the time that a selection lasts
abbrev pub sbo_timeout_key : Key
sbo_timeout_key = record { name = codes "sbo_timeout_ms"; form = number 1 600000 }

-- the key for the time that a switch may travel
abbrev pub travel_key : Key
travel_key = record { name = codes "travel_ms"; form = number 1 600000 }

-- the keys for the times of a kind of control; both if the control can't be read
abbrev pub time_keys : Option Control → List Key
time_keys None = sbo_timeout_key ∷ travel_key ∷ []
time_keys (Some Status) = []
time_keys (Some Direct) = travel_key ∷ []
time_keys (Some Sbo) = sbo_timeout_key ∷ travel_key ∷ []
time_keys (Some SboEnhanced) = sbo_timeout_key ∷ travel_key ∷ []

-- the key for the input of a switch's key
abbrev pub remote_key : Key
remote_key = record { name = codes "remote"; form = optional (identifier 16) }

-- the key for whether a switch refuses a synchrocheck
abbrev pub synchrocheck_key : Key
synchrocheck_key =
    record { name = codes "synchrocheck"; form = optional (word (codes "refuse" ∷ [])) }

-- only a breaker may refuse a synchrocheck; the key is known if the kind can't be read
abbrev pub synchrocheck_keys : Option SwitchKind → List Key
synchrocheck_keys None = synchrocheck_key ∷ []
synchrocheck_keys (Some Breaker) = synchrocheck_key ∷ []
synchrocheck_keys (Some Disconnector) = []
synchrocheck_keys (Some Earthing) = []

-- the keys that a switch may leave out, by its control and its kind; a switch without control has
-- none
abbrev pub optional_keys : Option Control → Option SwitchKind → List Key
optional_keys None kind = remote_key ∷ synchrocheck_keys kind
optional_keys (Some Status) kind = []
optional_keys (Some Direct) kind = remote_key ∷ synchrocheck_keys kind
optional_keys (Some Sbo) kind = remote_key ∷ synchrocheck_keys kind
optional_keys (Some SboEnhanced) kind = remote_key ∷ synchrocheck_keys kind

-- the keys of a switch, in their order
abbrev pub switch_keys : Members → List Key
switch_keys table =
    id_key ∷ kind_key ∷ control_key ∷ []
    ++ (time_keys (control_of table) ++ optional_keys (control_of table) (kind_of table))

-- the name of the input of the switch's key
abbrev pub remote_in : Members → Option (List ℕ)
remote_in table = option_and_then as_str (get_member (codes "remote") table)

-- the switch refuses a synchrocheck
abbrev pub refuses_in : Members → Bool
refuses_in table = is_some (get_member (codes "synchrocheck") table)

-- the switch that a table describes, if it is not refused
abbrev pub switch_in : Members → Switch
switch_in table = record {
  id = text_in table (codes "id");
  kind = unwrap_or (kind_of table) Breaker;
  control = unwrap_or (control_of table) Status;
  sbo_timeout_ms = number_in table (codes "sbo_timeout_ms");
  travel_ms = number_in table (codes "travel_ms");
  remote = remote_in table;
  refuses_synchrocheck = refuses_in table;
}
