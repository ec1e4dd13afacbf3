-- The tables of names: for each key, an index before which no name has that key.
use Rattle.std.specs.Prelude.{◌≡◌, ℕ, ◌+◌, ◌*◌, ◌<◌, ◌≤◌, ◌%◌, nat_lt, List, length, map, get_or, slice_get, slice_set, Some, if◌then◌else◌}
use Rattle.std.specs.List.{fold}
use Rattle.bay_process.specs.declared.meter.BoundMeter.{BoundMeter}
use Rattle.bay_process.specs.declared.switch.BoundSwitch.{BoundSwitch}
use Rattle.bay_device.specs.declared.table.NameTables.{NameTables}

-- the key of a name, below 64; it does not depend on the case of letters, whose octets differ by 32
abbrev pub key_after : ℕ → ℕ → ℕ
key_after key octet = (key * 31 + octet % 32) % 64

-- the key of a name
abbrev pub key_of : List ℕ → ℕ
key_of name = fold key_after 0 name

-- the table with one more name
abbrev pub with_index_of : ℕ → ℕ → List ℕ → List ℕ
with_index_of key index firsts =
    if nat_lt index (get_or firsts key 0) then slice_set firsts key index else firsts

-- no name has an index below that of its key, and no index in the table exceeds the number of names
pub record IsTable (names : List (List ℕ)) (firsts : List ℕ) : Type 0 where
  pub within : (key : ℕ) → key < 64 → get_or firsts key 0 ≤ length names
  pub first : (index : ℕ) (name : List ℕ) → slice_get names index ≡ Some name
      → get_or firsts (key_of name) 0 ≤ index

-- the tables of the ids of switches, the names of inputs and the ids of meters
pub record AreTables (switches : List BoundSwitch) (inputs : List (List ℕ))
    (meters : List BoundMeter) (tables : NameTables) : Type 0 where
  pub of_switches : IsTable (map (λ b. b.switch.id) switches) tables.switches.firsts
  pub of_inputs : IsTable inputs tables.inputs.firsts
  pub of_meters : IsTable (map (λ m. m.id) meters) tables.meters.firsts
