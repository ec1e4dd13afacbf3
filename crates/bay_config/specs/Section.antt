-- The sections of a bay file: how often each may occur, which keys its tables have, and its first
-- refusal.
use Rattle.std.specs.Prelude.{ℕ, ◌+◌, nat_lt, Bool, true, not, ◌&&◌, List, [], ◌∷◌, ◌++◌, map, Option, None, Some, is_some, option_to_list, unwrap_or}
use Rattle.toml.specs.Data.{Data, Items, no_items, item, Members, get_member, as_table, as_array}
use Rattle.bay_config.specs.declared.fault.BayFault.{BayFault}
use Rattle.bay_config.specs.declared.fault.BayFault.TheVariants.{MissingKey, BadValue, TooMany}
use Rattle.bay_config.specs.Key.{Key, first_fault, refused_if, entry_refusal}

-- how often a section occurs in a file
pub data Shape : Type 0 where
  -- as one table
  one : Shape
  -- as a list of tables, at least and at most this number of them; a missing list has none
  many : ℕ → ℕ → Shape

-- a section; the keys of one of its tables may depend on the contents of the table
pub record Section : Type 0 where
  pub name : List ℕ
  pub shape : Shape
  pub keys : Members → List Key

-- each item of a list is a table
abbrev pub are_tables : Items → Bool
are_tables no_items = true
are_tables (item d ds) = is_some (as_table d) && are_tables ds

-- the number of items of a list
abbrev pub count_of : Items → ℕ
count_of no_items = 0
count_of (item d ds) = count_of ds + 1

-- the tables of a list
abbrev pub tables_of : Items → List Members
tables_of no_items = []
tables_of (item d ds) = option_to_list (as_table d) ++ tables_of ds

-- the refusal of a section that is one table
abbrev pub one_refusal : (Members → List Key) → Option Members → Option BayFault
one_refusal keys None = Some BadValue
one_refusal keys (Some table) = entry_refusal (keys table) table

-- the checks of a list before its tables: too few items, an item that is not a table, too many
-- items
abbrev pub list_checks : ℕ → ℕ → Items → List (Option BayFault)
list_checks least most items =
    refused_if (nat_lt (count_of items) least) MissingKey
    ∷ refused_if (not (are_tables items)) BadValue
    ∷ refused_if (nat_lt most (count_of items)) TooMany ∷ []

-- the list as a whole, then table by table
abbrev pub items_refusal : ℕ → ℕ → (Members → List Key) → Items → Option BayFault
items_refusal least most keys items =
    first_fault (list_checks least most items
    ++ map (λ table. entry_refusal (keys table) table) (tables_of items))

-- the refusal of a section that must be a list; `None` is a section that is not a list
abbrev pub list_refusal : ℕ → ℕ → (Members → List Key) → Option Items → Option BayFault
list_refusal least most keys None = Some BadValue
list_refusal least most keys (Some items) = items_refusal least most keys items

-- the list at a section; an empty list if the section is missing, `None` if it is not a list
abbrev pub items_at : Option Data → Option Items
items_at None = Some no_items
items_at (Some d) = as_array d

-- the refusal of a section that must be one table; it may not be missing
abbrev pub table_refusal : (Members → List Key) → Option Data → Option BayFault
table_refusal keys None = Some MissingKey
table_refusal keys (Some d) = one_refusal keys (as_table d)

-- the refusal of a section of either shape
abbrev pub shape_refusal : Shape → (Members → List Key) → Option Data → Option BayFault
shape_refusal one keys d = table_refusal keys d
shape_refusal (many least most) keys d = list_refusal least most keys (items_at d)

-- the first refusal of a section of a file
abbrev pub section_refusal : Members → Section → Option BayFault
section_refusal file section =
    shape_refusal section.shape section.keys (get_member section.name file)

-- the tables of a section that is a list
abbrev pub section_tables : Members → Section → List Members
section_tables file section =
    tables_of (unwrap_or (items_at (get_member section.name file)) no_items)
