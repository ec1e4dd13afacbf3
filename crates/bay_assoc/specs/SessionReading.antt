-- Reading consecutive units.
use Rattle.std.specs.Prelude.{ℕ, ◌≡◌, ◌<◌, List, [], ◌∷◌, length, Some, None, if◌then◌else◌}
use Rattle.bay_assoc.specs.declared.session.UnitRead.{UnitRead}
use Rattle.bay_assoc.specs.declared.session.UnitRead.TheVariants as next
use Rattle.bay_assoc.specs.Session.{Unit, prepend_units, units_in, is_user_data, UserDataView, missing, once, several}
use Rattle.bay_assoc.specs.SessionViews.{unit_of}

-- ---- own: reading consecutive units

-- the result of reading the next unit in octets, and the octets left
abbrev pub NextUnit : List ℕ → UnitRead → List ℕ → Type 0
NextUnit old next.End new = units_in old ≡ Some []
NextUnit old (next.Unit u) new =
    (units_in old ≡ prepend_units (unit_of u ∷ []) (units_in new)) × (length new < length old)
NextUnit old next.Bad new = units_in old ≡ None

-- the user data found so far, after one more parameter of user data
abbrev pub user_data_with : UserDataView → List ℕ → UserDataView
user_data_with missing octets = once octets
user_data_with (once first) octets = several
user_data_with several octets = several

-- the user data found so far, after one more unit
abbrev pub user_data_with_unit : UserDataView → Unit → UserDataView
user_data_with_unit users u = if is_user_data u then user_data_with users u.content else users
