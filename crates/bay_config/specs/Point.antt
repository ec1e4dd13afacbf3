-- The points of switches, inputs and meters, and the refusal of their names.
use Rattle.std.specs.Prelude.{ℕ, ◌+◌, Bool, true, false, ◌||◌, List, [], ◌∷◌, ◌++◌, map, codes, Option, is_some}
use Rattle.std.specs.List.{list_any}
use Rattle.std.specs.Str.{str_to_ascii_uppercase}
use Rattle.bay_nodes.specs.declared.meter.Meter.{Meter}
use Rattle.bay_nodes.specs.declared.switch.Switch.{Switch}
use Rattle.bay_base.specs.declared.point.Point.{Point}
use Rattle.bay_base.specs.declared.point.Source.TheVariants as sources
use Rattle.bay_base.specs.declared.point.MeterField.{MeterField}
use Rattle.bay_base.specs.declared.point.MeterField.TheVariants.{TotW, TotVAr, Hz, PhaseA, PhaseB, PhaseC}
use Rattle.bay_base.specs.declared.point.SwitchPoint.{SwitchPoint}
use Rattle.bay_base.specs.declared.point.SwitchPoint.TheVariants.{Position, Open, Closed, EnableOpen, EnableClose}
use Rattle.bay_base.specs.Words.{reserved_of}
use Rattle.bay_base.specs.declared.types.ElementaryType.{ElementaryType}
use Rattle.bay_base.specs.declared.types.ElementaryType.TheVariants.{Bool as Truth, Int, Dint}
use Rattle.bay_config.specs.declared.fault.BayFault.{BayFault}
use Rattle.bay_config.specs.declared.fault.BayFault.TheVariants.{BadValue, DuplicateName}
use Rattle.bay_config.specs.Key.{is_among, first_fault, refused_if}

-- a point of the switch at an index with this id: the ending of its name, its type, whether a
-- program may write it, and which of the switch's points it is
abbrev pub point_of : ℕ → List ℕ → List ℕ → ElementaryType → Bool → SwitchPoint → Point
point_of index id ending kind writable which = record {
  name = str_to_ascii_uppercase id ++ ending;
  kind = kind;
  writable = writable;
  source = sources.Switch index which;
}

-- the points with the position of a switch
abbrev pub position_points : ℕ → List ℕ → List Point
position_points index id =
    point_of index id (codes "_POS") Int false Position
    ∷ point_of index id (codes "_OPEN") Truth false Open
    ∷ point_of index id (codes "_CLOSED") Truth false Closed
    ∷ []

-- the points that release its opening and its closing
abbrev pub enable_points : ℕ → List ℕ → List Point
enable_points index id =
    point_of index id (codes "_ENA_OPN") Truth true EnableOpen
    ∷ point_of index id (codes "_ENA_CLS") Truth true EnableClose
    ∷ []

-- the points of the switch at an index
abbrev pub points_of : ℕ → Switch → List Point
points_of index switch = position_points index switch.id ++ enable_points index switch.id

-- the points of a list of switches, the first of which has this index
abbrev pub points_from : ℕ → List Switch → List Point
points_from index [] = []
points_from index (switch ∷ switches) = points_of index switch ++ points_from (index + 1) switches

-- the point of the input at an index, named after the input
abbrev pub input_point : ℕ → List ℕ → Point
input_point index name =
    record {
      name = str_to_ascii_uppercase name;
      kind = Truth;
      writable = false;
      source = sources.Input index;
    }

-- the points of a list of inputs, the first of which has this index
abbrev pub inputs_from : ℕ → List (List ℕ) → List Point
inputs_from index [] = []
inputs_from index (name ∷ names) = input_point index name ∷ inputs_from (index + 1) names

-- the point of a field of the meter at an index with this id: the ending of its name, and the field
abbrev pub field_point : ℕ → List ℕ → List ℕ → MeterField → Point
field_point index id ending field =
    record {
      name = str_to_ascii_uppercase id ++ ending;
      kind = Dint;
      writable = false;
      source = sources.Meter index field;
    }

-- the points of the meter at an index
abbrev pub meter_points : ℕ → List ℕ → List Point
meter_points index id =
    field_point index id (codes "_TOTW") TotW
    ∷ field_point index id (codes "_TOTVAR") TotVAr
    ∷ field_point index id (codes "_HZ") Hz
    ∷ field_point index id (codes "_AA") PhaseA
    ∷ field_point index id (codes "_AB") PhaseB
    ∷ field_point index id (codes "_AC") PhaseC
    ∷ []

-- the points of a list of meters, the first of which has this index
abbrev pub meters_from : ℕ → List Meter → List Point
meters_from index [] = []
meters_from index (meter ∷ meters) = meter_points index meter.id ++ meters_from (index + 1) meters

-- the points of a bay: of its switches, its inputs and its meters
abbrev pub bay_points : List Switch → List (List ℕ) → List Meter → List Point
bay_points switches inputs meters =
    points_from 0 switches ++ (inputs_from 0 inputs ++ meters_from 0 meters)

-- some text occurs twice in the list
abbrev pub has_twin : List (List ℕ) → Bool
has_twin [] = false
has_twin (s ∷ rest) = is_among rest s || has_twin rest

-- the first refusal of the names: two points with the same name, then a point with the name of a
-- reserved word
abbrev pub names_refusal : List Point → Option BayFault
names_refusal points =
    let names = map (λ p. p.name) points in
    first_fault (refused_if (has_twin names) DuplicateName
    ∷ refused_if (list_any (λ name. is_some (reserved_of name)) names) BadValue ∷ [])
