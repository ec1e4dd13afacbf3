-- Data and types as values: as in the code, without the slices they borrow from.
use Rattle.std.specs.Prelude.{ℕ, List, [], ◌∷◌, map}
use Rattle.std.specs.Borrow.{Bor}
use Rattle.bay_ber.specs.Tags.{context}
use Rattle.bay_mms.specs.declared.data.Data.{Data, fold-Data}
use Rattle.bay_mms.specs.declared.data.Data.TheOpen.{Data-F}
use Rattle.bay_mms.specs.declared.data.TypeSpec as code
use Rattle.bay_mms.specs.declared.data.TypeSpec.TheOpen.{TypeSpec-F}
use Rattle.bay_mms.specs.Types as types
use Rattle.bay_mms.specs.Types.{TypeSpec, Components}
use Rattle.bay_mms.specs.Data as mms
use Rattle.bay_mms.specs.Data.{Datum}

-- ---- own: views of the code

-- data before others
abbrev pub data_before : List Datum → mms.Data → mms.Data
data_before [] later = later
data_before (first ∷ between) later = mms.datum first (data_before between later)

-- the view of data, from the views of its parts
abbrev pub datum_step : Data-F Datum → Datum
datum_step (Data-F.Structure parts) = mms.structure (data_before parts.items mms.no_data)
datum_step (Data-F.Truth value) = mms.truth value
datum_step (Data-F.Bits value) = mms.bits value.octets.now value.count
datum_step (Data-F.Integer value) = mms.integer value
datum_step (Data-F.Unsigned value) = mms.unsigned value
datum_step (Data-F.Float value) = mms.other (context 7) value
datum_step (Data-F.Octets value) = mms.octets value.now
datum_step (Data-F.Text value) = mms.text value.now
datum_step (Data-F.Utc value) = mms.utc value
datum_step (Data-F.Other value) = mms.other value.tag value.content.now

-- the view of data
abbrev pub datum_of : Data → Datum
datum_of = fold-Data Datum datum_step

-- the views of a list of data
abbrev pub data_in : List Data → List Datum
data_in = map datum_of

-- components before others
abbrev pub components_before : List (List ℕ × TypeSpec) → Components → Components
components_before [] later = later
components_before (first ∷ between) later =
    types.component first.0 first.1 (components_before between later)

-- the view of a type, from the views of its components
abbrev pub type_step : TypeSpec-F types.TypeSpec → types.TypeSpec
type_step (TypeSpec-F.Structure parts) =
    types.structure (components_before (map (λ part. (part.0.now, part.1)) parts.items)
    types.no_components)
type_step (TypeSpec-F.Plain tag) = types.plain tag
type_step (TypeSpec-F.Sized tag size) = types.sized tag size
type_step (TypeSpec-F.Float width exponent) = types.float width exponent

-- the view of a type
abbrev pub type_of : code.TypeSpec → types.TypeSpec
type_of = code.fold-TypeSpec types.TypeSpec type_step

-- the views of components: their names and types
abbrev pub components_in : List (Bor (List ℕ) × code.TypeSpec) → List (List ℕ × TypeSpec)
components_in = map (λ part. (part.0.now, type_of part.1))
