-- Data (ISO 9506-2, Data) and its canonical text.
use Rattle.std.specs.Prelude.{ℕ, ℤ, pos, Bool, List, [], ◌∷◌, ◌++◌}
use Rattle.bay_tree.specs.declared.leaf.Leaf.{Leaf}
use Rattle.bay_tree.specs.declared.leaf.Leaf.TheVariants as leaf
use Rattle.bay_base.specs.declared.position.Dbpos.{Dbpos}
use Rattle.bay_base.specs.declared.position.Dbpos.TheVariants as position
use Rattle.bay_tree.specs.declared.leaf.Quality.{Quality}
use Rattle.bay_tree.specs.declared.leaf.Quality.TheVariants as quality
use Rattle.bay_ber.specs.declared.tag.Tag.{Tag}
use Rattle.bay_ber.specs.Writing.{element, truth_octets, integer_octets, bit_string_octets}
use Rattle.bay_ber.specs.Tags.{context, constructed}
use Rattle.bay_mms.specs.Float.{float_octets}
use Rattle.bay_mms.specs.Utc.{utc_octets}

-- ---- ISO 9506-2 Data: data and their text

mutual
  pub data Datum : Type 0 where
    structure : Data → Datum
    truth : Bool → Datum
    bits : List ℕ → ℕ → Datum
    integer : ℤ → Datum
    unsigned : ℤ → Datum
    octets : List ℕ → Datum
    text : List ℕ → Datum
    utc : List ℕ → Datum
    other : Tag → List ℕ → Datum

  pub data Data : Type 0 where
    no_data : Data
    datum : Datum → Data → Data

-- the canonical text: each value with its tag, in the shortest encoding
abbrev mutual
  pub datum_text : Datum → List ℕ
  datum_text (structure parts) = element (constructed 2) (data_text parts)
  datum_text (truth value) = element (context 3) (truth_octets value)
  datum_text (bits value count) = element (context 4) (bit_string_octets value count)
  datum_text (integer value) = element (context 5) (integer_octets value)
  datum_text (unsigned value) = element (context 6) (integer_octets value)
  datum_text (octets value) = element (context 9) value
  datum_text (text value) = element (context 10) value
  datum_text (utc value) = element (context 17) value
  datum_text (other tag value) = element tag value

  pub data_text : Data → List ℕ
  data_text no_data = []
  data_text (datum first later) = datum_text first ++ data_text later

-- ---- IEC 61850-8-1 BasicTypes: the data of a leaf

-- the octet with the two bits of a position (IEC 61850-7-3, Dbpos)
abbrev pub position_octet : Dbpos → ℕ
position_octet position.Intermediate = 0x00
position_octet position.Off = 0x40
position_octet position.On = 0x80
position_octet position.Bad = 0xC0

-- the thirteen bits of a quality: the validity is the first two (IEC 61850-8-1, the mapping of
-- Quality)
abbrev pub quality_octet : Quality → ℕ
quality_octet quality.Good = 0x00
quality_octet quality.Invalid = 0x40

-- a leaf's value as data
abbrev pub leaf_datum : Leaf → Datum
leaf_datum (leaf.Truth value) = truth value
leaf_datum (leaf.Dbpos value) = bits (position_octet value ∷ []) 2
leaf_datum (leaf.Quality value) = bits (quality_octet value ∷ 0 ∷ []) 13
leaf_datum (leaf.Int8 value) = integer value
leaf_datum (leaf.Int32 value) = integer value
leaf_datum (leaf.Unsigned8 value) = unsigned (pos value)
leaf_datum (leaf.Unsigned32 value) = unsigned (pos value)
leaf_datum (leaf.Float number) = other (context 7) (float_octets number)
leaf_datum (leaf.Octets value) = octets value
leaf_datum (leaf.Reference value) = text value
leaf_datum (leaf.Text value) = text value
leaf_datum (leaf.Utc ms) = utc (utc_octets ms)
