-- Texts are BER.
use Rattle.std.proofs.Common.{ℕ, ◌<◌, List, length, arith}
use Rattle.bay_ber.specs.declared.tag.Tag.{Tag}
use Rattle.bay_ber.specs.Spelling.{Spells}
use Rattle.bay_ber.specs.Writing.{element}
use Rattle.bay_ber.proofs.WriteLemmas.{element-spells}
use Rattle.bay_ber.specs.Tags.{context, constructed}
use Rattle.bay_mms.specs.Data.{Datum, structure, truth, bits, integer, unsigned, octets, text, utc, other, datum_text}
use Rattle.bay_mms.specs.Laws.{IsOneValue, datum_tag, datum_content}
use Rattle.bay_ber.proofs.SheetLemmas.{content-less}

spelled : (tag : Tag) (content : List ℕ) → tag.number < 31
    → length (element tag content) < 4294967296 → Spells (element tag content) tag content
spelled tag content low short =
    element-spells tag content low (omega (arith, content-less tag content))

pub datum-spells : (d : Datum) → (datum_tag d).number < 31 → length (datum_text d) < 4294967296
    → Spells (datum_text d) (datum_tag d) (datum_content d)
datum-spells (structure parts) low short = spelled (constructed 2) _ (omega arith) short
datum-spells (truth value) low short = spelled (context 3) _ (omega arith) short
datum-spells (bits value count) low short = spelled (context 4) _ (omega arith) short
datum-spells (integer value) low short = spelled (context 5) _ (omega arith) short
datum-spells (unsigned value) low short = spelled (context 6) _ (omega arith) short
datum-spells (octets value) low short = spelled (context 9) value (omega arith) short
datum-spells (text value) low short = spelled (context 10) value (omega arith) short
datum-spells (utc value) low short = spelled (context 17) value (omega arith) short
datum-spells (other tag value) low short = spelled tag value low short

-- so it is one value
pub one-value : (tag : Tag) (content : List ℕ) → tag.number < 31
    → length (element tag content) < 4294967296 → IsOneValue (element tag content) tag
one-value tag content low short =
    record { content = content; spelled = spelled tag content low short }
