-- The text of data is spelled as these data.
use Rattle.std.proofs.Common.{◌≡◌, ℕ, zero, suc, ◌<◌, ◌≤◌, false, List, [], ◌∷◌, length, refl, ap, subst, inl, arith}
use Rattle.std.proofs.lemmas.List.{length-append}
use Rattle.std.proofs.lemmas.Bool.{eq-eqb}
use Rattle.std.proofs.Math.Nat.{le-max_left, le-max_right}
use Rattle.bay_ber.specs.declared.tag.Tag.{Tag}
use Rattle.bay_ber.specs.Content.{IsBits, BitString}
use Rattle.bay_ber.specs.Forms.{Pairwise}
use Rattle.bay_ber.specs.Values.{Part, value, SpellAll}
use Rattle.bay_ber.specs.Writing.{bit_string_octets}
use Rattle.bay_ber.proofs.FormLemmas.{choice-later}
use Rattle.bay_ber.proofs.WriteLemmas.{truth-is, integer-is, bit-string-is}
use Rattle.bay_ber.specs.Tags.{same_tag, context, constructed}
use Rattle.bay_mms.specs.Data.{Datum, Data, structure, truth, bits, integer, unsigned, octets, text, utc, other, no_data, datum, datum_text, data_text}
use Rattle.bay_mms.specs.Grammar.{string, simple, datum_at}
use Rattle.bay_mms.specs.Views.{data_before}
use Rattle.bay_mms.specs.Laws.{IsMinimalBits, IsPlain, ArePlain, datum_tag, datum_content, depth_of, depth_in}
use Rattle.bay_ber.proofs.SheetLemmas.{content-less}
use Rattle.bay_mms.proofs.LawLemmas.{datum-spells}

-- tags of one octet
tag-low : (d : Datum) → IsPlain d → (datum_tag d).number < 31
tag-low (other tag content) plain = absurd plain
tag-low d plain = omega arith

held-is : (held : List ℕ) (count : ℕ) → IsMinimalBits held count
    → IsBits (bit_string_octets held count) held count
held-is held count h =
    subst (λ (xs : List ℕ). IsBits (bit_string_octets held count) xs count) h.whole
    (bit-string-is held count h.enough h.short)

-- strings and moments
string-plain : (tag : Tag) (content : List ℕ) (d : Datum) → same_tag tag (context 3) ≡ false
    → same_tag tag (context 4) ≡ false → same_tag tag (context 5) ≡ false
    → same_tag tag (context 6) ≡ false → string.Spells (value tag content) d
    → simple.Spells (value tag content) d
unfolding simple
string-plain tag content d n3 n4 n5 n6 is =
    choice-later n3 (choice-later n4 (choice-later n5 (choice-later n6 is)))

-- data that are no structure
simple-plain : (d : Datum) → IsPlain d → same_tag (datum_tag d) (constructed 2) ≡ false
    → simple.Spells (value (datum_tag d) (datum_content d)) d
unfolding simple string
simple-plain (structure parts) plain apart = absurd cc
simple-plain (truth v) plain apart = inl (_, refl, (v, truth-is v, refl))
simple-plain (bits held count) plain apart =
    let b : BitString = record { octets = held; count = count } in
    choice-later refl (inl (_, refl, (b, held-is held count plain, refl)))
simple-plain (integer z) plain apart =
    choice-later refl (choice-later refl (inl (_, refl, (z, integer-is z plain, refl))))
simple-plain (unsigned z) plain apart =
    choice-later refl (choice-later refl (choice-later refl
    (inl (_, refl, (z, integer-is z plain, refl)))))
simple-plain (octets o) plain apart =
    string-plain (context 9) o _ refl refl refl refl (inl (_, refl, (o, refl, refl)))
simple-plain (text o) plain apart =
    string-plain (context 10) o _ refl refl refl refl
    (choice-later refl (inl (_, refl, (o, refl, refl))))
simple-plain (utc o) plain apart =
    string-plain (context 17) o _ refl refl refl refl (choice-later refl (choice-later refl
    (inl (_, refl, (o, refl, rw (eq-eqb (length o) 8 plain) refl)))))
simple-plain (other tag content) plain apart = absurd plain

some-deep : (d : Datum) → 0 < depth_of d
some-deep (structure parts) = omega arith
some-deep d = omega arith

mutual
  unfolding datum_at

  pub plain-read : (d : Datum) (depth : ℕ) → IsPlain d → length (datum_text d) < 4294967296
      → depth_of d ≤ depth → (datum_at depth).Spells (value (datum_tag d) (datum_content d)) d
  plain-read d zero plain short deep = absurd (omega (arith, some-deep d))
  plain-read (structure parts) (suc depth) plain short deep =
      let read =
      plain-list parts depth plain (omega (arith, content-less (constructed 2) (data_text parts)))
      (omega arith) in
      inl (data_text parts, refl, (read.0, (read.1, read.2, read.3), ap structure read.4))
  plain-read (other tag content) (suc depth) plain short deep = absurd plain
  plain-read d (suc depth) plain short deep = choice-later refl (simple-plain d plain refl)

  plain-list : (ds : Data) (depth : ℕ) → ArePlain ds → length (data_text ds) < 4294967296
      → depth_in ds ≤ depth → (xs : List Datum) × (pieces : List Part)
      × SpellAll (data_text ds) pieces × Pairwise (datum_at depth).Spells pieces xs
      × (data_before xs no_data ≡ ds)
  plain-list no_data depth plain short deep = ([], [], refl, tt, refl)
  plain-list (datum d ds) depth plain short deep =
      let sum = length-append (datum_text d) (data_text ds) in
      let here : length (datum_text d) < 4294967296 = omega arith in
      let first = le-max_left (depth_of d) (depth_in ds) in
      let second = le-max_right (depth_of d) (depth_in ds) in
      let later = plain-list ds depth plain.1 (omega arith) (omega arith) in (
        d ∷ later.0,
        value (datum_tag d) (datum_content d) ∷ later.1,
        (datum_text d, data_text ds, refl, datum-spells d (tag-low d plain.0) here, later.2),
        (plain-read d depth plain.0 here (omega arith), later.3),
        ap (datum d) later.4,
      )
