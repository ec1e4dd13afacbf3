-- What is sent as data is heard as the same.
use Rattle.std.proofs.Common.{◌≡◌, ℕ, pos, ◌+◌, ◌<◌, ◌^◌, FitsSigned, List, [], ◌∷◌, ◌++◌, length, Option, Some, Ok, refl, sym, ap, arith}
use Rattle.std.specs.Int.{w64}
use Rattle.std.proofs.lemmas.Bool.{eq-eqb}
use Rattle.std.proofs.lemmas.List.{append-nil, length-append}
use Rattle.bay_ber.specs.declared.tag.Tag.{Tag}
use Rattle.bay_base.specs.Options.{◌>>=◌}
use Rattle.bay_ber.specs.Content.{integer_in}
use Rattle.bay_ber.specs.Writing.{element, integer_octets}
use Rattle.bay_ber.specs.Values.{Part, only_one, value_in, at_most_five, few_in}
use Rattle.bay_ber.specs.Values as ber
use Rattle.bay_ber.proofs.ContentLemmas.{integer-again}
use Rattle.bay_ber.proofs.ListingLemmas.{values-again}
use Rattle.bay_ber.proofs.SizeLemmas.{length-element, length-integer_octets}
use Rattle.bay_ber.proofs.WriteLemmas.{element-spells, integer-is}
use Rattle.bay_ber.specs.Tags.{constructed, sequence, int_tag}
use Rattle.bay_assoc.specs.Tags.{application}
use Rattle.bay_assoc.specs.declared.receive.AssociationTerms.{AssociationTerms}
use Rattle.bay_assoc.specs.declared.receive.Phase.{Phase}
use Rattle.bay_assoc.specs.declared.receive.Phase.TheVariants.{Open}
use Rattle.bay_assoc.specs.Presentation.{context_value_parts, pdv_list, user_part, user_data}
use Rattle.bay_assoc.specs.Session.{spdu}
use Rattle.bay_assoc.specs.Texts.{user_text, transfer_text}
use Rattle.bay_assoc.specs.TsduMeanings.{mms, data_transfer, verdict, tsdu_meaning}

-- one value, and two
pub value-element : (tag : Tag) (content : List ℕ) → tag.number < 31 → length content < 2 ^ 32
    → value_in (element tag content) ≡ Some (record { tag = tag; content = content })
value-element tag content low short =
    let part : Part = record { tag = tag; content = content } in
    ap (λ (o : Option (List Part)). o >>= only_one)
    (values-again (element tag content) (part ∷ []) (
      element tag content,
      [],
      sym (append-nil (element tag content)),
      element-spells tag content low short,
      refl,
    ))

pub two-elements : (one two : Tag) (first second : List ℕ) → one.number < 31 → two.number < 31
    → length first < 2 ^ 32 → length second < 2 ^ 32
    → few_in (element one first ++ element two second)
    ≡ Some (record { tag = one; content = first } ∷ record { tag = two; content = second } ∷ [])
two-elements one two first second a b c d =
    let p : Part = record { tag = one; content = first } in
    let q : Part = record { tag = two; content = second } in
    let x = element one first in
    let y = element two second in
    ap (λ (o : Option (List Part)). o >>= at_most_five)
    (values-again (x ++ y) (p ∷ q ∷ []) (
      x,
      y,
      refl,
      element-spells one first a c,
      (y, [], sym (append-nil y), element-spells two second b d, refl),
    ))

-- a context's identifier is read back
id-again : (id : ℕ) → id < 65536 → integer_in (integer_octets (pos id)) ≡ Some (pos id)
id-again id low =
    integer-again (integer_octets (pos id)) (pos id) (integer-is (pos id) (fits id low))
  where
    fits : (id : ℕ) → id < 65536 → FitsSigned w64 (pos id)
    fits id low = omega arith

carried-again : (id : ℕ) (value : List ℕ) → id < 65536
    → context_value_parts.reads
    (ber.value int_tag (integer_octets (pos id)) ∷ ber.value (constructed 0) value ∷ [])
    ≡ Some (record { id = pos id; value = value })
unfolding context_value_parts
carried-again id value low = rw (id-again id low) refl

pub user-again : (id : ℕ) (value : List ℕ) → id < 65536 → length value < 2 ^ 31
    → user_data.reads (user_text id value) ≡ Some (record { id = pos id; value = value })
unfolding user_data user_part pdv_list
user-again id value low short =
    let number = integer_octets (pos id) in
    let inner = element int_tag number ++ element (constructed 0) value in
    let few : length inner < 2 ^ 31 + 20 =
    omega (
      arith,
      length-append (element int_tag number) (element (constructed 0) value),
      length-element int_tag number,
      length-element (constructed 0) value,
      length-integer_octets (pos id),
    ) in
    let middle = element sequence inner in
    let some : length middle < 2 ^ 32 = omega (arith, length-element sequence inner) in
    let a = value-element (application 1) middle (omega arith) some in
    let b = value-element sequence inner (omega arith) (omega arith) in
    let d = two-elements int_tag (constructed 0) number value (omega arith) (omega arith)
    (omega (arith, length-integer_octets (pos id))) (omega arith) in
    rw (a, b, d) (carried-again id value low)

pub transfer-heard : (terms : AssociationTerms) (pdu : List ℕ)
    → user_data.reads (user_text terms.contexts.mms pdu)
    ≡ Some (record { id = pos terms.contexts.mms; value = pdu })
    → tsdu_meaning (Open terms) (transfer_text (user_text terms.contexts.mms pdu))
    ≡ Ok (mms pdu, Open terms)
unfolding verdict spdu data_transfer
transfer-heard terms pdu read = rw (read, eq-eqb terms.contexts.mms terms.contexts.mms refl) refl

pub sent-is-heard : (phase : Phase) (terms : AssociationTerms) (front pdu : List ℕ)
    → phase ≡ Open terms → terms.contexts.mms < 65536 → length pdu < 2 ^ 31
    → front ++ pdu ≡ transfer_text (user_text terms.contexts.mms pdu)
    → tsdu_meaning phase (front ++ pdu) ≡ Ok (mms pdu, phase)
sent-is-heard phase terms front pdu is low short sent =
    rw (is, sent) (transfer-heard terms pdu (user-again terms.contexts.mms pdu low (omega arith)))
