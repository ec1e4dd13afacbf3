-- The PDU of MMS that is read in octets that are sent is the one that they send.
use Rattle.std.proofs.Common.{◌≡◌, ◌≤◌, ◌<◌, ◌-◌, ℕ, pos, List, [], ◌∷◌, ◌++◌, length, Option, Some, None, IsSome, unwrap_or, refl, ap, sym, ◌∙◌, arith, append-nil, length-append}
use Rattle.bay_base.specs.Options.{◌>>=◌}
use Rattle.bay_ber.specs.Values.{Part, content_with_tag, value, value_in, values_in}
use Rattle.bay_ber.specs.Writing.{element, integer_octets}
use Rattle.bay_ber.specs.declared.tag.Tag.{Tag}
use Rattle.bay_ber.proofs.BackLemmas.{one-read}
use Rattle.bay_ber.proofs.ListingLemmas.{values-again}
use Rattle.bay_ber.proofs.SizeLemmas.{length-element, length-integer_octets}
use Rattle.bay_ber.proofs.WriteLemmas.{element-spells}
use Rattle.bay_ber.specs.Tags.{constructed, int_tag, sequence}
use Rattle.bay_transport.specs.Doings.{Run}
use Rattle.bay_transport.specs.Wrap.{full_tpdus, tpdus_of}
use Rattle.bay_transport.proofs.WrapLemmas.{run-data_frames}
use Rattle.bay_assoc.specs.Receives.{association_terms}
use Rattle.bay_assoc.specs.Session.{Spdu, spdu, spdu_in, transfer}
use Rattle.bay_assoc.specs.Tags.{application}
use Rattle.bay_assoc.specs.Texts.{transfer_text, user_text}
use Rattle.bay_assoc.specs.declared.receive.Phase.{Phase}
use Rattle.bay_assoc.specs.declared.receive.Phase.TheVariants.{Idle, Open, Over, Failed}
use Rattle.bay_connection.specs.ConnectionStates.{Terms, octets_to_send, octets_to_send_in}
use Rattle.bay_mms_services.specs.ObservedEntries.{part_after_id}
use Rattle.bay_device.specs.ObservedRuns.{only_tsdu, pdu_in, tsdu_in, user_data, value_of}
use Rattle.bay_device.proofs.TalkLemmas.{IsOpen}

-- the TSDU in data TPDUs of any size
tsdu-read : (size : ℕ) (tsdu : List ℕ) → length tsdu ≤ 70000
    → tsdu_in (tpdus_of size tsdu) ≡ Some tsdu
tsdu-read size tsdu few =
    ap (λ (r : Run). only_tsdu r.doings)
    (run-data_frames 0 0 (size - 3) (full_tpdus (size - 3) tsdu) [] tsdu few)

spdu-read : (user : List ℕ) → spdu_in (transfer_text user) ≡ Some (transfer user)
unfolding spdu
spdu-read user = refl

one-value : (tag : Tag) (content : List ℕ) → tag.number < 31 → length content < 4294967296
    → value_in (element tag content) ≡ Some (value tag content)
one-value tag content small short =
    one-read (element tag content) (value tag content) (
      element tag content,
      [],
      sym (append-nil (element tag content)),
      element-spells tag content small short,
      refl,
    )

two-values : (one two : Tag) (first second : List ℕ) → one.number < 31 → two.number < 31
    → length first < 4294967296 → length second < 4294967296
    → values_in (element one first ++ element two second)
    ≡ Some (value one first ∷ value two second ∷ [])
two-values one two first second a b c d =
    let x : List ℕ = element one first in
    let y : List ℕ = element two second in
    values-again (x ++ y) (value one first ∷ value two second ∷ []) (
      x,
      y,
      refl,
      element-spells one first a c,
      (y, [], sym (append-nil y), element-spells two second b d, refl),
    )

value-read : (id : ℕ) (pdu : List ℕ) → length pdu ≤ 65000 → value_of (user_text id pdu) ≡ Some pdu
value-read id pdu short =
    let number : List ℕ = integer_octets (pos id) in
    let inner : List ℕ = element int_tag number ++ element (constructed 0) pdu in
    let middle : List ℕ = element sequence inner in
    let n = length-integer_octets (pos id) in
    let size : length inner < 100000 =
    omega (
      arith,
      short,
      n,
      length-append (element int_tag number) (element (constructed 0) pdu),
      length-element int_tag number,
      length-element (constructed 0) pdu,
    ) in
    let some : length middle < 200000 = omega (arith, size, length-element sequence inner) in
    ap (λ (o : Option Part). o >>= content_with_tag (application 1) >>= value_in
    >>= content_with_tag sequence
    >>= values_in >>= part_after_id >>= content_with_tag (constructed 0))
    (one-value (application 1) middle (omega arith) (omega (arith, some)))
    ∙ ap (λ (o : Option Part). o >>= content_with_tag sequence >>= values_in >>= part_after_id
    >>= content_with_tag (constructed 0))
    (one-value sequence inner (omega arith) (omega (arith, size)))
    ∙ ap (λ (o : Option (List Part)). o >>= part_after_id >>= content_with_tag (constructed 0))
    (two-values int_tag (constructed 0) number pdu (omega arith) (omega arith) (omega (arith, n))
    (omega (arith, short)))

text-size : (id : ℕ) (pdu : List ℕ) → length pdu ≤ 65000
    → length (transfer_text (user_text id pdu)) ≤ 70000
text-size id pdu short =
    let number : List ℕ = integer_octets (pos id) in
    let inner : List ℕ = element int_tag number ++ element (constructed 0) pdu in
    let middle : List ℕ = element sequence inner in
    omega (
      arith,
      short,
      length-integer_octets (pos id),
      length-append (element int_tag number) (element (constructed 0) pdu),
      length-element int_tag number,
      length-element (constructed 0) pdu,
      length-element sequence inner,
      length-element (application 1) middle,
    )

read-in : (size : Option ℕ) (phase : Phase) (pdu : List ℕ) → IsSome size → IsOpen phase
    → length pdu ≤ 65000 → pdu_in (octets_to_send_in size (association_terms phase) pdu) ≡ pdu
read-in None phase pdu some is short = absurd (cc)
read-in (Some n) Idle pdu some is short = absurd is
read-in (Some n) (Open terms) pdu some is short =
    let user : List ℕ = user_text terms.contexts.mms pdu in
    ap (λ (o : Option (List ℕ)). unwrap_or (o >>= spdu_in >>= user_data >>= value_of) [])
    (tsdu-read n (transfer_text user) (text-size terms.contexts.mms pdu short))
    ∙ ap (λ (o : Option Spdu). unwrap_or (o >>= user_data >>= value_of) []) (spdu-read user)
    ∙ ap (λ (o : Option (List ℕ)). unwrap_or o []) (value-read terms.contexts.mms pdu short)
read-in (Some n) Over pdu some is short = absurd is
read-in (Some n) Failed pdu some is short = absurd is

pub read-back : (terms : Terms) (pdu : List ℕ) → IsSome terms.size → IsOpen terms.phase
    → length pdu ≤ 65000 → pdu_in (octets_to_send terms pdu) ≡ pdu
read-back terms pdu some is short = read-in terms.size terms.phase pdu some is short
