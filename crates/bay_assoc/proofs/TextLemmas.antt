-- How long the answers are.
use Rattle.std.proofs.Common.{◌≡◌, ℕ, pos, ◌+◌, ◌*◌, ◌<◌, ◌≤◌, ◌==◌, ◌||◌, Bool, true, false, cond, Option, Some, None, List, [], ◌∷◌, ◌++◌, length, get_or, drop, refl, sym, ap, ◌∙◌, arith}
use Rattle.std.proofs.lemmas.List.{drop_all, drop_more, length-append}
use Rattle.std.specs.Borrow.{Bor}
use Rattle.std.specs.Option.{ForSome, option_map}
use Rattle.bay_ber.specs.declared.tag.Tag.{Tag}
use Rattle.bay_ber.specs.EncoderBuffers.{EncoderBuffer, buffer_with, text_within_limit}
use Rattle.bay_ber.specs.Writing.{element, integer_octets, length_octets}
use Rattle.bay_ber.proofs.SheetLemmas.{put_nil, put-put, fits}
use Rattle.bay_ber.proofs.SizeLemmas.{length-element, length-integer}
use Rattle.bay_ber.specs.Tags.{context, constructed, sequence, int_tag}
use Rattle.bay_assoc.specs.Tags.{oid_tag, set_tag, external_tag, application, mms_application}
use Rattle.bay_assoc.specs.Texts.{context_value_text, user_text, result_text, results_text, selector_text, cpa_text, aare_text, rlre_text}
use Rattle.bay_assoc.specs.declared.presentation.Context.{Context}
use Rattle.bay_assoc.specs.declared.receive.ContextIds.{ContextIds}

-- ---- the results, one behind another

pub each-next : (writer new whole : EncoderBuffer) (a : ContextIds) (cs : List Context) (i : ℕ)
    (d : Context)
    → i < length cs → new ≡ buffer_with writer (result_text a (get_or cs i d))
    → buffer_with writer (results_text a (drop i cs)) ≡ whole
    → buffer_with new (results_text a (drop (i + 1) cs)) ≡ whole
each-next writer new whole a cs i d lt added all =
    let rest = results_text a (drop (i + 1) cs) in
    ap (λ (s : EncoderBuffer). buffer_with s rest) added
    ∙ put-put writer (result_text a (get_or cs i d)) rest
    ∙ ap (λ (xs : List Context). buffer_with writer (results_text a xs)) (sym (drop_more cs i d lt))
    ∙ all

pub each-end : (writer whole : EncoderBuffer) (a : ContextIds) (cs : List Context) (i : ℕ)
    → length cs ≤ i
    → buffer_with writer (results_text a (drop i cs)) ≡ whole → writer ≡ whole
each-end writer whole a cs i past all =
    sym (put_nil writer) ∙ ap (λ (xs : List Context). buffer_with writer (results_text a xs))
    (sym (drop_all i cs past)) ∙ all

-- ---- lengths

carried-short : (tag : Tag) (id : ℕ) (value : List ℕ)
    → length (context_value_text tag id value) ≤ length value + 26
carried-short tag id value =
    let number = element int_tag (integer_octets (pos id)) in
    let held = element (constructed 0) value in
    omega (
      arith,
      length-element tag (number ++ held),
      length-append number held,
      length-integer int_tag (pos id),
      length-element (constructed 0) value,
    )

pub user-short : (id : ℕ) (value : List ℕ) → length (user_text id value) ≤ length value + 32
user-short id value =
    omega (
      arith,
      length-element (application 1) (context_value_text sequence id value),
      carried-short sequence id value,
    )

abbrev accepted : List ℕ
accepted = 0x80 ∷ 0x01 ∷ 0x00 ∷ 0x81 ∷ 0x02 ∷ 0x51 ∷ 0x01 ∷ []

abbrev rejected : List ℕ
rejected = 0x80 ∷ 0x01 ∷ 0x02 ∷ []

chosen-short : (b : Bool) → length (cond b accepted rejected) ≤ 7
chosen-short true = omega arith
chosen-short false = omega arith

one-short : (a : ContextIds) (c : Context) → length (result_text a c) ≤ 13
one-short a c =
    let b = (c.id == a.acse) || (c.id == a.mms) in
    omega (arith, length-element sequence (cond b accepted rejected), chosen-short b)

results-short : (a : ContextIds) (cs : List Context)
    → length (results_text a cs) ≤ 13 * length cs
results-short a [] = omega arith
results-short a (c ∷ cs) =
    omega (
      arith,
      results-short a cs,
      length-append (result_text a c) (results_text a cs),
      one-short a c,
    )

selector-short : (called : Option (Bor (List ℕ)))
    → ForSome called (λ octets. length octets.now ≤ 16)
    → length (selector_text (option_map (λ octets. octets.now) called)) ≤ 22
selector-short None few = omega arith
selector-short (Some octets) few =
    omega (arith, few octets refl, length-element (context 3) octets.now)

pub connected_short : (called : Option (Bor (List ℕ))) (cs : List Context) (a : ContextIds)
    (value : List ℕ) → ForSome called (λ octets. length octets.now ≤ 16) → length cs ≤ 16
    → length value ≤ 271
    → length (cpa_text (option_map (λ octets. octets.now) called) cs a value) ≤ 560
connected_short called cs a value few most short =
    let mode = element (constructed 0) (0x80 ∷ 0x01 ∷ 0x01 ∷ []) in
    let list = element (constructed 5) (results_text a cs) in
    let user = user_text a.acse value in
    let selector = selector_text (option_map (λ octets. octets.now) called) in
    let normal = element (constructed 2) (selector ++ (list ++ user)) in
    omega (
      arith,
      length-element set_tag (mode ++ normal),
      length-append mode normal,
      length-element (constructed 0) (0x80 ∷ 0x01 ∷ 0x01 ∷ []),
      length-element (constructed 2) (selector ++ (list ++ user)),
      length-append selector (list ++ user),
      length-append list user,
      length-element (constructed 5) (results_text a cs),
      results-short a cs,
      selector-short called few,
      user-short a.acse value,
    )

oid-seven : length (element oid_tag mms_application) ≡ 7
unfolding element length_octets
oid-seven = refl

pub associated_short : (mms : ℕ) (pdu : List ℕ) → length pdu ≤ 200
    → length (aare_text mms pdu) ≤ 271
associated_short mms pdu short =
    let name = element (constructed 1) (element oid_tag mms_application) in
    let done = element (constructed 2) (0x02 ∷ 0x01 ∷ 0x00 ∷ []) in
    let source = element (constructed 3) (0xA1 ∷ 0x03 ∷ 0x02 ∷ 0x01 ∷ 0x00 ∷ []) in
    let information = element (constructed 30) (context_value_text external_tag mms pdu) in
    omega (
      arith,
      length-element (application 1) (name ++ (done ++ (source ++ information))),
      length-append name (done ++ (source ++ information)),
      length-append done (source ++ information),
      length-append source information,
      length-element (constructed 1) (element oid_tag mms_application),
      oid-seven,
      length-element (constructed 2) (0x02 ∷ 0x01 ∷ 0x00 ∷ []),
      length-element (constructed 3) (0xA1 ∷ 0x03 ∷ 0x02 ∷ 0x01 ∷ 0x00 ∷ []),
      length-element (constructed 30) (context_value_text external_tag mms pdu),
      carried-short external_tag mms pdu,
    )

pub released_short : (acse : ℕ) → length (user_text acse rlre_text) ≤ 41
released_short acse =
    omega (
      arith,
      user-short acse rlre_text,
      length-element (application 3) (0x80 ∷ 0x01 ∷ 0x00 ∷ []),
    )

-- ---- so they are held

pub connected_within : (called : Option (Bor (List ℕ))) (cs : List Context) (a : ContextIds)
    (value : List ℕ) → ForSome called (λ octets. length octets.now ≤ 16) → length cs ≤ 16
    → length value ≤ 271
    → text_within_limit 560 (cpa_text (option_map (λ octets. octets.now) called) cs a value)
    ≡ Some (cpa_text (option_map (λ octets. octets.now) called) cs a value)
connected_within called cs a value few most short =
    fits 560 (cpa_text (option_map (λ octets. octets.now) called) cs a value)
    (connected_short called cs a value few most short)

pub associated_within : (mms : ℕ) (pdu : List ℕ) → length pdu ≤ 200
    → text_within_limit 271 (aare_text mms pdu) ≡ Some (aare_text mms pdu)
associated_within mms pdu short =
    fits 271 (aare_text mms pdu) (associated_short mms pdu short)

pub released_within : (acse : ℕ)
    → text_within_limit 41 (user_text acse rlre_text) ≡ Some (user_text acse rlre_text)
released_within acse = fits 41 (user_text acse rlre_text) (released_short acse)
