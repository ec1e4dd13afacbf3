-- How long the answer to an initiate is.
use Rattle.std.proofs.Common.{◌≡◌, ℕ, ℤ, pos, ◌+◌, ◌*◌, ◌/◌, ◌≤◌, Option, Some, None, List, [], ◌∷◌, ◌++◌, length, arith}
use Rattle.std.proofs.lemmas.List.{length-append}
use Rattle.bay_ber.specs.declared.tag.Tag.{Tag}
use Rattle.bay_ber.specs.Writing.{element, integer_octets, bit_string_octets}
use Rattle.bay_ber.specs.EncoderBuffers.{text_within_limit}
use Rattle.bay_ber.proofs.SheetLemmas.{fits}
use Rattle.bay_ber.proofs.SizeLemmas.{length-element, length-integer, length-bit_octets}
use Rattle.bay_mms_initiate.specs.declared.initiate.AgreedLimits.{AgreedLimits}
use Rattle.bay_ber.specs.Tags.{context, constructed}
use Rattle.bay_mms_initiate.specs.InitiateResponse.{nesting_text, limits_text, parameters_text, services_text, detail_text, initiate_response_text}

bits-short : (tag : Tag) (octets : List ℕ) (count most : ℕ) → count ≤ 8 * length octets
    → count ≤ 100 → count ≤ 8 * most
    → length (element tag (bit_string_octets octets count)) ≤ most + 7
bits-short tag octets count most held few room =
    omega (
      arith,
      length-element tag (bit_string_octets octets count),
      length-bit_octets octets count held (omega arith),
    )

nesting-short : (nesting : Option ℤ) → length (nesting_text nesting) ≤ 14
nesting-short None = omega arith
nesting-short (Some nesting) = length-integer (context 3) nesting

limits-short : (a : AgreedLimits) → length (limits_text a) ≤ 56
limits-short a =
    let size = element (context 0) (integer_octets (pos a.size)) in
    let calling = element (context 1) (integer_octets (pos a.calling)) in
    let called = element (context 2) (integer_octets (pos a.called)) in
    omega (
      arith,
      length-append size (calling ++ (called ++ nesting_text a.nesting)),
      length-append calling (called ++ nesting_text a.nesting),
      length-append called (nesting_text a.nesting),
      length-integer (context 0) (pos a.size),
      length-integer (context 1) (pos a.calling),
      length-integer (context 2) (pos a.called),
      nesting-short a.nesting,
    )

parameters-short : (n : ℕ) → length (parameters_text n) ≤ 9
parameters-short n =
    bits-short (context 1) (n / 32 * 32 ∷ 0 ∷ []) 11 2 (omega arith) (omega arith) (omega arith)

services-short : length services_text ≤ 18
services-short =
    bits-short (context 2) (0x6E ∷ 0 ∷ 0 ∷ 0 ∷ 0 ∷ 0 ∷ 0 ∷ 0 ∷ 0 ∷ 0x01 ∷ 0x10 ∷ []) 85 11
    (omega arith) (omega arith) (omega arith)

detail-short : (n : ℕ) → length (detail_text n) ≤ 41
detail-short n =
    omega (
      arith,
      length-append (element (context 0) (integer_octets (pos 1)))
          (parameters_text n ++ services_text),
      length-append (parameters_text n) services_text,
      length-integer (context 0) (pos 1),
      parameters-short n,
      services-short,
    )

pub agreed_short : (a : AgreedLimits) → length (initiate_response_text a) ≤ 200
agreed_short a =
    let detail = element (constructed 4) (detail_text a.parameters) in
    omega (
      arith,
      length-element (constructed 9) (limits_text a ++ detail),
      length-append (limits_text a) detail,
      length-element (constructed 4) (detail_text a.parameters),
      limits-short a,
      detail-short a.parameters,
    )

pub agreed_within : (a : AgreedLimits)
    → text_within_limit 200 (initiate_response_text a) ≡ Some (initiate_response_text a)
agreed_within a = fits 200 (initiate_response_text a) (agreed_short a)
