-- How long errors and rejects are.
use Rattle.std.proofs.Common.{◌≡◌, ℕ, pos, ◌≤◌, Option, Some, None, ◌++◌, length, refl, arith}
use Rattle.std.proofs.lemmas.List.{length-append}
use Rattle.bay_ber.specs.Writing.{element, integer_octets, length_octets}
use Rattle.bay_ber.specs.EncoderBuffers.{text_within_limit}
use Rattle.bay_ber.proofs.SheetLemmas.{fits}
use Rattle.bay_ber.proofs.SizeLemmas.{length-element, length-integer}
use Rattle.bay_ber.specs.Tags.{context, constructed}
use Rattle.bay_mms.specs.Responses.{class_text, error_text, id_text, reason_text, reject_text, conclude_response_text}
use Rattle.bay_mms.specs.declared.response.ErrorClass.{ErrorClass}
use Rattle.bay_mms.specs.declared.response.ErrorClass.TheVariants.{NoSuchObject, Resource}
use Rattle.bay_mms.specs.declared.response.RejectReason.{RejectReason}
use Rattle.bay_mms.specs.declared.response.RejectReason.TheVariants.{UnrecognizedService, InvalidPdu}

class-short : (class : ErrorClass) → length (class_text class) ≤ 14
class-short NoSuchObject = length-integer (context 7) (pos 2)
class-short Resource = length-integer (context 3) (pos 0)

pub error_short : (id : ℕ) (class : ErrorClass) → length (error_text id class) ≤ 60
error_short id class =
    let number = element (context 0) (integer_octets (pos id)) in
    let inner = element (constructed 0) (class_text class) in
    let reason = element (constructed 2) inner in
    omega (
      arith,
      length-element (constructed 2) (number ++ reason),
      length-append number reason,
      length-element (constructed 2) inner,
      length-element (constructed 0) (class_text class),
      class-short class,
      length-integer (context 0) (pos id),
    )

id-short : (id : Option ℕ) → length (id_text id) ≤ 14
id-short None = omega arith
id-short (Some id) = length-integer (context 0) (pos id)

reason-short : (reason : RejectReason) → length (reason_text reason) ≤ 14
reason-short UnrecognizedService = length-integer (context 1) (pos 1)
reason-short InvalidPdu = length-integer (context 5) (pos 1)

pub reject_short : (id : Option ℕ) (reason : RejectReason) → length (reject_text id reason) ≤ 60
reject_short id reason =
    omega (
      arith,
      length-element (constructed 4) (id_text id ++ reason_text reason),
      length-append (id_text id) (reason_text reason),
      id-short id,
      reason-short reason,
    )

-- ---- so they are held

pub error_within : (id : ℕ) (class : ErrorClass)
    → text_within_limit 60 (error_text id class) ≡ Some (error_text id class)
error_within id class = fits 60 (error_text id class) (error_short id class)

pub reject_within : (id : Option ℕ) (reason : RejectReason)
    → text_within_limit 60 (reject_text id reason) ≡ Some (reject_text id reason)
reject_within id reason = fits 60 (reject_text id reason) (reject_short id reason)

pub concluded_within : text_within_limit 2 conclude_response_text ≡ Some conclude_response_text
unfolding element length_octets
concluded_within = refl
