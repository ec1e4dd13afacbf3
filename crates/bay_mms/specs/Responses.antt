-- The canonical texts of responses (ISO 9506-2).
use Rattle.std.specs.Prelude.{ℕ, pos, Bool, false, Option, Some, None, List, [], ◌∷◌, ◌++◌}
use Rattle.bay_ber.specs.Writing.{element, integer_octets, truth_octets}
use Rattle.bay_tree.specs.Rows.{IsHandle}
use Rattle.bay_mms.specs.Code.{access_code_of}
use Rattle.bay_mms.specs.declared.fault.DataAccessError.{DataAccessError}
use Rattle.bay_mms.specs.declared.response.Service.{Service}
use Rattle.bay_mms.specs.declared.response.Service.TheVariants as service
use Rattle.bay_mms.specs.declared.response.ErrorClass.{ErrorClass}
use Rattle.bay_mms.specs.declared.response.ErrorClass.TheVariants as error
use Rattle.bay_mms.specs.declared.response.RejectReason.{RejectReason}
use Rattle.bay_mms.specs.declared.response.RejectReason.TheVariants as reject
use Rattle.bay_ber.specs.Tags.{context, constructed, int_tag, visible_tag}
use Rattle.bay_mms.specs.Types.{type_text}
use Rattle.bay_mms.specs.Nodes.{type_at}

-- ---- ISO 9506-2 Confirmed-ResponsePDU: responses

-- a confirmed response: the invoke id and the service
abbrev pub confirmed_response : ℕ → List ℕ → List ℕ
confirmed_response id service =
    element (constructed 1) (element int_tag (integer_octets (pos id)) ++ service)

-- the vendor, the model and the revision of an identify response (ISO 9506-2, Identify-Response)
abbrev pub identity_text : List ℕ → List ℕ → List ℕ → List ℕ
identity_text vendor model revision =
    element (context 0) vendor ++ (element (context 1) model ++ element (context 2) revision)

-- names, one after another (ISO 9506-2, GetNameList-Response)
abbrev pub names_text : List (List ℕ) → List ℕ
names_text [] = []
names_text (name ∷ names) = element visible_tag name ++ names_text names

-- a result of a read: a text instead of the data of a row (ISO 9506-2, AccessResult)
abbrev pub text_result : List ℕ → List ℕ
text_result text = element (context 10) text

-- a result of a read or a write: the number of an error (ISO 9506-2, DataAccessError)
abbrev pub failure_result : DataAccessError → List ℕ
failure_result cause = element (context 0) (integer_octets (pos (access_code_of cause)))

-- a result of a write: success (ISO 9506-2, Write-Response)
abbrev pub success_result : List ℕ
success_result = element (context 1) []

-- the result of one variable of a write: the error, if there is one, or success (ISO 9506-2,
-- Write-Response)
abbrev pub result_text : Option DataAccessError → List ℕ
result_text None = success_result
result_text (Some cause) = failure_result cause

-- the response to a read of variables with these results (ISO 9506-2, Read-Response)
abbrev pub read_text : ℕ → List ℕ → List ℕ
read_text id results =
    confirmed_response id (element (constructed 4) (element (constructed 1) results))

-- the response to a write of variables with these results (ISO 9506-2, Write-Response)
abbrev pub write_text : ℕ → List ℕ → List ℕ
write_text id results = confirmed_response id (element (constructed 5) results)

-- ---- ISO 9506-2 ServiceError, Confirmed-ErrorPDU: errors

-- the class and number of an error: no such object is 2 of the class access, too few resources 0 of
-- the class resource
abbrev pub class_text : ErrorClass → List ℕ
class_text error.NoSuchObject = element (context 7) (integer_octets (pos 2))
class_text error.Resource = element (context 3) (integer_octets (pos 0))

-- an error response: the invoke id and the class
abbrev pub error_text : ℕ → ErrorClass → List ℕ
error_text id class =
    element (constructed 2) (element (context 0) (integer_octets (pos id))
    ++ element (constructed 2) (element (constructed 0) (class_text class)))

-- ---- ISO 9506-2 RejectPDU: rejects

-- the invoke id, if one was read
abbrev pub id_text : Option ℕ → List ℕ
id_text None = []
id_text (Some id) = element (context 0) (integer_octets (pos id))

-- the reason of a reject: an unrecognized service is 1 of confirmed requests, an invalid PDU 1 of
-- errors of a PDU
abbrev pub reason_text : RejectReason → List ℕ
reason_text reject.UnrecognizedService = element (context 1) (integer_octets (pos 1))
reason_text reject.InvalidPdu = element (context 5) (integer_octets (pos 1))

-- a reject: the invoke id, if one was read, and the reason
abbrev pub reject_text : Option ℕ → RejectReason → List ℕ
reject_text id reason = element (constructed 4) (id_text id ++ reason_text reason)

-- ---- ISO 9506-2 Conclude-ResponsePDU: the answer to a conclude

-- the answer to a conclude
abbrev pub conclude_response_text : List ℕ
conclude_response_text = element (context 12) []

-- ---- ISO 9506-2 GetNameList-Response: pages of names

-- names, and whether more follow
abbrev pub listing_text : List (List ℕ) → Bool → List ℕ
listing_text names more =
    element (constructed 0) (names_text names) ++ element (context 1) (truth_octets more)

-- the response with a page of names
abbrev pub page_text : ℕ → List (List ℕ) → Bool → List ℕ
page_text id names more = confirmed_response id (element (constructed 1) (listing_text names more))

-- ---- ISO 9506-2 ConfirmedServiceResponse: services

-- the number of a service's tag
abbrev pub service_number : Service → ℕ
service_number (service.Identify vendor model revision) = 2
service_number (service.Names names more) = 1
service_number (service.Attributes tree handle) = 6

-- the content of a service
abbrev pub content_text : Service → List ℕ
content_text (service.Identify vendor model revision) =
    identity_text vendor.now model.now revision.now
content_text (service.Names names more) = listing_text names.now more
content_text (service.Attributes tree handle) =
    element (context 0) (truth_octets false)
    ++ element (constructed 2) (type_text (type_at tree.now handle))

-- the service of a confirmed response
abbrev pub service_text : Service → List ℕ
service_text s = element (constructed (service_number s)) (content_text s)

-- The handle is one of the tree (own).
abbrev pub IsOfTree : Service → Type 0
IsOfTree (service.Attributes tree handle) = IsHandle tree.now handle
IsOfTree s = Unit {0}
