-- The result of reading octets of a client as a request.
use Rattle.std.specs.Prelude.{ℕ, Bool, true, false, not, ◌&&◌, ◌||◌, List, [], Option, Some, None, Result, Ok, Err, if◌then◌else◌}
use Rattle.bay_ber.specs.Tags.{same_tag, constructed}
use Rattle.bay_ber.specs.Values.{Part}
use Rattle.bay_ber.specs.Forms.{Form, try_map_form, form_result, one, fields, whole, tagged, done, value_then}
use Rattle.bay_mms.specs.Requests.{MmsName, ServiceRequest, read, write}
use Rattle.bay_mms.specs.Grammar.{service_request}
use Rattle.bay_mms.specs.declared.fault.Refusal.{Refusal}
use Rattle.bay_mms.specs.declared.fault.Refusal.TheVariants.{Bad}
use Rattle.bay_mms.specs.RequestViews.{request_view}
use Rattle.bay_mms.specs.RequestRelations.{Asks, AsksUnknown, AsksMany, AsksNothing}
use Rattle.bay_mms.specs.declared.request.Request.{Request}
use Rattle.bay_mms.specs.declared.fault.MmsFault.{MmsFault}
use Rattle.bay_mms.specs.declared.fault.MmsFault.TheVariants.{BadPdu, UnknownService, TooMany, OutOfMemory}

-- ---- own: results, and which octets make the code allocate

-- whether the result has no names
abbrev pub has_no_names : Result (List MmsName) Refusal → Bool
has_no_names (Ok []) = true
has_no_names other = false

-- whether the service has no variables
abbrev pub has_no_variables : Result ServiceRequest Refusal → Bool
has_no_variables (Ok (read [])) = true
has_no_variables (Ok (write [] [])) = true
has_no_variables other = false

-- the unit, if the service makes the code build a list: it is a read or a write, other than a well
-- encoded one without variables
abbrev pub needs_list : Part → Option (Unit {0})
needs_list service =
    if (same_tag service.tag (constructed 4) || same_tag service.tag (constructed 5))
    && not (has_no_variables (form_result Bad service_request service)) then Some tt else None

-- an invoke id, followed by a service that makes the code build a list
unfoldable pub list_service_parts : Form (List Part) (Part × (Unit {0} × Unit {0}))
list_service_parts = value_then whole (value_then (try_map_form needs_list whole) done)

-- a confirmed request for a service that makes the code build a list
unfoldable pub list_service_pdu : Form Part (Part × (Unit {0} × Unit {0}))
list_service_pdu = tagged (constructed 0) (fields list_service_parts)

-- Reading the octets allocates: they are a confirmed request for a read or a write, other than a
-- well encoded one without variables.
abbrev pub MayAllocate : List ℕ → Type 0
MayAllocate octets = (x : Part × (Unit {0} × Unit {0})) × (one list_service_pdu).Spells octets x

-- The result is the request that the octets encode; or the fault that they request what is not
-- served, or have too many variables; or, if neither is so, a bad PDU, with the invoke id if they
-- begin with one. `OutOfMemory` occurs only if reading them allocates.
abbrev pub IsRequestOrFault : List ℕ → Result Request MmsFault → Type 0
IsRequestOrFault octets (Ok request) = Asks (request_view request) octets
IsRequestOrFault octets (Err (UnknownService id)) = AsksUnknown id octets
IsRequestOrFault octets (Err (TooMany id)) = AsksMany id octets
IsRequestOrFault octets (Err (BadPdu known)) = AsksNothing octets known
IsRequestOrFault octets (Err OutOfMemory) = MayAllocate octets
