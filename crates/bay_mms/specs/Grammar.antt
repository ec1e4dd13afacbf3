-- How requests are encoded (ISO 9506-2, with the profile of IEC 61850-8-1), as forms, which also
-- define how they are read.
use Rattle.std.specs.Prelude.{ℕ, zero, suc, ℤ, pos, negsuc, ◌==◌, ◌&&◌, ◌||◌, Bool, true, false, not, Option, Some, None, Result, Ok, Err, List, length, map, nat_lt, if◌then◌else◌}
use Rattle.std.specs.List.{list_any}
use Rattle.bay_base.specs.Results.{◌>>=◌ as ◌>>◌}
use Rattle.bay_ber.specs.declared.tag.Class.TheVariants.{ContextSpecific}
use Rattle.bay_ber.specs.declared.tag.Tag.{Tag}
use Rattle.bay_ber.specs.Tags.{same_class, context, constructed, sequence, int_tag, visible_tag}
use Rattle.bay_ber.specs.Values.{Part}
use Rattle.bay_ber.specs.Forms.{Form, map_form, try_map_form, integer, truth, bits, octets, any_octets, empty, one, first_form, fields, each, whole, none, tagged, choice, done, value_then, maybe}
use Rattle.bay_mms_initiate.specs.Initiate.{proposal}
use Rattle.bay_mms.specs.Data as mms
use Rattle.bay_mms.specs.Data.{Datum}
use Rattle.bay_mms.specs.Views.{data_before}
use Rattle.bay_mms.specs.Requests.{MmsName, vmd, domain, association, ObjectScope, whole_vmd, in_domain, of_association, VariableSpecification, Access, variables, named_list, ServiceRequest, identify, names, attributes, read, write, MmsRequest, initiate, conclude, confirmed, Denial, unknown, many}
use Rattle.bay_mms.specs.declared.fault.Refusal.{Refusal}
use Rattle.bay_mms.specs.declared.fault.Refusal.TheVariants.{Bad, Unknown, Many}
use Rattle.bay_mms.specs.declared.fault.MmsFault.{MmsFault}
use Rattle.bay_mms.specs.declared.fault.MmsFault.TheVariants as fault

-- ---- ISO 9506-2 ObjectName: names

-- domain-specific: a domain, and an item of it
unfoldable pub domain_parts : Form (List Part) (List ℕ × (List ℕ × Unit {0}))
domain_parts = value_then (tagged visible_tag octets) (value_then (tagged visible_tag octets) done)

-- ObjectName: vmd-specific, domain-specific or aa-specific
unfoldable pub name : Form Part MmsName
name =
    choice (context 0) (map_form vmd octets)
    (choice (constructed 1) (map_form (λ x. domain x.0 x.1.0) (fields domain_parts))
    (tagged (context 2) (map_form association octets)))

-- ---- ISO 9506-2 VariableAccessSpecification: variables

-- whether an optional part is present
abbrev pub is_there : Option (Unit {0}) → Bool
is_there (Some x) = true
is_there None = false

-- a variable, from the parts that were read
abbrev pub specification_from_parts : MmsName × (Option (Unit {0}) × Unit {0})
    → VariableSpecification
specification_from_parts x = record { name = x.0; is_alternate = is_there x.1.0 }

-- variableSpecification, a name, and alternateAccess, which is optional and not read
unfoldable pub variable_parts : Form (List Part) (MmsName × (Option (Unit {0}) × Unit {0}))
variable_parts =
    value_then (tagged (constructed 0) (one name)) (maybe (constructed 5) any_octets done)

-- an item of listOfVariable
unfoldable pub variable : Form Part VariableSpecification
variable = tagged sequence (map_form specification_from_parts (fields variable_parts))

-- VariableAccessSpecification: listOfVariable, or variableListName
unfoldable pub access : Form Part Access
access =
    choice (constructed 0) (map_form variables (each variable))
    (tagged (constructed 1) (map_form (λ n. named_list) (one name)))

-- ---- own: which names are served

-- whether only a part of one of the variables is requested
abbrev pub any_alternate : List VariableSpecification → Bool
any_alternate vs = list_any (λ v. v.is_alternate) vs

-- whether a number is the given count; true if no count is given
abbrev pub has_count : Option ℕ → ℕ → Bool
has_count None number = true
has_count (Some count) number = number == count

-- The names, if they are served: only whole variables, and at most 32.
abbrev pub served_names : List MmsName → Bool → Result (List MmsName) Refusal
served_names ns alternate =
    if alternate then Err Unknown else (if nat_lt 32 (length ns) then Err Many else Ok ns)

-- The names, if they are served, and if there are `count` of them.
abbrev pub counted_names : Option ℕ → List MmsName → Bool → Result (List MmsName) Refusal
counted_names count ns alternate =
    if has_count count (length ns) then served_names ns alternate else Err Bad

-- The requested names, `count` of them if a count is given; a named list of variables is not
-- served.
abbrev pub requested_names : Option ℕ → Access → Result (List MmsName) Refusal
requested_names count named_list = Err Unknown
requested_names count (variables vs) = counted_names count (map (λ v. v.name) vs) (any_alternate vs)

-- ---- ISO 9506-2 Data: data

-- a utc-time; if it has not eight octets, data of another kind
abbrev pub moment : List ℕ → Datum
moment content =
    if length content == 8 then mms.utc content else mms.other (context 17) content

-- octet-string, visible-string and utc-time; any other kind is left unchanged
unfoldable pub string : Form Part Datum
string =
    choice (context 9) (map_form mms.octets octets)
    (choice (context 10) (map_form mms.text octets)
    (choice (context 17) (map_form moment octets)
    (map_form (λ p. mms.other p.tag p.content) whole)))

-- boolean, bit-string, integer, unsigned, and strings
unfoldable pub simple : Form Part Datum
simple =
    choice (context 3) (map_form mms.truth truth)
    (choice (context 4) (map_form (λ b. mms.bits b.octets b.count) bits)
    (choice (context 5) (map_form mms.integer integer)
    (choice (context 6) (map_form mms.unsigned integer) string)))

-- Data nested at most n deep; the parts of a structure are one deeper.
unfoldable pub datum_at : ℕ → Form Part Datum
datum_at zero = none
datum_at (suc depth) =
    choice (constructed 2)
    (map_form (λ ds. mms.structure (data_before ds mms.no_data)) (each (datum_at depth))) simple

-- ---- ISO 9506-2 GetNameList-Request: the requested names

-- objectScope: vmdSpecific, domainSpecific or aaSpecific
unfoldable pub scope : Form Part ObjectScope
scope =
    choice (context 0) (map_form (λ x. whole_vmd) empty)
    (choice (context 1) (map_form in_domain octets)
    (tagged (context 2) (map_form (λ x. of_association) empty)))

-- objectClass with its tag
unfoldable pub class_part : Form Part ℤ
class_part = tagged (constructed 0) (one (tagged (context 0) integer))

-- objectScope with its tag
unfoldable pub scope_part : Form Part ObjectScope
scope_part = tagged (constructed 1) (one scope)

-- the request for names, from the parts that were read
abbrev pub names_from_parts : ℤ × (ObjectScope × (Option (List ℕ) × Unit {0})) → ServiceRequest
names_from_parts x = names x.0 x.1.0 x.1.1.0

-- objectClass, objectScope, and continueAfter, which is optional
unfoldable pub get_name_list_parts
    : Form (List Part) (ℤ × (ObjectScope × (Option (List ℕ) × Unit {0})))
get_name_list_parts = value_then class_part (value_then scope_part (maybe (context 2) octets done))

-- GetNameList-Request
unfoldable pub get_name_list : Form (List ℕ) ServiceRequest
get_name_list = map_form names_from_parts (fields get_name_list_parts)

-- ---- ISO 9506-2 GetVariableAccessAttributes-Request: the requested type

-- GetVariableAccessAttributes-Request: by the name of a variable; by the name of a list it is not
-- served
unfoldable pub attributes_request : Form Part (Result ServiceRequest Refusal)
attributes_request =
    choice (constructed 0) (map_form (λ n. Ok (attributes n)) (one name))
    (tagged (constructed 1) (map_form (λ n. Err Unknown) (one name)))

-- ---- ISO 9506-2 Read-Request: variables that are read

-- the read of these variables
unfoldable pub read_service : Access → Result ServiceRequest Refusal
read_service vs = requested_names None vs >> λ ns. Ok (read ns)

-- Read-Request: specificationWithResult, which is optional and not read, and
-- variableAccessSpecification
unfoldable pub read_parts : Form (List Part) (Option (Unit {0}) × (Access × Unit {0}))
read_parts = maybe (context 0) any_octets (value_then (tagged (constructed 1) (one access)) done)

-- ---- ISO 9506-2 Write-Request: variables that are written

-- the write of these data, one for each variable
unfoldable pub write_service : Access × (List Datum × Unit {0}) → Result ServiceRequest Refusal
write_service x = requested_names (Some (length x.1.0)) x.0 >> λ ns. Ok (write ns x.1.0)

-- Write-Request: variableAccessSpecification and listOfData, each at most 10 deep
unfoldable pub write_parts : Form (List Part) (Access × (List Datum × Unit {0}))
write_parts = value_then access (value_then (tagged (constructed 0) (each (datum_at 10))) done)

-- ---- ISO 9506-2 ConfirmedServiceRequest: services

-- whether the tag is context-specific, with a number of no service that is read here
abbrev pub is_unlisted : Tag → Bool
is_unlisted tag =
    same_class tag.class ContextSpecific
    && not ((tag.number == 1)
    || ((tag.number == 2) || ((tag.number == 4) || ((tag.number == 5) || (tag.number == 6)))))

-- the refusal of a service that is not read here
abbrev pub refuse_unlisted : Part → Option (Result ServiceRequest Refusal)
refuse_unlisted part = if is_unlisted part.tag then Some (Err Unknown) else None

-- ConfirmedServiceRequest: getNameList, identify, read, write, getVariableAccessAttributes, and
-- others
unfoldable pub service_request : Form Part (Result ServiceRequest Refusal)
service_request =
    choice (constructed 1) (map_form (λ x. Ok x) get_name_list)
    (choice (context 2) (map_form (λ x. Ok identify) empty)
    (choice (constructed 4) (map_form (λ x. read_service x.1.0) (fields read_parts))
    (choice (constructed 5) (map_form write_service (fields write_parts))
    (choice (constructed 6) (one attributes_request) (try_map_form refuse_unlisted whole)))))

-- ---- ISO 9506-2 MMSpdu: the request

-- a number, if it is an invoke id: 32 bits
abbrev pub id_of : ℤ → Option ℕ
id_of (pos n) = if nat_lt n 4294967296 then Some n else None
id_of (negsuc n) = None

-- invokeID
unfoldable pub invoke_id : Form Part ℕ
invoke_id = tagged int_tag (try_map_form id_of integer)

-- invokeID and ConfirmedServiceRequest (ISO 9506-2, Confirmed-RequestPDU)
unfoldable pub confirmed_parts : Form (List Part) (ℕ × (Result ServiceRequest Refusal × Unit {0}))
confirmed_parts = value_then invoke_id (value_then service_request done)

-- the request for a service with an invoke id, or why it is refused; None if the service is
-- malformed (own)
abbrev pub request_with_id : ℕ → Result ServiceRequest Refusal → Option (Result MmsRequest Denial)
request_with_id id (Ok asking) = Some (Ok (confirmed id asking))
request_with_id id (Err Unknown) = Some (Err (unknown id))
request_with_id id (Err Many) = Some (Err (many id))
request_with_id id (Err refusal) = None

-- MMSpdu: confirmed-RequestPDU, initiate-RequestPDU or conclude-RequestPDU
unfoldable pub pdu : Form Part (Result MmsRequest Denial)
pdu =
    choice (constructed 0) (try_map_form (λ x. request_with_id x.0 x.1.0) (fields confirmed_parts))
    (choice (constructed 8) (map_form (λ p. Ok (initiate p)) proposal)
    (tagged (context 11) (map_form (λ x. Ok conclude) empty)))

-- a request
unfoldable pub request : Form (List ℕ) (Result MmsRequest Denial)
request = one pdu

-- ---- own: the result of reading a request

-- the invoke id, if the octets begin with a value of a confirmed request whose content begins with
-- an id
unfoldable pub leading_id : Form (List ℕ) ℕ
leading_id = first_form (tagged (constructed 0) (first_form invoke_id))

-- the result for a request that was read, or for none: then a bad PDU, with the invoke id if it can
-- be read
abbrev pub request_or_fault : Option ℕ → Option (Result MmsRequest Denial)
    → Result MmsRequest MmsFault
request_or_fault known (Some (Ok message)) = Ok message
request_or_fault known (Some (Err (unknown id))) = Err (fault.UnknownService id)
request_or_fault known (Some (Err (many id))) = Err (fault.TooMany id)
request_or_fault known None = Err (fault.BadPdu known)

-- the request that octets are read as, or their fault
unfoldable pub request_in : List ℕ → Result MmsRequest MmsFault
request_in octets = request_or_fault (leading_id.reads octets) (request.reads octets)
