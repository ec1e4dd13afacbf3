-- The requests of a PDU on controls, by the names of its variables and its data, and which of them
-- were accepted, by the octets of its answer (ISO 9506-2, Read and Write; IEC 61850-8-1). The
-- definitions do not use the state of the controls.
use Rattle.std.specs.Prelude.{ℕ, ◌≡◌, Bool, true, false, ◌&&◌, List, [], ◌∷◌, ◌++◌, Option, Some, None, is_some, if◌then◌else◌, unwrap_or, Result, Ok, Err}
use Rattle.bay_base.specs.Options.{◌>>=◌}
use Rattle.bay_ber.specs.Tags.{same_tag, context, constructed}
use Rattle.bay_ber.specs.Values.{Part, content_with_tag, value_in, values_in}
use Rattle.bay_tree.specs.Rows.{names_of}
use Rattle.bay_control.specs.Acts as act
use Rattle.bay_control.specs.Acts.{Act, Entry}
use Rattle.bay_control.specs.TimedCalls.{entries_of}
use Rattle.bay_control.specs.Requests.{requested_choice}
use Rattle.bay_mms.specs.Controls as asked
use Rattle.bay_mms.specs.Controls.{Control, operate_or_error, cancel_or_error}
use Rattle.bay_mms.specs.Data.{Datum}
use Rattle.bay_mms.specs.Grammar.{request_in}
use Rattle.bay_mms.specs.Requests.{MmsName, ServiceRequest, identify, names, attributes, read, write, MmsRequest, initiate, conclude, confirmed}
use Rattle.bay_mms.specs.declared.fault.DataAccessError.{DataAccessError}
use Rattle.bay_mms.specs.declared.fault.MmsFault.{MmsFault}
use Rattle.bay_mms_services.specs.Bay.{Bay}
use Rattle.bay_mms_services.specs.Controls.{control_request_of}
use Rattle.bay_mms_services.specs.Entries.{target_of_row}
use Rattle.bay_mms_services.specs.Rows.{row_named}
use Rattle.bay_mms_services.specs.declared.target.ControlPart.{ControlPart}
use Rattle.bay_mms_services.specs.declared.target.ControlPart.TheVariants.{Select, SelectWith, Operate, Cancel}
use Rattle.bay_mms_services.specs.declared.target.Target.{Target}

-- The variables of two bays have the same names.
pub record AreNamedAlike (b d : Bay) : Type 0 where
  pub domain : d.domain ≡ b.domain
  pub switches : d.switches ≡ b.switches
  pub names : names_of d.rows ≡ names_of b.rows

-- ---- requests

-- a read of SBO selects
abbrev pub read_act : ℕ → ℕ → ControlPart → Option Act
read_act a k Select = Some (act.Select a k)
read_act a k SelectWith = None
read_act a k Operate = None
read_act a k Cancel = None

-- the act of a read, by the target of its variable
abbrev pub act_of_read : ℕ → Option Target → Option Act
act_of_read a None = None
act_of_read a (Some t) = read_act a t.switch t.part

-- a write to SBOw selects, if its data have the right type and range
abbrev pub select_with_act : ℕ → ℕ → Result asked.Operate DataAccessError → Option Act
select_with_act a k (Ok o) = Some (act.SelectWith a k (requested_choice (control_request_of o)))
select_with_act a k (Err fault) = None

-- a write to Oper operates, if its data have the right type and range
abbrev pub operate_act : ℕ → ℕ → Result asked.Operate DataAccessError → Option Act
operate_act a k (Ok o) = Some (act.Operate a k (requested_choice (control_request_of o)))
operate_act a k (Err fault) = None

-- a write to Cancel cancels a selection, if its data have the right type and range
abbrev pub cancel_act : ℕ → ℕ → Result Control DataAccessError → Option Act
cancel_act a k (Ok control) = Some (act.Cancel a k)
cancel_act a k (Err fault) = None

-- the act of a write to a part of a control
abbrev pub write_act : ℕ → Datum → ℕ → ControlPart → Option Act
write_act a given k Select = None
write_act a given k SelectWith = select_with_act a k (operate_or_error given)
write_act a given k Operate = operate_act a k (operate_or_error given)
write_act a given k Cancel = cancel_act a k (cancel_or_error given)

-- the act of a write, by the target of its variable
abbrev pub act_of_write : ℕ → Datum → Option Target → Option Act
act_of_write a given None = None
act_of_write a given (Some t) = write_act a given t.switch t.part

-- ---- acceptance

-- the text is not empty
abbrev pub is_some_text : List ℕ → Bool
is_some_text [] = false
is_some_text (octet ∷ octets) = true

-- a select by a read was accepted if its result is a text that is not empty
abbrev pub is_granted : Part → Bool
is_granted result = same_tag result.tag (context 10) && is_some_text result.content

-- any other request was accepted if its result is a success
abbrev pub is_success : Part → Bool
is_success result = same_tag result.tag (context 1)

-- ---- the results in a response

-- the part after the invoke id
abbrev pub part_after_id : List Part → Option Part
part_after_id [] = None
part_after_id (id ∷ []) = None
part_after_id (id ∷ service ∷ []) = Some service
part_after_id (id ∷ service ∷ more ∷ parts) = None

-- the contents of a service's tag in a confirmed response
abbrev pub service_in : ℕ → List ℕ → Option (List ℕ)
service_in number pdu =
    value_in pdu >>= content_with_tag (constructed 1) >>= values_in >>= part_after_id
    >>= content_with_tag (constructed number)

-- the results of a response to a read
abbrev pub read_results : List ℕ → Option (List Part)
read_results pdu = service_in 4 pdu >>= value_in >>= content_with_tag (constructed 1) >>= values_in

-- the results of a response to a write
abbrev pub write_results : List ℕ → Option (List Part)
write_results pdu = service_in 5 pdu >>= values_in

-- ---- a PDU

-- the entries of the variables, each with its result, in their order
abbrev pub observed_in_read : ℕ → ℕ → Bay → List MmsName → List Part → List Entry
observed_in_read now a b [] results = []
observed_in_read now a b (name ∷ ns) [] = []
observed_in_read now a b (name ∷ ns) (result ∷ results) =
    entries_of now (act_of_read a (target_of_row b (row_named b name))) (is_granted result)
    ++ observed_in_read now a b ns results

-- the entries of the variables of a write, each with its data and its result, in their order
abbrev pub observed_in_write : ℕ → ℕ → Bay → List MmsName → List Datum → List Part → List Entry
observed_in_write now a b [] values results = []
observed_in_write now a b (name ∷ ns) [] results = []
observed_in_write now a b (name ∷ ns) (given ∷ values) [] = []
observed_in_write now a b (name ∷ ns) (given ∷ values) (result ∷ results) =
    entries_of now (act_of_write a given (target_of_row b (row_named b name))) (is_success result)
    ++ observed_in_write now a b ns values results

-- an answer without results is an error, and then the request has no effect
abbrev pub observed_in_service : ℕ → ℕ → Bay → ServiceRequest → List ℕ → List Entry
observed_in_service now a b identify response = []
observed_in_service now a b (names class place after) response = []
observed_in_service now a b (attributes name) response = []
observed_in_service now a b (read ns) response =
    observed_in_read now a b ns (unwrap_or (read_results response) [])
observed_in_service now a b (write ns values) response =
    observed_in_write now a b ns values (unwrap_or (write_results response) [])

-- the entries of a PDU, by its response
abbrev pub observed_in_request : ℕ → ℕ → Bay → Result MmsRequest MmsFault → List ℕ → List Entry
observed_in_request now a b (Ok (initiate proposal)) response = []
observed_in_request now a b (Ok conclude) response = []
observed_in_request now a b (Ok (confirmed id asking)) response =
    observed_in_service now a b asking response
observed_in_request now a b (Err fault) response = []

-- The entries of a client's PDU at a time, on an association, for a bay with these names: its
-- requests on the controls in their order, and which of them were accepted, by the octets of its
-- response.
abbrev pub observed_in_pdu : ℕ → ℕ → List ℕ → Bay → List ℕ → List Entry
observed_in_pdu now a pdu b response = observed_in_request now a b (request_in pdu) response

-- ---- an answer

-- a report is an unconfirmed PDU
abbrev pub is_report : List ℕ → Bool
is_report pdu = is_some (value_in pdu >>= content_with_tag (constructed 3))

-- reports come only before the response to a write
abbrev pub service_may_report : ServiceRequest → Bool
service_may_report identify = false
service_may_report (names class place after) = false
service_may_report (attributes name) = false
service_may_report (read ns) = false
service_may_report (write ns values) = true

-- reports may come before the response to a write PDU
abbrev pub request_may_report : Result MmsRequest MmsFault → Bool
request_may_report (Ok (initiate proposal)) = false
request_may_report (Ok conclude) = false
request_may_report (Ok (confirmed id asking)) = service_may_report asking
request_may_report (Err fault) = false

-- the response among the PDUs of an answer and later ones, and the PDUs after it
abbrev pub first_response : Bool → List (List ℕ) → (List ℕ) × List (List ℕ)
first_response reports [] = ([], [])
first_response reports (pdu ∷ pdus) =
    if reports && is_report pdu then first_response reports pdus else (pdu, pdus)
