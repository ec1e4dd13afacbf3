-- What a PDU asks of controls leads them from those before it to those after it. No request opens
-- or closes an association.
use Rattle.std.proofs.Common.{◌≡◌, ℕ, Bool, true, List, [], ◌∷◌, Option, Result, refl, ap, ◌∙◌}
use Rattle.bay_control.specs.Acts.{Entry}
use Rattle.bay_control.specs.Decisions.{State}
use Rattle.bay_control.specs.TimedCalls as call
use Rattle.bay_control.specs.TimedCalls.{LeadsControls}
use Rattle.bay_control.proofs.BackingLemmas.{all-controls}
use Rattle.bay_control.proofs.LeadsLemmas.{none-leads, one-leads, two-lead}
use Rattle.bay_mms.specs.Data.{Datum}
use Rattle.bay_mms.specs.Grammar.{request_in}
use Rattle.bay_mms.specs.Requests.{MmsName, MmsRequest}
use Rattle.bay_mms.specs.declared.fault.MmsFault.{MmsFault}
use Rattle.bay_mms_services.specs.Answers.{answer_of, pdu_answer}
use Rattle.bay_mms_services.specs.Bay.{Bay}
use Rattle.bay_mms_services.specs.Controls.{control_request_of, decision_view}
use Rattle.bay_mms_services.specs.Entries.{call_of_read, call_of_write, entries_on_pdu, message_entries, read_entries, entries_on_call, target_of_row, write_entries}
use Rattle.bay_mms_services.specs.Reads.{ReadState, initial_read, read_all, read_one, read_row}
use Rattle.bay_mms_services.specs.Rows.{row_named}
use Rattle.bay_mms_services.specs.Writes.{WriteState, initial_write, write_all, write_one, write_row}
use Rattle.bay_mms_services.specs.declared.client.ClientContext.{ClientContext}
use Rattle.bay_mms_services.proofs.WalkLemmas.{answer-by, read-by, write-by}

module _ (c : ClientContext) (b : Bay) (opens : ℕ → Bool) (is_open : opens c.association ≡ true)
  where
    -- controls that are led so, with the same associations open before and after
    abbrev Led : List Entry → State → State → Type 0
    Led entries before after = LeadsControls entries opens before opens after

    -- ---- a variable that is read

    read-row-leads : (r : ReadState) (row : Option ℕ)
        → Led (entries_on_call c r.controls (call_of_read c (target_of_row b row))) r.controls
        (read_row c b r row).controls
    read-row-leads r row =
        read-by c b r
        (λ asks asked next. Led (entries_on_call c r.controls asked) r.controls next.controls)
        (λ place. none-leads opens r.controls) (none-leads opens r.controls)
        (λ place k. one-leads (call.Select c.association k) c.now opens opens r.controls is_open
        (λ a. refl)) row

    read-leads : (ns : List MmsName) (r : ReadState)
        → Led (read_entries c b ns r) r.controls (read_all c b ns r).controls
    read-leads [] r = none-leads opens r.controls
    read-leads (name ∷ ns) r =
        let next : ReadState = read_one c b name r in
        two-lead (entries_on_call c r.controls
        (call_of_read c (target_of_row b (row_named b name))))
        (read_entries c b ns next) opens opens opens
        r.controls next.controls (read_all c b ns next).controls
        (read-row-leads r (row_named b name)) (read-leads ns next)

    -- ---- a variable that is written

    write-row-leads : (given : Datum) (w : WriteState) (row : Option ℕ)
        → Led (entries_on_call c w.controls (call_of_write c b given (target_of_row b row)))
        w.controls
        (write_row c b given w row).controls
    write-row-leads given w row =
        write-by c b w
        (λ asks asked next. Led (entries_on_call c w.controls asked) w.controls next.controls)
        (λ error. none-leads opens w.controls)
        (λ k item o. one-leads (call.SelectWith c.association k (control_request_of o)) c.now opens
        opens
        w.controls is_open (λ a. refl))
        (λ k item o. one-leads (call.Operate c.association k (control_request_of o)
        (decision_view c k b))
        c.now opens
        opens w.controls is_open (λ a. refl))
        (λ k item control. one-leads (call.Cancel c.association k) c.now opens opens w.controls
        is_open (λ a. refl))
        given row

    write-leads : (ns : List MmsName) (values : List Datum) (w : WriteState)
        → Led (write_entries c b ns values w) w.controls (write_all c b ns values w).controls
    write-leads [] values w = none-leads opens w.controls
    write-leads (name ∷ ns) [] w = none-leads opens w.controls
    write-leads (name ∷ ns) (given ∷ values) w =
        let next : WriteState = write_one c b name given w in
        two-lead (entries_on_call c w.controls
        (call_of_write c b given (target_of_row b (row_named b name))))
        (write_entries c b ns values next) opens opens opens
        w.controls next.controls (write_all c b ns values next).controls
        (write-row-leads given w (row_named b name)) (write-leads ns values next)

    message-leads : (m : Result MmsRequest MmsFault)
        → Led (message_entries c b m) b.controls (answer_of c b m).after.controls
    message-leads m =
        answer-by c b (λ entries x. Led entries b.controls x.after.controls)
        (λ pdu few. none-leads opens b.controls) (λ id ns is. read-leads ns (initial_read b))
        (λ id ns values is. write-leads ns values (initial_write b)) m

pub request-leads : (c : ClientContext) (pdu : List ℕ) (b : Bay) (opens : ℕ → Bool)
    → opens c.association ≡ true
    → LeadsControls (entries_on_pdu c pdu b) opens b.controls opens
    (pdu_answer c pdu b).after.controls
request-leads c pdu b opens is_open = message-leads c b opens is_open (request_in pdu)

-- no request changes the values of the inputs
pub inputs-stay : (c : ClientContext) (pdu : List ℕ) (b : Bay)
    → (pdu_answer c pdu b).after.inputs ≡ b.inputs
inputs-stay c pdu b =
    answer-by c b (λ entries x. x.after.inputs ≡ b.inputs) (λ pdu few. refl) (λ id ns is. refl)
    (λ id ns values is. refl) (request_in pdu)

-- no request changes the settings of the controls
pub settings-stay : (c : ClientContext) (pdu : List ℕ) (b : Bay)
    → (pdu_answer c pdu b).after.controls.controls ≡ b.controls.controls
settings-stay c pdu b =
    let leads = request-leads c pdu b (λ a. true) refl in
    ap (λ (s : State). s.controls) leads.ends ∙ all-controls leads.timed_calls b.controls
