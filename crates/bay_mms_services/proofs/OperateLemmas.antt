-- The commands of an answer are those of the operates that it accepts.
use Rattle.std.proofs.Common.{◌≡◌, ℕ, List, [], ◌∷◌, ◌++◌, Option, Some, Result, Ok, Err, is_ok, refl, ap, ap₂, sym, ◌∙◌, append-nil, append_assoc}
use Rattle.bay_control.specs.Acts.{Entry}
use Rattle.bay_control.specs.Acts as act
use Rattle.bay_control.specs.Decisions.{operate_outcome}
use Rattle.bay_control.specs.TimedCalls.{entries_of}
use Rattle.bay_control.specs.Requests.{requested_choice}
use Rattle.bay_control.specs.declared.cause.AddCause.{AddCause}
use Rattle.bay_mms.specs.Controls as asked
use Rattle.bay_mms.specs.Data.{Datum}
use Rattle.bay_mms.specs.Grammar.{request_in}
use Rattle.bay_mms.specs.Requests.{MmsName, MmsRequest}
use Rattle.bay_mms.specs.declared.fault.MmsFault.{MmsFault}
use Rattle.bay_mms_services.specs.Answers.{answer_of, pdu_answer}
use Rattle.bay_mms_services.specs.Bay.{Bay}
use Rattle.bay_mms_services.specs.Controls.{control_request_of, decision_view}
use Rattle.bay_mms_services.specs.Entries.{call_of_read, call_of_write, command_of, entries_on_pdu, message_entries, operates_in, read_entries, entries_on_call, target_of_row, write_entries}
use Rattle.bay_mms_services.specs.Reads.{ReadState, initial_read, read_one}
use Rattle.bay_mms_services.specs.Rows.{row_named}
use Rattle.bay_mms_services.specs.Writes.{WriteState, operate_commands, initial_write, write_all, write_one, write_row}
use Rattle.bay_mms_services.specs.declared.answer.Command.{Command}
use Rattle.bay_mms_services.specs.declared.client.ClientContext.{ClientContext}
use Rattle.bay_mms_services.proofs.WalkLemmas.{answer-by, read-by, write-by}

pub operates-append : (xs ys : List Entry)
    → operates_in (xs ++ ys) ≡ operates_in xs ++ operates_in ys
operates-append [] ys = refl
operates-append (x ∷ xs) ys =
    let own : List Command = command_of x.act x.is_accepted in
    ap (λ cs. own ++ cs) (operates-append xs ys)
    ∙ sym (append_assoc own (operates_in xs) (operates_in ys))

module _ (c : ClientContext) (b : Bay) where
  -- ---- a variable that is read: none

  read-row-none : (r : ReadState) (row : Option ℕ)
      → operates_in (entries_on_call c r.controls (call_of_read c (target_of_row b row))) ≡ []
  read-row-none r row =
      read-by c b r (λ asks asked next. operates_in (entries_on_call c r.controls asked) ≡ [])
      (λ place. refl) refl (λ place k. refl) row

  read-none : (ns : List MmsName) (r : ReadState) → operates_in (read_entries c b ns r) ≡ []
  read-none [] r = refl
  read-none (name ∷ ns) r =
      operates-append (entries_on_call c r.controls
      (call_of_read c (target_of_row b (row_named b name))))
      (read_entries c b ns (read_one c b name r))
      ∙ ap₂ (λ (xs ys : List Command). xs ++ ys)
      (read-row-none r (row_named b name))
      (read-none ns (read_one c b name r))

  -- ---- a variable that is written

  -- the commands then are those before and those of these entries
  abbrev Adds : WriteState → List Entry → WriteState → Type 0
  Adds w entries next = next.commands ≡ w.commands ++ operates_in entries

  adds-none : (w : WriteState) → w.commands ≡ w.commands ++ []
  adds-none w = sym (append-nil w.commands)

  commands-are : (k : ℕ) (o : asked.Operate) (answer : Result (Unit {0}) AddCause)
      → operate_commands k o answer
      ≡ operates_in (entries_of c.now
      (Some (act.Operate c.association k (requested_choice (control_request_of o)))) (is_ok answer))
  commands-are k o (Ok done) = refl
  commands-are k o (Err why) = refl

  write-row-adds : (given : Datum) (w : WriteState) (row : Option ℕ)
      → Adds w (entries_on_call c w.controls (call_of_write c b given (target_of_row b row)))
      (write_row c b given w row)
  write-row-adds given w row =
      write-by c b w (λ asks asked next. Adds w (entries_on_call c w.controls asked) next)
      (λ error. adds-none w) (λ k item o. adds-none w)
      (λ k item o. ap (λ cs. w.commands ++ cs) (commands-are k o
      (operate_outcome c.association k (control_request_of o) (decision_view c k b) c.now
      w.controls).answer))
      (λ k item control. adds-none w)
      given row

  write-adds : (ns : List MmsName) (values : List Datum) (w : WriteState)
      → Adds w (write_entries c b ns values w) (write_all c b ns values w)
  write-adds [] values w = adds-none w
  write-adds (name ∷ ns) [] w = adds-none w
  write-adds (name ∷ ns) (given ∷ values) w =
      let next : WriteState = write_one c b name given w in
      let own : List Entry =
      entries_on_call c w.controls (call_of_write c b given (target_of_row b (row_named b name)))
      in
      let rest : List Entry = write_entries c b ns values next in
      write-adds ns values next
      ∙ ap (λ cs. cs ++ operates_in rest) (write-row-adds given w (row_named b name))
      ∙ append_assoc w.commands (operates_in own) (operates_in rest)
      ∙ ap (λ cs. w.commands ++ cs) (sym (operates-append own rest))

  message-operates : (m : Result MmsRequest MmsFault)
      → (answer_of c b m).commands ≡ operates_in (message_entries c b m)
  message-operates m =
      answer-by c b (λ entries x. x.commands ≡ operates_in entries) (λ pdu few. refl)
      (λ id ns is. sym (read-none ns (initial_read b)))
      (λ id ns values is. write-adds ns values (initial_write b)) m

pub answer-operates : (c : ClientContext) (pdu : List ℕ) (b : Bay)
    → (pdu_answer c pdu b).commands ≡ operates_in (entries_on_pdu c pdu b)
answer-operates c pdu b = message-operates c b (request_in pdu)
