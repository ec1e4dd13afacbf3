-- What the octets of an answer tell of a PDU is what was accepted of it.
use Rattle.std.proofs.Common.{◌≡◌, ◌<◌, ◌≤◌, ℕ, Bool, true, false, cond, List, [], ◌∷◌, ◌++◌, length, nat_le, Option, Some, None, unwrap_or, Result, Ok, Err, refl, ap, sym, ◌∙◌, arith, length-append, subst}
use Rattle.std.proofs.lemmas.Bool.{leb-true}
use Rattle.std.specs.Prelude.{pos, is_some, option_to_list}
use Rattle.bay_base.specs.Options.{◌>>=◌}
use Rattle.bay_ber.specs.Tags.{same_tag, context, constructed, int_tag}
use Rattle.bay_ber.specs.Values.{Part, SpellAll, content_with_tag, value, value_in, values_in}
use Rattle.bay_ber.specs.Writing.{element, integer_octets}
use Rattle.bay_ber.specs.declared.tag.Tag.{Tag}
use Rattle.bay_ber.proofs.BackLemmas.{one-read}
use Rattle.bay_ber.proofs.ListingLemmas.{values-again}
use Rattle.bay_ber.proofs.SizeLemmas.{length-element, length-integer_octets}
use Rattle.bay_control.specs.Acts.{Entry}
use Rattle.bay_control.specs.Decisions.{Outcome, State, cancel_outcome, operate_outcome, select_with_outcome}
use Rattle.bay_control.specs.declared.cause.AddCause.{AddCause}
use Rattle.bay_mms.specs.Controls.{Control}
use Rattle.bay_mms.specs.Data.{Datum}
use Rattle.bay_mms.specs.Grammar.{request_in}
use Rattle.bay_mms.specs.Requests.{MmsName, ServiceRequest, identify, names, attributes, read, write, MmsRequest, initiate, conclude, confirmed}
use Rattle.bay_mms.specs.Responses as response
use Rattle.bay_mms.specs.Responses.{class_text, error_text, read_text, write_text}
use Rattle.bay_mms.specs.declared.fault.MmsFault.{MmsFault}
use Rattle.bay_mms.specs.declared.fault.MmsFault.TheVariants.{BadPdu, UnknownService, TooMany, OutOfMemory}
use Rattle.bay_mms.specs.declared.response.ErrorClass.TheVariants.{NoSuchObject, Resource}
use Rattle.bay_mms_services.specs.ObservedEntries.{AreNamedAlike, observed_in_pdu, part_after_id, first_response, is_report, request_may_report, observed_in_request, observed_in_read, read_results, service_in, observed_in_write, write_results}
use Rattle.bay_mms_services.specs.Answers.{answer_of, pdu_answer, attributes_answer, plain_answer, service_answer}
use Rattle.bay_mms_services.specs.Bay.{Bay, with_controls}
use Rattle.bay_mms_services.specs.Controls.{control_request_of, has_reports, object_of, refusal_report, refusal_reports, decision_view}
use Rattle.bay_mms_services.specs.Entries.{entries_on_pdu, message_entries, read_entries, service_entries, write_entries}
use Rattle.bay_mms_services.specs.Reads.{initial_read, read_all}
use Rattle.bay_mms_services.specs.Replies.{pdu_within_size}
use Rattle.bay_mms_services.specs.Rows.{row_named}
use Rattle.bay_mms_services.specs.Writes.{WriteState, after_decision, initial_write, write_all, write_one, write_row}
use Rattle.bay_mms_services.specs.declared.client.ClientContext.{ClientContext}
use Rattle.bay_mms_services.specs.declared.target.ControlPart.{ControlPart}
use Rattle.bay_mms_services.specs.declared.target.ControlPart.TheVariants.{SelectWith, Operate, Cancel}
use Rattle.bay_mms_services.proofs.WalkLemmas.{answer-by, read_sent, write-by, write_sent}
use Rattle.bay_mms_services.proofs.VariableLemmas.{AllRead, AllWritten, all-read, all-written, spell-one, spells-element}
use Rattle.bay_mms_services.proofs.ReplyLemmas.{element-more, response-more}

-- ---- the results in a response

service-read : (n id : ℕ) (content : List ℕ) → n < 31
    → same_tag (constructed n) (constructed n) ≡ true
    → length (response.confirmed_response id (element (constructed n) content)) < 4294967296
    → service_in n (response.confirmed_response id (element (constructed n) content)) ≡ Some content
service-read n id content small same short =
    let number : List ℕ = integer_octets (pos id) in
    let inside : List ℕ = element int_tag number ++ element (constructed n) content in
    let outer : value_in (element (constructed 1) inside) ≡ Some (value (constructed 1) inside) =
    one-read (element (constructed 1) inside) (value (constructed 1) inside)
    (spell-one (constructed 1) inside (omega arith) short) in
    let within = element-more (constructed 1) inside in
    let size = length-append (element int_tag number) (element (constructed n) content) in
    let parts : List Part = value int_tag number ∷ value (constructed n) content ∷ [] in
    let both : values_in inside ≡ Some parts = values-again inside parts (
      element int_tag number,
      element (constructed n) content,
      refl,
      spells-element int_tag number (omega arith) (omega (arith, within, size, short)),
      spell-one (constructed n) content small (omega (arith, within, size, short)),
    ) in
    ap (λ (o : Option Part). o >>= content_with_tag (constructed 1) >>= values_in >>= part_after_id
    >>= content_with_tag (constructed n)) outer
    ∙ ap (λ (o : Option (List Part)). o >>= part_after_id >>= content_with_tag (constructed n)) both
    ∙ ap (λ (b : Bool). cond b (Some content) None) same

read-back : (id : ℕ) (results : List ℕ) (parts : List Part)
    → length (read_text id results) < 4294967296 → SpellAll results parts
    → read_results (read_text id results) ≡ Some parts
read-back id results parts short spelled =
    let content : List ℕ = element (constructed 1) results in
    let inside : List ℕ =
    element int_tag (integer_octets (pos id)) ++ element (constructed 4) content in
    let service : service_in 4 (read_text id results) ≡ Some content =
    service-read 4 id content (omega arith) refl short in
    let size : length content < 4294967296 =
    omega (
      arith,
      short,
      element-more (constructed 1) inside,
      length-append (element int_tag (integer_octets (pos id))) (element (constructed 4) content),
      element-more (constructed 4) content,
    ) in
    let list : value_in content ≡ Some (value (constructed 1) results) =
    one-read content (value (constructed 1) results)
    (spell-one (constructed 1) results (omega arith) size) in
    ap (λ (o : Option (List ℕ)). o >>= value_in >>= content_with_tag (constructed 1) >>= values_in)
    service
    ∙ ap (λ (o : Option Part). o >>= content_with_tag (constructed 1) >>= values_in) list
    ∙ values-again results parts spelled

write-back : (id : ℕ) (results : List ℕ) (parts : List Part)
    → length (write_text id results) < 4294967296 → SpellAll results parts
    → write_results (write_text id results) ≡ Some parts
write-back id results parts short spelled =
    ap (λ (o : Option (List ℕ)). o >>= values_in)
    (service-read 5 id results (omega arith) refl short) ∙ values-again results parts spelled

-- the results stand in the response
write-size : (id : ℕ) (results : List ℕ) → length results ≤ length (write_text id results)
write-size id results =
    let inside : List ℕ =
    element int_tag (integer_octets (pos id)) ++ element (constructed 5) results in
    omega (
      arith,
      element-more (constructed 1) inside,
      length-append (element int_tag (integer_octets (pos id))) (element (constructed 5) results),
      element-more (constructed 5) results,
    )

-- an error has none
error-short : (id : ℕ) → length (error_text id Resource) < 4294967296
error-short id =
    let number : List ℕ = integer_octets (pos id) in
    let zero-octets : List ℕ = integer_octets (pos 0) in
    let class : List ℕ = element (context 3) zero-octets in
    omega (
      arith,
      length-integer_octets (pos id),
      length-integer_octets (pos 0),
      length-element (context 3) zero-octets,
      length-element (constructed 0) class,
      length-element (constructed 2) (element (constructed 0) class),
      length-element (context 0) number,
      length-append (element (context 0) number)
          (element (constructed 2) (element (constructed 0) class)),
      length-element (constructed 2)
          (element (context 0) number ++ element (constructed 2) (element (constructed 0) class)),
    )

no-service : (n id : ℕ) → service_in n (error_text id Resource) ≡ None
no-service n id =
    let inside : List ℕ =
    element (context 0) (integer_octets (pos id))
    ++ element (constructed 2) (element (constructed 0) (class_text Resource)) in
    ap (λ (o : Option Part). o >>= content_with_tag (constructed 1) >>= values_in >>= part_after_id
    >>= content_with_tag (constructed n))
    (one-read (element (constructed 2) inside) (value (constructed 2) inside)
    (spell-one (constructed 2) inside (omega arith) (error-short id)))

no-read : (id : ℕ) → read_results (error_text id Resource) ≡ None
no-read id =
    ap (λ (o : Option (List ℕ)). o >>= value_in >>= content_with_tag (constructed 1) >>= values_in)
    (no-service 4 id)

no-write : (id : ℕ) → write_results (error_text id Resource) ≡ None
no-write id = ap (λ (o : Option (List ℕ)). o >>= values_in) (no-service 5 id)

pub none-read : (now a : ℕ) (b : Bay) (ns : List MmsName) → observed_in_read now a b ns [] ≡ []
none-read now a b [] = refl
none-read now a b (name ∷ ns) = refl

pub none-written : (now a : ℕ) (b : Bay) (ns : List MmsName) (values : List Datum)
    → observed_in_write now a b ns values [] ≡ []
none-written now a b [] values = refl
none-written now a b (name ∷ ns) [] = refl
none-written now a b (name ∷ ns) (given ∷ values) = refl

-- ---- an answer

-- A PDU that is one value of this tag, none of a report's.
not-report : (tag : Tag) (content : List ℕ) → tag.number < 31 → same_tag tag (constructed 3) ≡ false
    → length (element tag content) < 4294967296 → is_report (element tag content) ≡ false
not-report tag content small other short =
    ap (λ (o : Option Part). is_some (o >>= content_with_tag (constructed 3)))
    (one-read (element tag content) (value tag content) (spell-one tag content small short))
    ∙ ap (λ (b : Bool). is_some (cond b (Some content) None)) other

a-report : (content : List ℕ) → length (element (constructed 3) content) < 4294967296
    → is_report (element (constructed 3) content) ≡ true
a-report content short =
    ap (λ (o : Option Part). is_some (o >>= content_with_tag (constructed 3)))
    (one-read (element (constructed 3) content) (value (constructed 3) content)
    (spell-one (constructed 3) content (omega arith) short))

-- each of these PDUs is a report
abbrev AreReports : List (List ℕ) → Type 0
AreReports [] = Unit {0}
AreReports (pdu ∷ pdus) = (is_report pdu ≡ true) × AreReports pdus

both-reports : (xs ys : List (List ℕ)) → AreReports xs → AreReports ys → AreReports (xs ++ ys)
both-reports [] ys p q = q
both-reports (x ∷ xs) ys p q = (p.0, both-reports xs ys p.1 q)

-- behind reports stands the response
behind-reports : (reports later : List (List ℕ)) (pdu : List ℕ) → AreReports reports
    → is_report pdu ≡ false → first_response true ((reports ++ pdu ∷ []) ++ later) ≡ (pdu, later)
behind-reports [] later pdu all not =
    ap (λ (b : Bool). cond b (first_response true later) (pdu, later)) not
behind-reports (p ∷ reports) later pdu all not =
    ap (λ (b : Bool). cond b (first_response true ((reports ++ pdu ∷ []) ++ later))
    (p, (reports ++ pdu ∷ []) ++ later)) all.0 ∙ behind-reports reports later pdu all.1 not

fitting-if : (fits : Bool) (pdu : List ℕ) → (fits ≡ true → is_report pdu ≡ true)
    → AreReports (option_to_list (cond fits (Some pdu) None))
fitting-if true pdu is = (is refl, tt)
fitting-if false pdu is = tt

reports-if : (c : ClientContext) (has : Bool) (pdu : List ℕ)
    → (nat_le (length pdu) c.size ≡ true → is_report pdu ≡ true)
    → AreReports (cond has (option_to_list (pdu_within_size c.size pdu)) [])
reports-if c true pdu is = fitting-if (nat_le (length pdu) c.size) pdu is
reports-if c false pdu is = tt

module _ (c : ClientContext) (b : Bay) (small : c.size ≤ 65000) where
  refusals-are : (k : ℕ) (item : List ℕ) (control : Control) (answer : Result (Unit {0}) AddCause)
      → AreReports (refusal_reports c k item control b answer)
  refusals-are k item control (Ok done) = tt
  refusals-are k item control (Err why) =
      let report : List ℕ = refusal_report (object_of b item) control why in
      reports-if c (has_reports b k) report
      (λ is. let n = leb-true (length report) c.size is in a-report _ (omega (arith, n, small)))

  decided-are : (k : ℕ) (part : ControlPart) (item : List ℕ) (control : Control) (o : Outcome)
      (w : WriteState) → AreReports w.reports
      → AreReports (after_decision c b k part item control o w).reports
  decided-are k part item control o w all =
      both-reports w.reports (refusal_reports c k item control b o.answer) all
      (refusals-are k item control o.answer)

  write-row-are : (given : Datum) (w : WriteState) (row : Option ℕ) → AreReports w.reports
      → AreReports (write_row c b given w row).reports
  write-row-are given w row all =
      write-by c b w (λ asks asked next. AreReports next.reports) (λ error. all)
      (λ k item o. decided-are k SelectWith item o.control
      (select_with_outcome c.association k (control_request_of o) c.now w.controls) w all)
      (λ k item o. decided-are k Operate item o.control
      (operate_outcome c.association k (control_request_of o) (decision_view c k b) c.now
      w.controls) w
      all)
      (λ k item control. decided-are k Cancel item control
      (cancel_outcome c.association k c.now w.controls) w all)
      given row

  writes-are : (ns : List MmsName) (values : List Datum) (w : WriteState) → AreReports w.reports
      → AreReports (write_all c b ns values w).reports
  writes-are [] values w all = all
  writes-are (name ∷ ns) [] w all = all
  writes-are (name ∷ ns) (given ∷ values) w all =
      writes-are ns values (write_one c b name given w)
      (write-row-are given w (row_named b name) all)

-- ---- the services

abbrev Stands : Bool → List (List ℕ) → List ℕ → Type 0
Stands false reports response = reports ≡ []
Stands true reports response = AreReports reports × (is_report response ≡ false)

-- An answer is a response behind reports, and tells what is seen.
record IsTold (now a : ℕ) (n : Bay) (m : Result MmsRequest MmsFault) (sent : List (List ℕ))
    (entries : List Entry) : Type 0 where
  reports : List (List ℕ)
  response : List ℕ
  is : sent ≡ reports ++ response ∷ []
  stands : Stands (request_may_report m) reports response
  told : observed_in_request now a n m response ≡ entries

first-is : (may : Bool) (reports later : List (List ℕ)) (response : List ℕ)
    → Stands may reports response
    → first_response may ((reports ++ response ∷ []) ++ later) ≡ (response, later)
first-is false reports later response none =
    ap (λ (rs : List (List ℕ)). first_response false ((rs ++ response ∷ []) ++ later)) none
first-is true reports later response stands =
    behind-reports reports later response stands.0 stands.1

module _ (c : ClientContext) (small : c.size ≤ 65000) (n b : Bay) (alike : AreNamedAlike n b) where
  abbrev Told : Result MmsRequest MmsFault → List (List ℕ) → List Entry → Type 0
  Told m sent entries = IsTold c.now c.association n m sent entries

  read-told : (id : ℕ) (ns : List MmsName) (within : Bool)
      → nat_le (length (read_text id (read_all c b ns (initial_read b)).results)) c.size ≡ within
      → Told (Ok (confirmed id (read ns)))
      (cond within (read_sent id b (read_all c b ns (initial_read b)))
      (plain_answer (error_text id Resource) b)).sent
      (cond within (read_entries c b ns (initial_read b)) [])
  read-told id ns true is =
      let all : AllRead c n b ns (initial_read b) = all-read c n b ns (initial_read b) alike in
      let results : List ℕ = (read_all c b ns (initial_read b)).results in
      let size : length (read_text id results) ≤ c.size = leb-true _ _ is in
      let short : length (read_text id results) < 4294967296 = omega (arith, size, small) in
      let more : length all.more < 4294967296 =
      (let same : length results ≡ length all.more = ap (λ (xs : List ℕ). length xs) all.is in
      omega (arith, same, response-more id results, short)) in
      let spelled : SpellAll results all.parts =
      subst (λ (xs : List ℕ). SpellAll xs all.parts) (sym all.is) (all.spelled more) in
      record {
        reports = [];
        response = read_text id results;
        is = refl;
        stands = refl;
        told = ap (λ (o : Option (List Part)). observed_in_read c.now c.association n ns
            (unwrap_or o [])) (read-back id results all.parts short spelled) ∙ all.told;
      }
  read-told id ns false is = record {
    reports = [];
    response = error_text id Resource;
    is = refl;
    stands = refl;
    told = ap (λ (o : Option (List Part)). observed_in_read c.now c.association n ns
        (unwrap_or o []))
        (no-read id) ∙ none-read c.now c.association n ns;
  }

  write-told : (id : ℕ) (ns : List MmsName) (values : List Datum) (within : Bool)
      → nat_le (length (write_text id (write_all c b ns values (initial_write b)).results)) c.size
      ≡ within
      → Told (Ok (confirmed id (write ns values)))
      (cond within (write_sent id b (write_all c b ns values (initial_write b)))
      (plain_answer (error_text id Resource) b)).sent
      (cond within (write_entries c b ns values (initial_write b)) [])
  write-told id ns values true is =
      let all : AllWritten c n b ns values (initial_write b) =
      all-written c n b ns values (initial_write b) alike in
      let w : WriteState = write_all c b ns values (initial_write b) in
      let size : length (write_text id w.results) ≤ c.size = leb-true _ _ is in
      let short : length (write_text id w.results) < 4294967296 = omega (arith, size, small) in
      let more : length all.more < 4294967296 =
      (let same : length w.results ≡ length all.more = ap (λ (xs : List ℕ). length xs) all.is in
      omega (arith, same, write-size id w.results, short)) in
      let spelled : SpellAll w.results all.parts =
      subst (λ (xs : List ℕ). SpellAll xs all.parts) (sym all.is) (all.spelled more) in
      record {
        reports = w.reports;
        response = write_text id w.results;
        is = refl;
        stands = (
          writes-are c b small ns values (initial_write b) tt,
          not-report (constructed 1) _ (omega arith) refl short,
        );
        told = ap (λ (o : Option (List Part)). observed_in_write c.now c.association n ns values
            (unwrap_or o [])) (write-back id w.results all.parts short spelled) ∙ all.told;
      }
  write-told id ns values false is = record {
    reports = [];
    response = error_text id Resource;
    is = refl;
    stands = (tt, not-report (constructed 2) _ (omega arith) refl (error-short id));
    told = ap (λ (o : Option (List Part)). observed_in_write c.now c.association n ns values
        (unwrap_or o [])) (no-write id) ∙ none-written c.now c.association n ns values;
  }

  -- what answers with one PDU, and tells of nothing
  quiet-told : (m : Result MmsRequest MmsFault) (within : Bool) (x y : List ℕ)
      → request_may_report m ≡ false
      → ((pdu : List ℕ) → observed_in_request c.now c.association n m pdu ≡ [])
      → Told m (cond within (plain_answer x b) (plain_answer y b)).sent []
  quiet-told m true x y mute none =
      record { reports = []; response = x; is = refl; stands = rw mute refl; told = none x }
  quiet-told m false x y mute none =
      record { reports = []; response = y; is = refl; stands = rw mute refl; told = none y }

  attributes-told : (id : ℕ) (name : MmsName) (row : Option ℕ)
      → Told (Ok (confirmed id (attributes name))) (attributes_answer c id b row).sent []
  attributes-told id name None =
      record {
        reports = [];
        response = error_text id NoSuchObject;
        is = refl;
        stands = refl;
        told = refl;
      }
  attributes-told id name (Some place) =
      quiet-told (Ok (confirmed id (attributes name))) _ _ _ refl (λ pdu. refl)

  service-told : (id : ℕ) (asking : ServiceRequest)
      → Told (Ok (confirmed id asking)) (service_answer c id b asking).sent
      (service_entries c id b asking)
  service-told id identify = quiet-told (Ok (confirmed id identify)) _ _ _ refl (λ pdu. refl)
  service-told id (names class place after) =
      quiet-told (Ok (confirmed id (names class place after))) _ _ _ refl (λ pdu. refl)
  service-told id (attributes name) = attributes-told id name (row_named b name)
  service-told id (read ns) = read-told id ns _ refl
  service-told id (write ns values) = write-told id ns values _ refl

  message-told : (m : Result MmsRequest MmsFault)
      → Told m (answer_of c b m).sent (message_entries c b m)
  message-told (Ok (initiate proposal)) =
      record { reports = []; response = _; is = refl; stands = refl; told = refl }
  message-told (Ok conclude) =
      record { reports = []; response = _; is = refl; stands = refl; told = refl }
  message-told (Ok (confirmed id asking)) = service-told id asking
  message-told (Err (BadPdu known)) =
      record { reports = []; response = _; is = refl; stands = refl; told = refl }
  message-told (Err (UnknownService id)) =
      record { reports = []; response = _; is = refl; stands = refl; told = refl }
  message-told (Err (TooMany id)) =
      record { reports = []; response = _; is = refl; stands = refl; told = refl }
  message-told (Err OutOfMemory) =
      record { reports = []; response = _; is = refl; stands = refl; told = refl }

-- The first response among the PDUs of an answer and those behind them tells what is seen, and
-- leaves those behind them.
pub response-tells : (c : ClientContext) (pdu : List ℕ) (n b : Bay) (later : List (List ℕ))
    → c.size ≤ 65000 → AreNamedAlike n b
    → (observed_in_pdu c.now c.association pdu n
    (first_response (request_may_report (request_in pdu)) ((pdu_answer c pdu b).sent ++ later)).0
    ≡ entries_on_pdu c pdu b)
    × ((first_response (request_may_report (request_in pdu)) ((pdu_answer c pdu b).sent ++ later)).1
    ≡ later)
response-tells c pdu n b later small alike =
    let t : IsTold c.now c.association n (request_in pdu) (pdu_answer c pdu b).sent
    (entries_on_pdu c pdu b) = message-told c small n b alike (request_in pdu) in
    let first : first_response (request_may_report (request_in pdu))
    ((pdu_answer c pdu b).sent ++ later)
    ≡ (t.response, later) =
    ap (λ (sent : List (List ℕ)). first_response (request_may_report (request_in pdu))
    (sent ++ later))
    t.is
    ∙ first-is (request_may_report (request_in pdu)) t.reports later t.response t.stands in (
      ap (λ (r : (List ℕ) × List (List ℕ)). observed_in_pdu c.now c.association pdu n r.0) first
          ∙ t.told,
      ap (λ (r : (List ℕ) × List (List ℕ)). r.1) first,
    )

-- ---- names behind a PDU

-- other controls change no name
pub alike-still : (n b : Bay) (controls : State) → AreNamedAlike n b
    → AreNamedAlike n (with_controls controls b)
alike-still n b controls alike =
    record { domain = alike.domain; switches = alike.switches; names = alike.names }

pub alike-after : (n : Bay) (c : ClientContext) (pdu : List ℕ) (b : Bay) → AreNamedAlike n b
    → AreNamedAlike n (pdu_answer c pdu b).after
alike-after n c pdu b alike =
    answer-by c b (λ entries x. AreNamedAlike n x.after) (λ pdu few. alike)
    (λ id ns is. alike-still n b _ alike) (λ id ns values is. alike-still n b _ alike)
    (request_in pdu)
