-- Each PDU of an answer has at most 65,000 octets, and so have the reports of an end.
use Rattle.std.proofs.Common.{◌≡◌, ◌≤◌, ℕ, zero, suc, Bool, true, false, cond, nat_le, All, IfSome, List, [], ◌∷◌, ◌++◌, length, Option, Some, None, option_to_list, Result, Ok, Err, refl, arith}
use Rattle.std.proofs.lemmas.List.Elements.{All-append}
use Rattle.bay_control.specs.Decisions.{Outcome, cancel_outcome, operate_outcome, select_with_outcome}
use Rattle.bay_control.specs.declared.cause.AddCause.{AddCause}
use Rattle.bay_mms.specs.Controls as asked
use Rattle.bay_mms.specs.Controls.{Control}
use Rattle.bay_mms.specs.Data.{Datum}
use Rattle.bay_mms.specs.Requests.{MmsName, MmsRequest}
use Rattle.bay_mms.specs.Responses.{write_text}
use Rattle.bay_mms.specs.declared.fault.MmsFault.{MmsFault}
use Rattle.bay_mms_services.specs.Answers.{AnswerData, answer_of}
use Rattle.bay_mms_services.specs.Bay.{Bay}
use Rattle.bay_mms_services.specs.Controls as controls
use Rattle.bay_mms_services.specs.Controls.{IsShort, control_request_of, termination_reports, accepted_termination, failed_report, has_reports, object_of, refusal_report, refusal_reports, termination_report, decision_view}
use Rattle.bay_mms_services.specs.Replies.{pdu_within_size}
use Rattle.bay_mms_services.specs.Rows.{row_named}
use Rattle.bay_mms_services.specs.Writes.{WriteState, after_decision, later_ending, initial_write, write_operate, write_all, write_one, write_row}
use Rattle.bay_mms_services.specs.declared.answer.TerminationReports.{TerminationReports}
use Rattle.bay_mms_services.specs.declared.client.ClientContext.{ClientContext}
use Rattle.bay_mms_services.proofs.WalkLemmas.{answer-by, fits-size, write-by}
use Rattle.bay_mms_services.specs.declared.target.ControlPart.{ControlPart}
use Rattle.bay_mms_services.specs.declared.target.ControlPart.TheVariants.{SelectWith, Operate, Cancel}

-- each of these PDUs is short
abbrev pub AreShort : List (List ℕ) → Type 0
AreShort pdus = All {X = List ℕ} (λ pdu. length pdu ≤ 65000) pdus

none-long : AreShort []
none-long = λ k d lt. absurd (omega arith)

one-short : (pdu : List ℕ) → length pdu ≤ 65000 → AreShort (pdu ∷ [])
one-short pdu few zero d lt = few
one-short pdu few (suc k) d lt = absurd (omega arith)

both-short : (xs ys : List (List ℕ)) → AreShort xs → AreShort ys → AreShort (xs ++ ys)
both-short xs ys a b = All-append (λ (pdu : List ℕ). length pdu ≤ 65000) xs ys a b

-- ---- the reports of a write

fitting-if : (size : ℕ) (pdu : List ℕ) (t : Bool) → nat_le (length pdu) size ≡ t → size ≤ 65000
    → AreShort (option_to_list (cond t (Some pdu) None))
fitting-if size pdu true is most = one-short pdu (fits-size size pdu most is)
fitting-if size pdu false is most = none-long

report-if : (c : ClientContext) (pdu : List ℕ) (t : Bool) → c.size ≤ 65000
    → AreShort (cond t (option_to_list (pdu_within_size c.size pdu)) [])
report-if c pdu true most = fitting-if c.size pdu (nat_le (length pdu) c.size) refl most
report-if c pdu false most = none-long

refusals-short : (c : ClientContext) (k : ℕ) (item : List ℕ) (control : Control) (b : Bay)
    (answer : Result (Unit {0}) AddCause) → c.size ≤ 65000
    → AreShort (refusal_reports c k item control b answer)
refusals-short c k item control b (Ok done) most = none-long
refusals-short c k item control b (Err why) most =
    report-if c (refusal_report (object_of b item) control why) (has_reports b k) most

-- ---- the reports of an end

fitting-some : (size : ℕ) (pdu : List ℕ) (t : Bool) → nat_le (length pdu) size ≡ t → size ≤ 65000
    → IfSome (cond t (Some pdu) None) (λ p. length p ≤ 65000)
fitting-some size pdu true is most = fits-size size pdu most is
fitting-some size pdu false is most = tt

ending-short : (c : ClientContext) (item : List ℕ) (o : asked.Operate) (b : Bay) → c.size ≤ 65000
    → controls.AreShort (termination_reports c item o b)
ending-short c item o b most = record {
  positive =
      fitting-some c.size (termination_report b.domain item o)
      (nat_le (length (termination_report b.domain item o)) c.size) refl most;
  negative =
      fitting-some c.size (failed_report (object_of b item) b.domain item o)
      (nat_le (length (failed_report (object_of b item) b.domain item o)) c.size) refl most;
}

endings-if : (c : ClientContext) (item : List ℕ) (o : asked.Operate) (b : Bay) (t : Bool)
    → c.size ≤ 65000
    → IsShort (cond t (Some (termination_reports c item o b)) None)
endings-if c item o b true most = ending-short c item o b most
endings-if c item o b false most = tt

endings-short : (c : ClientContext) (k : ℕ) (item : List ℕ) (o : asked.Operate) (b : Bay)
    (answer : Result (Unit {0}) AddCause) → c.size ≤ 65000
    → IsShort (accepted_termination c k item o b answer)
endings-short c k item o b (Ok done) most = endings-if c item o b (has_reports b k) most
endings-short c k item o b (Err why) most = tt

later-short : (before later : Option TerminationReports) → IsShort before → IsShort later
    → IsShort (later_ending before later)
later-short before None a b = a
later-short before (Some termination) a b = b

-- ---- what a write makes

abbrev IsFit : WriteState → Type 0
IsFit w = AreShort w.reports × IsShort w.termination

module _ (c : ClientContext) (b : Bay) (most : c.size ≤ 65000) where
  decided-short : (k : ℕ) (part : ControlPart) (item : List ℕ) (control : Control) (o : Outcome)
      (w : WriteState) → IsFit w → IsFit (after_decision c b k part item control o w)
  decided-short k part item control o w short = (
    both-short w.reports (refusal_reports c k item control b o.answer) short.0
        (refusals-short c k item control b o.answer most),
    short.1,
  )

  operate-short : (k : ℕ) (item : List ℕ) (w : WriteState) (o : asked.Operate)
      → IsFit w → IsFit (write_operate c b k item w (Ok o))
  operate-short k item w o short =
      let out =
      operate_outcome c.association k (control_request_of o) (decision_view c k b) c.now w.controls
      in (
        (decided-short k Operate item o.control out w short).0,
        later-short w.termination (accepted_termination c k item o b out.answer) short.1
            (endings-short c k item o b out.answer most),
      )

  row-short : (given : Datum) (w : WriteState) (row : Option ℕ) → IsFit w
      → IsFit (write_row c b given w row)
  row-short given w row short =
      write-by c b w (λ asks asked next. IsFit next) (λ error. short)
      (λ k item o. decided-short k SelectWith item o.control
      (select_with_outcome c.association k (control_request_of o) c.now w.controls) w short)
      (λ k item o. operate-short k item w o short)
      (λ k item control. decided-short k Cancel item control
      (cancel_outcome c.association k c.now w.controls) w short)
      given row

  all-short : (ns : List MmsName) (values : List Datum) (w : WriteState) → IsFit w
      → IsFit (write_all c b ns values w)
  all-short [] values w short = short
  all-short (n ∷ ns) [] w short = short
  all-short (n ∷ ns) (given ∷ values) w short =
      all-short ns values (write_one c b n given w) (row-short given w (row_named b n) short)

-- ---- all answers

-- what is sent is short, and so are the reports of an end
abbrev pub IsBrief : AnswerData → Type 0
IsBrief x = AreShort x.sent × IsShort x.termination

pub answer-brief : (c : ClientContext) (b : Bay) (m : Result MmsRequest MmsFault) → c.size ≤ 65000
    → IsBrief (answer_of c b m)
answer-brief c b m most =
    answer-by c b (λ entries x. IsBrief x) (λ pdu few. (one-short pdu (few most), tt))
    (λ id ns is. (one-short _ (fits-size c.size _ most is), tt))
    (λ id ns values is. let w = write_all c b ns values (initial_write b) in
    let all = all-short c b most ns values (initial_write b) (none-long, tt) in (
      both-short w.reports (write_text id w.results ∷ []) all.0
          (one-short _ (fits-size c.size (write_text id w.results) most is)),
      all.1,
    )) m

pub answer-short : (c : ClientContext) (b : Bay) (x : Result MmsRequest MmsFault) → c.size ≤ 65000
    → AreShort (answer_of c b x).sent
answer-short c b x most = (answer-brief c b x most).0
