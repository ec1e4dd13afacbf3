-- Answers within the size of a PDU.
use Rattle.std.proofs.Common.{◌≡◌, ◌<◌, ◌≤◌, ℕ, Bool, true, false, cond, nat_le, List, ◌++◌, length, Option, Some, None, Result, Ok, Err, IfOk, IfSome, OnOk, IfErr, ◌⊎◌, inl, inr, pos, is_ok, refl, ap, sym, subst, ◌∙◌, arith}
use Rattle.std.proofs.lemmas.Bool.{cases_lt, le-leb, lt-leb}
use Rattle.bay_base.specs.Exact.{ExactOr}
use Rattle.bay_ber.proofs.SheetLemmas.{past, fits as fits_limit}
use Rattle.std.specs.declared.alloc.AllocError.{AllocError}
use Rattle.std.proofs.lemmas.List.{length-append}
use Rattle.bay_ber.specs.Writing.{element, integer_octets}
use Rattle.bay_ber.specs.declared.tag.Tag.{Tag}
use Rattle.bay_ber.proofs.SizeLemmas.{length-element-is}
use Rattle.bay_mms.proofs.PageLemmas.{more-than}
use Rattle.bay_ber.specs.Tags.{constructed, int_tag}
use Rattle.bay_mms.specs.Responses.{error_text, read_text, write_text}
use Rattle.bay_mms.specs.declared.fault.EncodeFault.{EncodeFault}
use Rattle.bay_mms.specs.declared.fault.EncodeFault.TheVariants.{TooLong, OutOfMemory}
use Rattle.bay_mms.specs.declared.response.ErrorClass.TheVariants.{Resource}
use Rattle.bay_mms.specs.Writing.{AppendsWithin, text_within}
use Rattle.bay_mms_services.specs.Answers.{AnswerData, answer_from_reading, response_answer, plain_answer, one_pdu_answer, answer_within_size, answer_from_writing}
use Rattle.bay_control.specs.Decisions.{State}
use Rattle.bay_mms_services.specs.Bay.{Bay, with_controls}
use Rattle.bay_mms_services.specs.Reads.{ReadState}
use Rattle.bay_mms_services.specs.Replies.{pdu_within_size}
use Rattle.bay_mms_services.specs.Views.{AnswersAs}
use Rattle.bay_mms_services.specs.Writes.{WriteState}
use Rattle.bay_mms_services.specs.declared.answer.PduAnswer.{PduAnswer}
use Rattle.bay_mms_services.specs.declared.answer.ControlDecision.{ControlDecision}
use Rattle.bay_mms_services.specs.declared.client.ClientContext.{ClientContext}

-- ---- what fits

fits-if : (b : Bool) (pdu found : List ℕ) → cond b (Some pdu) None ≡ Some found
    → (b ≡ true) × (found ≡ pdu)
fits-if true pdu found is = (refl, cc)
fits-if false pdu found is = absurd cc

over-if : (b : Bool) (pdu : List ℕ) → cond b (Some pdu) None ≡ None → b ≡ false
over-if true pdu is = absurd cc
over-if false pdu is = refl

pub fits : (size : ℕ) (pdu found : List ℕ) → pdu_within_size size pdu ≡ Some found
    → (nat_le (length pdu) size ≡ true) × (found ≡ pdu)
fits size pdu found is = fits-if (nat_le (length pdu) size) pdu found is

pub over : (size : ℕ) (pdu : List ℕ) → pdu_within_size size pdu ≡ None
    → nat_le (length pdu) size ≡ false
over size pdu is = over-if (nat_le (length pdu) size) pdu is

pub within-fits : (c : ClientContext) (id : ℕ) (b : Bay) (response found : List ℕ)
    (answer : AnswerData)
    → pdu_within_size c.size response ≡ Some found
    → answer_within_size c id b response answer ≡ answer
within-fits c id b response found answer is =
    ap (λ t. cond t answer (plain_answer (error_text id Resource) b))
    (fits c.size response found is).0

pub within-over : (c : ClientContext) (id : ℕ) (b : Bay) (response : List ℕ) (answer : AnswerData)
    → pdu_within_size c.size response ≡ None
    → answer_within_size c id b response answer ≡ plain_answer (error_text id Resource) b
within-over c id b response answer is =
    ap (λ t. cond t answer (plain_answer (error_text id Resource) b)) (over c.size response is)

pub read-over : (c : ClientContext) (id : ℕ) (b : Bay) (r : ReadState) (was : Option (List ℕ))
    → was ≡ pdu_within_size c.size (read_text id r.results) → was ≡ None
    → answer_from_reading c id b r ≡ plain_answer (error_text id Resource) b
read-over c id b r was is none = within-over c id b (read_text id r.results) _ (sym is ∙ none)

pub write-over : (c : ClientContext) (id : ℕ) (b : Bay) (w : WriteState) (was : Option (List ℕ))
    → was ≡ pdu_within_size c.size (write_text id w.results) → was ≡ None
    → answer_from_writing c id b w ≡ plain_answer (error_text id Resource) b
write-over c id b w was is none = within-over c id b (write_text id w.results) _ (sym is ∙ none)

-- ---- answers

pub said_as : (r : Result PduAnswer AllocError) (p : List ℕ) (b : Bay) (x : AnswerData)
    → IfOk r (λ a. (d : Bay) → AnswersAs a d.controls d (plain_answer p d)) → x ≡ plain_answer p b
    → IfOk r (λ a. AnswersAs a b.controls b x)
said_as (Ok a) p b x told is = subst (AnswersAs a b.controls b) (sym is) (told b)
said_as (Err e) p b x told is = tt

pub said-with : (r : Result PduAnswer AllocError) (p : List ℕ) (ds : List ControlDecision)
    (o : State)
    (b : Bay) (x : AnswerData)
    → IfOk r (λ a. (d : Bay) → AnswersAs a d.controls d (one_pdu_answer p ds d))
    → x ≡ one_pdu_answer p ds (with_controls o b)
    → IfOk r (λ a. AnswersAs a o b x)
said-with (Ok a) p ds o b x told is =
    let plain = told b in
    subst (AnswersAs a o b) (sym is) (record {
      sent = plain.sent;
      commands = plain.commands;
      decisions = plain.decisions;
      termination = plain.termination;
      left = refl;
    })
said-with (Err e) p ds o b x told is = tt

pub said_alike : (r : Result PduAnswer AllocError) (p q : List ℕ) → p ≡ q
    → IfOk r (λ a. (d : Bay) → AnswersAs a d.controls d (plain_answer p d))
    → IfOk r (λ a. (d : Bay) → AnswersAs a d.controls d (plain_answer q d))
said_alike r p q is told =
    subst (λ (s : List ℕ). IfOk r (λ a. (d : Bay) → AnswersAs a d.controls d (plain_answer s d))) is
    told

pub responded-fits : (c : ClientContext) (id : ℕ) (b : Bay) (pdu found : List ℕ)
    (was : Option (List ℕ))
    → was ≡ pdu_within_size c.size pdu → was ≡ Some found
    → response_answer c id b pdu ≡ plain_answer found b
responded-fits c id b pdu found was is some =
    let fit = sym is ∙ some in
    within-fits c id b pdu found (plain_answer pdu b) fit
    ∙ ap (λ p. plain_answer p b) (sym (fits c.size pdu found fit).1)

pub responded-over : (c : ClientContext) (id : ℕ) (b : Bay) (pdu : List ℕ) (was : Option (List ℕ))
    → was ≡ pdu_within_size c.size pdu → was ≡ None
    → response_answer c id b pdu ≡ plain_answer (error_text id Resource) b
responded-over c id b pdu was is none =
    within-over c id b pdu (plain_answer pdu b) (sym is ∙ none)

pub read-fits : (c : ClientContext) (id : ℕ) (b : Bay) (r : ReadState) (found : List ℕ)
    (was : Option (List ℕ)) → was ≡ pdu_within_size c.size (read_text id r.results)
    → was ≡ Some found
    → answer_from_reading c id b r ≡ one_pdu_answer found r.decisions (with_controls r.controls b)
read-fits c id b r found was is some =
    let fit = sym is ∙ some in
    within-fits c id b (read_text id r.results) found _ fit
    ∙ ap (λ p. one_pdu_answer p r.decisions (with_controls r.controls b))
    (sym (fits c.size (read_text id r.results) found fit).1)

-- ---- results of calls

-- what follows from two clauses of a success is one
pub both : (r : Result (Unit {0}) AllocError) (P Q R : Type 0) → OnOk r P → OnOk r Q → (P → Q → R)
    → OnOk r R
both (Ok done) P Q R p q f = f p q
both (Err e) P Q R p q f = tt

pub mapped : (r : Result (Unit {0}) AllocError) (P R : Type 0) → OnOk r P → (P → R) → OnOk r R
mapped (Ok done) P R p f = f p
mapped (Err e) P R p f = tt

-- what follows from the octets that were added holds of a success
pub added : (r : Result (Unit {0}) EncodeFault) (size : ℕ) (old new text : List ℕ) (P : Type 0)
    → AppendsWithin size old r new text → (new ≡ old ++ text → P) → OnOk r P
added (Ok done) size old new text P adds f = f adds
added (Err e) size old new text P adds f = tt

pub too_long : (r : Result (Unit {0}) EncodeFault) (size : ℕ) (old new text : List ℕ) (P : Type 0)
    → AppendsWithin size old r new text → (size < length (old ++ text) → P)
    → IfErr r (λ fault. fault ≡ TooLong → P)
too_long (Ok done) size old new text P adds f = tt
too_long (Err TooLong) size old new text P adds f = λ is. f adds
too_long (Err OutOfMemory) size old new text P adds f = λ is. absurd cc

-- ---- texts that are short enough

pub is-written : (size : ℕ) (text : List ℕ) → length text ≤ size → text_within size text ≡ Ok text
is-written size text few = rw (fits_limit size text few) refl

over-written : (size : ℕ) (text : List ℕ) → size < length text → text_within size text ≡ Err TooLong
over-written size text long = rw (past size text long) refl

pub fault-told : (e : EncodeFault) (size : ℕ) (text : List ℕ)
    → (e ≡ TooLong → size < length text) → (e ≡ OutOfMemory) ⊎ (text_within size text ≡ Err e)
fault-told TooLong size text long = inr (over-written size text (long refl))
fault-told OutOfMemory size text long = inl refl

pub fits-given : (size : ℕ) (pdu octets : List ℕ) → text_within size pdu ≡ Ok octets
    → pdu_within_size size pdu ≡ Some octets
fits-given size pdu octets is =
    elim (cases_lt size (length pdu)) [
      | inl long ↦ let e : Err TooLong ≡ Ok octets = sym (over-written size pdu long) ∙ is in cc
      | inr few ↦
          let e : Ok pdu ≡ Ok octets = sym (is-written size pdu few) ∙ is in
          let same : pdu ≡ octets = cc in
          rw (le-leb (length pdu) size few) (ap Some same)
    ]

long-given : (size : ℕ) (pdu : List ℕ)
    → (TooLong ≡ OutOfMemory) ⊎ (text_within size pdu ≡ Err TooLong)
    → pdu_within_size size pdu ≡ None
long-given size pdu (inl memory) = cc
long-given size pdu (inr is) =
    elim (cases_lt size (length pdu)) [
      | inl long ↦ rw (lt-leb (length pdu) size long) refl
      | inr few ↦ let e : Ok pdu ≡ Err TooLong = sym (is-written size pdu few) ∙ is in cc
    ]

long-told : (made : Result (List ℕ) EncodeFault) (e : EncodeFault) (size : ℕ)
    (pdu : List ℕ) → made ≡ Err e → e ≡ TooLong
    → ExactOr OutOfMemory (λ (octets : List ℕ). octets) made (text_within size pdu)
    → pdu_within_size size pdu ≡ None
long-told made e size pdu is told gives = long-given size pdu (rw (is, told) at gives)

pub lost-told : (r : Result (Option (List ℕ)) AllocError) (made : Result (List ℕ) EncodeFault)
    (e : EncodeFault) (size : ℕ) (pdu : List ℕ) → made ≡ Err e
    → IfOk r (λ found. (found ≡ None) × (e ≡ TooLong))
    → ExactOr OutOfMemory (λ (octets : List ℕ). octets) made (text_within size pdu)
    → IfOk r (λ found. found ≡ pdu_within_size size pdu)
lost-told (Ok found) made e size pdu is h gives =
    h.0 ∙ sym (long-told made e size pdu is h.1 gives)
lost-told (Err none) made e size pdu is h gives = tt

pub lost_none : (r : Result (Option (List ℕ)) AllocError) (P Q : Type 0)
    → IfOk r (λ found. (found ≡ None) × P) → IfOk r (λ found. IfSome found (λ octets. Q))
lost_none (Ok found) P Q h = rw h.0 tt
lost_none (Err none) P Q h = tt

-- a content is no longer than what it stands in
pub element-more : (tag : Tag) (content : List ℕ) → length content ≤ length (element tag content)
element-more tag content = omega (arith, length-element-is tag content, more-than (length content))

-- a response has its results in it
pub response-more : (id : ℕ) (results : List ℕ) → length results ≤ length (read_text id results)
response-more id results =
    let one = element (constructed 1) results in
    let four = element (constructed 4) one in
    let number = element int_tag (integer_octets (pos id)) in
    omega (
      arith,
      element-more (constructed 1) results,
      element-more (constructed 4) one,
      length-append number four,
      element-more (constructed 1) (number ++ four),
    )

-- what holds of a success holds, where there is one
pub done : (r : Result (List ℕ) EncodeFault) (P : Type 0) → is_ok r ≡ true → OnOk r P → P
done (Ok x) P is p = p
done (Err e) P is p = absurd cc

pub all_three : (r : Result (Unit {0}) AllocError) (P Q S R : Type 0) → OnOk r P → OnOk r Q
    → OnOk r S → (P → Q → S → R) → OnOk r R
all_three (Ok done) P Q S R p q s f = f p q s
all_three (Err e) P Q S R p q s f = tt

pub answered_from : (r : Result PduAnswer AllocError) (x : Bay → AnswerData) (b : Bay)
    (y : AnswerData)
    → IfOk r (λ a. (d : Bay) → AnswersAs a d.controls d (x d)) → y ≡ x b
    → IfOk r (λ a. AnswersAs a b.controls b y)
answered_from (Ok a) x b y told is = subst (AnswersAs a b.controls b) (sym is) (told b)
answered_from (Err e) x b y told is = tt
