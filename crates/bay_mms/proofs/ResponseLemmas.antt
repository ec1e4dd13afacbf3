-- How long pages are, and the results of a read in their response.
use Rattle.std.proofs.Common.{◌≡◌, ℕ, ℤ, pos, Bool, true, false, ◌+◌, ◌-◌, ◌<◌, ◌≤◌, Option, Some, None, is_none, List, [], ◌++◌, length, get_or, drop, Result, Ok, Err, refl, sym, ap, ◌∙◌, arith, inl, inr}
use Rattle.std.proofs.lemmas.Bool.{cases_lt}
use Rattle.std.proofs.lemmas.List.{drop_all, drop_more, length-append}
use Rattle.std.specs.Option.{option_map}
use Rattle.bay_base.specs.Options.{◌>>=◌}
use Rattle.bay_ber.specs.EncoderBuffers.{EncoderBuffer, text_within_limit, text_with, buffer_with, message, value_around}
use Rattle.bay_ber.specs.Writing.{element, element_length, integer_octets, truth_octets}
use Rattle.bay_ber.specs.declared.tag.Tag.{Tag}
use Rattle.bay_ber.proofs.SheetLemmas.{no-room, room, put_nil, put-put, heads-put, limit-put, message-front, within-longer}
use Rattle.bay_ber.proofs.SizeLemmas.{length-element-is, length-integer}
use Rattle.bay_mms.specs.declared.fault.EncodeFault.{EncodeFault}
use Rattle.bay_mms.specs.declared.fault.EncodeFault.TheVariants.{TooLong, OutOfMemory}
use Rattle.bay_ber.specs.Tags.{context, constructed, int_tag, visible_tag}
use Rattle.bay_mms.specs.Responses.{names_text, page_text, read_text}
use Rattle.bay_mms.specs.Writing.{AppendsWithin, ChecksLimit, HoldsResults, octets_in}
use Rattle.bay_ber.proofs.SheetLemmas.{content-less}

-- ---- a page

truth-short : (more : Bool) → length (truth_octets more) ≡ 1
truth-short true = refl
truth-short false = refl

pub page-is : (id : ℕ) (texts : List (List ℕ)) (more : Bool)
    → length (page_text id texts more)
    ≡ element_length (element_length (length (integer_octets (pos id)))
    + element_length (element_length (length (names_text texts)) + 3))
page-is id texts more =
    let number : List ℕ = element int_tag (integer_octets (pos id)) in
    let list : List ℕ = element (constructed 0) (names_text texts) in
    let flag : List ℕ = element (context 1) (truth_octets more) in
    let service : List ℕ = element (constructed 1) (list ++ flag) in
    let three : length flag ≡ 3 =
    length-element-is (context 1) (truth_octets more) ∙ ap element_length (truth-short more) in
    let whole : length (list ++ flag) ≡ element_length (length (names_text texts)) + 3 =
    length-append list flag
    ∙ ap (λ (n : ℕ). n + length flag) (length-element-is (constructed 0) (names_text texts))
    ∙ ap (λ (n : ℕ). element_length (length (names_text texts)) + n) three in
    let a : length service ≡ element_length (element_length (length (names_text texts)) + 3) =
    length-element-is (constructed 1) (list ++ flag) ∙ ap element_length whole in
    let b : length number ≡ element_length (length (integer_octets (pos id))) =
    length-element-is int_tag (integer_octets (pos id)) in
    length-element-is (constructed 1) (number ++ service)
    ∙ ap element_length (length-append number service ∙ ap (λ (n : ℕ). n + length service) b
    ∙ ap (λ (n : ℕ). element_length (length (integer_octets (pos id))) + n) a)

-- ---- names, one behind another

pub names-next : (writer new whole : EncoderBuffer) (names : List (List ℕ)) (i : ℕ)
    (name d : List ℕ)
    → i < length names → name ≡ get_or names i d
    → new ≡ buffer_with writer (element visible_tag name)
    → buffer_with writer (names_text (drop i names)) ≡ whole
    → buffer_with new (names_text (drop (i + 1) names)) ≡ whole
names-next writer new whole names i name d lt is added all =
    let rest = names_text (drop (i + 1) names) in
    ap (λ (s : EncoderBuffer). buffer_with s rest) added
    ∙ put-put writer (element visible_tag name) rest
    ∙ ap (λ (ys : List ℕ). buffer_with writer ys)
    (rw is (ap names_text (sym (drop_more names i d lt)))) ∙ all

pub names-end : (writer whole : EncoderBuffer) (names : List (List ℕ)) (i : ℕ) → length names ≤ i
    → buffer_with writer (names_text (drop i names)) ≡ whole → writer ≡ whole
names-end writer whole names i past all =
    sym (put_nil writer) ∙ ap (λ (ns : List (List ℕ)). buffer_with writer (names_text ns))
    (sym (drop_all i names past)) ∙ all

-- ---- what a call adds to the results of a read

text-is : (buffer : EncoderBuffer) (text : List ℕ)
    → (buffer_with buffer text).text ≡ text_with buffer.limit buffer.text text
unfolding buffer_with
text-is buffer text = refl

adds-by : (r : Result (Unit {0}) EncodeFault) (limit : ℕ) (old : Option (List ℕ))
    (middle new : EncoderBuffer) (text : List ℕ) → is_none old ≡ false
    → middle.text ≡ text_with limit old text → ChecksLimit middle r new
    → AppendsWithin limit (octets_in old) r (octets_in new.text) text
adds-by r limit None middle new text some at h = absurd cc
adds-by (Ok done) limit (Some old) middle new text some at h =
    elim (cases_lt (limit - length old) (length text)) [
      | inl lt ↦
          let no : is_none middle.text ≡ true = ap is_none (at ∙ no-room limit old text lt) in
          let both : true ≡ false = sym no ∙ h.0 in
          absurd cc
      | inr le ↦ ap octets_in (ap (λ (s : EncoderBuffer). s.text) h.1 ∙ at ∙ room limit old text le)
    ]
adds-by (Err TooLong) limit (Some old) middle new text some at h =
    elim (cases_lt (limit - length old) (length text)) [
      | inl lt ↦ omega (arith, length-append old text)
      | inr le ↦
          let no : is_none middle.text ≡ false = ap is_none (at ∙ room limit old text le) in
          let both : false ≡ true = sym no ∙ h.0 in
          absurd cc
    ]
adds-by (Err OutOfMemory) limit (Some old) middle new text some at h = tt

pub adds-held : (r : Result (Unit {0}) EncodeFault) (old middle new : EncoderBuffer) (text : List ℕ)
    → HoldsResults old → middle ≡ buffer_with old text → ChecksLimit middle r new
    → AppendsWithin old.limit (octets_in old.text) r (octets_in new.text) text
adds-held r old middle new text holds is h =
    adds-by r old.limit old.text middle new text holds.held
    (ap (λ (s : EncoderBuffer). s.text) is ∙ text-is old text) h

pub holds-held : (r : Result (Unit {0}) EncodeFault) (old middle new : EncoderBuffer)
    (text : List ℕ)
    → HoldsResults old → middle ≡ buffer_with old text → ChecksLimit middle r new → HoldsResults new
holds-held (Ok done) old middle new text holds is h =
    record {
      none = ap (λ (s : EncoderBuffer). s.headers) (h.1 ∙ is) ∙ heads-put old text ∙ holds.none;
      held = ap (λ (s : EncoderBuffer). is_none s.text) h.1 ∙ h.0;
    }
holds-held (Err TooLong) old middle new text holds is h =
    record {
      none = ap (λ (s : EncoderBuffer). s.headers) h.1;
      held = ap (λ (s : EncoderBuffer). is_none s.text) h.1;
    }
holds-held (Err OutOfMemory) old middle new text holds is h = absurd h

pub size-held : (r : Result (Unit {0}) EncodeFault) (old middle new : EncoderBuffer) (text : List ℕ)
    → middle ≡ buffer_with old text → ChecksLimit middle r new → new.limit ≡ old.limit
size-held (Ok done) old middle new text is h =
    ap (λ (s : EncoderBuffer). s.limit) (h.1 ∙ is) ∙ limit-put old text
size-held (Err TooLong) old middle new text is h =
    ap (λ (s : EncoderBuffer). s.limit) h.1 ∙ ap (λ (s : EncoderBuffer). s.limit) is
    ∙ limit-put old text
size-held (Err OutOfMemory) old middle new text is h = absurd h

-- ---- the response around them

message-held : (headers : List ℕ) (text : Option (List ℕ)) (limit : ℕ) → headers ≡ []
    → is_none text ≡ false
    → message (record { limit = limit; headers = headers; text = text }) ≡ Some (octets_in text)
unfolding message
message-held headers None limit none some = absurd cc
message-held headers (Some text) limit none some = rw none refl

pub is-held : (buffer : EncoderBuffer) → HoldsResults buffer
    → message buffer ≡ Some (octets_in buffer.text)
is-held buffer holds = message-held buffer.headers buffer.text buffer.limit holds.none holds.held

map-then : (g : List ℕ → List ℕ) (f : List ℕ → Option (List ℕ)) (m : Option (List ℕ))
    → (option_map g m >>= f) ≡ (m >>= λ t. f (g t))
map-then g f None = refl
map-then g f (Some t) = refl

longer : (id : ℕ) (text : List ℕ)
    → length text
    ≤ length (element (constructed 1) (element int_tag (integer_octets (pos id)) ++ text))
longer id text =
    let number = element int_tag (integer_octets (pos id)) in
    omega (arith, content-less (constructed 1) (number ++ text), length-append number text)

pub read-is : (id size : ℕ) (octets : List ℕ) (first second third last : Option (List ℕ))
    → first ≡ value_around (constructed 1) size (Some octets)
    → second ≡ value_around (constructed 4) size first
    → third ≡ option_map (λ t. element int_tag (integer_octets (pos id)) ++ t) second
    → last ≡ value_around (constructed 1) size third
    → last ≡ text_within_limit size (read_text id octets)
read-is id size octets first second third last f s t l =
    let list = element (constructed 1) octets in
    let service = element (constructed 4) list in
    let number = element int_tag (integer_octets (pos id)) in
    let less = content-less (constructed 4) list in
    let two : second ≡ text_within_limit size service =
    s ∙ rw f (within-longer (element (constructed 4)) size list (omega arith)) in
    l ∙ rw (t, two) (map-then (λ u. number ++ u)
    (λ u. text_within_limit size (element (constructed 1) u))
    (text_within_limit size service)
    ∙ within-longer (λ u. element (constructed 1) (number ++ u)) size service (longer id service))

pub number-few : (old new : EncoderBuffer) (tag : Tag) (value : ℤ)
    → new ≡ record {
      limit = old.limit;
      headers = element tag (integer_octets value) ++ old.headers;
      text = old.text;
    }
    → length new.headers ≤ length old.headers + 14
number-few old new tag value is =
    rw is (omega (
      arith,
      length-append (element tag (integer_octets value)) old.headers,
      length-integer tag value,
    ))

pub response-is : (id : ℕ) (old one four numbered whole : EncoderBuffer) → HoldsResults old
    → one.limit ≡ old.limit → message one ≡ value_around (constructed 1) old.limit (message old)
    → four.limit ≡ one.limit → message four ≡ value_around (constructed 4) one.limit (message one)
    → numbered ≡ record {
      limit = four.limit;
      headers = element int_tag (integer_octets (pos id)) ++ four.headers;
      text = four.text;
    }
    → message whole ≡ value_around (constructed 1) numbered.limit (message numbered)
    → message whole ≡ text_within_limit old.limit (read_text id (octets_in old.text))
response-is id old one four numbered whole holds one_limit is_one four_limit is_four is_numbered
    is_whole =
    let number = element int_tag (integer_octets (pos id)) in
    let limit : numbered.limit ≡ old.limit =
    ap (λ (s : EncoderBuffer). s.limit) is_numbered ∙ four_limit ∙ one_limit in
    read-is id old.limit (octets_in old.text) (message one) (message four) (message numbered)
    (message whole)
    (is_one ∙ ap (value_around (constructed 1) old.limit) (is-held old holds))
    (is_four ∙ ap (λ (n : ℕ). value_around (constructed 4) n (message one)) one_limit)
    (ap message is_numbered ∙ message-front four number)
    (is_whole ∙ ap (λ (n : ℕ). value_around (constructed 1) n (message numbered)) limit)
