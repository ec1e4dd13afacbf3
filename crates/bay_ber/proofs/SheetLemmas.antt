-- What callers need of a writer: octets one behind another, and values.
use Rattle.std.proofs.Common.{◌≡◌, ℕ, ◌+◌, ◌-◌, ◌<◌, ◌≤◌, Bool, true, false, cond, ltb, List, [], ◌∷◌, ◌++◌, length, get_or, take, drop, Option, Some, None, refl, sym, ap, ◌∙◌, arith, inl, inr}
use Rattle.std.proofs.lemmas.Bool.{cases_lt, lt-ltb, le-ltb}
use Rattle.bay_ber.proofs.SizeLemmas.{length-length_octets}
use Rattle.std.proofs.lemmas.List.{append-nil, append_assoc, length-append, take_all, take_at, drop_at, take_more, get_or_at, flat_map_more}
use Rattle.std.specs.Int.{bytes_high_first}
use Rattle.std.specs.List.{flat_map}
use Rattle.bay_base.specs.Options.{◌>>=◌}
use Rattle.std.specs.Option.{option_map}
use Rattle.bay_ber.specs.declared.tag.Tag.{Tag}
use Rattle.bay_ber.specs.Spelling.{octet_of}
use Rattle.bay_ber.specs.Writing.{octets_needed, length_octets, element}
use Rattle.bay_ber.specs.EncoderBuffers.{EncoderBuffer, short_value, empty_buffer, text_within_limit, text_with, buffer_with, wrap_as_value, close_value, message, value_around, with_headers, IsTextLength, IsTextEnd, HasTwoAt, IsOpen}

-- a text longer than the limit is none
pub past : (limit : ℕ) (text : List ℕ) → limit < length text → text_within_limit limit text ≡ None
past limit text lt = rw (lt-ltb limit (length text) lt) refl

-- a text within the limit stays as it is
pub fits : (limit : ℕ) (text : List ℕ) → length text ≤ limit
    → text_within_limit limit text ≡ Some text
fits limit text le = rw (le-ltb limit (length text) le) refl

-- ---- octets one behind another

pub no-room : (limit : ℕ) (text octets : List ℕ) → limit - length text < length octets
    → text_with limit (Some text) octets ≡ None
no-room limit text octets lt = rw (lt-ltb (limit - length text) (length octets) lt) refl

-- octets for which there is room stand behind the text
pub room : (limit : ℕ) (text octets : List ℕ) → length octets ≤ limit - length text
    → text_with limit (Some text) octets ≡ Some (text ++ octets)
room limit text octets le = rw (le-ltb (limit - length text) (length octets) le) refl

joined-joined : (limit : ℕ) (text : Option (List ℕ)) (xs ys : List ℕ)
    → text_with limit (text_with limit text xs) ys ≡ text_with limit text (xs ++ ys)
joined-joined limit None xs ys = refl
joined-joined limit (Some text) xs ys =
    let n = length-append text xs in
    let m = length-append xs ys in
    elim (cases_lt (limit - length text) (length xs)) [
      | inl lt ↦ rw (no-room limit text xs lt) (sym (no-room limit text (xs ++ ys) (omega arith)))
      | inr le ↦ elim (cases_lt (limit - length (text ++ xs)) (length ys)) [
        | inl lt ↦
            rw (room limit text xs le, no-room limit (text ++ xs) ys lt)
            (sym (no-room limit text (xs ++ ys) (omega arith)))
        | inr all ↦
            rw (
              room limit text xs le,
              room limit (text ++ xs) ys all,
              room limit text (xs ++ ys) (omega arith),
              append_assoc text xs ys,
            ) refl
      ]
    ]

joined-nil : (limit : ℕ) (text : Option (List ℕ)) → text_with limit text [] ≡ text
joined-nil limit None = refl
joined-nil limit (Some text) =
    room limit text [] (omega arith) ∙ ap (λ (ys : List ℕ). Some ys) (append-nil text)

pub put_nil : (buffer : EncoderBuffer) → buffer_with buffer [] ≡ buffer
unfolding buffer_with
put_nil buffer = rw (joined-nil buffer.limit buffer.text) refl

pub put-put : (buffer : EncoderBuffer) (xs ys : List ℕ)
    → buffer_with (buffer_with buffer xs) ys ≡ buffer_with buffer (xs ++ ys)
unfolding buffer_with
put-put buffer xs ys = rw (joined-joined buffer.limit buffer.text xs ys) refl

pub put-twice : (old middle new : EncoderBuffer) (xs ys : List ℕ) → middle ≡ buffer_with old xs
    → new ≡ buffer_with middle ys → new ≡ buffer_with old (xs ++ ys)
put-twice old middle new xs ys first last = last ∙ rw first (put-put old xs ys)

-- ---- values

pub length-octets : (n : ℕ) → 1 ≤ length (length_octets n)
unfolding length_octets
length-octets n =
    elim (ltb n 128) as (λ (b : Bool). 1
    ≤ length (cond b (n ∷ []) ((128 + octets_needed n) ∷ bytes_high_first (octets_needed n) n))) [
      | true ↦ omega arith
      | false ↦ omega arith
    ]

pub length-tagged : (tag : ℕ) (content : List ℕ)
    → length (short_value tag content)
    ≡ 1 + length (length_octets (length content)) + length content
unfolding short_value
length-tagged tag content =
    omega (arith, length-append (length_octets (length content)) content)

rewritten-joined : (limit : ℕ) (text : Option (List ℕ)) (start tag : ℕ) (content : List ℕ)
    → IsTextLength start text
    → wrap_as_value limit (text_with limit text (tag ∷ 0 ∷ content)) start
    ≡ text_with limit text (short_value tag content)
rewritten-joined limit None start tag content at = refl
rewritten-joined limit (Some text) start tag content at =
    let open_text = text ++ tag ∷ 0 ∷ content in
    let n = length-append text (tag ∷ 0 ∷ content) in
    let m = length-append text (short_value tag content) in
    let k = length-tagged tag content in
    let some = length-octets (length content) in
    let front : take start open_text ≡ text = take_at text (tag ∷ 0 ∷ content) start (sym at) in
    let octet_is : get_or open_text start 0 ≡ tag =
    get_or_at text tag (0 ∷ content) 0 start (sym at) in
    let more : drop (start + 2) open_text ≡ content =
    rw (← append_assoc text (tag ∷ 0 ∷ []) content)
    (drop_at (text ++ tag ∷ 0 ∷ []) content (start + 2)
    (length-append text (tag ∷ 0 ∷ []) ∙ omega arith)) in
    elim (cases_lt (limit - length text) (length (tag ∷ 0 ∷ content))) [
      | inl lt ↦
          rw (no-room limit text (tag ∷ 0 ∷ content) lt)
          (sym (no-room limit text (short_value tag content) (omega arith)))
      | inr le ↦ elim (cases_lt limit (length (text ++ short_value tag content))) [
        | inl lt ↦
            rw (
              room limit text (tag ∷ 0 ∷ content) le,
              front,
              octet_is,
              more,
              past limit (text ++ short_value tag content) lt,
            )
            (sym (no-room limit text (short_value tag content) (omega arith)))
        | inr all ↦
            rw (
              room limit text (tag ∷ 0 ∷ content) le,
              front,
              octet_is,
              more,
              fits limit (text ++ short_value tag content) all,
            )
            (sym (room limit text (short_value tag content) (omega arith)))
      ]
    ]

-- what was opened, written and closed is the value
pub closed-put : (buffer : EncoderBuffer) (start tag : ℕ) (content : List ℕ)
    → IsTextEnd start buffer
    → close_value (buffer_with buffer (tag ∷ 0 ∷ content)) start
    ≡ buffer_with buffer (short_value tag content)
unfolding buffer_with close_value IsTextEnd
closed-put buffer start tag content at =
    rw (rewritten-joined buffer.limit buffer.text start tag content at) refl

two-at : (limit : ℕ) (text : Option (List ℕ)) (start tag : ℕ) (content : List ℕ)
    → IsTextLength start text → HasTwoAt start (text_with limit text (tag ∷ 0 ∷ content))
two-at limit None start tag content at = tt
two-at limit (Some text) start tag content at =
    let n = length-append text (tag ∷ 0 ∷ content) in
    elim (cases_lt (limit - length text) (length (tag ∷ 0 ∷ content))) [
      | inl lt ↦ rw (no-room limit text (tag ∷ 0 ∷ content) lt) tt
      | inr le ↦ rw (room limit text (tag ∷ 0 ∷ content) le) (omega arith)
    ]

pub is_open-put : (buffer : EncoderBuffer) (start tag : ℕ) (content : List ℕ)
    → IsTextEnd start buffer
    → IsOpen start (buffer_with buffer (tag ∷ 0 ∷ content))
unfolding buffer_with IsTextEnd IsOpen
is_open-put buffer start tag content at = two-at buffer.limit buffer.text start tag content at

pub element-tagged : (tag : Tag) (content : List ℕ)
    → element tag content ≡ short_value (octet_of tag) content
unfolding element short_value
element-tagged tag content = refl

pub short-value : (old middle new : EncoderBuffer) (tag : Tag) (octet : ℕ) (content : List ℕ)
    → octet ≡ octet_of tag → length content < 128
    → middle ≡ buffer_with old (octet ∷ length content ∷ []) → new ≡ buffer_with middle content
    → new ≡ buffer_with old (element tag content)
unfolding element
short-value old middle new tag octet content is few first last =
    let e : length_octets (length content) ≡ length content ∷ [] =
    unfold length_octets in rw (lt-ltb (length content) 128 few) refl in
    last ∙ rw (first, put-put old (octet ∷ length content ∷ []) content, is, e) refl

opened-value : (old opened new : EncoderBuffer) (tag : Tag) (content : List ℕ)
    → opened ≡ buffer_with old (octet_of tag ∷ 0 ∷ []) → new ≡ buffer_with opened content
    → new ≡ buffer_with old (octet_of tag ∷ 0 ∷ content)
opened-value old opened new tag content first last =
    last ∙ rw first (put-put old (octet_of tag ∷ 0 ∷ []) content)

pub open-value : (old opened new : EncoderBuffer) (tag : Tag) (start : ℕ) (content : List ℕ)
    → IsTextEnd start old → opened ≡ buffer_with old (octet_of tag ∷ 0 ∷ [])
    → new ≡ buffer_with opened content
    → IsOpen start new
open-value old opened new tag start content at first last =
    rw (opened-value old opened new tag content first last)
    (is_open-put old start (octet_of tag) content at)

pub long-value : (old opened middle new : EncoderBuffer) (tag : Tag) (start : ℕ) (content : List ℕ)
    → IsTextEnd start old → opened ≡ buffer_with old (octet_of tag ∷ 0 ∷ [])
    → middle ≡ buffer_with opened content
    → new ≡ close_value middle start → new ≡ buffer_with old (element tag content)
long-value old opened middle new tag start content at first next last =
    last ∙ rw (opened-value old opened middle tag content first next, element-tagged tag content)
    (closed-put old start (octet_of tag) content at)

-- ---- a loop that writes item after item

flat-map-next : {X : Type 0} (f : X → List ℕ) (xs : List X) (i : ℕ) (d : X) → i < length xs
    → flat_map f (take (i + 1) xs) ≡ flat_map f (take i xs) ++ f (get_or xs i d)
flat-map-next f xs i d lt =
    ap (λ (ys : List _). flat_map f ys) (take_more xs i d lt)
    ∙ sym (flat_map_more f [] (take i xs) (get_or xs i d))

pub put-next : {X : Type 0} (buffer : EncoderBuffer) (head : List ℕ) (f : X → List ℕ) (xs : List X)
    (i : ℕ)
    (d : X) → i < length xs
    → buffer_with (buffer_with buffer (head ++ flat_map f (take i xs))) (f (get_or xs i d))
    ≡ buffer_with buffer (head ++ flat_map f (take (i + 1) xs))
put-next buffer head f xs i d lt =
    put-put buffer (head ++ flat_map f (take i xs)) (f (get_or xs i d))
    ∙ rw (flat-map-next f xs i d lt, append_assoc head (flat_map f (take i xs)) (f (get_or xs i d)))
    refl

-- the same in a value that was opened
pub put-item : {X : Type 0} (buffer : EncoderBuffer) (tag : ℕ) (f : X → List ℕ) (xs : List X)
    (i : ℕ)
    (d : X)
    → i < length xs
    → buffer_with (buffer_with buffer (tag ∷ 0 ∷ flat_map f (take i xs))) (f (get_or xs i d))
    ≡ buffer_with buffer (tag ∷ 0 ∷ flat_map f (take (i + 1) xs))
put-item buffer tag f xs i d lt = put-next buffer (tag ∷ 0 ∷ []) f xs i d lt

pub closed-items : {X : Type 0} (buffer : EncoderBuffer) (start tag : ℕ) (f : X → List ℕ)
    (xs : List X)
    (i : ℕ)
    → IsTextEnd start buffer → length xs ≤ i
    → close_value (buffer_with buffer (tag ∷ 0 ∷ flat_map f (take i xs))) start
    ≡ buffer_with buffer (short_value tag (flat_map f xs))
closed-items buffer start tag f xs i at all =
    rw (take_all i xs all) (closed-put buffer start tag (flat_map f xs) at)

-- the calls on a writer, one after another
pub ruleset sheet_rules = (put-put, closed-put, is_open-put, put-item, closed-items, element-tagged)

-- ---- what an empty writer holds behind a text

no-heads : (text : Option (List ℕ)) → with_headers [] text ≡ text
no-heads None = refl
no-heads (Some text) = refl

from-none : (limit : ℕ) (text : List ℕ)
    → text_with limit (Some []) text ≡ text_within_limit limit text
from-none limit text =
    let e : limit - 0 ≡ limit = omega arith in
    rw e refl

-- of an empty writer
pub message_put : (limit : ℕ) (text : List ℕ)
    → message (buffer_with (empty_buffer limit) text) ≡ text_within_limit limit text
unfolding buffer_with message
message_put limit text = no-heads (text_with limit (Some []) text) ∙ from-none limit text

pub short-message : (limit : ℕ) (text : List ℕ) (start now : EncoderBuffer)
    → start ≡ empty_buffer limit
    → now ≡ buffer_with start text → length text ≤ limit → message now ≡ Some text
short-message limit text start now is_empty is_put le =
    rw (is_put, is_empty) (message_put limit text ∙ fits limit text le)

pub heads-put : (buffer : EncoderBuffer) (text : List ℕ)
    → (buffer_with buffer text).headers ≡ buffer.headers
unfolding buffer_with
heads-put buffer text = refl

pub limit-put : (buffer : EncoderBuffer) (text : List ℕ)
    → (buffer_with buffer text).limit ≡ buffer.limit
unfolding buffer_with
limit-put buffer text = refl

-- a value of what is within the limit, if that is
pub within-longer : (f : List ℕ → List ℕ) (limit : ℕ) (text : List ℕ)
    → length text ≤ length (f text)
    → (text_within_limit limit text >>= λ octets. text_within_limit limit (f octets))
    ≡ text_within_limit limit (f text)
within-longer f limit text longer =
    elim (cases_lt limit (length text)) [
      | inl lt ↦ rw (past limit text lt) (sym (past limit (f text) (omega arith)))
      | inr le ↦ rw (fits limit text le) refl
    ]

-- ---- heads

front_of : (head headers : List ℕ) (text : Option (List ℕ))
    → with_headers (head ++ headers) text
    ≡ option_map (λ octets. head ++ octets) (with_headers headers text)
front_of head headers None = refl
front_of head headers (Some text) = ap (λ (ys : List ℕ). Some ys) (append_assoc head headers text)

-- a head in front of the message
pub message-front : (buffer : EncoderBuffer) (head : List ℕ)
    → message
    (record { limit = buffer.limit; headers = head ++ buffer.headers; text = buffer.text })
    ≡ option_map (λ octets. head ++ octets) (message buffer)
unfolding message
message-front buffer head = front_of head buffer.headers buffer.text

pub is-headed : (old new : EncoderBuffer) (tag : Tag) (count : ℕ) (octets : List ℕ)
    → Some octets ≡ message old → count ≡ length octets
    → new ≡ record {
      limit = old.limit;
      headers = (octet_of tag ∷ length_octets count) ++ old.headers;
      text = old.text;
    }
    → message new ≡ option_map (element tag) (message old)
unfolding element
is-headed old new tag count octets is counted headed =
    rw (headed, counted, message-front old (octet_of tag ∷ length_octets (length octets)), ← is)
    refl

pub length-element : (tag : Tag) (content : List ℕ)
    → length (element tag content) ≡ 1 + length (length_octets (length content)) + length content
length-element tag content =
    rw (element-tagged tag content) (length-tagged (octet_of tag) content)

-- a content is shorter than its value
pub content-less : (tag : Tag) (content : List ℕ) → length content < length (element tag content)
content-less tag content =
    omega (arith, length-element tag content, length-octets (length content))

no-message : (buffer : EncoderBuffer) → buffer.text ≡ None → message buffer ≡ None
unfolding message
no-message buffer none = rw none refl

-- a value that is longer than the limit
pub past-wrapped : (old new : EncoderBuffer) (tag : Tag) (octets : List ℕ)
    → Some octets ≡ message old
    → new.text ≡ None → old.limit < length (element tag octets)
    → message new ≡ value_around tag old.limit (message old)
past-wrapped old new tag octets is none lt =
    no-message new none ∙ rw (← is, past old.limit (element tag octets) lt) refl

-- one that is not
pub fits-wrapped : (old new : EncoderBuffer) (tag : Tag) (octets : List ℕ)
    → Some octets ≡ message old
    → length (element tag octets) ≤ old.limit
    → message new ≡ option_map (element tag) (message old)
    → message new ≡ value_around tag old.limit (message old)
fits-wrapped old new tag octets is le headed =
    headed ∙ rw (← is, fits old.limit (element tag octets) le) refl

-- the head of a content, in one octet of the length or more
pub head-short : (old new : EncoderBuffer) (tag : Tag) (octet count : ℕ) → octet ≡ octet_of tag
    → count < 128
    → new ≡ record { limit = old.limit; headers = octet ∷ count ∷ old.headers; text = old.text }
    → new ≡ record {
      limit = old.limit;
      headers = octet_of tag ∷ (length_octets count ++ old.headers);
      text = old.text;
    }
head-short old new tag octet count is few headed =
    let e : length_octets count ≡ count ∷ [] =
    unfold length_octets in rw (lt-ltb count 128 few) refl in
    headed ∙ rw (e, is) refl

pub head-long : (old middle new : EncoderBuffer) (tag : Tag) (octet k : ℕ) (bytes : List ℕ)
    (count : ℕ)
    → octet ≡ octet_of tag → 128 ≤ count → k ≡ octets_needed count
    → bytes ≡ bytes_high_first k count
    → middle ≡ record { limit = old.limit; headers = bytes ++ old.headers; text = old.text }
    → new
    ≡ record {
      limit = middle.limit;
      headers = octet ∷ (128 + k) ∷ middle.headers;
      text = middle.text;
    }
    → new ≡ record {
      limit = old.limit;
      headers = octet_of tag ∷ (length_octets count ++ old.headers);
      text = old.text;
    }
head-long old middle new tag octet k bytes count is many needed high headed twice =
    let e : length_octets count ≡ (128 + k) ∷ bytes_high_first k count =
    unfold length_octets in rw (le-ltb count 128 many, needed) refl in
    twice ∙ rw (headed, high, e, is) refl

-- a head has at most six octets
pub head-few : (old new : EncoderBuffer) (octet count : ℕ)
    → new ≡ record {
      limit = old.limit;
      headers = octet ∷ (length_octets count ++ old.headers);
      text = old.text;
    }
    → length new.headers ≤ length old.headers + 6
head-few old new octet count headed =
    rw headed (omega (
      arith,
      length-append (length_octets count) old.headers,
      length-length_octets count,
    ))

-- a value in front, its content first
pub fronted-value : (old middle new : EncoderBuffer) (tag : Tag) (content : List ℕ)
    → middle ≡ record { limit = old.limit; headers = content ++ old.headers; text = old.text }
    → new ≡ record {
      limit = middle.limit;
      headers = octet_of tag ∷ (length_octets (length content) ++ middle.headers);
      text = middle.text;
    }
    → new ≡ record {
      limit = old.limit;
      headers = element tag content ++ old.headers;
      text = old.text;
    }
unfolding element
fronted-value old middle new tag content first last =
    last ∙ rw (first, append_assoc (length_octets (length content)) content old.headers) refl
