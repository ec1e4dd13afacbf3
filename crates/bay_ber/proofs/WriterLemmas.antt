-- What the writer's fields hold, and the sheet that contracts see.
use Rattle.std.proofs.Common.{◌≡◌, ℕ, ◌+◌, ◌-◌, ◌<◌, ◌≤◌, Bool, true, false, List, [], ◌∷◌, ◌++◌, length, get_or, take, drop, Some, None, refl, sym, ap, ◌∙◌, arith}
use Rattle.std.proofs.lemmas.Bool.{lt-ltb, le-ltb}
use Rattle.std.proofs.lemmas.List.{append_assoc, length-append, length-drop, length-take, length-take-le, take-append-le, drop-append-le, drop_all, take-append-drop, take-take, drop-drop, drop-take, take_more, drop_at}
use Rattle.std.proofs.Math.Seq.{take-append-add, drop-append-add}
use Rattle.bay_ber.specs.declared.writer.Writer.TheInside.{Inside}
use Rattle.bay_ber.specs.Writing.{length_octets}
use Rattle.bay_ber.specs.EncoderBuffers.{EncoderBuffer, encoder_buffer_of, short_value, text_unless_over, empty_buffer, buffer_with, close_value, message, IsTextLength, IsTextEnd, IsOpen}

abbrev pub seen : Inside → EncoderBuffer
seen w = encoder_buffer_of w.limit w.first w.over w.octets.items

-- ---- appending

pub over-put : (w : Inside) (buffer : EncoderBuffer) (more : List ℕ) → seen w ≡ buffer
    → w.over ≡ true
    → buffer ≡ buffer_with buffer more
unfolding buffer_with
over-put w buffer more is over = rw (← is, over) refl

pub past-put : (w : Inside) (buffer : EncoderBuffer) (more : List ℕ) → seen w ≡ buffer
    → w.over ≡ false
    → 64 ≤ length w.octets.items → length w.octets.items ≤ 64 + w.limit
    → 64 + w.limit - length w.octets.items < length more
    → encoder_buffer_of w.limit w.first true w.octets.items ≡ buffer_with buffer more
unfolding buffer_with
past-put w buffer more is clear front fit past =
    let t = drop 64 w.octets.items in
    let m = length-drop 64 w.octets.items in
    rw (← is, clear, lt-ltb (w.limit - length t) (length more) (omega arith)) refl

pub fits-put : (w : Inside) (buffer : EncoderBuffer) (more new : List ℕ) → seen w ≡ buffer
    → w.over ≡ false
    → 64 ≤ length w.octets.items → length w.octets.items ≤ 64 + w.limit
    → length more ≤ 64 + w.limit - length w.octets.items → new ≡ w.octets.items ++ more
    → encoder_buffer_of w.limit w.first w.over new ≡ buffer_with buffer more
unfolding buffer_with
fits-put w buffer more new is clear front fit room added =
    let t = drop 64 w.octets.items in
    let m = length-drop 64 w.octets.items in
    rw (
      ← is,
      clear,
      added,
      take-append-le 64 w.octets.items more front,
      drop-append-le 64 w.octets.items more front,
      le-ltb (w.limit - length t) (length more) (omega arith),
    ) refl

-- ---- beginning again

-- a writer cut to the room of its heads holds no text
pub cleared : (w : Inside) (buffer : EncoderBuffer) (new : List ℕ) → seen w ≡ buffer
    → new ≡ take 64 w.octets.items
    → encoder_buffer_of w.limit 64 false new ≡ empty_buffer buffer.limit
cleared w buffer new is cut =
    let n = ap length cut ∙ length-take 64 w.octets.items in
    let m = length-take 64 new in
    rw (← is, drop_all 64 new (omega arith), drop_all 64 (take 64 new) (omega arith)) refl

-- ---- a value in place

at-end : (over : Bool) (octets : List ℕ) (place : ℕ) → place ≡ length octets - 64
    → IsTextLength place (text_unless_over over (drop 64 octets))
at-end true octets place is = tt
at-end false octets place is = is ∙ sym (length-drop 64 octets)

pub is_end : (w : Inside) (buffer : EncoderBuffer) (place : ℕ) → seen w ≡ buffer
    → place ≡ length w.octets.items - 64 → IsTextEnd place buffer
unfolding IsTextEnd
is_end w buffer place is at = rw (← is) (at-end w.over w.octets.items place at)

pub is_open : (w : Inside) (buffer : EncoderBuffer) (start : ℕ) → seen w ≡ buffer → w.over ≡ false
    → IsOpen start buffer → 64 + start + 2 ≤ length w.octets.items
unfolding IsOpen
is_open w buffer start is clear open_here =
    let text : buffer.text ≡ Some (drop 64 w.octets.items) = rw (← is, clear) refl in
    let two = rw text at open_here in
    omega (arith, two, length-drop 64 w.octets.items)

pub over-closed : (w : Inside) (buffer : EncoderBuffer) (start : ℕ) → seen w ≡ buffer
    → w.over ≡ true
    → buffer ≡ close_value buffer start
unfolding close_value
over-closed w buffer start is over = rw (← is, over) refl

-- how long the text is with the value in place
value-length : (text : List ℕ) (start tag more : ℕ) → start + 2 ≤ length text
    → more + 1 ≡ length (length_octets (length (drop (start + 2) text)))
    → length (take start text ++ short_value tag (drop (start + 2) text)) ≡ length text + more
unfolding short_value
value-length text start tag more two is =
    let content = drop (start + 2) text in
    let n = length-append (take start text) (tag ∷ (length_octets (length content) ++ content)) in
    let m = length-append (length_octets (length content)) content in
    let a = length-take-le start text (omega arith) in
    let b = length-drop (start + 2) text in
    omega arith

pub past-closed : (w : Inside) (buffer : EncoderBuffer) (start count more : ℕ) → seen w ≡ buffer
    → w.over ≡ false → 64 + start + 2 ≤ length w.octets.items
    → length w.octets.items ≤ 64 + w.limit → count ≡ length w.octets.items - (64 + start + 2)
    → more + 1 ≡ length (length_octets count) → 64 + w.limit - length w.octets.items < more
    → encoder_buffer_of w.limit w.first true w.octets.items ≡ close_value buffer start
unfolding close_value
past-closed w buffer start count more is clear two fit counted size past =
    let t = drop 64 w.octets.items in
    let m = length-drop 64 w.octets.items in
    let c : length (drop (start + 2) t) ≡ count = length-drop (start + 2) t ∙ omega arith in
    let n = value-length t start (get_or t start 0) more (omega arith) (rw c size) in
    rw (
      ← is,
      clear,
      lt-ltb w.limit (length (take start t ++ short_value (get_or t start 0) (drop (start + 2) t)))
          (omega arith),
    ) refl

-- a list in which what stands at a place is written over, without what stands before the text
behind-heads : (octets middle : List ℕ) (place start : ℕ) → place ≡ 64 + (start + 1)
    → place ≤ length octets
    → drop 64 (take place octets ++ middle) ≡ take (start + 1) (drop 64 octets) ++ middle
behind-heads octets middle place start is le =
    let n = length-take-le place octets le in
    drop-append-le 64 (take place octets) middle (omega arith)
    ∙ rw (is, drop-take 64 (start + 1) octets) refl

value-in-place : (octets : List ℕ) (place start : ℕ) → place ≡ 64 + (start + 1)
    → 64 + start + 2 ≤ length octets
    → drop 64 (take place octets
    ++ (length_octets (length (drop (start + 2) (drop 64 octets))) ++ drop (place + 1) octets))
    ≡ take start (drop 64 octets)
    ++ short_value (get_or (drop 64 octets) start 0) (drop (start + 2) (drop 64 octets))
unfolding short_value
value-in-place octets place start is two =
    let t = drop 64 octets in
    let m = length-drop 64 octets in
    let e : drop (place + 1) octets ≡ drop (start + 2) t =
    rw (drop-drop (start + 2) 64 octets, is) (ap (λ (n : ℕ). drop n octets) (omega arith)) in
    let rest = length_octets (length (drop (start + 2) t)) ++ drop (start + 2) t in
    behind-heads octets _ place start is (omega arith)
    ∙ rw (
      e,
      take_more t start 0 (omega arith),
      append_assoc (take start t) (get_or t start 0 ∷ []) rest,
    )
    refl

pub fits-closed : (w : Inside) (buffer : EncoderBuffer) (start count more place : ℕ) (new : List ℕ)
    → seen w ≡ buffer → w.over ≡ false → 64 + start + 2 ≤ length w.octets.items
    → length w.octets.items ≤ 64 + w.limit → count ≡ length w.octets.items - (64 + start + 2)
    → more + 1 ≡ length (length_octets count) → more ≤ 64 + w.limit - length w.octets.items
    → place ≡ 64 + (start + 1)
    → new ≡ take place w.octets.items ++ (length_octets count ++ drop (place + 1) w.octets.items)
    → encoder_buffer_of w.limit w.first w.over new ≡ close_value buffer start
unfolding close_value
fits-closed w buffer start count more place new is clear two fit counted size room at written =
    let o = w.octets.items in
    let t = drop 64 o in
    let m = length-drop 64 o in
    let c : length (drop (start + 2) t) ≡ count = length-drop (start + 2) t ∙ omega arith in
    let n = value-length t start (get_or t start 0) more (omega arith) (rw c size) in
    let a = length-take-le place o (omega arith) in
    let headers : take 64 new ≡ take 64 o =
    rw (
      written,
      take-append-le 64 (take place o) (length_octets count ++ drop (place + 1) o)
          (omega arith),
    )
    (take-take 64 place o (omega arith)) in
    let text : drop 64 new
    ≡ take start t ++ short_value (get_or t start 0) (drop (start + 2) t) =
    rw (written, ← c) (value-in-place o place start at two) in
    rw (
      ← is,
      clear,
      headers,
      text,
      le-ltb w.limit (length (take start t ++ short_value (get_or t start 0) (drop (start + 2) t)))
          (omega arith),
    ) refl

-- how long a list is in which an octet was written over
pub length-in_place : (octets middle : List ℕ) (place : ℕ) → place < length octets
    → length (take place octets ++ (middle ++ drop (place + 1) octets)) + 1
    ≡ length octets + length middle
length-in_place octets middle place within_it =
    let n = length-append (take place octets) (middle ++ drop (place + 1) octets) in
    let m = length-append middle (drop (place + 1) octets) in
    let a = length-take-le place octets (omega arith) in
    let b = length-drop (place + 1) octets in
    omega arith

-- ---- heads

room-in-front : (first : ℕ) (octets : List ℕ) → 64 ≤ length octets
    → length (drop first (take 64 octets)) ≡ 64 - first
room-in-front first octets front =
    length-drop first (take 64 octets) ∙ ap (λ (n : ℕ). n - first) (length-take-le 64 octets front)

pub head-fits : (w : Inside) (buffer : EncoderBuffer) (head : List ℕ) → seen w ≡ buffer
    → 64 ≤ length w.octets.items → w.first ≤ 64 → length head + length buffer.headers ≤ 64
    → length head ≤ w.first
head-fits w buffer head is front headers fits =
    let n = room-in-front w.first w.octets.items front in
    let e : length buffer.headers ≡ length (drop w.first (take 64 w.octets.items)) =
    rw (← is) refl in
    omega arith

-- a head in front of the others
head-in-front : (first n : ℕ) (octets head : List ℕ) → n ≡ length head → n ≤ first → first ≤ 64
    → 64 ≤ length octets
    → drop (first - n) (take 64 (take (first - n) octets ++ (head ++ drop (first - n + n) octets)))
    ≡ head ++ drop first (take 64 octets)
head-in-front first n octets head count fits headers front =
    let k = first - n in
    let rest = drop (k + n) octets in
    let new = take k octets ++ (head ++ rest) in
    let whole : 64 ≡ k + (length head + (64 - first)) = omega arith in
    let e : drop k (take (k + (length head + (64 - first))) new)
    ≡ take (length head + (64 - first)) (drop k new) =
    drop-take k (length head + (64 - first)) new in
    let at : drop k new ≡ head ++ rest =
    drop_at (take k octets) (head ++ rest) k (length-take-le k octets (omega arith)) in
    let cut : take (length head + (64 - first)) (head ++ rest) ≡ head ++ take (64 - first) rest =
    take-append-add head rest (64 - first) in
    let same : take (64 - first) (drop first octets)
    ≡ drop first (take (first + (64 - first)) octets) =
    sym (drop-take first (64 - first) octets) in
    let sum : k + n ≡ first = omega arith in
    let all : first + (64 - first) ≡ 64 = omega arith in
    ap (λ (m : ℕ). drop k (take m new)) whole ∙ e
    ∙ rw (at, cut, sum, same, all) refl

text-stays : (first n : ℕ) (octets head : List ℕ) → n ≡ length head → n ≤ first → first ≤ 64
    → 64 ≤ length octets
    → drop 64 (take (first - n) octets ++ (head ++ drop (first - n + n) octets)) ≡ drop 64 octets
text-stays first n octets head count fits headers front =
    let k = first - n in
    let sum : k + n ≡ first = omega arith in
    let a = length-take-le k octets (omega arith) in
    let b = length-append (take k octets) head in
    let c : 64 ≡ length (take k octets ++ head) + (64 - first) = omega arith in
    let all : first + (64 - first) ≡ 64 = omega arith in
    rw (← append_assoc (take k octets) head (drop (k + n) octets))
    (ap (λ (m : ℕ). drop m (take k octets ++ head ++ drop (k + n) octets)) c
    ∙ drop-append-add (take k octets ++ head) (drop (k + n) octets) (64 - first)
    ∙ rw (drop-drop (64 - first) (k + n) octets, sum, all) refl)

-- a head copied in front of the first octet is one head more
pub fronted : (w : Inside) (buffer : EncoderBuffer) (head new : List ℕ) → seen w ≡ buffer
    → 64 ≤ length w.octets.items → w.first ≤ 64 → length head ≤ w.first
    → new ≡ take (w.first - length head) w.octets.items
    ++ (head ++ drop (w.first - length head + length head) w.octets.items)
    → encoder_buffer_of w.limit (w.first - length head) w.over new
    ≡ record { limit = buffer.limit; headers = head ++ buffer.headers; text = buffer.text }
fronted w buffer head new is front headers fits written =
    rw (
      ← is,
      written,
      head-in-front w.first (length head) w.octets.items head refl fits headers front,
      text-stays w.first (length head) w.octets.items head refl fits headers front,
    ) refl

pub message-is : (w : Inside) (buffer : EncoderBuffer) → seen w ≡ buffer → w.over ≡ false
    → 64 ≤ length w.octets.items → w.first ≤ 64
    → Some (drop w.first w.octets.items) ≡ message buffer
unfolding message
message-is w buffer is clear front headers =
    let o = w.octets.items in
    let n = length-take-le 64 o front in
    let e = drop-append-le w.first (take 64 o) (drop 64 o) (omega arith) in
    rw (← is, clear, ← e, take-append-drop 64 o) refl

pub over-message : (w : Inside) (buffer : EncoderBuffer) → seen w ≡ buffer → w.over ≡ true
    → None ≡ message buffer
unfolding message
over-message w buffer is over = rw (← is, over) refl
