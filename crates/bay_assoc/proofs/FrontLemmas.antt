-- What stands before a PDU of MMS in its TSDU.
use Rattle.std.proofs.Common.{◌≡◌, ℕ, pos, ◌+◌, ◌*◌, ◌/◌, ◌%◌, ◌<◌, ◌≤◌, false, cond, List, [], ◌∷◌, ◌++◌, length, refl, sym, ap, ◌∙◌, arith, inl, inr}
use Rattle.std.proofs.lemmas.Bool.{cases_lt, lt-ltb, le-ltb, ne_eqb}
use Rattle.std.proofs.lemmas.List.{append_assoc, length-append}
use Rattle.bay_ber.specs.declared.tag.Tag.{Tag}
use Rattle.bay_ber.specs.Spelling.{octet_of}
use Rattle.bay_ber.specs.Writing.{length_octets, element, is_needless, without_needless, integer_octets}
use Rattle.bay_ber.proofs.SmallLemmas.{eight-bytes, id-one}
use Rattle.bay_ber.specs.Tags.{constructed, sequence, int_tag}
use Rattle.bay_assoc.specs.Tags.{application}
use Rattle.bay_assoc.specs.Texts.{user_text, transfer_text}

-- ---- lengths

pub length-one : (n : ℕ) → n < 128 → length_octets n ≡ n ∷ []
unfolding length_octets
length-one n low = rw (lt-ltb n 128 low) refl

-- ---- identifiers

not-needless : (high low : ℕ) → high < 128 → 128 ≤ high * 256 + low → is_needless high low ≡ false
not-needless high low few some =
    elim (cases_lt low 128) [
      | inl small ↦ rw (lt-ltb low 128 small) (ne_eqb high 0 (λ e. omega arith))
      | inr large ↦ rw (le-ltb low 128 large) (ne_eqb high 255 (λ e. omega arith))
    ]

pub id-two : (n : ℕ) → 128 ≤ n → n < 32768 → integer_octets (pos n) ≡ n / 256 ∷ n % 256 ∷ []
id-two n some few =
    let high : n / 256 < 128 = omega arith in
    let needed : is_needless (n / 256) (n % 256) ≡ false =
    not-needless (n / 256) (n % 256) high (omega arith) in
    ap without_needless (eight-bytes n (omega arith))
    ∙ rw (lt-ltb (n / 256) 128 high)
    (ap (λ b. cond b (n % 256 ∷ []) (n / 256 ∷ n % 256 ∷ [])) needed)

pub id-three : (n : ℕ) → 32768 ≤ n → n < 65536 → integer_octets (pos n) ≡ 0 ∷ n / 256 ∷ n % 256 ∷ []
id-three n some few =
    let high : 128 ≤ n / 256 = omega arith in
    ap without_needless (eight-bytes n few) ∙ rw (le-ltb (n / 256) 128 high) refl

-- an integer of so few octets is spelled with their number in one octet
id-spelled : (n count : ℕ) (octets : List ℕ) → integer_octets (pos n) ≡ octets
    → length octets ≡ count → count < 128
    → element int_tag (integer_octets (pos n)) ≡ 2 ∷ count ∷ octets
unfolding element
id-spelled n count octets is counted few = rw (is, counted, length-one count few) refl

pub one-octet : (n : ℕ) → n < 128 → element int_tag (integer_octets (pos n)) ≡ 2 ∷ 1 ∷ n ∷ []
one-octet n few = id-spelled n 1 (n ∷ []) (id-one n few) refl (omega arith)

pub two-octets : (n : ℕ) → 128 ≤ n → n < 32768
    → element int_tag (integer_octets (pos n)) ≡ 2 ∷ 2 ∷ n / 256 ∷ n % 256 ∷ []
two-octets n some few =
    id-spelled n 2 (n / 256 ∷ n % 256 ∷ []) (id-two n some few) refl (omega arith)

pub three-octets : (n : ℕ) → 32768 ≤ n → n < 65536
    → element int_tag (integer_octets (pos n)) ≡ 2 ∷ 3 ∷ 0 ∷ n / 256 ∷ n % 256 ∷ []
three-octets n some few =
    id-spelled n 3 (0 ∷ n / 256 ∷ n % 256 ∷ []) (id-three n some few) refl (omega arith)

-- ---- octet by octet

after-two : (old : List ℕ) (a b : ℕ) → (old ++ a ∷ []) ++ b ∷ [] ≡ old ++ a ∷ b ∷ []
after-two old a b = append_assoc old (a ∷ []) (b ∷ [])

after-three : (old : List ℕ) (a b d : ℕ)
    → ((old ++ a ∷ []) ++ b ∷ []) ++ d ∷ [] ≡ old ++ a ∷ b ∷ d ∷ []
after-three old a b d =
    ap (λ (ys : List ℕ). ys ++ d ∷ []) (after-two old a b) ∙ append_assoc old (a ∷ b ∷ []) (d ∷ [])

after-four : (old : List ℕ) (a b d e : ℕ)
    → (((old ++ a ∷ []) ++ b ∷ []) ++ d ∷ []) ++ e ∷ [] ≡ old ++ a ∷ b ∷ d ∷ e ∷ []
after-four old a b d e =
    ap (λ (ys : List ℕ). ys ++ e ∷ []) (after-three old a b d)
    ∙ append_assoc old (a ∷ b ∷ d ∷ []) (e ∷ [])

after-five : (old : List ℕ) (a b d e f : ℕ)
    → ((((old ++ a ∷ []) ++ b ∷ []) ++ d ∷ []) ++ e ∷ []) ++ f ∷ [] ≡ old ++ a ∷ b ∷ d ∷ e ∷ f ∷ []
after-five old a b d e f =
    ap (λ (ys : List ℕ). ys ++ f ∷ []) (after-four old a b d e)
    ∙ append_assoc old (a ∷ b ∷ d ∷ e ∷ []) (f ∷ [])

pub number-one : (old : List ℕ) (n : ℕ) → n < 128
    → ((old ++ 2 ∷ []) ++ 1 ∷ []) ++ n ∷ [] ≡ old ++ element int_tag (integer_octets (pos n))
number-one old n few =
    after-three old 2 1 n ∙ ap (λ (ys : List ℕ). old ++ ys) (sym (one-octet n few))

pub number-two : (old : List ℕ) (n : ℕ) → 128 ≤ n → n < 32768
    → (((old ++ 2 ∷ []) ++ 2 ∷ []) ++ (n / 256) ∷ []) ++ (n % 256) ∷ []
    ≡ old ++ element int_tag (integer_octets (pos n))
number-two old n some few =
    after-four old 2 2 (n / 256) (n % 256)
    ∙ ap (λ (ys : List ℕ). old ++ ys) (sym (two-octets n some few))

pub number-three : (old : List ℕ) (n : ℕ) → 32768 ≤ n → n < 65536
    → ((((old ++ 2 ∷ []) ++ 3 ∷ []) ++ 0 ∷ []) ++ (n / 256) ∷ []) ++ (n % 256) ∷ []
    ≡ old ++ element int_tag (integer_octets (pos n))
number-three old n some few =
    after-five old 2 3 0 (n / 256) (n % 256)
    ∙ ap (λ (ys : List ℕ). old ++ ys) (sym (three-octets n some few))

-- ---- all of it

spelled-so : (tag : Tag) (content : List ℕ) (count : ℕ) → length content ≡ count
    → element tag content ≡ octet_of tag ∷ (length_octets count ++ content)
unfolding element
spelled-so tag content count is = rw is refl

-- octets with a value behind them, as the content of another
nested : (tag : Tag) (n : ℕ) (inner value content : List ℕ) → inner ++ value ≡ content
    → n ≡ length inner + length value
    → ((octet_of tag ∷ length_octets n) ++ inner) ++ value ≡ element tag content
nested tag n inner value content is count =
    let all : length content ≡ n =
    sym (ap length is) ∙ length-append inner value ∙ sym count in
    append_assoc (octet_of tag ∷ length_octets n) inner value
    ∙ ap (λ (ys : List ℕ). (octet_of tag ∷ length_octets n) ++ ys) is
    ∙ sym (spelled-so tag content n all)

pub front-is : (id carried listed : ℕ) (inner list value : List ℕ)
    → inner ≡ element int_tag (integer_octets (pos id)) ++ (0xA0 ∷ length_octets (length value))
    → carried ≡ length inner + length value → list ≡ (0x30 ∷ length_octets carried) ++ inner
    → listed ≡ length list + length value
    → (((1 ∷ 0 ∷ 1 ∷ 0 ∷ []) ++ (0x61 ∷ length_octets listed)) ++ list) ++ value
    ≡ transfer_text (user_text id value)
front-is id carried listed inner list value is few begun most =
    let number = element int_tag (integer_octets (pos id)) in
    let held = element (constructed 0) value in
    let third : inner ++ value ≡ number ++ held =
    ap (λ (ys : List ℕ). ys ++ value) is
    ∙ append_assoc number (0xA0 ∷ length_octets (length value)) value
    ∙ ap (λ (ys : List ℕ). number ++ ys)
    (sym (spelled-so (constructed 0) value (length value) refl))
    in
    let second : list ++ value ≡ element sequence (number ++ held) =
    ap (λ (ys : List ℕ). ys ++ value) begun
    ∙ nested sequence carried inner value (number ++ held) third few in
    ap (λ (ys : List ℕ). 1 ∷ 0 ∷ 1 ∷ 0 ∷ ys) (nested (application 1) listed list value
    (element sequence (number ++ held)) second most)
