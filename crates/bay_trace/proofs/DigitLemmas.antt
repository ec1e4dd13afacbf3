-- Lemmas on octets in hexadecimal digits.
use Rattle.std.proofs.Common.{◌≡◌, ◌∙◌, ℕ, ◌-◌, ◌*◌, ◌/◌, ◌%◌, ◌<◌, ◌≤◌, ◌||◌, true, false, Bool, cond, eqb, List, [], ◌∷◌, ◌++◌, length, take, Option, Some, None, is_some, unwrap_or, Result, Ok, Err, refl, ap, sym, arith}
use Rattle.std.proofs.lemmas.Bool.Decides.{nat_tests}
use Rattle.std.proofs.Math.Seq.{take-take}
use Rattle.std.proofs.lemmas.List.{take-append-le}
use Rattle.std.proofs.lemmas.Bool.{and_parts}
use Rattle.std.proofs.lemmas.List.Elements.{All-cons, All-head, All-nil, All-tail}
use Rattle.std.proofs.lemmas.Str.Ascii.{IsAscii-cons, IsAscii-nil}
use Rattle.std.specs.Char.{is_ascii_hexdigit}
use Rattle.std.specs.Int.{is_in_range}
use Rattle.std.specs.List.{AllPass, list_all}
use Rattle.std.specs.Result.{result_ok}
use Rattle.std.specs.Str.{IsAscii}
use Rattle.hex.proofs.HexLemmas.{decode_of-digits, decode_of-ok}
use Rattle.hex.specs.Hex.{decode_of, is_hex_digit}
use Rattle.hex.specs.declared.error.FromHexError.{FromHexError}
use Rattle.bay_trace.specs.Digits.{octets_or_empty, octets_of}

some-ok : {A E : Type 0} (r : Result A E) (x : A) → result_ok r ≡ Some x → r ≡ Ok x
some-ok (Ok y) x e = let same : y ≡ x = cc in ap Ok same
some-ok (Err f) x e = absurd cc

-- what writes octets is digits
pub octets-digits : (word octets : List ℕ) → octets_of word ≡ Some octets
    → AllPass is_hex_digit word
octets-digits [] octets e = absurd cc
octets-digits (b ∷ bs) octets e =
    (decode_of-ok (b ∷ bs) octets (some-ok (decode_of (b ∷ bs)) octets e)).1

pub digit-ascii : (b : ℕ) → is_hex_digit b ≡ true → b < 128
digit-ascii b e = grind (arith, nat_tests)

pub hex-ascii : (bs : List ℕ) → AllPass is_hex_digit bs → IsAscii bs
hex-ascii [] h = IsAscii-nil
hex-ascii (b ∷ bs) h =
    IsAscii-cons b bs (digit-ascii b (All-head (λ c. is_hex_digit c ≡ true) b bs h))
    (hex-ascii bs (All-tail (λ c. is_hex_digit c ≡ true) b bs h))

-- ---- which words write octets

by-tests : (u v w : Bool) (x y z : ℕ)
    → ((u || v) || w) ≡ is_some (cond v (Some x) (cond w (Some y) (cond u (Some z) None)))
by-tests true true true x y z = refl
by-tests true true false x y z = refl
by-tests true false true x y z = refl
by-tests true false false x y z = refl
by-tests false true true x y z = refl
by-tests false true false x y z = refl
by-tests false false true x y z = refl
by-tests false false false x y z = refl

digit-same : (b : ℕ) → is_ascii_hexdigit b ≡ is_hex_digit b
digit-same b =
    by-tests (is_in_range 48 57 b) (is_in_range 65 70 b) (is_in_range 97 102 b) (b - 55) (b - 87)
    (b - 48)

all-digits : (bs : List ℕ) → list_all is_ascii_hexdigit bs ≡ true → AllPass is_hex_digit bs
all-digits [] e = All-nil (λ c. is_hex_digit c ≡ true)
all-digits (b ∷ bs) e =
    let both = and_parts (is_ascii_hexdigit b) (list_all is_ascii_hexdigit bs) e in
    All-cons (λ c. is_hex_digit c ≡ true) b bs (sym (digit-same b) ∙ both.0) (all-digits bs both.1)

digits-all : (bs : List ℕ) → AllPass is_hex_digit bs → list_all is_ascii_hexdigit bs ≡ true
digits-all [] h = refl
digits-all (b ∷ bs) h =
    let here : is_ascii_hexdigit b ≡ true =
    digit-same b ∙ All-head (λ c. is_hex_digit c ≡ true) b bs h in
    let rest = digits-all bs (All-tail (λ c. is_hex_digit c ≡ true) b bs h) in
    rw (here, rest) refl

-- a word of an even number of digits writes octets where each is a digit
pub octets-even : (word : List ℕ) (v : Bool) → eqb (length word) 0 ≡ false → length word % 2 ≡ 0
    → v ≡ list_all is_ascii_hexdigit word → v ≡ is_some (octets_of word)
octets-even [] v some even e = absurd cc
octets-even (b ∷ bs) true some even e =
    let d = decode_of-digits (b ∷ bs) even (all-digits (b ∷ bs) (sym e)) in
    sym (ap (λ (r : Result (List ℕ) FromHexError). is_some (result_ok r)) d.1)
octets-even (b ∷ bs) false some even e = by-octets (octets_of (b ∷ bs)) refl
  where
    by-octets : (o : Option (List ℕ)) → octets_of (b ∷ bs) ≡ o
        → false ≡ is_some (octets_of (b ∷ bs))
    by-octets None is = sym (ap is_some is)
    by-octets (Some octets) is = let all =
        digits-all (b ∷ bs) (octets-digits (b ∷ bs) octets is) in absurd cc

pub octets-none : (word : List ℕ) → eqb (length word) 0 ≡ true → false ≡ is_some (octets_of word)
octets-none [] e = refl
octets-none (b ∷ bs) e = absurd (grind (arith, nat_tests))

-- ---- the octets that digits write

pub octets-known : (word : List ℕ) → is_some (octets_of word) ≡ true
    → octets_of word ≡ Some (octets_or_empty word)
octets-known word e = by-octets (octets_of word) refl
  where
    by-octets : (o : Option (List ℕ)) → octets_of word ≡ o
        → octets_of word ≡ Some (octets_or_empty word)
    by-octets None is = let no : false ≡ true = sym (ap is_some is) ∙ e in absurd cc
    by-octets (Some octets) is = is ∙ ap Some (sym (ap (λ o. unwrap_or o []) is))

-- what digits that encode octets are decoded to
pub known-decode : (word octets : List ℕ) → octets_of word ≡ Some octets
    → decode_of word ≡ Ok octets
known-decode [] octets e = absurd cc
known-decode (b ∷ bs) octets e = some-ok (decode_of (b ∷ bs)) octets e

pub octets-twice : (word : List ℕ) → is_some (octets_of word) ≡ true
    → length word ≡ 2 * length (octets_or_empty word)
octets-twice word e =
    (decode_of-ok word (octets_or_empty word)
    (known-decode word (octets_or_empty word) (octets-known word e))).2

pub octets-half : (word : List ℕ) → is_some (octets_of word) ≡ true
    → length (octets_or_empty word) ≡ length word / 2
octets-half word e = let twice = octets-twice word e in omega arith

-- the front of a front, of a list that stands before another
pub front-of : (n m : ℕ) (xs ys : List ℕ) → n ≤ length xs → n ≤ m
    → take n (take m (xs ++ ys)) ≡ take n xs
front-of n m xs ys fits within = take-take n m (xs ++ ys) within ∙ take-append-le n xs ys fits
