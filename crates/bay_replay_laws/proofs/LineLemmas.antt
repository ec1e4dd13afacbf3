-- Texts of lines, and lines of words.
use Rattle.std.proofs.Common.{◌≡◌, ◌≢◌, ℕ, zero, suc, ◌+◌, ◌/◌, ◌%◌, ◌<◌, ◌==◌, Bool, true, false, not, ◌&&◌, cond, List, [], ◌∷◌, ◌++◌, slice_index, refl, ap, ap₂, sym, subst, ◌∙◌, append_assoc, arith}
use Rattle.std.proofs.lemmas.Bool.{and_parts, eq-eqb}
use Rattle.std.proofs.lemmas.Bool.Decides.{nat_tests}
use Rattle.std.proofs.lemmas.List.Folds.{list_all-append}
use Rattle.std.proofs.lemmas.List.Splits.{slice_split-cons_no, slice_split-cons_yes}
use Rattle.std.specs.Fmt.{decimal, digit_glyph, digits, digits_onto}
use Rattle.std.specs.List.{Contains, list_all, onto_first, slice_split}
use Rattle.hex.specs.Hex.{encode_lower, encode_with, lower_digits}
use Rattle.bay_replay_laws.specs.Printed.{with_ends}

-- ---- lists without an octet

-- whether the octet stands nowhere in a list
abbrev pub free : ℕ → List ℕ → Bool
free c xs = list_all (λ x. not (x == c)) xs

pub free-append : (c : ℕ) (xs ys : List ℕ) → free c xs ≡ true → free c ys ≡ true
    → free c (xs ++ ys) ≡ true
free-append c xs ys p q =
    list_all-append (λ x. not (x == c)) xs ys ∙ ap₂ (λ a b. a && b) p q

free-by : (b : Bool) (rest : Bool) → not b && rest ≡ true → (b ≡ false) × (rest ≡ true)
free-by true rest e = absurd cc
free-by false rest e = (refl, e)

-- the part before the first such octet is cut off
pub split-at : (c : ℕ) (xs ys : List ℕ) → free c xs ≡ true
    → slice_split (λ b. b == c) (xs ++ c ∷ ys) ≡ xs ∷ slice_split (λ b. b == c) ys
split-at c [] ys e = slice_split-cons_yes (λ b. b == c) c ys (eq-eqb c c refl)
split-at c (x ∷ xs) ys e =
    let parts = free-by (x == c) (free c xs) e in
    slice_split-cons_no (λ b. b == c) x (xs ++ c ∷ ys) parts.0
    ∙ ap (onto_first x) (split-at c xs ys parts.1)

pub split-none : (c : ℕ) (xs : List ℕ) → free c xs ≡ true
    → slice_split (λ b. b == c) xs ≡ xs ∷ []
split-none c [] e = refl
split-none c (x ∷ xs) e =
    let parts = free-by (x == c) (free c xs) e in
    slice_split-cons_no (λ b. b == c) x xs parts.0 ∙ ap (onto_first x) (split-none c xs parts.1)

-- ---- digits

-- an octet that no digit is
pub record NoDigit (c : ℕ) : Type 0 where
  pub apart : (d : ℕ) → d < 10 → 48 + d ≢ c

glyph-free : (c d : ℕ) → NoDigit c → d < 10 → not (digit_glyph false d == c) ≡ true
glyph-free c d none less =
    let is : digit_glyph false d ≡ 48 + d = grind (arith, nat_tests) in
    let other : 48 + d ≢ c = none.apart d less in
    rw is (grind (arith, nat_tests))

onto-if : (c : ℕ) (b : Bool) (xs ys : List ℕ) → free c xs ≡ true → free c ys ≡ true
    → free c (cond b xs ys) ≡ true
onto-if c true xs ys p q = p
onto-if c false xs ys p q = q

onto-free : (c k n : ℕ) (acc : List ℕ) → NoDigit c → free c acc ≡ true
    → free c (digits_onto k 10 false n acc) ≡ true
onto-free c zero n acc none e = e
onto-free c (suc k) n acc none e =
    let less : n % 10 < 10 = omega arith in
    let one : free c (digit_glyph false (n % 10) ∷ acc) ≡ true =
    ap₂ (λ a b. a && b) (glyph-free c (n % 10) none less) e in
    onto-if c (n / 10 == 0) _ _ one (onto-free c k (n / 10) _ none one)

pub decimal-free : (c n : ℕ) → NoDigit c → free c (decimal n) ≡ true
unfolding digits
decimal-free c n none = onto-free c 64 n [] none refl

-- the digits of a table are free where the table and 0 are
hex-digit : (c k : ℕ) (table : List ℕ) → free c (0 ∷ table) ≡ true
    → not (slice_index table k == c) ≡ true
hex-digit c k [] e = (and_parts (not (0 == c)) true e).0
hex-digit c zero (x ∷ table) e =
    (and_parts (not (x == c)) (free c table) (and_parts (not (0 == c)) (free c (x ∷ table)) e).1).0
hex-digit c (suc k) (x ∷ table) e =
    let outer = and_parts (not (0 == c)) (free c (x ∷ table)) e in
    hex-digit c k table (ap₂ (λ a b. a && b) outer.0
    (and_parts (not (x == c)) (free c table) outer.1).1)

encode-free : (c : ℕ) (table octets : List ℕ) → free c (0 ∷ table) ≡ true
    → free c (encode_with table octets) ≡ true
unfolding encode_with
encode-free c table [] e = refl
encode-free c table (b ∷ octets) e =
    ap₂ (λ x y. x && y) (hex-digit c (b / 16) table e)
    (ap₂ (λ x y. x && y) (hex-digit c (b % 16) table e) (encode-free c table octets e))

pub hex-free : (c : ℕ) (octets : List ℕ) → free c (0 ∷ lower_digits) ≡ true
    → free c (encode_lower octets) ≡ true
hex-free c octets e = encode-free c lower_digits octets e

-- ---- lines

-- of each line something is so, and none has an LF
abbrev pub Each : (List ℕ → Type 0) → List (List ℕ) → Type 0
Each Is [] = Unit {0}
Each Is (line ∷ lines) = ((free 10 line ≡ true) × Is line) × Each Is lines

-- A text consists of lines of which something is so.
pub record AreLines (Is : List ℕ → Type 0) (text : List ℕ) : Type 0 where
  pub lines : List (List ℕ)
  pub whole : text ≡ with_ends lines
  pub each : Each Is lines

pub lines-are : (Is : List ℕ → Type 0) (lines : List (List ℕ)) → Each Is lines
    → slice_split (λ b. b == 10) (with_ends lines) ≡ lines ++ [] ∷ []
lines-are Is [] each = refl
lines-are Is (line ∷ lines) each =
    split-at 10 line (with_ends lines) each.0.0 ∙ ap (λ ls. line ∷ ls) (lines-are Is lines each.1)

pub ended-append : (xs ys : List (List ℕ)) → with_ends (xs ++ ys) ≡ with_ends xs ++ with_ends ys
ended-append [] ys = refl
ended-append (x ∷ xs) ys =
    ap (λ t. x ++ 10 ∷ t) (ended-append xs ys)
    ∙ sym (append_assoc x (10 ∷ with_ends xs) (with_ends ys))

pub each-append : (Is : List ℕ → Type 0) (xs ys : List (List ℕ)) → Each Is xs → Each Is ys
    → Each Is (xs ++ ys)
each-append Is [] ys p q = q
each-append Is (x ∷ xs) ys p q = (p.0, each-append Is xs ys p.1 q)

module _ {Is : List ℕ → Type 0} where
  pub no-lines : AreLines Is []
  no-lines = record { lines = []; whole = refl; each = tt }

  pub one-line : (line : List ℕ) → free 10 line ≡ true → Is line → AreLines Is (line ++ 10 ∷ [])
  one-line line none is = record { lines = line ∷ []; whole = refl; each = ((none, is), tt) }

  pub more-lines : {xs ys : List ℕ} → AreLines Is xs → AreLines Is ys → AreLines Is (xs ++ ys)
  more-lines p q = record {
    lines = p.lines ++ q.lines;
    whole = ap₂ (λ s t. s ++ t) p.whole q.whole ∙ sym (ended-append p.lines q.lines);
    each = each-append Is p.lines q.lines p.each q.each;
  }

pub map-lines : {Is Are : List ℕ → Type 0} {text : List ℕ}
    → ((line : List ℕ) → Is line → Are line) → AreLines Is text → AreLines Are text
map-lines {Is} {Are} so a = record { lines = a.lines; whole = a.whole; each = each a.lines a.each }
  where
    each : (lines : List (List ℕ)) → Each Is lines → Each Are lines
    each [] all = tt
    each (line ∷ lines) all = ((all.0.0, so line all.0.1), each lines all.1)

each-contains : (Is : List ℕ → Type 0) (lines : List (List ℕ)) (line : List ℕ) → Each Is lines
    → Contains lines line → Is line
each-contains Is [] line each at = absurd (omega (arith, at.1))
each-contains Is (x ∷ lines) line each (zero, within, is) = subst Is is each.0.1
each-contains Is (x ∷ lines) line each (suc k, within, is) =
    each-contains Is lines line each.1 (k, omega arith, is)

-- So it is of each line that is read.
pub each-line : {Is : List ℕ → Type 0} {text : List ℕ} → AreLines Is text → Is []
    → (line : List ℕ) → Contains (slice_split (λ b. b == 10) text) line → Is line
each-line {Is} a empty line at =
    each-contains Is (a.lines ++ [] ∷ []) line
    (each-append Is a.lines ([] ∷ []) a.each ((refl, empty), tt))
    (subst (λ ls. Contains ls line)
    (ap (slice_split (λ b. b == 10)) a.whole ∙ lines-are Is a.lines a.each) at)
