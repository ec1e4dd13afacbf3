-- Lemmas on the words and numbers of a line.
use Rattle.std.proofs.Common.{◌≡◌, take, drop, subst, ℕ, zero, suc, add-one, ◌+◌, ◌-◌, ◌*◌, ◌^◌, ◌<◌, ◌≤◌, Bool, true, false, cond, eqb, nat_lt, List, Option, option_map, [], ◌∷◌, length, get_or, Some, None, refl, sym, ap, ◌∙◌, arith}
use Rattle.std.proofs.lemmas.Bool.Decides.{nat_tests}
use Rattle.std.proofs.lemmas.List.Splits.{length-slice_split, slice_split-cons_no, slice_split_first}
use Rattle.std.proofs.lemmas.Slice.Eq.{bytes_eq-Decides}
use Rattle.std.proofs.Math.Nat.{pow-succ'}
use Rattle.std.proofs.Math.Seq.{drop-cons}
use Rattle.std.specs.Char.{is_ascii_digit}
use Rattle.std.specs.List.{count_by, slice_split, onto_first, position, position_or_len}
use Rattle.std.specs.Str.{bytes_eq}
use Rattle.std.specs.Str.{IsUtf8}
use Rattle.std.proofs.lemmas.Str.{is_utf8-from_IsUtf8}
use Rattle.bay_base.specs.Decimals.{read_number}
use Rattle.bay_base.proofs.ListLemmas.{is-utf8-false, take-rest}
use Rattle.bay_base.proofs.DecimalLemmas.{number_from, number_from-end}
use Rattle.bay_trace.specs.Trace.{is_space, first_number, name_of}

-- a text with a space is the word before it and what follows
pub some-space : (bs : List ℕ) (at : ℕ) → position is_space bs ≡ Some at
    → slice_split is_space bs ≡ take at bs ∷ slice_split is_space (drop (at + 1) bs)
some-space bs at e = by_test (nat_lt (position_or_len is_space bs) (length bs)) refl
  where
    by_test : (v : Bool) → nat_lt (position_or_len is_space bs) (length bs) ≡ v
        → slice_split is_space bs ≡ take at bs ∷ slice_split is_space (drop (at + 1) bs)
    by_test true l =
        let is : position_or_len is_space bs ≡ at =
        let some : Some (position_or_len is_space bs) ≡ Some at = rw l at e in cc in
        subst (λ k. slice_split is_space bs ≡ take k bs ∷ slice_split is_space (drop (k + 1) bs)) is
        (slice_split_first is_space bs 0 (grind (arith, nat_tests)))
    by_test false l = let none : None ≡ Some at = rw l at e in absurd cc

alone : (bs : List ℕ) → length bs ≤ position_or_len is_space bs → slice_split is_space bs ≡ bs ∷ []
alone [] l = refl
alone (b ∷ bs) l = by_test (λ h. alone bs h) (is_space b) refl
  where
    by_test : (length bs ≤ position_or_len is_space bs → slice_split is_space bs ≡ bs ∷ [])
        → (v : Bool) → is_space b ≡ v → slice_split is_space (b ∷ bs) ≡ (b ∷ bs) ∷ []
    by_test rest true e = absurd (let le : suc (length bs) ≤ 0 = rw e at l in omega (arith, le))
    by_test rest false e =
        let le : suc (length bs) ≤ 1 + position_or_len is_space bs = rw e at l in
        slice_split-cons_no is_space b bs e ∙ ap (onto_first b) (rest (omega (arith, le)))

-- a text without one is one word
pub no-space : (bs : List ℕ) → position is_space bs ≡ None → slice_split is_space bs ≡ bs ∷ []
no-space bs e = by_test (nat_lt (position_or_len is_space bs) (length bs)) refl
  where
    by_test : (v : Bool) → nat_lt (position_or_len is_space bs) (length bs) ≡ v
        → slice_split is_space bs ≡ bs ∷ []
    by_test true l = let some : Some (position_or_len is_space bs) ≡ None = rw l at e in absurd cc
    by_test false l = alone bs (grind (arith, nat_tests))

some-words : (rest : List ℕ)
    → (w : List ℕ) × (ws : List (List ℕ)) × (slice_split is_space rest ≡ w ∷ ws)
some-words rest = by-words (slice_split is_space rest) (length-slice_split is_space rest) refl
  where
    by-words : (words : List (List ℕ)) → length words ≡ count_by is_space rest + 1
        → slice_split is_space rest ≡ words
        → (w : List ℕ) × (ws : List (List ℕ)) × (slice_split is_space rest ≡ w ∷ ws)
    by-words [] l e = absurd (omega (arith, l))
    by-words (w ∷ ws) l e = (w, ws, e)

-- a number, and the words of what stands behind it
pub number-first : (word rest : List ℕ) (n : ℕ) → read_number word ≡ Some n
    → first_number (word ∷ slice_split is_space rest) ≡ Some (n, slice_split is_space rest)
number-first word rest n e =
    let words = some-words rest in rw words.2 (ap (option_map (λ k. (k, words.0 ∷ words.1))) e)

ten-more : (c : ℕ) → 10 ^ (c + 1) ≡ 10 * 10 ^ c
ten-more c = rw add-one (pow-succ' 10 c)

-- a number of at most 18 digits
pub few-digits : (k c n : ℕ) → n < 10 ^ c → c + k ≡ 18 → n < 10 ^ 18
few-digits zero c n l e =
    let same : c ≡ 18 = omega (arith, e) in subst (λ i. n < 10 ^ i) same l
few-digits (suc k) c n l e =
    few-digits k (c + 1) n (omega (arith, l, ten-more c)) (omega (arith, e))

-- the number that the first of several words is behind a number, and the words behind it
abbrev pub number_behind : ℕ → List (List ℕ) → Option (ℕ × List (List ℕ))
number_behind n [] = None
number_behind n (word ∷ []) = None
number_behind n (word ∷ next ∷ words) = option_map (λ m. (m, next ∷ words)) (number_from n word)

-- the space behind a number
pub behind-space : (n at : ℕ) (bs : List ℕ) → n < 10 ^ 19 → at < length bs → get_or bs at 0 ≡ 32
    → Some (n, slice_split is_space (take (length bs - (at + 1)) (drop (at + 1) bs)))
    ≡ number_behind n (slice_split is_space (drop at bs))
behind-space n at bs l within e =
    let words = some-words (drop (at + 1) bs) in
    let here : slice_split is_space (drop at bs) ≡ [] ∷ words.0 ∷ words.1 =
    ap (slice_split is_space) (drop-cons bs at 0 within ∙ ap (λ b. b ∷ drop (suc at) bs) e)
    ∙ ap (λ l. [] ∷ l) (ap (λ k. slice_split is_space (drop k bs)) (sym (add-one at)) ∙ words.2) in
    rw (take-rest bs (at + 1), here, words.2)
    (sym (ap (option_map (λ m. (m, words.0 ∷ words.1))) (number_from-end n (omega (arith, l)))))

pub not-space : (b : ℕ) → is_ascii_digit b ≡ true → is_space b ≡ false
not-space b h = grind (arith, nat_tests)

-- what says something of a word only where it is this text, or where something is said further on,
-- says it of what has the text's property
pub chosen : {X : Type 0} (P : List ℕ → Type 0) (word text : List ℕ) (x y : X) (rest : Option X)
    → P text → (rest ≡ Some y → P word) → cond (bytes_eq word text) (Some x) rest ≡ Some y → P word
chosen P word text x y rest has more e = by_test (bytes_eq word text) refl
  where
    by_test : (v : Bool) → bytes_eq word text ≡ v → P word
    by_test true is = subst P (sym ((bytes_eq-Decides word text).0 is)) has
    by_test false is = more (rw is at e)

pub none-chosen : {X : Type 0} (P : List ℕ → Type 0) (word : List ℕ) (y : X) → None ≡ Some y
    → P word
none-chosen P word y e = absurd cc

pub name_of-text : (bs : List ℕ) → eqb (length bs) 0 ≡ false → IsUtf8 bs → name_of bs ≡ Some bs
name_of-text [] e text = absurd (grind (arith, nat_tests))
name_of-text (b ∷ bs) e text =
    ap (λ v. cond v (Some (b ∷ bs)) None) (is_utf8-from_IsUtf8 (b ∷ bs) text)

pub name_of-no_text : (bs : List ℕ) → eqb (length bs) 0 ≡ false → ¬ (IsUtf8 bs) → name_of bs ≡ None
name_of-no_text [] e bad = absurd (grind (arith, nat_tests))
name_of-no_text (b ∷ bs) e bad = ap (λ v. cond v (Some (b ∷ bs)) None) (is-utf8-false (b ∷ bs) bad)
