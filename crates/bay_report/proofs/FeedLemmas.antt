-- Where the first line feed of a text stands, by the list of all their places.
use Rattle.std.proofs.Common.{◌≡◌, ℕ, zero, suc, ◌+◌, ◌<◌, ◌≤◌, Bool, true, false, nat_lt, List, ◌∷◌, refl, subst, arith, []}
use Rattle.std.proofs.lemmas.Bool.Decides.{nat_tests}
use Rattle.std.specs.Prelude.{slice_index}
use Rattle.memchr.specs.Find.{is_byte, places_from}
use Rattle.bay_report.specs.TextLines.{is_line_feed}

-- no line feed stands from place i up to j
abbrev NoFeed : List ℕ → ℕ → ℕ → Type 0
NoFeed xs i j = (k : ℕ) → i ≤ k → k < j → is_line_feed (slice_index xs k) ≡ false

no-feed-here : (xs : List ℕ) (i j : ℕ) → is_line_feed (slice_index xs i) ≡ false
    → NoFeed xs (i + 1) j → NoFeed xs i j
no-feed-here xs i j here later k low high = by_test (nat_lt i k) refl
  where
    by_test : (v : Bool) → nat_lt i k ≡ v → is_line_feed (slice_index xs k) ≡ false
    by_test true e = later k (grind (arith, nat_tests)) high
    by_test false e = let same : i ≡ k =
        grind (arith, nat_tests) in subst (λ m. is_line_feed (slice_index xs m) ≡ false) same here

-- the first line feed among n places from i
pub record IsFirstFeed (xs : List ℕ) (i n k : ℕ) : Type 0 where
  pub high : k < i + n
  pub before : NoFeed xs i k
  pub at : is_line_feed (slice_index xs k) ≡ true

pub first-feed : (xs : List ℕ) (i n k : ℕ) (rest : List ℕ)
    → places_from (is_byte 10) xs i n ≡ k ∷ rest → IsFirstFeed xs i n k
unfolding places_from
first-feed xs i zero k rest e = absurd cc
first-feed xs i (suc n) k rest e =
    by_test (first-feed xs (i + 1) n k rest) (is_line_feed (slice_index xs i)) refl
  where
    by_test : (places_from (is_byte 10) xs (i + 1) n ≡ k ∷ rest → IsFirstFeed xs (i + 1) n k)
        → (v : Bool) → is_line_feed (slice_index xs i) ≡ v → IsFirstFeed xs i (suc n) k
    by_test more true h =
        let here : i ∷ places_from (is_byte 10) xs (i + 1) n ≡ k ∷ rest = rw h at e in
        let same : i ≡ k = cc in
        subst (λ m. IsFirstFeed xs i (suc n) m) same
        (record {
          high = omega arith;
          before = λ j low high. absurd (omega (arith, low, high));
          at = h;
        })
    by_test more false h =
        let first = more (rw h at e) in
        record {
          high = omega (arith, first.high);
          before = no-feed-here xs i k h first.before;
          at = first.at;
        }

pub no-feed : (xs : List ℕ) (i n : ℕ) → places_from (is_byte 10) xs i n ≡ [] → NoFeed xs i (i + n)
unfolding places_from
no-feed xs i zero e = λ k low high. absurd (omega (arith, low, high))
no-feed xs i (suc n) e = by_test (no-feed xs (i + 1) n) (is_line_feed (slice_index xs i)) refl
  where
    by_test : (places_from (is_byte 10) xs (i + 1) n ≡ [] → NoFeed xs (i + 1) (i + 1 + n))
        → (v : Bool) → is_line_feed (slice_index xs i) ≡ v → NoFeed xs i (i + suc n)
    by_test more true h = let here : i ∷ places_from (is_byte 10) xs (i + 1) n ≡ [] =
        rw h at e in absurd cc
    by_test more false h =
        no-feed-here xs i (i + suc n) h (λ k low high. more (rw h at e) k low (omega (arith, high)))
