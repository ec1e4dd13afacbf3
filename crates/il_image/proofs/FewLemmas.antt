-- A search among lists of at most so many octets.
use Rattle.std.proofs.Common.{◌≡◌, ℕ, zero, suc, ◌<◌, ◌≤◌, List, [], ◌∷◌, length, refl, subst, ap, arith, inl, inr}
use Rattle.std.specs.Prelude.{Ok, Err, ◌⊎◌}
use Rattle.std.proofs.lemmas.Bool.{cases_eq}
use Rattle.il_image.specs.Octets.{AreOctets}
use Rattle.il_image.specs.Reading.{Read}
use Rattle.il_image.proofs.ReadLemmas.{ok-same}
use Rattle.il_image.proofs.PieceLemmas.{are-more, are-none}

-- so, or not so
abbrev pub Told : Type 0 → Type 0
Told A = A ⊎ (A → ⊥)

-- one of the first n numbers
abbrev pub First : (ℕ → Type 0) → ℕ → Type 0
First P n = (x : ℕ) × (x < n) × P x

first-told : (P : ℕ → Type 0) → ((x : ℕ) → Told (P x)) → (n : ℕ) → Told (First P n)
first-told P told zero = inr (λ f. (let h = f.1 in omega arith))
first-told P told (suc n) = elim (told n) [
  | inl p ↦ inl (n, omega arith, p)
  | inr not_it ↦ elim (first-told P told n) [
    | inl f ↦ inl (f.0, (let h = f.1 in omega arith), f.2)
    | inr none ↦ inr (λ f. elim (cases_eq f.0 n) [
      | inl same ↦ not_it (subst P same f.2)
      | inr other ↦ none (f.0, (let h = f.1 in omega arith), f.2)
    ])
  ]
]

-- a list of at most n octets
pub record Few (P : List ℕ → Type 0) (n : ℕ) : Type 0 where
  pub octets : List ℕ
  pub fits : AreOctets octets
  pub few : length octets ≤ n
  pub is : P octets

pub few-told : (P : List ℕ → Type 0) → ((octets : List ℕ) → Told (P octets)) → (n : ℕ)
    → Told (Few P n)
few-told P told zero = elim (told []) [
  | inl p ↦ inl (record { octets = []; fits = are-none; few = omega arith; is = p })
  | inr not_it ↦ inr (λ f. none-of f.octets f.few f.is not_it)
]
  where
    none-of : (octets : List ℕ) → length octets ≤ 0 → P octets → (P [] → ⊥) → ⊥
    none-of [] le p not_it = not_it p
    none-of (x ∷ octets) le p not_it = omega arith
few-told P told (suc n) = elim (told []) [
  | inl p ↦ inl (record { octets = []; fits = are-none; few = omega arith; is = p })
  | inr not_it ↦ elim (first-told (λ x. Few (λ octets. P (x ∷ octets)) n)
      (λ x. few-told (λ octets. P (x ∷ octets)) (λ octets. told (x ∷ octets)) n) 256) [
        | inl f ↦ inl (record {
          octets = f.0 ∷ f.2.octets;
          fits = are-more f.0 f.2.octets f.1 f.2.fits;
          few = (let h = f.2.few in omega arith);
          is = f.2.is;
        })
        | inr none ↦ inr (λ f. one-of f.octets f.fits f.few f.is not_it none)
      ]
]
  where
    one-of : (octets : List ℕ) → AreOctets octets → length octets ≤ suc n → P octets → (P [] → ⊥)
        → (First (λ x. Few (λ octets. P (x ∷ octets)) n) 256 → ⊥) → ⊥
    one-of [] fits le p not_it none = not_it p
    one-of (x ∷ octets) fits le p not_it none =
        none (
          x,
          fits 0,
          record { octets = octets; fits = λ i. fits (suc i); few = omega arith; is = p },
        )

-- what was read is all
abbrev pub IsAll : {A : Type 0} → Read A → Type 0
IsAll {A} r = (x : A) × (r ≡ Ok (x, []))

pub all-told : {A : Type 0} (r : Read A) → Told (IsAll r)
all-told (Ok (x, [])) = inl (x, refl)
all-told {A} (Ok (x, y ∷ ys)) =
    inr (λ f. (let h : y ∷ ys ≡ [] = ap (λ q. q.1) (ok-same (x, y ∷ ys) (f.0, []) f.1) in
    absurd cc))
all-told (Err e) = inr (λ f. (let h = f.1 in absurd cc))
