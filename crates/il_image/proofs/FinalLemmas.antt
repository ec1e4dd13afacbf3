-- Images end where their octets end, and the first bad octet stays bad.
use Rattle.std.proofs.Common.{◌≡◌, ℕ, zero, suc, ◌<◌, ◌≤◌, List, [], ◌∷◌, ◌++◌, length, take, drop, get_or, refl, sym, ap, ◌∙◌, arith, inl, inr}
use Rattle.std.specs.Prelude.{Ok, Err, Result, ◌⊎◌}
use Rattle.std.proofs.lemmas.List.{take-append-drop}
use Rattle.std.proofs.Math.Seq.{take-length, take-suc}
use Rattle.bay_base.specs.Results.{◌>>=◌}
use Rattle.il_image.specs.declared.fault.ImageFault.{ImageFault}
use Rattle.il_image.specs.declared.fault.ImageFault.TheVariants.{BadOpcode, Truncated}
use Rattle.il_image.specs.Decoding.{IsFirstBad, decoded_image}
use Rattle.il_image.specs.Images.{Image}
use Rattle.il_image.proofs.ImageLemmas.{image-lawful}
use Rattle.il_image.proofs.PieceLemmas.{err-is, err-same, spoilt}

not-err : {A : Type 0} (x : A) (e : ImageFault) (r : Result A ImageFault) → r ≡ Ok x → r ≡ Err e → ⊥
not-err x e r h g = cc

pub octets-behind : (octets more : List ℕ) (i : Image) → decoded_image octets ≡ Ok i
    → 0 < length more
    → decoded_image (octets ++ more) ≡ Err Truncated
octets-behind octets [] i e some = absurd (omega arith)
octets-behind octets (m ∷ more) i e some =
    image-lawful.sound.steady octets (m ∷ more) (not-err i Truncated (decoded_image octets) e)
    ∙ ap (λ (r : Result Image ImageFault). r >>= (λ (i : Image). spoilt i (m ∷ more))) e

-- a fault is the want of more octets, or stays whatever follows
cut-or-not : (e : ImageFault) → (e ≡ Truncated) ⊎ (e ≡ Truncated → ⊥)
cut-or-not Truncated = inl refl
cut-or-not i = inr (λ h. cc)

stays : (octets more : List ℕ) (e : ImageFault) → decoded_image octets ≡ Err e
    → (e ≡ Truncated → ⊥) → decoded_image (octets ++ more) ≡ Err e
stays = err-is image-lawful.sound

-- a proper front of what is read wants more octets
front-case : (octets more : List ℕ) (i : Image) (r : Result Image ImageFault)
    → decoded_image octets ≡ r
    → decoded_image (octets ++ more) ≡ Ok i → 0 < length more → r ≡ Err Truncated
front-case octets more i (Ok j) is e some =
    absurd (not-err i Truncated (decoded_image (octets ++ more)) e
    (octets-behind octets more j is some))
front-case octets more i (Err f) is e some = elim (cut-or-not f) [
  | inl cut ↦ ap (λ (x : ImageFault). Err x) cut
  | inr ne ↦ absurd (not-err i f (decoded_image (octets ++ more)) e
      (stays octets more f is ne))
]

left-over : (n : ℕ) (octets : List ℕ) → n < length octets → 0 < length (drop n octets)
left-over n [] h = absurd (omega arith)
left-over zero (x ∷ octets) h = omega arith
left-over (suc n) (x ∷ octets) h = left-over n octets (omega arith)

pub proper-front : (octets : List ℕ) (i : Image) (n : ℕ) → decoded_image octets ≡ Ok i
    → n < length octets
    → decoded_image (take n octets) ≡ Err Truncated
proper-front octets i n e h =
    front-case (take n octets) (drop n octets) i (decoded_image (take n octets)) refl
    (ap decoded_image (take-append-drop n octets) ∙ e) (left-over n octets h)

-- ---- the first bad octet

module _ (octets : List ℕ) where
  one-more : (n : ℕ) → n < length octets
      → take (suc n) octets ≡ take n octets ++ (get_or octets n 0 ∷ [])
  one-more n h = take-suc octets n 0 h

  bad-for-good : (n : ℕ) → decoded_image (take n octets) ≡ Err BadOpcode → (more : List ℕ)
      → decoded_image (take n octets ++ more) ≡ Err BadOpcode
  bad-for-good n is more = stays (take n octets) more BadOpcode is (λ h. cc)

  empty-is-short : decoded_image (take 0 octets) ≡ Err Truncated
  unfolding decoded_image
  empty-is-short = refl

  bad-case : (n : ℕ) → n < length octets → decoded_image (take (suc n) octets) ≡ Err BadOpcode
      → (decoded_image (take n octets) ≡ Err BadOpcode → IsFirstBad octets)
      → (r : Result Image ImageFault) → decoded_image (take n octets) ≡ r → IsFirstBad octets
  bad-case n h is before (Ok i) e =
      absurd (let short = octets-behind (take n octets) (get_or octets n 0 ∷ []) i e (omega arith)
      in
      let no = sym short ∙ ap decoded_image (sym (one-more n h)) ∙ is in cc)
  bad-case n h is before (Err f) e = elim (cut-or-not f) [
    | inl cut ↦ record {
      bad = n;
      within = h;
      before = e ∙ ap (λ (x : ImageFault). Err x) cut;
      here = bad-for-good (suc n) is;
    }
    | inr ne ↦ (
        let kept = stays (take n octets) (get_or octets n 0 ∷ []) f e ne in
        let same = err-same {A = Image} f BadOpcode
        (sym kept ∙ ap decoded_image (sym (one-more n h)) ∙ is) in
        before (e ∙ ap (λ (x : ImageFault). Err x) same))
  ]

  search-bad : (n : ℕ) → n ≤ length octets → decoded_image (take n octets) ≡ Err BadOpcode
      → IsFirstBad octets
  search-bad zero le is =
      absurd (let no : ◌≡◌ {A = Result Image ImageFault} (Err Truncated) (Err BadOpcode) =
      sym empty-is-short ∙ is in cc)
  search-bad (suc n) le is =
      bad-case n (omega arith) is (λ e. search-bad n (omega arith) e)
      (decoded_image (take n octets)) refl

  pub first-bad : decoded_image octets ≡ Err BadOpcode → IsFirstBad octets
  first-bad is =
      search-bad (length octets) (omega arith) (ap decoded_image (take-length octets) ∙ is)
