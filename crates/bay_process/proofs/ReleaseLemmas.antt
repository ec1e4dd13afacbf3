-- The text of releases, where one switch's digits change and where they are read.
use Rattle.std.proofs.Common.{◌≡◌, ℕ, zero, suc, Bool, true, false, Some, nat_eq, ◌+◌, ◌<◌, List, [], ◌∷◌, ◌++◌, codes, length, slice_get, refl, sym, ap, ◌∙◌, arith, append_assoc, add-one, length-append}
use Rattle.std.proofs.lemmas.List.{length-set}
use Rattle.std.specs.Prelude.{slice_index_or, slice_set}
use Rattle.bay_nodes.specs.declared.switch.Switch.{Switch}
use Rattle.bay_process.specs.Releases.{ShowsReleases, digit_octet, digit_text, digits_from, text_before_digits, released_text, switch_text}
use Rattle.bay_process.specs.declared.switch.SwitchEnables.{SwitchEnables}

-- ---- the text by octets, with what stands behind it

abbrev plain : List ℕ → List Switch → List SwitchEnables → List ℕ
plain end [] enables = end
plain end (s ∷ ss) [] = end
plain end (s ∷ ss) (e ∷ enables) =
    text_before_digits s ++ (digit_octet e.may_open ∷ digit_octet e.may_close
    ∷ plain end ss enables)

two-digits : (o c : Bool) (rest : List ℕ)
    → (digit_text o ++ digit_text c) ++ rest ≡ digit_octet o ∷ digit_octet c ∷ rest
two-digits true true rest = refl
two-digits true false rest = refl
two-digits false true rest = refl
two-digits false false rest = refl

part-plain : (s : Switch) (o c : Bool) (rest : List ℕ)
    → switch_text s.id o c ++ rest ≡ text_before_digits s ++ (digit_octet o ∷ digit_octet c ∷ rest)
part-plain s o c rest =
    append_assoc (text_before_digits s) (digit_text o ++ digit_text c) rest
    ∙ ap (λ t. text_before_digits s ++ t) (two-digits o c rest)

is-plain : (end : List ℕ) (ss : List Switch) (enables : List SwitchEnables)
    → length enables ≡ length ss
    → released_text ss enables ++ end ≡ plain end ss enables
is-plain end [] enables sized = refl
is-plain end (s ∷ ss) [] sized = absurd (omega (arith, sized))
is-plain end (s ∷ ss) (e ∷ enables) sized =
    append_assoc (switch_text s.id e.may_open e.may_close) (released_text ss enables) end
    ∙ ap (λ t. switch_text s.id e.may_open e.may_close ++ t)
    (is-plain end ss enables (omega (arith, sized)))
    ∙ part-plain s e.may_open e.may_close (plain end ss enables)

-- ---- two octets in it

two-at : (f : List ℕ) (x y v w : ℕ) (rest : List ℕ)
    → slice_set (slice_set (f ++ (x ∷ y ∷ rest)) (length f) v) (suc (length f)) w
    ≡ f ++ (v ∷ w ∷ rest)
two-at [] x y v w rest = refl
two-at (z ∷ f) x y v w rest = ap (λ t. z ∷ t) (two-at f x y v w rest)

two-set : (f : List ℕ) (x y v w : ℕ) (rest text : List ℕ) (a : ℕ) → a ≡ length f
    → text ≡ f ++ (x ∷ y ∷ rest)
    → slice_set (slice_set text a v) (suc a) w ≡ f ++ (v ∷ w ∷ rest)
two-set f x y v w rest text a e is = rw is (rw e (two-at f x y v w rest))

two-there : (f : List ℕ) (x y : ℕ) (rest : List ℕ)
    → (slice_index_or (f ++ (x ∷ y ∷ rest)) (length f) 0 ≡ x)
    × (slice_index_or (f ++ (x ∷ y ∷ rest)) (suc (length f)) 0 ≡ y)
two-there [] x y rest = (refl, refl)
two-there (z ∷ f) x y rest = two-there f x y rest

two-read : (f : List ℕ) (x y : ℕ) (rest text : List ℕ) (a : ℕ) → a ≡ length f
    → text ≡ f ++ (x ∷ y ∷ rest)
    → (slice_index_or text a 0 ≡ x) × (slice_index_or text (suc a) 0 ≡ y)
two-read f x y rest text a e is = rw is (rw e (two-there f x y rest))

seam : (front l : List ℕ) (x y : ℕ) (r : List ℕ)
    → (front ++ (l ++ (x ∷ y ∷ []))) ++ r ≡ front ++ (l ++ (x ∷ y ∷ r))
seam front l x y r =
    append_assoc front (l ++ (x ∷ y ∷ [])) r
    ∙ ap (λ t. front ++ t) (append_assoc l (x ∷ y ∷ []) r)

seam-length : (front l : List ℕ) (x y n : ℕ) → n ≡ length front
    → n + length l + 2 ≡ length (front ++ (l ++ (x ∷ y ∷ [])))
seam-length front l x y n e =
    omega (arith, e, length-append front (l ++ (x ∷ y ∷ [])), length-append l (x ∷ y ∷ []))

-- ---- the digits of a switch

module _ (end : List ℕ) where
  patched : (front : List ℕ) (ss : List Switch) (enables : List SwitchEnables) (k : ℕ)
      (new : SwitchEnables)
      (n : ℕ) (text : List ℕ) → n ≡ length front → text ≡ front ++ plain end ss enables
      → length enables ≡ length ss → k < length ss
      → slice_set (slice_set text (slice_index_or (digits_from n ss) k 0)
      (digit_octet new.may_open))
      (suc (slice_index_or (digits_from n ss) k 0)) (digit_octet new.may_close)
      ≡ front ++ plain end ss (slice_set enables k new)
  patched front [] enables k new n text e is sized within = absurd (omega (arith, within))
  patched front (s ∷ ss) [] k new n text e is sized within = absurd (omega (arith, sized))
  patched front (s ∷ ss) (old ∷ enables) zero new n text e is sized within =
      two-set (front ++ text_before_digits s) (digit_octet old.may_open) (digit_octet old.may_close)
      (digit_octet new.may_open) (digit_octet new.may_close) (plain end ss enables) text
      (n + length (text_before_digits s))
      (omega (arith, e, length-append front (text_before_digits s)))
      (is ∙ sym (append_assoc front (text_before_digits s)
      (digit_octet old.may_open ∷ digit_octet old.may_close ∷ plain end ss enables)))
      ∙ append_assoc front (text_before_digits s)
      (digit_octet new.may_open ∷ digit_octet new.may_close ∷ plain end ss enables)
  patched front (s ∷ ss) (old ∷ enables) (suc k) new n text e is sized within =
      let x = digit_octet old.may_open in
      let y = digit_octet old.may_close in
      patched (front ++ (text_before_digits s ++ (x ∷ y ∷ []))) ss enables k new
      (n + length (text_before_digits s) + 2) text
      (seam-length front (text_before_digits s) x y n e)
      (is ∙ sym (seam front (text_before_digits s) x y (plain end ss enables)))
      (omega (arith, sized)) (omega (arith, within))
      ∙ seam front (text_before_digits s) x y (plain end ss (slice_set enables k new))

  placed : (ss : List Switch) (enables : List SwitchEnables) (k n : ℕ) → length enables ≡ length ss
      → k < length ss
      → suc (slice_index_or (digits_from n ss) k 0) < n + length (plain end ss enables)
  placed [] enables k n sized within = absurd (omega (arith, within))
  placed (s ∷ ss) [] k n sized within = absurd (omega (arith, sized))
  placed (s ∷ ss) (old ∷ enables) zero n sized within =
      let x = digit_octet old.may_open in
      let y = digit_octet old.may_close in
      omega (arith, length-append (text_before_digits s) (x ∷ y ∷ plain end ss enables))
  placed (s ∷ ss) (old ∷ enables) (suc k) n sized within =
      let x = digit_octet old.may_open in
      let y = digit_octet old.may_close in
      omega (
        arith,
        placed ss enables k (n + length (text_before_digits s) + 2) (omega (arith, sized))
            (omega (arith, within)),
        length-append (text_before_digits s) (x ∷ y ∷ plain end ss enables),
      )

  read : (front : List ℕ) (ss : List Switch) (enables : List SwitchEnables) (k n : ℕ)
      (text : List ℕ)
      → n ≡ length front → text ≡ front ++ plain end ss enables → length enables ≡ length ss
      → k < length ss
      → (e : SwitchEnables) × (slice_get enables k ≡ Some e)
      × (slice_index_or text (slice_index_or (digits_from n ss) k 0) 0 ≡ digit_octet e.may_open)
      × (slice_index_or text (suc (slice_index_or (digits_from n ss) k 0)) 0
      ≡ digit_octet e.may_close)
  read front [] enables k n text e is sized within = absurd (omega (arith, within))
  read front (s ∷ ss) [] k n text e is sized within = absurd (omega (arith, sized))
  read front (s ∷ ss) (old ∷ enables) zero n text e is sized within =
      let both =
      two-read (front ++ text_before_digits s) (digit_octet old.may_open)
      (digit_octet old.may_close) (plain end ss enables) text
      (n + length (text_before_digits s))
      (omega (arith, e, length-append front (text_before_digits s)))
      (is ∙ sym (append_assoc front (text_before_digits s)
      (digit_octet old.may_open ∷ digit_octet old.may_close ∷ plain end ss enables))) in
      (old, refl, both.0, both.1)
  read front (s ∷ ss) (old ∷ enables) (suc k) n text e is sized within =
      let x = digit_octet old.may_open in
      let y = digit_octet old.may_close in
      read (front ++ (text_before_digits s ++ (x ∷ y ∷ []))) ss enables k
      (n + length (text_before_digits s) + 2) text
      (seam-length front (text_before_digits s) x y n e)
      (is ∙ sym (seam front (text_before_digits s) x y (plain end ss enables)))
      (omega (arith, sized)) (omega (arith, within))

digits-length : (n : ℕ) (ss : List Switch) → length (digits_from n ss) ≡ length ss
digits-length n [] = refl
digits-length n (s ∷ ss) = ap suc (digits-length (n + length (text_before_digits s) + 2) ss)

pub digit-is : (b : Bool) (x : ℕ) → x ≡ digit_octet b → nat_eq x 49 ≡ b
digit-is true x e = rw e refl
digit-is false x e = rw e refl

-- ---- what a text shows

module _ (ss : List Switch) (enables : List SwitchEnables) (text offsets : List ℕ)
    (s : ShowsReleases ss enables text offsets) where
  pub places-sized : length offsets ≡ length ss
  places-sized = ap (λ (ns : List ℕ). length ns) s.places_are ∙ digits-length 0 ss

  module _ (k : ℕ) (within : k < length offsets) where
    k-within : k < length ss
    k-within = omega (arith, within, places-sized)

    text-plain : text ≡ [] ++ plain (codes "\n") ss enables
    text-plain = s.text_is ∙ is-plain (codes "\n") ss enables s.sized

    pub digit-there : slice_index_or offsets k 0 + 1 < length text
    digit-there =
        omega (
          arith,
          placed (codes "\n") ss enables k 0 s.sized k-within,
          ap (λ (ns : List ℕ). slice_index_or ns k 0) s.places_are,
          ap (λ (os : List ℕ). length os) text-plain,
        )

    pub told-there : (e : SwitchEnables) × (slice_get enables k ≡ Some e)
        × (slice_index_or text (slice_index_or offsets k 0) 0 ≡ digit_octet e.may_open)
        × (slice_index_or text (slice_index_or offsets k 0 + 1) 0 ≡ digit_octet e.may_close)
    told-there =
        rw s.places_are (rw (add-one (slice_index_or (digits_from 0 ss) k 0))
        (read (codes "\n") [] ss enables k 0 text refl text-plain s.sized k-within))

    pub told-new : (new : SwitchEnables)
        → ShowsReleases ss (slice_set enables k new)
        (slice_set (slice_set text (slice_index_or offsets k 0) (digit_octet new.may_open))
        (slice_index_or offsets k 0 + 1) (digit_octet new.may_close)) offsets
    told-new new =
        let sized = length-set enables k new ∙ s.sized in
        record {
          sized = sized;
          text_is = rw s.places_are (rw (add-one (slice_index_or (digits_from 0 ss) k 0))
              (patched (codes "\n") [] ss enables k new 0 text refl text-plain s.sized k-within))
              ∙ sym (is-plain (codes "\n") ss (slice_set enables k new) sized);
          places_are = s.places_are;
        }
