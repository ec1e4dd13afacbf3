-- Lemmas on texts that are put behind what is kept.
use Rattle.std.proofs.Common.{◌≡◌, ℕ, ◌+◌, ◌<◌, ◌≤◌, Bor, Bool, if◌then◌else◌, nat_le, drop, get_or, add-one, true, false, List, [], ◌∷◌, ◌++◌, length, refl, sym, ap, ◌∙◌, arith, append_assoc, append-nil, length-append}
use Rattle.std.proofs.Math.Seq.{drop-cons}
use Rattle.std.proofs.lemmas.Bool.Decides.{nat_tests}
use Rattle.bay_lines.specs.Puts.{PutsWhole, fits_in, text_of}

module _ (most : ℕ) (old x y text : List ℕ) (fits : Bool) (is : fits ≡ fits_in most old x)
    (parts : text ≡ x ++ y) where
  -- a first part did not fit
  pub puts-failed : (new : List ℕ) → fits ≡ false → PutsWhole most old text new false
  puts-failed new none =
      let n : length text ≡ length x + length y = ap length parts ∙ length-append x y in
      record { fits = grind (arith, nat_tests); after = λ e. absurd cc }

  -- it was put, and then the rest
  pub puts-next : (mid new : List ℕ) (answer : Bool) → fits ≡ true
      → mid ≡ (if fits then old ++ x else old)
      → PutsWhole most mid y new answer → PutsWhole most old text new answer
  puts-next mid new answer fit after rest =
      let put : mid ≡ old ++ x = rw fit at after in
      let n : length text ≡ length x + length y = ap length parts ∙ length-append x y in
      let m : length mid ≡ length old + length x = ap length put ∙ length-append old x in
      let same : length mid + length y ≡ length old + length text = omega (arith, n, m) in
      record {
        fits = rest.fits ∙ ap (λ k. nat_le k most) same;
        after = λ e. rest.after e ∙ ap (λ l. l ++ y) put ∙ append_assoc old x y
            ∙ ap (λ l. old ++ l) (sym parts);
      }

-- what was put is within the room
pub puts-within : (most : ℕ) (old x mid : List ℕ) (fits : Bool) → fits ≡ fits_in most old x
    → fits ≡ true
    → mid ≡ (if fits then old ++ x else old) → length mid ≤ most
puts-within most old x mid fits is fit after =
    let put : mid ≡ old ++ x = rw fit at after in
    let m : length mid ≡ length old + length x = ap length put ∙ length-append old x in
    let le : length old + length x ≤ most = grind (arith, nat_tests) in
    omega (arith, m, le)

-- there is nothing to put
pub puts-nothing : (most : ℕ) (old text : List ℕ) → length old ≤ most → text ≡ []
    → PutsWhole most old text old true
puts-nothing most old text within none =
    let n : length text ≡ 0 = ap length none in
    record {
      fits = grind (arith, nat_tests);
      after = λ e. sym (append-nil old)
          ∙ ap (λ t. old ++ t) (sym none);
    }

-- the next part
pub text-turn : (parts : List (Bor (List ℕ))) (k : ℕ) (d : Bor (List ℕ)) → k < length parts
    → text_of (drop k parts) ≡ (get_or parts k d).now ++ text_of (drop (k + 1) parts)
text-turn parts k d lt =
    let next : drop k parts ≡ get_or parts k d ∷ drop (k + 1) parts =
    rw (add-one, drop-cons parts k d) refl in
    ap text_of next
