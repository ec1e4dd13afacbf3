-- Lemmas on the lines of a text.
use Rattle.std.proofs.Common.{◌≡◌, ℕ, zero, suc, ◌+◌, ◌-◌, ◌<◌, ◌≤◌, Bool, true, false, cond, List, ◌∷◌, ◌++◌, length, take, drop, get_or, map, refl, ap, sym, ◌∙◌, arith, length-append, take-append-drop, []}
use Rattle.std.proofs.Math.Seq.{drop-append_seam, take-append_seam, take-suc}
use Rattle.std.proofs.lemmas.Bool.Decides.{nat_tests}
use Rattle.std.proofs.lemmas.List.{get_or-drop, take_all}
use Rattle.std.proofs.lemmas.Slice.Eq.{bytes_eq-Decides}
use Rattle.std.specs.List.{onto_first, concat}
use Rattle.bay_report.specs.TextLines.{is_line_feed, pieces, ends_with, without_end, line_without_end, CutsLine, lines_of}

feed-first : (b : ℕ) (bs : List ℕ) → is_line_feed b ≡ true → pieces (b ∷ bs) ≡ (b ∷ []) ∷ pieces bs
feed-first b bs e = ap (λ v. cond v ((b ∷ []) ∷ pieces bs) (onto_first b (pieces bs))) e

other-first : (b : ℕ) (bs : List ℕ) → is_line_feed b ≡ false
    → pieces (b ∷ bs) ≡ onto_first b (pieces bs)
other-first b bs e = ap (λ v. cond v ((b ∷ []) ∷ pieces bs) (onto_first b (pieces bs))) e

last-alone : (b : ℕ) (v : Bool) → cond v ((b ∷ []) ∷ []) (onto_first b []) ≡ (b ∷ []) ∷ []
last-alone b true = refl
last-alone b false = refl

-- the first line feed, or the end, closes the first line
pub pieces-at : (xs : List ℕ) (n : ℕ) → suc n ≤ length xs
    → ((k : ℕ) → k < n → is_line_feed (get_or xs k 0) ≡ false)
    → (suc n < length xs → is_line_feed (get_or xs n 0) ≡ true)
    → pieces xs ≡ take (suc n) xs ∷ pieces (drop (suc n) xs)
pieces-at [] n w f t = absurd (omega arith)
pieces-at (b ∷ []) zero w f t = last-alone b (is_line_feed b)
pieces-at (b ∷ c ∷ cs) zero w f t = feed-first b (c ∷ cs) (t (omega arith))
pieces-at (b ∷ []) (suc n) w f t = absurd (omega arith)
pieces-at (b ∷ c ∷ cs) (suc n) w f t =
    other-first b (c ∷ cs) (f 0 (omega arith))
    ∙ ap (onto_first b) (pieces-at (c ∷ cs) n (omega arith) (λ k h. f (suc k) (omega arith))
    (λ h. t (omega arith)))

pub cuts-line : (xs line : List ℕ) (n : ℕ) → 0 < n → n ≤ length xs
    → ((k : ℕ) → k + 1 < n → is_line_feed (get_or xs k 0) ≡ false)
    → (n < length xs → is_line_feed (get_or xs (n - 1) 0) ≡ true)
    → line ≡ line_without_end (take n xs) → CutsLine xs line (drop n xs)
cuts-line xs line zero some w f t e = absurd (omega arith)
cuts-line xs line (suc n) some w f t e =
    record {
      piece = take (suc n) xs;
      whole = sym (take-append-drop (suc n) xs);
      first = pieces-at xs n w (λ k h. f k (omega arith))
          (λ h. let same : suc n - 1 ≡ n = omega arith in
          ap (λ m. is_line_feed (get_or xs m 0)) (sym same) ∙ t h);
      line_is = e;
    }

-- a line feed at the end of a line is taken off, and then a carriage return
fed-end : (zs : List ℕ) → drop (length (zs ++ 10 ∷ []) - 1) (zs ++ 10 ∷ []) ≡ 10 ∷ []
fed-end zs = let n : length (zs ++ 10 ∷ []) - 1 ≡ length zs =
    omega (arith, length-append zs (10 ∷ [])) in
    ap (λ k. drop k (zs ++ 10 ∷ [])) n ∙ drop-append_seam zs (10 ∷ [])

fed-front : (zs : List ℕ) → take (length (zs ++ 10 ∷ []) - 1) (zs ++ 10 ∷ []) ≡ zs
fed-front zs = let n : length (zs ++ 10 ∷ []) - 1 ≡ length zs =
    omega (arith, length-append zs (10 ∷ [])) in
    ap (λ k. take k (zs ++ 10 ∷ [])) n ∙ take-append_seam zs (10 ∷ [])

pub content-fed : (zs : List ℕ) (b : ℕ) → is_line_feed b ≡ true
    → line_without_end (zs ++ b ∷ []) ≡ without_end (13 ∷ []) zs
content-fed zs b is =
    let feed : b ≡ 10 = grind (arith, nat_tests) in
    rw (feed, fed-end zs, fed-front zs) refl

-- a line without one is all of it
pub content-unfed : (xs : List ℕ) → 0 < length xs
    → is_line_feed (get_or xs (length xs - 1) 0) ≡ false → line_without_end xs ≡ xs
content-unfed xs some none = by_test (ends_with (10 ∷ []) xs) refl
  where
    by_test : (v : Bool) → ends_with (10 ∷ []) xs ≡ v → line_without_end xs ≡ xs
    by_test true e =
        let end : drop (length xs - 1) xs ≡ 10 ∷ [] =
        (bytes_eq-Decides (drop (length xs - 1) xs) (10 ∷ [])).0 e in
        let same : length xs - 1 ≡ length xs - 1 + 0 = omega arith in
        let last : get_or xs (length xs - 1) 0 ≡ 10 =
        ap (λ k. get_or xs k 0) same ∙ sym (get_or-drop (length xs - 1) xs 0 0)
        ∙ ap (λ l. get_or l 0 0) end in
        let is : is_line_feed (get_or xs (length xs - 1) 0) ≡ true = ap is_line_feed last in
        absurd cc
    by_test false e = rw e refl

-- what stands before the first line feed is the first line, and what follows it the rest
pub cuts-fed : (xs line : List ℕ) (at : ℕ) → at < length xs
    → ((k : ℕ) → k < at → is_line_feed (get_or xs k 0) ≡ false)
    → is_line_feed (get_or xs at 0) ≡ true
    → line ≡ without_end (13 ∷ []) (take at xs) → CutsLine xs line (drop (at + 1) xs)
cuts-fed xs line at lt before is e =
    let next : at + 1 ≡ suc at = omega arith in
    let front : take (at + 1) xs ≡ take at xs ++ (get_or xs at 0 ∷ []) =
    ap (λ n. take n xs) next ∙ take-suc xs at 0 lt in
    let same : at + 1 - 1 ≡ at = omega arith in
    cuts-line xs line (at + 1) (omega arith) (omega (arith, lt))
    (λ k h. before k (omega (arith, h))) (λ h. ap (λ m. is_line_feed (get_or xs m 0)) same ∙ is)
    (e ∙ sym (ap line_without_end front ∙ content-fed (take at xs) (get_or xs at 0) is))

-- without a line feed there is one line
pub cuts-unfed : (xs : List ℕ) → 0 < length xs
    → ((k : ℕ) → k < length xs → is_line_feed (get_or xs k 0) ≡ false)
    → CutsLine xs xs (drop (length xs) xs)
cuts-unfed xs some none =
    let whole : take (length xs) xs ≡ xs = take_all (length xs) xs (omega arith) in
    let last : is_line_feed (get_or xs (length xs - 1) 0) ≡ false =
    none (length xs - 1) (omega (arith, some)) in
    cuts-line xs xs (length xs) some (omega arith) (λ k h. none k (omega (arith, h)))
    (λ h. absurd (omega (arith, h))) (sym (ap line_without_end whole ∙ content-unfed xs some last))

concat-onto_first : (b : ℕ) (ps : List (List ℕ)) → concat (onto_first b ps) ≡ b ∷ concat ps
concat-onto_first b [] = refl
concat-onto_first b (p ∷ ps) = refl

concat-step : (b : ℕ) (bs : List ℕ) (v : Bool) → concat (pieces bs) ≡ bs
    → concat (cond v ((b ∷ []) ∷ pieces bs) (onto_first b (pieces bs))) ≡ b ∷ bs
concat-step b bs true h = ap (λ l. b ∷ l) h
concat-step b bs false h = concat-onto_first b (pieces bs) ∙ ap (λ l. b ∷ l) h

-- the lines with their ends are the text
pub concat-pieces : (bs : List ℕ) → concat (pieces bs) ≡ bs
concat-pieces [] = refl
concat-pieces (b ∷ bs) = concat-step b bs (is_line_feed b) (concat-pieces bs)

pub lines-cut : (xs line rest : List ℕ) → CutsLine xs line rest
    → lines_of xs ≡ line ∷ lines_of rest
lines-cut xs line rest c =
    ap (map line_without_end) c.first ∙ ap (λ l. l ∷ lines_of rest) (sym c.line_is)
