-- Lemmas on the line in front.
use Rattle.std.proofs.Common.{◌≡◌, ◌≢◌, ◌≤◌, ◌<◌, ◌+◌, ℕ, IfSome, List, [], ◌∷◌, ◌++◌, Option, Some, None, nat_lt, Bool, true, false, take, drop, get_or, length, refl, sym, ap, ◌∙◌, arith, append_assoc, append-nil, take-append-drop, if◌then◌else◌}
use Rattle.std.proofs.lemmas.Bool.Decides.{nat_tests}
use Rattle.std.proofs.lemmas.List.{get_or-take, length-take, take_more}
use Rattle.std.proofs.lemmas.List.Elements.{All-from_get_or}
use Rattle.std.proofs.lemmas.List.Quantifiers.{position-Some}
use Rattle.std.specs.List.{position}
use Rattle.bay_lines.specs.LineRemovals.{AreLines, Comes, RemovedLines, IsLine, LosesNothing, BufferStep, Takes, arrived_octets, removed_lines, after_removal}
use Rattle.bay_lines.specs.FirstLines.{LineSearchData, Overlong, Waiting, Whole, first_line_of, first_line_at, is_lf, without_return}

-- where the end of a line was looked for
pub first-within : (xs : List ℕ) (o : Option ℕ) → o ≡ position is_lf (take 257 xs)
    → IfSome o (λ at. (at < length xs) × (at ≤ 256))
first-within xs None e = tt
first-within xs (Some at) e =
    let low : at < length (take 257 xs) = (position-Some is_lf (take 257 xs) at 0 (sym e)).0 in
    (omega (arith, low, length-take 257 xs), omega (arith, low, length-take 257 xs))

-- ---- the line in front is a line, and it is cut off whole

record Cuts (xs line rest : List ℕ) : Type 0 where
  piece : List ℕ
  whole : xs ≡ piece ++ rest
  is : IsLine line piece

cuts-at : (xs : List ℕ) (k : ℕ) → position is_lf (take 257 xs) ≡ Some k
    → Cuts xs (without_return (take k xs)) (drop (k + 1) xs)
cuts-at xs k e =
    let found = position-Some is_lf (take 257 xs) k 0 e in
    let low : k < length (take 257 xs) = found.0 in
    let within : k < length xs = omega (arith, low, length-take 257 xs) in
    let reach : k < 257 = omega (arith, low, length-take 257 xs) in
    let here : get_or xs k 0 ≡ 10 =
    let is : is_lf (get_or xs k 0) ≡ true =
    ap is_lf (sym (get_or-take 257 xs k 0 reach)) ∙ found.1 in
    grind (arith, nat_tests) in
    record {
      piece = take (k + 1) xs;
      whole = sym (take-append-drop (k + 1) xs);
      is = record {
        content = take k xs;
        ended = take_more xs k 0 within ∙ ap (λ b. take k xs ++ b ∷ []) here;
        single =
            All-from_get_or (λ b. b ≢ 10) (take k xs) 0 (λ j lt.
            let below : j < k = omega (arith, lt, length-take k xs) in
            let other : is_lf (get_or xs j 0) ≡ false =
            ap is_lf (sym (get_or-take 257 xs j 0 (omega (arith, below, reach))))
            ∙ found.2 j below in
            let same : get_or (take k xs) j 0 ≡ get_or xs j 0 = get_or-take k xs j 0 below in
            λ e. let is : get_or xs j 0 ≡ 10 = sym same ∙ e in
            let yes : is_lf (get_or xs j 0) ≡ true = ap is_lf is in absurd cc);
        line_is = refl;
      };
    }

cuts-front : (xs line rest : List ℕ) → first_line_of xs ≡ Whole line rest → Cuts xs line rest
cuts-front xs line rest e = by-place (position is_lf (take 257 xs)) refl e
  where
    by-long : (v : Bool) → (if v then Overlong else Waiting) ≡ Whole line rest → Cuts xs line rest
    by-long true e = absurd cc
    by-long false e = absurd cc

    by-place : (o : Option ℕ) → position is_lf (take 257 xs) ≡ o
        → first_line_at xs o ≡ Whole line rest → Cuts xs line rest
    by-place None is e = by-long (nat_lt 256 (length xs)) e
    by-place (Some k) is e =
        let line_is : without_return (take k xs) ≡ line = cc in
        let rest-is : drop (k + 1) xs ≡ rest = cc in
        rw (← line_is, ← rest-is) (cuts-at xs k is)

-- ---- nothing is lost, from what is kept

record LosesFrom (kept all : List ℕ) (c : RemovedLines) : Type 0 where
  text : List ℕ
  lines : AreLines c.lines text
  whole : kept ++ all ≡ text ++ c.kept

took-whole : (f : LineSearchData) (kept all : List ℕ) (later : List ℕ → RemovedLines)
    → first_line_of kept ≡ f
    → ((k : List ℕ) → LosesFrom k all (later k)) → LosesFrom kept all (after_removal f kept later)
took-whole Waiting kept all later e h = h kept
took-whole Overlong kept all later e h = h kept
took-whole (Whole line rest) kept all later e h =
    let c = cuts-front kept line rest e in
    let l = h rest in
    record {
      text = c.piece ++ l.text;
      lines = (c.piece, l.text, refl, c.is, l.lines);
      whole = ap (λ k. k ++ all) c.whole ∙ append_assoc c.piece rest all
          ∙ ap (λ t. c.piece ++ t) l.whole ∙ sym (append_assoc c.piece l.text (later rest).kept);
    }

loses-nothing : (moves : List BufferStep) (kept : List ℕ)
    → LosesFrom kept (arrived_octets moves) (removed_lines moves kept)
loses-nothing [] kept = record { text = []; lines = refl; whole = append-nil kept }
loses-nothing (Comes octets ∷ moves) kept =
    let l = loses-nothing moves (kept ++ octets) in
    record {
      text = l.text;
      lines = l.lines;
      whole = sym (append_assoc kept octets (arrived_octets moves)) ∙ l.whole;
    }
loses-nothing (Takes ∷ moves) kept =
    took-whole (first_line_of kept) kept (arrived_octets moves) (removed_lines moves) refl
    (loses-nothing moves)

pub nothing-is-lost : (moves : List BufferStep) → LosesNothing moves
nothing-is-lost moves =
    let l = loses-nothing moves [] in
    record { text = l.text; lines = l.lines; whole = l.whole }
