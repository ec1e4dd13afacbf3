-- Lemmas on the parts of a scenario.
use Rattle.std.proofs.Common.{◌≡◌, ℕ, ◌+◌, ◌-◌, true, false, cond, List, ◌∷◌, ◌++◌, length, take, refl, ap, sym, ◌∙◌, arith, append_assoc, append-nil, length-append, Option, None, Some, option_map, []}
use Rattle.std.proofs.Math.Seq.{take-append_seam}
use Rattle.std.specs.List.{concat}
use Rattle.bay_report.specs.TextLines.{pieces, line_without_end, CutsLine}
use Rattle.cmd_replay.specs.Scenario.{is_separator, part_of}
use Rattle.bay_report.proofs.PieceLemmas.{concat-pieces}

-- a part goes on with what was taken before it
abbrev pub after : List ℕ → Option (List ℕ × List ℕ) → Option (List ℕ × List ℕ)
after before parts = option_map (λ p. (before ++ p.0, p.1)) parts

after-after : (xs ys : List ℕ) (parts : Option (List ℕ × List ℕ))
    → after xs (after ys parts) ≡ after (xs ++ ys) parts
after-after xs ys None = refl
after-after xs ys (Some p) = ap (λ l. Some (l, p.1)) (sym (append_assoc xs ys p.0))

separator-first : (before piece rest : List ℕ) → is_separator (line_without_end piece) ≡ true
    → after before (part_of (piece ∷ pieces rest)) ≡ Some (before, rest)
separator-first before piece rest e =
    ap (λ w. after before (cond w (Some ([], concat (pieces rest)))
    (after piece (part_of (pieces rest))))) e
    ∙ ap (λ l. Some (before ++ [], l)) (concat-pieces rest)
    ∙ ap (λ l. Some (l, rest)) (append-nil before)

other-line-first : (before piece rest : List ℕ) → is_separator (line_without_end piece) ≡ false
    → after before (part_of (piece ∷ pieces rest)) ≡ after (before ++ piece) (part_of (pieces rest))
other-line-first before piece rest e =
    ap (λ w. after before (cond w (Some ([], concat (pieces rest)))
    (after piece (part_of (pieces rest))))) e
    ∙ after-after before piece (part_of (pieces rest))

-- the lines before the rest are no separators
pub record PartSoFar (text rest : List ℕ) (taken : ℕ) : Type 0 where
  pub before : List ℕ
  pub whole : text ≡ before ++ rest
  pub counted : length before ≡ taken
  pub parts : part_of (pieces text) ≡ after before (part_of (pieces rest))

pub PartSoFar-step : (text rest line next : List ℕ) (taken : ℕ) → PartSoFar text rest taken
    → CutsLine rest line next → is_separator line ≡ false
    → PartSoFar text next (taken + (length rest - length next))
PartSoFar-step text rest line next taken p c e =
    record {
      before = p.before ++ c.piece;
      whole = p.whole ∙ ap (λ l. p.before ++ l) c.whole ∙ sym (append_assoc p.before c.piece next);
      counted =
          omega (
            arith,
            p.counted,
            length-append p.before c.piece,
            ap length c.whole,
            length-append c.piece next,
          );
      parts = p.parts ∙ ap (λ ps. after p.before (part_of ps)) c.first
          ∙ other-line-first p.before c.piece next (ap is_separator (sym c.line_is) ∙ e);
    }

pub PartSoFar-end : (text rest line next : List ℕ) (taken : ℕ) → PartSoFar text rest taken
    → CutsLine rest line next → is_separator line ≡ true
    → part_of (pieces text) ≡ Some (take taken text, next)
PartSoFar-end text rest line next taken p c e =
    let front : take taken text ≡ p.before =
    ap (λ n. take n text) (sym p.counted) ∙ ap (take (length p.before)) p.whole
    ∙ take-append_seam p.before rest in
    p.parts ∙ ap (λ ps. after p.before (part_of ps)) c.first
    ∙ separator-first p.before c.piece next (ap is_separator (sym c.line_is) ∙ e)
    ∙ ap (λ l. Some (l, next)) (sym front)
