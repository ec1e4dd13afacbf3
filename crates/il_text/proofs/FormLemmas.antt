-- Parts of a line's tokens.
use Rattle.std.proofs.Common.{◌≡◌, ℕ, suc, ◌+◌, not, Bool, true, false, cond, List, [], ◌∷◌, Option, Some, None, option_map, take, drop, refl, ap, ◌∙◌, arith}
use Rattle.std.specs.List.{position_or_len}
use Rattle.il_text.specs.TokenForms.{is_mark, split_at_mark, before_first}
use Rattle.il_text.specs.Tokens.{Symbol}
use Rattle.il_text.specs.TokenViews.{symbol_of, symbols_of}
use Rattle.il_text.specs.declared.token.Mark.{Mark}
use Rattle.il_text.specs.declared.token.Token.{Token}

-- the front, and what stands behind the first of the others
abbrev pub halved : List Token → List Token → Option (List Symbol × List Symbol)
halved front [] = None
halved front (t ∷ rest) = Some (symbols_of front, symbols_of rest)

halved-more : (t : Token) (front back : List Token)
    → option_map (before_first (symbol_of t)) (halved front back) ≡ halved (t ∷ front) back
halved-more t front [] = refl
halved-more t front (u ∷ back) = refl

-- the place of the first token of a mark
abbrev pub mark_place : Mark → List Token → ℕ
mark_place m ts = position_or_len (λ t. is_mark m (symbol_of t)) ts

pub split-at : (m : Mark) (ts : List Token)
    → split_at_mark m (symbols_of ts)
    ≡ halved (take (mark_place m ts) ts) (drop (mark_place m ts) ts)
split-at m [] = refl
split-at m (t ∷ ts) = rw (split-at m ts) (by-test (is_mark m (symbol_of t)))
  where
    by-test : (b : Bool)
        → cond b (Some ([], symbols_of ts))
        (option_map (before_first (symbol_of t))
        (halved (take (mark_place m ts) ts) (drop (mark_place m ts) ts)))
        ≡ halved (take (cond (not b) (1 + mark_place m ts) 0) (t ∷ ts))
        (drop (cond (not b) (1 + mark_place m ts) 0) (t ∷ ts))
    by-test true = refl
    by-test false =
        let n : suc (mark_place m ts) ≡ 1 + mark_place m ts = omega arith in
        halved-more t _ _
        ∙ ap (λ (k : ℕ). halved (take k (t ∷ ts)) (drop k (t ∷ ts))) n

pub ruleset split_rules = (split-at)
