use Rattle.std.proofs.Common.{◌≡◌, ◌<◌, ◌∷◌, [], take, drop, length, ℕ, suc, ◌-◌, ◌++◌, List, slice_set, ℤ, refl, ap, ◌∙◌, w64, arith}
use Rattle.std.proofs.lemmas.List.{length-reverse, length-set, take_at}
use Rattle.std.proofs.lemmas.Int.{to_z-of_z}
use mathlib.Core.List.{reverse, reverse_aux}
use Rattle.il_scan.proofs.stack.OperandStack.replace_top.Goals as goal

set-last : (words onto : List ℤ) (word : ℤ) → 0 < length words
    → reverse_aux (slice_set words (length words - 1) word) onto
    ≡ word ∷ drop 1 (reverse_aux words onto)
set-last [] onto word h = absurd (omega (arith, h))
set-last (x ∷ []) onto word h = refl
set-last (x ∷ y ∷ words) onto word h =
    let e : suc (suc (length words)) - 1 ≡ suc (suc (length words) - 1) = omega arith in
    ap (λ (n : ℕ). reverse_aux (slice_set (x ∷ y ∷ words) n word) onto) e
    ∙ set-last (y ∷ words) (x ∷ onto) word (omega arith)

set-whole : (words : List ℤ) (n : ℕ) (word : ℤ)
    → take (length words) (slice_set words n word ++ drop (length (slice_set words n word)) words)
    ≡ slice_set words n word
set-whole words n word =
    let set = slice_set words n word in
    take_at set (drop (length set) words) (length words) (length-set words n word)

pub returns : goal.returns
returns c =
    let words = c.self.inside.words.items in
    let some : 0 < length words =
    omega (arith, c.requires, ap (λ (ws : List ℤ). length ws) c.self.view_is, length-reverse words)
    in
    rw c.as_mut_slice-words.ensures.value
    (rw (to_z-of_z w64 c.args.word c.ranges.word)
    (ap reverse (set-whole words (length words - 1) c.args.word)
    ∙ set-last words [] c.args.word some
    ∙ ap (λ (ws : List ℤ). c.args.word ∷ drop 1 ws) c.self.view_is))
