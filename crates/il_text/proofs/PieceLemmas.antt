-- Pieces and comments, from one place of a text on.
use Rattle.std.proofs.Common.{◌≡◌, ℕ, ◌+◌, ◌-◌, ◌<◌, ◌≤◌, true, false, List, length, drop, slice_index, refl, arith, ⊎_elim}
use Rattle.std.proofs.lemmas.Grind.{common_steps}
use Rattle.std.proofs.lemmas.Bool.Decides.{nat_tests}
use Rattle.std.proofs.lemmas.Bool.{cases_lt}
use Rattle.std.specs.Str.{IsUtf8, IsCharBoundary}
use Rattle.std.proofs.lemmas.Str.{IsCharBoundary-after_ascii}
use Rattle.il_text.specs.Characters.{are_linked}
use Rattle.il_text.specs.Lexemes.{ends_later, ends_comment}
use Rattle.il_text.specs.Runs.{IsRun}
use Rattle.bay_base.proofs.ListLemmas.{front_of, none-left}

pub index-drop : (bs : List ℕ) (i k : ℕ) → slice_index (drop i bs) k ≡ slice_index bs (i + k)
index-drop bs i k = grind (arith, common_steps)

pub linked-none : (x : ℕ) → are_linked x 0 ≡ false
unfolding are_linked
linked-none x = refl

pub closes-here : (bs : List ℕ) (i : ℕ) → i < length bs → ends_comment (drop i bs) ≡ true
    → ends_later (drop i bs) ≡ true
unfolding ends_later
closes-here bs i h e = let f = rw (front_of bs i h) at e in rw (front_of bs i h) (rw f refl)

pub closes-later : (bs : List ℕ) (i : ℕ) → i < length bs → ends_comment (drop i bs) ≡ false
    → ends_later (drop i bs) ≡ ends_later (drop (i + 1) bs)
unfolding ends_later
closes-later bs i h e = let f = rw (front_of bs i h) at e in rw (front_of bs i h) (rw f refl)

pub closes-never : (bs : List ℕ) (i : ℕ) → length bs ≤ i → ends_later (drop i bs) ≡ false
unfolding ends_later
closes-never bs i h = rw (none-left bs i h) refl

pub ruleset closes_rules = (closes-here, closes-later, closes-never)

pub IsRun-end : (bs : List ℕ) (s e : ℕ) → s < e → e ≤ length bs
    → ((k : ℕ) → s < k → k < e → are_linked (slice_index bs (k - 1)) (slice_index bs k) ≡ true)
    → are_linked (slice_index bs (e - 1)) (slice_index bs e) ≡ false → IsRun bs s e
IsRun-end bs s e a w i l = record { after = a; within = w; inner = i; last = l }

pub past-end : (bs : List ℕ) (e : ℕ) → length bs ≤ e
    → are_linked (slice_index bs (e - 1)) (slice_index bs e) ≡ false
past-end bs e h = let z : slice_index bs e ≡ 0 = grind (arith, common_steps) in rw z (linked-none _)

pub ruleset run_rules = (IsRun-end, past-end)

pub linked-ascii : (x y : ℕ) → are_linked x y ≡ true → y < 128
unfolding are_linked
linked-ascii x y h = grind (arith, nat_tests)

pub run-ascii : (bs : List ℕ) (s e : ℕ) → IsRun bs s e → slice_index bs s < 128
    → slice_index bs (e - 1) < 128
run-ascii bs s e r a = ⊎_elim
    (λ (k : s + 1 < e). linked-ascii _ _ (r.inner (e - 1) (omega (arith, k)) (omega (arith, k))))
    (λ (k : e ≤ s + 1). let h : e - 1 ≡ s = omega (arith, r.after) in rw h a)
    (cases_lt (s + 1) e)

pub boundary-after : (bs : List ℕ) (s e : ℕ) → IsUtf8 bs → s < e → e ≤ length bs
    → slice_index bs (e - 1) < 128 → IsCharBoundary bs e
boundary-after bs s e u h w a =
    let same : (e - 1) + 1 ≡ e = omega arith in
    rw same at (IsCharBoundary-after_ascii bs (e - 1) u (omega arith) a)
