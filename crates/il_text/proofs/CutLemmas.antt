-- The first piece of a text, from its characters.
use Rattle.std.proofs.Common.{◌≡◌, ◌≢◌, ℕ, suc, zero, ◌+◌, ◌-◌, ◌<◌, ◌≤◌, ◌&&◌, not, Bool, true, false, cond, List, [], ◌∷◌, length, drop, slice_index, slice_range, eqb, refl, sym, ap, subst, ◌∙◌, arith, add-zero, inl, inr, ◌⊎◌, ⊎_elim}
use Rattle.std.proofs.lemmas.Grind.{common_steps}
use Rattle.std.proofs.lemmas.Bool.{false≢true, eqb-true, eq-eqb, ne_eqb, cases_lt, false_from_ne_true}
use Rattle.std.proofs.lemmas.Bool.Decides.{nat_tests}
use Rattle.std.proofs.Math.Bool.{and-false, or-true}
use Rattle.std.specs.Char.{to_ascii_uppercase}
use Rattle.il_text.specs.Characters.{are_linked}
use Rattle.bay_base.specs.Names.{same_name}
use Rattle.il_text.specs.Lexemes.{opens_comment, without_comments, ends_later, joins_lexeme, join, lexemes}
use Rattle.il_text.specs.Runs.{IsRun, IsFirstLexeme, is_negated_and}
use Rattle.bay_base.proofs.ListLemmas.{front_of}
use Rattle.il_text.proofs.PieceLemmas.{index-drop, run-ascii}

abbrev pub first_piece : List (List ℕ) → List ℕ
first_piece [] = []
first_piece (p ∷ ps) = p

abbrev pub N : List ℕ
N = 78 ∷ []

-- what a `&` before them would take
abbrev pub is_N : ℕ → List (List ℕ) → Bool
is_N x ps = eqb x 38 && same_name (first_piece ps) N

pub blanked-plain : (x : ℕ) (xs : List ℕ) → opens_comment (x ∷ xs) ≡ false
    → without_comments false (x ∷ xs) ≡ x ∷ without_comments false xs
unfolding without_comments
blanked-plain x [] h = refl
blanked-plain x (y ∷ ys) h = rw h refl

linked-open : (x y : ℕ) → y ≡ 40 → are_linked x y ≡ false
unfolding are_linked
linked-open x y e = rw e refl

linked-space : (x : ℕ) → are_linked x 32 ≡ false
unfolding are_linked
linked-space x = refl

linked-unclosed : (x : ℕ) → are_linked x 256 ≡ false
unfolding are_linked
linked-unclosed x = refl

linked-and : (x y : ℕ) → y ≡ 38 → are_linked x y ≡ false
unfolding are_linked
linked-and x y e = rw e refl

-- the first character of a text is itself, or that of a comment's opening
abbrev pub Stands : ℕ → ℕ → Type 0
Stands y' y = (y' ≡ y) ⊎ ((y ≡ 40) × ((y' ≡ 32) ⊎ (y' ≡ 256)))

abbrev opening : Bool → ℕ
opening b = cond b 32 256

stand-in : (b : Bool) → (opening b ≡ 32) ⊎ (opening b ≡ 256)
stand-in true = inl refl
stand-in false = inr refl

is_open : (y z : ℕ) → eqb y 40 && eqb z 42 ≡ true → y ≡ 40
is_open y z h = grind (arith, nat_tests)

first-stands : (y z : ℕ) (zs : List ℕ) (b : Bool) → opens_comment (y ∷ z ∷ zs) ≡ b
    → Stands (slice_index (without_comments false (y ∷ z ∷ zs)) 0) y
unfolding without_comments
first-stands y z zs true h = rw h (inr (is_open y z h, stand-in (ends_later zs)))
first-stands y z zs false h = rw h (inl refl)

pub blanked-first : (r : List ℕ)
    → Stands (slice_index (without_comments false r) 0) (slice_index r 0)
unfolding without_comments
blanked-first [] = inl refl
blanked-first (y ∷ []) = inl refl
blanked-first (y ∷ z ∷ zs) = first-stands y z zs (opens_comment (y ∷ z ∷ zs)) refl

linked-stands : (x y' y : ℕ) → Stands y' y → are_linked x y' ≡ are_linked x y
linked-stands x y' y (inl e) = ap (are_linked x) e
linked-stands x y' y (inr (o, inl e)) =
    ap (are_linked x) e ∙ linked-space x ∙ sym (linked-open x y o)
linked-stands x y' y (inr (o, inr e)) =
    ap (are_linked x) e ∙ linked-unclosed x ∙ sym (linked-open x y o)

linked-blanked : (x : ℕ) (r : List ℕ)
    → are_linked x (slice_index (without_comments false r) 0) ≡ are_linked x (slice_index r 0)
linked-blanked x r = linked-stands x _ _ (blanked-first r)

cond-lead : (x : ℕ) (p : List ℕ) (ps : List (List ℕ)) (b : Bool)
    → slice_index (first_piece (cond b ((x ∷ p) ∷ ps) ((x ∷ []) ∷ p ∷ ps))) 0 ≡ x
cond-lead x p ps true = refl
cond-lead x p ps false = refl

join-lead : (x : ℕ) (ps : List (List ℕ)) → slice_index (first_piece (join x ps)) 0 ≡ x
join-lead x [] = refl
join-lead x (p ∷ ps) = cond-lead x p ps (joins_lexeme x p)

lead : (b : List ℕ) → slice_index (first_piece (lexemes b)) 0 ≡ slice_index b 0
unfolding lexemes
lead [] = refl
lead (x ∷ xs) = join-lead x (lexemes xs)

pub join-alone : (x : ℕ) (ps : List (List ℕ))
    → are_linked x (slice_index (first_piece ps) 0) ≡ false
    → is_N x ps ≡ false → join x ps ≡ (x ∷ []) ∷ ps
unfolding joins_lexeme
join-alone x [] h k = refl
join-alone x (p ∷ ps) h k = rw (h, k) refl

join-linked : (x : ℕ) (p : List ℕ) (ps : List (List ℕ)) → are_linked x (slice_index p 0) ≡ true
    → join x (p ∷ ps) ≡ (x ∷ p) ∷ ps
unfolding joins_lexeme
join-linked x p ps h = rw h refl

pieces-cons : (x : ℕ) (xs : List ℕ) → opens_comment (x ∷ xs) ≡ false
    → lexemes (without_comments false (x ∷ xs)) ≡ join x (lexemes (without_comments false xs))
unfolding lexemes
pieces-cons x xs h = rw (blanked-plain x xs h) refl

-- the pieces from a place on
abbrev cut_at : List ℕ → ℕ → List (List ℕ)
cut_at bs k = lexemes (without_comments false (drop k bs))

unroll : (bs : List ℕ) (k : ℕ) → k < length bs → opens_comment (drop k bs) ≡ false
    → cut_at bs k ≡ join (slice_index bs k) (cut_at bs (k + 1))
unroll bs k w o =
    ap (λ (t : List ℕ). lexemes (without_comments false t)) (front_of bs k w)
    ∙ pieces-cons _ _ (subst (λ (t : List ℕ). opens_comment t ≡ false) (front_of bs k w) o)

first-of-drop : (bs : List ℕ) (k : ℕ) → slice_index (drop k bs) 0 ≡ slice_index bs k
first-of-drop bs k = index-drop bs k 0 ∙ ap (λ (i : ℕ). slice_index bs i) (add-zero k)

lead-at : (bs : List ℕ) (k x : ℕ)
    → are_linked x (slice_index (first_piece (cut_at bs k)) 0) ≡ are_linked x (slice_index bs k)
lead-at bs k x =
    ap (are_linked x) (lead (without_comments false (drop k bs))) ∙ linked-blanked x (drop k bs)
    ∙ ap (are_linked x) (first-of-drop bs k)

range-one : (bs : List ℕ) (k : ℕ) → k < length bs → slice_range bs k (k + 1) ≡ slice_index bs k ∷ []
range-one bs k h = let e : (k + 1) - k ≡ 1 = omega arith in rw (e, front_of bs k h) refl

range-more : (bs : List ℕ) (k e : ℕ) → k < e → e ≤ length bs
    → slice_range bs k e ≡ slice_index bs k ∷ slice_range bs (k + 1) e
range-more bs k e h w =
    let d : e - k ≡ suc (e - (k + 1)) = omega arith in
    let i : k < length bs = omega arith in
    rw (d, front_of bs k i) refl

not-open : (bs : List ℕ) (k : ℕ) → slice_index bs k ≢ 40 → opens_comment (drop k bs) ≡ false
not-open bs k h =
    let n : slice_index (drop k bs) 0 ≢ 40 = λ e. h (sym (first-of-drop bs k) ∙ e) in
    rw (ne_eqb _ _ n) refl

pub not-N : (x : ℕ) (ps : List (List ℕ)) → x ≢ 38 → is_N x ps ≡ false
not-N x ps h = rw (ne_eqb x 38 h) refl

run-cut : (d : ℕ) (bs : List ℕ) (k e : ℕ) → k + suc d ≡ e → IsRun bs k e
    → opens_comment (drop k bs) ≡ false
    → is_N (slice_index bs k) (cut_at bs (k + 1)) ≡ false → IsFirstLexeme bs k e
run-cut zero bs k e q r o n =
    let same : e ≡ k + 1 = omega arith in
    let before : e - 1 ≡ k = omega arith in
    let w : k < length bs = omega (arith, r.within, r.after) in
    let last : are_linked (slice_index bs k) (slice_index bs (k + 1)) ≡ false =
    rw (before, same) at r.last in
    rw same (unroll bs k w o ∙ join-alone _ _ (lead-at bs (k + 1) (slice_index bs k) ∙ last) n
    ∙ ap (λ (p : List ℕ). p ∷ cut_at bs (k + 1)) (sym (range-one bs k w)))
run-cut (suc d) bs k e q r o n =
    let x : ℕ = slice_index bs k in
    let more : k + 1 < e = omega arith in
    let w : k < length bs = omega (arith, r.within, r.after) in
    let back : (k + 1) - 1 ≡ k = omega arith in
    let step : are_linked x (slice_index bs (k + 1)) ≡ true =
    rw back at (r.inner (k + 1) (omega arith) more) in
    let rest : IsRun bs (k + 1) e =
    record {
      after = more;
      within = r.within;
      inner = λ j a b. r.inner j (omega arith) b;
      last = r.last;
    } in
    let plain : slice_index bs (k + 1) ≢ 40 = λ h. false≢true (sym (linked-open x _ h) ∙ step) in
    let other : slice_index bs (k + 1) ≢ 38 = λ h. false≢true (sym (linked-and x _ h) ∙ step) in
    let after =
    run-cut d bs (k + 1) e (omega arith) rest (not-open bs (k + 1) plain)
    (not-N (slice_index bs (k + 1)) (cut_at bs (k + 1 + 1)) other) in
    let head : slice_index (slice_range bs (k + 1) e) 0 ≡ slice_index bs (k + 1) =
    rw (range-more bs (k + 1) e more r.within) refl in
    unroll bs k w o ∙ ap (join x) after ∙ join-linked x _ _ (ap (are_linked x) head ∙ step)
    ∙ ap (λ (p : List ℕ). p ∷ cut_at bs e) (sym (range-more bs k e r.after r.within))

three-true : (p q r : Bool) → (p && q) && not r ≡ true → (p ≡ true) × (q ≡ true) × (r ≡ false)
three-true true true true h = (refl, refl, sym h)
three-true true true false h = (refl, refl, refl)
three-true true false r h = absurd (false≢true h)
three-true false q r h = absurd (false≢true h)

three-false : (p q r : Bool) → (p && q) && not r ≡ false → p ≡ true → q ≡ true → r ≡ true
three-false true true true h a b = refl
three-false true true false h a b = sym h
three-false true false r h a b = absurd (false≢true b)
three-false false q r h a b = absurd (false≢true a)

upper-open : (y : ℕ) → to_ascii_uppercase y ≡ 78 → y ≢ 40
upper-open y e h = let z : to_ascii_uppercase 40 ≡ 78 = rw h at e in omega (arith, z)

upper-and : (y : ℕ) → to_ascii_uppercase y ≡ 78 → y ≢ 38
upper-and y e h = let z : to_ascii_uppercase 38 ≡ 78 = rw h at e in omega (arith, z)

upper-zero : (y : ℕ) → to_ascii_uppercase y ≡ 78 → y ≢ 0
upper-zero y e h = let z : to_ascii_uppercase 0 ≡ 78 = rw h at e in omega (arith, z)

upper-stands : (y' y : ℕ) → Stands y' y → to_ascii_uppercase y' ≡ 78 → to_ascii_uppercase y ≡ 78
upper-stands y' y (inl e) h = rw e at h
upper-stands y' y (inr (o, inl e)) h =
    absurd (let z : to_ascii_uppercase 32 ≡ 78 = rw e at h in omega (arith, z))
upper-stands y' y (inr (o, inr e)) h =
    absurd (let z : to_ascii_uppercase 256 ≡ 78 = rw e at h in omega (arith, z))

upper-ascii : (y : ℕ) → to_ascii_uppercase y ≡ 78 → y < 128
upper-ascii y e = grind (arith, nat_tests)

pub and-left : (a b : Bool) → a && b ≡ true → a ≡ true
and-left true b h = refl
and-left false b h = absurd (false≢true h)

N_upper : (p : List ℕ) → same_name p N ≡ true → to_ascii_uppercase (slice_index p 0) ≡ 78
unfolding same_name
N_upper [] h = absurd (false≢true h)
N_upper (x ∷ xs) h = eqb-true _ _ (and-left (eqb (to_ascii_uppercase x) 78) _ h)

N_of : (n : ℕ) → to_ascii_uppercase n ≡ 78 → same_name (n ∷ []) N ≡ true
unfolding same_name
N_of n e = rw e refl

long-N : (n z : ℕ) (zs : List ℕ) → same_name (n ∷ z ∷ zs) N ≡ false
unfolding same_name
long-N n z zs = and-false (eqb (to_ascii_uppercase n) 78)

linked-none : (x : ℕ) → are_linked x 0 ≡ false
unfolding are_linked
linked-none x = refl

long-first : (n : ℕ) (ps : List (List ℕ)) → are_linked n (slice_index (first_piece ps) 0) ≡ true
    → same_name (first_piece (join n ps)) N ≡ false
long-first n [] h = absurd (false≢true (sym (linked-none n) ∙ h))
long-first n ([] ∷ ps) h = absurd (false≢true (sym (linked-none n) ∙ h))
long-first n ((z ∷ zs) ∷ ps) h =
    ap (λ (q : List (List ℕ)). same_name (first_piece q) N) (join-linked n (z ∷ zs) ps h)
    ∙ long-N n z zs

past : (bs : List ℕ) (k : ℕ) → length bs ≤ k → slice_index bs k ≡ 0
past bs k l = grind (arith, common_steps)

pub within-of : (bs : List ℕ) (k : ℕ) → slice_index bs k ≢ 0 → k < length bs
within-of bs k h =
    ⊎_elim (λ (l : k < length bs). l) (λ (l : length bs ≤ k). absurd (h (past bs k l)))
    (cases_lt k (length bs))

join-joined : (x : ℕ) (p : List ℕ) (ps : List (List ℕ)) → joins_lexeme x p ≡ true
    → join x (p ∷ ps) ≡ (x ∷ p) ∷ ps
join-joined x p ps h = rw h refl

joins-N : (x n : ℕ) → eqb x 38 ≡ true → to_ascii_uppercase n ≡ 78 → joins_lexeme x (n ∷ []) ≡ true
unfolding joins_lexeme
joins-N x n a e = rw (a, N_of n e) (or-true (are_linked x n))

pub and-right : (a b : Bool) → a && b ≡ true → b ≡ true
and-right true b h = h
and-right false b h = absurd (false≢true h)

-- where `&N` stands, it is one piece
negated-cut : (bs : List ℕ) (s : ℕ) → s < length bs → is_negated_and bs s ≡ true
    → IsFirstLexeme bs s (s + 2)
unfolding is_negated_and
negated-cut bs s w h =
    let x : ℕ = slice_index bs s in
    let n : ℕ = slice_index bs (s + 1) in
    let t = three-true (eqb x 38) (eqb (to_ascii_uppercase n) 78)
    (are_linked n (slice_index bs (s + 2))) h in
    let and : x ≡ 38 = eqb-true _ _ t.0 in
    let up : to_ascii_uppercase n ≡ 78 = eqb-true _ _ t.1 in
    let here : s + 1 < length bs = within-of bs (s + 1) (upper-zero n up) in
    let before : (s + 2) - 1 ≡ s + 1 = omega arith in
    let two : (s + 1) + 1 ≡ s + 2 = omega arith in
    let run : IsRun bs (s + 1) (s + 2) =
    record {
      after = omega arith;
      within = omega arith;
      inner = λ k a b. absurd (omega arith);
      last = rw before t.2;
    } in
    let after : IsFirstLexeme bs (s + 1) (s + 2) =
    run-cut zero bs (s + 1) (s + 2) (omega arith) run (not-open bs (s + 1) (upper-open n up))
    (not-N n (cut_at bs ((s + 1) + 1)) (upper-and n up)) in
    let one : slice_range bs (s + 1) (s + 2) ≡ n ∷ [] = rw two at (range-one bs (s + 1) here) in
    let rest : cut_at bs (s + 1) ≡ (n ∷ []) ∷ cut_at bs (s + 2) =
    after ∙ ap (λ (p : List ℕ). p ∷ cut_at bs (s + 2)) one in
    let plain : x ≢ 40 = omega arith in
    unroll bs s w (not-open bs s plain) ∙ ap (join x) rest
    ∙ join-joined x (n ∷ []) _ (joins-N x n t.0 up)
    ∙ ap (λ (p : List ℕ). p ∷ cut_at bs (s + 2))
    (sym (range-more bs s (s + 2) (omega arith) (omega arith) ∙ ap (λ (p : List ℕ). x ∷ p) one))

-- where it does not stand, a `&` is a piece alone
not-negated : (bs : List ℕ) (s : ℕ) → is_negated_and bs s ≡ false
    → is_N (slice_index bs s) (cut_at bs (s + 1)) ≡ false
unfolding is_negated_and
not-negated bs s h = false_from_ne_true _ (λ e.
    let n : ℕ = slice_index bs (s + 1) in
    let a = and-left (eqb (slice_index bs s) 38) _ e in
    let same : same_name (first_piece (cut_at bs (s + 1))) N ≡ true =
    and-right (eqb (slice_index bs s) 38) _ e in
    let stands : Stands (slice_index (first_piece (cut_at bs (s + 1))) 0) n =
    rw (lead (without_comments false (drop (s + 1) bs)), ← first-of-drop bs (s + 1))
    (blanked-first (drop (s + 1) bs)) in
    let up : to_ascii_uppercase n ≡ 78 = upper-stands _ n stands (N_upper _ same) in
    let two : (s + 1) + 1 ≡ s + 2 = omega arith in
    let l : are_linked n (slice_index bs (s + 2)) ≡ true =
    three-false (eqb (slice_index bs s) 38) (eqb (to_ascii_uppercase n) 78) _ h a
    (eq-eqb _ _ up) in
    let u = unroll bs (s + 1) (within-of bs (s + 1) (upper-zero n up))
    (not-open bs (s + 1) (upper-open n up)) in
    let more : are_linked n (slice_index (first_piece (cut_at bs ((s + 1) + 1))) 0) ≡ true =
    lead-at bs ((s + 1) + 1) n ∙ rw two l in
    false≢true
    (sym (ap (λ (q : List (List ℕ)). same_name (first_piece q) N) u
    ∙ long-first n (cut_at bs ((s + 1) + 1)) more) ∙ same))

pub piece-negated : (bs : List ℕ) (s : ℕ) → s < length bs → is_negated_and bs s ≡ true
    → IsFirstLexeme bs s (s + 2)
piece-negated bs s w h = negated-cut bs s w h

pub piece-run : (bs : List ℕ) (s e : ℕ) → opens_comment (drop s bs) ≡ false
    → is_negated_and bs s ≡ false
    → IsRun bs s e → IsFirstLexeme bs s e
piece-run bs s e o h r =
    run-cut (e - (s + 1)) bs s e (let a = r.after in omega arith) r o (not-negated bs s h)

pub negated-within : (bs : List ℕ) (s : ℕ) → is_negated_and bs s ≡ true → s + 2 ≤ length bs
negated-within bs s h =
    let t = three-true (eqb (slice_index bs s) 38)
    (eqb (to_ascii_uppercase (slice_index bs (s + 1))) 78)
    (are_linked (slice_index bs (s + 1)) (slice_index bs (s + 2))) (unfold is_negated_and in h) in
    let here : s + 1 < length bs =
    within-of bs (s + 1) (upper-zero _ (eqb-true _ _ t.1)) in omega arith

pub negated-ascii : (bs : List ℕ) (s : ℕ) → is_negated_and bs s ≡ true
    → slice_index bs (s + 2 - 1) < 128
negated-ascii bs s h =
    let t = three-true (eqb (slice_index bs s) 38)
    (eqb (to_ascii_uppercase (slice_index bs (s + 1))) 78)
    (are_linked (slice_index bs (s + 1)) (slice_index bs (s + 2))) (unfold is_negated_and in h) in
    let before : (s + 2) - 1 ≡ s + 1 = omega arith in
    rw before (upper-ascii _ (eqb-true _ _ t.1))

pub ruleset piece_rules = (piece-negated, piece-run, negated-within, negated-ascii, run-ascii)
