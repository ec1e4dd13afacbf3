-- Blanks between two parts of a text.
use Rattle.std.proofs.Common.{◌≡◌, ◌≢◌, ℕ, ◌+◌, ◌<◌, ◌&&◌, ◌||◌, not, Bool, true, false, cond, List, [], ◌∷◌, ◌++◌, map, length, slice_index, eqb, refl, sym, ap, subst, ◌∙◌, arith, length-append, Result, inl, inr, ◌⊎◌, ⊎_elim}
use Rattle.std.specs.List.{list_all}
use Rattle.std.proofs.lemmas.Bool.{false≢true, eqb-true, ne_eqb, lt-ltb, and_from, not-true}
use Rattle.std.proofs.lemmas.List.{map-append}
use Rattle.std.proofs.Math.Bool.{and-false, or-true}
use Rattle.il_text.specs.Characters.{is_blank, are_linked}
use Rattle.bay_base.specs.Names.{same_name}
use Rattle.il_text.specs.Lexemes.{opens_comment, ends_comment, ends_later, without_comments, blank_of, joins_lexeme, join, lexemes}
use Rattle.il_text.specs.Places.{last_line}
use Rattle.il_text.specs.Reading.{lines, prepend_lexeme, program_of_lines, no_progress, program_of}
use Rattle.il_text.specs.Respelling.{ends_inside, AreBlanks, BlanksMayBeRespelled}
use Rattle.il_text.specs.Symbols.{lexeme_of, text_lexemes}
use Rattle.il_text.specs.Tokens.{LexemeData, blank, line_end, token, bad_token, bad_literal}
use Rattle.il_text.proofs.CutLemmas.{and-left, and-right, Stands, blanked-first, blanked-plain}
use Rattle.il_text.specs.Listing.{PlainProgram}
use Rattle.il_text.specs.Texts.{ReadsAs}
use Rattle.il_text.specs.declared.fault.TextFault.{TextFault}
use Rattle.il_text.proofs.TextLemmas.{text-reads}
use Rattle.il_text.proofs.UniqueLemmas.{one_reading}
use Rattle.il_text.proofs.ReadLemmas.{Alone, alone-space, pieces-alone, space-piece}

or-cases : (a b : Bool) → a || b ≡ true → (a ≡ true) ⊎ (b ≡ true)
or-cases true b h = inl refl
or-cases false b h = inr h

ends-more : (x : ℕ) (xs t : List ℕ) → ends_comment (x ∷ xs) ≡ true
    → ends_comment (x ∷ (xs ++ t)) ≡ true
ends-more x [] t h = absurd (false≢true (and-right (eqb x 42) false h))
ends-more x (y ∷ ys) t h = h

closes-more : (xs t : List ℕ) → ends_later xs ≡ true → ends_later (xs ++ t) ≡ true
unfolding ends_later
closes-more [] t h = absurd (false≢true h)
closes-more (x ∷ xs) t h = ⊎_elim
    (λ (e : ends_comment (x ∷ xs) ≡ true). rw (ends-more x xs t e) refl)
    (λ (k : ends_later xs ≡ true). let more : ends_later (xs ++ t) ≡ true = unfold ends_later in
    closes-more xs t k in rw more (or-true (ends_comment (x ∷ (xs ++ t)))))
    (or-cases (ends_comment (x ∷ xs)) (ends_later xs) h)

closed-step : (x y : ℕ) (xs : List ℕ) (b : Bool) → ends_comment (x ∷ y ∷ xs) ≡ b
    → ends_inside true (x ∷ y ∷ xs) ≡ false
    → (ends_inside true (y ∷ xs) ≡ false → ends_later (y ∷ xs) ≡ true)
    → ends_later (x ∷ y ∷ xs) ≡ true
unfolding ends_later ends_inside
closed-step x y xs true e h f = rw e refl
closed-step x y xs false e h f = let k = f (rw e at h) in rw k (or-true (ends_comment (x ∷ y ∷ xs)))

closed-later : (xs : List ℕ) → ends_inside true xs ≡ false → ends_later xs ≡ true
unfolding ends_inside
closed-later [] h = absurd (false≢true (sym h))
closed-later (x ∷ []) h = absurd (false≢true (sym h))
closed-later (x ∷ y ∷ xs) h =
    closed-step x y xs (ends_comment (x ∷ y ∷ xs)) refl h
    (unfold ends_inside in closed-later (y ∷ xs))

inside-step : (x y : ℕ) (xs t : List ℕ) (e : Bool) → ends_comment (x ∷ y ∷ xs) ≡ e
    → ends_inside true (x ∷ y ∷ xs) ≡ false
    → (ends_comment (x ∷ y ∷ xs) ≡ true → ends_inside false xs ≡ false
    → without_comments false (xs ++ t) ≡ without_comments false xs ++ without_comments false t)
    → (ends_comment (x ∷ y ∷ xs) ≡ false → ends_inside true (y ∷ xs) ≡ false
    → without_comments true (y ∷ (xs ++ t))
    ≡ without_comments true (y ∷ xs) ++ without_comments false t)
    → without_comments true (x ∷ y ∷ (xs ++ t))
    ≡ without_comments true (x ∷ y ∷ xs) ++ without_comments false t
unfolding without_comments ends_inside
inside-step x y xs t true e h f g = rw e (ap (λ (l : List ℕ). 32 ∷ 32 ∷ l) (f e (rw e at h)))
inside-step x y xs t false e h f g = rw e (ap (λ (l : List ℕ). blank_of x ∷ l) (g e (rw e at h)))

outside-step : (x y : ℕ) (xs t : List ℕ) (o : Bool) → opens_comment (x ∷ y ∷ xs) ≡ o
    → ends_inside false (x ∷ y ∷ xs) ≡ false
    → (opens_comment (x ∷ y ∷ xs) ≡ true → ends_inside true xs ≡ false
    → without_comments true (xs ++ t) ≡ without_comments true xs ++ without_comments false t)
    → (opens_comment (x ∷ y ∷ xs) ≡ false → ends_inside false (y ∷ xs) ≡ false
    → without_comments false (y ∷ (xs ++ t))
    ≡ without_comments false (y ∷ xs) ++ without_comments false t)
    → without_comments false (x ∷ y ∷ (xs ++ t))
    ≡ without_comments false (x ∷ y ∷ xs) ++ without_comments false t
unfolding without_comments ends_inside
outside-step x y xs t true o h f g =
    let inside : ends_inside true xs ≡ false = rw o at h in
    let closed = closed-later xs inside in
    rw (o, closed, closes-more xs t closed) (ap (λ (l : List ℕ). 32 ∷ 32 ∷ l) (f o inside))
outside-step x y xs t false o h f g = rw o (ap (λ (l : List ℕ). x ∷ l) (g o (rw o at h)))

-- two parts of a text, of which the first ends outside of a comment
pub blanked-parts : (b : Bool) (u t : List ℕ) → ends_inside b u ≡ false → slice_index t 0 ≢ 42
    → without_comments b (u ++ t) ≡ without_comments b u ++ without_comments false t
unfolding ends_inside without_comments
blanked-parts true [] t h n = absurd (false≢true (sym h))
blanked-parts false [] t h n = refl
blanked-parts true (x ∷ []) t h n = absurd (false≢true (sym h))
blanked-parts false (x ∷ []) t h n =
    let plain : opens_comment (x ∷ t) ≡ false =
    rw (ne_eqb _ _ n) (and-false (eqb x 40)) in blanked-plain x t plain
blanked-parts true (x ∷ y ∷ xs) t h n =
    inside-step x y xs t _ refl h
    (λ e k. unfold ends_inside without_comments in blanked-parts false xs t k n)
    (λ e k. unfold ends_inside without_comments in blanked-parts true (y ∷ xs) t k n)
blanked-parts false (x ∷ y ∷ xs) t h n =
    outside-step x y xs t _ refl h
    (λ e k. unfold ends_inside without_comments in blanked-parts true xs t k n)
    (λ e k. unfold ends_inside without_comments in blanked-parts false (y ∷ xs) t k n)

blank-cases : (c : ℕ) → is_blank c ≡ true → (c ≡ 32) ⊎ (c ≡ 9)
blank-cases c h =
    ⊎_elim (λ (e : eqb c 32 ≡ true). inl (eqb-true c 32 e))
    (λ (e : eqb c 9 ≡ true). inr (eqb-true c 9 e)) (or-cases (eqb c 32) (eqb c 9) h)

not-blank : (c n : ℕ) → is_blank c ≡ true → n ≢ 32 → n ≢ 9 → c ≢ n
not-blank c n h a b e =
    ⊎_elim (λ (k : c ≡ 32). a (sym e ∙ k)) (λ (k : c ≡ 9). b (sym e ∙ k)) (blank-cases c h)

-- blanks, then any part of a text
blanks-part : (b : Bool) (w t : List ℕ) → ends_inside b w ≡ false
    → list_all is_blank (without_comments b w) ≡ true
    → without_comments b (w ++ t) ≡ without_comments b w ++ without_comments false t
unfolding ends_inside without_comments
blanks-part true [] t h a = absurd (false≢true (sym h))
blanks-part false [] t h a = refl
blanks-part true (x ∷ []) t h a = absurd (false≢true (sym h))
blanks-part false (x ∷ []) t h a =
    let other : x ≢ 40 =
    not-blank x 40 (and-left (is_blank x) true a) (λ e. absurd (omega (arith, e)))
    (λ e. absurd (omega (arith, e))) in
    let plain : opens_comment (x ∷ t) ≡ false =
    rw (ne_eqb x 40 other) refl in blanked-plain x t plain
blanks-part true (x ∷ y ∷ xs) t h a =
    inside-step x y xs t _ refl h
    (λ e k. let q = rw e at a in unfold ends_inside without_comments in blanks-part false xs t k q)
    (λ e k. let q = rw e at a in unfold ends_inside without_comments in
    blanks-part true (y ∷ xs) t k (and-right (is_blank (blank_of x)) _ q))
blanks-part false (x ∷ y ∷ xs) t h a =
    outside-step x y xs t _ refl h
    (λ e k. let q = rw e at a in unfold ends_inside without_comments in
    blanks-part true xs t k (and-right (is_blank (cond (ends_later xs) 32 256)) _ q))
    (λ e k. let q = rw e at a in unfold ends_inside without_comments in
    blanks-part false (y ∷ xs) t k (and-right (is_blank x) _ q))

joins-blank : (x c : ℕ) → is_blank c ≡ true → joins_lexeme x (c ∷ []) ≡ false
unfolding joins_lexeme are_linked same_name
joins-blank x c h =
    ⊎_elim (λ (e : c ≡ 32). rw e (and-false (eqb x 38)))
    (λ (e : c ≡ 9). rw e (and-false (eqb x 38))) (blank-cases c h)

pub cond-parts : (b : Bool) (x : ℕ) (p : List ℕ) (ps ys : List (List ℕ))
    → cond b ((x ∷ p) ∷ (ps ++ ys)) ((x ∷ []) ∷ p ∷ (ps ++ ys))
    ≡ cond b ((x ∷ p) ∷ ps) ((x ∷ []) ∷ p ∷ ps) ++ ys
cond-parts true x p ps ys = refl
cond-parts false x p ps ys = refl

join-parts : (x c : ℕ) (ps ys : List (List ℕ)) → is_blank c ≡ true
    → join x (ps ++ ((c ∷ []) ∷ ys)) ≡ join x ps ++ ((c ∷ []) ∷ ys)
join-parts x c [] ys h = rw (joins-blank x c h) refl
join-parts x c (p ∷ ps) ys h = cond-parts (joins_lexeme x p) x p ps ((c ∷ []) ∷ ys)

alone-tab : Alone 9
unfolding are_linked
alone-tab y = simp and-false refl

alone-blank : (c : ℕ) → is_blank c ≡ true → Alone c
alone-blank c h =
    ⊎_elim (λ (e : c ≡ 32). rw e alone-space) (λ (e : c ≡ 9). rw e alone-tab) (blank-cases c h)

blank-alone : (c : ℕ) (t : List ℕ) → is_blank c ≡ true → lexemes (c ∷ t) ≡ (c ∷ []) ∷ lexemes t
blank-alone c t h =
    pieces-alone c t (alone-blank c h)
    (not-blank c 38 h (λ e. absurd (omega (arith, e))) (λ e. absurd (omega (arith, e))))

-- the pieces of two parts, of which the second begins with a blank
pieces-parts : (u : List ℕ) (c : ℕ) (t : List ℕ) → is_blank c ≡ true
    → lexemes (u ++ (c ∷ t)) ≡ lexemes u ++ ((c ∷ []) ∷ lexemes t)
unfolding lexemes
pieces-parts [] c t h = unfold lexemes in blank-alone c t h
pieces-parts (x ∷ u) c t h =
    ap (join x) (unfold lexemes in pieces-parts u c t h) ∙ join-parts x c (lexemes u) (lexemes t) h

tab-piece : lexeme_of (9 ∷ []) ≡ blank
unfolding lexeme_of
tab-piece = refl

blank-piece : (c : ℕ) → is_blank c ≡ true → lexeme_of (c ∷ []) ≡ blank
blank-piece c h =
    ⊎_elim (λ (e : c ≡ 32). rw e space-piece) (λ (e : c ≡ 9). rw e tab-piece) (blank-cases c h)

lines-blank : (ps qs : List LexemeData) → lines (ps ++ (blank ∷ qs)) ≡ lines (ps ++ qs)
unfolding lines
lines-blank [] qs = refl
lines-blank (blank ∷ ps) qs = unfold lines in lines-blank ps qs
lines-blank (line_end ∷ ps) qs =
    ap (λ (l : List (List LexemeData)). [] ∷ l) (unfold lines in lines-blank ps qs)
lines-blank (token s ∷ ps) qs = ap (prepend_lexeme (token s)) (unfold lines in lines-blank ps qs)
lines-blank (bad_token ∷ ps) qs = ap (prepend_lexeme bad_token) (unfold lines in lines-blank ps qs)
lines-blank (bad_literal ∷ ps) qs =
    ap (prepend_lexeme bad_literal) (unfold lines in lines-blank ps qs)

lines-blanks : (bs t : List ℕ) (ps : List LexemeData) → list_all is_blank bs ≡ true
    → lines (ps ++ map lexeme_of (lexemes (bs ++ t))) ≡ lines (ps ++ map lexeme_of (lexemes t))
lines-blanks [] t ps h = refl
lines-blanks (c ∷ bs) t ps h =
    let here : is_blank c ≡ true = and-left (is_blank c) _ h in
    ap (λ (q : List (List ℕ)). lines (ps ++ map lexeme_of q)) (blank-alone c (bs ++ t) here)
    ∙ ap (λ (q : LexemeData). lines (ps ++ (q ∷ map lexeme_of (lexemes (bs ++ t)))))
    (blank-piece c here)
    ∙ lines-blank ps (map lexeme_of (lexemes (bs ++ t)))
    ∙ lines-blanks bs t ps (and-right (is_blank c) _ h)

-- blanks between two parts make no difference to the lines
lines-between : (u bs t : List ℕ) → 0 < length bs → list_all is_blank bs ≡ true
    → lines (map lexeme_of (lexemes (u ++ (bs ++ t))))
    ≡ lines (map lexeme_of (lexemes u) ++ map lexeme_of (lexemes t))
lines-between u [] t n h = absurd (omega (arith, n))
lines-between u (c ∷ bs) t n h =
    let here : is_blank c ≡ true = and-left (is_blank c) _ h in
    ap (λ (q : List (List ℕ)). lines (map lexeme_of q)) (pieces-parts u c (bs ++ t) here)
    ∙ ap lines (map-append lexeme_of (lexemes u) ((c ∷ []) ∷ lexemes (bs ++ t)))
    ∙ ap (λ (q : LexemeData). lines
    (map lexeme_of (lexemes u) ++ (q ∷ map lexeme_of (lexemes (bs ++ t)))))
    (blank-piece c here)
    ∙ lines-blank (map lexeme_of (lexemes u)) (map lexeme_of (lexemes (bs ++ t)))
    ∙ lines-blanks bs t (map lexeme_of (lexemes u)) (and-right (is_blank c) _ h)

-- no line end
abbrev no_end : ℕ → Bool
no_end x = not (eqb x 10)

no_end-of : (x n : ℕ) → x ≡ n → n ≢ 10 → no_end x ≡ true
no_end-of x n e d = rw (ne_eqb x 10 (λ h. d (sym e ∙ h))) refl

no_end-blank : (x : ℕ) → is_blank x ≡ true → no_end x ≡ true
no_end-blank x h =
    rw (ne_eqb x 10 (not-blank x 10 h (λ e. absurd (omega (arith, e)))
    (λ e. absurd (omega (arith, e))))) refl

no_end-inside : (b : Bool) → is_blank (cond b 10 32) ≡ true → not b ≡ true
no_end-inside true h = absurd (false≢true h)
no_end-inside false h = refl

ends-step : (x y : ℕ) (xs : List ℕ) (e : Bool) → ends_comment (x ∷ y ∷ xs) ≡ e
    → list_all is_blank (without_comments true (x ∷ y ∷ xs)) ≡ true
    → (list_all is_blank (without_comments false xs) ≡ true → list_all no_end xs ≡ true)
    → (list_all is_blank (without_comments true (y ∷ xs)) ≡ true → list_all no_end (y ∷ xs) ≡ true)
    → list_all no_end (x ∷ y ∷ xs) ≡ true
unfolding without_comments
ends-step x y xs true e h f g =
    let first =
    no_end-of x 42 (eqb-true _ _ (and-left (eqb x 42) (eqb y 41) e))
    (λ k. absurd (omega (arith, k))) in
    let second =
    no_end-of y 41 (eqb-true _ _ (and-right (eqb x 42) (eqb y 41) e))
    (λ k. absurd (omega (arith, k))) in
    and_from (no_end x) _ first (and_from (no_end y) _ second (f (rw e at h)))
ends-step x y xs false e h f g =
    let q = rw e at h in
    and_from (no_end x) _ (no_end-inside (eqb x 10) (and-left (is_blank (blank_of x)) _ q))
    (g (and-right (is_blank (blank_of x)) _ q))

opens-step : (x y : ℕ) (xs : List ℕ) (o : Bool) → opens_comment (x ∷ y ∷ xs) ≡ o
    → list_all is_blank (without_comments false (x ∷ y ∷ xs)) ≡ true
    → (list_all is_blank (without_comments true xs) ≡ true → list_all no_end xs ≡ true)
    → (list_all is_blank (without_comments false (y ∷ xs)) ≡ true → list_all no_end (y ∷ xs) ≡ true)
    → list_all no_end (x ∷ y ∷ xs) ≡ true
unfolding without_comments
opens-step x y xs true o h f g =
    let first =
    no_end-of x 40 (eqb-true _ _ (and-left (eqb x 40) (eqb y 42) o))
    (λ k. absurd (omega (arith, k))) in
    let second =
    no_end-of y 42 (eqb-true _ _ (and-right (eqb x 40) (eqb y 42) o))
    (λ k. absurd (omega (arith, k))) in
    let q = rw o at h in
    and_from (no_end x) _ first (and_from (no_end y) _ second
    (f (and-right (is_blank (cond (ends_later xs) 32 256)) _ q)))
opens-step x y xs false o h f g =
    let q = rw o at h in
    and_from (no_end x) _ (no_end-blank x (and-left (is_blank x) _ q))
    (g (and-right (is_blank x) _ q))

-- where a line end stands, no blank does
no-ends-inside : (b : Bool) (w : List ℕ) → list_all is_blank (without_comments b w) ≡ true
    → list_all no_end w ≡ true
unfolding without_comments
no-ends-inside b [] a = refl
no-ends-inside true (x ∷ []) a =
    and_from (no_end x) true (no_end-inside (eqb x 10) (and-left (is_blank (blank_of x)) true a))
    refl
no-ends-inside false (x ∷ []) a =
    and_from (no_end x) true (no_end-blank x (and-left (is_blank x) true a)) refl
no-ends-inside true (x ∷ y ∷ xs) a =
    ends-step x y xs _ refl a (λ k. unfold without_comments in no-ends-inside false xs k)
    (λ k. unfold without_comments in no-ends-inside true (y ∷ xs) k)
no-ends-inside false (x ∷ y ∷ xs) a =
    opens-step x y xs _ refl a (λ k. unfold without_comments in no-ends-inside true xs k)
    (λ k. unfold without_comments in no-ends-inside false (y ∷ xs) k)

last-line-blanks : (w t : List ℕ) → list_all no_end w ≡ true → last_line (w ++ t) ≡ last_line t
unfolding last_line
last-line-blanks [] t a = refl
last-line-blanks (x ∷ w) t a =
    rw (not-true (eqb x 10) (and-left (no_end x) _ a))
    (unfold last_line in last-line-blanks w t (and-right (no_end x) _ a))

pub last-line-parts : (u t s : List ℕ) → 0 < length t → 0 < length s → last_line t ≡ last_line s
    → last_line (u ++ t) ≡ last_line (u ++ s)
unfolding last_line
last-line-parts [] t s n m e = e
last-line-parts (x ∷ u) t s n m e =
    let a : 0 < length (u ++ t) = simp length-append (omega arith) in
    let b : 0 < length (u ++ s) = simp length-append (omega arith) in
    rw (lt-ltb 0 (length (u ++ t)) a, lt-ltb 0 (length (u ++ s)) b)
    (ap (λ (k : ℕ). cond (eqb x 10 && true) (k + 1) k)
    (unfold last_line in last-line-parts u t s n m e))

some-blanked : (b : Bool) (p q x : ℕ) (l m : List ℕ) → 0 < length (cond b (p ∷ q ∷ l) (x ∷ m))
some-blanked true p q x l m = omega arith
some-blanked false p q x l m = omega arith

length-blanked : (w : List ℕ) → 0 < length w → 0 < length (without_comments false w)
unfolding without_comments
length-blanked [] h = absurd (omega (arith, h))
length-blanked (x ∷ []) h = omega arith
length-blanked (x ∷ y ∷ xs) h = some-blanked (opens_comment (x ∷ y ∷ xs)) _ _ x _ _

first-blank : (bs : List ℕ) → 0 < length bs → list_all is_blank bs ≡ true
    → is_blank (slice_index bs 0) ≡ true
first-blank [] n h = absurd (omega (arith, n))
first-blank (c ∷ bs) n h = and-left (is_blank c) _ h

first-other : (y' y : ℕ) → Stands y' y → is_blank y' ≡ true → y ≢ 42
first-other y' y (inl e) h =
    not-blank y 42 (subst (λ (c : ℕ). is_blank c ≡ true) e h) (λ k. absurd (omega (arith, k)))
    (λ k. absurd (omega (arith, k)))
first-other y' y (inr (o, s)) h = λ k. absurd (omega (arith, o, k))

no-star : (w t : List ℕ) → AreBlanks w → slice_index (w ++ t) 0 ≢ 42
no-star [] t a = absurd (let n = a.some in omega (arith, n))
no-star (x ∷ xs) t a =
    first-other _ x (blanked-first (x ∷ xs))
    (first-blank _ (length-blanked (x ∷ xs) a.some) a.blank)

lines_of : (u w v : List ℕ) → ends_inside false u ≡ false → AreBlanks w
    → lines (text_lexemes false (u ++ (w ++ v)))
    ≡ lines (map lexeme_of (lexemes (without_comments false u))
    ++ map lexeme_of (lexemes (without_comments false v)))
unfolding text_lexemes
lines_of u w v h a =
    ap (λ (t : List ℕ). lines (map lexeme_of (lexemes t)))
    (blanked-parts false u (w ++ v) h (no-star w v a)
    ∙ ap (λ (t : List ℕ). without_comments false u ++ t) (blanks-part false w v a.closed a.blank))
    ∙ lines-between (without_comments false u) (without_comments false w) (without_comments false v)
    (length-blanked w a.some)
    a.blank

last_line_of : (u w s v : List ℕ) → AreBlanks w → AreBlanks s
    → last_line (u ++ (w ++ v)) ≡ last_line (u ++ (s ++ v))
last_line_of u w s v a b =
    let n = a.some in
    let m = b.some in
    last-line-parts u (w ++ v) (s ++ v) (simp length-append (omega arith))
    (simp length-append (omega arith))
    (last-line-blanks w v (no-ends-inside false w a.blank)
    ∙ sym (last-line-blanks s v (no-ends-inside false s b.blank)))

same-reading : (before blanks others after : List ℕ) → ends_inside false before ≡ false
    → AreBlanks blanks → AreBlanks others
    → program_of (before ++ (blanks ++ after)) ≡ program_of (before ++ (others ++ after))
unfolding program_of
same-reading u w s v h a b =
    ap (λ (n : ℕ). program_of_lines n no_progress 1 (lines (text_lexemes false (u ++ (w ++ v)))))
    (last_line_of u w s v a b)
    ∙ ap (program_of_lines (last_line (u ++ (s ++ v))) no_progress 1)
    (lines_of u w v h a ∙ sym (lines_of u s v h b))

-- texts that make the same program read as the same
pub moved : (a b : List ℕ) (read : Result PlainProgram TextFault) → program_of a ≡ program_of b
    → ReadsAs a read → ReadsAs b read
moved a b read e x =
    subst (λ (r : Result PlainProgram TextFault). ReadsAs b r)
    (sym (one_reading a read (program_of a) x (text-reads a) ∙ e)) (text-reads b)

-- blanks are read alike in each of their spellings
pub respelled : BlanksMayBeRespelled
respelled before blanks others after read h b o x =
    moved _ _ read (same-reading before blanks others after h b o) x
