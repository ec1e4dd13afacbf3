-- LF and CR LF end a line alike, within comments and in a whole text.
use Rattle.std.proofs.Common.{◌≡◌, ◌↔◌, ℕ, ◌<◌, ◌||◌, Bool, true, false, cond, List, [], ◌∷◌, ◌++◌, length, map, eqb, refl, sym, ap, ◌∙◌, arith, Result, append_assoc}
use Rattle.std.specs.List.{list_all}
use Rattle.std.proofs.lemmas.Bool.{false≢true, eqb-true, not-true}
use Rattle.std.proofs.lemmas.List.{map-append}
use Rattle.std.proofs.Math.Bool.{and-false}
use Rattle.bay_base.specs.Names.{same_name}
use Rattle.il_text.specs.Characters.{are_linked}
use Rattle.il_text.specs.Lexemes.{blank_of, ends_comment, ends_later, join, joins_lexeme, lexemes, opens_comment, without_comments}
use Rattle.il_text.specs.Listing.{PlainProgram}
use Rattle.il_text.specs.Places.{last_line}
use Rattle.il_text.specs.Reading.{lines, no_progress, prepend_lexeme, program_of, program_of_lines}
use Rattle.il_text.specs.Respelling.{ends_inside, ends_with_cr}
use Rattle.il_text.specs.Symbols.{lexeme_of, text_lexemes}
use Rattle.il_text.specs.Texts.{ReadsAs}
use Rattle.il_text.specs.Tokens.{LexemeData, bad_literal, bad_token, blank, line_end, token}
use Rattle.il_text.specs.declared.fault.TextFault.{TextFault}
use Rattle.il_text.proofs.CutLemmas.{and-left, and-right}
use Rattle.il_text.proofs.LineEndLemmas.{line_ends}
use Rattle.il_text.proofs.ReadLemmas.{alone-line_end, alone-space, pieces-alone, space-piece}
use Rattle.il_text.proofs.RespellingLemmas.{cond-parts, last-line-parts, moved}
use Rattle.il_text.proofs.TextLemmas.{text-reads}
use Rattle.il_text.proofs.UniqueLemmas.{one_reading}
use Rattle.il_standard_laws.specs.LineEnds.{CommentsMayHaveCrLf, FilesMayHaveCrLf, is_no_cr, with_cr_lf}

-- ---- the end of a text

-- A text that no CR ends, with a character before it that is none either.
cr-more : (x : ℕ) (xs : List ℕ) → eqb x 13 ≡ false → ends_with_cr xs ≡ false
    → ends_with_cr (x ∷ xs) ≡ false
cr-more x [] other h = other
cr-more x (y ∷ ys) other h = h

-- The same, if there is a text.
cr-before : (x : ℕ) (xs : List ℕ) → 0 < length xs → ends_with_cr xs ≡ false
    → ends_with_cr (x ∷ xs) ≡ false
cr-before x [] some h = absurd (omega (arith, some))
cr-before x (y ∷ ys) some h = h

cr-tail : (x : ℕ) (xs : List ℕ) → ends_with_cr (x ∷ xs) ≡ false → ends_with_cr xs ≡ false
cr-tail x [] h = refl
cr-tail x (y ∷ ys) h = h

cr-last : (u : List ℕ) (x : ℕ) → eqb x 13 ≡ false → ends_with_cr (u ++ x ∷ []) ≡ false
cr-last [] x other = other
cr-last (y ∷ []) x other = other
cr-last (y ∷ z ∷ u) x other = cr-last (z ∷ u) x other

no-cr-blank : (x : ℕ) → eqb (blank_of x) 13 ≡ false
no-cr-blank x = go (eqb x 10)
  where
    go : (b : Bool) → eqb (cond b 10 32) 13 ≡ false
    go true = refl
    go false = refl

no-cr-opening : (b : Bool) → eqb (cond b 32 256) 13 ≡ false
no-cr-opening true = refl
no-cr-opening false = refl

-- ---- a text without its comments

some-left : (b : Bool) (x : ℕ) (xs : List ℕ) → 0 < length (without_comments b (x ∷ xs))
unfolding without_comments
some-left b x [] = omega arith
some-left true x (y ∷ xs) = go (ends_comment (x ∷ y ∷ xs))
  where
    go : (e : Bool)
        → 0 < length (cond e (32 ∷ 32 ∷ without_comments false xs)
        (blank_of x ∷ without_comments true (y ∷ xs)))
    go true = omega arith
    go false = omega arith
some-left false x (y ∷ xs) = go (opens_comment (x ∷ y ∷ xs))
  where
    go : (o : Bool)
        → 0 < length (cond o (cond (ends_later xs) 32 256 ∷ 32 ∷ without_comments true xs)
        (x ∷ without_comments false (y ∷ xs)))
    go true = omega arith
    go false = omega arith

-- No CR ends a text without its comments if none ends the text.
cr-left : (b : Bool) (u : List ℕ) → ends_with_cr u ≡ false
    → ends_with_cr (without_comments b u) ≡ false
unfolding without_comments
cr-left b [] h = refl
cr-left true (x ∷ []) h = no-cr-blank x
cr-left false (x ∷ []) h = h
cr-left true (x ∷ y ∷ xs) h =
    go (ends_comment (x ∷ y ∷ xs))
    (unfold without_comments in cr-left false xs (cr-tail y xs h))
    (unfold without_comments in cr-left true (y ∷ xs) h)
  where
    go : (e : Bool) → ends_with_cr (without_comments false xs) ≡ false
        → ends_with_cr (without_comments true (y ∷ xs)) ≡ false
        → ends_with_cr (cond e (32 ∷ 32 ∷ without_comments false xs)
        (blank_of x ∷ without_comments true (y ∷ xs)))
        ≡ false
    go true f g = cr-more 32 (without_comments false xs) refl f
    go false f g = cr-more (blank_of x) (without_comments true (y ∷ xs)) (no-cr-blank x) g
cr-left false (x ∷ y ∷ xs) h =
    go (opens_comment (x ∷ y ∷ xs))
    (unfold without_comments in cr-left true xs (cr-tail y xs h))
    (unfold without_comments in cr-left false (y ∷ xs) h)
  where
    go : (o : Bool) → ends_with_cr (without_comments true xs) ≡ false
        → ends_with_cr (without_comments false (y ∷ xs)) ≡ false
        → ends_with_cr (cond o (cond (ends_later xs) 32 256 ∷ 32 ∷ without_comments true xs)
        (x ∷ without_comments false (y ∷ xs)))
        ≡ false
    go true f g = cr-more 32 (without_comments true xs) refl f
    go false f g =
        cr-before x (without_comments false (y ∷ xs))
        (unfold without_comments in some-left false y xs) g

-- ---- a line end within a comment

later-same : (xs v : List ℕ) → ends_later (xs ++ 13 ∷ 10 ∷ v) ≡ ends_later (xs ++ 10 ∷ v)
unfolding ends_later
later-same [] v = refl
later-same (x ∷ []) v = rw and-false refl
later-same (x ∷ y ∷ xs) v =
    ap (λ (b : Bool). ends_comment (x ∷ y ∷ []) || b)
    (unfold ends_later in later-same (y ∷ xs) v)

inside-lf : (v : List ℕ) → without_comments true (10 ∷ v) ≡ 10 ∷ without_comments true v
unfolding without_comments
inside-lf [] = refl
inside-lf (y ∷ v) = refl

-- A text that ends within a comment, before a line end: what is left of it is the same before LF
-- and before CR LF, of which the CR is a blank; and no CR ends it.
record Inside (b : Bool) (u v : List ℕ) : Type 0 where
  left : List ℕ
  lf : without_comments b (u ++ 10 ∷ v) ≡ left ++ 10 ∷ without_comments true v
  crlf : without_comments b (u ++ 13 ∷ 10 ∷ v) ≡ left ++ 32 ∷ 10 ∷ without_comments true v
  plain : ends_with_cr left ≡ false
  some : b ≡ false → 0 < length left

inside-nothing : (v : List ℕ) → Inside true [] v
unfolding without_comments
inside-nothing v = record {
  left = [];
  lf = unfold without_comments in inside-lf v;
  crlf = ap (λ (t : List ℕ). 32 ∷ t) (unfold without_comments in inside-lf v);
  plain = refl;
  some = λ h. absurd cc;
}

-- the last character of a comment's line
inside-one : (x : ℕ) (v : List ℕ) → Inside true (x ∷ []) v
unfolding without_comments
inside-one x v = record {
  left = blank_of x ∷ [];
  lf = rw and-false (ap (λ (t : List ℕ). blank_of x ∷ t) (unfold without_comments in inside-lf v));
  crlf = rw and-false
      (ap (λ (t : List ℕ). blank_of x ∷ 32 ∷ t) (unfold without_comments in inside-lf v));
  plain = no-cr-blank x;
  some = λ h. absurd cc;
}

inside-step : (x y : ℕ) (xs v : List ℕ) (e : Bool) → ends_comment (x ∷ y ∷ xs) ≡ e
    → (e ≡ true → Inside false xs v) → (e ≡ false → Inside true (y ∷ xs) v)
    → Inside true (x ∷ y ∷ xs) v
unfolding without_comments
inside-step x y xs v true e f g = let i = f refl in record {
  left = 32 ∷ 32 ∷ i.left;
  lf = rw e (ap (λ (t : List ℕ). 32 ∷ 32 ∷ t) i.lf);
  crlf = rw e (ap (λ (t : List ℕ). 32 ∷ 32 ∷ t) i.crlf);
  plain = cr-more 32 i.left refl i.plain;
  some = λ h. omega arith;
}
inside-step x y xs v false e f g = let i = g refl in record {
  left = blank_of x ∷ i.left;
  lf = rw e (ap (λ (t : List ℕ). blank_of x ∷ t) i.lf);
  crlf = rw e (ap (λ (t : List ℕ). blank_of x ∷ t) i.crlf);
  plain = cr-more (blank_of x) i.left (no-cr-blank x) i.plain;
  some = λ h. omega arith;
}

outside-step : (x y : ℕ) (xs v : List ℕ) (o : Bool) → opens_comment (x ∷ y ∷ xs) ≡ o
    → (o ≡ true → Inside true xs v) → (o ≡ false → Inside false (y ∷ xs) v)
    → Inside false (x ∷ y ∷ xs) v
unfolding without_comments
outside-step x y xs v true o f g =
    let i = f refl in
    let opening = cond (ends_later (xs ++ 10 ∷ v)) 32 256 in
    record {
      left = opening ∷ 32 ∷ i.left;
      lf = rw o (ap (λ (t : List ℕ). opening ∷ 32 ∷ t) i.lf);
      crlf = rw (o, later-same xs v) (ap (λ (t : List ℕ). opening ∷ 32 ∷ t) i.crlf);
      plain = cr-more 32 i.left refl i.plain;
      some = λ h. omega arith;
    }
outside-step x y xs v false o f g = let i = g refl in record {
  left = x ∷ i.left;
  lf = rw o (ap (λ (t : List ℕ). x ∷ t) i.lf);
  crlf = rw o (ap (λ (t : List ℕ). x ∷ t) i.crlf);
  plain = cr-before x i.left (i.some refl) i.plain;
  some = λ h. omega arith;
}

inside : (b : Bool) (u v : List ℕ) → ends_inside b u ≡ true → Inside b u v
unfolding ends_inside
inside true [] v h = inside-nothing v
inside false [] v h = absurd (false≢true h)
inside true (x ∷ []) v h = inside-one x v
inside false (x ∷ []) v h = absurd (false≢true h)
inside true (x ∷ y ∷ xs) v h =
    inside-step x y xs v (ends_comment (x ∷ y ∷ xs)) refl
    (λ e. unfold ends_inside in inside false xs v (rw e at h))
    (λ e. unfold ends_inside in inside true (y ∷ xs) v (rw e at h))
inside false (x ∷ y ∷ xs) v h =
    outside-step x y xs v (opens_comment (x ∷ y ∷ xs)) refl
    (λ e. unfold ends_inside in inside true xs v (rw e at h))
    (λ e. unfold ends_inside in inside false (y ∷ xs) v (rw e at h))

-- ---- lexemes

joins-lf : (x : ℕ) → eqb x 13 ≡ false → joins_lexeme x (10 ∷ []) ≡ false
unfolding joins_lexeme are_linked same_name
joins-lf x e = rw (e, and-false (eqb x 38)) refl

joins-space : (x : ℕ) → joins_lexeme x (32 ∷ []) ≡ false
unfolding joins_lexeme are_linked same_name
joins-space x = rw (and-false (eqb x 38)) refl

first-lf : (v : List ℕ) → lexemes (10 ∷ v) ≡ (10 ∷ []) ∷ lexemes v
first-lf v = pieces-alone 10 v alone-line_end (λ e. absurd (omega (arith, e)))

first-space : (v : List ℕ) → lexemes (32 ∷ v) ≡ (32 ∷ []) ∷ lexemes v
first-space v = pieces-alone 32 v alone-space (λ e. absurd (omega (arith, e)))

-- a lexeme that no character joins, after others
join-before : (x : ℕ) (p : List ℕ) (ps ys : List (List ℕ)) → joins_lexeme x p ≡ false
    → join x (ps ++ p ∷ ys) ≡ join x ps ++ p ∷ ys
join-before x p [] ys h = rw h refl
join-before x p (q ∷ ps) ys h = cond-parts (joins_lexeme x q) x q ps (p ∷ ys)

join-cons : (b : Bool) (x : ℕ) (q p : List ℕ) (qs ys : List (List ℕ)) (y : ℕ)
    → join x (cond b ((y ∷ q) ∷ qs) ((y ∷ []) ∷ q ∷ qs) ++ p ∷ ys)
    ≡ join x (cond b ((y ∷ q) ∷ qs) ((y ∷ []) ∷ q ∷ qs)) ++ p ∷ ys
join-cons true x q p qs ys y = cond-parts (joins_lexeme x (y ∷ q)) x (y ∷ q) qs (p ∷ ys)
join-cons false x q p qs ys y = cond-parts (joins_lexeme x (y ∷ [])) x (y ∷ []) (q ∷ qs) (p ∷ ys)

join-twice : (x y : ℕ) (p : List ℕ) (ps ys : List (List ℕ))
    → join x (join y ps ++ p ∷ ys) ≡ join x (join y ps) ++ p ∷ ys
join-twice x y p [] ys = cond-parts (joins_lexeme x (y ∷ [])) x (y ∷ []) [] (p ∷ ys)
join-twice x y p (q ∷ ps) ys = join-cons (joins_lexeme y q) x q p ps ys y

parts-lf : (u v : List ℕ) → ends_with_cr u ≡ false
    → lexemes (u ++ 10 ∷ v) ≡ lexemes u ++ (10 ∷ []) ∷ lexemes v
unfolding lexemes
parts-lf [] v h = unfold lexemes in first-lf v
parts-lf (x ∷ []) v h =
    ap (join x) (unfold lexemes in first-lf v)
    ∙ join-before x (10 ∷ []) [] (lexemes v) (joins-lf x h)
parts-lf (x ∷ y ∷ u) v h =
    ap (join x) (unfold lexemes in parts-lf (y ∷ u) v h)
    ∙ join-twice x y (10 ∷ []) (lexemes u) (lexemes v)

parts-space : (u v : List ℕ) → lexemes (u ++ 32 ∷ v) ≡ lexemes u ++ (32 ∷ []) ∷ lexemes v
unfolding lexemes
parts-space [] v = unfold lexemes in first-space v
parts-space (x ∷ u) v =
    ap (join x) (unfold lexemes in parts-space u v)
    ∙ join-before x (32 ∷ []) (lexemes u) (lexemes v) (joins-space x)

lines-blank : (ps qs : List LexemeData) → lines (ps ++ (blank ∷ qs)) ≡ lines (ps ++ qs)
unfolding lines
lines-blank [] qs = refl
lines-blank (blank ∷ ps) qs = unfold lines in lines-blank ps qs
lines-blank (line_end ∷ ps) qs =
    ap (λ (l : List (List LexemeData)). [] ∷ l) (unfold lines in lines-blank ps qs)
lines-blank (token s ∷ ps) qs = ap (prepend_lexeme (token s)) (unfold lines in lines-blank ps qs)
lines-blank (bad_token ∷ ps) qs = ap (prepend_lexeme bad_token) (unfold lines in lines-blank ps qs)
lines-blank (bad_literal ∷ ps) qs =
    ap (prepend_lexeme bad_literal) (unfold lines in lines-blank ps qs)

-- a space before a line end makes no difference to the lines
lines-space : (u v : List ℕ) → ends_with_cr u ≡ false
    → lines (map lexeme_of (lexemes (u ++ 32 ∷ 10 ∷ v)))
    ≡ lines (map lexeme_of (lexemes (u ++ 10 ∷ v)))
lines-space u v h =
    let rest = (10 ∷ []) ∷ lexemes v in
    ap (λ (ps : List (List ℕ)). lines (map lexeme_of ps))
    (parts-space u (10 ∷ v)
    ∙ ap (λ (ps : List (List ℕ)). lexemes u ++ (32 ∷ []) ∷ ps) (first-lf v))
    ∙ ap lines (map-append lexeme_of (lexemes u) ((32 ∷ []) ∷ rest))
    ∙ ap (λ (q : LexemeData). lines (map lexeme_of (lexemes u) ++ (q ∷ map lexeme_of rest)))
    space-piece
    ∙ lines-blank (map lexeme_of (lexemes u)) (map lexeme_of rest)
    ∙ ap lines (sym (map-append lexeme_of (lexemes u) rest))
    ∙ ap (λ (ps : List (List ℕ)). lines (map lexeme_of ps)) (sym (parts-lf u v h))

-- ---- texts

last-cr : (v : List ℕ) → last_line (13 ∷ 10 ∷ v) ≡ last_line (10 ∷ v)
unfolding last_line
last-cr v = refl

inside-lines : (u v : List ℕ) → Inside false u v
    → lines (text_lexemes false (u ++ 10 ∷ v)) ≡ lines (text_lexemes false (u ++ 13 ∷ 10 ∷ v))
unfolding text_lexemes
inside-lines u v i =
    ap (λ (t : List ℕ). lines (map lexeme_of (lexemes t))) i.lf
    ∙ sym (lines-space i.left (without_comments true v) i.plain)
    ∙ sym (ap (λ (t : List ℕ). lines (map lexeme_of (lexemes t))) i.crlf)

inside-same : (u v : List ℕ) → ends_inside false u ≡ true
    → program_of (u ++ 10 ∷ v) ≡ program_of (u ++ 13 ∷ 10 ∷ v)
unfolding program_of
inside-same u v h =
    ap (λ (n : ℕ). program_of_lines n no_progress 1 (lines (text_lexemes false (u ++ 10 ∷ v))))
    (sym (last-line-parts u (13 ∷ 10 ∷ v) (10 ∷ v) (omega arith) (omega arith) (last-cr v)))
    ∙ ap (program_of_lines (last_line (u ++ 13 ∷ 10 ∷ v)) no_progress 1)
    (inside-lines u v (inside false u v h))

outside-same : (u v : List ℕ) → ends_inside false u ≡ false → ends_with_cr u ≡ false
    → program_of (u ++ 10 ∷ v) ≡ program_of (u ++ 13 ∷ 10 ∷ v)
outside-same u v h c =
    let one = text-reads (u ++ 10 ∷ v) in
    let other = text-reads (u ++ 13 ∷ 10 ∷ v) in
    one_reading (u ++ 13 ∷ 10 ∷ v) (program_of (u ++ 10 ∷ v)) (program_of (u ++ 13 ∷ 10 ∷ v))
    (line_ends u v (program_of (u ++ 10 ∷ v)) h (cr-left false u c) one) other

one-same : (u v : List ℕ) → ends_with_cr u ≡ false
    → program_of (u ++ 10 ∷ v) ≡ program_of (u ++ 13 ∷ 10 ∷ v)
one-same u v c = go (ends_inside false u) refl
  where
    go : (b : Bool) → ends_inside false u ≡ b
        → program_of (u ++ 10 ∷ v) ≡ program_of (u ++ 13 ∷ 10 ∷ v)
    go true h = inside-same u v h
    go false h = outside-same u v h c

-- The text after `done` has CR LF in place of each LF.
all-same : (done text : List ℕ) → ends_with_cr done ≡ false → list_all is_no_cr text ≡ true
    → program_of (done ++ text) ≡ program_of (done ++ with_cr_lf text)
all-same done [] h a = refl
all-same done (x ∷ xs) h a =
    go (eqb x 10) refl
    (λ more ends. all-same (done ++ more) xs ends (and-right (is_no_cr x) (list_all is_no_cr xs) a))
  where
    go : (b : Bool) → eqb x 10 ≡ b
        → ((more : List ℕ) → ends_with_cr (done ++ more) ≡ false
        → program_of ((done ++ more) ++ xs) ≡ program_of ((done ++ more) ++ with_cr_lf xs))
        → program_of (done ++ x ∷ xs)
        ≡ program_of (done ++ cond b (13 ∷ 10 ∷ with_cr_lf xs) (x ∷ with_cr_lf xs))
    go true e rest =
        ap (λ (n : ℕ). program_of (done ++ n ∷ xs)) (eqb-true x 10 e)
        ∙ one-same done xs h
        ∙ ap program_of (sym (append_assoc done (13 ∷ 10 ∷ []) xs))
        ∙ rest (13 ∷ 10 ∷ [])
        (ap ends_with_cr (sym (append_assoc done (13 ∷ []) (10 ∷ [])))
        ∙ cr-last (done ++ 13 ∷ []) 10 refl)
        ∙ ap program_of (append_assoc done (13 ∷ 10 ∷ []) (with_cr_lf xs))
    go false e rest =
        let other : eqb x 13 ≡ false =
        not-true (eqb x 13) (and-left (is_no_cr x) (list_all is_no_cr xs) a) in
        ap program_of (sym (append_assoc done (x ∷ []) xs))
        ∙ rest (x ∷ []) (cr-last done x other)
        ∙ ap program_of (append_assoc done (x ∷ []) (with_cr_lf xs))

both : (a b : List ℕ) (read : Result PlainProgram TextFault) → program_of a ≡ program_of b
    → ReadsAs a read ↔ ReadsAs b read
both a b read e = (moved a b read e, moved b a read (sym e))

pub comments-crlf : CommentsMayHaveCrLf
comments-crlf before after read h = both _ _ read (inside-same before after h)

pub files-crlf : FilesMayHaveCrLf
files-crlf text read h = both _ _ read (all-same [] text refl h)
