-- LF and CR LF end a line alike.
use Rattle.std.proofs.Common.{◌≡◌, ℕ, Bool, true, false, cond, List, [], ◌∷◌, ◌++◌, map, eqb, refl, sym, ap, ◌∙◌, arith}
use Rattle.std.proofs.lemmas.List.{map-append}
use Rattle.std.proofs.Math.Bool.{and-false}
use Rattle.il_text.specs.Characters.{are_linked}
use Rattle.bay_base.specs.Names.{same_name}
use Rattle.il_text.specs.Lexemes.{without_comments, joins_lexeme, join, lexemes}
use Rattle.il_text.specs.Places.{last_line}
use Rattle.il_text.specs.Reading.{lines, program_of_lines, no_progress, program_of}
use Rattle.il_text.specs.Respelling.{ends_inside, ends_with_cr, LineEndsMayBeRespelled}
use Rattle.il_text.specs.Symbols.{lexeme_of, text_lexemes}
use Rattle.il_text.specs.Tokens.{LexemeData, line_end}
use Rattle.il_text.proofs.CutLemmas.{blanked-plain}
use Rattle.il_text.proofs.ReadLemmas.{alone-line_end, pieces-alone}
use Rattle.il_text.proofs.RespellingLemmas.{blanked-parts, cond-parts, last-line-parts, moved}

joins-lf : (x : ℕ) → eqb x 13 ≡ false → joins_lexeme x (10 ∷ []) ≡ false
unfolding joins_lexeme are_linked same_name
joins-lf x e = rw (e, and-false (eqb x 38)) refl

joins-cr : (x : ℕ) → joins_lexeme x (13 ∷ 10 ∷ []) ≡ false
unfolding joins_lexeme are_linked same_name
joins-cr x = rw (and-false (eqb x 38)) refl

first-lf : (v : List ℕ) → lexemes (10 ∷ v) ≡ (10 ∷ []) ∷ lexemes v
first-lf v = pieces-alone 10 v alone-line_end (λ e. absurd (omega (arith, e)))

cr-lf : (ps : List (List ℕ)) → join 13 ((10 ∷ []) ∷ ps) ≡ (13 ∷ 10 ∷ []) ∷ ps
unfolding joins_lexeme are_linked same_name
cr-lf ps = refl

first-cr : (v : List ℕ) → lexemes (13 ∷ 10 ∷ v) ≡ (13 ∷ 10 ∷ []) ∷ lexemes v
unfolding lexemes
first-cr v = ap (join 13) (unfold lexemes in first-lf v) ∙ cr-lf (lexemes v)

-- a piece that no character joins, behind others
join-before : (x : ℕ) (p : List ℕ) (ps ys : List (List ℕ)) → joins_lexeme x p ≡ false
    → join x (ps ++ p ∷ ys) ≡ join x ps ++ p ∷ ys
join-before x p [] ys h = rw h refl
join-before x p (q ∷ ps) ys h = cond-parts (joins_lexeme x q) x q ps (p ∷ ys)

join-cons : (b : Bool) (x : ℕ) (q p : List ℕ) (qs ys : List (List ℕ)) (y : ℕ)
    → join x (cond b ((y ∷ q) ∷ qs) ((y ∷ []) ∷ q ∷ qs) ++ p ∷ ys)
    ≡ join x (cond b ((y ∷ q) ∷ qs) ((y ∷ []) ∷ q ∷ qs)) ++ p ∷ ys
join-cons true x q p qs ys y = cond-parts (joins_lexeme x (y ∷ q)) x (y ∷ q) qs (p ∷ ys)
join-cons false x q p qs ys y = cond-parts (joins_lexeme x (y ∷ [])) x (y ∷ []) (q ∷ qs) (p ∷ ys)

join-twice : (x y : ℕ) (p : List ℕ) (ps ys : List (List ℕ))
    → join x (join y ps ++ p ∷ ys) ≡ join x (join y ps) ++ p ∷ ys
join-twice x y p [] ys = cond-parts (joins_lexeme x (y ∷ [])) x (y ∷ []) [] (p ∷ ys)
join-twice x y p (q ∷ ps) ys = join-cons (joins_lexeme y q) x q p ps ys y

parts-lf : (u v : List ℕ) → ends_with_cr u ≡ false
    → lexemes (u ++ 10 ∷ v) ≡ lexemes u ++ (10 ∷ []) ∷ lexemes v
unfolding lexemes
parts-lf [] v h = unfold lexemes in first-lf v
parts-lf (x ∷ []) v h =
    ap (join x) (unfold lexemes in first-lf v)
    ∙ join-before x (10 ∷ []) [] (lexemes v) (joins-lf x h)
parts-lf (x ∷ y ∷ u) v h =
    ap (join x) (unfold lexemes in parts-lf (y ∷ u) v h)
    ∙ join-twice x y (10 ∷ []) (lexemes u) (lexemes v)

parts-cr : (u v : List ℕ) → lexemes (u ++ 13 ∷ 10 ∷ v) ≡ lexemes u ++ (13 ∷ 10 ∷ []) ∷ lexemes v
unfolding lexemes
parts-cr [] v = unfold lexemes in first-cr v
parts-cr (x ∷ u) v =
    ap (join x) (unfold lexemes in parts-cr u v)
    ∙ join-before x (13 ∷ 10 ∷ []) (lexemes u) (lexemes v) (joins-cr x)

piece-lf : lexeme_of (10 ∷ []) ≡ line_end
unfolding lexeme_of
piece-lf = refl

piece-cr : lexeme_of (13 ∷ 10 ∷ []) ≡ line_end
unfolding lexeme_of
piece-cr = refl

blanked-lf : (v : List ℕ) → without_comments false (10 ∷ v) ≡ 10 ∷ without_comments false v
blanked-lf v = blanked-plain 10 v refl

blanked-cr : (v : List ℕ)
    → without_comments false (13 ∷ 10 ∷ v) ≡ 13 ∷ 10 ∷ without_comments false v
blanked-cr v = blanked-plain 13 (10 ∷ v) refl ∙ ap (λ (l : List ℕ). 13 ∷ l) (blanked-lf v)

cut-lf : (u v : List ℕ) → ends_inside false u ≡ false
    → ends_with_cr (without_comments false u) ≡ false
    → text_lexemes false (u ++ 10 ∷ v)
    ≡ map lexeme_of (lexemes (without_comments false u))
    ++ line_end ∷ map lexeme_of (lexemes (without_comments false v))
unfolding text_lexemes
cut-lf u v h c =
    ap (λ (t : List ℕ). map lexeme_of (lexemes t))
    (blanked-parts false u (10 ∷ v) h (λ e. absurd (omega (arith, e)))
    ∙ ap (λ (t : List ℕ). without_comments false u ++ t) (blanked-lf v))
    ∙ ap (map lexeme_of) (parts-lf (without_comments false u) (without_comments false v) c)
    ∙ map-append lexeme_of (lexemes (without_comments false u))
    ((10 ∷ []) ∷ lexemes (without_comments false v))
    ∙ ap (λ (p : LexemeData). map lexeme_of (lexemes (without_comments false u))
    ++ p ∷ map lexeme_of (lexemes (without_comments false v))) piece-lf

cut-cr : (u v : List ℕ) → ends_inside false u ≡ false
    → text_lexemes false (u ++ 13 ∷ 10 ∷ v)
    ≡ map lexeme_of (lexemes (without_comments false u))
    ++ line_end ∷ map lexeme_of (lexemes (without_comments false v))
unfolding text_lexemes
cut-cr u v h =
    ap (λ (t : List ℕ). map lexeme_of (lexemes t))
    (blanked-parts false u (13 ∷ 10 ∷ v) h (λ e. absurd (omega (arith, e)))
    ∙ ap (λ (t : List ℕ). without_comments false u ++ t) (blanked-cr v))
    ∙ ap (map lexeme_of) (parts-cr (without_comments false u) (without_comments false v))
    ∙ map-append lexeme_of (lexemes (without_comments false u))
    ((13 ∷ 10 ∷ []) ∷ lexemes (without_comments false v))
    ∙ ap (λ (p : LexemeData). map lexeme_of (lexemes (without_comments false u))
    ++ p ∷ map lexeme_of (lexemes (without_comments false v))) piece-cr

last-cr : (v : List ℕ) → last_line (13 ∷ 10 ∷ v) ≡ last_line (10 ∷ v)
unfolding last_line
last-cr v = refl

same-program : (u v : List ℕ) → ends_inside false u ≡ false
    → ends_with_cr (without_comments false u) ≡ false
    → program_of (u ++ 10 ∷ v) ≡ program_of (u ++ 13 ∷ 10 ∷ v)
unfolding program_of
same-program u v h c =
    ap (λ (n : ℕ). program_of_lines n no_progress 1 (lines (text_lexemes false (u ++ 10 ∷ v))))
    (sym (last-line-parts u (13 ∷ 10 ∷ v) (10 ∷ v) (omega arith) (omega arith) (last-cr v)))
    ∙ ap (λ (ps : List LexemeData). program_of_lines (last_line (u ++ 13 ∷ 10 ∷ v)) no_progress 1
    (lines ps))
    (cut-lf u v h c ∙ sym (cut-cr u v h))

pub line_ends : LineEndsMayBeRespelled
line_ends before after read h c x = moved _ _ read (same-program before after h c) x
