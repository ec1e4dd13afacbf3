-- One piece, or one character of a comment.
use Rattle.std.proofs.Common.{◌≡◌, ◌≢◌, ℕ, ◌+◌, ◌<◌, ◌≤◌, not, ◌||◌, Bool, true, false, Option, Some, option_and_then, option_map, List, [], ◌∷◌, ◌++◌, None, Ok, Err, Result, map, length, drop, slice_index, slice_range, eqb, refl, sym, ap, subst, ◌∙◌, arith, append-nil}
use Rattle.std.proofs.lemmas.Bool.{false≢true, eqb-true, ne_eqb}
use Rattle.std.proofs.lemmas.List.{map-append}
use Rattle.std.proofs.Math.Bool.{and-false}
use Rattle.il_text.specs.Characters.{are_linked}
use Rattle.il_text.specs.Forms.{tail, declaration, named_line, other_line, whole_line, begins_no_line, parts_of}
use Rattle.il_text.specs.TokenForms.{names, names_from, split_form_of, split_at_mark, before_first, is_mark}
use Rattle.bay_base.specs.Results.{◌>>=◌}
use Rattle.il_text.specs.Listing.{PlainProgram}
use Rattle.il_text.specs.declared.token.Mark.TheVariants as mark
use Rattle.il_text.specs.Lexemes.{opens_comment, ends_comment, ends_later, without_comments, lexemes}
use Rattle.il_text.specs.Reading.{Progress, program_of_lines, lines, prepend_lexeme, tokens_of, after_line, complete_program, no_progress, program_of}
use Rattle.il_text.specs.Places.{last_line}
use Rattle.il_text.specs.ReaderViews.{read_on}
use Rattle.il_text.specs.Runs.{IsFirstLexeme}
use Rattle.bay_base.specs.Names.{same_name}
use Rattle.il_text.specs.Symbols.{lexeme_of, text_lexemes, mark_of}
use Rattle.il_text.specs.Tokens.{Symbol, name, keyword_word, type_word, literal, mnemonic_word, mark_symbol, LexemeData, blank, line_end, token, bad_token, bad_literal}
use Rattle.il_text.specs.declared.fault.TextFault.{TextFault}
use Rattle.il_text.specs.declared.fault.TextFault.TheVariants.{BadToken, BadLine, BadLiteral}
use Rattle.bay_base.proofs.ListLemmas.{front_of, none-left}
use Rattle.il_text.proofs.PieceLemmas.{index-drop}
use Rattle.il_text.proofs.CutLemmas.{join-alone, not-N, within-of, and-right}

-- good tokens in front of the first of the lines
abbrev onto_all : List Symbol → List (List LexemeData) → List (List LexemeData)
onto_all [] ls = ls
onto_all (s ∷ ss) ls = prepend_lexeme (token s) (onto_all ss ls)

lines-onto : (ss : List Symbol) (ps : List LexemeData)
    → lines (map token ss ++ ps) ≡ onto_all ss (lines ps)
unfolding lines
lines-onto [] ps = refl
lines-onto (s ∷ ss) ps = ap (prepend_lexeme (token s)) (unfold lines in lines-onto ss ps)

onto-line : (ss : List Symbol) (l : List LexemeData) (ls : List (List LexemeData))
    → onto_all ss (l ∷ ls) ≡ (map token ss ++ l) ∷ ls
onto-line [] l ls = refl
onto-line (s ∷ ss) l ls = ap (prepend_lexeme (token s)) (onto-line ss l ls)

onto-more : (ss : List Symbol) (s : Symbol) (ls : List (List LexemeData))
    → onto_all ss (prepend_lexeme (token s) ls) ≡ onto_all (ss ++ s ∷ []) ls
onto-more [] s ls = refl
onto-more (t ∷ ss) s ls = ap (prepend_lexeme (token t)) (onto-more ss s ls)

tokens-good : (line : ℕ) (ss : List Symbol) → tokens_of line (map token ss) ≡ Ok ss
unfolding tokens_of
tokens-good line [] = refl
tokens-good line (s ∷ ss) =
    ap (λ (r : Result (List Symbol) TextFault). r >>= (λ xs. Ok (s ∷ xs)))
    (unfold tokens_of in tokens-good line ss)

tokens-bad : (line : ℕ) (ss : List Symbol) (l : List LexemeData)
    → tokens_of line (map token ss ++ bad_token ∷ l) ≡ Err (BadToken line)
unfolding tokens_of
tokens-bad line [] l = refl
tokens-bad line (s ∷ ss) l =
    ap (λ (r : Result (List Symbol) TextFault). r >>= (λ xs. Ok (s ∷ xs)))
    (unfold tokens_of in tokens-bad line ss l)

tokens-bad-literal : (line : ℕ) (ss : List Symbol) (l : List LexemeData)
    → tokens_of line (map token ss ++ bad_literal ∷ l) ≡ Err (BadLiteral line)
unfolding tokens_of
tokens-bad-literal line [] l = refl
tokens-bad-literal line (s ∷ ss) l =
    ap (λ (r : Result (List Symbol) TextFault). r >>= (λ xs. Ok (s ∷ xs)))
    (unfold tokens_of in tokens-bad-literal line ss l)

read-blank : (last : ℕ) (r : Progress) (n : ℕ) (ss : List Symbol) (ps : List LexemeData)
    → read_on last r n ss (blank ∷ ps) ≡ read_on last r n ss ps
unfolding read_on lines
read-blank last r n ss ps =
    ap (program_of_lines last r n) (lines-onto ss (blank ∷ ps) ∙ sym (lines-onto ss ps))

read-token : (last : ℕ) (r : Progress) (n : ℕ) (ss : List Symbol) (s : Symbol)
    (ps : List LexemeData)
    → read_on last r n ss (token s ∷ ps) ≡ read_on last r n (ss ++ s ∷ []) ps
unfolding read_on lines
read-token last r n ss s ps =
    ap (program_of_lines last r n) (lines-onto ss (token s ∷ ps) ∙ onto-more ss s (lines ps)
    ∙ sym (lines-onto (ss ++ s ∷ []) ps))

-- a line of good tokens, and the lines after it
reading-line : (last : ℕ) (r : Progress) (n : ℕ) (ss : List Symbol) (ls : List (List LexemeData))
    → program_of_lines last r n (map token ss ∷ ls)
    ≡ (after_line n last r ss >>= (λ s. program_of_lines last s (n + 1) ls))
unfolding program_of_lines
reading-line last r n ss ls =
    ap (λ (t : Result (List Symbol) TextFault). t
    >>= (λ ts. after_line n last r ts >>= (λ s. program_of_lines last s (n + 1) ls)))
    (tokens-good n ss)

read-line-end : (last : ℕ) (r : Progress) (n : ℕ) (ss : List Symbol) (ps : List LexemeData)
    → read_on last r n ss (line_end ∷ ps)
    ≡ (after_line n last r ss >>= (λ s. read_on last s (n + 1) [] ps))
unfolding read_on lines
read-line-end last r n ss ps =
    ap (program_of_lines last r n) (lines-onto ss (line_end ∷ ps) ∙ onto-line ss [] (lines ps)
    ∙ ap (λ (l : List LexemeData). l ∷ lines ps) (append-nil (map token ss)))
    ∙ reading-line last r n ss (lines ps)

pub read-end : (last : ℕ) (r : Progress) (n : ℕ) (ss : List Symbol)
    → read_on last r n ss [] ≡ (after_line n last r ss >>= (λ s. complete_program last s.draft))
unfolding read_on lines program_of_lines
read-end last r n ss =
    ap (program_of_lines last r n) (lines-onto ss [] ∙ onto-line ss [] []
    ∙ ap (λ (l : List LexemeData). l ∷ []) (append-nil (map token ss)))
    ∙ reading-line last r n ss []

bad-lines : (last : ℕ) (r : Progress) (n : ℕ) (ss : List Symbol) (ls : List (List LexemeData))
    → program_of_lines last r n (onto_all ss (prepend_lexeme bad_token ls)) ≡ Err (BadToken n)
unfolding program_of_lines
bad-lines last r n ss [] = rw (onto-line ss (bad_token ∷ []) [], tokens-bad n ss []) refl
bad-lines last r n ss (l ∷ ls) = rw (onto-line ss (bad_token ∷ l) ls, tokens-bad n ss l) refl

bad-literal-lines : (last : ℕ) (r : Progress) (n : ℕ) (ss : List Symbol)
    (ls : List (List LexemeData))
    → program_of_lines last r n (onto_all ss (prepend_lexeme bad_literal ls)) ≡ Err (BadLiteral n)
unfolding program_of_lines
bad-literal-lines last r n ss [] =
    rw (onto-line ss (bad_literal ∷ []) [], tokens-bad-literal n ss []) refl
bad-literal-lines last r n ss (l ∷ ls) =
    rw (onto-line ss (bad_literal ∷ l) ls, tokens-bad-literal n ss l) refl

read-bad : (last : ℕ) (r : Progress) (n : ℕ) (ss : List Symbol) (ps : List LexemeData)
    → read_on last r n ss (bad_token ∷ ps) ≡ Err (BadToken n)
unfolding read_on lines
read-bad last r n ss ps =
    ap (program_of_lines last r n) (lines-onto ss (bad_token ∷ ps))
    ∙ bad-lines last r n ss (lines ps)

read-bad-literal : (last : ℕ) (r : Progress) (n : ℕ) (ss : List Symbol) (ps : List LexemeData)
    → read_on last r n ss (bad_literal ∷ ps) ≡ Err (BadLiteral n)
unfolding read_on lines
read-bad-literal last r n ss ps =
    ap (program_of_lines last r n) (lines-onto ss (bad_literal ∷ ps))
    ∙ bad-literal-lines last r n ss (lines ps)

-- the first piece from a place on
cut-piece : (bs : List ℕ) (s e : ℕ) → IsFirstLexeme bs s e
    → text_lexemes false (drop s bs)
    ≡ lexeme_of (slice_range bs s e) ∷ text_lexemes false (drop e bs)
unfolding text_lexemes
cut-piece bs s e h = ap (map lexeme_of) h

-- what begins no longer piece
abbrev pub Alone : ℕ → Type 0
Alone x = (y : ℕ) → are_linked x y ≡ false

pub alone-space : Alone 32
unfolding are_linked
alone-space y = simp and-false refl

pub alone-line_end : Alone 10
unfolding are_linked
alone-line_end y = simp and-false refl

alone-unclosed : Alone 256
unfolding are_linked
alone-unclosed y = simp and-false refl

pub pieces-alone : (x : ℕ) (xs : List ℕ) → Alone x → x ≢ 38
    → lexemes (x ∷ xs) ≡ (x ∷ []) ∷ lexemes xs
unfolding lexemes
pieces-alone x xs a n = join-alone x (lexemes xs) (a _) (not-N x (lexemes xs) n)

two-of : (bs : List ℕ) (s : ℕ) → s + 1 < length bs
    → drop s bs ≡ slice_index bs s ∷ slice_index bs (s + 1) ∷ drop (s + 2) bs
two-of bs s h =
    let a : s < length bs = omega arith in
    let two : (s + 1) + 1 ≡ s + 2 = omega arith in
    front_of bs s a ∙ ap (λ (t : List ℕ). slice_index bs s ∷ t)
    (front_of bs (s + 1) h ∙ ap (λ (i : ℕ). slice_index bs (s + 1) ∷ drop i bs) two)

-- what the cut of a text that begins with a blanked character is
cut-first : (x : ℕ) (xs : List ℕ) → Alone x → x ≢ 38
    → map lexeme_of (lexemes (x ∷ xs)) ≡ lexeme_of (x ∷ []) ∷ map lexeme_of (lexemes xs)
cut-first x xs a n = ap (map lexeme_of) (pieces-alone x xs a n)

pub space-piece : lexeme_of (32 ∷ []) ≡ blank
unfolding lexeme_of
space-piece = refl

end-piece : lexeme_of (10 ∷ []) ≡ line_end
unfolding lexeme_of
end-piece = refl

unclosed-piece : lexeme_of (256 ∷ []) ≡ bad_token
unfolding lexeme_of mark_of same_name
unclosed-piece = refl

space-first : (xs : List ℕ) → map lexeme_of (lexemes (32 ∷ xs)) ≡ blank ∷ map lexeme_of (lexemes xs)
space-first xs =
    cut-first 32 xs alone-space (λ e. absurd (omega (arith, e)))
    ∙ ap (λ (p : LexemeData). p ∷ map lexeme_of (lexemes xs)) space-piece

end-first : (xs : List ℕ)
    → map lexeme_of (lexemes (10 ∷ xs)) ≡ line_end ∷ map lexeme_of (lexemes xs)
end-first xs =
    cut-first 10 xs alone-line_end (λ e. absurd (omega (arith, e)))
    ∙ ap (λ (p : LexemeData). p ∷ map lexeme_of (lexemes xs)) end-piece

unclosed-first : (xs : List ℕ)
    → map lexeme_of (lexemes (256 ∷ xs)) ≡ bad_token ∷ map lexeme_of (lexemes xs)
unclosed-first xs =
    cut-first 256 xs alone-unclosed (λ e. absurd (omega (arith, e)))
    ∙ ap (λ (p : LexemeData). p ∷ map lexeme_of (lexemes xs)) unclosed-piece

opening-cons : (x y : ℕ) (xs : List ℕ) → opens_comment (x ∷ y ∷ xs) ≡ true → ends_later xs ≡ true
    → text_lexemes false (x ∷ y ∷ xs) ≡ blank ∷ blank ∷ text_lexemes true xs
unfolding text_lexemes without_comments
opening-cons x y xs h k =
    rw (h, k) (space-first _
    ∙ ap (λ (l : List LexemeData). blank ∷ l) (space-first (without_comments true xs)))

unclosed-cons : (x y : ℕ) (xs : List ℕ) → opens_comment (x ∷ y ∷ xs) ≡ true → ends_later xs ≡ false
    → text_lexemes false (x ∷ y ∷ xs) ≡ bad_token ∷ blank ∷ text_lexemes true xs
unfolding text_lexemes without_comments
unclosed-cons x y xs h k =
    rw (h, k) (unclosed-first _
    ∙ ap (λ (l : List LexemeData). bad_token ∷ l) (space-first (without_comments true xs)))

closing-cons : (x y : ℕ) (xs : List ℕ) → ends_comment (x ∷ y ∷ xs) ≡ true
    → text_lexemes true (x ∷ y ∷ xs) ≡ blank ∷ blank ∷ text_lexemes false xs
unfolding text_lexemes without_comments
closing-cons x y xs h =
    rw h (space-first _ ∙ ap (λ (l : List LexemeData). blank ∷ l)
    (space-first (without_comments false xs)))

inside-end : (x : ℕ) (xs : List ℕ) → ends_comment (x ∷ xs) ≡ false → x ≡ 10
    → text_lexemes true (x ∷ xs) ≡ line_end ∷ text_lexemes true xs
unfolding text_lexemes without_comments
inside-end x [] h e = rw e (end-first [])
inside-end x (y ∷ ys) h e = rw (h, e) (end-first (without_comments true (y ∷ ys)))

inside-other : (x : ℕ) (xs : List ℕ) → ends_comment (x ∷ xs) ≡ false → x ≢ 10
    → text_lexemes true (x ∷ xs) ≡ blank ∷ text_lexemes true xs
unfolding text_lexemes without_comments
inside-other x [] h e = rw (ne_eqb x 10 e) (space-first [])
inside-other x (y ∷ ys) h e = rw (h, ne_eqb x 10 e) (space-first (without_comments true (y ∷ ys)))

-- the second character of a comment's opening or ending is there
pub opens-within : (bs : List ℕ) (s : ℕ) → opens_comment (drop s bs) ≡ true → s + 1 < length bs
opens-within bs s h =
    let star : slice_index bs (s + 1) ≡ 42 =
    sym (index-drop bs s 1)
    ∙ eqb-true _ _ (and-right (eqb (slice_index (drop s bs) 0) 40) _ h) in
    within-of bs (s + 1) (λ e. absurd (omega (arith, e, star)))

pub ends-within : (bs : List ℕ) (s : ℕ) → ends_comment (drop s bs) ≡ true → s + 1 < length bs
ends-within bs s h =
    let close : slice_index bs (s + 1) ≡ 41 =
    sym (index-drop bs s 1)
    ∙ eqb-true _ _ (and-right (eqb (slice_index (drop s bs) 0) 42) _ h) in
    within-of bs (s + 1) (λ e. absurd (omega (arith, e, close)))

cut-opening : (bs : List ℕ) (s : ℕ) → opens_comment (drop s bs) ≡ true
    → ends_later (drop (s + 2) bs) ≡ true
    → text_lexemes false (drop s bs) ≡ blank ∷ blank ∷ text_lexemes true (drop (s + 2) bs)
cut-opening bs s h k =
    let t = two-of bs s (opens-within bs s h) in
    ap (text_lexemes false) t
    ∙ opening-cons _ _ _ (subst (λ (l : List ℕ). opens_comment l ≡ true) t h) k

cut-unclosed : (bs : List ℕ) (s : ℕ) → opens_comment (drop s bs) ≡ true
    → ends_later (drop (s + 2) bs) ≡ false
    → text_lexemes false (drop s bs) ≡ bad_token ∷ blank ∷ text_lexemes true (drop (s + 2) bs)
cut-unclosed bs s h k =
    let t = two-of bs s (opens-within bs s h) in
    ap (text_lexemes false) t
    ∙ unclosed-cons _ _ _ (subst (λ (l : List ℕ). opens_comment l ≡ true) t h) k

cut-closing : (bs : List ℕ) (s : ℕ) → ends_comment (drop s bs) ≡ true
    → text_lexemes true (drop s bs) ≡ blank ∷ blank ∷ text_lexemes false (drop (s + 2) bs)
cut-closing bs s h =
    let t = two-of bs s (ends-within bs s h) in
    ap (text_lexemes true) t
    ∙ closing-cons _ _ _ (subst (λ (l : List ℕ). ends_comment l ≡ true) t h)

cut-inside-end : (bs : List ℕ) (s : ℕ) → s < length bs → ends_comment (drop s bs) ≡ false
    → slice_index bs s ≡ 10 → text_lexemes true (drop s bs)
    ≡ line_end ∷ text_lexemes true (drop (s + 1) bs)
cut-inside-end bs s w h e =
    let t = front_of bs s w in
    ap (text_lexemes true) t ∙ inside-end _ _ (subst (λ (l : List ℕ). ends_comment l ≡ false) t h) e

cut-inside-other : (bs : List ℕ) (s : ℕ) → s < length bs → ends_comment (drop s bs) ≡ false
    → slice_index bs s ≢ 10 → text_lexemes true (drop s bs)
    ≡ blank ∷ text_lexemes true (drop (s + 1) bs)
cut-inside-other bs s w h e =
    let t = front_of bs s w in
    ap (text_lexemes true) t
    ∙ inside-other _ _ (subst (λ (l : List ℕ). ends_comment l ≡ false) t h) e

-- what the code's steps keep, in the words of the reader

pub step-blank : (last : ℕ) (r : Progress) (n : ℕ) (ss : List Symbol) (bs : List ℕ) (s e : ℕ)
    → IsFirstLexeme bs s e → lexeme_of (slice_range bs s e) ≡ blank
    → read_on last r n ss (text_lexemes false (drop s bs))
    ≡ read_on last r n ss (text_lexemes false (drop e bs))
step-blank last r n ss bs s e h k = rw (cut-piece bs s e h, k) (read-blank last r n ss _)

pub step-token : (last : ℕ) (r : Progress) (n : ℕ) (ss : List Symbol) (bs : List ℕ) (s e : ℕ)
    (t : Symbol) → IsFirstLexeme bs s e → lexeme_of (slice_range bs s e) ≡ token t
    → read_on last r n ss (text_lexemes false (drop s bs))
    ≡ read_on last r n (ss ++ t ∷ []) (text_lexemes false (drop e bs))
step-token last r n ss bs s e t h k = rw (cut-piece bs s e h, k) (read-token last r n ss t _)

-- a name that neither a colon nor a comma follows begins no declaration
none-then : {A B : Type 0} (o : Option A) → option_and_then {U = B} (λ x. None) o ≡ None
none-then None = refl
none-then (Some x) = refl

fronted-names : (n : List ℕ) (c : Symbol) (o : Option (List Symbol × List Symbol))
    → is_mark mark.Comma c ≡ false
    → split_form_of names.reads tail.reads
    (option_map (before_first (name n)) (option_map (before_first c) o)) ≡ None
unfolding names_from
fronted-names n c None h = refl
fronted-names n c (Some p) h = rw h (none-then (tail.reads p.1))

neither : (a b : Bool) → not (a || b) ≡ true → (a ≡ false) × (b ≡ false)
neither true b h = absurd (false≢true h)
neither false true h = absurd (false≢true h)
neither false false h = (refl, refl)

no-declaration : (n : List ℕ) (c : Symbol) (more : List Symbol) → is_mark mark.Colon c ≡ false
    → is_mark mark.Comma c ≡ false → declaration.reads (name n ∷ c ∷ more) ≡ None
unfolding declaration
no-declaration n c more h k = rw (h, fronted-names n c (split_at_mark mark.Colon more) k) refl

named-nothing : (n : List ℕ) (c : Symbol) (more : List Symbol)
    → not (is_mark mark.Colon c || is_mark mark.Comma c) ≡ true
    → named_line.reads (name n ∷ c ∷ more) ≡ None
unfolding named_line
named-nothing n c more h =
    let k = neither (is_mark mark.Colon c) (is_mark mark.Comma c) h in
    rw k.0 (no-declaration n c more k.0 k.1)

-- tokens with which no line begins make no line, whatever follows
hopeless-parts : (ss more : List Symbol) → begins_no_line ss ≡ true → parts_of (ss ++ more) ≡ None
unfolding whole_line other_line
hopeless-parts [] more h = absurd (false≢true h)
hopeless-parts (s ∷ []) more h = absurd (false≢true h)
hopeless-parts (name n ∷ t ∷ ss) more h = named-nothing n t (ss ++ more) h
hopeless-parts (keyword_word w ∷ t ∷ ss) more h = absurd (false≢true h)
hopeless-parts (mnemonic_word m ∷ t ∷ ss) more h = absurd (false≢true h)
hopeless-parts (type_word k ∷ t ∷ ss) more h = refl
hopeless-parts (literal v ∷ t ∷ ss) more h = refl
hopeless-parts (mark_symbol mark.Colon ∷ t ∷ ss) more h = refl
hopeless-parts (mark_symbol mark.Assign ∷ t ∷ ss) more h = refl
hopeless-parts (mark_symbol mark.Comma ∷ t ∷ ss) more h = refl
hopeless-parts (mark_symbol mark.Semicolon ∷ t ∷ ss) more h = refl
hopeless-parts (mark_symbol mark.Dot ∷ t ∷ ss) more h = refl
hopeless-parts (mark_symbol mark.Open ∷ t ∷ ss) more h = refl
hopeless-parts (mark_symbol mark.Close ∷ t ∷ ss) more h = refl

hopeless-line : (last : ℕ) (r : Progress) (n : ℕ) (ss more : List Symbol) → begins_no_line ss ≡ true
    → after_line n last r (ss ++ more) ≡ Err (BadLine n)
unfolding after_line
hopeless-line last r n ss more h = rw (hopeless-parts ss more h) refl

abbrev with_front : List Symbol → Result (List Symbol) TextFault → Result (List Symbol) TextFault
with_front ss t = (t >>= (λ ts. Ok (ss ++ ts)))

front-then : (s : Symbol) (ss : List Symbol) (t : Result (List Symbol) TextFault)
    → (with_front ss t >>= (λ ts. Ok (s ∷ ts))) ≡ with_front (s ∷ ss) t
front-then s ss (Ok ts) = refl
front-then s ss (Err e) = refl

front-none : (t : Result (List Symbol) TextFault) → t ≡ with_front [] t
front-none (Ok ts) = refl
front-none (Err e) = refl

tokens-front : (n : ℕ) (ss : List Symbol) (l : List LexemeData)
    → tokens_of n (map token ss ++ l) ≡ with_front ss (tokens_of n l)
unfolding tokens_of
tokens-front n [] l = front-none (unfold tokens_of in tokens_of n l)
tokens-front n (s ∷ ss) l =
    ap (λ (t : Result (List Symbol) TextFault). t >>= (λ ts. Ok (s ∷ ts)))
    (unfold tokens_of in tokens-front n ss l) ∙ front-then s ss (unfold tokens_of in tokens_of n l)

-- what a line comes to that begins with such tokens
abbrev hopeless_end : ℕ → Result (List Symbol) TextFault → Result PlainProgram TextFault
hopeless_end n (Ok ts) = Err (BadLine n)
hopeless_end n (Err e) = Err e

hopeless-by : (last : ℕ) (r : Progress) (n : ℕ) (ss : List Symbol) (ls : List (List LexemeData))
    (t : Result (List Symbol) TextFault) → begins_no_line ss ≡ true
    → (with_front ss t >>= (λ ts. after_line n last r ts
    >>= (λ s. program_of_lines last s (n + 1) ls)))
    ≡ hopeless_end n t
hopeless-by last r n ss ls (Err e) h = refl
hopeless-by last r n ss ls (Ok ts) h =
    ap (λ (x : Result Progress TextFault). x >>= (λ s. program_of_lines last s (n + 1) ls))
    (hopeless-line last r n ss ts h)

hopeless-reads : (last : ℕ) (r : Progress) (n : ℕ) (ss : List Symbol) (l : List LexemeData)
    (ls : List (List LexemeData)) → begins_no_line ss ≡ true
    → program_of_lines last r n ((map token ss ++ l) ∷ ls) ≡ hopeless_end n (tokens_of n l)
unfolding program_of_lines
hopeless-reads last r n ss l ls h =
    ap (λ (t : Result (List Symbol) TextFault). t
    >>= (λ ts. after_line n last r ts >>= (λ s. program_of_lines last s (n + 1) ls)))
    (tokens-front n ss l)
    ∙ (unfold program_of_lines in hopeless-by last r n ss ls (tokens_of n l) h)

hopeless-more : (ss : List Symbol) (s : Symbol) → begins_no_line ss ≡ true
    → begins_no_line (ss ++ s ∷ []) ≡ true
hopeless-more [] s h = absurd (false≢true h)
hopeless-more (a ∷ []) s h = absurd (false≢true h)
hopeless-more (a ∷ b ∷ ss) s h = h

onto-none : (s : Symbol) (ss : List Symbol) → onto_all (s ∷ ss) [] ≡ map token (s ∷ ss) ∷ []
onto-none s [] = refl
onto-none s (t ∷ ss) = ap (prepend_lexeme (token s)) (onto-none t ss)

hopeless-empty : (last : ℕ) (r : Progress) (n : ℕ) (ss : List Symbol) (s : Symbol)
    → begins_no_line ss ≡ true → program_of_lines last r n (onto_all (ss ++ s ∷ []) [])
    ≡ program_of_lines last r n (onto_all ss [])
hopeless-empty last r n [] s h = absurd (false≢true h)
hopeless-empty last r n (a ∷ ss) s h =
    ap (program_of_lines last r n) (onto-none a (ss ++ s ∷ [])
    ∙ ap (λ (l : List LexemeData). l ∷ []) (sym (append-nil (map token (a ∷ (ss ++ s ∷ []))))))
    ∙ hopeless-reads last r n (a ∷ (ss ++ s ∷ [])) [] [] (hopeless-more (a ∷ ss) s h)
    ∙ sym (hopeless-reads last r n (a ∷ ss) [] [] h)
    ∙ ap (program_of_lines last r n) (sym
    (onto-none a ss ∙ ap (λ (l : List LexemeData). l ∷ []) (sym (append-nil (map token (a ∷ ss))))))

hopeless-lines : (last : ℕ) (r : Progress) (n : ℕ) (ss : List Symbol) (s : Symbol)
    (ls : List (List LexemeData)) → begins_no_line ss ≡ true
    → program_of_lines last r n (onto_all (ss ++ s ∷ []) ls)
    ≡ program_of_lines last r n (onto_all ss ls)
hopeless-lines last r n ss s [] h = hopeless-empty last r n ss s h
hopeless-lines last r n ss s (l ∷ ls) h =
    ap (program_of_lines last r n) (onto-line (ss ++ s ∷ []) l ls)
    ∙ hopeless-reads last r n (ss ++ s ∷ []) l ls (hopeless-more ss s h)
    ∙ sym (hopeless-reads last r n ss l ls h)
    ∙ ap (program_of_lines last r n) (sym (onto-line ss l ls))

-- a token behind such tokens makes no difference
read-dropped : (last : ℕ) (r : Progress) (n : ℕ) (ss : List Symbol) (s : Symbol)
    (ps : List LexemeData)
    → begins_no_line ss ≡ true → read_on last r n ss (token s ∷ ps) ≡ read_on last r n ss ps
unfolding read_on
read-dropped last r n ss s ps h =
    (unfold read_on in read-token last r n ss s ps)
    ∙ ap (program_of_lines last r n) (lines-onto (ss ++ s ∷ []) ps)
    ∙ hopeless-lines last r n ss s (lines ps) h
    ∙ sym (ap (program_of_lines last r n) (lines-onto ss ps))

pub step-dropped : (last : ℕ) (r : Progress) (n : ℕ) (ss : List Symbol) (bs : List ℕ) (s e : ℕ)
    (t : Symbol) → begins_no_line ss ≡ true → IsFirstLexeme bs s e
    → lexeme_of (slice_range bs s e) ≡ token t
    → read_on last r n ss (text_lexemes false (drop s bs))
    ≡ read_on last r n ss (text_lexemes false (drop e bs))
step-dropped last r n ss bs s e t d h k =
    rw (cut-piece bs s e h, k) (read-dropped last r n ss t _ d)

pub step-bad : (last : ℕ) (r : Progress) (n : ℕ) (ss : List Symbol) (bs : List ℕ) (s e : ℕ)
    → IsFirstLexeme bs s e → lexeme_of (slice_range bs s e) ≡ bad_token
    → read_on last r n ss (text_lexemes false (drop s bs)) ≡ Err (BadToken n)
step-bad last r n ss bs s e h k = rw (cut-piece bs s e h, k) (read-bad last r n ss _)

pub step-bad-literal : (last : ℕ) (r : Progress) (n : ℕ) (ss : List Symbol) (bs : List ℕ) (s e : ℕ)
    → IsFirstLexeme bs s e → lexeme_of (slice_range bs s e) ≡ bad_literal
    → read_on last r n ss (text_lexemes false (drop s bs)) ≡ Err (BadLiteral n)
step-bad-literal last r n ss bs s e h k =
    rw (cut-piece bs s e h, k) (read-bad-literal last r n ss _)

pub step-line-end : (last : ℕ) (r : Progress) (n : ℕ) (ss : List Symbol) (bs : List ℕ) (s e : ℕ)
    → IsFirstLexeme bs s e → lexeme_of (slice_range bs s e) ≡ line_end
    → read_on last r n ss (text_lexemes false (drop s bs))
    ≡ (after_line n last r ss >>= (λ q. read_on last q (n + 1) [] (text_lexemes false (drop e bs))))
step-line-end last r n ss bs s e h k = rw (cut-piece bs s e h, k) (read-line-end last r n ss _)

pub step-opening : (last : ℕ) (r : Progress) (n : ℕ) (ss : List Symbol) (bs : List ℕ) (s : ℕ)
    → opens_comment (drop s bs) ≡ true → ends_later (drop (s + 2) bs) ≡ true
    → read_on last r n ss (text_lexemes false (drop s bs))
    ≡ read_on last r n ss (text_lexemes true (drop (s + 2) bs))
step-opening last r n ss bs s h k =
    rw (cut-opening bs s h k) (read-blank last r n ss _ ∙ read-blank last r n ss _)

pub step-unclosed : (last : ℕ) (r : Progress) (n : ℕ) (ss : List Symbol) (bs : List ℕ) (s : ℕ)
    → opens_comment (drop s bs) ≡ true → ends_later (drop (s + 2) bs) ≡ false
    → read_on last r n ss (text_lexemes false (drop s bs)) ≡ Err (BadToken n)
step-unclosed last r n ss bs s h k = rw (cut-unclosed bs s h k) (read-bad last r n ss _)

pub step-closing : (last : ℕ) (r : Progress) (n : ℕ) (ss : List Symbol) (bs : List ℕ) (s : ℕ)
    → ends_comment (drop s bs) ≡ true
    → read_on last r n ss (text_lexemes true (drop s bs))
    ≡ read_on last r n ss (text_lexemes false (drop (s + 2) bs))
step-closing last r n ss bs s h =
    rw (cut-closing bs s h) (read-blank last r n ss _ ∙ read-blank last r n ss _)

pub step-inside : (last : ℕ) (r : Progress) (n : ℕ) (ss : List Symbol) (bs : List ℕ) (s : ℕ)
    → s < length bs → ends_comment (drop s bs) ≡ false → slice_index bs s ≢ 10
    → read_on last r n ss (text_lexemes true (drop s bs))
    ≡ read_on last r n ss (text_lexemes true (drop (s + 1) bs))
step-inside last r n ss bs s w h e = rw (cut-inside-other bs s w h e) (read-blank last r n ss _)

pub step-inside-end : (last : ℕ) (r : Progress) (n : ℕ) (ss : List Symbol) (bs : List ℕ) (s : ℕ)
    → s < length bs → ends_comment (drop s bs) ≡ false → slice_index bs s ≡ 10
    → read_on last r n ss (text_lexemes true (drop s bs))
    ≡ (after_line n last r ss
    >>= (λ q. read_on last q (n + 1) [] (text_lexemes true (drop (s + 1) bs))))
step-inside-end last r n ss bs s w h e =
    rw (cut-inside-end bs s w h e) (read-line-end last r n ss _)

pub ruleset step_rules = (front_of)

pub ruleset piece_rules =
    (step-blank, step-token, step-dropped, step-bad, step-bad-literal, step-line-end, map-append)

pub ruleset opening_rules = (step-opening, step-unclosed, opens-within)

pub ruleset comment_rules = (step-closing, step-inside, step-inside-end, ends-within)

pub step-ended : (last : ℕ) (r : Progress) (n : ℕ) (ss : List Symbol) (bs : List ℕ) (b : Bool)
    (s e : ℕ)
    → b ≡ false → IsFirstLexeme bs s e → line_end ≡ lexeme_of (slice_range bs s e)
    → read_on last r n ss (text_lexemes b (drop s bs))
    ≡ (after_line n last r ss >>= (λ q. read_on last q (n + 1) [] (text_lexemes b (drop e bs))))
step-ended last r n ss bs b s e f h k =
    rw f (step-line-end last r n ss bs s e h (sym k))

pub program-start : (text : List ℕ) (last : ℕ) (r : Progress) → last ≡ last_line text
    → r ≡ no_progress
    → read_on last r 1 [] (text_lexemes false (drop 0 text)) ≡ program_of text
unfolding read_on program_of
program-start text last r e f = rw (e, f) refl

pub cut-none : (b : Bool) (bs : List ℕ) (i : ℕ) → length bs ≤ i → text_lexemes b (drop i bs) ≡ []
unfolding text_lexemes without_comments lexemes
cut-none b bs i h = rw (none-left bs i h) refl

pub text-end : (last : ℕ) (r : Progress) (n : ℕ) (ss : List Symbol) (bs : List ℕ) (b : Bool) (i : ℕ)
    → length bs ≤ i
    → read_on last r n ss (text_lexemes b (drop i bs))
    ≡ (after_line n last r ss >>= (λ s. complete_program last s.draft))
text-end last r n ss bs b i h = rw (cut-none b bs i h) (read-end last r n ss)
