-- Letters in upper case: pieces.
use Rattle.std.proofs.Common.{arith}
use Rattle.std.proofs.lemmas.Grind.{common_steps}
use Rattle.std.proofs.Common.{◌≡◌, ℕ, suc, zero, ◌||◌, Bool, true, false, cond, List, [], ◌∷◌, Option, Some, None, Result, Ok, Err, option_map, map, length, slice_index, eqb, ltb, leb, refl, sym, ap, ◌∙◌, lit<}
use Rattle.std.specs.List.{list_all}
use Rattle.std.specs.Str.{bytes_eq}
use Rattle.std.proofs.lemmas.Bool.{ltb-true}
use Rattle.il_text.proofs.CutLemmas.{and-left, and-right}
use Rattle.il_text.specs.Characters.{is_blank, is_sign, is_word, begins_word, begins_name, are_linked}
use Rattle.il_text.specs.Literals.{split_at_hash, prefixed_literal, decimal, plain_literal}
use Rattle.bay_base.proofs.WordLemmas.{reserved-upper}
use Rattle.il_text.specs.Words.{symbol_of_word, reserved_symbol}
use Rattle.il_text.specs.Lexemes.{opens_comment, ends_comment, ends_later, without_comments, blank_of, joins_lexeme, join, lexemes}
use Rattle.il_text.specs.Places.{last_line}
use Rattle.il_text.specs.Symbols.{literal_lexeme, name_or_reserved, plain_word, word, mark_of, mark_lexeme, is_line_end, lexeme_of, text_lexemes}
use Rattle.il_text.specs.Tokens.{Symbol, name, keyword_word, type_word, literal, mnemonic_word, mark_symbol, LexemeData, blank, line_end, token, bad_token, bad_literal}
use Rattle.bay_base.specs.Words.{reserved_of}
use Rattle.bay_base.specs.declared.words.ReservedWord.{ReservedWord}
use Rattle.il_text.specs.declared.literal.LiteralFault.{LiteralFault}
use Rattle.il_text.specs.declared.literal.LiteralFault.TheVariants.{Malformed, OutOfRange}
use Rattle.il_text.specs.declared.program.Literal.{Literal}
use Rattle.il_text.proofs.CaseLemmas.{cond-up, up, up-eqb, up-underscore, up-digit, up-alphabetic, up-alphanumeric, same-up, length-up, halves-up, decimal-up, prefixed-up}

abbrev pub upper_symbol : Symbol → Symbol
upper_symbol (name n) = name (map up n)
upper_symbol (keyword_word w) = keyword_word w
upper_symbol (type_word k) = type_word k
upper_symbol (literal v) = literal v
upper_symbol (mnemonic_word m) = mnemonic_word m
upper_symbol (mark_symbol m) = mark_symbol m

abbrev pub upper_piece : LexemeData → LexemeData
upper_piece blank = blank
upper_piece line_end = line_end
upper_piece (token s) = token (upper_symbol s)
upper_piece bad_token = bad_token
upper_piece bad_literal = bad_literal

sign-up : (x : ℕ) → is_sign (up x) ≡ is_sign x
sign-up x = rw (up-eqb x 43 (lit< tt), up-eqb x 45 (lit< tt)) refl

word-up : (x : ℕ) → is_word (up x) ≡ is_word x
word-up x = rw (up-alphanumeric x, up-underscore x, up-eqb x 35 (lit< tt)) refl

blank-up : (x : ℕ) → is_blank (up x) ≡ is_blank x
blank-up x = rw (up-eqb x 32 (lit< tt), up-eqb x 9 (lit< tt)) refl

begins_word-up : (x : ℕ) → begins_word (up x) ≡ begins_word x
begins_word-up x = rw (word-up x, sign-up x) refl

begins_name-up : (x : ℕ) → begins_name (up x) ≡ begins_name x
begins_name-up x = rw (up-alphabetic x, up-underscore x) refl

linked-up : (x y : ℕ) → are_linked (up x) (up y) ≡ are_linked x y
unfolding are_linked
linked-up x y =
    rw (
      word-up y,
      word-up x,
      sign-up y,
      sign-up x,
      up-digit y,
      up-eqb x 35 (lit< tt),
      up-eqb y 61 (lit< tt),
      up-eqb x 58 (lit< tt),
      up-eqb y 10 (lit< tt),
      up-eqb x 13 (lit< tt),
    )
    refl

pub index-up : (xs : List ℕ) (k : ℕ) → slice_index (map up xs) k ≡ up (slice_index xs k)
index-up [] k = refl
index-up (x ∷ xs) zero = refl
index-up (x ∷ xs) (suc k) = index-up xs k

joins-up : (x : ℕ) (p : List ℕ) → joins_lexeme (up x) (map up p) ≡ joins_lexeme x p
unfolding joins_lexeme
joins-up x p =
    rw (index-up p 0, linked-up x (slice_index p 0), up-eqb x 38 (lit< tt), same-up p (78 ∷ []))
    refl

join-up : (x : ℕ) (ps : List (List ℕ)) → join (up x) (map (map up) ps) ≡ map (map up) (join x ps)
join-up x [] = refl
join-up x (p ∷ ps) =
    rw (joins-up x p)
    (cond-up (map (map up)) (joins_lexeme x p) ((x ∷ p) ∷ ps) ((x ∷ []) ∷ p ∷ ps))

pieces-up : (xs : List ℕ) → lexemes (map up xs) ≡ map (map up) (lexemes xs)
unfolding lexemes
pieces-up [] = refl
pieces-up (x ∷ xs) = ap (join (up x)) (unfold lexemes in pieces-up xs) ∙ join-up x (lexemes xs)

opens-up : (xs : List ℕ) → opens_comment (map up xs) ≡ opens_comment xs
opens-up xs =
    rw (index-up xs 0, index-up xs 1, up-eqb _ 40 (lit< tt), up-eqb _ 42 (lit< tt)) refl

ends-up : (xs : List ℕ) → ends_comment (map up xs) ≡ ends_comment xs
ends-up xs =
    rw (index-up xs 0, index-up xs 1, up-eqb _ 42 (lit< tt), up-eqb _ 41 (lit< tt)) refl

closes-up : (xs : List ℕ) → ends_later (map up xs) ≡ ends_later xs
unfolding ends_later
closes-up [] = refl
closes-up (x ∷ xs) =
    let rest : ends_later (map up xs) ≡ ends_later xs = unfold ends_later in closes-up xs in
    ap (λ (b : Bool). b || ends_later (map up xs)) (ends-up (x ∷ xs))
    ∙ ap (λ (b : Bool). ends_comment (x ∷ xs) || b) rest

blank_of-up : (x : ℕ) → blank_of (up x) ≡ up (blank_of x)
blank_of-up x = rw (up-eqb x 10 (lit< tt)) (cond-up up (eqb x 10) 10 32)

blanked-up : (b : Bool) (xs : List ℕ)
    → without_comments b (map up xs) ≡ map up (without_comments b xs)
unfolding without_comments
blanked-up b [] = refl
blanked-up true (x ∷ []) = ap (λ (c : ℕ). c ∷ []) (blank_of-up x)
blanked-up false (x ∷ []) = refl
blanked-up true (x ∷ y ∷ xs) =
    let outside : without_comments false (map up xs) ≡ map up (without_comments false xs) =
    unfold without_comments in blanked-up false xs in
    let inside : without_comments true (up y ∷ map up xs)
    ≡ map up (without_comments true (y ∷ xs)) =
    unfold without_comments in blanked-up true (y ∷ xs) in
    ap (λ (b : Bool). cond b (32 ∷ 32 ∷ without_comments false (map up xs))
    (blank_of (up x) ∷ without_comments true (up y ∷ map up xs))) (ends-up (x ∷ y ∷ xs))
    ∙ rw (outside, inside, blank_of-up x)
    (cond-up (map up) (ends_comment (x ∷ y ∷ xs)) (32 ∷ 32 ∷ without_comments false xs)
    (blank_of x ∷ without_comments true (y ∷ xs)))
blanked-up false (x ∷ y ∷ xs) =
    let inside : without_comments true (map up xs) ≡ map up (without_comments true xs) =
    unfold without_comments in blanked-up true xs in
    let outside : without_comments false (up y ∷ map up xs)
    ≡ map up (without_comments false (y ∷ xs)) =
    unfold without_comments in blanked-up false (y ∷ xs) in
    ap (λ (b : Bool). cond b
    (cond (ends_later (map up xs)) 32 256 ∷ 32 ∷ without_comments true (map up xs))
    (up x ∷ without_comments false (up y ∷ map up xs))) (opens-up (x ∷ y ∷ xs))
    ∙ rw (outside, inside, closes-up xs)
    (ap (λ (c : ℕ). cond (opens_comment (x ∷ y ∷ xs)) (c ∷ 32 ∷ map up (without_comments true xs))
    (up x ∷ map up (without_comments false (y ∷ xs)))) (cond-up up (ends_later xs) 32 256)
    ∙ cond-up (map up) (opens_comment (x ∷ y ∷ xs))
    (cond (ends_later xs) 32 256 ∷ 32 ∷ without_comments true xs)
    (x ∷ without_comments false (y ∷ xs)))

pub last_line-up : (xs : List ℕ) → last_line (map up xs) ≡ last_line xs
unfolding last_line
last_line-up [] = refl
last_line-up (x ∷ xs) =
    let rest : last_line (map up xs) ≡ last_line xs = unfold last_line in last_line-up xs in
    rw (up-eqb x 10 (lit< tt), length-up xs, rest) refl

-- a spelling without letters
plain-up : (p ks : List ℕ) → list_all (λ k. ltb k 65) ks ≡ true
    → bytes_eq (map up p) ks ≡ bytes_eq p ks
plain-up (x ∷ p) (k ∷ ks) h =
    let rest : bytes_eq (map up p) ks ≡ bytes_eq p ks = plain-up p ks (and-right (ltb k 65) _ h) in
    rw (up-eqb x k (ltb-true k 65 (and-left (ltb k 65) _ h)), rest) refl
plain-up i x h = refl

mark-up : (p : List ℕ) → mark_of (map up p) ≡ mark_of p
unfolding mark_of
mark-up p =
    rw (
      plain-up p (58 ∷ []) refl,
      plain-up p (58 ∷ 61 ∷ []) refl,
      plain-up p (44 ∷ []) refl,
      plain-up p (59 ∷ []) refl,
      plain-up p (46 ∷ []) refl,
      plain-up p (40 ∷ []) refl,
      plain-up p (41 ∷ []) refl,
      plain-up p (38 ∷ []) refl,
      same-up p (38 ∷ 78 ∷ []),
    ) refl

line_end-up : (p : List ℕ) → is_line_end (map up p) ≡ is_line_end p
line_end-up p = rw (plain-up p (10 ∷ []) refl, plain-up p (13 ∷ 10 ∷ []) refl) refl

-- no reserved word is a name
word-cases : (r : ReservedWord) → upper_symbol (symbol_of_word r) ≡ symbol_of_word r
word-cases r = grind (arith, common_steps)

symbols-by : (o : Option ReservedWord)
    → option_map upper_symbol (option_map symbol_of_word o) ≡ option_map symbol_of_word o
symbols-by None = refl
symbols-by (Some r) = ap Some (word-cases r)

reserved-up : (w : List ℕ)
    → reserved_symbol (map up w) ≡ option_map upper_symbol (reserved_symbol w)
unfolding reserved_symbol
reserved-up w = ap (option_map symbol_of_word) (reserved-upper w) ∙ sym (symbols-by (reserved_of w))

literal-up : (r : Result Literal LiteralFault) → literal_lexeme r ≡ upper_piece (literal_lexeme r)
literal-up (Ok v) = refl
literal-up (Err Malformed) = refl
literal-up (Err OutOfRange) = refl

named-by : (w : List ℕ) (o : Option Symbol)
    → name_or_reserved (map up w) (option_map upper_symbol o) ≡ upper_piece (name_or_reserved w o)
named-by w (Some k) = refl
named-by w None =
    rw (length-up w) (cond-up upper_piece (leb (length w) 64) (token (name w)) bad_token)

plain_word-up : (w : List ℕ) → plain_word (map up w) ≡ upper_piece (plain_word w)
unfolding plain_word
plain_word-up w = ap (name_or_reserved (map up w)) (reserved-up w) ∙ named-by w (reserved_symbol w)

word-by : (w : List ℕ) (o : Option (List ℕ × List ℕ)) → split_at_hash w ≡ o → (b : Bool)
    → begins_name (slice_index w 0) ≡ b → word (map up w) ≡ upper_piece (word w)
unfolding word
word-by w (Some h) e b f =
    rw (halves-up w, e, prefixed-up h.0 h.1) (literal-up (prefixed_literal h.0 h.1))
word-by w None e true f =
    rw (halves-up w, e, index-up w 0, begins_name-up (slice_index w 0), f) (plain_word-up w)
word-by w None e false f =
    rw (halves-up w, e, index-up w 0, begins_name-up (slice_index w 0), f, decimal-up w)
    (literal-up (plain_literal (decimal w)))

-- no mark is a name
mark_piece-up : (p : List ℕ)
    → mark_lexeme (mark_of (map up p)) ≡ upper_piece (mark_lexeme (mark_of p))
mark_piece-up p = rw (mark-up p) (unfold mark_of in grind (arith, common_steps))

piece-up : (p : List ℕ) → lexeme_of (map up p) ≡ upper_piece (lexeme_of p)
unfolding lexeme_of
piece-up p =
    rw (
      index-up p 0,
      blank-up (slice_index p 0),
      line_end-up p,
      begins_word-up (slice_index p 0),
      word-by p _ refl _ refl,
      mark_piece-up p,
    )
    (ap (cond (is_blank (slice_index p 0)) blank)
    (ap (cond (is_line_end p) line_end)
    (cond-up upper_piece (begins_word (slice_index p 0)) (word p) (mark_lexeme (mark_of p)))
    ∙ cond-up upper_piece (is_line_end p) line_end _)
    ∙ cond-up upper_piece (is_blank (slice_index p 0)) blank _)

pieces-map : (ps : List (List ℕ))
    → map lexeme_of (map (map up) ps) ≡ map upper_piece (map lexeme_of ps)
pieces-map [] = refl
pieces-map (p ∷ ps) = rw (piece-up p, pieces-map ps) refl

pub cut-up : (text : List ℕ)
    → text_lexemes false (map up text) ≡ map upper_piece (text_lexemes false text)
unfolding text_lexemes
cut-up text =
    ap (λ (l : List ℕ). map lexeme_of (lexemes l)) (blanked-up false text)
    ∙ ap (map lexeme_of) (pieces-up (without_comments false text))
    ∙ pieces-map (lexemes (without_comments false text))
