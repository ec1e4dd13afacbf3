-- The names of what a program declares are words.
use Rattle.std.proofs.Common.{◌≡◌, ◌<◌, ◌+◌, ◌⊎◌, inl, inr, ℕ, Bool, true, false, ◌&&◌, ◌||◌, cond, nat_le, nat_lt, nat_eq, List, [], ◌∷◌, ◌++◌, length, map, slice_index, codes, Option, Some, None, option_map, Result, Ok, Err, refl, sym, subst, arith}
use Rattle.std.proofs.lemmas.Bool.{and_parts, or_parts}
use Rattle.std.proofs.lemmas.Bool.Decides.{nat_tests}
use Rattle.std.proofs.lemmas.Grind.{common_steps}
use Rattle.bay_base.specs.Words.{reserved_of}
use Rattle.bay_base.specs.declared.words.ReservedWord.{ReservedWord}
use Rattle.il_text.specs.declared.program.Operator.{Operator}
use Rattle.il_text.specs.declared.program.Operator.TheVariants.{And}
use Rattle.il_text.specs.declared.token.Keyword.TheVariants as keyword
use Rattle.il_text.specs.declared.token.Mark.TheVariants as mark
use Rattle.il_text.specs.declared.token.Mnemonic.{Mnemonic}
use Rattle.il_text.specs.declared.token.Mnemonic.TheVariants as mnemonic
use Rattle.il_text.specs.declared.token.Mnemonic.TheVariants.{Combine}
use Rattle.il_text.proofs.GrammarLemmas.{flat-one}
use Rattle.il_text.proofs.LexemeLemmas.{word-name, word-number, word-some}
use Rattle.std.specs.List.{flat_map, list_all, list_any, position_or_len}
use Rattle.std.specs.Str.{is_utf8}
use Rattle.bay_base.specs.Names.{same_name}
use Rattle.bay_base.specs.Results.{◌>>=◌}
use Rattle.bay_config.specs.Key.{is_name_character}
use Rattle.bay_load.specs.Loads.{declarations_of, declared_in, parsed_program}
use Rattle.bay_load.specs.Names.{NamesData, timer_in, timer_names, variable_in, variable_names}
use Rattle.bay_load.specs.declared.load.Form.{Form}
use Rattle.bay_load.specs.declared.load.Form.TheVariants.{Logic, Image}
use Rattle.bay_load.proofs.LoadLemmas.{load-made}
use Rattle.il_image.specs.Images.{Each, HasName, is_name_octet}
use Rattle.il_image.specs.declared.image.ImagePoint.{ImagePoint}
use Rattle.il_text.specs.Characters.{are_linked, begins_name, begins_word, is_blank, is_word}
use Rattle.il_text.specs.Forms.{only_action, declaration, instruction, keyword_line, label_parts, named_line, operator_parts, other_line, parenthesis, parts_of, statement, whole_line}
use Rattle.il_text.specs.Grammar.{Block, Declaration, Derives, Numbered, block_declared, block_parts, declaration_part, names_declared}
use Rattle.il_text.specs.Listing.{Action, DeclaredName, PlainProgram}
use Rattle.il_text.specs.Literals.{split_at_hash, is_hash}
use Rattle.il_text.specs.Parts.{LineContent, names_part}
use Rattle.il_text.specs.Lexemes.{join, joins_lexeme, lexemes, without_comments}
use Rattle.il_text.specs.Places.{last_line}
use Rattle.il_text.specs.Reading.{lines, prepend_lexeme, program_of, tokens_of}
use Rattle.il_text.specs.Symbols.{is_line_end, literal_lexeme, mark_of, mark_lexeme, name_or_reserved, lexeme_of, text_lexemes, plain_word, word}
use Rattle.il_text.specs.Texts.{AreAllowed, ReadsParts, ReadsTokens, ReadsLines, ReadsAs, IsFaultyLine, TextLine, all_parts, numbered_parts}
use Rattle.il_text.specs.TokenForms.{Form as LineForm, no_token, spelled_names}
use Rattle.il_text.specs.Tokens.{Symbol, name, keyword_word, mnemonic_word, mark_symbol, LexemeData, blank, line_end, token, bad_token, bad_literal}
use Rattle.il_text.specs.Words.{reserved_symbol, symbol_of_word}
use Rattle.il_text.specs.declared.literal.LiteralFault.{LiteralFault}
use Rattle.il_text.specs.declared.literal.LiteralFault.TheVariants.{Malformed, OutOfRange}
use Rattle.il_text.specs.declared.fault.TextFault.{TextFault}
use Rattle.il_text.specs.declared.fault.TextFault.TheVariants.{BadToken}
use Rattle.il_text.specs.declared.program.DeclaredType.{DeclaredType}
use Rattle.il_text.specs.declared.program.DeclaredType.TheVariants.{Elementary, Timer}
use Rattle.il_text.specs.declared.program.Literal.{Literal}
use Rattle.il_text.specs.declared.program.VariableScope.{VariableScope}
use Rattle.il_text.specs.declared.program.VariableScope.TheVariants.{Local, External}
use Rattle.il_text.proofs.LineLemmas.{lines_are_produced}
use Rattle.il_text.proofs.UniqueLemmas.{program_is_read}
use Rattle.cmd_audit.specs.Names.{IsWord, NamesAreWords}

-- ---- lists

pub each-append : {A : Type 0} (P : A → Type 0) (xs ys : List A) → Each P xs → Each P ys
    → Each P (xs ++ ys)
each-append P [] ys all more = more
each-append P (x ∷ xs) ys all more = (all.0, each-append P xs ys all.1 more)

each-left : {A : Type 0} (P : A → Type 0) (xs ys : List A) → Each P (xs ++ ys) → Each P xs
each-left P [] ys all = tt
each-left P (x ∷ xs) ys all = (all.0, each-left P xs ys all.1)

each-right : {A : Type 0} (P : A → Type 0) (xs ys : List A) → Each P (xs ++ ys) → Each P ys
each-right P [] ys all = all
each-right P (x ∷ xs) ys all = each-right P xs ys all.1

either : {A : Type 0} (P : A → Type 0) (b : Bool) {x y : A} → P x → P y → P (cond b x y)
either P true p q = p
either P false p q = q

-- ---- pieces

-- a piece that begins as a word and has no `#` is a word
abbrev Whole : List ℕ → Type 0
Whole p = is_word (slice_index p 0) ≡ true → list_any is_hash p ≡ false → IsWord p

word-character : (x : ℕ) → is_word x ≡ true → is_hash x ≡ false → is_name_character x ≡ true
word-character x is hash = grind (arith, nat_tests)

linked-word : (x y : ℕ) (b : Bool) → is_word x ≡ true → is_hash x ≡ false
    → (are_linked x y || (nat_eq x 38 && b)) ≡ true → is_word y ≡ true
unfolding are_linked
linked-word x y b is hash joined = grind (arith, nat_tests)

name-begins : (x : ℕ) → begins_name x ≡ true → is_word x ≡ true
name-begins x is = grind (arith, nat_tests)

whole-one : (x : ℕ) → Whole (x ∷ [])
whole-one x is hash = let two =
    or_parts (is_hash x) false hash in rw (word-character x is two.0) refl

whole-more : (x : ℕ) (p : List ℕ) → joins_lexeme x p ≡ true → Whole p → Whole (x ∷ p)
unfolding joins_lexeme
whole-more x p joined whole is hash =
    let two = or_parts (is_hash x) (list_any is_hash p) hash in
    rw (
      word-character x is two.0,
      whole (linked-word x (slice_index p 0) (same_name p (codes "N")) is two.0 joined) two.1,
    ) refl

whole-join : (x : ℕ) (ps : List (List ℕ)) → Each Whole ps → Each Whole (join x ps)
whole-join x [] all = (whole-one x, tt)
whole-join x (p ∷ ps) all = by-test (joins_lexeme x p) refl
  where
    by-test : (b : Bool) → joins_lexeme x p ≡ b
        → Each Whole (cond b ((x ∷ p) ∷ ps) ((x ∷ []) ∷ p ∷ ps))
    by-test true joined = (whole-more x p joined all.0, all.1)
    by-test false apart = (whole-one x, all)

whole-pieces : (text : List ℕ) → Each Whole (lexemes text)
unfolding lexemes
whole-pieces [] = tt
whole-pieces (x ∷ text) = whole-join x (lexemes text) (whole-pieces text)

-- ---- tokens

-- a token that is a name is a word
abbrev IsNamed : Symbol → Type 0
IsNamed (name n) = IsWord n
IsNamed other = Unit {0}

abbrev IsPieceNamed : LexemeData → Type 0
IsPieceNamed (token s) = IsNamed s
IsPieceNamed other = Unit {0}

IsMaybe : Option Symbol → Type 0
IsMaybe o = IsPieceNamed (mark_lexeme o)

no-mark : IsMaybe None
unfolding IsMaybe
no-mark = tt

mark-or : (b : Bool) (s : Symbol) (o : Option Symbol) → IsNamed s → IsMaybe o
    → IsMaybe (cond b (Some s) o)
unfolding IsMaybe
mark-or true s o is rest = is
mark-or false s o is rest = rest

mark-named : (p : List ℕ) → IsMaybe (mark_of p)
unfolding mark_of
mark-named p =
    mark-or _ (mark_symbol mark.Colon) _ tt (mark-or _ (mark_symbol mark.Assign) _ tt
    (mark-or _ (mark_symbol mark.Comma) _ tt (mark-or _ (mark_symbol mark.Semicolon) _ tt
    (mark-or _ (mark_symbol mark.Dot) _ tt (mark-or _ (mark_symbol mark.Open) _ tt
    (mark-or _ (mark_symbol mark.Close) _ tt
    (mark-or _ (mnemonic_word (Combine And false)) _ tt
    (mark-or _ (mnemonic_word (Combine And true)) _ tt no-mark))))))))

literal-named : (r : Result Literal LiteralFault) → IsPieceNamed (literal_lexeme r)
literal-named (Ok value) = tt
literal-named (Err Malformed) = tt
literal-named (Err OutOfRange) = tt

hash-place : (w : List ℕ) → list_any is_hash w ≡ true → position_or_len is_hash w < length w
hash-place [] any = absurd cc
hash-place (x ∷ w) any = by-test (is_hash x) refl (λ more. hash-place w more)
  where
    by-test : (b : Bool) → is_hash x ≡ b
        → (list_any is_hash w ≡ true → position_or_len is_hash w < length w)
        → position_or_len is_hash (x ∷ w) < length (x ∷ w)
    by-test true is again = rw is (omega arith)
    by-test false not again =
        let more : position_or_len is_hash w < length w = again (rw not at any) in
        rw not (omega (arith, more))

no-hash : (w : List ℕ) → split_at_hash w ≡ None → list_any is_hash w ≡ false
unfolding split_at_hash
no-hash w none = by-test (list_any is_hash w) refl
  where
    by-test : (b : Bool) → list_any is_hash w ≡ b → b ≡ false
    by-test false not = refl
    by-test true is =
        let within : nat_lt (position_or_len is_hash w) (length w) ≡ true =
        (let h = hash-place w is in grind (arith, nat_tests, h)) in
        absurd (let bad = rw within at none in cc)

no-name : (r : ReservedWord) → IsNamed (symbol_of_word r) ≡ Unit {0}
no-name r = grind (arith, common_steps)

reserved-named : (w : List ℕ) → IsWord w → IsPieceNamed (plain_word w)
unfolding plain_word reserved_symbol
reserved-named w named = by-word (reserved_of w)
  where
    by-word : (o : Option ReservedWord)
        → IsPieceNamed (name_or_reserved w (option_map symbol_of_word o))
    by-word None = either IsPieceNamed (nat_le (length w) 64) named tt
    by-word (Some r) = rw (no-name r) tt

word-named : (p : List ℕ) → Whole p → begins_word (slice_index p 0) ≡ true → IsPieceNamed (word p)
word-named p whole begins = by-halves (split_at_hash p) refl
  where
    by-first : (b : Bool) → split_at_hash p ≡ None → begins_name (slice_index p 0) ≡ b
        → IsPieceNamed (word p)
    by-first true none is =
        rw (word-name p none is)
        (reserved-named p (whole (name-begins (slice_index p 0) is) (no-hash p none)))
    by-first false none not = rw (word-number p none not) (literal-named _)

    by-halves : (o : Option (List ℕ × List ℕ)) → split_at_hash p ≡ o → IsPieceNamed (word p)
    by-halves None none = by-first (begins_name (slice_index p 0)) none refl
    by-halves (Some h) is = rw (word-some p h (sym is)) (literal-named _)

piece-named : (p : List ℕ) → Whole p → IsPieceNamed (lexeme_of p)
unfolding lexeme_of IsMaybe
piece-named p whole =
    either IsPieceNamed (is_blank (slice_index p 0)) tt
    (either IsPieceNamed (is_line_end p) tt (by-first (begins_word (slice_index p 0)) refl))
  where
    by-first : (b : Bool) → begins_word (slice_index p 0) ≡ b
        → IsPieceNamed (cond b (word p) (mark_lexeme (mark_of p)))
    by-first true is = word-named p whole is
    by-first false not = mark-named p

pieces-named : (ps : List (List ℕ)) → Each Whole ps → Each IsPieceNamed (map lexeme_of ps)
pieces-named [] all = tt
pieces-named (p ∷ ps) all = (piece-named p all.0, pieces-named ps all.1)

-- ---- lines

onto-named : (p : LexemeData) (ls : List (List LexemeData)) → IsPieceNamed p
    → Each (Each IsPieceNamed) ls
    → Each (Each IsPieceNamed) (prepend_lexeme p ls)
onto-named p [] is all = ((is, tt), tt)
onto-named p (l ∷ ls) is all = ((is, all.0), all.1)

lines-named : (ps : List LexemeData) → Each IsPieceNamed ps → Each (Each IsPieceNamed) (lines ps)
unfolding lines
lines-named [] all = (tt, tt)
lines-named (blank ∷ ps) all = lines-named ps all.1
lines-named (line_end ∷ ps) all = (tt, lines-named ps all.1)
lines-named (token s ∷ ps) all = onto-named (token s) (lines ps) all.0 (lines-named ps all.1)
lines-named (bad_token ∷ ps) all = onto-named bad_token (lines ps) tt (lines-named ps all.1)
lines-named (bad_literal ∷ ps) all = onto-named bad_literal (lines ps) tt (lines-named ps all.1)

abbrev AreNamed : Result (List Symbol) TextFault → Type 0
AreNamed (Ok ts) = Each IsNamed ts
AreNamed (Err fault) = Unit {0}

token-first : (s : Symbol) (r : Result (List Symbol) TextFault) → IsNamed s → AreNamed r
    → AreNamed (r >>= (λ ss. Ok (s ∷ ss)))
token-first s (Ok ts) is all = (is, all)
token-first s (Err fault) is all = tt

tokens-named : (line : ℕ) (l : List LexemeData) → Each IsPieceNamed l → AreNamed (tokens_of line l)
unfolding tokens_of
tokens-named line [] all = tt
tokens-named line (blank ∷ ps) all = tokens-named line ps all.1
tokens-named line (line_end ∷ ps) all = tokens-named line ps all.1
tokens-named line (token s ∷ ps) all =
    token-first s (tokens_of line ps) all.0 (tokens-named line ps all.1)
tokens-named line (bad_token ∷ ps) all = tt
tokens-named line (bad_literal ∷ ps) all = tt

-- ---- parts

abbrev IsPartNamed : LineContent → Type 0
IsPartNamed (names_part names kind initial) = Each IsWord names
IsPartNamed other = Unit {0}

spelled-named : (n : List ℕ) (ns : List (List ℕ)) → Each IsNamed (spelled_names n ns)
    → Each IsWord (n ∷ ns)
spelled-named n [] all = all
spelled-named n (m ∷ ns) all = (all.0, spelled-named m ns all.1.1)

declaration-named : (ts : List Symbol) (ps : List LineContent) → Each IsNamed ts
    → declaration.Spells ts ps → Each IsPartNamed ps
unfolding declaration
declaration-named ts ps all s =
    let names = s.1.3 in
    let front = each-left IsNamed s.1.0 _ (rw s.1.2 at all) in
    subst (Each IsPartNamed) s.2
    (subst (Each IsWord) (sym names.2) (spelled-named names.0 names.1 (rw names.3 at front)), tt)

-- the parts of what declares no names
record NamesNone (f : LineForm (List LineContent)) : Type 0 where
  are : (ts : List Symbol) (ps : List LineContent) → f.Spells ts ps → Each IsPartNamed ps

none-of : (ps : List LineContent) → Each IsPartNamed ps → NamesNone (no_token ps)
none-of ps named = record { are = λ ts qs s. subst (Each IsPartNamed) s.1 named }

acts-none : (f : LineForm Action) → NamesNone (only_action f)
acts-none f = record { are = λ ts ps s. subst (Each IsPartNamed) s.2 (tt, tt) }

parenthesis-none : (o : Operator) (n : Bool) → NamesNone (parenthesis o n)
unfolding parenthesis
parenthesis-none o n = record {
  are = λ ts ps s. elim s [
    | inl alone ↦ subst (Each IsPartNamed) alone.1 (tt, tt)
    | inr loads ↦ subst (Each IsPartNamed) loads.2 (tt, (tt, tt))
  ];
}

statement-none : (m : Mnemonic) → NamesNone (statement m)
unfolding statement operator_parts
statement-none (mnemonic.Combine o n) = record {
  are = λ ts ps s. elim s [
    | inl opens ↦ (parenthesis-none o n).are opens.0 ps opens.2
    | inr other ↦ subst (Each IsPartNamed) other.2 (tt, tt)
  ];
}
statement-none mnemonic.Not = none-of _ (tt, tt)
statement-none (mnemonic.Convert c) = none-of _ (tt, tt)
statement-none (mnemonic.Return c) = none-of _ (tt, tt)
statement-none m = acts-none _

label-none : (n : List ℕ) → NamesNone (label_parts n)
unfolding label_parts instruction
label-none n = record {
  are = λ ts ps s. elim s [
    | inl alone ↦ subst (Each IsPartNamed) alone.1 (tt, tt)
    | inr more ↦
        subst (Each IsPartNamed) more.2
        (tt, (statement-none more.1.2).are more.1.1 more.0 more.1.5)
  ];
}

other-none : (s : Symbol) → NamesNone (other_line s)
unfolding other_line keyword_line
other-none (keyword_word keyword.Program) =
    record { are = λ ts ps s. subst (Each IsPartNamed) s.2 (tt, tt) }
other-none (keyword_word w) = none-of _ (tt, tt)
other-none (mnemonic_word m) = statement-none m
other-none (mark_symbol mark.Close) = none-of _ (tt, tt)
other-none s = record { are = λ ts ps s. absurd s }

line-named : (ts : List Symbol) (ps : List LineContent) → Each IsNamed ts → whole_line.Spells ts ps
    → Each IsPartNamed ps
unfolding whole_line named_line
line-named ts ps all s = elim s [
  | inl empty ↦ subst (Each IsPartNamed) empty.1 tt
  | inr more ↦ elim more [
    | inl named ↦ elim named [
      | inl label ↦ (label-none label.2).are label.5.0 ps label.5.2
      | inr declares ↦ declaration-named ts ps all declares
    ]
    | inr other ↦ (other-none other.2).are other.1 ps other.5
  ]
]

abbrev IsNumberedNamed : Numbered → Type 0
IsNumberedNamed p = IsPartNamed p.1

numbered-named : (line : ℕ) (ps : List LineContent) → Each IsPartNamed ps
    → Each IsNumberedNamed (numbered_parts (line, ps))
numbered-named line [] all = tt
numbered-named line (p ∷ ps) all = (all.0, numbered-named line ps all.1)

all-named : (before : List TextLine) (l : TextLine) → Each IsNumberedNamed (all_parts before)
    → Each IsNumberedNamed (numbered_parts l)
    → Each IsNumberedNamed (all_parts (before ++ l ∷ []))
all-named before l all more =
    subst (Each IsNumberedNamed) (sym (flat-one numbered_parts before l))
    (each-append IsNumberedNamed (all_parts before) (numbered_parts l) all more)

-- ---- declarations

abbrev IsDeclaredNamed : DeclaredName → Type 0
IsDeclaredNamed d = IsWord d.name

names-named : (scope : VariableScope) (d : Declaration) (names : List (List ℕ)) → Each IsWord names
    → Each IsDeclaredNamed (map (λ name. record {
      line = d.line;
      scope = scope;
      name = name;
      kind = d.kind;
      initial = d.initial;
    }) names)
names-named scope d [] all = tt
names-named scope d (n ∷ names) all = (all.0, names-named scope d names all.1)

declarations-named : (scope : VariableScope) (ds : List Declaration)
    → Each IsNumberedNamed (map declaration_part ds)
    → Each IsDeclaredNamed (flat_map (names_declared scope) ds)
declarations-named scope [] all = tt
declarations-named scope (d ∷ ds) all =
    each-append IsDeclaredNamed (names_declared scope d) (flat_map (names_declared scope) ds)
    (names-named scope d d.names all.0) (declarations-named scope ds all.1)

blocks-named : (bs : List Block) → Each IsNumberedNamed (flat_map block_parts bs)
    → Each IsDeclaredNamed (flat_map block_declared bs)
blocks-named [] all = tt
blocks-named (b ∷ bs) all =
    let first = each-left IsNumberedNamed (block_parts b) (flat_map block_parts bs) all in
    each-append IsDeclaredNamed (block_declared b) (flat_map block_declared bs)
    (declarations-named b.scope b.declarations
    (each-left IsNumberedNamed (map declaration_part b.declarations) _ first.1))
    (blocks-named bs (each-right IsNumberedNamed (block_parts b) (flat_map block_parts bs) all))

derived-named : (ps : List Numbered) (p : PlainProgram) → Derives ps p → Each IsNumberedNamed ps
    → Each IsDeclaredNamed p.declarations
derived-named ps p d all =
    let parts = subst (Each IsNumberedNamed) d.parts all in
    subst (Each IsDeclaredNamed) (sym d.declared)
    (blocks-named d.blocks (each-left IsNumberedNamed (flat_map block_parts d.blocks) _ parts.1))

-- ---- programs

reads-named : (last : ℕ) (before : List TextLine) (n : ℕ) (ls : List (List LexemeData))
    (p : PlainProgram)
    → Each IsNumberedNamed (all_parts before) → Each (Each IsPieceNamed) ls
    → ReadsLines last before n ls (Ok p) → Each IsDeclaredNamed p.declarations
reads-named last before n [] p all rest derives = derived-named (all_parts before) p derives all
reads-named last before n (l ∷ ls) p all rest reads =
    by-tokens (tokens_of n l) (tokens-named n l rest.0) reads
    (λ ps named more. reads-named last (before ++ (n, ps) ∷ []) (n + 1) ls p
    (all-named before (n, ps) all (numbered-named n ps named)) rest.1 more)
  where
    Goes : List LineContent → Type 0
    Goes ps =
        (AreAllowed (before ++ (n, ps) ∷ [])
        × ReadsLines last (before ++ (n, ps) ∷ []) (n + 1) ls (Ok p))
        ⊎ IsFaultyLine last n (before ++ (n, ps) ∷ []) (Ok p)

    Again : Type 0
    Again =
        (ps : List LineContent) → Each IsPartNamed ps
        → ReadsLines last (before ++ (n, ps) ∷ []) (n + 1) ls (Ok p)
        → Each IsDeclaredNamed p.declarations

    by-turn : (ps : List LineContent) → Each IsPartNamed ps → Goes ps → Again
        → Each IsDeclaredNamed p.declarations
    by-turn ps named (inl goes) again = again ps named goes.1
    by-turn ps named (inr refused) again = absurd refused

    by-parts : (ts : List Symbol) (o : Option (List LineContent)) → parts_of ts ≡ o
        → Each IsNamed ts
        → ReadsParts n Goes o (Ok p) → Again → Each IsDeclaredNamed p.declarations
    by-parts ts None is named reads again = absurd cc
    by-parts ts (Some ps) is named reads again =
        by-turn ps (line-named ts ps named ((lines_are_produced ts ps).1 is)) reads again

    by-tokens : (r : Result (List Symbol) TextFault) → AreNamed r → ReadsTokens n Goes r (Ok p)
        → Again
        → Each IsDeclaredNamed p.declarations
    by-tokens (Ok ts) named reads again = by-parts ts (parts_of ts) refl named reads again
    by-tokens (Err fault) named reads again = absurd cc

program-named : (text : List ℕ) (p : PlainProgram) → program_of text ≡ Ok p
    → Each IsDeclaredNamed p.declarations
unfolding ReadsAs text_lexemes
program-named text p is =
    reads-named (last_line text) [] 1 (lines (text_lexemes false text)) p tt
    (lines-named (map lexeme_of (lexemes (without_comments false text)))
    (pieces-named (lexemes (without_comments false text))
    (whole-pieces (without_comments false text))))
    ((program_is_read text (Ok p)).1 is)

-- ---- what a program keeps

variables-named : (ds : List DeclaredName) → Each IsDeclaredNamed ds
    → Each IsWord (variable_names ds)
variables-named [] all = tt
variables-named (d ∷ ds) all =
    each-append IsWord (variable_in d.scope d.kind d.name) (variable_names ds)
    (by-kind d.scope d.kind) (variables-named ds all.1)
  where
    by-kind : (scope : VariableScope) (kind : DeclaredType)
        → Each IsWord (variable_in scope kind d.name)
    by-kind Local (Elementary type) = (all.0, tt)
    by-kind Local (Timer type) = tt
    by-kind External kind = tt

timers-named : (ds : List DeclaredName) → Each IsDeclaredNamed ds → Each IsWord (timer_names ds)
timers-named [] all = tt
timers-named (d ∷ ds) all =
    each-append IsWord (timer_in d.scope d.kind d.name) (timer_names ds)
    (by-kind d.scope d.kind) (timers-named ds all.1)
  where
    by-kind : (scope : VariableScope) (kind : DeclaredType)
        → Each IsWord (timer_in scope kind d.name)
    by-kind Local (Elementary type) = tt
    by-kind Local (Timer type) = (all.0, tt)
    by-kind External kind = tt

name-octet : (x : ℕ) → is_name_octet x ≡ true → is_name_character x ≡ true
name-octet x is = grind (arith, nat_tests)

octets-named : (s : List ℕ) → list_all is_name_octet s ≡ true → IsWord s
octets-named [] all = refl
octets-named (x ∷ s) all =
    let parts = and_parts (is_name_octet x) (list_all is_name_octet s) all in
    rw (name-octet x parts.0, octets-named s parts.1) refl

points-named : (ps : List ImagePoint) → Each HasName ps → Each (λ p. IsWord p.name) ps
points-named [] all = tt
points-named (p ∷ ps) all = (octets-named p.name all.0.octets, points-named ps all.1)

text-named : (r : Result PlainProgram TextFault) (program : List ℕ) (utf8 : Bool)
    → (let s : Result PlainProgram TextFault = cond utf8 (program_of program) (Err (BadToken 1)) in
    s)
    ≡ r
    → Each IsDeclaredNamed (declarations_of r)
text-named (Ok p) program true is = program-named program p is
text-named (Ok p) program false is = absurd cc
text-named (Err fault) program utf8 is = tt

declared-named : (form : Form) (program : List ℕ) → Each IsDeclaredNamed (declared_in form program)
declared-named Logic program = text-named (parsed_program program) program (is_utf8 program) refl
declared-named Image program = tt

pub names-are-words : NamesAreWords
names-are-words bay form program l loads is =
    let declared = declared-named form program in
    let named = (load-made bay form program l loads).named in
    record {
      points = points-named l.image.points is.names;
      variables = subst (λ (n : NamesData). Each IsWord n.variables) (sym named)
          (variables-named (declared_in form program) declared);
      timers = subst (λ (n : NamesData). Each IsWord n.timers) (sym named)
          (timers-named (declared_in form program) declared);
    }
