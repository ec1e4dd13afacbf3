-- A text reads as one thing, and the lines of its program's items never fall.
use Rattle.std.proofs.Common.{◌≡◌, ℕ, ◌+◌, ◌≤◌, ◌⊎◌, true, false, inl, inr, List, [], ◌∷◌, ◌++◌, map, Option, Some, None, Result, Ok, Err, refl, sym, ap, subst, ◌∙◌, arith}
use Rattle.std.specs.List.{flat_map}
use Rattle.std.proofs.lemmas.Bool.{le-leb}
use Rattle.std.proofs.lemmas.List.{map-append}
use Rattle.il_text.specs.Forms.{parts_of}
use Rattle.il_text.specs.Grammar.{Numbered, block_parts, entry_parts, Derives, rises, line_of, item_lines}
use Rattle.il_text.specs.Listing.{PlainProgram}
use Rattle.il_text.specs.Parts.{LineContent, program_start, program_end}
use Rattle.il_text.specs.Places.{last_line}
use Rattle.il_text.specs.Reading.{tokens_of, program_of, lines}
use Rattle.il_text.specs.Symbols.{text_lexemes}
use Rattle.il_text.specs.Texts.{TextLine, numbered_parts, all_parts, AreAllowed, LineFault, no_program, too_deep, too_long, IsFaultyLine, EndsText, ReadsParts, ReadsTokens, ReadsLines, ReadsAs, OneReading, ProgramIsRead}
use Rattle.il_text.specs.Tokens.{Symbol, LexemeData}
use Rattle.il_text.specs.declared.fault.TextFault.{TextFault}
use Rattle.il_text.proofs.FinishLemmas.{one-derived}
use Rattle.il_text.proofs.GrammarLemmas.{flat-one}
use Rattle.il_text.proofs.TextLemmas.{text-reads}

fault-one : (last n : ℕ) (ls : List TextLine) (e f : TextFault) → LineFault last n ls e
    → LineFault last n ls f → e ≡ f
fault-one last n ls e f (no_program a p) (no_program b q) = p ∙ sym q
fault-one last n ls e f (no_program a p) (too_deep g d q) = absurd (a g)
fault-one last n ls e f (no_program a p) (too_long g d l q) = absurd (a g)
fault-one last n ls e f (too_deep g d p) (no_program b q) = absurd (b g)
fault-one last n ls e f (too_deep g d p) (too_deep h k q) = p ∙ sym q
fault-one last n ls e f (too_deep g d p) (too_long h k l q) = absurd (k d)
fault-one last n ls e f (too_long g d l p) (no_program b q) = absurd (b g)
fault-one last n ls e f (too_long g d l p) (too_deep h k q) = absurd (d k)
fault-one last n ls e f (too_long g d l p) (too_long h k m q) = p ∙ sym q

refused-one : (last n : ℕ) (ls : List TextLine) (x y : Result PlainProgram TextFault)
    → IsFaultyLine last n ls x → IsFaultyLine last n ls y → x ≡ y
refused-one last n ls (Ok p) y a b = absurd a
refused-one last n ls (Err e) (Ok q) a b = absurd b
refused-one last n ls (Err e) (Err f) a b = ap Err (fault-one last n ls e f a b)

not-both : (last n : ℕ) (ls : List TextLine) (x : Result PlainProgram TextFault) → AreAllowed ls
    → IsFaultyLine last n ls x → ⊥
not-both last n ls (Ok p) a b = b
not-both last n ls (Err e) a (no_program b q) = b a.is_prefix
not-both last n ls (Err e) a (too_deep g d q) = a.shallow d
not-both last n ls (Err e) a (too_long g d l q) = a.short l

ends-one : (last : ℕ) (ls : List TextLine) (x y : Result PlainProgram TextFault)
    → EndsText last ls x
    → EndsText last ls y → x ≡ y
ends-one last ls (Ok p) (Ok q) a b = ap Ok (one-derived (all_parts ls) p q a b)
ends-one last ls (Ok p) (Err f) a b = absurd (b.0 p a)
ends-one last ls (Err e) (Ok q) a b = absurd (a.0 q b)
ends-one last ls (Err e) (Err f) a b = ap Err (a.1 ∙ sym b.1)

-- one alternative of a line, for two outcomes
going-one : (last n : ℕ) (ls : List TextLine) (P : Result PlainProgram TextFault → Type 0)
    (x y : Result PlainProgram TextFault)
    → ((u v : Result PlainProgram TextFault) → P u → P v → u ≡ v)
    → (AreAllowed ls × P x) ⊎ IsFaultyLine last n ls x
    → (AreAllowed ls × P y) ⊎ IsFaultyLine last n ls y
    → x ≡ y
going-one last n ls P x y f (inl a) (inl b) = f x y a.1 b.1
going-one last n ls P x y f (inl a) (inr b) = absurd (not-both last n ls y a.0 b)
going-one last n ls P x y f (inr a) (inl b) = absurd (not-both last n ls x b.0 a)
going-one last n ls P x y f (inr a) (inr b) = refused-one last n ls x y a b

parts-one : (n : ℕ) (o : Option (List LineContent))
    (G : Result PlainProgram TextFault → List LineContent → Type 0)
    (x y : Result PlainProgram TextFault)
    → ((ps : List LineContent) → G x ps → G y ps → x ≡ y) → ReadsParts n (G x) o x
    → ReadsParts n (G y) o y
    → x ≡ y
parts-one n None G x y f a b = a ∙ sym b
parts-one n (Some ps) G x y f a b = f ps a b

tokens-one : (n : ℕ) (t : Result (List Symbol) TextFault)
    (G : Result PlainProgram TextFault → List LineContent → Type 0)
    (x y : Result PlainProgram TextFault)
    → ((ps : List LineContent) → G x ps → G y ps → x ≡ y) → ReadsTokens n (G x) t x
    → ReadsTokens n (G y) t y
    → x ≡ y
tokens-one n (Err e) G x y f a b = a ∙ sym b
tokens-one n (Ok ts) G x y f a b = parts-one n (parts_of ts) G x y f a b

reads-one : (last : ℕ) (before : List TextLine) (n : ℕ) (ls : List (List LexemeData))
    (x y : Result PlainProgram TextFault) → ReadsLines last before n ls x
    → ReadsLines last before n ls y
    → x ≡ y
reads-one last before n [] x y a b = ends-one last before x y a b
reads-one last before n (l ∷ ls) x y a b =
    tokens-one n (tokens_of n l)
    (λ z ps. (AreAllowed (before ++ (n, ps) ∷ [])
    × ReadsLines last (before ++ (n, ps) ∷ []) (n + 1) ls z)
    ⊎ IsFaultyLine last n (before ++ (n, ps) ∷ []) z)
    x y
    (λ ps g h. going-one last n (before ++ (n, ps) ∷ [])
    (λ z. ReadsLines last (before ++ (n, ps) ∷ []) (n + 1) ls z) x y
    (λ u v. reads-one last (before ++ (n, ps) ∷ []) (n + 1) ls u v) g h)
    a b

pub one_reading : OneReading
unfolding ReadsAs
one_reading text x y a b = reads-one (last_line text) [] 1 (lines (text_lexemes false text)) x y a b

pub program_is_read : ProgramIsRead
program_is_read text r = (
  λ a. one_reading text (program_of text) r (text-reads text) a,
  λ e. subst (λ (x : Result PlainProgram TextFault). ReadsAs text x) e (text-reads text),
)

-- numbers that never fall, from one number up to another
abbrev Climbs : ℕ → List ℕ → ℕ → Type 0
Climbs k [] m = k ≤ m
Climbs k (x ∷ xs) m = (k ≤ x) × Climbs x xs m

abbrev Rises : ℕ → List ℕ → Type 0
Rises k [] = Unit {0}
Rises k (x ∷ xs) = (k ≤ x) × Rises x xs

rises-so : (k : ℕ) (xs : List ℕ) → Rises k xs → rises k xs ≡ true
rises-so k [] c = refl
rises-so k (x ∷ xs) c = rw (le-leb k x c.0) (rises-so x xs c.1)

lower : (j k m : ℕ) (xs : List ℕ) → j ≤ k → Climbs k xs m → Climbs j xs m
lower j k m [] h c = omega (arith, h, c)
lower j k m (x ∷ xs) h c = (omega (arith, h, c.0), c.1)

climbs-append : (k m n : ℕ) (xs ys : List ℕ) → Climbs k xs m → Climbs m ys n → Climbs k (xs ++ ys) n
climbs-append k m n [] ys c d = lower k m n ys c d
climbs-append k m n (x ∷ xs) ys c d = (c.0, climbs-append x m n xs ys c.1 d)

climbs-front : (k m : ℕ) (xs ys : List ℕ) → Climbs k (xs ++ ys) m → Rises k xs
climbs-front k m [] ys c = tt
climbs-front k m (x ∷ xs) ys c = (c.0, climbs-front x m xs ys c.1)

climbs-back : (k m : ℕ) (xs ys : List ℕ) → Climbs k (xs ++ ys) m → (j : ℕ) × (k ≤ j) × Climbs j ys m
climbs-back k m [] ys c = (k, omega arith, c)
climbs-back k m (x ∷ xs) ys c =
    let r = climbs-back x m xs ys c.1 in
    let h : k ≤ r.0 = omega (arith, c.0, r.1) in
    (r.0, h, r.2)

rises-lower : (j k : ℕ) (xs : List ℕ) → j ≤ k → Rises k xs → Rises j xs
rises-lower j k [] h c = tt
rises-lower j k (x ∷ xs) h c = (omega (arith, h, c.0), c.1)

one-line : (n : ℕ) (ps : List LineContent) (k : ℕ) → k ≤ n
    → Climbs k (map line_of (numbered_parts (n, ps))) (n + 1)
one-line n [] k h = omega (arith, h)
one-line n (p ∷ ps) k h = (h, one-line n ps n (omega arith))

-- the middle of the parts of a program
derived-rises : (ps : List Numbered) (p : PlainProgram) (m : ℕ) → Derives ps p
    → Climbs 0 (map line_of ps) m → Rises 0 (item_lines p.items)
derived-rises ps p m d c =
    let items : List Numbered = flat_map entry_parts p.items in
    let front : List Numbered = (d.first, program_start p.name) ∷ flat_map block_parts d.blocks in
    let same : map line_of ps
    ≡ map line_of ((d.first, program_start p.name) ∷ flat_map block_parts d.blocks)
    ++ (map line_of (flat_map entry_parts p.items) ++ d.end ∷ []) =
    ap (map line_of) d.parts
    ∙ map-append line_of ((d.first, program_start p.name) ∷ flat_map block_parts d.blocks)
    (flat_map entry_parts p.items ++ (d.end, program_end) ∷ [])
    ∙ ap (λ (l : List ℕ). map line_of
    ((d.first, program_start p.name) ∷ flat_map block_parts d.blocks)
    ++ l) (map-append line_of (flat_map entry_parts p.items) ((d.end, program_end) ∷ [])) in
    let whole = subst (λ (l : List ℕ). Climbs 0 l m) same c in
    let back =
    climbs-back 0 m (map line_of ((d.first, program_start p.name) ∷ flat_map block_parts d.blocks))
    (map line_of (flat_map entry_parts p.items) ++ d.end ∷ []) whole in
    rises-lower 0 back.0 (item_lines p.items) back.1
    (climbs-front back.0 m (map line_of (flat_map entry_parts p.items)) (d.end ∷ []) back.2)

parts_rise : (n : ℕ) (o : Option (List LineContent)) (G : List LineContent → Type 0)
    (p : PlainProgram)
    (R : Type 0) → ((ps : List LineContent) → G ps → R) → ReadsParts n G o (Ok p) → R
parts_rise n None G p R f a = cc
parts_rise n (Some ps) G p R f a = f ps a

tokens_rise : (n : ℕ) (t : Result (List Symbol) TextFault) (G : List LineContent → Type 0)
    (p : PlainProgram) (R : Type 0) → ((ps : List LineContent) → G ps → R)
    → ReadsTokens n G t (Ok p)
    → R
tokens_rise n (Err e) G p R f a = cc
tokens_rise n (Ok ts) G p R f a = parts_rise n (parts_of ts) G p R f a

going_rises : (A B R : Type 0) → (B → R) → (A × B) ⊎ ⊥ → R
going_rises A B R f (inl a) = f a.1
going_rises A B R f (inr b) = absurd b

reads-rise : (last : ℕ) (before : List TextLine) (n : ℕ) (ls : List (List LexemeData))
    (p : PlainProgram)
    → Climbs 0 (map line_of (all_parts before)) n → ReadsLines last before n ls (Ok p)
    → Rises 0 (item_lines p.items)
reads-rise last before n [] p c d = derived-rises (all_parts before) p n d c
reads-rise last before n (l ∷ ls) p c d =
    tokens_rise n (tokens_of n l)
    (λ ps. (AreAllowed (before ++ (n, ps) ∷ [])
    × ReadsLines last (before ++ (n, ps) ∷ []) (n + 1) ls (Ok p))
    ⊎ IsFaultyLine last n (before ++ (n, ps) ∷ []) (Ok p))
    p (Rises 0 (item_lines p.items))
    (λ ps g. going_rises (AreAllowed (before ++ (n, ps) ∷ []))
    (ReadsLines last (before ++ (n, ps) ∷ []) (n + 1) ls (Ok p)) (Rises 0 (item_lines p.items))
    (λ k. reads-rise last (before ++ (n, ps) ∷ []) (n + 1) ls p
    (subst (λ (l : List ℕ). Climbs 0 l (n + 1))
    (sym (ap (map line_of) (flat-one numbered_parts before (n, ps))
    ∙ map-append line_of (all_parts before) (numbered_parts (n, ps))))
    (climbs-append 0 n (n + 1) (map line_of (all_parts before))
    (map line_of (numbered_parts (n, ps))) c
    (one-line n ps n (omega arith)))) k) g)
    d

pub items-rise : (text : List ℕ) (p : PlainProgram) → program_of text ≡ Ok p
    → rises 0 (item_lines p.items) ≡ true
unfolding ReadsAs
items-rise text p e =
    rises-so 0 (item_lines p.items)
    (reads-rise (last_line text) [] 1 (lines (text_lexemes false text)) p (omega arith)
    (subst (λ (x : Result PlainProgram TextFault). ReadsLines (last_line text) [] 1
    (lines (text_lexemes false text)) x) e (text-reads text)))
