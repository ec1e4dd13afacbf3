-- What a line does to the draft.
use Rattle.std.proofs.Common.{◌≡◌, ℕ, ◌+◌, ◌<◌, ◌≤◌, suc, Bool, true, false, cond, Ok, Err, List, [], ◌∷◌, ◌++◌, Option, Some, None, option_map, option_and_then, map, reverse, length, get_or, drop, refl, sym, ap, ◌∙◌, rules, arith, add-one, drop-cons, append-nil, append_assoc, Vec, Global, Bor}
use Rattle.std.proofs.lemmas.Option.{same_Some}
use Rattle.std.proofs.lemmas.Grind.{common_steps}
use Rattle.std.proofs.lemmas.List.{length-map, length-reverse, map-append, reverse-append}
use Rattle.il_text.specs.Forms.{declared_names, parts_of, whole_line}
use Rattle.il_text.specs.TokenForms.{name_of, is_mark, names_from}
use Rattle.il_text.specs.Listing.{label, action, block, entries_of, DeclaredName}
use Rattle.il_text.specs.ListingViews.{parenthesis_of}
use Rattle.il_text.specs.Parts.{LineContent, names_part}
use Rattle.il_text.specs.Steps.{Parenthesis, DraftData, block_scope, declared_in, is_outside, has_entries, may_begin_with, step, steps}
use Rattle.il_text.specs.Declaring.{declared_from}
use Rattle.il_text.specs.Reading.{Progress, has_instruction, after_instruction, after_parts, after_line}
use Rattle.il_text.specs.declared.fault.TextFault.TheVariants.{BadLine}
use Rattle.il_text.specs.Tokens.{Symbol}
use Rattle.il_text.specs.TokenViews.{symbol_of, symbols_of}
use Rattle.il_text.specs.Views.{action_of, entry_of}
use Rattle.il_text.specs.declared.form.Tail.{Tail}
use Rattle.il_text.specs.declared.listing.Open.{Open}
use Rattle.il_text.specs.declared.program.DeclaredType.{DeclaredType}
use Rattle.il_text.specs.declared.program.Instruction as ins
use Rattle.il_text.specs.declared.program.Literal.{Literal}
use Rattle.il_text.specs.declared.program.Item.{Item, Label, Instruction, Block, the_lemmas}
use Rattle.il_text.specs.declared.program.Operator.{Operator}
use Rattle.il_text.specs.declared.program.VariableScope.{VariableScope}
use Rattle.il_text.specs.declared.token.Mark.TheVariants as mark
use Rattle.il_text.specs.declared.token.Token.{Token}

pub front-item : {X : Type 0} → (xs : List X) (i : ℕ) (x : X) → i < length xs → x ≡ get_or xs i x
    → drop i xs ≡ x ∷ drop (i + 1) xs
front-item {X} xs i x h e =
    rw (add-one, drop-cons xs i x) (ap (λ (y : X). y ∷ drop (suc i) xs) (sym e))

-- the symbols from a place on
pub next-symbol : (ts : List Token) (i : ℕ) (t : Token) → i < length ts
    → symbols_of (drop i ts) ≡ symbol_of (get_or ts i t) ∷ symbols_of (drop (i + 1) ts)
next-symbol ts i t h = rw (add-one, drop-cons ts i t) refl

pub view_instruction : (line : ℕ) (i : ins.Instruction)
    → entry_of (Instruction line i) ≡ action line (action_of i)
view_instruction line i = search (rules, the_lemmas)

pub view-label : (line : ℕ) (name : Bor (List ℕ)) → entry_of (Label line name) ≡ label line name.now
view-label line name = search (rules, the_lemmas)

pub view-block : (line : ℕ) (operator : Operator) (negated : Bool) (items : Vec Item Global)
    (end : ℕ)
    → entry_of (Block line operator negated items end)
    ≡ block line operator negated (entries_of (map entry_of items.items)) end
view-block line operator negated items end = search (rules, the_lemmas)

-- the open parentheses with one more
pub opened-more : (os : List Open) (o : Open)
    → reverse (map parenthesis_of (os ++ o ∷ []))
    ≡ parenthesis_of o ∷ reverse (map parenthesis_of os)
opened-more os o = simp (map-append, reverse-append) refl

outside-len : (fs : List Parenthesis) → 0 < length fs → is_outside fs ≡ false
outside-len [] h = absurd (omega (arith, h))
outside-len (f ∷ fs) h = refl

pub outside-none : (os : List Open) → length os ≡ 0
    → is_outside (reverse (map parenthesis_of os)) ≡ true
outside-none [] h = refl
outside-none (o ∷ os) h = absurd (omega (arith, h))

pub outside-some : (os : List Open) → 0 < length os
    → is_outside (reverse (map parenthesis_of os)) ≡ false
outside-some os h = outside-len _ (simp (length-reverse, length-map) h)

pub ruleset outside_rules = (outside-none, outside-some)

pub some-none : (is : List Item) → length is ≡ 0 → has_entries (map entry_of is) ≡ false
some-none [] h = refl
some-none (i ∷ is) h = absurd (omega (arith, h))

pub some-some : (is : List Item) → 0 < length is → has_entries (map entry_of is) ≡ true
some-some [] h = absurd (omega (arith, h))
some-some (i ∷ is) h = refl

name-before : (f : List ℕ → DeclaredName) (before : List DeclaredName) (n : List ℕ)
    (o : Option (List (List ℕ)))
    → option_map (λ ns. before ++ map f ns) (option_map (λ ns. n ∷ ns) o)
    ≡ option_map (λ ns. (before ++ f n ∷ []) ++ map f ns) o
name-before f before n None = refl
name-before f before n (Some ns) = ap Some (sym (append_assoc before (f n ∷ []) (map f ns)))

pub at-name : (line : ℕ) (scope : VariableScope) (tail : Tail) (before : List DeclaredName)
    (s : Symbol)
    (n : List ℕ) → name_of s ≡ Some n → (ss : List Symbol)
    → declared_from line scope tail before false (s ∷ ss)
    ≡ declared_from line scope tail
    (before ++ declared_in line scope tail.kind tail.initial n ∷ []) true ss
unfolding declared_from names_from
at-name line scope tail before s n e ss =
    rw e (name-before (declared_in line scope tail.kind tail.initial) before n (names_from true ss))

pub at-no-name : (line : ℕ) (scope : VariableScope) (tail : Tail) (before : List DeclaredName)
    (s : Symbol)
    (ss : List Symbol) → name_of s ≡ None
    → declared_from line scope tail before false (s ∷ ss) ≡ None
unfolding declared_from names_from
at-no-name line scope tail before s ss e = rw e refl

pub at-comma : (line : ℕ) (scope : VariableScope) (tail : Tail) (before : List DeclaredName)
    (s : Symbol)
    (ss : List Symbol) → is_mark mark.Comma s ≡ true
    → declared_from line scope tail before true (s ∷ ss)
    ≡ declared_from line scope tail before false ss
unfolding declared_from names_from
at-comma line scope tail before s ss e = rw e refl

pub at-no-comma : (line : ℕ) (scope : VariableScope) (tail : Tail) (before : List DeclaredName)
    (s : Symbol)
    (ss : List Symbol) → is_mark mark.Comma s ≡ false
    → declared_from line scope tail before true (s ∷ ss) ≡ None
unfolding declared_from names_from
at-no-comma line scope tail before s ss e = rw e refl

none-after : {X : Type 0} → (xs : List X) (i : ℕ) → length xs ≤ i → drop i xs ≡ []
none-after {X} xs i h = grind (arith, common_steps)

pub declare-end : (line : ℕ) (scope : VariableScope) (tail : Tail) (before : List DeclaredName)
    (ts : List Token) (i : ℕ) → length ts ≤ i
    → declared_from line scope tail before true (symbols_of (drop i ts)) ≡ Some before
unfolding declared_from names_from
declare-end line scope tail before ts i h = rw (none-after ts i h) (ap Some (append-nil before))

pub declare-no-end : (line : ℕ) (scope : VariableScope) (tail : Tail) (before : List DeclaredName)
    (ts : List Token) (i : ℕ) → length ts ≤ i
    → declared_from line scope tail before false (symbols_of (drop i ts)) ≡ None
unfolding declared_from names_from
declare-no-end line scope tail before ts i h = rw (none-after ts i h) refl

pub ruleset some_rules = (some-none, some-some)

pub ruleset declare_rules = (at-no-name, at-comma, at-no-comma)

and-some : (o : Option DraftData) → option_and_then (λ s. Some s) o ≡ o
and-some None = refl
and-some (Some s) = refl

-- one part alone
pub steps-one : (n : ℕ) (r : DraftData) (p : LineContent) → steps n r (p ∷ []) ≡ step n r p
unfolding steps
steps-one n r p = and-some (step n r p)

pub steps-more : (n : ℕ) (r s : DraftData) (p : LineContent) (ps : List LineContent)
    → step n r p ≡ Some s
    → steps n r (p ∷ ps) ≡ steps n s ps
unfolding steps
steps-more n r s p ps e = rw e refl

pub steps-none : (n : ℕ) (r : DraftData) (p : LineContent) (ps : List LineContent)
    → step n r p ≡ None
    → steps n r (p ∷ ps) ≡ None
unfolding steps
steps-none n r p ps e = rw e refl

pub ruleset steps_rules = (steps-one, steps-more, steps-none)

-- what is reached with these declarations in the place of the others
abbrev pub with_listed : DraftData → List DeclaredName → DraftData
with_listed r ds =
    record {
      stage = r.stage;
      name = r.name;
      declarations = ds;
      items = r.items;
      parentheses = r.parentheses;
    }

declared-with : (line : ℕ) (r : DraftData) (scope : VariableScope) (t : Tail)
    (o : Option (List (List ℕ)))
    (ds : List DeclaredName) → block_scope r.stage ≡ Some scope
    → may_begin_with scope t.initial ≡ true
    → option_map (λ ns. r.declarations ++ map (declared_in line scope t.kind t.initial) ns) o
    ≡ Some ds
    → option_and_then (steps line r) (option_map (λ ns. names_part ns t.kind t.initial ∷ []) o)
    ≡ Some (with_listed r ds)
unfolding step
declared-with line r scope t None ds p b e = cc
declared-with line r scope t (Some ns) ds p b e =
    let d : r.declarations ++ map (declared_in line scope t.kind t.initial) ns ≡ ds =
    same_Some _ _ e in
    let one : step line r (names_part ns t.kind t.initial)
    ≡ Some (with_listed r (r.declarations ++ map (declared_in line scope t.kind t.initial) ns))
    = rw (p, b) refl in
    steps-one line r (names_part ns t.kind t.initial) ∙ one
    ∙ ap (λ (x : List DeclaredName). Some (with_listed r x)) d

pub declared-ok : (line : ℕ) (r : DraftData) (scope : VariableScope) (t : Tail) (ss : List Symbol)
    (ds : List DeclaredName) → block_scope r.stage ≡ Some scope
    → may_begin_with scope t.initial ≡ true
    → declared_from line scope t r.declarations false ss ≡ Some ds
    → option_and_then (steps line r) (declared_names t ss) ≡ Some (with_listed r ds)
unfolding declared_from
declared-ok line r scope t ss ds p b e = declared-with line r scope t (names_from false ss) ds p b e

none-with : (line : ℕ) (r : DraftData) (scope : VariableScope) (t : Tail)
    (o : Option (List (List ℕ)))
    → option_map (λ ns. r.declarations ++ map (declared_in line scope t.kind t.initial) ns) o ≡ None
    → option_and_then (steps line r) (option_map (λ ns. names_part ns t.kind t.initial ∷ []) o)
    ≡ None
none-with line r scope t None e = refl
none-with line r scope t (Some ns) e = cc

pub declared-bad : (line : ℕ) (r : DraftData) (scope : VariableScope) (t : Tail) (ss : List Symbol)
    → declared_from line scope t r.declarations false ss ≡ None
    → option_and_then (steps line r) (declared_names t ss) ≡ None
unfolding declared_from
declared-bad line r scope t ss e = none-with line r scope t (names_from false ss) e

-- where no declaration may stand
refused-with : (line : ℕ) (r : DraftData) (t : Tail) (o : Option (List (List ℕ)))
    → ((ns : List (List ℕ)) → step line r (names_part ns t.kind t.initial) ≡ None)
    → option_and_then (steps line r) (option_map (λ ns. names_part ns t.kind t.initial ∷ []) o)
    ≡ None
refused-with line r t None f = refl
refused-with line r t (Some ns) f = steps-none line r (names_part ns t.kind t.initial) [] (f ns)

pub declared-refused : (line : ℕ) (r : DraftData) (t : Tail) (ss : List Symbol)
    → ((ns : List (List ℕ)) → step line r (names_part ns t.kind t.initial) ≡ None)
    → option_and_then (steps line r) (declared_names t ss) ≡ None
declared-refused line r t ss f = refused-with line r t (names_from false ss) f

pub length_opened : (os : List Open) → length (reverse (map parenthesis_of os)) ≡ length os
length_opened os = simp (length-reverse, length-map) refl

pub blank_line : (line last : ℕ) (r : Progress) (ts : List Token) → length ts ≡ 0
    → after_line line last r (symbols_of ts) ≡ Ok r
unfolding after_line whole_line steps
blank_line line last r [] h = refl
blank_line line last r (t ∷ ts) h = absurd (omega (arith, h))

-- a line whose parts are taken
taken-parts : (line last : ℕ) (r : Progress) (o : Option (List LineContent)) (s : DraftData)
    (b : Bool)
    → ((ps : List LineContent) → o ≡ Some ps → b ≡ has_instruction ps)
    → option_and_then (steps line r.draft) o ≡ Some s
    → after_parts line last r o
    ≡ cond b (after_instruction line last r.instructions s)
    (Ok (record { draft = s; instructions = r.instructions }))
taken-parts line last r None s b h e = cc
taken-parts line last r (Some ps) s b h e = rw (e, sym (h ps refl)) refl

pub line-taken : (line last : ℕ) (r : Progress) (ts : List Symbol) (o : Option (List LineContent))
    (s : DraftData) (b : Bool) → o ≡ parts_of ts
    → ((ps : List LineContent) → o ≡ Some ps → b ≡ has_instruction ps)
    → option_and_then (steps line r.draft) o ≡ Some s
    → after_line line last r ts
    ≡ cond b (after_instruction line last r.instructions s)
    (Ok (record { draft = s; instructions = r.instructions }))
unfolding after_line
line-taken line last r ts o s b q h e =
    ap (after_parts line last r) (sym q) ∙ taken-parts line last r o s b h e

refused-parts : (line last : ℕ) (r : Progress) (o : Option (List LineContent))
    → option_and_then (steps line r.draft) o ≡ None
    → after_parts line last r o ≡ Err (BadLine line)
refused-parts line last r None e = refl
refused-parts line last r (Some ps) e = rw e refl

pub line-refused : (line last : ℕ) (r : Progress) (ts : List Symbol) (o : Option (List LineContent))
    → o ≡ parts_of ts → option_and_then (steps line r.draft) o ≡ None
    → after_line line last r ts ≡ Err (BadLine line)
unfolding after_line
line-refused line last r ts o q e =
    ap (after_parts line last r) (sym q) ∙ refused-parts line last r o e

-- where no declaration may stand, and where it may have no initial value
pub step-outside : (line : ℕ) (r : DraftData) (ns : List (List ℕ)) (kind : DeclaredType)
    (initial : Option Literal) → block_scope r.stage ≡ None
    → step line r (names_part ns kind initial) ≡ None
unfolding step
step-outside line r ns kind initial e = rw e refl

pub step-initial : (line : ℕ) (r : DraftData) (ns : List (List ℕ)) (kind : DeclaredType)
    (initial : Option Literal) (scope : VariableScope) → block_scope r.stage ≡ Some scope
    → may_begin_with scope initial ≡ false → step line r (names_part ns kind initial) ≡ None
unfolding step
step-initial line r ns kind initial scope e b = rw (e, b) refl
