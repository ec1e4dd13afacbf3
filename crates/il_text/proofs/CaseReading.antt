-- Letters in upper case: lines and the program.
use Rattle.std.proofs.Common.{arith}
use Rattle.std.proofs.lemmas.Grind.{common_steps}
use Rattle.std.proofs.Common.{◌≡◌, ℕ, ◌+◌, Bool, false, cond, List, [], ◌∷◌, Option, Some, None, Ok, Err, Result, option_map, option_and_then, map, length, leb, ltb, refl, sym, ap, subst, ◌∙◌}
use Rattle.std.proofs.lemmas.List.{length-map, map-append}
use Rattle.bay_base.specs.Results.{◌>>=◌}
use Rattle.il_text.specs.Forms.{parts_of}
use Rattle.il_text.specs.Grammar.{is_plain}
use Rattle.il_text.specs.LetterCase.{upper_action, upper_entry, upper_entries, upper_declared, upper_listing, upper_program, LettersMayBeRespelled}
use Rattle.il_text.specs.Listing.{Action, Entry, label, action, block, entry, entries_of, DeclaredName, PlainProgram}
use Rattle.il_text.specs.Parts.{LineContent, program_start, block_start, names_part, block_end, label_part, action_part, parenthesis_start, parenthesis_end, program_end}
use Rattle.il_text.specs.Places.{last_line}
use Rattle.il_text.specs.Reading.{prepend_lexeme, lines, tokens_of, Progress, is_instruction, has_instruction, past_limit, with_instruction, after_instruction, within_limits, after_text_line, after_parts, after_line, program_at_stage, program_of_lines, no_progress, program_of, most_instructions, most_open}
use Rattle.il_text.specs.Steps.{Parenthesis, DraftData, at_stage, with_name, declared_in, with_declarations, with_item, with_opened, is_start, is_between_blocks, block_scope, is_outside, has_entries, is_load, may_begin_with, after_declaration, closed_block, after_parenthesis, may_follow, may_have_instruction, may_enter, may_leave, step, steps}
use Rattle.il_text.specs.Symbols.{text_lexemes}
use Rattle.il_text.specs.Texts.{ReadsAs}
use Rattle.il_text.specs.Tokens.{Symbol, LexemeData, blank, line_end, token, bad_token, bad_literal}
use Rattle.il_text.specs.declared.fault.TextFault.{TextFault}
use Rattle.il_text.specs.declared.fault.TextFault.TheVariants.{TooDeep, TooLong}
use Rattle.il_text.specs.declared.listing.Stage.{Stage}
use Rattle.il_text.specs.declared.listing.Stage.TheVariants as stage
use Rattle.il_text.specs.declared.program.DeclaredType.{DeclaredType}
use Rattle.il_text.specs.declared.program.Literal.{Literal}
use Rattle.il_text.specs.declared.program.VariableScope.{VariableScope}
use Rattle.il_text.proofs.CaseLemmas.{cond-up, up}
use Rattle.il_text.proofs.CaseCutting.{upper_symbol, upper_piece, cut-up, last_line-up}
use Rattle.il_text.proofs.CaseForms.{parts-up, then-up, upper_part, upper_parts, upper_symbols}
use Rattle.il_text.proofs.TextLemmas.{text-reads}
use Rattle.il_text.proofs.UniqueLemmas.{one_reading}

onto-up : (p : LexemeData) (ls : List (List LexemeData))
    → prepend_lexeme (upper_piece p) (map (map upper_piece) ls)
    ≡ map (map upper_piece) (prepend_lexeme p ls)
onto-up p [] = refl
onto-up p (l ∷ ls) = refl

lines-up : (ps : List LexemeData) → lines (map upper_piece ps) ≡ map (map upper_piece) (lines ps)
unfolding lines
lines-up [] = refl
lines-up (blank ∷ ps) = unfold lines in lines-up ps
lines-up (line_end ∷ ps) = ap (λ (l : List (List LexemeData)). [] ∷ l) (unfold lines in lines-up ps)
lines-up (token s ∷ ps) =
    ap (prepend_lexeme (upper_piece (token s))) (unfold lines in lines-up ps)
    ∙ onto-up (token s) (lines ps)
lines-up (bad_token ∷ ps) =
    ap (prepend_lexeme bad_token) (unfold lines in lines-up ps) ∙ onto-up bad_token (lines ps)
lines-up (bad_literal ∷ ps) =
    ap (prepend_lexeme bad_literal) (unfold lines in lines-up ps) ∙ onto-up bad_literal (lines ps)

-- a value, where there is one
abbrev on_ok : {A B E : Type 0} → (A → B) → Result A E → Result B E
on_ok f (Ok x) = Ok (f x)
on_ok f (Err e) = Err e

ok-then : {A B C D E : Type 0} (u : A → B) (v : C → D) (f : B → Result D E) (g : A → Result C E)
    → ((x : A) → f (u x) ≡ on_ok v (g x)) → (r : Result A E)
    → (on_ok u r >>= f) ≡ on_ok v (r >>= g)
ok-then u v f g h (Ok x) = h x
ok-then u v f g h (Err e) = refl

tokens-up : (n : ℕ) (ps : List LexemeData)
    → tokens_of n (map upper_piece ps) ≡ on_ok upper_symbols (tokens_of n ps)
unfolding tokens_of
tokens-up n (blank ∷ ps) = unfold tokens_of in tokens-up n ps
tokens-up n (line_end ∷ ps) = unfold tokens_of in tokens-up n ps
tokens-up n (token s ∷ ps) =
    ap (λ (r : Result (List Symbol) TextFault). r >>= (λ ss. Ok (upper_symbol s ∷ ss)))
    (unfold tokens_of in tokens-up n ps)
    ∙ ok-then upper_symbols upper_symbols _ (λ ss. Ok (s ∷ ss)) (λ ss. refl) (tokens_of n ps)
tokens-up n i = refl

abbrev upper_opened : Parenthesis → Parenthesis
upper_opened f =
    record {
      line = f.line;
      operator = f.operator;
      negated = f.negated;
      outer = map upper_entry f.outer;
    }

abbrev upper_reached : DraftData → DraftData
upper_reached r =
    record {
      stage = r.stage;
      name = map up r.name;
      declarations = map upper_declared r.declarations;
      items = map upper_entry r.items;
      parentheses = map upper_opened r.parentheses;
    }

reached-if : (b : Bool) (o : Option DraftData)
    → cond b (option_map upper_reached o) None ≡ option_map upper_reached (cond b o None)
reached-if b o = cond-up (option_map upper_reached) b o None

some-up : (es : List Entry) → has_entries (map upper_entry es) ≡ has_entries es
some-up [] = refl
some-up (e ∷ es) = refl

outside-up : (fs : List Parenthesis) → is_outside (map upper_opened fs) ≡ is_outside fs
outside-up [] = refl
outside-up (f ∷ fs) = refl

load-up : (a : Action) → is_load (upper_action a) ≡ is_load a
load-up a = grind (arith, common_steps)

plain-up : (a : Action) → is_plain (upper_action a) ≡ is_plain a
plain-up a = grind (arith, common_steps)

entries-up : (es : List Entry) → entries_of (map upper_entry es) ≡ upper_entries (entries_of es)
entries-up [] = refl
entries-up (e ∷ es) = ap (entry (upper_entry e)) (entries-up es)

stand-up : (r : DraftData) → may_follow (upper_reached r) ≡ may_follow r
unfolding may_follow
stand-up r = rw (outside-up r.parentheses) refl

act-up : (r : DraftData) (a : Action)
    → may_have_instruction (upper_reached r) (upper_action a) ≡ may_have_instruction r a
unfolding may_have_instruction
act-up r a = rw (outside-up r.parentheses, plain-up a, some-up r.items, load-up a) refl

enter-up : (r : DraftData) → may_enter (upper_reached r) ≡ may_enter r
unfolding may_enter
enter-up r = rw (outside-up r.parentheses, some-up r.items) refl

leave-up : (r : DraftData) → may_leave (upper_reached r) ≡ may_leave r
unfolding may_leave
leave-up r = rw (some-up r.items) refl

item-up : (r : DraftData) (e : Entry)
    → with_item (upper_entry e) (upper_reached r) ≡ upper_reached (with_item e r)
item-up r e = rw (map-append upper_entry r.items (e ∷ [])) refl

declared-up : (n : ℕ) (scope : VariableScope) (kind : DeclaredType) (initial : Option Literal)
    (ns : List (List ℕ))
    → map (declared_in n scope kind initial) (map (map up) ns)
    ≡ map upper_declared (map (declared_in n scope kind initial) ns)
declared-up n scope kind initial [] = refl
declared-up n scope kind initial (m ∷ ns) =
    ap (λ (ds : List DeclaredName). upper_declared (declared_in n scope kind initial m) ∷ ds)
    (declared-up n scope kind initial ns)

declaring-up : (n : ℕ) (ns : List (List ℕ)) (kind : DeclaredType) (initial : Option Literal)
    (r : DraftData) (o : Option VariableScope)
    → after_declaration n (map (map up) ns) kind initial (upper_reached r) o
    ≡ option_map upper_reached (after_declaration n ns kind initial r o)
declaring-up n ns kind initial r None = refl
declaring-up n ns kind initial r (Some scope) =
    let ds : List DeclaredName = map (declared_in n scope kind initial) ns in
    rw (declared-up n scope kind initial ns, sym (map-append upper_declared r.declarations ds))
    (reached-if (may_begin_with scope initial) (Some (with_declarations ds r)))

closing-up : (r : DraftData) (o : Option VariableScope)
    → closed_block (upper_reached r) o ≡ option_map upper_reached (closed_block r o)
closing-up r None = refl
closing-up r (Some scope) = refl

left-up : (n : ℕ) (r : DraftData) (fs : List Parenthesis)
    → after_parenthesis n (upper_reached r) (map upper_opened fs)
    ≡ option_map upper_reached (after_parenthesis n r fs)
left-up n r [] = refl
left-up n r (f ∷ fs) =
    rw (
      entries-up r.items,
      map-append upper_entry f.outer
          (block f.line f.operator f.negated (entries_of r.items) n ∷ []),
    )
    refl

step-up : (n : ℕ) (r : DraftData) (p : LineContent)
    → step n (upper_reached r) (upper_part p) ≡ option_map upper_reached (step n r p)
unfolding step
step-up n r (program_start name) = reached-if (is_start r.stage) (Some (with_name name r))
step-up n r (block_start scope) =
    reached-if (is_between_blocks r.stage) (Some (at_stage (stage.Block scope) r))
step-up n r (names_part ns kind initial) = declaring-up n ns kind initial r (block_scope r.stage)
step-up n r block_end = closing-up r (block_scope r.stage)
step-up n r (label_part name) =
    rw (stand-up r, item-up r (label n name))
    (reached-if (may_follow r) (Some (with_item (label n name) r)))
step-up n r (action_part a) =
    rw (act-up r a, item-up r (action n a))
    (reached-if (may_have_instruction r a) (Some (with_item (action n a) r)))
step-up n r (parenthesis_start o g) =
    rw (enter-up r) (reached-if (may_enter r) (Some (with_opened n o g r)))
step-up n r parenthesis_end =
    rw (leave-up r, left-up n r r.parentheses)
    (reached-if (may_leave r) (after_parenthesis n r r.parentheses))
step-up n r program_end =
    rw (stand-up r) (reached-if (may_follow r) (Some (at_stage stage.Finished r)))

steps-up : (n : ℕ) (r : DraftData) (ps : List LineContent)
    → steps n (upper_reached r) (upper_parts ps) ≡ option_map upper_reached (steps n r ps)
unfolding steps
steps-up n r [] = refl
steps-up n r (p ∷ ps) =
    ap (option_and_then (λ s. steps n s (upper_parts ps))) (step-up n r p)
    ∙ then-up _ _ _ _ (λ s. unfold steps in steps-up n s ps) (step n r p)

one_instruction-up : (p : LineContent) → is_instruction (upper_part p) ≡ is_instruction p
one_instruction-up p = grind (arith, common_steps)

instruction-up : (ps : List LineContent) → has_instruction (upper_parts ps) ≡ has_instruction ps
instruction-up [] = refl
instruction-up (p ∷ ps) = rw (one_instruction-up p, instruction-up ps) refl

abbrev upper_read : Progress → Progress
upper_read r = record { draft = upper_reached r.draft; instructions = r.instructions }

counted-up : (n last k : ℕ) (s : DraftData)
    → with_instruction n last k (upper_reached s) ≡ on_ok upper_read (with_instruction n last k s)
counted-up n last k s =
    cond-up (on_ok upper_read) (ltb k most_instructions)
    (Ok (record { draft = s; instructions = k + 1 })) (Err (past_limit n last (TooLong n)))

bounded-up : (n last k : ℕ) (s : DraftData)
    → after_instruction n last k (upper_reached s) ≡ on_ok upper_read (after_instruction n last k s)
unfolding after_instruction
bounded-up n last k s =
    rw (length-map s.parentheses upper_opened, counted-up n last k s)
    (cond-up (on_ok upper_read) (leb (length s.parentheses) most_open) (with_instruction n last k s)
    (Err (past_limit n last (TooDeep n))))

limited-up : (n last k : ℕ) (ps : List LineContent) (s : DraftData)
    → within_limits n last k (upper_parts ps) (upper_reached s)
    ≡ on_ok upper_read (within_limits n last k ps s)
limited-up n last k ps s =
    rw (instruction-up ps, bounded-up n last k s)
    (cond-up (on_ok upper_read) (has_instruction ps) (after_instruction n last k s)
    (Ok (record { draft = s; instructions = k })))

stepped-up : (n last k : ℕ) (ps : List LineContent) (o : Option DraftData)
    → after_text_line n last k (upper_parts ps) (option_map upper_reached o)
    ≡ on_ok upper_read (after_text_line n last k ps o)
stepped-up n last k ps None = refl
stepped-up n last k ps (Some s) = limited-up n last k ps s

forms-up : (n last : ℕ) (r : Progress) (o : Option (List LineContent))
    → after_parts n last (upper_read r) (option_map upper_parts o)
    ≡ on_ok upper_read (after_parts n last r o)
forms-up n last r None = refl
forms-up n last r (Some ps) =
    ap (after_text_line n last r.instructions (upper_parts ps)) (steps-up n r.draft ps)
    ∙ stepped-up n last r.instructions ps (steps n r.draft ps)

after-up : (n last : ℕ) (r : Progress) (ss : List Symbol)
    → after_line n last (upper_read r) (upper_symbols ss)
    ≡ on_ok upper_read (after_line n last r ss)
unfolding after_line
after-up n last r ss =
    ap (after_parts n last (upper_read r)) (parts-up ss) ∙ forms-up n last r (parts_of ss)

whole-up : (last : ℕ) (s : DraftData) (p : Stage)
    → program_at_stage last (upper_reached s) p ≡ on_ok upper_listing (program_at_stage last s p)
whole-up last s p = grind (arith, common_steps)

reading-up : (last : ℕ) (r : Progress) (n : ℕ) (ls : List (List LexemeData))
    → program_of_lines last (upper_read r) n (map (map upper_piece) ls)
    ≡ on_ok upper_listing (program_of_lines last r n ls)
unfolding program_of_lines
reading-up last r n [] = whole-up last r.draft r.draft.stage
reading-up last r n (l ∷ ls) =
    ap (λ (x : Result (List Symbol) TextFault). x
    >>= (λ ts. after_line n last (upper_read r) ts
    >>= (λ s. program_of_lines last s (n + 1) (map (map upper_piece) ls)))) (tokens-up n l)
    ∙ ok-then upper_symbols upper_listing _
    (λ ts. after_line n last r ts >>= (λ s. program_of_lines last s (n + 1) ls))
    (λ ts. ap (λ (x : Result Progress TextFault). x
    >>= (λ s. program_of_lines last s (n + 1) (map (map upper_piece) ls))) (after-up n last r ts)
    ∙ ok-then upper_read upper_listing _ (λ s. program_of_lines last s (n + 1) ls)
    (λ s. unfold program_of_lines in reading-up last s (n + 1) ls) (after_line n last r ts))
    (tokens_of n l)

program-is : (r : Result PlainProgram TextFault) → on_ok upper_listing r ≡ upper_program r
program-is (Ok p) = refl
program-is (Err e) = refl

program-up : (text : List ℕ) → program_of (map up text) ≡ upper_program (program_of text)
unfolding program_of
program-up text =
    rw (last_line-up text, cut-up text, lines-up (text_lexemes false text))
    (reading-up (last_line text) no_progress 1 (lines (text_lexemes false text)) ∙ program-is _)

-- the case of letters means nothing
pub letters : LettersMayBeRespelled
letters text read x =
    let e = one_reading text read (program_of text) x (text-reads text) in
    subst (λ (r : Result PlainProgram TextFault). ReadsAs (map up text) (upper_program r)) (sym e)
    (subst (λ (r : Result PlainProgram TextFault). ReadsAs (map up text) r) (program-up text)
    (text-reads (map up text)))
