-- What the lines of a text reach is what the text reads as.
use Rattle.std.proofs.Common.{◌≡◌, ℕ, ◌+◌, ◌<◌, ◌≤◌, ◌⊎◌, inl, inr, Bool, true, false, cond, List, [], ◌∷◌, ◌++◌, map, length, Option, Some, None, option_and_then, Result, Ok, Err, refl, sym, ap, ◌∙◌, arith, leb, ltb, zero-add}
use Rattle.std.proofs.lemmas.Option.{cond_some, same_Some}
use Rattle.std.specs.List.{count_by}
use Rattle.std.proofs.lemmas.Bool.{false≢true, ltb-true, ltb-false, leb-true, leb-false, or_parts}
use Rattle.std.proofs.lemmas.List.Recursion.{is_count_by}
use Rattle.bay_base.specs.Results.{◌>>=◌}
use Rattle.il_text.specs.Forms.{parts_of}
use Rattle.il_text.specs.Grammar.{Numbered, Derives}
use Rattle.il_text.specs.Listing.{label, action, PlainProgram}
use Rattle.il_text.specs.Parts.{LineContent, program_start, block_start, names_part, block_end, label_part, action_part, parenthesis_start, parenthesis_end, program_end}
use Rattle.il_text.specs.Places.{last_line}
use Rattle.il_text.specs.Reading.{Progress, tokens_of, is_instruction, has_instruction, past_limit, with_instruction, after_instruction, after_text_line, after_parts, after_line, program_at_stage, program_of_lines, no_progress, program_of, lines, most_instructions, most_open}
use Rattle.il_text.specs.Steps.{DraftData, empty_draft, at_stage, with_name, with_item, with_opened, with_declarations, declared_in, after_parenthesis, block_scope, is_start, is_between_blocks, may_follow, may_have_instruction, may_enter, may_leave, step, steps}
use Rattle.il_text.specs.Symbols.{text_lexemes}
use Rattle.il_text.specs.Texts.{TextLine, numbered_parts, all_parts, is_entering, is_leaving, IsDeep, AreAllowed, no_program, too_deep, too_long, IsFaultyLine, EndsText, ReadsParts, ReadsTokens, ReadsLines, ReadsAs}
use Rattle.il_text.specs.Tokens.{Symbol, LexemeData}
use Rattle.il_text.specs.declared.fault.TextFault.{TextFault}
use Rattle.il_text.specs.declared.fault.TextFault.TheVariants.{TooDeep, TooLong}
use Rattle.il_text.specs.declared.listing.Stage.{Stage}
use Rattle.il_text.specs.declared.listing.Stage.TheVariants as stage
use Rattle.il_text.proofs.GrammarLemmas.{run, run-append, and-then-same, then-some, cond-left, declared-some, closed-some, left-some, flat-one}
use Rattle.il_text.proofs.DerivedLemmas.{state, derived-runs}
use Rattle.il_text.proofs.FinishLemmas.{is_prefix, stops, ended-derives}

-- how many parentheses are open
abbrev depth : DraftData → ℕ
depth r = length r.parentheses

depth_of : (r s t : DraftData) → depth t ≡ depth r → t ≡ s → depth s ≡ depth r
depth_of r s t h e = sym (ap depth e) ∙ h

-- the parentheses that a part opens and closes
part-depth : (n : ℕ) (r s : DraftData) (p : LineContent) → step n r p ≡ Some s
    → depth s + cond (is_leaving (n, p)) 1 0 ≡ depth r + cond (is_entering (n, p)) 1 0
unfolding step
part-depth n r s (program_start name) e =
    let d = depth_of r s (with_name name r) refl
    (cond_some (is_start r.stage) (with_name name r) s e).1 in omega (arith, d)
part-depth n r s (block_start scope) e =
    let d = depth_of r s (at_stage (stage.Block scope) r) refl
    (cond_some (is_between_blocks r.stage) (at_stage (stage.Block scope) r) s e).1 in
    omega (arith, d)
part-depth n r s (names_part ns kind initial) e =
    let c = declared-some n ns kind initial r s (block_scope r.stage) e in
    let d = depth_of r s (with_declarations (map (declared_in n c.0 kind initial) ns) r) refl c.3 in
    omega (arith, d)
part-depth n r s block_end e =
    let c = closed-some r s (block_scope r.stage) e in
    let d = depth_of r s (at_stage stage.Declarations r) refl c.2 in omega (arith, d)
part-depth n r s (label_part name) e =
    let d = depth_of r s (with_item (label n name) r) refl
    (cond_some (may_follow r) (with_item (label n name) r) s e).1 in omega (arith, d)
part-depth n r s (action_part a) e =
    let d = depth_of r s (with_item (action n a) r) refl
    (cond_some (may_have_instruction r a) (with_item (action n a) r) s e).1 in omega (arith, d)
part-depth n r s (parenthesis_start o g) e =
    let d : depth (with_opened n o g r) ≡ depth s =
    ap depth (cond_some (may_enter r) (with_opened n o g r) s e).1 in omega (arith, d)
part-depth n r s parenthesis_end e =
    let c = cond-left (may_leave r) (after_parenthesis n r r.parentheses) s e in
    let l = left-some n r s r.parentheses c.1 in
    let d : length l.1 ≡ depth s = ap depth l.3 in
    let f : depth r ≡ length (l.0 ∷ l.1) = ap length l.2 in
    omega (arith, d, f)
part-depth n r s program_end e =
    let d = depth_of r s (at_stage stage.Finished r) refl
    (cond_some (may_follow r) (at_stage stage.Finished r) s e).1 in omega (arith, d)

-- how many pass a test
abbrev tally : {A : Type 0} → (A → Bool) → List A → ℕ
tally f [] = 0
tally f (x ∷ xs) = cond (f x) (1 + tally f xs) (tally f xs)

tally-is : {A : Type 0} → (f : A → Bool) (xs : List A) → tally f xs ≡ count_by f xs
tally-is f xs = is_count_by (tally f) f refl (λ x ys. refl) xs

tally-step : {A : Type 0} → (f : A → Bool) (x : A) (xs : List A)
    → tally f (x ∷ xs) ≡ cond (f x) 1 0 + tally f xs
tally-step f x xs =
    elim (f x) as (λ b. cond b (1 + tally f xs) (tally f xs) ≡ cond b 1 0 + tally f xs)
    [ true ↦ refl | false ↦ sym (zero-add (tally f xs)) ]

run-tally : (ps : List Numbered) (r s : DraftData) → run r ps ≡ Some s
    → depth s + tally is_leaving ps ≡ depth r + tally is_entering ps
run-tally [] r s e = let k : r ≡ s = cc in ap (λ (t : DraftData). depth t + 0) (sym k)
run-tally (p ∷ ps) r s e =
    let c = then-some (step p.0 r p.1) (λ t. run t ps) s e in
    let one = part-depth p.0 r c.0 p.1 c.1 in
    let more = run-tally ps c.0 s c.2 in
    let a = tally-step is_leaving p ps in
    let b = tally-step is_entering p ps in
    omega (arith, one, more, a, b)

run-depth : (ps : List Numbered) (s : DraftData) → run empty_draft ps ≡ Some s
    → depth s + count_by is_leaving ps ≡ count_by is_entering ps
run-depth ps s e =
    let h = run-tally ps empty_draft s e in
    let a = tally-is is_leaving ps in
    let b = tally-is is_entering ps in
    omega (arith, h, a, b)

deep-so : (ls : List TextLine) (s : DraftData) → run empty_draft (all_parts ls) ≡ Some s
    → most_open < depth s
    → IsDeep ls
deep-so ls s e h = let k = run-depth (all_parts ls) s e in omega (arith, k, h)

shallow-so : (ls : List TextLine) (s : DraftData) → run empty_draft (all_parts ls) ≡ Some s
    → depth s ≤ most_open → IsDeep ls → ⊥
shallow-so ls s e h d = let k = run-depth (all_parts ls) s e in omega (arith, k, h, d)

-- a part that is no instruction leaves the parentheses as they are
quiet-part : (n : ℕ) (p : LineContent) → is_instruction p ≡ false
    → (is_leaving (n, p) ≡ false) × (is_entering (n, p) ≡ false)
quiet-part n (action_part a) h = absurd (false≢true (sym h))
quiet-part n (parenthesis_start o g) h = absurd (false≢true (sym h))
quiet-part n parenthesis_end h = absurd (false≢true (sym h))
quiet-part n i h = (refl, refl)

quiet-sum : (a b : ℕ) (p q : Bool) → p ≡ false → q ≡ false → a + cond p 1 0 ≡ b + cond q 1 0 → a ≡ b
quiet-sum a b p q e f h = let k : a + 0 ≡ b + 0 = rw (e, f) at h in omega (arith, k)

quiet-depth : (n : ℕ) (ps : List LineContent) (r s : DraftData) → has_instruction ps ≡ false
    → steps n r ps ≡ Some s → depth s ≡ depth r
unfolding steps
quiet-depth n [] r s h e = let k : r ≡ s = cc in ap depth (sym k)
quiet-depth n (p ∷ ps) r s h e =
    let q = or_parts (is_instruction p) (has_instruction ps) h in
    let c = then-some (step n r p) (λ t. steps n t ps) s e in
    let one = part-depth n r c.0 p c.1 in
    let f = quiet-part n p q.0 in
    let same : depth c.0 ≡ depth r = quiet-sum (depth c.0) (depth r) _ _ f.0 f.1 one in
    (unfold steps in quiet-depth n ps c.0 s q.1 c.2) ∙ same

steps-run : (n : ℕ) (ps : List LineContent) (r : DraftData)
    → run r (numbered_parts (n, ps)) ≡ steps n r ps
unfolding steps
steps-run n [] r = refl
steps-run n (p ∷ ps) r =
    and-then-same (step n r p) (λ s. run s (numbered_parts (n, ps))) (λ s. steps n s ps)
    (λ s. unfold steps in steps-run n ps s)

-- the lines with one more
line-run : (before : List TextLine) (n : ℕ) (ps : List LineContent) (r : DraftData)
    → run empty_draft (all_parts before) ≡ Some r
    → run empty_draft (all_parts (before ++ (n, ps) ∷ [])) ≡ steps n r ps
line-run before n ps r e =
    ap (run empty_draft) (flat-one numbered_parts before (n, ps))
    ∙ run-append (all_parts before) (numbered_parts (n, ps)) empty_draft
    ∙ ap (option_and_then (λ s. run s (numbered_parts (n, ps)))) e
    ∙ steps-run n ps r

-- how many lines hold an instruction
abbrev holds : TextLine → Bool
holds l = has_instruction l.1

tally-more : (before : List TextLine) (l : TextLine)
    → tally holds (before ++ l ∷ []) ≡ tally holds before + cond (holds l) 1 0
tally-more [] l = tally-step holds l [] ∙ omega arith
tally-more (k ∷ before) l =
    let a = tally-step holds k (before ++ l ∷ []) in
    let b = tally-step holds k before in
    let m = tally-more before l in
    omega (arith, a, b, m)

count-more : (before : List TextLine) (l : TextLine)
    → count_by holds (before ++ l ∷ []) ≡ count_by holds before + cond (holds l) 1 0
count-more before l =
    sym (tally-is holds (before ++ l ∷ [])) ∙ tally-more before l
    ∙ ap (λ (n : ℕ). n + cond (holds l) 1 0) (tally-is holds before)

-- what is known after allowed lines
record After (before : List TextLine) (r : Progress) : Type 0 where
  runs : run empty_draft (all_parts before) ≡ Some r.draft
  count : r.instructions ≡ count_by holds before
  short : r.instructions ≤ most_instructions
  shallow : depth r.draft ≤ most_open

abbrev is_finished : Stage → Bool
is_finished stage.Finished = true
is_finished other = false

not-finished : (before : List TextLine) (s : DraftData) (p : Stage) → p ≡ s.stage
    → is_finished p ≡ false
    → run empty_draft (all_parts before) ≡ Some s
    → (program : PlainProgram) → Derives (all_parts before) program → ⊥
not-finished before s p e f h program d =
    let k = derived-runs (all_parts before) program d in
    let same : s ≡ state stage.Finished program.name program.declarations program.items [] =
    same_Some _ _ (sym h ∙ k) in
    let q : p ≡ stage.Finished = e ∙ ap (λ (t : DraftData). t.stage) same in
    false≢true (sym f ∙ ap is_finished q)

ends-so : (last : ℕ) (before : List TextLine) (s : DraftData) (p : Stage) → p ≡ s.stage
    → run empty_draft (all_parts before) ≡ Some s → EndsText last before (program_at_stage last s p)
ends-so last before s stage.Start e h = (not-finished before s stage.Start e refl h, refl)
ends-so last before s stage.Declarations e h =
    (not-finished before s stage.Declarations e refl h, refl)
ends-so last before s (stage.Block scope) e h =
    (not-finished before s (stage.Block scope) e refl h, refl)
ends-so last before s stage.Body e h = (not-finished before s stage.Body e refl h, refl)
ends-so last before s stage.Finished e h = ended-derives (all_parts before) s h (sym e)

-- what a line's parts make, and what the lines behind it read as
abbrev Going : ℕ → List TextLine → ℕ → List (List LexemeData) → Result PlainProgram TextFault
    → List LineContent
    → Type 0
Going last before n ls x ps =
    (AreAllowed (before ++ (n, ps) ∷ []) × ReadsLines last (before ++ (n, ps) ∷ []) (n + 1) ls x)
    ⊎ IsFaultyLine last n (before ++ (n, ps) ∷ []) x

abbrev rest : ℕ → ℕ → List (List LexemeData) → Progress → Result PlainProgram TextFault
rest last n ls s = program_of_lines last s (n + 1) ls

-- all that is to be shown of the lines behind
abbrev More : ℕ → ℕ → List (List LexemeData) → Type 0
More last n ls =
    (b : List TextLine) (s : Progress) → After b s → ReadsLines last b (n + 1) ls (rest last n ls s)

goes-quiet : (last n instr : ℕ) (before : List TextLine) (ls : List (List LexemeData))
    (ps : List LineContent)
    (s : DraftData) → More last n ls
    → run empty_draft (all_parts (before ++ (n, ps) ∷ [])) ≡ Some s → has_instruction ps ≡ false
    → instr ≡ count_by holds before → instr ≤ most_instructions → depth s ≤ most_open
    → Going last before n ls (rest last n ls (record { draft = s; instructions = instr })) ps
goes-quiet last n instr before ls ps s f h q c k d =
    let m = count-more before (n, ps) in
    let z : ◌≡◌ {A = ℕ} (cond (has_instruction ps) 1 0) 0 = rw q refl in
    let t : instr ≡ count_by holds (before ++ (n, ps) ∷ []) = omega (arith, m, z, c) in
    inl (
      record {
        is_prefix = is_prefix _ s h;
        shallow = shallow-so (before ++ (n, ps) ∷ []) s h d;
        short = λ long. absurd (omega (arith, t, k, long));
      },
      f (before ++ (n, ps) ∷ []) (record { draft = s; instructions = instr })
          (record { runs = h; count = t; short = k; shallow = d }),
    )

counts-so : (last n instr : ℕ) (before : List TextLine) (ls : List (List LexemeData))
    (ps : List LineContent)
    (s : DraftData) (b : Bool) → More last n ls
    → run empty_draft (all_parts (before ++ (n, ps) ∷ [])) ≡ Some s → has_instruction ps ≡ true
    → instr ≡ count_by holds before → ltb instr most_instructions ≡ b → depth s ≤ most_open
    → Going last before n ls
    (cond b (Ok (record { draft = s; instructions = instr + 1 }))
    (Err (past_limit n last (TooLong n))) >>= rest last n ls) ps
counts-so last n instr before ls ps s true f h q c t d =
    let m = count-more before (n, ps) in
    let z : ◌≡◌ {A = ℕ} (cond (has_instruction ps) 1 0) 1 = rw q refl in
    let u : instr + 1 ≡ count_by holds (before ++ (n, ps) ∷ []) = omega (arith, m, z, c) in
    let k : instr < most_instructions = ltb-true _ _ t in
    let fits : instr + 1 ≤ most_instructions = omega (arith, k) in
    inl (
      record {
        is_prefix = is_prefix _ s h;
        shallow = shallow-so (before ++ (n, ps) ∷ []) s h d;
        short = λ long. absurd (omega (arith, u, fits, long));
      },
      f (before ++ (n, ps) ∷ []) (record { draft = s; instructions = instr + 1 })
          (record { runs = h; count = u; short = fits; shallow = d }),
    )
counts-so last n instr before ls ps s false f h q c t d =
    let m = count-more before (n, ps) in
    let z : ◌≡◌ {A = ℕ} (cond (has_instruction ps) 1 0) 1 = rw q refl in
    let k : most_instructions ≤ instr = ltb-false _ _ t in
    inr (too_long (is_prefix _ s h) (shallow-so (before ++ (n, ps) ∷ []) s h d)
    (omega (arith, m, z, c, k)) refl)

bounded-so : (last n instr : ℕ) (before : List TextLine) (ls : List (List LexemeData))
    (ps : List LineContent)
    (s : DraftData) (b : Bool) → More last n ls
    → run empty_draft (all_parts (before ++ (n, ps) ∷ [])) ≡ Some s → has_instruction ps ≡ true
    → instr ≡ count_by holds before → leb (depth s) most_open ≡ b
    → Going last before n ls
    (cond b (with_instruction n last instr s) (Err (past_limit n last (TooDeep n)))
    >>= rest last n ls)
    ps
bounded-so last n instr before ls ps s true f h q c t =
    counts-so last n instr before ls ps s (ltb instr most_instructions) f h q c refl
    (leb-true _ _ t)
bounded-so last n instr before ls ps s false f h q c t =
    let k : most_open < depth s = leb-false _ _ t in
    inr (too_deep (is_prefix _ s h) (deep-so (before ++ (n, ps) ∷ []) s h k) refl)

limited-so : (last n : ℕ) (before : List TextLine) (r : Progress) (ls : List (List LexemeData))
    (ps : List LineContent)
    (s : DraftData) (b : Bool) → More last n ls → After before r
    → run empty_draft (all_parts (before ++ (n, ps) ∷ [])) ≡ Some s → steps n r.draft ps ≡ Some s
    → has_instruction ps ≡ b
    → Going last before n ls
    (cond b (after_instruction n last r.instructions s)
    (Ok (record { draft = s; instructions = r.instructions })) >>= rest last n ls) ps
unfolding after_instruction
limited-so last n before r ls ps s true f a h e q =
    bounded-so last n r.instructions before ls ps s (leb (depth s) most_open) f h q a.count refl
limited-so last n before r ls ps s false f a h e q =
    let d = quiet-depth n ps r.draft s q e in
    goes-quiet last n r.instructions before ls ps s f h q a.count a.short
    (omega (arith, d, a.shallow))

stepped-so : (last n : ℕ) (before : List TextLine) (r : Progress) (ls : List (List LexemeData))
    (ps : List LineContent)
    (o : Option DraftData) → More last n ls → After before r
    → steps n r.draft ps ≡ o
    → Going last before n ls (after_text_line n last r.instructions ps o >>= rest last n ls) ps
stepped-so last n before r ls ps None f a e =
    inr (no_program (stops (all_parts (before ++ (n, ps) ∷ []))
    (line-run before n ps r.draft a.runs ∙ e)) refl)
stepped-so last n before r ls ps (Some s) f a e =
    limited-so last n before r ls ps s (has_instruction ps) f a
    (line-run before n ps r.draft a.runs ∙ e) e refl

parts-so : (last n : ℕ) (before : List TextLine) (r : Progress) (ls : List (List LexemeData))
    (o : Option (List LineContent)) → More last n ls → After before r
    → ReadsParts n (Going last before n ls (after_parts n last r o >>= rest last n ls)) o
    (after_parts n last r o >>= rest last n ls)
parts-so last n before r ls None f a = refl
parts-so last n before r ls (Some ps) f a =
    stepped-so last n before r ls ps (steps n r.draft ps) f a refl

tokens-so : (last n : ℕ) (before : List TextLine) (r : Progress) (ls : List (List LexemeData))
    (t : Result (List Symbol) TextFault) → More last n ls → After before r
    → ReadsTokens n (Going last before n ls
    (t >>= (λ ts. after_line n last r ts >>= rest last n ls)))
    t (t >>= (λ ts. after_line n last r ts >>= rest last n ls))
unfolding after_line
tokens-so last n before r ls (Err e) f a = refl
tokens-so last n before r ls (Ok ts) f a = parts-so last n before r ls (parts_of ts) f a

reads-so : (last : ℕ) (before : List TextLine) (r : Progress) (n : ℕ) (ls : List (List LexemeData))
    → After before r → ReadsLines last before n ls (program_of_lines last r n ls)
unfolding program_of_lines
reads-so last before r n [] a = ends-so last before r.draft r.draft.stage refl a.runs
reads-so last before r n (l ∷ ls) a =
    tokens-so last n before r ls (tokens_of n l)
    (λ b s k. unfold program_of_lines in reads-so last b s (n + 1) ls k) a

-- the program that is found, or the fault, is what the text reads as
pub text-reads : (text : List ℕ) → ReadsAs text (program_of text)
unfolding program_of ReadsAs
text-reads text =
    reads-so (last_line text) [] no_progress 1 (lines (text_lexemes false text))
    (record { runs = refl; count = refl; short = omega arith; shallow = omega arith })
