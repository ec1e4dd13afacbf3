-- What the grammar derives is reached: the parts of a program are taken one after the other.
use Rattle.std.proofs.Common.{arith}
use Rattle.std.proofs.lemmas.Grind.{common_steps}
use Rattle.std.proofs.Common.{◌≡◌, ℕ, ◌&&◌, ◌||◌, Bool, true, false, List, [], ◌∷◌, ◌++◌, Option, Some, None, map, refl, sym, ap, subst, ◌∙◌, append-nil, append_assoc}
use Rattle.std.specs.List.{flat_map, list_all}
use Rattle.std.specs.Option.{is_none}
use Rattle.std.proofs.Math.Bool.{or-true}
use Rattle.std.proofs.lemmas.Bool.{false≢true, or_left, and_parts}
use Rattle.il_text.specs.Grammar.{Numbered, Declaration, Block, declaration_part, block_parts, names_declared, block_declared, may_declare, is_allowed, entry_parts, entries_parts, is_plain, is_first, is_inner, all_inner, is_parenthesis, is_outer, Derives}
use Rattle.il_text.specs.Listing.{Action, Entry, label, action, block, Entries, no_entries, entry, entries_of, DeclaredName, PlainProgram}
use Rattle.il_text.specs.Parts.{LineContent, program_start, block_start, names_part, block_end, label_part, action_part, parenthesis_start, parenthesis_end, program_end}
use Rattle.il_text.specs.Steps.{Parenthesis, DraftData, empty_draft, is_body, is_outside, has_entries, is_load, may_begin_with, may_follow, may_have_instruction, may_enter, may_leave, step}
use Rattle.il_text.specs.declared.listing.Stage.{Stage}
use Rattle.il_text.specs.declared.listing.Stage.TheVariants as stage
use Rattle.il_text.specs.declared.program.Literal.{Literal}
use Rattle.il_text.specs.declared.program.Operator.{Operator}
use Rattle.il_text.specs.declared.program.VariableScope.{VariableScope}
use Rattle.il_text.specs.declared.program.VariableScope.TheVariants.{Local, External}
use Rattle.il_text.proofs.GrammarLemmas.{run}

-- what is reached, with all that was read till then
abbrev pub state : Stage → List ℕ → List DeclaredName → List Entry → List Parenthesis → DraftData
state p name ds es fs =
    record { stage = p; name = name; declarations = ds; items = es; parentheses = fs }

pub run-step : (n : ℕ) (r s : DraftData) (p : LineContent) (ps : List Numbered)
    → step n r p ≡ Some s
    → run r ((n, p) ∷ ps) ≡ run s ps
run-step n r s p ps e = rw e refl

abbrev list_of : Entries → List Entry
list_of no_entries = []
list_of (entry e es) = e ∷ list_of es

entries-list : (es : Entries) → entries_of (list_of es) ≡ es
entries-list no_entries = refl
entries-list (entry e es) = ap (entry e) (entries-list es)

first-is : (n : ℕ) (a : Action) → is_first (action n a) ≡ is_load a
first-is n a = grind (arith, common_steps)

label-step : (n : ℕ) (l name : List ℕ) (p : Stage) (ds : List DeclaredName) (is : List Entry)
    → is_body p ≡ true
    → step n (state p name ds is []) (label_part l)
    ≡ Some (state stage.Body name ds (is ++ label n l ∷ []) [])
unfolding step may_follow
label-step n l name p ds is b = rw b refl

act-step : (n : ℕ) (a : Action) (name : List ℕ) (p : Stage) (ds : List DeclaredName)
    (is : List Entry)
    → is_body p ≡ true
    → step n (state p name ds is []) (action_part a)
    ≡ Some (state stage.Body name ds (is ++ action n a ∷ []) [])
unfolding step may_have_instruction
act-step n a name p ds is b = rw b refl

act-inside : (n : ℕ) (a : Action) (name : List ℕ) (ds : List DeclaredName) (is : List Entry)
    (fs : List Parenthesis) → is_plain a ≡ true → has_entries is || is_first (action n a) ≡ true
    → step n (state stage.Body name ds is fs) (action_part a)
    ≡ Some (state stage.Body name ds (is ++ action n a ∷ []) fs)
unfolding step may_have_instruction
act-inside n a name ds is fs i k =
    let q : has_entries is || is_load a ≡ true =
    subst (λ (b : Bool). has_entries is || b ≡ true) (first-is n a) k in
    rw (i, q, or-true (is_outside fs)) refl

abbrev opened_by : ℕ → Operator → Bool → List Entry → Parenthesis
opened_by n o g is = record { line = n; operator = o; negated = g; outer = is }

enter-step : (n : ℕ) (o : Operator) (g : Bool) (name : List ℕ) (p : Stage) (ds : List DeclaredName)
    (is : List Entry) (fs : List Parenthesis) → is_body p ≡ true
    → is_outside fs || has_entries is ≡ true
    → step n (state p name ds is fs) (parenthesis_start o g)
    ≡ Some (state stage.Body name ds [] (opened_by n o g is ∷ fs))
unfolding step may_enter
enter-step n o g name p ds is fs b k = rw (b, k) refl

leave-step : (n m : ℕ) (o : Operator) (g : Bool) (name : List ℕ) (ds : List DeclaredName)
    (is : List Entry) (e : Entry) (es : List Entry) (fs : List Parenthesis)
    → step m (state stage.Body name ds (e ∷ es) (opened_by n o g is ∷ fs)) parenthesis_end
    ≡ Some (state stage.Body name ds (is ++ block n o g (entries_of (e ∷ es)) m ∷ []) fs)
unfolding step may_leave
leave-step n m o g name ds is e es fs = refl

-- a whole parenthesis, where its entries are taken
block-runs : (n m : ℕ) (o : Operator) (g : Bool) (es : Entries) (name : List ℕ) (p : Stage)
    (ds : List DeclaredName) (is : List Entry) (fs : List Parenthesis) (ps : List Numbered)
    → is_body p ≡ true → is_outside fs || has_entries is ≡ true → is_parenthesis es ≡ true
    → run (state stage.Body name ds [] (opened_by n o g is ∷ fs))
    (entries_parts es ++ (m, parenthesis_end) ∷ ps)
    ≡ run (state stage.Body name ds (list_of es) (opened_by n o g is ∷ fs))
    ((m, parenthesis_end) ∷ ps)
    → run (state p name ds is fs) (entry_parts (block n o g es m) ++ ps)
    ≡ run (state stage.Body name ds (is ++ block n o g es m ∷ []) fs) ps
block-runs n m o g no_entries name p ds is fs ps b k i h = absurd (false≢true i)
block-runs n m o g (entry e es) name p ds is fs ps b k i h =
    run-step n (state p name ds is fs) (state stage.Body name ds [] (opened_by n o g is ∷ fs))
    (parenthesis_start o g) ((entries_parts (entry e es) ++ (m, parenthesis_end) ∷ []) ++ ps)
    (enter-step n o g name p ds is fs b k)
    ∙ ap (run (state stage.Body name ds [] (opened_by n o g is ∷ fs)))
    (append_assoc (entries_parts (entry e es)) ((m, parenthesis_end) ∷ []) ps)
    ∙ h
    ∙ run-step m (state stage.Body name ds (e ∷ list_of es) (opened_by n o g is ∷ fs))
    (state stage.Body name ds (is ++ block n o g (entries_of (e ∷ list_of es)) m ∷ []) fs)
    parenthesis_end ps
    (leave-step n m o g name ds is e (list_of es) fs)
    ∙ ap (λ (x : Entries). run (state stage.Body name ds (is ++ block n o g x m ∷ []) fs) ps)
    (ap (entry e) (entries-list es))

pub some-more : (is : List Entry) (e : Entry) → has_entries (is ++ e ∷ []) ≡ true
some-more [] e = refl
some-more (d ∷ is) e = refl

abbrev starts : Entries → Bool
starts no_entries = true
starts (entry e es) = is_first e

or-none : (b : Bool) → b || false ≡ true → b ≡ true
or-none true h = refl
or-none false h = h

parenthesis-starts : (es : Entries) → is_parenthesis es ≡ true
    → (starts es ≡ true) × (all_inner es ≡ true)
parenthesis-starts no_entries h = absurd (false≢true h)
parenthesis-starts (entry e es) h = and_parts (is_first e) (is_inner e && all_inner es) h

mutual
  -- an entry of a parenthesis
  entry-inside : (e : Entry) (name : List ℕ) (ds : List DeclaredName) (is : List Entry)
      (fs : List Parenthesis) (ps : List Numbered) → is_inner e ≡ true
      → has_entries is || is_first e ≡ true
      → run (state stage.Body name ds is fs) (entry_parts e ++ ps)
      ≡ run (state stage.Body name ds (is ++ e ∷ []) fs) ps
  entry-inside (label n l) name ds is fs ps i k = absurd (false≢true i)
  entry-inside (action n a) name ds is fs ps i k =
      run-step n (state stage.Body name ds is fs)
      (state stage.Body name ds (is ++ action n a ∷ []) fs) (action_part a) ps
      (act-inside n a name ds is fs i k)
  entry-inside (block n o g es m) name ds is fs ps i k =
      let s = parenthesis-starts es i in
      block-runs n m o g es name stage.Body ds is fs ps refl
      (rw (or-none (has_entries is) k) (or-true (is_outside fs))) i
      (entries-inside es name ds [] (opened_by n o g is ∷ fs) ((m, parenthesis_end) ∷ ps) s.1 s.0)

  entries-inside : (es : Entries) (name : List ℕ) (ds : List DeclaredName) (is : List Entry)
      (fs : List Parenthesis) (ps : List Numbered) → all_inner es ≡ true
      → has_entries is || starts es ≡ true
      → run (state stage.Body name ds is fs) (entries_parts es ++ ps)
      ≡ run (state stage.Body name ds (is ++ list_of es) fs) ps
  entries-inside no_entries name ds is fs ps i k =
      ap (λ (x : List Entry). run (state stage.Body name ds x fs) ps) (sym (append-nil is))
  entries-inside (entry e es) name ds is fs ps i k =
      let a = and_parts (is_inner e) (all_inner es) i in
      ap (run (state stage.Body name ds is fs)) (append_assoc (entry_parts e) (entries_parts es) ps)
      ∙ entry-inside e name ds is fs (entries_parts es ++ ps) a.0 k
      ∙ entries-inside es name ds (is ++ e ∷ []) fs ps a.1 (or_left _ (starts es) (some-more is e))
      ∙ ap (λ (x : List Entry). run (state stage.Body name ds x fs) ps)
      (append_assoc is (e ∷ []) (list_of es))

-- an entry of the body
entry-outside : (e : Entry) (name : List ℕ) (p : Stage) (ds : List DeclaredName) (is : List Entry)
    (ps : List Numbered) → is_body p ≡ true → is_outer e ≡ true
    → run (state p name ds is []) (entry_parts e ++ ps)
    ≡ run (state stage.Body name ds (is ++ e ∷ []) []) ps
entry-outside (label n l) name p ds is ps b i =
    run-step n (state p name ds is []) (state stage.Body name ds (is ++ label n l ∷ []) [])
    (label_part l) ps (label-step n l name p ds is b)
entry-outside (action n a) name p ds is ps b i =
    run-step n (state p name ds is []) (state stage.Body name ds (is ++ action n a ∷ []) [])
    (action_part a) ps (act-step n a name p ds is b)
entry-outside (block n o g es m) name p ds is ps b i =
    let s = parenthesis-starts es i in
    block-runs n m o g es name p ds is [] ps b refl i
    (entries-inside es name ds [] (opened_by n o g is ∷ []) ((m, parenthesis_end) ∷ ps) s.1 s.0)

items-run : (es : List Entry) (name : List ℕ) (p : Stage) (ds : List DeclaredName) (is : List Entry)
    (ps : List Numbered) → is_body p ≡ true → list_all is_outer es ≡ true
    → (q : Stage) × (is_body q ≡ true)
    × (run (state p name ds is []) (flat_map entry_parts es ++ ps)
    ≡ run (state q name ds (is ++ es) []) ps)
items-run [] name p ds is ps b i =
    (p, b, ap (λ (x : List Entry). run (state p name ds x []) ps) (sym (append-nil is)))
items-run (e ∷ es) name p ds is ps b i =
    let a = and_parts (is_outer e) (list_all is_outer es) i in
    let k = items-run es name stage.Body ds (is ++ e ∷ []) ps refl a.1 in (
      k.0,
      k.1,
      ap (run (state p name ds is [])) (append_assoc (entry_parts e) (flat_map entry_parts es) ps)
          ∙ entry-outside e name p ds is (flat_map entry_parts es ++ ps) b a.0
          ∙ k.2
          ∙ ap (λ (x : List Entry). run (state k.0 name ds x []) ps) (append_assoc is (e ∷ []) es),
    )

none-initial : (o : Option Literal) → is_none o ≡ true → may_begin_with External o ≡ true
none-initial None h = refl
none-initial (Some x) h = absurd (false≢true h)

begins : (scope : VariableScope) (d : Declaration) → may_declare scope d ≡ true
    → may_begin_with scope d.initial ≡ true
begins Local d h = refl
begins External d h = none-initial d.initial h

declare-step : (d : Declaration) (scope : VariableScope) (name : List ℕ) (ds : List DeclaredName)
    → may_declare scope d ≡ true
    → step d.line (state (stage.Block scope) name ds [] []) (names_part d.names d.kind d.initial)
    ≡ Some (state (stage.Block scope) name (ds ++ names_declared scope d) [] [])
unfolding step
declare-step d scope name ds h = rw (begins scope d h) refl

declarations-run : (dls : List Declaration) (scope : VariableScope) (name : List ℕ)
    (ds : List DeclaredName)
    (ps : List Numbered) → list_all (may_declare scope) dls ≡ true
    → run (state (stage.Block scope) name ds [] []) (map declaration_part dls ++ ps)
    ≡ run (state (stage.Block scope) name (ds ++ flat_map (names_declared scope) dls) [] []) ps
declarations-run [] scope name ds ps h =
    ap (λ (x : List DeclaredName). run (state (stage.Block scope) name x [] []) ps)
    (sym (append-nil ds))
declarations-run (d ∷ dls) scope name ds ps h =
    let a = and_parts (may_declare scope d) (list_all (may_declare scope) dls) h in
    run-step d.line (state (stage.Block scope) name ds [] [])
    (state (stage.Block scope) name (ds ++ names_declared scope d) [] [])
    (names_part d.names d.kind d.initial) (map declaration_part dls ++ ps)
    (declare-step d scope name ds a.0)
    ∙ declarations-run dls scope name (ds ++ names_declared scope d) ps a.1
    ∙ ap (λ (x : List DeclaredName). run (state (stage.Block scope) name x [] []) ps)
    (append_assoc ds (names_declared scope d) (flat_map (names_declared scope) dls))

open-step : (n : ℕ) (scope : VariableScope) (name : List ℕ) (ds : List DeclaredName)
    → step n (state stage.Declarations name ds [] []) (block_start scope)
    ≡ Some (state (stage.Block scope) name ds [] [])
unfolding step
open-step n scope name ds = refl

pub close-step : (n : ℕ) (scope : VariableScope) (name : List ℕ) (ds : List DeclaredName)
    → step n (state (stage.Block scope) name ds [] []) block_end
    ≡ Some (state stage.Declarations name ds [] [])
unfolding step
close-step n scope name ds = refl

one-block : (b : Block) (name : List ℕ) (ds : List DeclaredName) (ps : List Numbered)
    → is_allowed b ≡ true
    → run (state stage.Declarations name ds [] []) (block_parts b ++ ps)
    ≡ run (state stage.Declarations name (ds ++ block_declared b) [] []) ps
one-block b name ds ps h =
    run-step b.line (state stage.Declarations name ds [] [])
    (state (stage.Block b.scope) name ds [] []) (block_start b.scope)
    ((map declaration_part b.declarations ++ (b.end, block_end) ∷ []) ++ ps)
    (open-step b.line b.scope name ds)
    ∙ ap (run (state (stage.Block b.scope) name ds [] []))
    (append_assoc (map declaration_part b.declarations) ((b.end, block_end) ∷ []) ps)
    ∙ declarations-run b.declarations b.scope name ds ((b.end, block_end) ∷ ps) h
    ∙ run-step b.end (state (stage.Block b.scope) name (ds ++ block_declared b) [] [])
    (state stage.Declarations name (ds ++ block_declared b) [] []) block_end ps
    (close-step b.end b.scope name (ds ++ block_declared b))

blocks-run : (bs : List Block) (name : List ℕ) (ds : List DeclaredName) (ps : List Numbered)
    → list_all is_allowed bs ≡ true
    → run (state stage.Declarations name ds [] []) (flat_map block_parts bs ++ ps)
    ≡ run (state stage.Declarations name (ds ++ flat_map block_declared bs) [] []) ps
blocks-run [] name ds ps h =
    ap (λ (x : List DeclaredName). run (state stage.Declarations name x [] []) ps)
    (sym (append-nil ds))
blocks-run (b ∷ bs) name ds ps h =
    let a = and_parts (is_allowed b) (list_all is_allowed bs) h in
    ap (run (state stage.Declarations name ds [] []))
    (append_assoc (block_parts b) (flat_map block_parts bs) ps)
    ∙ one-block b name ds (flat_map block_parts bs ++ ps) a.0
    ∙ blocks-run bs name (ds ++ block_declared b) ps a.1
    ∙ ap (λ (x : List DeclaredName). run (state stage.Declarations name x [] []) ps)
    (append_assoc ds (block_declared b) (flat_map block_declared bs))

heading-step : (n : ℕ) (name : List ℕ)
    → step n empty_draft (program_start name) ≡ Some (state stage.Declarations name [] [] [])
unfolding step
heading-step n name = refl

pub ending-step : (n : ℕ) (name : List ℕ) (p : Stage) (ds : List DeclaredName) (is : List Entry)
    → is_body p ≡ true
    → step n (state p name ds is []) program_end ≡ Some (state stage.Finished name ds is [])
unfolding step may_follow
ending-step n name p ds is b = rw b refl

-- the parts of a program reach its end
pub derived-runs : (ps : List Numbered) (p : PlainProgram) → Derives ps p
    → run empty_draft ps ≡ Some (state stage.Finished p.name p.declarations p.items [])
derived-runs ps p d =
    let ds : List DeclaredName = flat_map block_declared d.blocks in
    let k = items-run p.items p.name stage.Declarations ds [] ((d.end, program_end) ∷ []) refl
    d.items_allowed in
    ap (run empty_draft) d.parts
    ∙ run-step d.first empty_draft (state stage.Declarations p.name [] [] []) (program_start p.name)
    (flat_map block_parts d.blocks ++ (flat_map entry_parts p.items ++ (d.end, program_end) ∷ []))
    (heading-step d.first p.name)
    ∙ blocks-run d.blocks p.name [] (flat_map entry_parts p.items ++ (d.end, program_end) ∷ [])
    d.blocks_allowed
    ∙ k.2
    ∙ run-step d.end (state k.0 p.name ds p.items []) (state stage.Finished p.name ds p.items [])
    program_end [] (ending-step d.end p.name k.0 ds p.items k.1)
    ∙ ap (λ (x : List DeclaredName). Some (state stage.Finished p.name x p.items []))
    (sym d.declared)
