-- What parts reach is what the grammar derives: each part that is taken is the next of the
-- grammar's.
use Rattle.std.proofs.Common.{◌≡◌, ℕ, ◌&&◌, ◌||◌, Bool, true, false, cond, List, [], ◌∷◌, ◌++◌, Option, Some, None, option_and_then, map, refl, sym, ap, subst, ◌∙◌, append-nil, append_assoc}
use Rattle.std.proofs.lemmas.Option.{cond_some}
use Rattle.std.specs.List.{flat_map, list_all}
use Rattle.std.specs.Option.{is_none}
use Rattle.std.proofs.lemmas.Bool.{false≢true, and_parts, and_from}
use Rattle.std.proofs.lemmas.Grind.{flat_map-append}
use Rattle.std.proofs.lemmas.List.{map-append}
use Rattle.il_text.specs.Grammar.{Numbered, Declaration, Block, declaration_part, block_parts, names_declared, block_declared, may_declare, is_allowed, entry_parts, entries_parts, is_plain, is_first, is_inner, all_inner, is_parenthesis, is_outer, Derives}
use Rattle.il_text.specs.Listing.{Action, load, Entry, label, action, block, Entries, entries_of, DeclaredName}
use Rattle.il_text.specs.Parts.{LineContent, program_start, block_start, names_part, block_end, label_part, action_part, parenthesis_start, parenthesis_end, program_end}
use Rattle.il_text.specs.Reading.{draft_program}
use Rattle.il_text.specs.Steps.{Parenthesis, DraftData, empty_draft, at_stage, with_name, declared_in, with_declarations, with_item, with_opened, with_closed, is_start, is_between_blocks, block_scope, is_body, is_outside, has_entries, is_load, may_begin_with, after_declaration, closed_block, may_follow, may_have_instruction, may_enter, may_leave, after_parenthesis, step}
use Rattle.il_text.specs.declared.listing.Stage.{Stage}
use Rattle.il_text.specs.declared.listing.Stage.TheVariants as stage
use Rattle.il_text.specs.declared.program.DeclaredType.{DeclaredType}
use Rattle.il_text.specs.declared.program.Literal.{Literal}
use Rattle.il_text.specs.declared.program.Operator.{Operator}
use Rattle.il_text.specs.declared.program.VariableScope.{VariableScope}
use Rattle.il_text.specs.declared.program.VariableScope.TheVariants.{Local, External}

-- parts one after the other, each with its line
abbrev pub run : DraftData → List Numbered → Option DraftData
run r [] = Some r
run r (p ∷ ps) = option_and_then (λ s. run s ps) (step p.0 r p.1)

-- the parts of the open parentheses, up to the operator of the innermost
abbrev pub opened_parts : List Parenthesis → List Numbered
opened_parts [] = []
opened_parts (f ∷ fs) =
    opened_parts fs ++ (flat_map entry_parts f.outer
    ++ (f.line, parenthesis_start f.operator f.negated) ∷ [])

abbrev pub body_parts : DraftData → List Numbered
body_parts r = opened_parts r.parentheses ++ flat_map entry_parts r.items

abbrev pub starts_right : List Entry → Bool
starts_right [] = true
starts_right (e ∷ es) = is_first e

abbrev pub items_right : List Parenthesis → List Entry → Bool
items_right [] es = list_all is_outer es
items_right (f ∷ fs) es = starts_right es && list_all is_inner es

abbrev pub opened_right : List Parenthesis → Bool
opened_right [] = true
opened_right (f ∷ fs) =
    (is_outside fs || has_entries f.outer) && (items_right fs f.outer && opened_right fs)

-- the heading and the blocks
abbrev pub front : ℕ → List ℕ → List Block → List Numbered
front first name blocks = (first, program_start name) ∷ flat_map block_parts blocks

pub record InBody (ps : List Numbered) (r : DraftData) : Type 0 where
  pub first : ℕ
  pub blocks : List Block
  pub parts : ps ≡ front first r.name blocks ++ body_parts r
  pub declared : r.declarations ≡ flat_map block_declared blocks
  pub blocks_allowed : list_all is_allowed blocks ≡ true
  pub right : items_right r.parentheses r.items ≡ true
  pub opened : opened_right r.parentheses ≡ true

pub record InBlock (scope : VariableScope) (ps : List Numbered) (r : DraftData) : Type 0 where
  pub first : ℕ
  pub blocks : List Block
  pub line : ℕ
  pub declarations : List Declaration
  pub parts : ps ≡ front first r.name blocks
      ++ ((line, block_start scope) ∷ map declaration_part declarations)
  pub declared : r.declarations
      ≡ flat_map block_declared blocks ++ flat_map (names_declared scope) declarations
  pub blocks_allowed : list_all is_allowed blocks ≡ true
  pub allowed : list_all (may_declare scope) declarations ≡ true
  pub none : r.items ≡ []
  pub outside : r.parentheses ≡ []

pub record AtStart (ps : List Numbered) (r : DraftData) : Type 0 where
  pub parts : ps ≡ []
  pub none_declared : r.declarations ≡ []
  pub none : r.items ≡ []
  pub outside : r.parentheses ≡ []

pub record Between (ps : List Numbered) (r : DraftData) : Type 0 where
  pub body : InBody ps r
  pub none : r.items ≡ []
  pub outside : r.parentheses ≡ []

-- what has been read at a stage
abbrev pub ReachesAt : List Numbered → DraftData → Stage → Type 0
ReachesAt ps r stage.Start = AtStart ps r
ReachesAt ps r stage.Declarations = Between ps r
ReachesAt ps r (stage.Block scope) = InBlock scope ps r
ReachesAt ps r stage.Body = InBody ps r
ReachesAt ps r stage.Finished = Derives ps (draft_program r)

-- the parts reach this
abbrev pub Reaches : List Numbered → DraftData → Type 0
Reaches ps r = ReachesAt ps r r.stage

body-at : (ps : List Numbered) (r : DraftData) (p : Stage) → is_body p ≡ true → ReachesAt ps r p
    → InBody ps r
body-at ps r stage.Declarations h x = x.body
body-at ps r stage.Body h x = x
body-at ps r i h x = absurd (false≢true h)

start-at : (ps : List Numbered) (r : DraftData) (p : Stage) → is_start p ≡ true → ReachesAt ps r p
    → AtStart ps r
start-at ps r stage.Start h x = x
start-at ps r i h x = absurd (false≢true h)

between-at : (ps : List Numbered) (r : DraftData) (p : Stage) → is_between_blocks p ≡ true
    → ReachesAt ps r p → Between ps r
between-at ps r stage.Declarations h x = x
between-at ps r i h x = absurd (false≢true h)

block-at : (ps : List Numbered) (r : DraftData) (p : Stage) (scope : VariableScope)
    → block_scope p ≡ Some scope → ReachesAt ps r p → InBlock scope ps r
block-at ps r (stage.Block other) scope h x = let e : other ≡ scope =
    cc in subst (λ (k : VariableScope). InBlock k ps r) e x
block-at ps r i scope h x = cc

outside-is : (fs : List Parenthesis) → is_outside fs ≡ true → fs ≡ []
outside-is [] h = refl
outside-is (f ∷ fs) h = absurd (false≢true h)

all-more : {A : Type 0} → (f : A → Bool) (xs : List A) (x : A) → list_all f xs ≡ true → f x ≡ true
    → list_all f (xs ++ x ∷ []) ≡ true
all-more f [] x h k = rw k refl
all-more f (y ∷ xs) x h k = let p =
    and_parts (f y) (list_all f xs) h in and_from (f y) _ p.0 (all-more f xs x p.1 k)

pub flat-one : {X A : Type 0} → (f : X → List A) (xs : List X) (x : X)
    → flat_map f (xs ++ x ∷ []) ≡ flat_map f xs ++ f x
flat-one f xs x =
    flat_map-append f xs (x ∷ []) ∙ ap (λ (l : List _). flat_map f xs ++ l) (append-nil (f x))

pub entries-flat : (es : List Entry) → entries_parts (entries_of es) ≡ flat_map entry_parts es
entries-flat [] = refl
entries-flat (e ∷ es) = ap (λ (l : List Numbered). entry_parts e ++ l) (entries-flat es)

-- one more entry in the body
more-item : (ps : List Numbered) (r : DraftData) (e : Entry) → InBody ps r
    → items_right r.parentheses (r.items ++ e ∷ []) ≡ true
    → InBody (ps ++ entry_parts e) (with_item e r)
more-item ps r e b k = record {
  first = b.first;
  blocks = b.blocks;
  parts =
      ap (λ (l : List Numbered). l ++ entry_parts e) b.parts
      ∙ append_assoc (front b.first r.name b.blocks) (body_parts r) (entry_parts e)
      ∙ ap (λ (l : List Numbered). front b.first r.name b.blocks ++ l)
      (append_assoc (opened_parts r.parentheses) (flat_map entry_parts r.items) (entry_parts e)
      ∙ ap (λ (l : List Numbered). opened_parts r.parentheses ++ l)
      (sym (flat-one entry_parts r.items e)));
  declared = b.declared;
  blocks_allowed = b.blocks_allowed;
  right = k;
  opened = b.opened;
}

none-in-body : (r : DraftData) → r.items ≡ [] → r.parentheses ≡ [] → body_parts r ≡ []
none-in-body r h k = rw (h, k) refl

heading-taken : (n : ℕ) (name : List ℕ) (ps : List Numbered) (r : DraftData) → AtStart ps r
    → Between (ps ++ (n, program_start name) ∷ []) (with_name name r)
heading-taken n name ps r a = record {
  body = record {
    first = n;
    blocks = [];
    parts =
        ap (λ (l : List Numbered). l ++ (n, program_start name) ∷ []) a.parts
        ∙ sym (ap (λ (l : List Numbered). front n name [] ++ l) (none-in-body r a.none a.outside));
    declared = a.none_declared;
    blocks_allowed = refl;
    right = rw (a.outside, a.none) refl;
    opened = rw a.outside refl;
  };
  none = a.none;
  outside = a.outside;
}

opening-taken : (n : ℕ) (scope : VariableScope) (ps : List Numbered) (r : DraftData) → Between ps r
    → InBlock scope (ps ++ (n, block_start scope) ∷ []) (at_stage (stage.Block scope) r)
opening-taken n scope ps r a = record {
  first = a.body.first;
  blocks = a.body.blocks;
  line = n;
  declarations = [];
  parts =
      ap (λ (l : List Numbered). l ++ (n, block_start scope) ∷ [])
      (a.body.parts ∙ ap (λ (l : List Numbered). front a.body.first r.name a.body.blocks ++ l)
      (none-in-body r a.none a.outside) ∙ append-nil (front a.body.first r.name a.body.blocks));
  declared = a.body.declared ∙ sym (append-nil (flat_map block_declared a.body.blocks));
  blocks_allowed = a.body.blocks_allowed;
  allowed = refl;
  none = a.none;
  outside = a.outside;
}

initial-none : (o : Option Literal) → may_begin_with External o ≡ true → is_none o ≡ true
initial-none None h = refl
initial-none (Some x) h = absurd (false≢true h)

may-begin : (scope : VariableScope) (d : Declaration) → may_begin_with scope d.initial ≡ true
    → may_declare scope d ≡ true
may-begin Local d h = refl
may-begin External d h = initial-none d.initial h

declaring-taken : (n : ℕ) (ns : List (List ℕ)) (kind : DeclaredType) (initial : Option Literal)
    (scope : VariableScope) (ps : List Numbered) (r : DraftData) → InBlock scope ps r
    → may_begin_with scope initial ≡ true
    → InBlock scope (ps ++ (n, names_part ns kind initial) ∷ [])
    (with_declarations (map (declared_in n scope kind initial) ns) r)
declaring-taken n ns kind initial scope ps r a h =
    let d : Declaration = record { line = n; names = ns; kind = kind; initial = initial } in
    record {
      first = a.first;
      blocks = a.blocks;
      line = a.line;
      declarations = a.declarations ++ d ∷ [];
      parts =
          ap (λ (l : List Numbered). l ++ (n, names_part ns kind initial) ∷ []) a.parts
          ∙ append_assoc (front a.first r.name a.blocks)
          ((a.line, block_start scope) ∷ map declaration_part a.declarations)
          ((n, names_part ns kind initial) ∷ [])
          ∙ ap (λ (l : List Numbered). front a.first r.name a.blocks
          ++ ((a.line, block_start scope) ∷ l))
          (sym (map-append declaration_part a.declarations (d ∷ [])));
      declared =
          ap (λ (l : List DeclaredName). l ++ map (declared_in n scope kind initial) ns) a.declared
          ∙ append_assoc (flat_map block_declared a.blocks)
          (flat_map (names_declared scope) a.declarations)
          (map (declared_in n scope kind initial) ns)
          ∙ ap (λ (l : List DeclaredName). flat_map block_declared a.blocks ++ l)
          (sym (flat-one (names_declared scope) a.declarations d));
      blocks_allowed = a.blocks_allowed;
      allowed = all-more (may_declare scope) a.declarations d a.allowed (may-begin scope d h);
      none = a.none;
      outside = a.outside;
    }

closing-taken : (n : ℕ) (scope : VariableScope) (ps : List Numbered) (r : DraftData)
    → InBlock scope ps r
    → Between (ps ++ (n, block_end) ∷ []) (at_stage stage.Declarations r)
closing-taken n scope ps r a =
    let b : Block =
    record { line = a.line; scope = scope; declarations = a.declarations; end = n } in
    let inner : List Numbered = (a.line, block_start scope) ∷ map declaration_part a.declarations in
    record {
      body = record {
        first = a.first;
        blocks = a.blocks ++ b ∷ [];
        parts =
            ap (λ (l : List Numbered). l ++ (n, block_end) ∷ []) a.parts
            ∙ append_assoc (front a.first r.name a.blocks)
            ((a.line, block_start scope) ∷ map declaration_part a.declarations)
            ((n, block_end) ∷ [])
            ∙ ap (λ (l : List Numbered). (a.first, program_start r.name) ∷ l)
            (sym (flat-one block_parts a.blocks b))
            ∙ sym (append-nil (front a.first r.name (a.blocks ++ b ∷ [])))
            ∙ sym (ap (λ (l : List Numbered). front a.first r.name (a.blocks ++ b ∷ []) ++ l)
            (none-in-body r a.none a.outside));
        declared = a.declared ∙ sym (flat-one block_declared a.blocks b);
        blocks_allowed = all-more is_allowed a.blocks b a.blocks_allowed a.allowed;
        right = rw (a.outside, a.none) refl;
        opened = rw a.outside refl;
      };
      none = a.none;
      outside = a.outside;
    }

right-outer : (fs : List Parenthesis) (es : List Entry) (e : Entry) → is_outside fs ≡ true
    → items_right fs es ≡ true → is_outer e ≡ true → items_right fs (es ++ e ∷ []) ≡ true
right-outer [] es e o h k = all-more is_outer es e h k
right-outer (f ∷ fs) es e o h k = absurd (false≢true o)

first-load : (n : ℕ) (a : Action) → is_load a ≡ true → is_first (action n a) ≡ true
first-load n (load negated source) h = refl
first-load n i h = absurd (false≢true h)

-- one more entry of a parenthesis: the first of them, or a later one
starts-more : (es : List Entry) (e : Entry) → starts_right es ≡ true
    → has_entries es || is_first e ≡ true → starts_right (es ++ e ∷ []) ≡ true
starts-more [] e h k = k
starts-more (d ∷ es) e h k = h

right-inner : (f : Parenthesis) (fs : List Parenthesis) (es : List Entry) (e : Entry)
    → items_right (f ∷ fs) es ≡ true → is_inner e ≡ true → has_entries es || is_first e ≡ true
    → items_right (f ∷ fs) (es ++ e ∷ []) ≡ true
right-inner f fs es e h i k =
    let p = and_parts (starts_right es) (list_all is_inner es) h in
    and_from (starts_right (es ++ e ∷ [])) _ (starts-more es e p.0 k) (all-more is_inner es e p.1 i)

or-first : (b : Bool) (n : ℕ) (a : Action) → b || is_load a ≡ true
    → b || is_first (action n a) ≡ true
or-first true n a h = refl
or-first false n a h = first-load n a h

right-action : (n : ℕ) (a : Action) (fs : List Parenthesis) (es : List Entry)
    → items_right fs es ≡ true
    → is_outside fs || (is_plain a && (has_entries es || is_load a)) ≡ true
    → items_right fs (es ++ action n a ∷ []) ≡ true
right-action n a [] es h k = all-more is_outer es (action n a) h refl
right-action n a (f ∷ fs) es h k =
    let p = and_parts (is_plain a) (has_entries es || is_load a) k in
    right-inner f fs es (action n a) h p.0 (or-first (has_entries es) n a p.1)

entering-taken : (n : ℕ) (o : Operator) (g : Bool) (ps : List Numbered) (r : DraftData)
    → InBody ps r
    → is_outside r.parentheses || has_entries r.items ≡ true
    → InBody (ps ++ (n, parenthesis_start o g) ∷ []) (with_opened n o g r)
entering-taken n o g ps r b k = record {
  first = b.first;
  blocks = b.blocks;
  parts =
      ap (λ (l : List Numbered). l ++ (n, parenthesis_start o g) ∷ []) b.parts
      ∙ append_assoc (front b.first r.name b.blocks) (body_parts r)
      ((n, parenthesis_start o g) ∷ [])
      ∙ ap (λ (l : List Numbered). front b.first r.name b.blocks ++ l)
      (append_assoc (opened_parts r.parentheses) (flat_map entry_parts r.items)
      ((n, parenthesis_start o g) ∷ []) ∙ sym (append-nil _));
  declared = b.declared;
  blocks_allowed = b.blocks_allowed;
  right = refl;
  opened =
      and_from (is_outside r.parentheses || has_entries r.items) _ k
      (and_from (items_right r.parentheses r.items) _ b.right b.opened);
}

inner-is : (es : List Entry) → list_all is_inner es ≡ true → all_inner (entries_of es) ≡ true
inner-is [] h = refl
inner-is (e ∷ es) h = let p =
    and_parts (is_inner e) (list_all is_inner es) h in and_from (is_inner e) _ p.0 (inner-is es p.1)

or-false : (b : Bool) → b ≡ true → b || false ≡ true
or-false true h = refl
or-false false h = absurd (false≢true h)

-- the entries of a parenthesis, as a list
parenthesis-is : (es : List Entry) → starts_right es ≡ true → list_all is_inner es ≡ true
    → has_entries es ≡ true → is_parenthesis (entries_of es) ≡ true
parenthesis-is [] s h k = absurd (false≢true k)
parenthesis-is (e ∷ es) s h k =
    let p = and_parts (is_inner e) (list_all is_inner es) h in
    and_from (is_first e) _ s (and_from (is_inner e) _ p.0 (inner-is es p.1))

right-block : (n m : ℕ) (o : Operator) (g : Bool) (inner : Entries) (fs : List Parenthesis)
    (es : List Entry) → is_parenthesis inner ≡ true → items_right fs es ≡ true
    → is_outside fs || has_entries es ≡ true
    → items_right fs (es ++ block n o g inner m ∷ []) ≡ true
right-block n m o g inner [] es i h k = all-more is_outer es (block n o g inner m) h i
right-block n m o g inner (f ∷ fs) es i h k =
    right-inner f fs es (block n o g inner m) h i (or-false (has_entries es) k)

leaving-parts : (n : ℕ) (f : Parenthesis) (fs : List Parenthesis) (es : List Entry)
    → (opened_parts (f ∷ fs) ++ flat_map entry_parts es) ++ (n, parenthesis_end) ∷ []
    ≡ opened_parts fs ++ flat_map entry_parts
    (f.outer ++ block f.line f.operator f.negated (entries_of es) n ∷ [])
leaving-parts n f fs es =
    let e : Entry = block f.line f.operator f.negated (entries_of es) n in
    rw (flat-one entry_parts f.outer e, entries-flat es)
    (simp append_assoc refl)

leaving-taken : (n : ℕ) (f : Parenthesis) (fs : List Parenthesis) (ps : List Numbered)
    (r : DraftData)
    → InBody ps r → r.parentheses ≡ f ∷ fs → has_entries r.items ≡ true
    → InBody (ps ++ (n, parenthesis_end) ∷ []) (with_closed n r f fs)
leaving-taken n f fs ps r b q k =
    let right : items_right (f ∷ fs) r.items ≡ true =
    subst (λ (x : List Parenthesis). items_right x r.items ≡ true) q b.right in
    let opened : opened_right (f ∷ fs) ≡ true =
    subst (λ (x : List Parenthesis). opened_right x ≡ true) q b.opened in
    let inner = and_parts (starts_right r.items) (list_all is_inner r.items) right in
    let outer =
    and_parts (is_outside fs || has_entries f.outer) (items_right fs f.outer && opened_right fs)
    opened in
    let rest = and_parts (items_right fs f.outer) (opened_right fs) outer.1 in
    record {
      first = b.first;
      blocks = b.blocks;
      parts =
          ap (λ (l : List Numbered). l ++ (n, parenthesis_end) ∷ []) b.parts
          ∙ append_assoc (front b.first r.name b.blocks) (body_parts r) ((n, parenthesis_end) ∷ [])
          ∙ ap (λ (l : List Numbered). front b.first r.name b.blocks ++ l)
          (ap (λ (x : List Parenthesis). (opened_parts x ++ flat_map entry_parts r.items)
          ++ (n, parenthesis_end) ∷ []) q ∙ leaving-parts n f fs r.items);
      declared = b.declared;
      blocks_allowed = b.blocks_allowed;
      right = right-block f.line n f.operator f.negated (entries_of r.items) fs f.outer
          (parenthesis-is r.items inner.0 inner.1 k) rest.0 outer.0;
      opened = rest.1;
    }

items-outer : (fs : List Parenthesis) (es : List Entry) → fs ≡ [] → items_right fs es ≡ true
    → list_all is_outer es ≡ true
items-outer fs es q h = subst (λ (x : List Parenthesis). items_right x es ≡ true) q h

ending-taken : (n : ℕ) (ps : List Numbered) (r : DraftData) → InBody ps r
    → is_outside r.parentheses ≡ true → Derives (ps ++ (n, program_end) ∷ []) (draft_program r)
ending-taken n ps r b k =
    let q = outside-is r.parentheses k in
    record {
      first = b.first;
      blocks = b.blocks;
      end = n;
      parts =
          ap (λ (l : List Numbered). l ++ (n, program_end) ∷ []) b.parts
          ∙ append_assoc (front b.first r.name b.blocks) (body_parts r) ((n, program_end) ∷ [])
          ∙ ap (λ (x : List Parenthesis). front b.first r.name b.blocks
          ++ ((opened_parts x ++ flat_map entry_parts r.items) ++ (n, program_end) ∷ [])) q;
      declared = b.declared;
      blocks_allowed = b.blocks_allowed;
      items_allowed = items-outer r.parentheses r.items q b.right;
    }

pub declared-some : (n : ℕ) (ns : List (List ℕ)) (kind : DeclaredType) (initial : Option Literal)
    (r s : DraftData) (o : Option VariableScope) → after_declaration n ns kind initial r o ≡ Some s
    → (scope : VariableScope) × (o ≡ Some scope) × (may_begin_with scope initial ≡ true)
    × (with_declarations (map (declared_in n scope kind initial) ns) r ≡ s)
declared-some n ns kind initial r s None e = cc
declared-some n ns kind initial r s (Some scope) e =
    let c = cond_some (may_begin_with scope initial)
    (with_declarations (map (declared_in n scope kind initial) ns) r) s e in
    (scope, refl, c.0, c.1)

pub closed-some : (r s : DraftData) (o : Option VariableScope) → closed_block r o ≡ Some s
    → (scope : VariableScope) × (o ≡ Some scope) × (at_stage stage.Declarations r ≡ s)
closed-some r s None e = cc
closed-some r s (Some scope) e = (scope, refl, cc)

pub left-some : (n : ℕ) (r s : DraftData) (fs : List Parenthesis)
    → after_parenthesis n r fs ≡ Some s
    → (f : Parenthesis) × (gs : List Parenthesis) × (fs ≡ f ∷ gs) × (with_closed n r f gs ≡ s)
left-some n r s [] e = cc
left-some n r s (f ∷ fs) e = (f, fs, refl, cc)

pub cond-left : (b : Bool) (o : Option DraftData) (s : DraftData) → cond b o None ≡ Some s
    → (b ≡ true) × (o ≡ Some s)
cond-left true o s e = (refl, e)
cond-left false o s e = cc

block-back : (ps : List Numbered) (r : DraftData) (p : Stage) (scope : VariableScope)
    → block_scope p ≡ Some scope → InBlock scope ps r → ReachesAt ps r p
block-back ps r (stage.Block other) scope h x = let e : scope ≡ other =
    cc in subst (λ (k : VariableScope). InBlock k ps r) e x
block-back ps r i scope h x = cc

-- a part that is taken is the next of the grammar's
step-reaches : (n : ℕ) (ps : List Numbered) (r s : DraftData) (p : LineContent) → Reaches ps r
    → step n r p ≡ Some s → Reaches (ps ++ (n, p) ∷ []) s
unfolding step may_follow may_have_instruction may_enter may_leave
step-reaches n ps r s (program_start name) x e =
    let c = cond_some (is_start r.stage) (with_name name r) s e in
    subst (λ (t : DraftData). Reaches (ps ++ (n, program_start name) ∷ []) t) c.1
    (heading-taken n name ps r (start-at ps r r.stage c.0 x))
step-reaches n ps r s (block_start scope) x e =
    let c = cond_some (is_between_blocks r.stage) (at_stage (stage.Block scope) r) s e in
    subst (λ (t : DraftData). Reaches (ps ++ (n, block_start scope) ∷ []) t) c.1
    (opening-taken n scope ps r (between-at ps r r.stage c.0 x))
step-reaches n ps r s (names_part ns kind initial) x e =
    let c = declared-some n ns kind initial r s (block_scope r.stage) e in
    subst (λ (t : DraftData). Reaches (ps ++ (n, names_part ns kind initial) ∷ []) t) c.3
    (block-back _ (with_declarations (map (declared_in n c.0 kind initial) ns) r) r.stage c.0 c.1
    (declaring-taken n ns kind initial c.0 ps r (block-at ps r r.stage c.0 c.1 x) c.2))
step-reaches n ps r s block_end x e =
    let c = closed-some r s (block_scope r.stage) e in
    subst (λ (t : DraftData). Reaches (ps ++ (n, block_end) ∷ []) t) c.2
    (closing-taken n c.0 ps r (block-at ps r r.stage c.0 c.1 x))
step-reaches n ps r s (label_part name) x e =
    let c = cond_some (is_body r.stage && is_outside r.parentheses) (with_item (label n name) r) s e
    in
    let h = and_parts (is_body r.stage) (is_outside r.parentheses) c.0 in
    let b = body-at ps r r.stage h.0 x in
    subst (λ (t : DraftData). Reaches (ps ++ (n, label_part name) ∷ []) t) c.1
    (more-item ps r (label n name) b
    (right-outer r.parentheses r.items (label n name) h.1 b.right refl))
step-reaches n ps r s (action_part a) x e =
    let c = cond_some (is_body r.stage
    && (is_outside r.parentheses || (is_plain a && (has_entries r.items || is_load a))))
    (with_item (action n a) r) s e in
    let h = and_parts (is_body r.stage)
    (is_outside r.parentheses || (is_plain a && (has_entries r.items || is_load a))) c.0 in
    let b = body-at ps r r.stage h.0 x in
    subst (λ (t : DraftData). Reaches (ps ++ (n, action_part a) ∷ []) t) c.1
    (more-item ps r (action n a) b (right-action n a r.parentheses r.items b.right h.1))
step-reaches n ps r s (parenthesis_start o g) x e =
    let c = cond_some (is_body r.stage && (is_outside r.parentheses || has_entries r.items))
    (with_opened n o g r) s e in
    let h = and_parts (is_body r.stage) (is_outside r.parentheses || has_entries r.items) c.0 in
    subst (λ (t : DraftData). Reaches (ps ++ (n, parenthesis_start o g) ∷ []) t) c.1
    (entering-taken n o g ps r (body-at ps r r.stage h.0 x) h.1)
step-reaches n ps r s parenthesis_end x e =
    let c = cond-left (is_body r.stage && has_entries r.items) (after_parenthesis n r r.parentheses)
    s e in
    let h = and_parts (is_body r.stage) (has_entries r.items) c.0 in
    let l = left-some n r s r.parentheses c.1 in
    subst (λ (t : DraftData). Reaches (ps ++ (n, parenthesis_end) ∷ []) t) l.3
    (leaving-taken n l.0 l.1 ps r (body-at ps r r.stage h.0 x) l.2 h.1)
step-reaches n ps r s program_end x e =
    let c = cond_some (is_body r.stage && is_outside r.parentheses) (at_stage stage.Finished r) s e
    in
    let h = and_parts (is_body r.stage) (is_outside r.parentheses) c.0 in
    subst (λ (t : DraftData). Reaches (ps ++ (n, program_end) ∷ []) t) c.1
    (ending-taken n ps r (body-at ps r r.stage h.0 x) h.1)

pub then-some : (o : Option DraftData) (f : DraftData → Option DraftData) (s : DraftData)
    → option_and_then f o ≡ Some s → (t : DraftData) × (o ≡ Some t) × (f t ≡ Some s)
then-some None f s e = cc
then-some (Some t) f s e = (t, refl, e)

-- the parts that run from what parts reach
pub run-reaches : (qs ps : List Numbered) (r s : DraftData) → Reaches ps r → run r qs ≡ Some s
    → Reaches (ps ++ qs) s
run-reaches [] ps r s x e = let same : r ≡ s = cc in
    subst (λ (l : List Numbered). Reaches l s) (sym (append-nil ps))
    (subst (λ (t : DraftData). Reaches ps t) same x)
run-reaches (q ∷ qs) ps r s x e =
    let c = then-some (step q.0 r q.1) (λ t. run t qs) s e in
    subst (λ (l : List Numbered). Reaches l s) (append_assoc ps (q ∷ []) qs)
    (run-reaches qs (ps ++ q ∷ []) c.0 s (step-reaches q.0 ps r c.0 q.1 x c.1) c.2)

pub start-reaches : Reaches [] empty_draft
start-reaches = record { parts = refl; none_declared = refl; none = refl; outside = refl }

and-then-assoc : (o : Option DraftData) (f g : DraftData → Option DraftData)
    → option_and_then (λ s. option_and_then g (f s)) o ≡ option_and_then g (option_and_then f o)
and-then-assoc None f g = refl
and-then-assoc (Some s) f g = refl

pub and-then-same : (o : Option DraftData) (f g : DraftData → Option DraftData)
    → ((s : DraftData) → f s ≡ g s) → option_and_then f o ≡ option_and_then g o
and-then-same None f g h = refl
and-then-same (Some s) f g h = h s

pub run-append : (xs ys : List Numbered) (r : DraftData)
    → run r (xs ++ ys) ≡ option_and_then (λ s. run s ys) (run r xs)
run-append [] ys r = refl
run-append (x ∷ xs) ys r =
    and-then-same (step x.0 r x.1) (λ s. run s (xs ++ ys))
    (λ s. option_and_then (λ t. run t ys) (run s xs)) (λ s. run-append xs ys s)
    ∙ and-then-assoc (step x.0 r x.1) (λ s. run s xs) (λ s. run s ys)
