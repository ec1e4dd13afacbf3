-- The nodes below a row, one after another.
use Rattle.std.proofs.Common.{◌≡◌, ℕ, zero, suc, ◌+◌, ◌-◌, ◌<◌, ◌≤◌, Bool, true, false, cond, Option, Some, None, IfSome, List, [], ◌∷◌, ◌++◌, length, drop, refl, sym, ap, subst, ◌∙◌, arith}
use Rattle.std.proofs.lemmas.List.{length-drop, drop_more}
use Rattle.std.proofs.lemmas.Slice.Eq.{bytes_eq-Decides}
use Rattle.bay_tree.specs.declared.row.Row.{Row}
use Rattle.bay_tree.specs.Names.{parent_of, word_of, is_parent, is_below}
use Rattle.bay_tree.specs.Rows.{row_at, name_at, leaf_at, first_below, first_below_from, next_below, next_beside}
use Rattle.bay_mms.specs.Types.{type_text, components_text}
use Rattle.bay_mms.specs.Data.{datum_text, data_text, leaf_datum}
use Rattle.bay_tree.specs.declared.leaf.Leaf.{Leaf}
use Rattle.bay_ber.specs.Writing.{element}
use Rattle.bay_ber.specs.EncoderBuffers.{EncoderBuffer, buffer_with}
use Rattle.bay_ber.proofs.SheetLemmas.{put_nil, put-put}
use Rattle.bay_ber.specs.Tags.{context, constructed, sequence}
use Rattle.bay_mms.specs.Nodes.{Nodes, no_nodes, node, node_of, nodes_in, node_at, node_datum, nodes_data, data_at, node_type, nodes_types, type_at}

-- the first row found, its node, and those behind it
abbrev pub nodes_since : List Row → List ℕ → Option ℕ → Nodes
nodes_since rows parent None = no_nodes
nodes_since rows parent (Some k) =
    node (word_of (name_at rows k)) (node_at rows k) (nodes_in parent (drop (k + 1) rows))

some-left : (rows xs : List Row) (start : ℕ) (row : Row) → drop start rows ≡ row ∷ xs
    → start < length rows
some-left rows xs start row is =
    let n : length (drop start rows) ≡ suc (length xs) = ap length is in
    omega (arith, length-drop start rows)

head_or : Row → List Row → Row
head_or d [] = d
head_or d (x ∷ xs) = x

next-drop : (rows : List Row) (start : ℕ) (row : Row) (xs : List Row) → drop start rows ≡ row ∷ xs
    → (row_at rows start ≡ row) × (drop (start + 1) rows ≡ xs)
unfolding head_or
next-drop rows start row xs is =
    let h : start < length rows = some-left rows xs start row is in
    let e : row_at rows start ∷ drop (start + 1) rows ≡ row ∷ xs =
    sym (drop_more rows start (record { name = []; leaf = None }) h) ∙ is in
    (ap (head_or row) e, ap (λ (l : List Row). drop 1 l) e)

here-is : (parent : List ℕ) (rows : List Row) (start : ℕ) (row : Row) (xs : List Row)
    → row_at rows start ≡ row → drop (start + 1) rows ≡ xs
    → node (word_of row.name) (node_of row.leaf (nodes_in row.name xs)) (nodes_in parent xs)
    ≡ nodes_since rows parent (Some start)
here-is parent rows start row xs at behind = rw (← at, ← behind) refl

found : (parent : List ℕ) (rows : List Row) (start : ℕ) (row : Row) (xs : List Row) (here : Bool)
    → row_at rows start ≡ row → drop (start + 1) rows ≡ xs
    → nodes_in parent xs ≡ nodes_since rows parent (first_below_from (start + 1) xs parent)
    → cond here (node (word_of row.name) (node_of row.leaf (nodes_in row.name xs))
    (nodes_in parent xs)) (nodes_in parent xs)
    ≡ nodes_since rows parent (cond here (Some start) (first_below_from (start + 1) xs parent))
found parent rows start row xs true at behind later = here-is parent rows start row xs at behind
found parent rows start row xs false at behind later = later

pub nodes-first : (parent : List ℕ) (rows : List Row) (start : ℕ) (xs : List Row)
    → drop start rows ≡ xs → nodes_in parent xs
    ≡ nodes_since rows parent (first_below_from start xs parent)
nodes-first parent rows start [] is = refl
nodes-first parent rows start (row ∷ xs) is =
    let n = next-drop rows start row xs is in
    found parent rows start row xs (is_below parent row.name) n.0 n.1
    (nodes-first parent rows (start + 1) xs n.1)

-- ---- what a search finds

own-is : (parent : List ℕ) (own : Option (List ℕ)) → is_parent parent own ≡ true → own ≡ Some parent
own-is parent None h = absurd cc
own-is parent (Some own) h = ap Some ((bytes_eq-Decides own parent).0 h)

found-either : (parent : List ℕ) (rows : List Row) (start k : ℕ) (row : Row) (xs : List Row)
    (here : Bool) → is_below parent row.name ≡ here → row_at rows start ≡ row → start < length rows
    → (first_below_from (start + 1) xs parent ≡ Some k
    → (parent_of (name_at rows k) ≡ Some parent) × (k < length rows))
    → cond here (Some start) (first_below_from (start + 1) xs parent) ≡ Some k
    → (parent_of (name_at rows k) ≡ Some parent) × (k < length rows)
found-either parent rows start k row xs true test at within later e =
    let same : start ≡ k = cc in
    let p : parent_of (name_at rows start) ≡ Some parent =
    subst (λ (r : Row). parent_of r.name ≡ Some parent) (sym at)
    (own-is parent (parent_of row.name) test) in
    (subst (λ (j : ℕ). parent_of (name_at rows j) ≡ Some parent) same p, omega (arith, same))
found-either parent rows start k row xs false test at within later e = later e

-- a row that is found has the parent's name before its last word
pub found-below : (parent : List ℕ) (rows : List Row) (start k : ℕ) (xs : List Row)
    → drop start rows ≡ xs → first_below_from start xs parent ≡ Some k
    → (parent_of (name_at rows k) ≡ Some parent) × (k < length rows)
found-below parent rows start k [] is e = absurd cc
found-below parent rows start k (row ∷ xs) is e =
    let n = next-drop rows start row xs is in
    found-either parent rows start k row xs (is_below parent row.name) refl n.0
    (some-left rows xs start row is) (λ f. found-below parent rows (start + 1) k xs n.1 f) e

skip-either : (parent : List ℕ) (row : Row) (xs : List Row) (start past : ℕ) (o : Option ℕ)
    (here : Bool) → start < past → IfSome o (λ k. past ≤ k)
    → cond here (Some start) (first_below_from (start + 1) xs parent) ≡ o
    → first_below_from (start + 1) xs parent ≡ o
skip-either parent row xs start past None true less behind e = absurd cc
skip-either parent row xs start past (Some k) true less behind e = let same : start ≡ k =
    cc in absurd (omega arith)
skip-either parent row xs start past o false less behind e = e

-- a search that finds nothing before a place may begin there
pub search-behind : (parent : List ℕ) (xs : List Row) (n start past : ℕ) (o : Option ℕ)
    → past ≡ start + n → IfSome o (λ k. past ≤ k) → first_below_from start xs parent ≡ o
    → first_below_from past (drop n xs) parent ≡ o
search-behind parent xs zero start past o is behind e = let same : past ≡ start =
    omega arith in rw same e
search-behind parent [] (suc n) start past o is behind e = e
search-behind parent (row ∷ xs) (suc n) start past o is behind e =
    search-behind parent xs n (start + 1) past o (omega arith) behind
    (skip-either parent row xs start past o (is_below parent row.name) (omega arith) behind e)

-- ---- the loop over them

-- how many rows are left to be looked at
abbrev pub left_of : List Row → Option ℕ → ℕ
left_of rows None = 0
left_of rows (Some k) = length rows - k

-- a row below the row of a name, which stands before it
abbrev pub Below : List Row → ℕ → ℕ → Type 0
Below rows handle k =
    (handle < k) × (k < length rows) × (parent_of (name_at rows k) ≡ Some (name_at rows handle))

below_of : (rows : List Row) (handle start : ℕ) (o : Option ℕ) → handle < start
    → IfSome o (λ k. (handle < k) × (k < length rows))
    → first_below_from start (drop start rows) (name_at rows handle) ≡ o
    → IfSome o (Below rows handle)
below_of rows handle start None less after e = tt
below_of rows handle start (Some k) less after e =
    (after.0, after.1, (found-below (name_at rows handle) rows start k (drop start rows) refl e).0)

weaker : (rows : List Row) (handle : ℕ) (o : Option ℕ)
    → IfSome o (λ k. (handle < k) × (k < length rows)) → IfSome o (λ k. handle + 1 ≤ k)
weaker rows handle None h = tt
weaker rows handle (Some k) h = omega (arith, h.0)

abbrev pub parts_at : List Row → ℕ → Nodes
parts_at rows handle = nodes_in (name_at rows handle) (drop (handle + 1) rows)

-- the first part of a structure
pub first-part : (rows : List Row) (handle : ℕ) (next : Option ℕ) → next ≡ first_below rows handle
    → IfSome next (λ k. (handle < k) × (k < length rows))
    → (parts_at rows handle ≡ nodes_since rows (name_at rows handle) next)
    × IfSome next (Below rows handle)
first-part rows handle next is after =
    let e : first_below_from (handle + 1) (drop (handle + 1) rows) (name_at rows handle) ≡ next =
    search-behind (name_at rows handle) rows (handle + 1) 0 (handle + 1) next (omega arith)
    (weaker rows handle next after) (sym is) in (
      nodes-first (name_at rows handle) rows (handle + 1) (drop (handle + 1) rows) refl ∙ rw e refl,
      below_of rows handle (handle + 1) next (omega arith) after e,
    )

after_part : (rows : List Row) (handle part : ℕ) (o : Option ℕ) → handle < part
    → IfSome o (λ k. (part < k) × (k < length rows))
    → IfSome o (λ k. (handle < k) × (k < length rows))
after_part rows handle part None less h = tt
after_part rows handle part (Some k) less h = (omega (arith, h.0), h.1)

-- the part after a part
pub next-part : (rows : List Row) (handle part : ℕ) (next : Option ℕ) → Below rows handle part
    → next ≡ next_beside rows part → IfSome next (λ k. (part < k) × (k < length rows))
    → (nodes_in (name_at rows handle) (drop (part + 1) rows)
    ≡ nodes_since rows (name_at rows handle) next) × IfSome next (Below rows handle)
next-part rows handle part next below is after =
    let e : next ≡ first_below_from (part + 1) (drop (part + 1) rows) (name_at rows handle) =
    is ∙ ap (next_below rows part) below.2 in (
      nodes-first (name_at rows handle) rows (part + 1) (drop (part + 1) rows) refl ∙ rw (← e) refl,
      below_of rows handle (part + 1) next (omega (arith, below.0))
          (after_part rows handle part next below.0 after) (sym e),
    )

-- ---- what was written of them

-- What was written, and the text of the parts that are left, are a tag, an octet of the length and
-- the text of all parts.
pub record Written (rows : List Row) (handle : ℕ) (text : Nodes → List ℕ) (octet : ℕ)
    (front writer : EncoderBuffer) (next : Option ℕ) : Type 0 where
  pub is : buffer_with writer (text (nodes_since rows (name_at rows handle) next))
      ≡ buffer_with front (octet ∷ 0 ∷ text (parts_at rows handle))
  pub below : IfSome next (Below rows handle)

pub written-first : (rows : List Row) (handle : ℕ) (text : Nodes → List ℕ) (octet : ℕ)
    (front writer : EncoderBuffer) (next : Option ℕ) → writer ≡ buffer_with front (octet ∷ 0 ∷ [])
    → next ≡ first_below rows handle → IfSome next (λ k. (handle < k) × (k < length rows))
    → Written rows handle text octet front writer next
written-first rows handle text octet front writer next opened is after =
    let p = first-part rows handle next is after in
    record {
      is = rw opened
          (put-put front (octet ∷ 0 ∷ []) (text (nodes_since rows (name_at rows handle) next))
          ∙ ap (λ (ps : Nodes). buffer_with front (octet ∷ 0 ∷ text ps)) (sym p.0));
      below = p.1;
    }

pub written-more : (rows : List Row) (handle part : ℕ) (text : Nodes → List ℕ) (octet : ℕ)
    (front writer new : EncoderBuffer) (one : List ℕ) (next : Option ℕ)
    → text (nodes_since rows (name_at rows handle) (Some part))
    ≡ one ++ text (nodes_in (name_at rows handle) (drop (part + 1) rows))
    → Written rows handle text octet front writer (Some part)
    → new ≡ buffer_with writer one → next ≡ next_beside rows part
    → IfSome next (λ k. (part < k) × (k < length rows))
    → Written rows handle text octet front new next
written-more rows handle part text octet front writer new one next split w added is after =
    let p = next-part rows handle part next w.below is after in
    let rest = text (nodes_since rows (name_at rows handle) next) in
    record {
      is = ap (λ (s : EncoderBuffer). buffer_with s rest) added ∙ put-put writer one rest
          ∙ ap (λ (ps : Nodes). buffer_with writer (one ++ text ps)) (sym p.0)
          ∙ ap (λ (ys : List ℕ). buffer_with writer ys) (sym split) ∙ w.is;
      below = p.1;
    }

pub written-end : (rows : List Row) (handle : ℕ) (text : Nodes → List ℕ) (octet : ℕ)
    (front writer : EncoderBuffer) → text no_nodes ≡ []
    → Written rows handle text octet front writer None
    → writer ≡ buffer_with front (octet ∷ 0 ∷ text (parts_at rows handle))
written-end rows handle text octet front writer none w =
    sym (put_nil writer) ∙ ap (λ (ys : List ℕ). buffer_with writer ys) (sym none) ∙ w.is

-- the text of the data of nodes
abbrev pub nodes_text : Nodes → List ℕ
nodes_text parts = data_text (nodes_data parts)

pub structure-at : (rows : List Row) (handle : ℕ) → leaf_at rows handle ≡ None
    → datum_text (data_at rows handle) ≡ element (constructed 2) (nodes_text (parts_at rows handle))
structure-at rows handle none =
    ap (λ (o : Option Leaf). datum_text (node_datum (node_of o (parts_at rows handle)))) none

pub leaf_data : (rows : List Row) (handle : ℕ) (leaf : Leaf) → leaf_at rows handle ≡ Some leaf
    → datum_text (data_at rows handle) ≡ datum_text (leaf_datum leaf)
leaf_data rows handle leaf some =
    ap (λ (o : Option Leaf). datum_text (node_datum (node_of o (parts_at rows handle)))) some

-- ---- types

-- the text of the components that nodes make
abbrev pub nodes_types_text : Nodes → List ℕ
nodes_types_text parts = components_text (nodes_types parts)

-- the text of the component that the row at a place makes
abbrev pub component_text : List Row → ℕ → List ℕ
component_text rows index =
    element sequence (element (context 0) (word_of (name_at rows index))
    ++ element (constructed 1) (type_text (type_at rows index)))

pub structure-type : (rows : List Row) (handle : ℕ) → leaf_at rows handle ≡ None
    → type_text (type_at rows handle)
    ≡ element (constructed 2) (element (constructed 1) (nodes_types_text (parts_at rows handle)))
structure-type rows handle none =
    ap (λ (o : Option Leaf). type_text (node_type (node_of o (parts_at rows handle)))) none
