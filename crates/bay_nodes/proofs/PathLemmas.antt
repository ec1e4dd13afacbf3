-- The rows of one node follow the rows of others: a node's name is a word, and the names of its
-- rows are that word and a path, whose words are the names of parts that differ from their
-- siblings.
use Rattle.std.proofs.Common.{◌≡◌, ◌≢◌, ℕ, ◌+◌, Bool, true, false, not, ◌&&◌, cond, nat_eq, List, [], ◌∷◌, ◌++◌, length, map, codes, Option, None, Some, Any, append_assoc, append-nil, refl, sym, ap, subst, ◌∙◌, arith, length-append}
use Rattle.std.proofs.Math.ListN.{get_or-append}
use Rattle.std.proofs.Math.Seq.{get_or-append_seam}
use Rattle.std.proofs.lemmas.Bool.{and_parts, or_parts, not-true}
use Rattle.std.proofs.lemmas.List.{append_cancel_left, map-append}
use Rattle.std.proofs.lemmas.List.Elements.{All-from_recursion}
use Rattle.std.proofs.lemmas.Slice.Eq.{bytes_eq-Decides}
use Rattle.std.specs.List.{AllByRecursion, flat_map, list_all, list_any}
use Rattle.std.specs.Str.{bytes_eq}
use Rattle.bay_tree.specs.declared.leaf.Leaf.{Leaf}
use Rattle.bay_tree.specs.declared.row.Row.{Row}
use Rattle.bay_tree.specs.Names.{parent_of}
use Rattle.bay_tree.specs.Rows.{IsStructureNamed}
use Rattle.bay_nodes.specs.Node.{NodePart, value, structure, Parts, end, part, Node, row, node_rows, rows_of, rows_of_parts}
use Rattle.bay_nodes.specs.NodeRows.{row_of_node}
use Rattle.bay_nodes.proofs.TreeLemmas.{CanFollow, Follow, Follow-append}

-- ---- words and paths

-- the text is one of these
abbrev pub is_among : List (List ℕ) → List ℕ → Bool
is_among texts s = list_any (λ t. bytes_eq s t) texts

-- a word has no `$`
abbrev pub is_plain : List ℕ → Bool
is_plain word = list_all (λ c. not (nat_eq c 36)) word

-- the same as a fact
abbrev pub IsPlain : List ℕ → Type 0
IsPlain word = is_plain word ≡ true

-- what stands before the first `$`
abbrev pub head_of : List ℕ → List ℕ
head_of [] = []
head_of (c ∷ cs) = cond (nat_eq c 36) [] (c ∷ head_of cs)

-- a path is empty or begins with `$`
abbrev pub is_path : List ℕ → Bool
is_path [] = true
is_path (c ∷ cs) = nat_eq c 36

head-path : (s : List ℕ) → is_path s ≡ true → head_of s ≡ []
head-path [] h = refl
head-path (c ∷ cs) h = rw h

head-word : (w s : List ℕ) → IsPlain w → is_path s ≡ true → head_of (w ++ s) ≡ w
head-word [] s plain h = head-path s h
head-word (c ∷ w) s plain h =
    let parts = and_parts (not (nat_eq c 36)) (is_plain w) plain in
    rw (not-true _ parts.0, head-word w s parts.1 h)

parent-word : (w : List ℕ) → IsPlain w → parent_of w ≡ None
parent-word [] plain = refl
parent-word (c ∷ w) plain =
    let parts = and_parts (not (nat_eq c 36)) (is_plain w) plain in
    rw (parent-word w parts.1, not-true _ parts.0)

parent-join : (w s p : List ℕ) → parent_of s ≡ Some p → parent_of (w ++ s) ≡ Some (w ++ p)
parent-join [] s p h = h
parent-join (c ∷ w) s p h = rw (parent-join w s p h)

-- the path of a part
abbrev pub below : List ℕ → List ℕ → List ℕ
below path word = path ++ codes "$" ++ word

-- a path below a node's name
name-shifted : (node path name : List ℕ) → node ++ below path name ≡ below (node ++ path) name
name-shifted node path name =
    sym (append_assoc node (path ++ codes "$") name)
    ∙ ap (λ q. q ++ name) (sym (append_assoc node path (codes "$")))

-- the parent of a part is the structure that it is in
parent-below : (path word : List ℕ) → IsPlain word → parent_of (below path word) ≡ Some path
parent-below path word plain =
    let own : parent_of (codes "$" ++ word) ≡ Some [] = rw (parent-word word plain) refl in
    ap parent_of (append_assoc path (codes "$") word)
    ∙ parent-join path (codes "$" ++ word) [] own
    ∙ ap Some (append-nil path)

-- a name is a path, or begins with it and `$`
pub record IsUnder (path name : List ℕ) : Type 0 where
  pub rest : List ℕ
  pub goes_on : is_path rest ≡ true
  pub joined : name ≡ path ++ rest

own-under : (path : List ℕ) → IsUnder path path
own-under path = record { rest = []; goes_on = refl; joined = sym (append-nil path) }

-- what is under a part is under the structure that the part is in
up-under : (path word name : List ℕ) → IsUnder (below path word) name → IsUnder path name
up-under path word name u = record {
  rest = codes "$" ++ (word ++ u.rest);
  goes_on = refl;
  joined =
      u.joined ∙ append_assoc (path ++ codes "$") word u.rest
      ∙ append_assoc path (codes "$") (word ++ u.rest);
}

-- nothing is under two parts of one structure
two-words : (path a b name : List ℕ) → IsPlain a → IsPlain b → IsUnder (below path a) name
    → IsUnder (below path b) name → a ≡ b
two-words path a b name plain-a plain-b u v =
    let whole : (path ++ codes "$") ++ (a ++ u.rest) ≡ (path ++ codes "$") ++ (b ++ v.rest) =
    sym (append_assoc (path ++ codes "$") a u.rest) ∙ sym u.joined ∙ v.joined
    ∙ append_assoc (path ++ codes "$") b v.rest in
    let tails : a ++ u.rest ≡ b ++ v.rest =
    append_cancel_left (path ++ codes "$") (a ++ u.rest) (b ++ v.rest) whole in
    sym (head-word a u.rest plain-a u.goes_on) ∙ ap head_of tails
    ∙ head-word b v.rest plain-b v.goes_on

-- a structure is not under a part of it
not-own : (path word : List ℕ) → IsUnder (below path word) path → ⊥
not-own path word u =
    let joined : path ≡ path ++ (codes "$" ++ (word ++ u.rest)) =
    u.joined ∙ append_assoc (path ++ codes "$") word u.rest
    ∙ append_assoc path (codes "$") (word ++ u.rest) in
    let tails : [] ≡ codes "$" ++ (word ++ u.rest) =
    append_cancel_left path [] (codes "$" ++ (word ++ u.rest)) (append-nil path ∙ joined) in
    absurd (cc)

-- ---- properties of lists

-- what follows from a property holds of each element, where the property does
pub weaker : {X : Type 0} (P Q : X → Type 0) (xs : List X) → ((x : X) → P x → Q x)
    → AllByRecursion P xs → AllByRecursion Q xs
weaker P Q [] f h = tt
weaker P Q (x ∷ xs) f h = (f x h.0, weaker P Q xs f h.1)

-- a property of the elements of two lists is one of those of both together
pub both : {X : Type 0} (P : X → Type 0) (xs ys : List X) → AllByRecursion P xs
    → AllByRecursion P ys → AllByRecursion P (xs ++ ys)
both P [] ys f g = g
both P (x ∷ xs) ys f g = (f.0, both P xs ys f.1 g)

-- what is found in a list is found in a longer one
any-longer : (P : Row → Type 0) (xs ys : List Row) → Any P xs → Any P (xs ++ ys)
any-longer P xs ys w =
    let long : length (xs ++ ys) ≡ length xs + length ys = length-append xs ys in (
      w.0,
      w.1,
      omega (arith, w.2),
      get_or-append xs ys w.1 w.0 w.2 ∙ w.3,
      w.4,
    )

any-last : (P : Row → Type 0) (xs : List Row) (r : Row) → P r → Any P (xs ++ r ∷ [])
any-last P xs r p =
    let long : length (xs ++ r ∷ []) ≡ length xs + 1 = length-append xs (r ∷ []) in
    (length xs, r, omega arith, get_or-append_seam xs r [] r, p)

-- ---- the parts of a node

abbrev pub part_name : NodePart → List ℕ
part_name (value name leaf) = name
part_name (structure name parts) = name

abbrev pub part_names : Parts → List (List ℕ)
part_names end = []
part_names (part p ps) = part_name p ∷ part_names ps

-- the name of each part is a word, and differs from those of its siblings
abbrev mutual
  pub is_good_part : NodePart → Bool
  is_good_part (value name leaf) = is_plain name
  is_good_part (structure name parts) = is_plain name && are_good parts

  pub are_good : Parts → Bool
  are_good end = true
  are_good (part p ps) =
      (is_good_part p && not (is_among (part_names ps) (part_name p))) && are_good ps

plain-part : (p : NodePart) → is_good_part p ≡ true → IsPlain (part_name p)
plain-part (value name leaf) h = h
plain-part (structure name parts) h = (and_parts (is_plain name) (are_good parts) h).0

plain-parts : (ps : Parts) → are_good ps ≡ true → AllByRecursion IsPlain (part_names ps)
plain-parts end h = tt
plain-parts (part p ps) h =
    let parts =
    and_parts (is_good_part p && not (is_among (part_names ps) (part_name p))) (are_good ps) h in
    let here = and_parts (is_good_part p) (not (is_among (part_names ps) (part_name p))) parts.0 in
    (plain-part p here.0, plain-parts ps parts.1)

-- the rows of a part are under its path
mutual
  rows-under : (path : List ℕ) (p : NodePart)
      → AllByRecursion (λ (o : Row). IsUnder (below path (part_name p)) o.name) (rows_of path p)
  rows-under path (value name leaf) = (own-under (below path name), tt)
  rows-under path (structure name parts) =
      (own-under (below path name), parts-under (below path name) parts)

  parts-under : (path : List ℕ) (ps : Parts)
      → AllByRecursion (λ (o : Row). IsUnder path o.name) (rows_of_parts path ps)
  parts-under path end = tt
  parts-under path (part p ps) =
      both (λ (o : Row). IsUnder path o.name) (rows_of path p) (rows_of_parts path ps)
      (weaker (λ (o : Row). IsUnder (below path (part_name p)) o.name)
      (λ (o : Row). IsUnder path o.name) (rows_of path p)
      (λ o u. up-under path (part_name p) o.name u) (rows-under path p))
      (parts-under path ps)

-- no row is under a path
abbrev AreFree : List ℕ → List Row → Type 0
AreFree path rows = AllByRecursion (λ (o : Row). IsUnder path o.name → ⊥) rows

-- no row is under one of these parts
abbrev AreAllFree : List ℕ → List (List ℕ) → List Row → Type 0
AreAllFree path words rows = AllByRecursion (λ word. AreFree (below path word) rows) words

-- what is free of a structure is free of its parts
free-below : (path word : List ℕ) (rows : List Row) → AreFree path rows
    → AreFree (below path word) rows
free-below path word rows free =
    weaker (λ (o : Row). IsUnder path o.name → ⊥)
    (λ (o : Row). IsUnder (below path word) o.name → ⊥)
    rows (λ o no u. no (up-under path word o.name u)) free

free-parts : (path : List ℕ) (words : List (List ℕ)) (earlier : List Row) → AreFree path earlier
    → AreAllFree path words (earlier ++ row path None ∷ [])
free-parts path [] earlier free = tt
free-parts path (word ∷ words) earlier free = (
  both (λ (o : Row). IsUnder (below path word) o.name → ⊥) earlier (row path None ∷ [])
      (free-below path word earlier free) (λ u. not-own path word u, tt),
  free-parts path words earlier free,
)

-- the siblings of a part are free of its rows
free-siblings : (path : List ℕ) (p : NodePart) (words : List (List ℕ)) (earlier : List Row)
    → IsPlain (part_name p) → AllByRecursion IsPlain words → is_among words (part_name p) ≡ false
    → AreAllFree path words earlier → AreAllFree path words (earlier ++ rows_of path p)
free-siblings path p [] earlier plain plains other free = tt
free-siblings path p (word ∷ words) earlier plain plains other free =
    let parts = or_parts (bytes_eq (part_name p) word) (is_among words (part_name p)) other in (
      both (λ (o : Row). IsUnder (below path word) o.name → ⊥) earlier (rows_of path p) free.0
          (weaker (λ (o : Row). IsUnder (below path (part_name p)) o.name)
          (λ (o : Row). IsUnder (below path word) o.name → ⊥) (rows_of path p)
          (λ o u v. let same : bytes_eq (part_name p) word ≡ true =
          (bytes_eq-Decides (part_name p) word).1
          (two-words path (part_name p) word o.name plain plains.0 u v) in absurd (cc))
          (rows-under path p)),
      free-siblings path p words earlier plain plains.1 parts.1 free.1,
    )

-- a row can follow rows that have its parent, and none under its path
row-follows : (path word : List ℕ) (leaf : Option Leaf) (earlier : List Row) → IsPlain word
    → Any (IsStructureNamed path) earlier → AreFree (below path word) earlier
    → CanFollow earlier (row (below path word) leaf)
row-follows path word leaf earlier plain parent free = record {
  distinct =
      All-from_recursion (λ (o : Row). o.name ≢ below path word) earlier
      (weaker (λ (o : Row). IsUnder (below path word) o.name → ⊥)
      (λ (o : Row). o.name ≢ below path word) earlier
      (λ o no same. no (subst (IsUnder (below path word)) (sym same) (own-under (below path word))))
      free);
  parent = rw (parent-below path word plain) parent;
}

-- the rows of a part, and of the parts of a structure, can follow such rows
mutual
  part-follows : (path : List ℕ) (p : NodePart) (earlier : List Row) → is_good_part p ≡ true
      → Any (IsStructureNamed path) earlier → AreFree (below path (part_name p)) earlier
      → Follow earlier (rows_of path p)
  part-follows path (value name leaf) earlier good parent free =
      (row-follows path name (Some leaf) earlier good parent free, tt)
  part-follows path (structure name parts) earlier good parent free =
      let goods = and_parts (is_plain name) (are_good parts) good in
      let own = row (below path name) None in (
        row-follows path name None earlier goods.0 parent free,
        parts-follow (below path name) parts (earlier ++ own ∷ []) goods.1
            (any-last (IsStructureNamed (below path name)) earlier own
            (record { named = refl; structure = refl }))
            (free-parts (below path name) (part_names parts) earlier free),
      )

  parts-follow : (path : List ℕ) (ps : Parts) (earlier : List Row) → are_good ps ≡ true
      → Any (IsStructureNamed path) earlier → AreAllFree path (part_names ps) earlier
      → Follow earlier (rows_of_parts path ps)
  parts-follow path end earlier good parent free = tt
  parts-follow path (part p ps) earlier good parent free =
      let goods =
      and_parts (is_good_part p && not (is_among (part_names ps) (part_name p))) (are_good ps) good
      in
      let here = and_parts (is_good_part p) (not (is_among (part_names ps) (part_name p))) goods.0
      in
      Follow-append earlier (rows_of path p) (rows_of_parts path ps)
      (part-follows path p earlier here.0 parent free.0)
      (parts-follow path ps (earlier ++ rows_of path p) goods.1
      (any-longer (IsStructureNamed path) earlier (rows_of path p) parent)
      (free-siblings path p (part_names ps) earlier (plain-part p here.0) (plain-parts ps goods.1)
      (not-true _ here.1) free.1))

-- ---- nodes

-- the rows of parts below a node's name
mutual
  pub part-shifted : (node path : List ℕ) (p : NodePart)
      → map (row_of_node node) (rows_of path p) ≡ rows_of (node ++ path) p
  part-shifted node path (value name leaf) = rw (name-shifted node path name) refl
  part-shifted node path (structure name parts) =
      rw (name-shifted node path name)
      (ap (λ rs. row (below (node ++ path) name) None ∷ rs)
      (parts-shifted node (below path name) parts
      ∙ ap (λ q. rows_of_parts q parts) (name-shifted node path name)))

  pub parts-shifted : (node path : List ℕ) (ps : Parts)
      → map (row_of_node node) (rows_of_parts path ps) ≡ rows_of_parts (node ++ path) ps
  parts-shifted node path end = refl
  parts-shifted node path (part p ps) =
      map-append (row_of_node node) (rows_of path p) (rows_of_parts path ps)
      ∙ ap (λ rs. rs ++ map (row_of_node node) (rows_of_parts path ps)) (part-shifted node path p)
      ∙ ap (λ rs. rows_of (node ++ path) p ++ rs) (parts-shifted node path ps)

-- the name of a node is a word, and its parts are good
pub record IsGood (node : Node) : Type 0 where
  pub plain : IsPlain node.name
  pub good : are_good node.parts ≡ true

rows-below : (node : Node) → row node.name None ∷ rows_of_parts node.name node.parts
    ≡ node_rows node
rows-below node =
    ap (λ rs. row node.name None ∷ rs)
    (sym (parts-shifted node.name [] node.parts
    ∙ ap (λ q. rows_of_parts q node.parts) (append-nil node.name)))

-- no row before has this node's name at its head
abbrev pub IsApart : List Row → List ℕ → Type 0
IsApart earlier node = AllByRecursion (λ o. head_of o.name ≢ node) earlier

under-head : (node name : List ℕ) → IsPlain node → IsUnder node name → head_of name ≡ node
under-head node name plain u = ap head_of u.joined ∙ head-word node u.rest plain u.goes_on

node-follows : (node : Node) (earlier : List Row) → IsGood node → IsApart earlier node.name
    → Follow earlier (node_rows node)
node-follows node earlier good apart =
    let own = row node.name None in
    let free : AreFree node.name earlier =
    weaker (λ (o : Row). head_of o.name ≢ node.name) (λ (o : Row). IsUnder node.name o.name → ⊥)
    earlier (λ o other u. other (under-head node.name o.name good.plain u)) apart in
    subst (Follow earlier) (rows-below node) (
      record {
        distinct =
            All-from_recursion (λ (o : Row). o.name ≢ node.name) earlier
            (weaker (λ (o : Row). IsUnder node.name o.name → ⊥) (λ (o : Row). o.name ≢ node.name)
            earlier (λ o no same. no (subst (IsUnder node.name) (sym same) (own-under node.name)))
            free);
        parent = rw (parent-word node.name good.plain) tt;
      },
      parts-follow node.name node.parts (earlier ++ own ∷ []) good.good
          (any-last (IsStructureNamed node.name) earlier own
          (record { named = refl; structure = refl }))
          (free-parts node.name (part_names node.parts) earlier free),
    )

node-heads : (node : Node) → IsGood node
    → AllByRecursion (λ o. head_of o.name ≡ node.name) (node_rows node)
node-heads node good =
    subst (AllByRecursion (λ o. head_of o.name ≡ node.name)) (rows-below node)
    (weaker (λ (o : Row). IsUnder node.name o.name) (λ (o : Row). head_of o.name ≡ node.name)
    (row node.name None ∷ rows_of_parts node.name node.parts)
    (λ o u. under-head node.name o.name good.plain u)
    (own-under node.name, parts-under node.name node.parts))

-- the names differ, each from each later one
abbrev pub AllDiffer : List (List ℕ) → Type 0
AllDiffer [] = Unit {0}
AllDiffer (n ∷ ns) = AllByRecursion (λ m. n ≢ m) ns × AllDiffer ns

still-apart : (node : Node) (earlier : List Row) (nodes : List Node) → IsGood node
    → AllByRecursion (λ m. IsApart earlier m.name) nodes
    → AllByRecursion (λ m. node.name ≢ m) (map (λ m. m.name) nodes)
    → AllByRecursion (λ m. IsApart (earlier ++ node_rows node) m.name) nodes
still-apart node earlier [] good apart other = tt
still-apart node earlier (m ∷ ms) good apart other = (
  both (λ (o : Row). head_of o.name ≢ m.name) earlier (node_rows node) apart.0
      (weaker (λ (o : Row). head_of o.name ≡ node.name) (λ (o : Row). head_of o.name ≢ m.name)
      (node_rows node) (λ o head same. other.0 (sym head ∙ same)) (node-heads node good)),
  still-apart node earlier ms good apart.1 other.1,
)

-- nodes of different names follow one another
pub nodes-follow : (earlier : List Row) (nodes : List Node) → AllByRecursion IsGood nodes
    → AllByRecursion (λ m. IsApart earlier m.name) nodes → AllDiffer (map (λ m. m.name) nodes)
    → Follow earlier (flat_map node_rows nodes)
nodes-follow earlier [] good apart differ = tt
nodes-follow earlier (node ∷ nodes) good apart differ =
    Follow-append earlier (node_rows node) (flat_map node_rows nodes)
    (node-follows node earlier good.0 apart.0)
    (nodes-follow (earlier ++ node_rows node) nodes good.1
    (still-apart node earlier nodes good.0 apart.1 differ.0) differ.1)
