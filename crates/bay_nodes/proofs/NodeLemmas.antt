-- The rows of the nodes, as they are appended.
use Rattle.std.proofs.Common.{◌≡◌, ℕ, arith, ◌+◌, ◌<◌, Bool, true, false, cond, List, [], ◌∷◌, ◌++◌, length, map, filter, get_or, drop, codes, None, append_assoc, append-nil, refl, sym, ap, ◌∙◌}
use Rattle.std.specs.Borrow.{Bor}
use Rattle.std.proofs.lemmas.List.{drop_more, map-append}
use Rattle.std.specs.List.{flat_map, enumerate_from}
use Rattle.std.proofs.lemmas.Grind.{flat_map-append}
use Rattle.bay_tree.specs.declared.row.Row.{Row}
use Rattle.bay_tree.specs.declared.leaf.Leaf.TheVariants.{Truth, Text}
use Rattle.bay_tree.specs.declared.leaf.Quality.TheVariants.{Invalid}
use Rattle.bay_nodes.specs.declared.initial.InitialValue.{InitialValue}
use Rattle.bay_nodes.specs.declared.meter.Meter.{Meter}
use Rattle.bay_nodes.specs.declared.nameplate.Nameplate.{Nameplate}
use Rattle.bay_nodes.specs.declared.profile.Profile.{Profile}
use Rattle.bay_nodes.specs.declared.profile.Profile.TheVariants.{Two}
use Rattle.bay_nodes.specs.declared.subject.Subject.{Subject}
use Rattle.bay_nodes.specs.declared.subject.Subject.TheVariants.{Device}
use Rattle.bay_nodes.specs.declared.switch.Switch.{Switch}
use Rattle.bay_nodes.specs.Node.{NodePart, value, stamp, Parts, Node, row, rows_of, rows_of_parts, parts_of, inside, behaviour, description_group, node_name, node_rows, device_node, device_parts, physical_node, physical_parts, position_node, position_nodes, control_nodes, interlocking_nodes, meter_nodes, input_status, input_description, input_node, input_nodes, bay_rows, is_in_group}
use Rattle.bay_nodes.specs.NodeRows.{line_row, row_of_node, table_rows, input_rows, input_description_rows, object_rows}
use Rattle.bay_nodes.proofs.PathLemmas.{part-shifted, parts-shifted}

-- a node's own row, and the rows of its table
pub node-appended : (n : Nameplate) (s : Subject) (node name : List ℕ)
    (table : List (Bor (List ℕ) × InitialValue)) (parts : Parts) → node ≡ name
    → map (line_row n s) table ≡ rows_of_parts [] parts
    → row node None ∷ table_rows n s node table ≡ node_rows (record { name = name; parts = parts })
node-appended n s node name table parts named same =
    rw (sym named) (ap (λ rs. row node None ∷ map (row_of_node node) rs) same)

-- what is appended for the device itself makes its nodes
pub device-appended : (n : Nameplate) (old : List Row)
    (device physical : List (Bor (List ℕ) × InitialValue))
    → map (line_row n Device) device ≡ rows_of_parts [] (device_parts n.profile n)
    → map (line_row n Device) physical ≡ rows_of_parts [] (physical_parts n)
    → (old ++ row (codes "LLN0") None ∷ table_rows n Device (codes "LLN0") device)
    ++ row (codes "LPHD1") None ∷ table_rows n Device (codes "LPHD1") physical
    ≡ old ++ flat_map node_rows (device_node n ∷ physical_node n ∷ [])
device-appended n old device physical d p =
    let first = node_rows (device_node n) in
    let second = node_rows (physical_node n) in
    ap (λ rs. (old ++ rs)
    ++ row (codes "LPHD1") None ∷ table_rows n Device (codes "LPHD1") physical)
    (node-appended n Device (codes "LLN0") (codes "LLN0") device (device_parts n.profile n) refl d)
    ∙ ap (λ rs. (old ++ first) ++ rs)
    (node-appended n Device (codes "LPHD1") (codes "LPHD1") physical (physical_parts n) refl p)
    ∙ append_assoc old first second
    ∙ ap (λ rs. old ++ (first ++ rs)) (sym (append-nil second))

-- groups of rows that are appended one after another
pub two-groups : (node : List ℕ) (old a b : List Row)
    → (old ++ map (row_of_node node) a) ++ map (row_of_node node) b
    ≡ old ++ map (row_of_node node) (a ++ b)
two-groups node old a b = simp (append_assoc, map-append)

pub four-groups : (node : List ℕ) (old a b c d : List Row)
    → (((old ++ map (row_of_node node) a) ++ map (row_of_node node) b) ++ map (row_of_node node) c)
    ++ map (row_of_node node) d ≡ old ++ map (row_of_node node) (a ++ (b ++ (c ++ d)))
four-groups node old a b c d = simp (append_assoc, map-append)

-- two groups behind a node's own row, and three
node-and-two : (node : List ℕ) (old a b : List Row)
    → (old ++ row node None ∷ map (row_of_node node) a) ++ map (row_of_node node) b
    ≡ old ++ row node None ∷ map (row_of_node node) (a ++ b)
node-and-two node old a b = simp (append_assoc, map-append)

node-and-three : (node : List ℕ) (old a b c : List Row)
    → ((old ++ row node None ∷ map (row_of_node node) a) ++ map (row_of_node node) b)
    ++ map (row_of_node node) c ≡ old ++ row node None ∷ map (row_of_node node) (a ++ (b ++ c))
node-and-three node old a b c = simp (append_assoc, map-append)

-- the rows of the first parts, and then those of the others
rows-of_both : (path : List ℕ) (ps qs : List NodePart)
    → rows_of_parts path (parts_of (ps ++ qs))
    ≡ rows_of_parts path (parts_of ps) ++ rows_of_parts path (parts_of qs)
rows-of_both path [] qs = refl
rows-of_both path (p ∷ ps) qs =
    ap (λ rs. rows_of path p ++ rs) (rows-of_both path ps qs)
    ∙ sym (append_assoc (rows_of path p) (rows_of_parts path (parts_of ps))
    (rows_of_parts path (parts_of qs)))

-- a node of two lists of parts
pub two-appended : (old : List Row) (node name : List ℕ) (a b : List Row) (ps qs : List NodePart)
    → node ≡ name → a ≡ rows_of_parts [] (parts_of ps) → b ≡ rows_of_parts [] (parts_of qs)
    → (old ++ row node None ∷ map (row_of_node node) a) ++ map (row_of_node node) b
    ≡ old ++ node_rows (record { name = name; parts = parts_of (ps ++ qs) })
two-appended old node name a b ps qs named f g =
    rw (f, g, sym named)
    (node-and-two node old (rows_of_parts [] (parts_of ps)) (rows_of_parts [] (parts_of qs))
    ∙ ap (λ rs. old ++ row node None ∷ map (row_of_node node) rs) (sym (rows-of_both [] ps qs)))

-- a node of a part and two lists of parts
pub three-appended : (old : List Row) (node name : List ℕ) (a b c : List Row) (p : NodePart)
    (qs rs : List NodePart) → node ≡ name → a ≡ rows_of [] p
    → b ≡ rows_of_parts [] (parts_of qs) → c ≡ rows_of_parts [] (parts_of rs)
    → ((old ++ row node None ∷ map (row_of_node node) a) ++ map (row_of_node node) b)
    ++ map (row_of_node node) c
    ≡ old ++ node_rows (record { name = name; parts = parts_of (p ∷ qs ++ rs) })
three-appended old node name a b c p qs rs named f g h =
    rw (f, g, h, sym named)
    (node-and-three node old (rows_of [] p) (rows_of_parts [] (parts_of qs))
    (rows_of_parts [] (parts_of rs))
    ∙ ap (λ us. old ++ row node None ∷ map (row_of_node node) (rows_of [] p ++ us))
    (sym (rows-of_both [] qs rs)))

-- the rows of the breakers or of the other switches, numbered from n
abbrev pub positions_from : Nameplate → Bool → ℕ → List Switch → List Row
positions_from p breakers n ss =
    flat_map node_rows (map (position_node p) (enumerate_from n (filter (is_in_group breakers) ss)))

positions-cons : (p : Nameplate) (breakers : Bool) (n : ℕ) (s : Switch) (ss : List Switch)
    (b : Bool)
    → is_in_group breakers s ≡ b → positions_from p breakers n (s ∷ ss)
    ≡ cond b (node_rows (position_node p (n, s)) ++ positions_from p breakers (n + 1) ss)
    (positions_from p breakers n ss)
positions-cons p breakers n s ss true e = rw e
positions-cons p breakers n s ss false e = rw e

positions-at : (p : Nameplate) (breakers : Bool) (ss : List Switch) (i n : ℕ) (s : Switch)
    (b : Bool)
    → i < length ss → s ≡ get_or ss i s → is_in_group breakers s ≡ b
    → positions_from p breakers n (drop i ss)
    ≡ cond b (node_rows (position_node p (n, s))
    ++ positions_from p breakers (n + 1) (drop (i + 1) ss))
    (positions_from p breakers n (drop (i + 1) ss))
positions-at p breakers ss i n s b h at e =
    ap (positions_from p breakers n) (drop_more ss i s h)
    ∙ ap (λ t. positions_from p breakers n (t ∷ drop (i + 1) ss)) (sym at)
    ∙ positions-cons p breakers n s (drop (i + 1) ss) b e

-- one turn: a switch that has a node here, and one that has none
pub position-turn : (p : Nameplate) (breakers : Bool) (ss : List Switch) (i n : ℕ) (s : Switch)
    (done : List Row)
    → i < length ss → s ≡ get_or ss i s → is_in_group breakers s ≡ true
    → done ++ positions_from p breakers n (drop i ss)
    ≡ (done ++ node_rows (position_node p (n, s)))
    ++ positions_from p breakers (n + 1) (drop (i + 1) ss)
position-turn p breakers ss i n s done h at e =
    ap (λ rows. done ++ rows) (positions-at p breakers ss i n s true h at e)
    ∙ sym (append_assoc done (node_rows (position_node p (n, s)))
    (positions_from p breakers (n + 1) (drop (i + 1) ss)))

pub position-passed : (p : Nameplate) (breakers : Bool) (ss : List Switch) (i n : ℕ) (s : Switch)
    (done : List Row)
    → i < length ss → s ≡ get_or ss i s → is_in_group breakers s ≡ false
    → done ++ positions_from p breakers n (drop i ss)
    ≡ done ++ positions_from p breakers n (drop (i + 1) ss)
position-passed p breakers ss i n s done h at e =
    ap (λ rows. done ++ rows) (positions-at p breakers ss i n s false h at e)

-- the rows of nodes that are numbered one after the other from n
abbrev pub numbered_from : {T : Type 0} → (ℕ × T → Node) → ℕ → List T → List Row
numbered_from make n ts = flat_map node_rows (map make (enumerate_from n ts))

-- one turn of them
pub numbered-turn : {T : Type 0} (make : ℕ × T → Node) (ts : List T) (i : ℕ) (t : T)
    (done : List Row) → i < length ts → t ≡ get_or ts i t
    → done ++ numbered_from make (i + 1) (drop i ts)
    ≡ (done ++ node_rows (make (i + 1, t))) ++ numbered_from make (i + 1 + 1) (drop (i + 1) ts)
numbered-turn make ts i t done h at =
    ap (λ us. done ++ numbered_from make (i + 1) us)
    (drop_more ts i t h ∙ ap (λ u. u ∷ drop (i + 1) ts) (sym at))
    ∙ sym (append_assoc done (node_rows (make (i + 1, t)))
    (numbered_from make (i + 1 + 1) (drop (i + 1) ts)))

-- ---- the inputs

-- one turn of the inputs of a group
pub object-turn : (object : List ℕ) (table : List ℕ → List Row) (names : List (List ℕ)) (i : ℕ)
    (name : List ℕ) (done : List Row) → i < length names → name ≡ get_or names i name
    → done ++ object_rows object table (i + 1) (drop i names)
    ≡ (done ++ map (row_of_node (node_name object (i + 1))) (table name))
    ++ object_rows object table (i + 1 + 1) (drop (i + 1) names)
object-turn object table names i name done h at =
    ap (λ us. done ++ object_rows object table (i + 1) us)
    (drop_more names i name h ∙ ap (λ u. u ∷ drop (i + 1) names) (sym at))
    ∙ sym (append_assoc done (map (row_of_node (node_name object (i + 1))) (table name))
    (object_rows object table (i + 1 + 1) (drop (i + 1) names)))

-- the rows of an object from the paths below it
object-shifted : (object : List ℕ) (ps : Parts)
    → map (row_of_node object) (row [] None ∷ rows_of_parts [] ps)
    ≡ row object None ∷ rows_of_parts object ps
object-shifted object ps =
    rw (append-nil object)
    (ap (λ rs. row object None ∷ rs)
    (parts-shifted object [] ps ∙ ap (λ q. rows_of_parts q ps) (append-nil object)))

-- the parts of a group that are made for the inputs, as the code appends them
objects-are : (node path object : List ℕ) (make : ℕ × List ℕ → NodePart)
    (table : List ℕ → List Row)
    → ((k : ℕ) (name : List ℕ) → map (row_of_node node) (rows_of path (make (k, name)))
    ≡ map (row_of_node (node_name object k)) (table name))
    → (n : ℕ) (names : List (List ℕ))
    → map (row_of_node node) (rows_of_parts path (parts_of (map make (enumerate_from n names))))
    ≡ object_rows object table n names
objects-are node path object make table alike n [] = refl
objects-are node path object make table alike n (name ∷ names) =
    map-append (row_of_node node) (rows_of path (make (n, name)))
    (rows_of_parts path (parts_of (map make (enumerate_from (n + 1) names))))
    ∙ ap (λ rs. rs ++ map (row_of_node node)
    (rows_of_parts path (parts_of (map make (enumerate_from (n + 1) names))))) (alike n name)
    ∙ ap (λ rs. map (row_of_node (node_name object n)) (table name) ++ rs)
    (objects-are node path object make table alike (n + 1) names)

statuses-are : (k : ℕ) (name : List ℕ)
    → map (row_of_node (codes "GGIO1")) (rows_of (codes "$ST") (input_status (k, name)))
    ≡ map (row_of_node (node_name (codes "GGIO1$ST$Ind") k)) input_rows
statuses-are k name =
    part-shifted (codes "GGIO1") (codes "$ST") (input_status (k, name))
    ∙ sym (object-shifted (node_name (codes "GGIO1$ST$Ind") k)
    (parts_of (value (codes "stVal") (Truth false) ∷ stamp Invalid)))

descriptions-are : (k : ℕ) (name : List ℕ)
    → map (row_of_node (codes "GGIO1")) (rows_of (codes "$DC") (input_description (k, name)))
    ≡ map (row_of_node (node_name (codes "GGIO1$DC$Ind") k)) (input_description_rows name)
descriptions-are k name =
    part-shifted (codes "GGIO1") (codes "$DC") (input_description (k, name))
    ∙ sym (object-shifted (node_name (codes "GGIO1$DC$Ind") k)
    (parts_of (value (codes "d") (Text name) ∷ [])))

-- four groups behind a node's own row, of which two are the rows of the inputs
node-and-four : (node : List ℕ) (old a b c d : List Row)
    → (((old ++ row node None ∷ map (row_of_node node) a) ++ map (row_of_node node) b)
    ++ map (row_of_node node) c) ++ map (row_of_node node) d
    ≡ old ++ row node None ∷ map (row_of_node node) ((a ++ b) ++ ((c ++ d) ++ []))
node-and-four node old a b c d = simp (append_assoc, append-nil, map-append)

-- what is appended for the inputs makes their node
pub inputs-appended : (n : Nameplate) (inputs : List (List ℕ)) (old a b c d : List Row)
    → a ≡ rows_of [] (inside (codes "ST") (behaviour Two))
    → b ≡ object_rows (codes "GGIO1$ST$Ind") (λ name. input_rows) 1 inputs
    → c ≡ rows_of_parts [] (parts_of (description_group Two n n.model))
    → d ≡ object_rows (codes "GGIO1$DC$Ind") input_description_rows 1 inputs
    → (((old ++ row (codes "GGIO1") None ∷ map (row_of_node (codes "GGIO1")) a) ++ b)
    ++ map (row_of_node (codes "GGIO1")) c) ++ d ≡ old ++ node_rows (input_node n inputs)
inputs-appended n inputs old a b c d f g h k =
    let statuses =
    rows_of_parts (codes "$ST") (parts_of (map input_status (enumerate_from 1 inputs)))
    in
    let texts =
    rows_of_parts (codes "$DC") (parts_of (map input_description (enumerate_from 1 inputs))) in
    rw (
      f,
      g ∙ sym (objects-are (codes "GGIO1") (codes "$ST") (codes "GGIO1$ST$Ind") input_status
          (λ name. input_rows) statuses-are 1 inputs),
      h,
      k ∙ sym (objects-are (codes "GGIO1") (codes "$DC") (codes "GGIO1$DC$Ind") input_description
          input_description_rows descriptions-are 1 inputs),
    )
    (node-and-four (codes "GGIO1") old (rows_of [] (inside (codes "ST") (behaviour Two))) statuses
    (rows_of_parts [] (parts_of (description_group Two n n.model))) texts)

-- in profile 2 the inputs have a node, if there are inputs
pub inputs-have-node : (profile : Profile) (n : Nameplate) (inputs : List (List ℕ)) → profile ≡ Two
    → 0 < length inputs
    → flat_map node_rows (input_nodes profile n inputs) ≡ node_rows (input_node n inputs)
inputs-have-node profile n [] two some = absurd (omega (arith, some))
inputs-have-node profile n (name ∷ names) two some =
    rw two (append-nil (node_rows (input_node n (name ∷ names))))

-- ---- all nodes

joined : {X A : Type 0} (f : X → List A) (ts us vs ws xs ys zs : List X)
    → (((((([] ++ flat_map f ts) ++ flat_map f us) ++ flat_map f vs) ++ flat_map f ws)
    ++ flat_map f xs) ++ flat_map f ys) ++ flat_map f zs
    ≡ flat_map f (ts ++ (us ++ (vs ++ (ws ++ (xs ++ (ys ++ zs))))))
joined f ts us vs ws xs ys zs = simp (append_assoc, flat_map-append)

-- the rows of all nodes, appended one group behind the other
pub all-joined : (p : Nameplate) (ss : List Switch) (ins : List (List ℕ)) (ms : List Meter)
    (o a b c d e f g : List Row)
    → o ≡ [] → a ≡ o ++ flat_map node_rows (device_node p ∷ physical_node p ∷ [])
    → b ≡ a ++ flat_map node_rows (position_nodes p true ss)
    → c ≡ b ++ flat_map node_rows (position_nodes p false ss)
    → d ≡ c ++ flat_map node_rows (control_nodes p ss)
    → e ≡ d ++ flat_map node_rows (interlocking_nodes p ss)
    → f ≡ e ++ flat_map node_rows (meter_nodes p ms)
    → g ≡ f ++ flat_map node_rows (input_nodes p.profile p ins) → g ≡ bay_rows p ss ins ms
all-joined p ss ins ms o a b c d e f g ho ha hb hc hd he hf hg =
    rw (hg, hf, he, hd, hc, hb, ha, ho)
    (joined node_rows (device_node p ∷ physical_node p ∷ []) (position_nodes p true ss)
    (position_nodes p false ss) (control_nodes p ss) (interlocking_nodes p ss) (meter_nodes p ms)
    (input_nodes p.profile p ins))
