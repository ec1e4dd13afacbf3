-- The node of each switch is among the nodes of its bay.
use Rattle.std.proofs.Common.{is_some, ◌≡◌, ℕ, zero, suc, ◌+◌, ◌<◌, Bool, true, false, List, [], ◌∷◌, ◌++◌, length, map, filter, take, get_or, ltb, pos, slice_get, Option, None, Some, codes, All, Contains, append_assoc, refl, sym, ap, subst, ◌∙◌, arith}
use Rattle.std.proofs.lemmas.Bool.{ltb-true}
use Rattle.std.proofs.lemmas.List.{get_or-map, length-map}
use Rattle.std.proofs.lemmas.List.Elements.{Contains-append_left, Contains-append_right, Contains-get_or}
use Rattle.std.specs.List.{enumerate_from, flat_map}
use Rattle.bay_tree.specs.declared.row.Row.{Row}
use Rattle.bay_tree.specs.declared.leaf.Leaf.{Leaf}
use Rattle.bay_tree.specs.declared.leaf.Leaf.TheVariants.{Truth, Quality, Int8, Unsigned8, Octets, Utc}
use Rattle.bay_tree.specs.declared.leaf.Quality.{Quality as Validity}
use Rattle.bay_config.specs.declared.bay.Bay.{Bay}
use Rattle.bay_base.specs.declared.switch.Control.{Control}
use Rattle.bay_base.specs.declared.switch.Control.TheVariants.{Status, Direct, Sbo, SboEnhanced}
use Rattle.bay_nodes.specs.declared.switch.Switch.{Switch}
use Rattle.bay_nodes.specs.declared.meter.Meter.{Meter}
use Rattle.bay_nodes.specs.declared.nameplate.Nameplate.{Nameplate}
use Rattle.bay_nodes.specs.declared.profile.Profile.{Profile}
use Rattle.bay_nodes.specs.declared.profile.Profile.TheVariants.{One, Two}
use Rattle.bay_config.specs.Laws.{nameplate_of, IsBay, HasNode, HasPosition, HasCancel, HasControl, HasCommands, HasEnable, HasFloats, HasLocal, HasMeter, HasValue, NamesPosition, NamesControl, NamesInterlocking, NamesMeter}
use Rattle.bay_nodes.specs.Names.{StatusNames, opening_names, closing_names, control_names_of, float_names_of, meter_names_of}
use Rattle.bay_nodes.specs.Node.{Parts, parts_of, Node, row, node_rows, node_name, class_of, is_breaker, is_in_group, node_number, device_node, physical_node, position_node, position_nodes, position_parts, command_parts, control_node, control_nodes, control_parts, control_settings, control_status, input_nodes, interlocking_node, interlocking_nodes, interlocking_parts, meter_node, meter_nodes, meter_parts, meter_settings, meter_values, nodes_of}

Contains-cons : {X : Type 0} (y : X) (xs : List X) (x : X) → Contains xs x → Contains (y ∷ xs) x
Contains-cons y xs x w = (suc w.0, omega (arith, w.1), w.2)

Contains-map : {X Y : Type 0} (f : X → Y) (xs : List X) (x : X) → Contains xs x
    → Contains (map f xs) (f x)
Contains-map f xs x w =
    let long : length (map f xs) ≡ length xs = length-map xs f in
    (w.0, omega (arith, w.1), get_or-map f xs w.0 x (f x) w.1 ∙ ap f w.2)

-- each row of a node is among the rows of the nodes
rows-among : (nodes : List Node) (node : Node) (r : Row) (k : ℕ) → k < length nodes
    → get_or nodes k node ≡ node → Contains (node_rows node) r
    → Contains (flat_map node_rows nodes) r
rows-among [] node r k lt e at = absurd (omega arith)
rows-among (n ∷ nodes) node r zero lt e at =
    Contains-append_left (node_rows n) (flat_map node_rows nodes) r
    (subst (λ m. Contains (node_rows m) r) (sym e) at)
rows-among (n ∷ nodes) node r (suc k) lt e at =
    Contains-append_right (node_rows n) (flat_map node_rows nodes) r
    (rows-among nodes node r k (omega arith) e at)

has-node : (nodes : List Node) (node : Node) → Contains nodes node
    → All (Contains (flat_map node_rows nodes)) (node_rows node)
has-node nodes node w =
    λ k d lt. rows-among nodes node (get_or (node_rows node) k d) w.0 w.1 w.2
    (Contains-get_or (node_rows node) k d lt)

numbered-step : (b : Bool) (t : Switch) (ss : List Switch) (index : ℕ) (s : Switch) (n : ℕ)
    (c : Bool) → is_in_group b t ≡ c
    → ((m : ℕ) → Contains (enumerate_from m (filter (is_in_group b) ss))
    (m + length (filter (is_in_group b) (take index ss)), s))
    → Contains (enumerate_from n (filter (is_in_group b) (t ∷ ss)))
    (n + length (filter (is_in_group b) (t ∷ take index ss)), s)
numbered-step b t ss index s n true e rest =
    let more : n + 1 + length (filter (is_in_group b) (take index ss))
    ≡ n + suc (length (filter (is_in_group b) (take index ss))) = omega arith in
    rw e (subst (λ m. Contains ((n, t) ∷ enumerate_from (n + 1) (filter (is_in_group b) ss)) (m, s))
    more
    (Contains-cons (n, t) (enumerate_from (n + 1) (filter (is_in_group b) ss))
    (n + 1 + length (filter (is_in_group b) (take index ss)), s) (rest (n + 1))))
numbered-step b t ss index s n false e rest =
    rw e (rest n)

numbered-first : (b : Bool) (t : Switch) (ss : List Switch) (n : ℕ) → is_in_group b t ≡ true
    → Contains (enumerate_from n (filter (is_in_group b) (t ∷ ss))) (n + 0, t)
numbered-first b t ss n is =
    let none : n + 0 ≡ n = omega arith in
    rw is (0, omega arith, ap (λ m. (m, t)) (sym none))

numbered-has : (b : Bool) (ss : List Switch) (index : ℕ) (s : Switch) (n : ℕ)
    → slice_get ss index ≡ Some s → is_in_group b s ≡ true
    → Contains (enumerate_from n (filter (is_in_group b) ss))
    (n + length (filter (is_in_group b) (take index ss)), s)
numbered-has b [] index s n here is = cc
numbered-has b (t ∷ ss) zero s n here is =
    let same : s ≡ t = cc in
    subst (λ u. Contains (enumerate_from n (filter (is_in_group b) (t ∷ ss))) (n + 0, u)) (sym same)
    (numbered-first b t ss n (ap (is_in_group b) (sym same) ∙ is))
numbered-has b (t ∷ ss) (suc index) s n here is =
    numbered-step b t ss index s n (is_in_group b t) refl (λ m. numbered-has b ss index s m here is)

enumerate-has : {T : Type 0} (ts : List T) (index n : ℕ) → index < length ts
    → (t : T) × Contains (enumerate_from n ts) (n + index, t) × (slice_get ts index ≡ Some t)
enumerate-has [] index n lt = absurd (omega arith)
enumerate-has (t ∷ ts) zero n lt =
    let none : n + 0 ≡ n = omega arith in
    (t, (0, omega arith, ap (λ m. (m, t)) (sym none)), refl)
enumerate-has (t ∷ ts) (suc index) n lt =
    let w = enumerate-has ts index (n + 1) (omega arith) in
    let more : n + 1 + index ≡ n + suc index = omega arith in (
      w.0,
      subst (λ m. Contains ((n, t) ∷ enumerate_from (n + 1) ts) (m, w.0)) more
          (Contains-cons (n, t) (enumerate_from (n + 1) ts) (n + 1 + index, w.0) w.1),
      w.2,
    )

among-class : (p : Nameplate) (b : Bool) (ss : List Switch) (index : ℕ) (s : Switch)
    → slice_get ss index ≡ Some s → is_breaker s.kind ≡ b → Contains (position_nodes p b ss)
    (position_node p (length (filter (is_in_group b) (take index ss)) + 1, s))
among-class p b ss index s here e =
    let count = length (filter (is_in_group b) (take index ss)) in
    let more : 1 + count ≡ count + 1 = omega arith in
    Contains-map (position_node p) (enumerate_from 1 (filter (is_in_group b) ss)) (count + 1, s)
    (subst (λ m. Contains (enumerate_from 1 (filter (is_in_group b) ss)) (m, s)) more
    (numbered-has b ss index s 1 here (is-own b s e)))
  where
    is-own : (b : Bool) (s : Switch) → is_breaker s.kind ≡ b → is_in_group b s ≡ true
    is-own true s e = e
    is-own false s e = rw e

-- the groups of nodes are among the nodes of a bay
abbrev general : Nameplate → List Node
general n = device_node n ∷ physical_node n ∷ []

module _ (n : Nameplate) (ss : List Switch) (ins : List (List ℕ)) (ms : List Meter) where
  abbrev inputs : List Node
  inputs = input_nodes n.profile n ins

  abbrev behind_positions : List Node
  behind_positions = control_nodes n ss ++ (interlocking_nodes n ss ++ (meter_nodes n ms ++ inputs))

  breakers-within : (node : Node) → Contains (position_nodes n true ss) node
      → Contains (nodes_of n ss ins ms) node
  breakers-within node h =
      Contains-append_right (general n)
      (position_nodes n true ss ++ (position_nodes n false ss ++ behind_positions)) node
      (Contains-append_left (position_nodes n true ss)
      (position_nodes n false ss ++ behind_positions) node h)

  behind-breakers : (node : Node)
      → Contains (position_nodes n false ss ++ behind_positions) node
      → Contains (nodes_of n ss ins ms) node
  behind-breakers node h =
      Contains-append_right (general n)
      (position_nodes n true ss ++ (position_nodes n false ss ++ behind_positions)) node
      (Contains-append_right (position_nodes n true ss)
      (position_nodes n false ss ++ behind_positions) node h)

  others-within : (node : Node) → Contains (position_nodes n false ss) node
      → Contains (nodes_of n ss ins ms) node
  others-within node h =
      behind-breakers node
      (Contains-append_left (position_nodes n false ss) behind_positions node h)

  behind-within : (node : Node) → Contains behind_positions node
      → Contains (nodes_of n ss ins ms) node
  behind-within node h =
      behind-breakers node
      (Contains-append_right (position_nodes n false ss) behind_positions node h)

  controls-within : (node : Node) → Contains (control_nodes n ss) node
      → Contains (nodes_of n ss ins ms) node
  controls-within node h =
      behind-within node
      (Contains-append_left (control_nodes n ss)
      (interlocking_nodes n ss ++ (meter_nodes n ms ++ inputs)) node h)

  behind-controls : (node : Node)
      → Contains (interlocking_nodes n ss ++ (meter_nodes n ms ++ inputs)) node
      → Contains (nodes_of n ss ins ms) node
  behind-controls node h =
      behind-within node
      (Contains-append_right (control_nodes n ss)
      (interlocking_nodes n ss ++ (meter_nodes n ms ++ inputs)) node h)

  interlockings-within : (node : Node) → Contains (interlocking_nodes n ss) node
      → Contains (nodes_of n ss ins ms) node
  interlockings-within node h =
      behind-controls node
      (Contains-append_left (interlocking_nodes n ss) (meter_nodes n ms ++ inputs) node h)

  behind-interlockings : (node : Node) → Contains (meter_nodes n ms ++ inputs) node
      → Contains (nodes_of n ss ins ms) node
  behind-interlockings node h =
      behind-controls node
      (Contains-append_right (interlocking_nodes n ss) (meter_nodes n ms ++ inputs) node h)

  pub inputs-within : (node : Node) → Contains inputs node → Contains (nodes_of n ss ins ms) node
  inputs-within node h =
      behind-interlockings node (Contains-append_right (meter_nodes n ms) inputs node h)

  meters-within : (node : Node) → Contains (meter_nodes n ms) node
      → Contains (nodes_of n ss ins ms) node
  meters-within node h =
      behind-interlockings node (Contains-append_left (meter_nodes n ms) inputs node h)

  position-among : (b : Bool) (index : ℕ) (s : Switch) → slice_get ss index ≡ Some s
      → is_breaker s.kind ≡ b → Contains (nodes_of n ss ins ms)
      (position_node n (length (filter (is_in_group b) (take index ss)) + 1, s))
  position-among true index s here e = breakers-within _ (among-class n true ss index s here e)
  position-among false index s here e = others-within _ (among-class n false ss index s here e)

-- a row of a node, by its place among them
pub row-at : (bay : Bay) (node : Node) → HasNode bay node → (k : ℕ)
    → ltb k (length (node_rows node)) ≡ true
    → Contains bay.rows (get_or (node_rows node) k (row [] None))
row-at bay node h k within = h k (row [] None) (ltb-true k (length (node_rows node)) within)

pub has-value : {rows : List Row} {names : StatusNames} {value : Leaf} {quality : Validity}
    → Contains rows (row names.value (Some value))
    → Contains rows (row names.quality (Some (Quality quality)))
    → Contains rows (row names.time (Some (Utc 0))) → HasValue rows names value quality
has-value v q t = record { value_there = v; quality_there = q; moment_there = t }

has-position : (bay : Bay) (name : List ℕ) (profile : Profile) (breaker : Bool) (n : Nameplate)
    (s : Switch)
    → HasNode bay (record { name = name; parts = position_parts profile breaker n s })
    → HasPosition bay.rows name
has-position bay name One true n s h =
    let at = row-at bay (record { name = name; parts = position_parts One true n s }) h in
    record {
      position = has-value (at 3 refl) (at 4 refl) (at 5 refl);
      operations = has-value (at 15 refl) (at 16 refl) (at 17 refl);
    }
has-position bay name One false n s h =
    let at = row-at bay (record { name = name; parts = position_parts One false n s }) h in
    record {
      position = has-value (at 3 refl) (at 4 refl) (at 5 refl);
      operations = has-value (at 15 refl) (at 16 refl) (at 17 refl);
    }
has-position bay name Two true n s h =
    let at = row-at bay (record { name = name; parts = position_parts Two true n s }) h in
    record {
      position = has-value (at 19 refl) (at 20 refl) (at 21 refl);
      operations = has-value (at 11 refl) (at 12 refl) (at 13 refl);
    }
has-position bay name Two false n s h =
    let at = row-at bay (record { name = name; parts = position_parts Two false n s }) h in
    record {
      position = has-value (at 23 refl) (at 24 refl) (at 25 refl);
      operations = has-value (at 11 refl) (at 12 refl) (at 13 refl);
    }

has-local : (bay : Bay) (name : List ℕ) (profile : Profile) (breaker : Bool) (n : Nameplate)
    (s : Switch)
    → HasNode bay (record { name = name; parts = position_parts profile breaker n s })
    → HasLocal profile bay.rows name s
has-local bay name One breaker n s h = tt
has-local bay name Two true n s h =
    let at = row-at bay (record { name = name; parts = position_parts Two true n s }) h in
    has-value (at 7 refl) (at 8 refl) (at 9 refl)
has-local bay name Two false n s h =
    let at = row-at bay (record { name = name; parts = position_parts Two false n s }) h in
    has-value (at 7 refl) (at 8 refl) (at 9 refl)

has-open : (bay : Bay) (name : List ℕ) (profile : Profile) (n : Nameplate) (s : Switch)
    → HasNode bay (record { name = name; parts = interlocking_parts profile n s })
    → HasEnable bay.rows (opening_names name)
has-open bay name One n s h =
    let at = row-at bay (record { name = name; parts = interlocking_parts One n s }) h in
    has-value (at 3 refl) (at 4 refl) (at 5 refl)
has-open bay name Two n s h =
    let at = row-at bay (record { name = name; parts = interlocking_parts Two n s }) h in
    has-value (at 7 refl) (at 8 refl) (at 9 refl)

has-close : (bay : Bay) (name : List ℕ) (profile : Profile) (n : Nameplate) (s : Switch)
    → HasNode bay (record { name = name; parts = interlocking_parts profile n s })
    → HasEnable bay.rows (closing_names name)
has-close bay name One n s h =
    let at = row-at bay (record { name = name; parts = interlocking_parts One n s }) h in
    has-value (at 7 refl) (at 8 refl) (at 9 refl)
has-close bay name Two n s h =
    let at = row-at bay (record { name = name; parts = interlocking_parts Two n s }) h in
    has-value (at 11 refl) (at 12 refl) (at 13 refl)

-- the node of a control of this kind
abbrev control_node_of : List ℕ → Profile → Control → Nameplate → Switch → Node
control_node_of name profile control n s = record {
  name = name;
  parts =
      parts_of
      (control_status profile ∷ command_parts control ++ control_settings profile n s);
}

has-control : (bay : Bay) (name : List ℕ) (profile : Profile) (control : Control) (n : Nameplate)
    (s : Switch) → HasNode bay (control_node_of name profile control n s)
    → HasControl bay.rows name
has-control bay name One Status n s h =
    let at = row-at bay (control_node_of name One Status n s) h in
    record { position = has-value (at 3 refl) (at 4 refl) (at 5 refl); selected = at 6 refl }
has-control bay name One Direct n s h =
    let at = row-at bay (control_node_of name One Direct n s) h in
    record { position = has-value (at 3 refl) (at 4 refl) (at 5 refl); selected = at 6 refl }
has-control bay name One Sbo n s h =
    let at = row-at bay (control_node_of name One Sbo n s) h in
    record { position = has-value (at 3 refl) (at 4 refl) (at 5 refl); selected = at 6 refl }
has-control bay name One SboEnhanced n s h =
    let at = row-at bay (control_node_of name One SboEnhanced n s) h in
    record { position = has-value (at 3 refl) (at 4 refl) (at 5 refl); selected = at 6 refl }
has-control bay name Two Status n s h =
    let at = row-at bay (control_node_of name Two Status n s) h in
    record { position = has-value (at 7 refl) (at 8 refl) (at 9 refl); selected = at 10 refl }
has-control bay name Two Direct n s h =
    let at = row-at bay (control_node_of name Two Direct n s) h in
    record { position = has-value (at 7 refl) (at 8 refl) (at 9 refl); selected = at 10 refl }
has-control bay name Two Sbo n s h =
    let at = row-at bay (control_node_of name Two Sbo n s) h in
    record { position = has-value (at 7 refl) (at 8 refl) (at 9 refl); selected = at 10 refl }
has-control bay name Two SboEnhanced n s h =
    let at = row-at bay (control_node_of name Two SboEnhanced n s) h in
    record { position = has-value (at 7 refl) (at 8 refl) (at 9 refl); selected = at 10 refl }

-- the names of a node's rows are its name and their paths
inside-name : (rows : List Row) (name path word : List ℕ) (leaf : Option Leaf)
    → Contains rows (row (name ++ (path ++ word)) leaf)
    → Contains rows (row ((name ++ path) ++ word) leaf)
inside-name rows name path word leaf h =
    subst (λ n. Contains rows (row n leaf)) (sym (append_assoc name path word)) h

has-cancel : {rows : List Row} (name path : List ℕ) → Contains rows (row (name ++ path) None)
    → Contains rows (row (name ++ (path ++ codes "$ctlVal")) (Some (Truth false)))
    → Contains rows (row (name ++ (path ++ codes "$origin")) None)
    → Contains rows (row (name ++ (path ++ codes "$origin$orCat")) (Some (Int8 (pos 0))))
    → Contains rows (row (name ++ (path ++ codes "$origin$orIdent")) (Some (Octets [])))
    → Contains rows (row (name ++ (path ++ codes "$ctlNum")) (Some (Unsigned8 0)))
    → Contains rows (row (name ++ (path ++ codes "$T")) (Some (Utc 0)))
    → Contains rows (row (name ++ (path ++ codes "$Test")) (Some (Truth false)))
    → HasCancel rows (name ++ path)
has-cancel {rows} name path structure value origin category identity number moment test = record {
  structure = structure;
  value = inside-name rows name path (codes "$ctlVal") _ value;
  origin = inside-name rows name path (codes "$origin") _ origin;
  category = inside-name rows name path (codes "$origin$orCat") _ category;
  identity = inside-name rows name path (codes "$origin$orIdent") _ identity;
  number = inside-name rows name path (codes "$ctlNum") _ number;
  moment = inside-name rows name path (codes "$T") _ moment;
  test = inside-name rows name path (codes "$Test") _ test;
}

has-commands : (bay : Bay) (name : List ℕ) (profile : Profile) (control : Control) (n : Nameplate)
    (s : Switch) → HasNode bay (control_node_of name profile control n s)
    → HasCommands bay.rows (control_names_of name) control
has-commands bay name One Status n s h = tt
has-commands bay name One Direct n s h =
    let at = row-at bay (control_node_of name One Direct n s) h in
    record {
      parts =
          has-cancel name (codes "$CO$Pos$Oper") (at 9 refl) (at 10 refl) (at 11 refl) (at 12 refl)
          (at 13 refl) (at 14 refl) (at 15 refl) (at 16 refl);
      checks = inside-name bay.rows name (codes "$CO$Pos$Oper") (codes "$Check") _ (at 17 refl);
    }
has-commands bay name One Sbo n s h =
    let at = row-at bay (control_node_of name One Sbo n s) h in
    record {
      select = at 9 refl;
      operate = record {
        parts =
            has-cancel name (codes "$CO$Pos$Oper") (at 10 refl) (at 11 refl) (at 12 refl)
            (at 13 refl)
            (at 14 refl) (at 15 refl) (at 16 refl) (at 17 refl);
        checks = inside-name bay.rows name (codes "$CO$Pos$Oper") (codes "$Check") _ (at 18 refl);
      };
      cancel =
          has-cancel name (codes "$CO$Pos$Cancel") (at 19 refl) (at 20 refl) (at 21 refl)
          (at 22 refl)
          (at 23 refl) (at 24 refl) (at 25 refl) (at 26 refl);
    }
has-commands bay name One SboEnhanced n s h =
    let at = row-at bay (control_node_of name One SboEnhanced n s) h in
    record {
      select = record {
        parts =
            has-cancel name (codes "$CO$Pos$SBOw") (at 9 refl) (at 10 refl) (at 11 refl)
            (at 12 refl)
            (at 13 refl) (at 14 refl) (at 15 refl) (at 16 refl);
        checks = inside-name bay.rows name (codes "$CO$Pos$SBOw") (codes "$Check") _ (at 17 refl);
      };
      operate = record {
        parts =
            has-cancel name (codes "$CO$Pos$Oper") (at 18 refl) (at 19 refl) (at 20 refl)
            (at 21 refl)
            (at 22 refl) (at 23 refl) (at 24 refl) (at 25 refl);
        checks = inside-name bay.rows name (codes "$CO$Pos$Oper") (codes "$Check") _ (at 26 refl);
      };
      cancel =
          has-cancel name (codes "$CO$Pos$Cancel") (at 27 refl) (at 28 refl) (at 29 refl)
          (at 30 refl)
          (at 31 refl) (at 32 refl) (at 33 refl) (at 34 refl);
    }
has-commands bay name Two Status n s h = tt
has-commands bay name Two Direct n s h =
    let at = row-at bay (control_node_of name Two Direct n s) h in
    record {
      parts =
          has-cancel name (codes "$CO$Pos$Oper") (at 13 refl) (at 14 refl) (at 15 refl) (at 16 refl)
          (at 17 refl) (at 18 refl) (at 19 refl) (at 20 refl);
      checks = inside-name bay.rows name (codes "$CO$Pos$Oper") (codes "$Check") _ (at 21 refl);
    }
has-commands bay name Two Sbo n s h =
    let at = row-at bay (control_node_of name Two Sbo n s) h in
    record {
      select = at 13 refl;
      operate = record {
        parts =
            has-cancel name (codes "$CO$Pos$Oper") (at 14 refl) (at 15 refl) (at 16 refl)
            (at 17 refl)
            (at 18 refl) (at 19 refl) (at 20 refl) (at 21 refl);
        checks = inside-name bay.rows name (codes "$CO$Pos$Oper") (codes "$Check") _ (at 22 refl);
      };
      cancel =
          has-cancel name (codes "$CO$Pos$Cancel") (at 23 refl) (at 24 refl) (at 25 refl)
          (at 26 refl)
          (at 27 refl) (at 28 refl) (at 29 refl) (at 30 refl);
    }
has-commands bay name Two SboEnhanced n s h =
    let at = row-at bay (control_node_of name Two SboEnhanced n s) h in
    record {
      select = record {
        parts =
            has-cancel name (codes "$CO$Pos$SBOw") (at 13 refl) (at 14 refl) (at 15 refl)
            (at 16 refl)
            (at 17 refl) (at 18 refl) (at 19 refl) (at 20 refl);
        checks = inside-name bay.rows name (codes "$CO$Pos$SBOw") (codes "$Check") _ (at 21 refl);
      };
      operate = record {
        parts =
            has-cancel name (codes "$CO$Pos$Oper") (at 22 refl) (at 23 refl) (at 24 refl)
            (at 25 refl)
            (at 26 refl) (at 27 refl) (at 28 refl) (at 29 refl);
        checks = inside-name bay.rows name (codes "$CO$Pos$Oper") (codes "$Check") _ (at 30 refl);
      };
      cancel =
          has-cancel name (codes "$CO$Pos$Cancel") (at 31 refl) (at 32 refl) (at 33 refl)
          (at 34 refl)
          (at 35 refl) (at 36 refl) (at 37 refl) (at 38 refl);
    }

-- the node of a meter; `scaled` says whether it has a scale
abbrev meter_node_of : List ℕ → Profile → Bool → Nameplate → Meter → Node
meter_node_of name profile scaled n m = record {
  name = name;
  parts = parts_of (meter_values profile scaled ++ meter_settings profile scaled n m);
}

has-meter : (bay : Bay) (name : List ℕ) (profile : Profile) (scaled : Bool) (n : Nameplate)
    (m : Meter) → HasNode bay (meter_node_of name profile scaled n m)
    → HasMeter bay.rows (meter_names_of name)
has-meter bay name One scaled n m h =
    let at = row-at bay (meter_node_of name One scaled n m) h in
    record {
      tot_w = has-value (at 4 refl) (at 5 refl) (at 6 refl);
      tot_var = has-value (at 9 refl) (at 10 refl) (at 11 refl);
      hz = has-value (at 14 refl) (at 15 refl) (at 16 refl);
      phase_a = has-value (at 21 refl) (at 22 refl) (at 23 refl);
      phase_b = has-value (at 27 refl) (at 28 refl) (at 29 refl);
      phase_c = has-value (at 33 refl) (at 34 refl) (at 35 refl);
    }
has-meter bay name Two true n m h =
    let at = row-at bay (meter_node_of name Two true n m) h in
    record {
      tot_w = has-value (at 9 refl) (at 11 refl) (at 12 refl);
      tot_var = has-value (at 15 refl) (at 17 refl) (at 18 refl);
      hz = has-value (at 21 refl) (at 23 refl) (at 24 refl);
      phase_a = has-value (at 29 refl) (at 31 refl) (at 32 refl);
      phase_b = has-value (at 36 refl) (at 38 refl) (at 39 refl);
      phase_c = has-value (at 43 refl) (at 45 refl) (at 46 refl);
    }
has-meter bay name Two false n m h =
    let at = row-at bay (meter_node_of name Two false n m) h in
    record {
      tot_w = has-value (at 9 refl) (at 10 refl) (at 11 refl);
      tot_var = has-value (at 14 refl) (at 15 refl) (at 16 refl);
      hz = has-value (at 19 refl) (at 20 refl) (at 21 refl);
      phase_a = has-value (at 26 refl) (at 27 refl) (at 28 refl);
      phase_b = has-value (at 32 refl) (at 33 refl) (at 34 refl);
      phase_c = has-value (at 38 refl) (at 39 refl) (at 40 refl);
    }

has-floats : (bay : Bay) (name : List ℕ) (profile : Profile) (scaled : Bool) (n : Nameplate)
    (m : Meter) → HasNode bay (meter_node_of name profile scaled n m)
    → HasFloats profile scaled bay.rows (float_names_of name)
has-floats bay name One scaled n m h = tt
has-floats bay name Two false n m h = tt
has-floats bay name Two true n m h =
    let at = row-at bay (meter_node_of name Two true n m) h in
    record {
      tot_w = at 10 refl;
      tot_var = at 16 refl;
      hz = at 22 refl;
      phase_a = at 30 refl;
      phase_b = at 37 refl;
      phase_c = at 44 refl;
    }

-- the nodes of a bay
abbrev all_nodes : Bay → List Node
all_nodes bay = nodes_of (nameplate_of bay) bay.switches bay.inputs bay.meters

-- a node of a bay has its rows there
pub node-there : (bay : Bay) (node : Node) → IsBay bay → Contains (all_nodes bay) node
    → HasNode bay node
node-there bay node is_bay at =
    subst (λ rows. All (Contains rows) (node_rows node)) (sym is_bay.rows)
    (has-node (all_nodes bay) node at)

position-node : (bay : Bay) (index : ℕ) (s : Switch) (name : List ℕ)
    → slice_get bay.switches index ≡ Some s
    → name ≡ node_name (class_of s.kind) (node_number bay.switches s index) → IsBay bay
    → HasNode bay (record {
      name = name;
      parts = position_parts bay.profile (is_breaker s.kind) (nameplate_of bay) s;
    })
position-node bay index s name here named is_bay =
    let ss = bay.switches in
    let n = nameplate_of bay in
    let parts = position_parts bay.profile (is_breaker s.kind) n s in
    let node : Node = record { name = name; parts = parts } in
    let own : position_node n (node_number ss s index, s) ≡ node =
    ap (λ m. record { name = m; parts = parts }) (sym named) in
    node-there bay node is_bay
    (subst (Contains (all_nodes bay)) own
    (position-among n ss bay.inputs bay.meters (is_breaker s.kind) index s here refl))

-- a node that is numbered by its place
numbered-among : {T : Type 0} (make : ℕ × T → Node) (class : List ℕ) (parts : T → Parts)
    → ((n : ℕ) (t : T) → make (n, t) ≡ record { name = node_name class n; parts = parts t })
    → (ts : List T) (index : ℕ) (name : List ℕ) → index < length ts
    → name ≡ node_name class (index + 1)
    → (t : T) × Contains (map make (enumerate_from 1 ts)) (record { name = name; parts = parts t })
    × (slice_get ts index ≡ Some t)
numbered-among make class parts is ts index name lt named =
    let w = enumerate-has ts index 1 lt in
    let e : 1 + index ≡ index + 1 = omega arith in
    let own : make (1 + index, w.0) ≡ record { name = name; parts = parts w.0 } =
    is (1 + index) w.0 ∙ ap (λ m. record { name = node_name class m; parts = parts w.0 }) e
    ∙ ap (λ n. record { name = n; parts = parts w.0 }) (sym named) in (
      w.0,
      subst (Contains (map make (enumerate_from 1 ts))) own
          (Contains-map make (enumerate_from 1 ts) (1 + index, w.0) w.1),
      w.2,
    )

pub names-position : (bay : Bay) (index : ℕ) (s : Switch) (name : List ℕ)
    → slice_get bay.switches index ≡ Some s
    → name ≡ node_name (class_of s.kind) (node_number bay.switches s index)
    → NamesPosition bay index name
names-position bay index s name here named =
    let node = position-node bay index s name here named in
    record {
      switch = s;
      here = here;
      named = named;
      node = node;
      rows = λ is_bay. has-position bay name bay.profile (is_breaker s.kind) (nameplate_of bay) s
          (node is_bay);
      local = λ is_bay. has-local bay name bay.profile (is_breaker s.kind) (nameplate_of bay) s
          (node is_bay);
    }

pub names-control : (bay : Bay) (index : ℕ) (name : List ℕ) → index < length bay.switches
    → name ≡ node_name (codes "CSWI") (index + 1) → NamesControl bay index name
names-control bay index name lt named =
    let n = nameplate_of bay in
    let w = numbered-among (control_node n) (codes "CSWI") (control_parts bay.profile n)
    (λ k t. refl) bay.switches index name lt named in
    let node : IsBay bay
    → HasNode bay (record { name = name; parts = control_parts bay.profile n w.0 }) =
    λ is_bay. node-there bay _ is_bay
    (controls-within n bay.switches bay.inputs bay.meters _ w.1) in
    record {
      switch = w.0;
      here = w.2;
      named = named;
      node = node;
      rows = λ is_bay. has-control bay name bay.profile w.0.control n w.0 (node is_bay);
      commands = λ is_bay. has-commands bay name bay.profile w.0.control n w.0 (node is_bay);
    }

pub names-interlocking : (bay : Bay) (index : ℕ) (name : List ℕ) → index < length bay.switches
    → name ≡ node_name (codes "CILO") (index + 1) → NamesInterlocking bay index name
names-interlocking bay index name lt named =
    let n = nameplate_of bay in
    let w = numbered-among (interlocking_node n) (codes "CILO") (interlocking_parts bay.profile n)
    (λ k t. refl) bay.switches index name lt named in
    let node : IsBay bay
    → HasNode bay (record { name = name; parts = interlocking_parts bay.profile n w.0 }) =
    λ is_bay. node-there bay _ is_bay
    (interlockings-within n bay.switches bay.inputs bay.meters _ w.1) in
    record {
      switch = w.0;
      here = w.2;
      named = named;
      node = node;
      open_rows = λ is_bay. has-open bay name bay.profile n w.0 (node is_bay);
      close_rows = λ is_bay. has-close bay name bay.profile n w.0 (node is_bay);
    }

pub names-meter : (bay : Bay) (index : ℕ) (name : List ℕ) → index < length bay.meters
    → name ≡ node_name (codes "MMXU") (index + 1) → NamesMeter bay index name
names-meter bay index name lt named =
    let n = nameplate_of bay in
    let w = numbered-among (meter_node n) (codes "MMXU") (meter_parts bay.profile n) (λ k t. refl)
    bay.meters index name lt named in
    let node : IsBay bay
    → HasNode bay (record { name = name; parts = meter_parts bay.profile n w.0 }) =
    λ is_bay. node-there bay _ is_bay
    (meters-within n bay.switches bay.inputs bay.meters _ w.1) in
    record {
      meter = w.0;
      here = w.2;
      named = named;
      node = node;
      rows = λ is_bay. has-meter bay name bay.profile (is_some w.0.scale) n w.0 (node is_bay);
      floats = λ is_bay. has-floats bay name bay.profile (is_some w.0.scale) n w.0 (node is_bay);
    }

pub get-at : (ss : List Switch) (index : ℕ) (s : Switch) → index < length ss → s ≡ get_or ss index s
    → slice_get ss index ≡ Some s
get-at [] index s lt at = absurd (omega arith)
get-at (t ∷ ss) zero s lt at = ap Some (sym at)
get-at (t ∷ ss) (suc index) s lt at = get-at ss index s (omega arith) at
