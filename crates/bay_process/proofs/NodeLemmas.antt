-- The rows that a bay has for its switches and meters, and the handles of their names.
use Rattle.std.proofs.Common.{◌≡◌, ◌≢◌, ℕ, false, cond, zero, suc, ◌<◌, List, [], ◌∷◌, ◌++◌, length, find, slice_get, slice_index_or, Option, Some, None, option_map, option_and_then, Contains, refl, ap, sym, ◌∙◌, subst, arith, All, Err}
use Rattle.std.proofs.lemmas.Bool.{false_from_ne_true}
use Rattle.std.specs.Option.{ok_or}
use Rattle.std.specs.Str.{bytes_eq}
use Rattle.std.proofs.lemmas.List.{get_or_default}
use Rattle.std.proofs.lemmas.Slice.Eq.{bytes_eq-Decides}
use Rattle.bay_tree.specs.declared.row.Row.{Row}
use Rattle.bay_tree.specs.declared.leaf.Leaf.{Leaf}
use Rattle.bay_tree.specs.declared.leaf.LeafType.{LeafType}
use Rattle.bay_tree.specs.declared.leaf.LeafType.TheVariants as leaf_type
use Rattle.bay_tree.specs.LeafTypes.{leaf_type_of}
use Rattle.bay_tree.specs.Rows.{IsTree, row_index, row_at, name_at, leaf_named, leaf_type_at, leaf_types_of}
use Rattle.bay_tree.specs.declared.leaf.Leaf.TheVariants as leaf
use Rattle.bay_tree.specs.declared.leaf.Quality.{Quality as Validity}
use Rattle.bay_tree.proofs.NamedLemmas.{leaf-named, found-leaf}
use Rattle.bay_tree.proofs.SearchLemmas.{place_of-found, place_of-none, place_of-stays}
use Rattle.bay_nodes.specs.Node.{row}
use Rattle.bay_config.specs.Laws.{IsBay, HasValue, HasPosition, HasControl, HasEnable, HasMeter}
use Rattle.bay_config.specs.declared.bay.Bay.{Bay}
use Rattle.bay_process.specs.Layout.{Layout, layout_of, row_name_in, status_names_in, HasLeafType, AreStatusRows, IsMeterBound, AreFloatHandles}
use Rattle.bay_nodes.specs.Names.{StatusNames, SwitchNames, opening_names, closing_names, names_by_nodes, ControlNames, control_names_of, MeterNames, meter_names_of, float_names_of}
use Rattle.bay_process.specs.Controls.{HaveSelected, AreControlRows}
use Rattle.bay_process.specs.Nodes.{AreSwitchNodes, nodes_names, HasLeaf, HasStatus, HasSwitch, HasSwitches, HaveStatus, IsHandleOf, AreHandlesOf, AreSwitchRowsOf, AreRowsOfNodes, AreMeterNodes, HasMeterLeaves, HasMeterNode, HaveMeters, AreMeterRowsOf}
use Rattle.bay_process.specs.declared.controls.ControlRows.{ControlRows}
use Rattle.bay_process.specs.declared.meter.MeterRows.{MeterRows}
use Rattle.bay_process.specs.declared.nodes.SwitchNodes.{SwitchNodes}
use Rattle.bay_process.specs.declared.rows.StatusRows.{StatusRows}
use Rattle.bay_process.specs.declared.rows.SwitchRows.{SwitchRows}
use Rattle.bay_process.proofs.ListLemmas.{each-snoc}

-- a row that a tree contains gives its name its value
contains-leaf : (rows : List Row) (name : List ℕ) (value : Leaf) → IsTree rows
    → Contains rows (row name (Some value)) → leaf_named name rows ≡ Some value
contains-leaf rows name value tree w =
    let is : row_at rows w.0 ≡ row name (Some value) =
    get_or_default rows w.0 _ (row name (Some value)) w.1 ∙ w.2 in
    ap (λ n. leaf_named n rows) (sym (ap (λ (r : Row). r.name) is))
    ∙ sym (leaf-named rows w.0 tree w.1) ∙ ap (λ (r : Row). r.leaf) is

has-leaf : (rows : List Row) (name : List ℕ) (value : Leaf) → IsTree rows
    → Contains rows (row name (Some value)) → HasLeaf rows name (leaf_type_of value)
has-leaf rows name value tree w =
    ap (option_map leaf_type_of) (contains-leaf rows name value tree w)

pub has-value : (rows : List Row) (names : StatusNames) (value : Leaf) (quality : Validity)
    → IsTree rows → HasValue rows names value quality → HasStatus rows names (leaf_type_of value)
has-value rows names value quality tree h = record {
  value_leaf = has-leaf rows names.value value tree h.value_there;
  quality_leaf = has-leaf rows names.quality (leaf.Quality quality) tree h.quality_there;
  time_leaf = has-leaf rows names.time (leaf.Utc 0) tree h.moment_there;
}

has-switch : (rows : List Row) (node control interlocking : List ℕ) → IsTree rows
    → HasPosition rows node → HasControl rows control → HasEnable rows (opening_names interlocking)
    → HasEnable rows (closing_names interlocking)
    → HasSwitch rows (names_by_nodes node control interlocking)
has-switch rows node control interlocking tree p d o c = record {
  position = has-value rows _ _ _ tree p.position;
  control = has-value rows _ _ _ tree d.position;
  operations = has-value rows _ _ _ tree p.operations;
  ena_opn = has-value rows _ _ _ tree o;
  ena_cls = has-value rows _ _ _ tree c;
}

pub has-switches : (bay : Bay) (nodes : List SwitchNodes) → IsBay bay → AreSwitchNodes bay nodes
    → HasSwitches bay.rows nodes
has-switches bay nodes is_bay all k n hn =
    let own = all k n hn in
    let p = own.position_named in
    let d = own.control_named in
    let i = own.interlocking_named in
    has-switch bay.rows n.position n.control n.interlocking is_bay.tree (p.rows is_bay)
    (d.rows is_bay) (i.open_rows is_bay) (i.close_rows is_bay)

has-meter : (rows : List Row) (names : MeterNames) → IsTree rows → HasMeter rows names
    → HasMeterLeaves rows names
has-meter rows names tree m = record {
  tot_w = has-value rows _ _ _ tree m.tot_w;
  tot_var = has-value rows _ _ _ tree m.tot_var;
  hz = has-value rows _ _ _ tree m.hz;
  phase_a = has-value rows _ _ _ tree m.phase_a;
  phase_b = has-value rows _ _ _ tree m.phase_b;
  phase_c = has-value rows _ _ _ tree m.phase_c;
}

-- each control tells whether its switch is selected
pub have-selected : (bay : Bay) (nodes : List SwitchNodes) → IsBay bay → AreSwitchNodes bay nodes
    → HaveSelected bay.rows (length nodes)
have-selected bay nodes is_bay all k lt =
    let n = got nodes k lt in
    let own = (all k n.0 n.1).control_named in
    has-leaf bay.rows _ (leaf.Truth false) is_bay.tree
    (subst (λ m. Contains bay.rows
    (row (control_names_of m).selected (Some (leaf.Truth false)))) own.named
    (own.rows is_bay).selected)
  where
    got : (nodes : List SwitchNodes) (k : ℕ) → k < length nodes
        → (n : SwitchNodes) × (slice_get nodes k ≡ Some n)
    got [] k lt = absurd (omega arith)
    got (n ∷ nodes) zero lt = (n, refl)
    got (n ∷ nodes) (suc k) lt = got nodes k (omega arith)

pub have-meters : (bay : Bay) (nodes : List (List ℕ)) → IsBay bay → AreMeterNodes bay nodes
    → HaveMeters bay.rows nodes
have-meters bay nodes is_bay all k n hn =
    let own = all k n hn in
    record {
      named = own.named;
      leaves = has-meter bay.rows (meter_names_of n) is_bay.tree (own.rows is_bay);
    }

-- a name that has a value is found
there : (rows : List Row) (name : List ℕ) (leaf_type : LeafType) → HasLeaf rows name leaf_type
    → leaf_named name rows ≢ None
there rows name leaf_type h none = let e : option_map leaf_type_of None ≡ Some leaf_type =
    rw none at h in cc

pub are-there : (rows : List Row) (names : StatusNames) (leaf_type : LeafType)
    → HasStatus rows names leaf_type → HaveStatus rows names
are-there rows names leaf_type h = record {
  value_there = there rows names.value _ h.value_leaf;
  quality_there = there rows names.quality _ h.quality_leaf;
  time_there = there rows names.time _ h.time_leaf;
}

pub lacking-leaf : (rows : List Row) (name : List ℕ) → All (λ (r : Row). r.name ≢ name) rows
    → leaf_named name rows ≡ None
lacking-leaf [] name lacks = refl
lacking-leaf (row ∷ rows) name lacks =
    let apart : bytes_eq row.name name ≡ false =
    false_from_ne_true (bytes_eq row.name name)
    (λ t. lacks zero row (omega arith) ((bytes_eq-Decides row.name name).0 t)) in
    ap (λ b. option_and_then (λ (r : Row). r.leaf)
    (cond b (Some row) (find (λ (r : Row). bytes_eq r.name name) rows))) apart
    ∙ lacking-leaf rows name (λ k d lt. lacks (suc k) d (omega arith))

pub refused-so : {A E : Type 0} (o : Option A) (e f : E) → ok_or o e ≡ Err f → ok_or o e ≡ Err e
refused-so None e f h = refl
refused-so (Some x) e f h = absurd cc

-- the layout of a tree has the names and the types of its rows
pub name_at-in : (rows : List Row) (index : ℕ) → row_name_in (layout_of rows) index ≡ name_at rows index
name_at-in [] index = refl
name_at-in (row ∷ rows) zero = refl
name_at-in (row ∷ rows) (suc index) = name_at-in rows index

pub leaf_type_at-in : (rows : List Row) (index : ℕ)
    → slice_index_or (leaf_types_of rows) index None ≡ leaf_type_at rows index
leaf_type_at-in [] index = refl
leaf_type_at-in (row ∷ rows) zero = refl
leaf_type_at-in (row ∷ rows) (suc index) = leaf_type_at-in rows index

found-leaf_type : (rows : List Row) (name : List ℕ) (leaf_type : LeafType) (handle : ℕ)
    → HasLeaf rows name leaf_type → IsHandleOf rows name handle
    → HasLeafType (layout_of rows) handle leaf_type
found-leaf_type rows name leaf_type handle h f =
    leaf_type_at-in rows handle ∙ ap (option_map leaf_type_of) f.value ∙ h

pub found-leaf_types : (rows : List Row) (names : StatusNames) (leaf_type : LeafType)
    (handles : StatusRows) → HasStatus rows names leaf_type → AreHandlesOf rows names handles
    → AreStatusRows (layout_of rows) leaf_type handles
found-leaf_types rows names leaf_type handles h f = record {
  value_type = found-leaf_type rows names.value _ handles.value h.value_leaf f.value_found;
  quality_type =
      found-leaf_type rows names.quality _ handles.quality h.quality_leaf f.quality_found;
  time_type = found-leaf_type rows names.time _ handles.time h.time_leaf f.time_found;
}

pub found-names : (rows : List Row) (names : StatusNames) (handles : StatusRows)
    → AreHandlesOf rows names handles → status_names_in (layout_of rows) handles ≡ names
found-names rows names handles f =
    let value : row_name_in (layout_of rows) handles.value ≡ names.value =
    name_at-in rows handles.value ∙ f.value_found.named in
    let quality : row_name_in (layout_of rows) handles.quality ≡ names.quality =
    name_at-in rows handles.quality ∙ f.quality_found.named in
    let time : row_name_in (layout_of rows) handles.time ≡ names.time =
    name_at-in rows handles.time ∙ f.time_found.named in
    rw (value, quality, time) refl

pub found-switch : (rows : List Row) (names : SwitchNames) (handles : SwitchRows)
    → HasSwitch rows names
    → AreHandlesOf rows names.position handles.position
    → AreHandlesOf rows names.control handles.control
    → AreHandlesOf rows names.operations handles.operations
    → AreHandlesOf rows names.ena_opn handles.ena_opn
    → AreHandlesOf rows names.ena_cls handles.ena_cls
    → AreSwitchRowsOf (layout_of rows) names handles
found-switch rows names handles h p d n o c =
    let position : status_names_in (layout_of rows) handles.position ≡ names.position =
    found-names rows names.position handles.position p in
    let control : status_names_in (layout_of rows) handles.control ≡ names.control =
    found-names rows names.control handles.control d in
    let operations : status_names_in (layout_of rows) handles.operations ≡ names.operations =
    found-names rows names.operations handles.operations n in
    let ena_opn : status_names_in (layout_of rows) handles.ena_opn ≡ names.ena_opn =
    found-names rows names.ena_opn handles.ena_opn o in
    let ena_cls : status_names_in (layout_of rows) handles.ena_cls ≡ names.ena_cls =
    found-names rows names.ena_cls handles.ena_cls c in
    record {
      named = rw (position, control, operations, ena_opn, ena_cls) refl;
      leaf_typed = record {
        position = found-leaf_types rows names.position _ handles.position h.position p;
        control = found-leaf_types rows names.control _ handles.control h.control d;
        operations = found-leaf_types rows names.operations _ handles.operations h.operations n;
        ena_opn = found-leaf_types rows names.ena_opn _ handles.ena_opn h.ena_opn o;
        ena_cls = found-leaf_types rows names.ena_cls _ handles.ena_cls h.ena_cls c;
      };
    }

pub found-meter : (rows : List Row) (node : List ℕ) (handles : MeterRows)
    → HasMeterLeaves rows (meter_names_of node)
    → AreHandlesOf rows (meter_names_of node).tot_w handles.tot_w.status
    → AreHandlesOf rows (meter_names_of node).tot_var handles.tot_var.status
    → AreHandlesOf rows (meter_names_of node).hz handles.hz.status
    → AreHandlesOf rows (meter_names_of node).phase_a handles.phase_a.status
    → AreHandlesOf rows (meter_names_of node).phase_b handles.phase_b.status
    → AreHandlesOf rows (meter_names_of node).phase_c handles.phase_c.status
    → AreFloatHandles (layout_of rows) (float_names_of node) handles
    → AreMeterRowsOf (layout_of rows) node handles
found-meter rows node handles h w v z a b c floats =
    let names = meter_names_of node in
    let tot_w : status_names_in (layout_of rows) handles.tot_w.status ≡ names.tot_w =
    found-names rows names.tot_w handles.tot_w.status w in
    let tot_var : status_names_in (layout_of rows) handles.tot_var.status ≡ names.tot_var =
    found-names rows names.tot_var handles.tot_var.status v in
    let hz : status_names_in (layout_of rows) handles.hz.status ≡ names.hz =
    found-names rows names.hz handles.hz.status z in
    let phase_a : status_names_in (layout_of rows) handles.phase_a.status ≡ names.phase_a =
    found-names rows names.phase_a handles.phase_a.status a in
    let phase_b : status_names_in (layout_of rows) handles.phase_b.status ≡ names.phase_b =
    found-names rows names.phase_b handles.phase_b.status b in
    let phase_c : status_names_in (layout_of rows) handles.phase_c.status ≡ names.phase_c =
    found-names rows names.phase_c handles.phase_c.status c in
    record {
      named = rw (tot_w, tot_var, hz, phase_a, phase_b, phase_c) refl;
      leaf_typed = record {
        tot_w = found-leaf_types rows names.tot_w _ handles.tot_w.status h.tot_w w;
        tot_var = found-leaf_types rows names.tot_var _ handles.tot_var.status h.tot_var v;
        hz = found-leaf_types rows names.hz _ handles.hz.status h.hz z;
        phase_a = found-leaf_types rows names.phase_a _ handles.phase_a.status h.phase_a a;
        phase_b = found-leaf_types rows names.phase_b _ handles.phase_b.status h.phase_b b;
        phase_c = found-leaf_types rows names.phase_c _ handles.phase_c.status h.phase_c c;
      };
      floats = floats;
    }

pub bound-meter : (rows : List Row) (k : ℕ) (node : List ℕ) (handles : MeterRows)
    → HasMeterNode rows k node → AreMeterRowsOf (layout_of rows) node handles
    → IsMeterBound (layout_of rows) k handles
bound-meter rows k node handles there own =
    record {
      named = own.named ∙ ap meter_names_of there.named;
      leaf_typed = own.leaf_typed;
      floats = subst (λ n. AreFloatHandles (layout_of rows) (float_names_of n) handles) there.named
          own.floats;
    }

-- one switch more
pub rows-snoc : (layout : Layout) (nodes : List SwitchNodes) (rows : List SwitchRows)
    (n : SwitchNodes)
    (r : SwitchRows) → AreRowsOfNodes layout nodes rows → slice_get nodes (length rows) ≡ Some n
    → AreSwitchRowsOf layout (nodes_names n) r
    → AreRowsOfNodes layout nodes (rows ++ r ∷ [])
rows-snoc layout nodes rows n r all here own k m q hm hq =
    each-snoc (λ j (x : SwitchRows). (y : SwitchNodes) → slice_get nodes j ≡ Some y
    → AreSwitchRowsOf layout (nodes_names y) x) rows r (λ j x hx y hy. all j y x hy hx)
    (λ y hy. let there : Some n ≡ Some y = sym here ∙ hy in
    let same : n ≡ y = cc in
    subst (λ (x : SwitchNodes). AreSwitchRowsOf layout (nodes_names x) r) same own) k q hq m hm

-- what no place is found for has no value
pub selected-leaf_type : (rows : List Row) (name : List ℕ) (handle : ℕ)
    → HasLeaf rows name leaf_type.Truth → row_index rows name ≡ Some handle
    → HasLeafType (layout_of rows) handle leaf_type.Truth
selected-leaf_type rows name handle has at =
    found-leaf_type rows name leaf_type.Truth handle has
    (record {
      named = (place_of-found rows name handle at).1;
      value = found-leaf name rows handle at;
    })

pub not-lacking : (rows : List Row) (name : List ℕ) → HasLeaf rows name leaf_type.Truth
    → row_index rows name ≡ None → ⊥
not-lacking rows name has none =
    there rows name leaf_type.Truth has (lacking-leaf rows name (place_of-none rows name none))

-- where a control's rows are follows from the names
pub control-rows-stay : (before after : List Row) (names : ControlNames) (handles : ControlRows)
    → layout_of before ≡ layout_of after → AreControlRows before names handles
    → AreControlRows after names handles
control-rows-stay before after names handles same own =
    let stays =
    λ (name : List ℕ). place_of-stays before after name (ap (λ (l : Layout). l.names) same) in
    record {
      selected = sym (stays names.selected) ∙ own.selected;
      selected_type =
          subst (λ l. HasLeafType l handles.selected leaf_type.Truth) same own.selected_type;
      select = own.select ∙ stays names.select;
      select_with_value = own.select_with_value ∙ stays names.select_with_value;
      operate = own.operate ∙ stays names.operate;
      cancel = own.cancel ∙ stays names.cancel;
    }
