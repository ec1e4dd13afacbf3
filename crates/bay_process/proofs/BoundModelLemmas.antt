-- The rows of profile 2 that events change, bound to their handles.
use Rattle.std.proofs.Common.{◌≡◌, ℕ, zero, suc, ◌+◌, ◌<◌, List, [], ◌∷◌, ◌++◌, length, slice_get, Some, refl, ap, sym, subst, ◌∙◌, arith}
use Rattle.std.proofs.lemmas.Option.{same_Some, slice_get_within}
use Rattle.bay_tree.specs.declared.leaf.LeafType.TheVariants as leaf_type
use Rattle.bay_tree.specs.declared.row.Row.{Row}
use Rattle.bay_nodes.specs.Names.{StatusNames, health_names, indication_names, local_names, physical_health_names, switch_node}
use Rattle.bay_nodes.specs.declared.profile.Profile.{Profile}
use Rattle.bay_nodes.specs.declared.profile.Profile.TheVariants.{Two}
use Rattle.bay_nodes.specs.declared.switch.Switch.{Switch}
use Rattle.bay_config.specs.Laws.{IsBay, HasInputs, HasLocal}
use Rattle.bay_config.specs.declared.bay.Bay.{Bay}
use Rattle.bay_config.proofs.ModelLemmas.{has-health, has-inputs}
use Rattle.bay_control.specs.Decisions.{controls_of, key_input}
use Rattle.bay_control.specs.Requests.{control_of}
use Rattle.bay_control.specs.declared.control.SwitchControl.{SwitchControl}
use Rattle.bay_process.specs.Layout.{Layout, layout_of}
use Rattle.bay_process.specs.ModelRows.{AreInputsBound, AreLocalsBound, IsHealthBound, IsLocalBound, IsTruthBound}
use Rattle.bay_process.specs.Nodes.{AreHandlesOf, AreLocalRowsOf, AreSwitchNodes, HasInputLeaves, HasLocalLeaves, HasStatus, IsLocalRowsOf, IsModelSource}
use Rattle.bay_process.specs.declared.model.LocalRows.{LocalRows}
use Rattle.bay_process.specs.declared.nodes.SwitchNodes.{SwitchNodes}
use Rattle.bay_process.specs.declared.rows.StatusRows.{StatusRows}
use Rattle.bay_process.proofs.ListLemmas.{each-snoc, get-within}
use Rattle.bay_process.proofs.NodeLemmas.{found-leaf_types, found-names, has-value}

-- ---- the rows are there

pub has-local-leaves : (bay : Bay) (nodes : List SwitchNodes) → IsBay bay → bay.profile ≡ Two
    → AreSwitchNodes bay nodes → HasLocalLeaves bay.rows nodes
has-local-leaves bay nodes is_bay two all k n hn =
    let own = (all k n hn).position_named in
    let there : HasLocal Two bay.rows n.position own.switch =
    subst (λ p. HasLocal p bay.rows n.position own.switch) two (own.local is_bay) in
    has-value bay.rows _ _ _ is_bay.tree there

pub has-input-leaves : (bay : Bay) → IsBay bay → bay.profile ≡ Two
    → HasInputs bay.profile bay.rows (length bay.inputs)
    → HasInputLeaves bay.rows (length bay.inputs)
has-input-leaves bay is_bay two inputs k lt =
    let there : HasInputs Two bay.rows (length bay.inputs) =
    subst (λ p. HasInputs p bay.rows (length bay.inputs)) two inputs in
    has-value bay.rows _ _ _ is_bay.tree (there k lt)

-- the rows of profile 2 that events change
pub record HasModel (rows : List Row) (nodes : List SwitchNodes) (count : ℕ) : Type 0 where
  pub health : HasStatus rows health_names leaf_type.Int8
  pub physical : HasStatus rows physical_health_names leaf_type.Int8
  pub locals : HasLocalLeaves rows nodes
  pub inputs : HasInputLeaves rows count

-- a bay of profile 2 has them
pub has-model : (bay : Bay) (profile : Profile) (rows : List Row) (nodes : List SwitchNodes)
    (inputs : List (List ℕ)) (controls : List SwitchControl)
    → IsModelSource bay profile rows nodes inputs controls → profile ≡ Two
    → HasModel rows nodes (length inputs)
has-model bay profile rows nodes inputs controls source is =
    let sound = source.sound in
    let two : bay.profile ≡ Two = source.profile_is ∙ is in
    let health = has-health bay sound in
    let there : HasModel bay.rows nodes (length bay.inputs) =
    record {
      health = has-value bay.rows _ _ _ sound.tree health.device;
      physical = has-value bay.rows _ _ _ sound.tree health.physical;
      locals = has-local-leaves bay nodes sound two source.nodes_named;
      inputs = has-input-leaves bay sound two (has-inputs bay sound);
    } in
    subst (λ ins. HasModel rows nodes (length ins)) source.inputs_are
    (subst (λ rs. HasModel rs nodes (length bay.inputs)) source.rows_are there)

-- ---- one value

pub found-truth : (rows : List Row) (names : StatusNames) (handles : StatusRows)
    → HasStatus rows names leaf_type.Truth → AreHandlesOf rows names handles
    → IsTruthBound (layout_of rows) names handles
found-truth rows names handles h f = record {
  named = found-names rows names handles f;
  leaf_typed = found-leaf_types rows names leaf_type.Truth handles h f;
}

pub found-health : (rows : List Row) (names : StatusNames) (handles : StatusRows)
    → HasStatus rows names leaf_type.Int8 → AreHandlesOf rows names handles
    → IsHealthBound (layout_of rows) names handles
found-health rows names handles h f = record {
  named = found-names rows names handles f;
  leaf_typed = found-leaf_types rows names leaf_type.Int8 handles h f;
}

-- ---- one item more

pub locals-snoc : (layout : Layout) (nodes : List SwitchNodes) (controls : List SwitchControl)
    (locals : List LocalRows) (n : SwitchNodes) (local : LocalRows)
    → AreLocalRowsOf layout nodes controls locals → slice_get nodes (length locals) ≡ Some n
    → IsLocalRowsOf layout controls (length locals) n local
    → AreLocalRowsOf layout nodes controls (locals ++ local ∷ [])
locals-snoc layout nodes controls locals n local all here own k m q hm hq =
    each-snoc (λ j (x : LocalRows). (y : SwitchNodes) → slice_get nodes j ≡ Some y
    → IsLocalRowsOf layout controls j y x) locals local (λ j x hx y hy. all j y x hy hx)
    (λ y hy. subst (λ (x : SwitchNodes). IsLocalRowsOf layout controls (length locals) x local)
    (same_Some n y (sym here ∙ hy)) own) k q hq m hm

pub inputs-snoc : (layout : Layout) (k : ℕ) (handles : List StatusRows) (handle : StatusRows)
    (n : ℕ) → AreInputsBound layout k handles → n ≡ k + length handles + 1
    → IsTruthBound layout (indication_names n) handle
    → AreInputsBound layout k (handles ++ handle ∷ [])
inputs-snoc layout k [] handle n all at own =
    let is : n ≡ k + 1 = omega (arith, at) in
    (subst (λ m. IsTruthBound layout (indication_names m) handle) is own, tt)
inputs-snoc layout k (first ∷ handles) handle n all at own =
    (all.0, inputs-snoc layout (k + 1) handles handle n all.1 (omega (arith, at)) own)

-- ---- all switches

locals-by-place : (layout : Layout) (inputs : List (List ℕ)) (switches : List Switch) (k : ℕ)
    (ss : List Switch) (locals : List LocalRows) → length locals ≡ length ss
    → ((j i : ℕ) (s : Switch) (local : LocalRows) → i ≡ k + j → slice_get ss j ≡ Some s
    → slice_get locals j ≡ Some local → IsLocalBound layout inputs switches i s local)
    → AreLocalsBound layout inputs switches k ss locals
locals-by-place layout inputs switches k [] [] sized all = tt
locals-by-place layout inputs switches k [] (local ∷ locals) sized all =
    absurd (omega (arith, sized))
locals-by-place layout inputs switches k (s ∷ ss) [] sized all = absurd (omega (arith, sized))
locals-by-place layout inputs switches k (s ∷ ss) (local ∷ locals) sized all = (
  all 0 k s local (omega arith) refl refl,
  locals-by-place layout inputs switches (k + 1) ss locals (omega (arith, sized))
      (λ j i t l at ht hl. all (suc j) i t l (omega (arith, at)) ht hl),
)

key-at : (inputs : List (List ℕ)) (ss : List Switch) (j : ℕ) (s : Switch)
    → slice_get ss j ≡ Some s → (control_of (controls_of inputs ss) j).key ≡ key_input inputs s
key-at inputs [] j s h = absurd cc
key-at inputs (t ∷ ss) zero s h = ap (key_input inputs) (same_Some t s h)
key-at inputs (t ∷ ss) (suc j) s h = key-at inputs ss j s h

pub are-locals-bound : (bay : Bay) (nodes : List SwitchNodes) (layout : Layout)
    (controls : List SwitchControl) (locals : List LocalRows) → AreSwitchNodes bay nodes
    → controls ≡ controls_of bay.inputs bay.switches → length nodes ≡ length bay.switches
    → length locals ≡ length nodes → AreLocalRowsOf layout nodes controls locals
    → AreLocalsBound layout bay.inputs bay.switches 0 bay.switches locals
are-locals-bound bay nodes layout controls locals named are long same placed =
    locals-by-place layout bay.inputs bay.switches 0 bay.switches locals (same ∙ long)
    (λ j i s local at hs hl.
    let own_place : j ≡ i = omega (arith, at) in
    let lt : j < length bay.switches = slice_get_within bay.switches j s hs in
    let n = get-within nodes j (omega (arith, lt, long)) in
    let p = (named j n.0 n.1).position_named in
    let is : p.switch ≡ s = same_Some p.switch s (sym p.here ∙ hs) in
    let node : n.0.position ≡ switch_node bay.switches j s =
    p.named ∙ ap (switch_node bay.switches j) is in
    let r = placed j n.0 local n.1 hl in
    let there : IsLocalBound layout bay.inputs bay.switches j s local =
    record {
      bound =
          subst (λ m. IsTruthBound layout (local_names m) local.rows) node r.bound;
      key =
          r.key ∙ ap (λ cs. (control_of cs j).key) are ∙ key-at bay.inputs bay.switches j s hs;
    } in
    subst (λ m. IsLocalBound layout bay.inputs bay.switches m s local) own_place there)
