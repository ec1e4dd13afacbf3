-- The switches of a bay, bound to their rows.
use Rattle.std.proofs.Common.{◌≡◌, ℕ, zero, suc, ◌+◌, ◌<◌, List, [], ◌∷◌, ◌++◌, length, get_or, slice_get, Some, refl, ap, sym, ◌∙◌, arith}
use Rattle.std.proofs.lemmas.Option.{slice_get_within}
use Rattle.bay_config.specs.declared.bay.Bay.{Bay}
use Rattle.bay_base.specs.declared.point.Source.{Source}
use Rattle.bay_nodes.specs.declared.switch.Switch.{Switch}
use Rattle.bay_process.specs.Layout.{Layout, switches_of, outputs_at, bound_from, AreBound}
use Rattle.bay_nodes.specs.Names.{switch_names, names_by_nodes, switch_node, cswi_name}
use Rattle.bay_process.specs.Nodes.{AreSwitchNodes, AreRowsOfNodes}
use Rattle.bay_process.specs.declared.nodes.SwitchNodes.{SwitchNodes}
use Rattle.bay_process.specs.declared.rows.SwitchRows.{SwitchRows}
use Rattle.bay_process.specs.declared.switch.BoundSwitch.{BoundSwitch}
use Rattle.bay_process.proofs.ListLemmas.{get-within}

-- one switch more
pub bound-snoc : (writes : List Source) (k : ℕ) (switches : List Switch) (rows : List SwitchRows)
    (s : Switch) (r : SwitchRows) (n : ℕ) → n ≡ length switches → n < length rows
    → r ≡ get_or rows n r
    → bound_from writes k (switches ++ s ∷ []) rows
    ≡ bound_from writes k switches rows
    ++ record { switch = s; rows = r; outputs = outputs_at writes (k + n) } ∷ []
bound-snoc writes k [] [] s r n e lt is = absurd (omega arith)
bound-snoc writes k [] (q ∷ rows) s r n e lt is =
    let first : r ≡ q = rw e at is in
    let none : k + n ≡ k = omega arith in
    rw (first, none) refl
bound-snoc writes k (t ∷ switches) [] s r n e lt is = absurd (omega arith)
bound-snoc writes k (t ∷ switches) (q ∷ rows) s r zero e lt is = absurd (omega arith)
bound-snoc writes k (t ∷ switches) (q ∷ rows) s r (suc n) e lt is =
    let more : k + 1 + n ≡ k + suc n = omega arith in
    let one : BoundSwitch = record { switch = t; rows = q; outputs = outputs_at writes k } in
    ap (λ (bs : List BoundSwitch). one ∷ bs)
    (bound-snoc writes (k + 1) switches rows s r n (omega arith) (omega arith) is
    ∙ ap (λ m. bound_from writes (k + 1) switches rows
    ++ record { switch = s; rows = r; outputs = outputs_at writes m } ∷ []) more)

-- the switches are the bay's, and each stands with its rows and its writes
pub bound-switches : (writes : List Source) (k : ℕ) (switches : List Switch)
    (rows : List SwitchRows) → length switches ≡ length rows
    → switches_of (bound_from writes k switches rows) ≡ switches
bound-switches writes k [] rows same = refl
bound-switches writes k (s ∷ switches) [] same = absurd (omega arith)
bound-switches writes k (s ∷ switches) (r ∷ rows) same =
    ap (λ ss. s ∷ ss) (bound-switches writes (k + 1) switches rows (omega arith))

pub record Stands (writes : List Source) (k : ℕ) (switches : List Switch) (rows : List SwitchRows)
    (j : ℕ) (b : BoundSwitch) : Type 0 where
  pub switch_is : slice_get switches j ≡ Some b.switch
  pub rows_are : slice_get rows j ≡ Some b.rows
  pub outputs_are : b.outputs ≡ outputs_at writes (k + j)

bound-stands : (writes : List Source) (k : ℕ) (switches : List Switch) (rows : List SwitchRows)
    (j : ℕ) (b : BoundSwitch) → slice_get (bound_from writes k switches rows) j ≡ Some b
    → Stands writes k switches rows j b
bound-stands writes k [] rows j b h = absurd cc
bound-stands writes k (s ∷ switches) [] j b h = absurd cc
bound-stands writes k (s ∷ switches) (r ∷ rows) zero b h =
    let none : k ≡ k + 0 = omega arith in
    let one : BoundSwitch = record { switch = s; rows = r; outputs = outputs_at writes k } in
    let is : one ≡ b = cc in
    record {
      switch_is = ap (λ (x : BoundSwitch). Some x.switch) is;
      rows_are = ap (λ (x : BoundSwitch). Some x.rows) is;
      outputs_are = sym (ap (λ (x : BoundSwitch). x.outputs) is) ∙ ap (outputs_at writes) none;
    }
bound-stands writes k (s ∷ switches) (r ∷ rows) (suc j) b h =
    let w = bound-stands writes (k + 1) switches rows j b h in
    let more : k + 1 + j ≡ k + suc j = omega arith in
    record {
      switch_is = w.switch_is;
      rows_are = w.rows_are;
      outputs_are = w.outputs_are ∙ ap (outputs_at writes) more;
    }

pub are-bound : (bay : Bay) (nodes : List SwitchNodes) (layout : Layout) (writes : List Source)
    (rows : List SwitchRows) → AreSwitchNodes bay nodes → AreRowsOfNodes layout nodes rows
    → length nodes ≡ length bay.switches → length rows ≡ length nodes
    → AreBound layout writes (bound_from writes 0 bay.switches rows)
are-bound bay nodes layout writes rows named placed same long k b h =
    let w = bound-stands writes 0 bay.switches rows k b h in
    let lt : k < length bay.switches = slice_get_within bay.switches k b.switch w.switch_is in
    let n = get-within nodes k (omega arith) in
    let own = named k n.0 n.1 in
    let p = own.position_named in
    let there : Some p.switch ≡ Some b.switch = sym p.here ∙ w.switch_is in
    let is : p.switch ≡ b.switch = cc in
    let node : n.0.position ≡ switch_node bay.switches k b.switch =
    p.named ∙ ap (switch_node bay.switches k) is in
    let all : switches_of (bound_from writes 0 bay.switches rows) ≡ bay.switches =
    bound-switches writes 0 bay.switches rows (omega arith) in
    let none : 0 + k ≡ k = omega arith in
    let r = placed k n.0 b.rows n.1 w.rows_are in
    record {
      named =
          r.named ∙ ap (λ m. names_by_nodes m n.0.control n.0.interlocking) node
          ∙ ap (λ m. names_by_nodes (switch_node bay.switches k b.switch) m n.0.interlocking)
          own.control_named.named
          ∙ ap (names_by_nodes (switch_node bay.switches k b.switch) (cswi_name k))
          own.interlocking_named.named
          ∙ ap (λ ss. switch_names ss k b.switch) (sym all);
      leaf_typed = r.leaf_typed;
      outputs = w.outputs_are ∙ ap (outputs_at writes) none;
    }
