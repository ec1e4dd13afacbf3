-- The nodes and branches that are read, and those of the tables that are left.
use Rattle.std.proofs.Common.{◌≡◌, ℕ, zero, suc, ◌+◌, ◌<◌, length, get_or, List, [], ◌∷◌, ◌++◌, drop, option_to_list, refl, ap, sym, arith, Option, None, Some, Result, Ok, Err, IfOk, ◌⊎◌, inl, inr}
use Rattle.toml.specs.Data.{Data, Members}
use Rattle.toml.specs.View.{items_of}
use Rattle.bay_base.specs.Exact.{ExactOr, unless_refused}
use Rattle.bay_config.specs.Bay.{document_of}
use Rattle.bay_config.specs.declared.bay.Bay.{Bay}
use Rattle.bay_diagram.specs.declared.network.Network.{Network}
use Rattle.bay_diagram_file.specs.Code.{out_of_memory}
use Rattle.bay_diagram_file.specs.Diagram.{checks_in, diagram_of, file_refusal, named_diagram_of, named_in_document, named_of, network_of_document, node_rows, switch_rows}
use Rattle.bay_diagram_file.specs.declared.diagram.Diagram.{Diagram}
use Rattle.bay_diagram_file.specs.declared.fault.DiagramFault.{DiagramFault}
use Rattle.bay_diagram_file.specs.Parts.{branch_of, branches_from, network_of_tables, node_of, nodes_from}
use Rattle.bay_diagram_file.specs.Row.{list_of}
use Rattle.bay_diagram_file.specs.declared.row.NodeRow.{NodeRow}
use Rattle.bay_diagram_file.specs.declared.row.SwitchRow.{SwitchRow}

-- the items of a list
pub list-of-items : (ds : List Data) → list_of (items_of ds) ≡ ds
list-of-items [] = refl
list-of-items (d ∷ ds) = ap (λ rest. d ∷ rest) (list-of-items ds)

module _ (inputs : List (List ℕ)) where
  nodes-at : (rows : List NodeRow) (i first : ℕ) (n : NodeRow) → i < length rows
      → n ≡ get_or rows i n
      → nodes_from inputs (first + i) (drop i rows)
      ≡ option_to_list (node_of inputs (first + i) n)
      ++ nodes_from inputs (suc (first + i)) (drop (suc i) rows)
  nodes-at [] i first n h is = absurd (omega (arith, h))
  nodes-at (m ∷ rows) zero first n h is =
      ap (λ (r : NodeRow). option_to_list (node_of inputs (first + zero) r)
      ++ nodes_from inputs (suc (first + zero)) rows) (sym is)
  nodes-at (m ∷ rows) (suc i) first n h is =
      let e : first + suc i ≡ suc first + i = omega arith in
      rw e (nodes-at rows i (suc first) n (omega (arith, h)) is)

module _ (bay : Bay) (nodes : List NodeRow) where
  branches-at : (rows : List SwitchRow) (i first : ℕ) (s : SwitchRow) → i < length rows
      → s ≡ get_or rows i s
      → branches_from bay nodes (first + i) (drop i rows)
      ≡ branch_of bay nodes (first + i) s
      ∷ branches_from bay nodes (suc (first + i)) (drop (suc i) rows)
  branches-at [] i first s h is = absurd (omega (arith, h))
  branches-at (m ∷ rows) zero first s h is =
      ap (λ (r : SwitchRow). branch_of bay nodes (first + zero) r
      ∷ branches_from bay nodes (suc (first + zero)) rows) (sym is)
  branches-at (m ∷ rows) (suc i) first s h is =
      let e : first + suc i ≡ suc first + i = omega arith in
      rw e (branches-at rows i (suc first) s (omega (arith, h)) is)

-- ---- names

abbrev network_in_result : Result Diagram DiagramFault → Result Network DiagramFault
network_in_result (Ok d) = Ok d.network
network_in_result (Err e) = Err e

-- the diagram with its names has the network of the diagram
network-of-document : (bay : Bay) (file : Option Members) (d : Diagram)
    → named_in_document bay file ≡ Ok d → network_of_document bay file ≡ Ok d.network
network-of-document bay None d h = absurd cc
network-of-document bay (Some file) d h = by_refusal (file_refusal bay file) h
  where
    by_refusal : (refused : Option DiagramFault)
        → unless_refused refused (named_of bay (checks_in file) (node_rows file) (switch_rows file))
        ≡ Ok d
        → unless_refused refused
        (network_of_tables bay (checks_in file) (node_rows file) (switch_rows file))
        ≡ Ok d.network
    by_refusal None h =
        ap (λ (r : Result Diagram DiagramFault). network_in_result r) h
    by_refusal (Some fault) h = absurd cc

pub network-of-named : (bay : Bay) (text : List ℕ) (d : Diagram)
    → named_diagram_of bay text ≡ Ok d → diagram_of bay text ≡ Ok d.network
network-of-named bay text d h = network-of-document bay (document_of text) d h

fault-of-document : (bay : Bay) (file : Option Members) (e : DiagramFault)
    → named_in_document bay file ≡ Err e → network_of_document bay file ≡ Err e
fault-of-document bay None e h = cc h
fault-of-document bay (Some file) e h = by_refusal (file_refusal bay file) h
  where
    by_refusal : (refused : Option DiagramFault)
        → unless_refused refused (named_of bay (checks_in file) (node_rows file) (switch_rows file))
        ≡ Err e
        → unless_refused refused
        (network_of_tables bay (checks_in file) (node_rows file) (switch_rows file)) ≡ Err e
    by_refusal None h = absurd cc
    by_refusal (Some fault) h = cc h

pub fault-of-named : (bay : Bay) (text : List ℕ) (e : DiagramFault)
    → named_diagram_of bay text ≡ Err e → diagram_of bay text ≡ Err e
fault-of-named bay text e h = fault-of-document bay (document_of text) e h

-- what is given with names is given without them
pub gives-network : (bay : Bay) (text : List ℕ) (r : Result Diagram DiagramFault)
    → ExactOr out_of_memory (λ x. x) r (named_diagram_of bay text)
    → IfOk r (λ d. diagram_of bay text ≡ Ok d.network)
gives-network bay text (Ok d) h = network-of-named bay text d h
gives-network bay text (Err e) h = tt

pub fault-kept : (bay : Bay) (text : List ℕ) (e : DiagramFault)
    → (e ≡ out_of_memory) ⊎ (named_diagram_of bay text ≡ Err e)
    → (e ≡ out_of_memory) ⊎ (diagram_of bay text ≡ Err e)
fault-kept bay text e (inl h) = inl h
fault-kept bay text e (inr h) = inr (fault-of-named bay text e h)
