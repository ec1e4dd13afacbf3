-- The names of a diagram's nodes and switches are words.
use Rattle.std.proofs.Common.{◌≡◌, ◌≤◌, ◌+◌, ℕ, suc, Bool, true, false, not, ◌&&◌, ◌||◌, cond, nat_lt, List, [], ◌∷◌, codes, length, map, Option, None, Some, is_some, option_and_then, unwrap_or, Ok, Err, refl, subst, arith}
use Rattle.std.proofs.lemmas.Bool.{and_parts, ltb-false}
use Rattle.std.specs.List.{position, position_or_len}
use Rattle.std.specs.Str.{is_utf8}
use Rattle.toml.specs.Data.{Data, Members, as_str, as_table, get_member}
use Rattle.bay_base.specs.Exact.{unless_refused}
use Rattle.bay_config.specs.Bay.{document_of}
use Rattle.bay_config.specs.Key.{has_unknown, is_identifier, passes}
use Rattle.bay_config.specs.declared.bay.Bay.{Bay}
use Rattle.bay_diagram_file.specs.Checks.{first_refusal, is_fault, name_of, refusal, row_refusal, tables_refusal}
use Rattle.bay_diagram_file.specs.Diagram.{checks_in, file_fault, file_refusal, named_diagram_of, named_in, named_in_document, named_of, node_rows, sections_refusal, switch_rows}
use Rattle.bay_diagram_file.specs.Row.{has_key, has_node_values, has_switch_values, node_keys, node_row_of_value, node_row_or_bad, switch_keys, switch_row_of_value, switch_row_or_bad, text_of, values_in}
use Rattle.bay_diagram_file.specs.declared.diagram.Diagram.{Diagram}
use Rattle.bay_diagram_file.specs.declared.fault.DiagramFault.{DiagramFault}
use Rattle.bay_diagram_file.specs.declared.fault.FaultKind.{FaultKind}
use Rattle.bay_diagram_file.specs.declared.fault.FaultKind.TheVariants as kinds
use Rattle.bay_diagram_file.specs.declared.fault.Place.{Place}
use Rattle.bay_diagram_file.specs.declared.fault.Place.TheVariants as places
use Rattle.bay_diagram_file.specs.declared.row.NodeRow.{NodeRow}
use Rattle.bay_diagram_file.specs.declared.row.RowFault.{RowFault}
use Rattle.bay_diagram_file.specs.declared.row.RowFault.TheVariants.{BadValue, MissingKey, UnknownKey}
use Rattle.bay_diagram_file.specs.declared.row.SwitchRow.{SwitchRow}
use Rattle.il_image.specs.Images.{Each}
use Rattle.cmd_audit.specs.Names.{DiagramsHaveWords, HasDiagramWords, IsWord}
use Rattle.cmd_audit.proofs.BayNameLemmas.{passed-word}

-- ---- no refusal

both-none : (a b : Option DiagramFault) → first_refusal a b ≡ None → (a ≡ None) × (b ≡ None)
both-none None b none = (refl, none)
both-none (Some fault) b none = absurd cc

all-fail : {A : Type 0} (p : A → Bool) (xs : List A) → length xs ≤ position_or_len p xs
    → Each (λ x. p x ≡ false) xs
all-fail p [] h = tt
all-fail p (x ∷ xs) h = by-test (all-fail p xs) (p x) refl h
  where
    by-test : (length xs ≤ position_or_len p xs → Each (λ y. p y ≡ false) xs)
        → (b : Bool) → p x ≡ b → suc (length xs) ≤ cond (not b) (1 + position_or_len p xs) 0
        → (p x ≡ false) × Each (λ y. p y ≡ false) xs
    by-test more true is h = absurd (omega (arith, h))
    by-test more false is h = (is, more (omega (arith, h)))

-- without a refusal no table has the fault
none-fails : {A : Type 0} (kind : FaultKind) (place : ℕ → Place) (p : A → Bool) (xs : List A)
    → refusal kind place (position p xs) ≡ None → Each (λ x. p x ≡ false) xs
none-fails kind place p xs none =
    by-test (nat_lt (position_or_len p xs) (length xs)) refl none
  where
    by-test : (b : Bool) → nat_lt (position_or_len p xs) (length xs) ≡ b
        → refusal kind place (cond b (Some (position_or_len p xs)) None) ≡ None
        → Each (λ x. p x ≡ false) xs
    by-test true is none = absurd cc
    by-test false is none =
        all-fail p xs (ltb-false (position_or_len p xs) (length xs) is)

no-fault : (o : Option RowFault) → is_fault UnknownKey o ≡ false → is_fault MissingKey o ≡ false
    → is_fault BadValue o ≡ false → o ≡ None
no-fault None a b c = refl
no-fault (Some UnknownKey) a b c = absurd cc
no-fault (Some MissingKey) a b c = absurd cc
no-fault (Some BadValue) a b c = absurd cc

sound-each : {A : Type 0} (fault : A → Option RowFault) (rows : List A)
    → Each (λ r. is_fault UnknownKey (fault r) ≡ false) rows
    → Each (λ r. is_fault MissingKey (fault r) ≡ false) rows
    → Each (λ r. is_fault BadValue (fault r) ≡ false) rows → Each (λ r. fault r ≡ None) rows
sound-each fault [] a b c = tt
sound-each fault (r ∷ rows) a b c =
    (no-fault (fault r) a.0 b.0 c.0, sound-each fault rows a.1 b.1 c.1)

-- a diagram that is not refused has only tables without a fault
record AreSound (nodes : List NodeRow) (switches : List SwitchRow) : Type 0 where
  nodes_are : Each (λ n. n.fault ≡ None) nodes
  switches_are : Each (λ s. s.fault ≡ None) switches

record LackFault (which : RowFault) (nodes : List NodeRow) (switches : List SwitchRow)
    : Type 0 where
  nodes_lack : Each (λ n. is_fault which n.fault ≡ false) nodes
  switches_lack : Each (λ s. is_fault which s.fault ≡ false) switches

lack-fault : (kind : FaultKind) (which : RowFault) (nodes : List NodeRow)
    (switches : List SwitchRow) → row_refusal kind which nodes switches ≡ None
    → LackFault which nodes switches
lack-fault kind which nodes switches none =
    let parts = both-none _ _ none in
    record {
      nodes_lack = none-fails kind places.Node (λ n. is_fault which n.fault) nodes parts.0;
      switches_lack = none-fails kind places.Between (λ s. is_fault which s.fault) switches parts.1;
    }

are-sound : (bay : Bay) (nodes : List NodeRow) (switches : List SwitchRow)
    → tables_refusal bay nodes switches ≡ None → AreSound nodes switches
are-sound bay nodes switches none =
    let first = both-none (row_refusal kinds.UnknownKey UnknownKey nodes switches) _ none in
    let second = both-none (row_refusal kinds.MissingKey MissingKey nodes switches) _ first.1 in
    let third = both-none (row_refusal kinds.BadValue BadValue nodes switches) _ second.1 in
    let a = lack-fault kinds.UnknownKey UnknownKey nodes switches first.0 in
    let b = lack-fault kinds.MissingKey MissingKey nodes switches second.0 in
    let c = lack-fault kinds.BadValue BadValue nodes switches third.0 in
    record {
      nodes_are = sound-each (λ n. n.fault) nodes a.nodes_lack b.nodes_lack c.nodes_lack;
      switches_are =
          sound-each (λ s. s.fault) switches a.switches_lack b.switches_lack c.switches_lack;
    }

-- ---- a table without a fault

values-pass : (a b c : Bool) (x y z : RowFault)
    → cond a (Some x) (cond b (Some y) (cond (not c) (Some z) None)) ≡ None → c ≡ true
values-pass true b c x y z none = absurd cc
values-pass false true c x y z none = absurd cc
values-pass false false true x y z none = refl
values-pass false false false x y z none = absurd cc

node-word : (o : Option Members) → (node_row_or_bad o).fault ≡ None
    → IsWord (node_row_or_bad o).name
node-word None none = absurd cc
node-word (Some t) none =
    let values : has_node_values t ≡ true =
    values-pass (has_unknown node_keys t)
    (not (has_key t (codes "name") && has_key t (codes "kind"))) (has_node_values t)
    UnknownKey MissingKey BadValue none in
    passed-word 32 (text_of t (codes "name"))
    (and_parts (passes (is_identifier 32) (text_of t (codes "name"))) _ values).0

abbrev MayBeWord : Option (List ℕ) → Type 0
MayBeWord None = Unit {0}
MayBeWord (Some name) = IsWord name

passed-name : (o : Option (List ℕ)) → passes (is_identifier 32) o ≡ true → MayBeWord o
passed-name None passed = tt
passed-name (Some name) passed = passed-word 32 (Some name) passed

named : (o : Option Data)
    → (not (is_some o) || passes (is_identifier 32) (option_and_then as_str o)) ≡ true
    → MayBeWord (option_and_then as_str o)
named None passed = tt
named (Some d) passed = passed-name (as_str d) passed

either-word : (a b : Option (List ℕ)) → MayBeWord a → MayBeWord b
    → IsWord (unwrap_or a (unwrap_or b []))
either-word (Some a) b p q = p
either-word None (Some b) p q = q
either-word None None p q = refl

switch-word : (o : Option Members) → (switch_row_or_bad o).fault ≡ None
    → IsWord (name_of (switch_row_or_bad o))
switch-word None none = absurd cc
switch-word (Some t) none =
    let values : has_switch_values t ≡ true =
    values-pass (has_unknown switch_keys t) (not (has_key t (codes "nodes"))) (has_switch_values t)
    UnknownKey MissingKey BadValue none in
    let first = and_parts (not (has_key t (codes "switch"))
    || passes (is_identifier 32) (text_of t (codes "switch"))) _ values in
    let second = and_parts (not (has_key t (codes "name"))
    || passes (is_identifier 32) (text_of t (codes "name"))) _ first.1 in
    either-word (text_of t (codes "switch")) (text_of t (codes "name"))
    (named (get_member (codes "switch") t) first.0) (named (get_member (codes "name") t) second.0)

node-words : (ds : List Data) → Each (λ n. n.fault ≡ None) (map node_row_of_value ds)
    → Each IsWord (map (λ n. n.name) (map node_row_of_value ds))
node-words [] sound = tt
node-words (d ∷ ds) sound = (node-word (as_table d) sound.0, node-words ds sound.1)

switch-words : (ds : List Data) → Each (λ s. s.fault ≡ None) (map switch_row_of_value ds)
    → Each IsWord (map name_of (map switch_row_of_value ds))
switch-words [] sound = tt
switch-words (d ∷ ds) sound = (switch-word (as_table d) sound.0, switch-words ds sound.1)

-- ---- a diagram

named-words : (bay : Bay) (file : Members) (d : Diagram) → named_in bay file ≡ Ok d
    → HasDiagramWords d
named-words bay file d is = by-refusal (file_refusal bay file) refl is
  where
    whole : file_refusal bay file ≡ None
        → HasDiagramWords (named_of bay (checks_in file) (node_rows file) (switch_rows file))
    whole none =
        let sound =
        are-sound bay (node_rows file) (switch_rows file)
        (both-none (sections_refusal file)
        (tables_refusal bay (node_rows file) (switch_rows file)) none).1 in
        record {
          nodes = node-words (values_in file (codes "node")) sound.nodes_are;
          switches = switch-words (values_in file (codes "between")) sound.switches_are;
        }

    by-refusal : (o : Option DiagramFault) → file_refusal bay file ≡ o
        → unless_refused o (named_of bay (checks_in file) (node_rows file) (switch_rows file))
        ≡ Ok d
        → HasDiagramWords d
    by-refusal None none is =
        let same : named_of bay (checks_in file) (node_rows file) (switch_rows file) ≡ d = cc in
        subst HasDiagramWords same (whole none)
    by-refusal (Some fault) refused is = absurd cc

document-words : (bay : Bay) (file : Option Members) (d : Diagram)
    → named_in_document bay file ≡ Ok d → HasDiagramWords d
document-words bay None d is = absurd cc
document-words bay (Some file) d is = named-words bay file d is

pub diagrams-have-words : DiagramsHaveWords
diagrams-have-words bay octets d is = by-text (is_utf8 octets) is
  where
    by-text : (b : Bool)
        → cond b (named_diagram_of bay octets) (Err (file_fault kinds.BadToml)) ≡ Ok d
        → HasDiagramWords d
    by-text true is = document-words bay (document_of octets) d is
    by-text false is = absurd cc
