use Rattle.std.proofs.Common.{◌≡◌, ◌<◌, List, Some, None, option_map, [], length, refl, ap, sym, ◌∙◌}
use Rattle.std.proofs.Math.ListN.{set}
use Rattle.std.proofs.Math.Seq.{map-set_same}
use Rattle.std.proofs.lemmas.List.{get_or_read}
use Rattle.bay_tree.specs.declared.row.Row.{Row}
use Rattle.bay_tree.specs.LeafTypes.{leaf_type_of}
use Rattle.bay_tree.specs.Rows.{leaf_type_at, name_at, names_of, leaf_types_of, with_leaf}
use Rattle.bay_tree.proofs.ArenaLemmas.{IsArena-set, with_leaf-set}
use Rattle.bay_tree.proofs.NamedLemmas.{with_leaf-named}
use Rattle.bay_tree.proofs.RowLemmas.{leaf-from-type}
use Rattle.bay_tree.proofs.tree.Tree.set.Goals as goal

abbrev row : goal.After-self-1 → Row
row c = record { name = c.index_mut.result.now.name; leaf = c.put_leaf.new.place }

within : (c : goal.After-self-1) → c.handle.inside.index < length c.self.inside.rows.items
within c = rw (c.handle.view_is, c.self.view_is) c.requires

name : (c : goal.After-self-1)
    → c.index_mut.result.now.name ≡ name_at c.self.inside.rows.items c.handle.inside.index
name c = ap (λ (r : Row). r.name)
    (get_or_read c.self.inside.rows.items c.handle.inside.index _ (within c)
    c.index_mut.ensures.value _)

leaf_type : (c : goal.After-self-1)
    → leaf_type_at c.self.inside.rows.items c.handle.inside.index
    ≡ Some (leaf_type_of c.args.leaf)
leaf_type c =
    rw (c.handle.view_is, c.self.view_is, ← c.leaf_type.ensures)
    (c.has_leaf_type.ensures.0 c.if-not-has_leaf_type.false)

put : (c : goal.After-self-1)
    → set c.self.inside.rows.items c.handle.inside.index (row c)
    ≡ with_leaf c.self.inside.rows.items c.handle.inside.index c.args.leaf
put c =
    with_leaf-set c.self.inside.rows.items c.handle.inside.index (row c) c.args.leaf (name c)
    c.put_leaf.ensures

pub invariant_of-self : goal.invariant_of-self
invariant_of-self c =
    IsArena-set c.self.inside.rows.items c.self.inside.index c.self.inside.links.items
    c.handle.inside.index (row c) (within c)
    (leaf-from-type c.self.inside.rows.items c.handle.inside.index _ (leaf_type c)) (name c)
    c.self.invariant

pub returns-clause-ok : goal.returns-clause-ok
returns-clause-ok c =
    put c ∙ ap (λ (rs : List Row). with_leaf rs c.handle.inside.index c.args.leaf) c.self.view_is
    ∙ ap (λ h. with_leaf c.args.self.now h c.args.leaf) c.handle.view_is

pub returns-clause-named : goal.returns-clause-named
returns-clause-named c =
    returns-clause-ok c ∙ with_leaf-named c.args.self.now c.args.handle c.args.leaf
    (rw (← c.self.view_is) c.self.invariant.tree) c.requires

pub returns-clause-names : goal.returns-clause-names
returns-clause-names c =
    let rows = c.self.inside.rows.items in
    let place = c.handle.inside.index in
    ap names_of (put c) ∙ map-set_same (λ (r : Row). r.name) rows place
    (record { name = name_at rows place; leaf = Some c.args.leaf })
    (record { name = []; leaf = None }) refl ∙ ap names_of c.self.view_is

pub returns-clause-leaf_types : goal.returns-clause-leaf_types
returns-clause-leaf_types c =
    let rows = c.self.inside.rows.items in
    let place = c.handle.inside.index in
    ap leaf_types_of (put c)
    ∙ map-set_same (λ (r : Row). option_map leaf_type_of r.leaf) rows place
    (record { name = name_at rows place; leaf = Some c.args.leaf })
    (record { name = []; leaf = None }) (sym (leaf_type c)) ∙ ap leaf_types_of c.self.view_is
