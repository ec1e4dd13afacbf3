use Rattle.std.proofs.Common.{◌≡◌, ℕ, ◌-◌, ◌+◌, ◌<◌, ◌≤◌, None, Some, option_and_then, List, [], length, get_or, refl, ap, sym, subst, ◌∙◌, arith}
use Rattle.std.proofs.Math.ListN.{set}
use Rattle.std.proofs.lemmas.List.{get_or_default, get_or_read, length-set}
use Rattle.bay_tree.specs.declared.link.RowLink.{RowLink}
use Rattle.bay_tree.specs.declared.row.Row.{Row}
use Rattle.bay_tree.specs.Arena.{link_at}
use Rattle.bay_tree.specs.Names.{IsWordAt, parent_of}
use Rattle.bay_tree.specs.Rows.{name_at, row_index}
use Rattle.bay_tree.proofs.ArenaLemmas.{written}
use Rattle.bay_tree.proofs.LinkLemmas.{IsLinkedFrom, IsWorded, linked-put, linked-skip, linked-word, above-within, unlinked}
use Rattle.bay_tree.proofs.link.build_links.Goals as goal

-- the links with the word of the row before a place
worded : (rows : List Row) (links : List RowLink) (place : ℕ) (old link : RowLink)
    → place ≤ length rows
    → 0 < place → old ≡ get_or links (place - 1) old → link.below ≡ old.below
    → link.beside ≡ old.beside → IsWordAt (name_at rows (place - 1)) link.word
    → IsLinkedFrom place rows links
    → IsWorded (place - 1) rows (set links (place - 1) link)
worded rows links place old link within some read below beside word linked =
    let i = place - 1 in
    let at : place ≡ i + 1 = omega arith in
    let same : old ≡ link_at links i =
    get_or_read links i old (omega (arith, linked.long)) read unlinked in
    linked-word rows links i link (omega arith) (below ∙ ap (λ (l : RowLink). l.below) same)
    (beside ∙ ap (λ (l : RowLink). l.beside) same) word
    (subst (λ n. IsLinkedFrom n rows links) at linked)

pub loop-place-preserved : goal.loop-place-preserved
loop-place-preserved c =
    let rows = c.args.rows.now in
    let links = c.loop-place.links.items in
    let i = c.loop-place.place - 1 in
    let lt : i < length rows = omega arith in
    let row =
    get_or_default rows i c.index-rows-place.result (record { name = []; leaf = None }) lt in
    let named : c.as_str.result.now ≡ name_at rows i =
    c.as_str.ensures ∙ ap (λ (r : Row). r.name) row in
    let above : option_and_then (row_index rows) (parent_of (name_at rows i)) ≡ None =
    ap (λ n. option_and_then (row_index rows) (parent_of n)) (sym named)
    ∙ ap (option_and_then (row_index rows)) (sym c.split_name-parts.ensures.parent)
    ∙ sym c.in_default.ensures in
    let link : RowLink =
    record {
      word = c.split_name-parts.result.word;
      below = c.index_mut.result.now.below;
      beside = c.index_mut.result.now.beside;
    } in
    let put : IsWorded i rows (set links i link) =
    worded rows links c.loop-place.place c.index_mut.result.now link (omega arith) (omega arith)
    c.index_mut.ensures.value refl refl
    (subst (λ n. IsWordAt n c.split_name-parts.result.word) named c.split_name-parts.ensures.word)
    c.loop-place.invariant.linked in
    record {
      linked = linked-skip rows (set links i link) i c.requires.tree lt above put;
      near = c.loop-place.invariant.near;
    }

pub loop-place-preserved-in-Some : goal.loop-place-preserved-in-Some
loop-place-preserved-in-Some c =
    let rows = c.args.rows.now in
    let links = c.loop-place.links.items in
    let i = c.loop-place.place - 1 in
    let lt : i < length rows = omega arith in
    let row =
    get_or_default rows i c.index-rows-place.result (record { name = []; leaf = None }) lt in
    let named : c.as_str.result.now ≡ name_at rows i =
    c.as_str.ensures ∙ ap (λ (r : Row). r.name) row in
    let above : option_and_then (row_index rows) (parent_of (name_at rows i))
    ≡ Some c.in-Some.above =
    ap (λ n. option_and_then (row_index rows) (parent_of n)) (sym named)
    ∙ ap (option_and_then (row_index rows)) (sym c.split_name-parts.ensures.parent)
    ∙ sym c.in-Some.ensures in
    let link : RowLink =
    record {
      word = c.split_name-parts.result.word;
      below = c.index_mut.result.now.below;
      beside = c.index_mut.result.now.beside;
    } in
    let put : IsWorded i rows (set links i link) =
    worded rows links c.loop-place.place c.index_mut.result.now link (omega arith) (omega arith)
    c.index_mut.ensures.value refl refl
    (subst (λ n. IsWordAt n c.split_name-parts.result.word) named c.split_name-parts.ensures.word)
    c.loop-place.invariant.linked in
    let old = c.deref_mut.result.now in
    let new = c.put_below.new.links in
    let begun = subst (IsWorded i rows) (sym c.deref_mut.ensures.value) put in
    let long : length new ≡ length rows = c.put_below.ensures.long ∙ begun.linked.long in
    let set_long : length (set links i link) ≡ length links = length-set links i link in
    rw (written (set links i link) new c.loop-place.links.len
    (c.put_below.ensures.long ∙ ap length c.deref_mut.ensures.value)
    (omega (arith, set_long, c.loop-place.links.ok))) (record {
      linked = linked-put rows old new i c.in-Some.above c.requires.tree lt long above
          c.put_below.ensures.word c.put_below.ensures.below c.put_below.ensures.beside begun;
      near = λ _. above-within rows (parent_of (name_at rows i)) c.in-Some.above above;
    })
