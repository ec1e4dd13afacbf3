use Rattle.std.proofs.Common.{◌≡◌, map, length, slice_get, option_map, Some, refl, ap, sym, ◌∙◌}
use Rattle.std.proofs.lemmas.List.{get_or-replicate, length-replicate, length-map}
use Rattle.std.proofs.lemmas.Option.{slice_get-map, slice_get_read}
use Rattle.bay_device.specs.Table.{key_of}
use Rattle.bay_device.proofs.TableLemmas.{Tabled-start, Tabled-step}
use Rattle.bay_device.proofs.table.NameTable.new.Goals as goal

pub loop-index-init : goal.loop-index-init
loop-index-init g c =
    let items = c.args.items.now in
    Tabled-start (map g.T.Named.name items) _ (length-replicate 64 (length items))
    (λ key h. get_or-replicate 64 key (length items) 0 h
    ∙ sym (length-map items g.T.Named.name))

pub loop-index-preserved : goal.loop-index-preserved
loop-index-preserved g c =
    let items = c.args.items.now in
    let names = map g.T.Named.name items in
    let item = c.index-items-index.result in
    let at : slice_get items c.loop-index.index ≡ Some item =
    slice_get_read items (length items) c.loop-index.index item refl c.loop-index-test.true
    c.index-items-index.is in
    let here : slice_get names c.loop-index.index ≡ Some (g.T.Named.name item) =
    slice_get-map g.T.Named.name items c.loop-index.index ∙ ap (option_map g.T.Named.name) at in
    let key : c.key_of.result ≡ key_of (g.T.Named.name item) =
    c.key_of.ensures.key ∙ ap key_of c.name.ensures in
    rw (c.note.ensures, key)
    (Tabled-step names c.loop-index.index c.loop-index.table.firsts (g.T.Named.name item)
    c.loop-index.invariant here (rw key at c.key_of.ensures.within))
