use Rattle.std.proofs.Common.{◌≡◌, ◌≤◌, length, slice_get, Some, refl, ap, sym, ◌∙◌, arith}
use Rattle.std.proofs.lemmas.Bool.Decides.{nat_tests}
use Rattle.std.proofs.lemmas.Option.{slice_get_read}
use Rattle.bay_base.specs.Names.{same_name}
use Rattle.bay_device.proofs.TableLemmas.{passed-over, found-at, found-none, Passed-more}
use Rattle.bay_device.proofs.table.NameTable.index_of.Goals as goal

pub loop-index-init : goal.loop-index-init
loop-index-init g c =
    rw c.key_of.ensures.key (passed-over g.T.Named.name c.args.items.now c.args.self.now.firsts
    c.args.name.now c.requires)

pub returns-then-is_named : goal.returns-then-is_named
returns-then-is_named g c =
    let items = c.args.items.now in
    let item = c.index-items-index.result in
    let here : slice_get items c.loop-index.index ≡ Some item =
    slice_get_read items (length items) c.loop-index.index item refl c.loop-index-test.true
    c.index-items-index.is in
    let asked : c.is_named.result ≡ same_name (g.T.Named.name item) c.args.name.now =
    ◌∙◌ {b = same_name c.name.result.now c.args.name.now} c.is_named.ensures
    (ap (λ n. same_name n c.args.name.now) c.name.ensures) in
    let same = sym asked ∙ c.if-is_named.true in
    sym (found-at (λ x. same_name (g.T.Named.name x) c.args.name.now) items c.loop-index.index item
    c.loop-index.invariant here same)

pub loop-index-preserved : goal.loop-index-preserved
loop-index-preserved g c =
    let items = c.args.items.now in
    let item = c.index-items-index.result in
    let here : slice_get items c.loop-index.index ≡ Some item =
    slice_get_read items (length items) c.loop-index.index item refl c.loop-index-test.true
    c.index-items-index.is in
    let asked : c.is_named.result ≡ same_name (g.T.Named.name item) c.args.name.now =
    ◌∙◌ {b = same_name c.name.result.now c.args.name.now} c.is_named.ensures
    (ap (λ n. same_name n c.args.name.now) c.name.ensures) in
    let other = sym asked ∙ c.if-is_named.false in
    Passed-more (λ x. same_name (g.T.Named.name x) c.args.name.now) items c.loop-index.index item
    c.loop-index.invariant here other

pub returns : goal.returns
returns g c =
    let items = c.args.items.now in
    let all : length items ≤ c.loop-index.index = grind (arith, nat_tests) in
    sym (found-none (λ x. same_name (g.T.Named.name x) c.args.name.now) items c.loop-index.index
    c.loop-index.invariant all)
