use Rattle.std.proofs.Common.{◌≡◌, ◌-◌, ◌+◌, ◌<◌, ◌≤◌, max, None, [], length, ap, sym, subst, ◌∙◌, arith}
use Rattle.std.proofs.Math.Nat.{le-max_left, le-max_right}
use Rattle.std.proofs.lemmas.List.{get_or_default, get_or_read}
use Rattle.bay_tree.specs.declared.row.Row.{Row}
use Rattle.bay_tree.specs.Arena.{bucket_of}
use Rattle.bay_tree.specs.Rows.{name_at}
use Rattle.bay_tree.proofs.IndexLemmas.{IsIndexing, indexing-put}
use Rattle.bay_tree.proofs.index.build_index.Goals as goal

pub loop-place-preserved : goal.loop-place-preserved
loop-place-preserved c =
    let rows = c.args.rows.now in
    let i = c.loop-place.place - 1 in
    let first = c.loop-place.first.items in
    let at : c.loop-place.place ≡ i + 1 = omega arith in
    let lt : i < length rows = omega arith in
    let row =
    get_or_default rows i c.index-rows-place.result (record { name = []; leaf = None }) lt in
    let named : c.as_bytes-name.result.now ≡ name_at rows i =
    c.as_bytes-name.ensures.value ∙ c.as_str.ensures ∙ ap (λ (r : Row). r.name) row in
    let indexing =
    subst (λ n. IsIndexing n rows c.loop-place.longest first c.loop-place.next.items) at
    c.loop-place.invariant in
    let bucket = c.bucket_of-bucket.result in
    let count : c.len.result ≡ length rows + 1 =
    omega (arith, c.len.ensures, c.loop-place.first.ok, indexing.count) in
    let own : bucket ≡ bucket_of (length rows + 1) (name_at rows i) =
    c.bucket_of-bucket.ensures.value ∙ ap (λ n. bucket_of n c.as_bytes-name.result.now) count
    ∙ ap (bucket_of (length rows + 1)) named in
    let read =
    get_or_read first bucket c.index.result.now
    (omega (arith, c.bucket_of-bucket.ensures.within)) c.index.ensures None in
    let octets : length c.as_bytes-name.result.now ≡ length (name_at rows i) = ap length named in
    let more : c.loop-place.longest ≤ c.max-longest.result =
    subst (λ n. c.loop-place.longest ≤ n) (sym c.max-longest.ensures)
    (le-max_left c.loop-place.longest (length c.as_bytes-name.result.now)) in
    let fits : length (name_at rows i) ≤ c.max-longest.result =
    subst (λ n. length (name_at rows i) ≤ n) (sym c.max-longest.ensures)
    (subst (λ n. n ≤ max c.loop-place.longest (length c.as_bytes-name.result.now)) octets
    (le-max_right c.loop-place.longest (length c.as_bytes-name.result.now))) in
    rw read (indexing-put rows c.loop-place.longest c.max-longest.result first
    c.loop-place.next.items i bucket lt own
    (omega (arith, c.bucket_of-bucket.ensures.within, count)) more fits indexing)
