use Rattle.std.proofs.Common.{◌≡◌, ◌≢◌, ◌<◌, true, false, None, IfSome, [], length, get_or, ap, sym, subst, ◌∙◌, arith}
use Rattle.std.proofs.lemmas.List.{get_or_default, get_or_read}
use Rattle.std.proofs.lemmas.Slice.Eq.{bytes_eq-Decides}
use Rattle.bay_tree.specs.declared.row.Row.{Row}
use Rattle.bay_tree.specs.Arena.{bucket_of}
use Rattle.bay_tree.specs.Rows.{name_at}
use Rattle.bay_tree.proofs.IndexLemmas.{IsSought, sought-first, sought-next, rows_left-next}
use Rattle.bay_tree.proofs.SearchLemmas.{longer-is-unknown}
use Rattle.bay_tree.proofs.index.Index.find.Goals as goal

pub returns-then-name-self : goal.returns-then-name-self
returns-then-name-self c =
    longer-is-unknown c.args.rows.now c.args.self.now c.args.name.now c.requires
    (omega (arith, c.if-name-self.true))

pub loop-at-init : goal.loop-at-init
loop-at-init c =
    let count : c.len.result ≡ length c.args.self.now.first.items =
    omega (arith, c.len.ensures, c.args.self.now.first.ok) in
    let own = c.bucket_of.ensures.value ∙ ap (λ n. bucket_of n c.args.name.now) count in
    let first =
    get_or_read c.args.self.now.first.items c.bucket_of.result c.index-at.result.now
    (omega (arith, c.bucket_of.ensures.within)) c.index-at.ensures None in
    rw first (subst (λ b. IsSought c.args.rows.now c.args.self.now c.args.name.now
    (get_or c.args.self.now.first.items b None)) (sym own)
    (sought-first c.args.rows.now c.args.self.now c.args.name.now c.requires))

next : (c : goal.After-at-in-Some-1)
    → IsSought c.args.rows.now c.args.self.now c.args.name.now c.index-at-in-Some.result.now
    × IfSome c.index-at-in-Some.result.now (λ next. c.in-Some.place < next)
next c =
    let rows = c.args.rows.now in
    let place = c.in-Some.place in
    let at =
    subst (IsSought rows c.args.self.now c.args.name.now) c.in-Some.is c.loop-at.invariant in
    let within : place < length rows = at.there.0 in
    let row =
    get_or_default rows place c.index-rows-place.result (record { name = []; leaf = None }) within
    in
    let other : name_at rows place ≢ c.args.name.now = λ same.
    let passes = (bytes_eq-Decides c.as_bytes.result.now c.args.name.now).1
    (c.as_bytes.ensures.value ∙ c.as_str.ensures ∙ ap (λ (r : Row). r.name) row ∙ same) in
    let both : true ≡ false = sym passes ∙ sym c.eq.ensures ∙ c.if-eq.false in
    cc in
    let read =
    get_or_read c.args.self.now.next.items place c.index-at-in-Some.result.now
    (omega (arith, within, c.requires.long)) c.index-at-in-Some.ensures None in
    rw read (sought-next rows c.args.self.now c.args.name.now place c.requires at other)

pub loop-at-preserved : goal.loop-at-preserved
loop-at-preserved c = (next c).0

pub loop-at-smaller : goal.loop-at-smaller
loop-at-smaller c =
    let there = subst (IsSought c.args.rows.now c.args.self.now c.args.name.now) c.in-Some.is
    c.loop-at.invariant in
    rw c.in-Some.is (rows_left-next (length c.args.rows.now) c.in-Some.place
    c.index-at-in-Some.result.now there.there.0 (next c).1)
