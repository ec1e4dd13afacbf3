use Rattle.std.proofs.Common.{◌≡◌, true, false, sym, ap, ◌∙◌, arith, inr, Ok}
use Rattle.std.proofs.lemmas.Result.{err_from_is_err_and}
use Rattle.bay_ber.specs.Tags.{same_tag, constructed}
use Rattle.bay_ber.specs.Values.{part_of, each_in}
use Rattle.bay_ber.proofs.ListingLemmas.{passed-more, passed-bad}
use Rattle.bay_mms.specs.Grammar.{datum_at, simple}
use Rattle.bay_mms.specs.Views.{datum_of, data_in}
use Rattle.bay_mms.proofs.RequestLemmas.{gives-stop, some-value, gives-option, spelled-ok, too_deep, structure-ok, structure-err, simple-is, view-structure}
use Rattle.bay_mms.proofs.data_parser.+received.Goals as goal

pub read_data-returns-in_err-part-in-Ok-Some-clause-requested :
    goal.read_data-returns-in_err-part-in-Ok-Some-clause-requested
read_data-returns-in_err-part-in-Ok-Some-clause-requested t c =
    let p = err_from_is_err_and c.from_residual.result c.from_residual.ensures.1 in
    let step = rw c.in-Ok-Some.field-0-is at c.in-Ok-Some.ensures.exact in
    let f = (datum_at c.args.depth).reads in
    let part = part_of c.in-Ok-Some.value in
    rw (p.1, p.2) (gives-stop c.in_err-part-in-Ok-Some.field-0.0 (f part)
    (each_in f c.args.octets.now) c.in_err-part-in-Ok-Some.ensures
    (λ bad. passed-bad f c.args.octets.now c.loop-value.values c.next_value.new.self
    (data_in c.loop-value.parts.items) part c.loop-value.invariant step bad))

pub read_data-returns-in_err-part-in-Ok-Some-clause-memory :
    goal.read_data-returns-in_err-part-in-Ok-Some-clause-memory
read_data-returns-in_err-part-in-Ok-Some-clause-memory t c =
    λ memory. some-value (datum_at c.args.depth).reads c.args.octets.now c.loop-value.values
    c.next_value.new.self (data_in c.loop-value.parts.items) (part_of c.in-Ok-Some.value)
    c.loop-value.invariant (rw c.in-Ok-Some.field-0-is at c.in-Ok-Some.ensures.exact)

pub read_data-returns-in_err-push_data-in-Ok-Some-clause-memory :
    goal.read_data-returns-in_err-push_data-in-Ok-Some-clause-memory
read_data-returns-in_err-push_data-in-Ok-Some-clause-memory t c =
    λ memory. some-value (datum_at c.args.depth).reads c.args.octets.now c.loop-value.values
    c.next_value.new.self (data_in c.loop-value.parts.items) (part_of c.in-Ok-Some.value)
    c.loop-value.invariant (rw c.in-Ok-Some.field-0-is at c.in-Ok-Some.ensures.exact)

pub read_data-loop-value-preserved : goal.read_data-loop-value-preserved
read_data-loop-value-preserved t c =
    let step = rw c.in-Ok-Some.field-0-is at c.in-Ok-Some.ensures.exact in
    let f = (datum_at c.args.depth).reads in
    let part = part_of c.in-Ok-Some.value in
    let x = datum_of c.in_ok-part-in-Ok-Some.part in
    rw c.in_ok-push_data-in-Ok-Some.ensures
    (passed-more f c.args.octets.now c.loop-value.values c.next_value.new.self
    (data_in c.loop-value.parts.items) part x c.loop-value.invariant step
    (spelled-ok (f part) x c.in_ok-part-in-Ok-Some.ensures))

pub read_datum-returns-then-depth-eq0 : goal.read_datum-returns-then-depth-eq0
read_datum-returns-then-depth-eq0 t c =
    inr (too_deep c.args.depth (part_of c.args.value.now) c.if-depth-eq0.true)

pub read_datum-returns-in_err-parts : goal.read_datum-returns-in_err-parts
read_datum-returns-in_err-parts t c =
    let p = err_from_is_err_and c.from_residual.result c.from_residual.ensures.1 in
    let is : same_tag c.args.value.now.tag (constructed 2) ≡ true =
    ap (same_tag c.args.value.now.tag) (sym c.context_constructed.ensures) ∙ sym c.is.ensures
    ∙ c.if-is.true in
    rw (p.1, p.2) (structure-err c.args.depth (part_of c.args.value.now) c.in_err-parts.field-0.0
    (omega arith) is c.in_err-parts.ensures.requested)

pub read_datum-returns-in_ok-parts : goal.read_datum-returns-in_ok-parts
read_datum-returns-in_ok-parts t c =
    let is : same_tag c.args.value.now.tag (constructed 2) ≡ true =
    ap (same_tag c.args.value.now.tag) (sym c.context_constructed.ensures) ∙ sym c.is.ensures
    ∙ c.if-is.true in
    structure-ok c.args.depth (part_of c.args.value.now) (data_in c.in_ok-parts.parts.items)
    (omega arith) is c.in_ok-parts.ensures.requested
    ∙ ap Ok (sym (view-structure c.in_ok-parts.parts))

pub read_datum-returns-else-is : goal.read_datum-returns-else-is
read_datum-returns-else-is t c =
    let isnt : same_tag c.args.value.now.tag (constructed 2) ≡ false =
    ap (same_tag c.args.value.now.tag) (sym c.context_constructed.ensures) ∙ sym c.is.ensures
    ∙ c.if-is.false in
    let is : (datum_at c.args.depth).reads (part_of c.args.value.now)
    ≡ simple.reads (part_of c.args.value.now) =
    simple-is c.args.depth (part_of c.args.value.now) (omega arith) isnt in
    rw c.ok_or.ensures.value
    (gives-option datum_of c.simple_from_value.result
    ((datum_at c.args.depth).reads (part_of c.args.value.now))
    (c.simple_from_value.ensures ∙ sym is))
