use Rattle.std.proofs.Common.{refl, sym, inr}
use Rattle.bay_ber.specs.Values.{part_of}
use Rattle.bay_ber.proofs.ListingLemmas.{passed-bad}
use Rattle.bay_mms.specs.Grammar.{variable}
use Rattle.bay_mms.proofs.RequestLemmas.{listing-more, listing-bad, listing-some, some-value}
use Rattle.bay_mms.proofs.access.parse_variables.Goals as goal

pub returns-in_err-push_name-in-Ok-Some-clause-memory :
    goal.returns-in_err-push_name-in-Ok-Some-clause-memory
returns-in_err-push_name-in-Ok-Some-clause-memory c =
    let l = c.loop-value.invariant in
    λ memory. listing-some c.args.count c.args.octets.now
    (some-value variable.reads c.args.octets.now c.loop-value.values c.next_value.new.self l.vs
    (part_of c.in-Ok-Some.value) l.passed
    (rw c.in-Ok-Some.field-0-is at c.in-Ok-Some.ensures.exact))

pub returns-in_default-clause-requested : goal.returns-in_default-clause-requested
returns-in_default-clause-requested c =
    let l = c.loop-value.invariant in
    let step = rw c.in-Ok-Some.field-0-is at c.in-Ok-Some.ensures.exact in
    inr (listing-bad c.args.count c.args.octets.now
    (passed-bad variable.reads c.args.octets.now c.loop-value.values c.next_value.new.self l.vs
    (part_of c.in-Ok-Some.value) l.passed step (sym c.in_default.ensures)))

pub loop-value-preserved : goal.loop-value-preserved
loop-value-preserved c =
    let step = rw c.in-Ok-Some.field-0-is at c.in-Ok-Some.ensures.exact in
    listing-more c.args.octets.now c.loop-value.values c.next_value.new.self
    c.loop-value.names.items c.push_name.new.names.items c.loop-value.is_alternate _
    (part_of c.in-Ok-Some.value) c.in-Some.one c.loop-value.invariant step
    (sym c.in-Some.ensures) c.in_ok-push_name-in-Ok-Some.ensures refl
