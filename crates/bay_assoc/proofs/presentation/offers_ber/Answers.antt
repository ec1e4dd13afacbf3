use Rattle.std.proofs.Common.{sym}
use Rattle.bay_ber.specs.Values.{part_of}
use Rattle.bay_assoc.proofs.ContextLemmas.{flags-first, flags-more, flags-end, flags-bad, flags-stop}
use Rattle.bay_assoc.proofs.presentation.offers_ber.Goals as goal

pub loop-value-init : goal.loop-value-init
loop-value-init c = rw c.new-values.ensures (flags-first c.args.octets.now)

pub returns-in-None : goal.returns-in-None
returns-in-None c =
    let step = rw c.in-Ok-Some.field-0-is at c.in-Ok-Some.ensures.exact in
    sym (flags-bad c.args.octets.now c.loop-value.values c.next_value.new.self c.loop-value.found
    (part_of c.in-Ok-Some.value) c.loop-value.invariant step (sym c.in-None.ensures))

pub loop-value-preserved : goal.loop-value-preserved
loop-value-preserved c =
    let step = rw c.in-Ok-Some.field-0-is at c.in-Ok-Some.ensures.exact in
    flags-more c.args.octets.now c.loop-value.values c.next_value.new.self c.loop-value.found
    c.in-Some.one _ (part_of c.in-Ok-Some.value) c.loop-value.invariant step
    (sym c.in-Some.ensures) c.either-found.ensures

pub returns-in-Ok-None : goal.returns-in-Ok-None
returns-in-Ok-None c =
    let last = rw c.in-Ok-None.field-0-is at c.in-Ok-None.ensures.exact in
    sym (flags-end c.args.octets.now c.loop-value.values c.loop-value.found c.loop-value.invariant
    last)

pub returns-in-Err : goal.returns-in-Err
returns-in-Err c =
    sym (flags-stop c.args.octets.now c.loop-value.values c.loop-value.found c.loop-value.invariant
    c.in-Err.ensures.exact)
