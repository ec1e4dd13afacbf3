use Rattle.std.proofs.Common.{sym}
use Rattle.bay_ber.specs.Values.{part_of}
use Rattle.bay_ber.proofs.KnownLemmas.{known-more, known-end, known-full, known-stop}
use Rattle.bay_ber.proofs.known.known_values.Goals as goal

pub returns-in-None : goal.returns-in-None
returns-in-None c =
    let step = rw c.in-Ok-Some.field-0-is at c.in-Ok-Some.ensures.exact in
    let none = c.in-None.ensures.none in
    sym (known-full c.args.tags.now c.args.octets.now c.loop-value.values c.next_value.new.self
    c.loop-value.known (part_of c.in-Ok-Some.value) c.loop-value.invariant step none.0 none.1)

pub loop-value-preserved : goal.loop-value-preserved
loop-value-preserved c =
    let step = rw c.in-Ok-Some.field-0-is at c.in-Ok-Some.ensures.exact in
    known-more c.args.tags.now c.args.octets.now c.loop-value.values c.next_value.new.self
    c.loop-value.known c.add_known.new.known (part_of c.in-Ok-Some.value) c.loop-value.invariant
    step c.in-Some.ensures.some.0 c.in-Some.ensures.some.1

pub returns-in-Ok-None : goal.returns-in-Ok-None
returns-in-Ok-None c =
    let last = rw c.in-Ok-None.field-0-is at c.in-Ok-None.ensures.exact in
    sym (known-end c.args.tags.now c.args.octets.now c.loop-value.values c.loop-value.known
    c.loop-value.invariant last)

pub returns-in-Err : goal.returns-in-Err
returns-in-Err c =
    sym (known-stop c.args.tags.now c.args.octets.now c.loop-value.values c.loop-value.known
    c.loop-value.invariant c.in-Err.ensures.exact)
