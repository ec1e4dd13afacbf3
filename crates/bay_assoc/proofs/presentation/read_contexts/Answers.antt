use Rattle.std.proofs.Common.{sym, ap, inr}
use Rattle.bay_ber.specs.Values.{part_of}
use Rattle.bay_ber.proofs.ListingLemmas.{passed-more, passed-bad}
use Rattle.bay_ber.specs.Judged.{or_fault}
use Rattle.bay_assoc.specs.declared.fault.AssocFault.TheVariants.{BadPresentation}
use Rattle.bay_assoc.specs.Presentation.{definition}
use Rattle.bay_assoc.proofs.presentation.read_contexts.Goals as goal

pub returns-in-None : goal.returns-in-None
returns-in-None c =
    let step = rw c.in-Ok-Some.field-0-is at c.in-Ok-Some.ensures.exact in
    inr (ap (or_fault BadPresentation)
    (passed-bad definition.reads c.args.octets.now c.loop-value.values c.next_value.new.self
    c.loop-value.contexts.items (part_of c.in-Ok-Some.value) c.loop-value.invariant step
    (sym c.in-None.ensures)))

pub loop-value-preserved : goal.loop-value-preserved
loop-value-preserved c =
    let step = rw c.in-Ok-Some.field-0-is at c.in-Ok-Some.ensures.exact in
    rw c.in_ok-push_context-in-Some.ensures
    (passed-more definition.reads c.args.octets.now c.loop-value.values c.next_value.new.self
    c.loop-value.contexts.items (part_of c.in-Ok-Some.value) c.in-Some.one
    c.loop-value.invariant step (sym c.in-Some.ensures))
