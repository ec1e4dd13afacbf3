use Rattle.std.proofs.Common.{◌≡◌, List, true, length, ◌+◌, replicate, subst, sym, ap, ap₂, ◌∙◌}
use Rattle.std.proofs.lemmas.Result.{IfOk-weaker}
use Rattle.il_image.specs.Images.{Image}
use Rattle.il_scan.specs.Scans.{first_machine}
use Rattle.il_range.specs.declared.range.Range.{Range}
use Rattle.il_range.specs.declared.range.Range.TheVariants.{Any}
use Rattle.bay_base.specs.declared.position.Dbpos.TheVariants.{Off}
use Rattle.il_range.specs.Effects.{are_within}
use Rattle.il_range.specs.Predictions.{IsMemory}
use Rattle.il_range.specs.Outcomes.{PredictsMemory}
use Rattle.il_range.specs.Ranges.{AreIn, Setting}
use Rattle.il_range.proofs.StartLemmas.{any-memory, firsts-in, firsts-size, grows, settled, slot_count}
use Rattle.il_range.proofs.memory.memory_ranges.Goals as goal

pub loop-round-init : goal.loop-round-init
loop-round-init c w =
    let image = c.image-image.result.now in
    subst (AreIn w (first_machine image).slots) (sym c.in_ok-ranges.ensures)
    (firsts-in w image.points image.variables)

pub returns-then-are_within : goal.returns-then-are_within
returns-then-are_within c w machine is r =
    let image = c.image-image.result.now in
    let left = c.in_ok-left.left.items in
    let inside : are_within left c.loop-round.ranges.items ≡ true =
    let told = c.are_within.ensures in let yes = c.if-are_within.true in
    let one = c.as_slice-in-loop-round.ensures.value in
    let two = c.as_slice-in-loop-round-2.ensures.value in cc in
    settled image c.loop-round.ranges.items left c.loop-round.invariant
    (subst (λ (memory : List Range). PredictsMemory image memory left) c.as_slice.ensures.value
    c.in_ok-left.ensures.carries) inside w machine (is ∙ sym c.image-image.ensures.value) r

pub widen-requires : goal.widen-requires
widen-requires c =
    let w : Setting = record { position = λ k. Off; mark = 0 } in
    firsts-size w c.image-image.result.now c.loop-round.ranges.items (c.loop-round.invariant w)
    ∙ sym (ap length c.as_slice-in-loop-round-3.ensures.value ∙ c.in_ok-left.ensures.size)

pub loop-round-preserved : goal.loop-round-preserved
loop-round-preserved c w =
    let slots = (first_machine c.image-image.result.now).slots in
    subst (AreIn w slots) (sym c.widen.ensures)
    (grows w _ slots c.loop-round.ranges.items c.as_slice-in-loop-round-3.result.now
    (c.loop-round.invariant w))

pub returns : goal.returns
returns c =
    let count =
    ap₂ (λ points variables. replicate (length points + length variables) Any)
    c.points.ensures.value c.variables.ensures.value
    ∙ ap (λ (i : Image). replicate (slot_count i) Any) c.image-image.ensures.value in
    IfOk-weaker c.free_ranges.result _ _
    (λ ranges e. subst (IsMemory c.args.verified.now) (sym (e ∙ count))
    (any-memory c.args.verified.now)) c.free_ranges.ensures
