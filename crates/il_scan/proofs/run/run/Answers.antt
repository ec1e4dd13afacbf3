use Rattle.std.proofs.Common.{◌<◌, List, ℕ, ℤ, length, ap, subst, sym, arith}
use Rattle.il_image.specs.Octets.{AreOctets}
use Rattle.il_scan.specs.MachineStates.{RunsTo, first_state}
use Rattle.il_scan.specs.WordEffects.{words}
use Rattle.il_scan.proofs.RunLemmas.{Comes, come-within, reach, run-ends, starts}
use Rattle.il_scan.proofs.run.run.Goals as goal

pub loop-next-init : goal.loop-next-init
loop-next-init c =
    let first = first_state c.args.image.now c.args.slots.now c.args.timers.now in
    let octets = subst AreOctets c.code-code.ensures.value (λ k. (c.type_inv.code k).fits) in
    subst (λ (stack : List ℤ). Comes c.args.image.now c.args.now first 0 0
    (words stack c.args.slots.now c.args.timers.now)) (sym c.new-stack.ensures)
    (starts c.args.image.now c.args.now c.args.slots.now c.args.timers.now octets c.requires.safe
    c.requires.held)

pub execute-to-requires : goal.execute-to-requires
execute-to-requires c =
    let i = c.loop-next.invariant in
    record { there = (c.args.image.now, i.state, sym c.code-code.ensures.value, i.stands) }

pub loop-next-smaller : goal.loop-next-smaller
loop-next-smaller c =
    let image = c.args.image.now in
    let first = first_state image c.args.slots.now c.args.timers.now in
    let w = words c.loop-next.stack c.loop-next.slots c.loop-next.timers in
    let after = words c.execute-to.new.stack c.execute-to.new.slots c.execute-to.new.timers in
    let r = reach image c.args.now first _ c.code-code.ensures.value
    c.execute-to.result.1 c.loop-next.offset c.loop-next.steps w c.loop-next.invariant
    c.execute-to.result.0 after c.execute-to.ensures.steps _ c.in-Some.is in
    let on : c.loop-next.offset < c.in-Some.next = r.1 in
    let same = ap (λ (os : List ℕ). length os) c.code-code.ensures.value in
    omega (
      arith,
      on,
      same,
      come-within image c.args.now first c.loop-next.offset c.loop-next.steps w
          c.loop-next.invariant,
    )

pub loop-next-preserved : goal.loop-next-preserved
loop-next-preserved c =
    let image = c.args.image.now in
    let first = first_state image c.args.slots.now c.args.timers.now in
    let w = words c.loop-next.stack c.loop-next.slots c.loop-next.timers in
    let after = words c.execute-to.new.stack c.execute-to.new.slots c.execute-to.new.timers in
    let r = reach image c.args.now first _ c.code-code.ensures.value
    c.execute-to.result.1 c.loop-next.offset c.loop-next.steps w c.loop-next.invariant
    c.execute-to.result.0 after c.execute-to.ensures.steps _ c.in-Some.is in
    r.0

pub returns-in-None : goal.returns-in-None
returns-in-None c =
    let image = c.args.image.now in
    let first = first_state image c.args.slots.now c.args.timers.now in
    let w = words c.loop-next.stack c.loop-next.slots c.loop-next.timers in
    let after = words c.execute-to.new.stack c.execute-to.new.slots c.execute-to.new.timers in
    let r = reach image c.args.now first _ c.code-code.ensures.value
    c.execute-to.result.1 c.loop-next.offset c.loop-next.steps w c.loop-next.invariant
    c.execute-to.result.0 after c.execute-to.ensures.steps _ c.in-None.is in
    subst (RunsTo image c.args.now c.args.slots.now c.args.timers.now after.slots after.timers)
    (sym r.5)
    (run-ends image c.args.now c.args.slots.now c.args.timers.now r.0 r.1 r.2 r.3 r.4
    c.requires.safe c.requires.held after r.6)
