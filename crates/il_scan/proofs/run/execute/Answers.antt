use Rattle.std.proofs.Common.{refl}
use Rattle.il_image.specs.Octets.{AreOctets}
use Rattle.il_scan.specs.WordEffects.{words, words_after}
use Rattle.il_scan.proofs.RunLemmas.{at-on, at-ready, at-some, at-within, both-ready}
use Rattle.il_scan.proofs.run.execute.Goals as goal

pub fetch-first-requires : goal.fetch-first-requires
fetch-first-requires c =
    let octets : AreOctets c.args.code.now = λ k. (c.type_inv.code k).fits in
    let w = words c.args.stack.now c.args.slots.now c.args.timers.now in
    at-some c.args.code.now c.args.now c.args.offset w octets c.requires.there

pub bounds-code-first : goal.bounds-code-first
bounds-code-first c =
    let octets : AreOctets c.args.code.now = λ k. (c.type_inv.code k).fits in
    let w = words c.args.stack.now c.args.slots.now c.args.timers.now in
    at-within c.args.code.now c.args.now c.fetch-first.result.1 (words_after c.args.now
    c.fetch-first.result.0 w) octets (at-on c.args.code.now c.args.now c.args.offset w octets
    c.requires.there c.fetch-first.result c.fetch-first.ensures.value _ c.in-Slot-Load-default.is
    refl)

pub fetch-requires : goal.fetch-requires
fetch-requires c =
    let octets : AreOctets c.args.code.now = λ k. (c.type_inv.code k).fits in
    let w = words c.args.stack.now c.args.slots.now c.args.timers.now in
    at-some c.args.code.now c.args.now c.fetch-first.result.1 (words_after c.args.now
    c.fetch-first.result.0 w) octets (at-on c.args.code.now c.args.now c.args.offset w octets
    c.requires.there c.fetch-first.result c.fetch-first.ensures.value _ c.in-Slot-Load-default.is
    refl)

pub act_both-requires-clause-ready : goal.act_both-requires-clause-ready
act_both-requires-clause-ready c =
    let octets : AreOctets c.args.code.now = λ k. (c.type_inv.code k).fits in
    let w = words c.args.stack.now c.args.slots.now c.args.timers.now in
    both-ready c.args.code.now c.args.now c.args.offset w octets c.requires.there
    c.fetch-first.result c.fetch.result c.fetch-first.ensures.value (at-on c.args.code.now
    c.args.now c.args.offset w octets c.requires.there c.fetch-first.result
    c.fetch-first.ensures.value _ c.in-Slot-Load-default.is refl) c.fetch.ensures.value

pub fetch-requires-in-12 : goal.fetch-requires-in-12
fetch-requires-in-12 c =
    let octets : AreOctets c.args.code.now = λ k. (c.type_inv.code k).fits in
    let w = words c.args.stack.now c.args.slots.now c.args.timers.now in
    at-some c.args.code.now c.args.now c.fetch-first.result.1 (words_after c.args.now
    c.fetch-first.result.0 w) octets (at-on c.args.code.now c.args.now c.args.offset w octets
    c.requires.there c.fetch-first.result c.fetch-first.ensures.value _ c.in-Slot-Load-default.is
    refl)

pub act_both-requires-in-12-clause-ready : goal.act_both-requires-in-12-clause-ready
act_both-requires-in-12-clause-ready c =
    let octets : AreOctets c.args.code.now = λ k. (c.type_inv.code k).fits in
    let w = words c.args.stack.now c.args.slots.now c.args.timers.now in
    both-ready c.args.code.now c.args.now c.args.offset w octets c.requires.there
    c.fetch-first.result c.fetch-in-12.result c.fetch-first.ensures.value (at-on c.args.code.now
    c.args.now c.args.offset w octets c.requires.there c.fetch-first.result
    c.fetch-first.ensures.value _ c.in-Slot-Load-default.is refl) c.fetch-in-12.ensures.value

pub fetch-requires-in-13 : goal.fetch-requires-in-13
fetch-requires-in-13 c =
    let octets : AreOctets c.args.code.now = λ k. (c.type_inv.code k).fits in
    let w = words c.args.stack.now c.args.slots.now c.args.timers.now in
    at-some c.args.code.now c.args.now c.fetch-first.result.1 (words_after c.args.now
    c.fetch-first.result.0 w) octets (at-on c.args.code.now c.args.now c.args.offset w octets
    c.requires.there c.fetch-first.result c.fetch-first.ensures.value _ c.in-Slot-Load-default.is
    refl)

pub act_both-requires-in-13-clause-ready : goal.act_both-requires-in-13-clause-ready
act_both-requires-in-13-clause-ready c =
    let octets : AreOctets c.args.code.now = λ k. (c.type_inv.code k).fits in
    let w = words c.args.stack.now c.args.slots.now c.args.timers.now in
    both-ready c.args.code.now c.args.now c.args.offset w octets c.requires.there
    c.fetch-first.result c.fetch-in-13.result c.fetch-first.ensures.value (at-on c.args.code.now
    c.args.now c.args.offset w octets c.requires.there c.fetch-first.result
    c.fetch-first.ensures.value _ c.in-Slot-Load-default.is refl) c.fetch-in-13.ensures.value

pub act-requires-clause-ready : goal.act-requires-clause-ready
act-requires-clause-ready c =
    let octets : AreOctets c.args.code.now = λ k. (c.type_inv.code k).fits in
    let w = words c.args.stack.now c.args.slots.now c.args.timers.now in
    at-ready c.args.code.now c.args.now c.args.offset w octets c.requires.there c.fetch-first.result
    c.fetch-first.ensures.value

pub act-requires-in_default-clause-ready : goal.act-requires-in_default-clause-ready
act-requires-in_default-clause-ready c =
    let octets : AreOctets c.args.code.now = λ k. (c.type_inv.code k).fits in
    let w = words c.args.stack.now c.args.slots.now c.args.timers.now in
    at-ready c.args.code.now c.args.now c.args.offset w octets c.requires.there c.fetch-first.result
    c.fetch-first.ensures.value
