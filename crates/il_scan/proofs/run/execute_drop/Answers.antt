use Rattle.std.proofs.Common.{refl, sym, subst}
use Rattle.il_image.specs.Octets.{AreOctets}
use Rattle.il_scan.specs.WordEffects.{IsReady, words, words_after}
use Rattle.il_scan.proofs.RunLemmas.{at-on, at-ready, at-some, at-within, both-ready, drop-on}
use Rattle.il_scan.proofs.run.execute_drop.Goals as goal

pub bounds-code-first : goal.bounds-code-first
bounds-code-first c =
    let octets : AreOctets c.args.code.now = λ k. (c.type_inv.code k).fits in
    let w = words c.args.stack.now c.args.slots.now c.args.timers.now in
    at-within c.args.code.now c.args.now c.fetch-first.result.1 (words_after c.args.now
    c.fetch-first.result.0 w) octets (drop-on c.args.code.now c.args.now c.args.offset w octets
    c.requires.there c.fetch-first.result c.fetch-first.ensures.value c.requires.drops)

pub act-requires-clause-ready : goal.act-requires-clause-ready
act-requires-clause-ready c =
    let octets : AreOctets c.args.code.now = λ k. (c.type_inv.code k).fits in
    let w = words c.args.stack.now c.args.slots.now c.args.timers.now in
    at-ready c.args.code.now c.args.now c.args.offset w octets c.requires.there c.fetch-first.result
    c.fetch-first.ensures.value

pub fetch-second-requires : goal.fetch-second-requires
fetch-second-requires c =
    let octets : AreOctets c.args.code.now = λ k. (c.type_inv.code k).fits in
    let w = words c.args.stack.now c.args.slots.now c.args.timers.now in
    at-some c.args.code.now c.args.now c.fetch-first.result.1 (words_after c.args.now
    c.fetch-first.result.0 w) octets (drop-on c.args.code.now c.args.now c.args.offset w octets
    c.requires.there c.fetch-first.result c.fetch-first.ensures.value c.requires.drops)

pub bounds-code-second : goal.bounds-code-second
bounds-code-second c =
    let octets : AreOctets c.args.code.now = λ k. (c.type_inv.code k).fits in
    let w = words c.args.stack.now c.args.slots.now c.args.timers.now in
    at-within c.args.code.now c.args.now c.fetch-second.result.1 (words_after c.args.now
    c.fetch-second.result.0 (words_after c.args.now c.fetch-first.result.0 w)) octets (at-on
    c.args.code.now c.args.now c.fetch-first.result.1 (words_after c.args.now c.fetch-first.result.0
    w) octets (drop-on c.args.code.now c.args.now c.args.offset w octets c.requires.there
    c.fetch-first.result c.fetch-first.ensures.value c.requires.drops) c.fetch-second.result
    c.fetch-second.ensures.value _ c.in-Slot-Load-default.is refl)

pub fetch-third-requires : goal.fetch-third-requires
fetch-third-requires c =
    let octets : AreOctets c.args.code.now = λ k. (c.type_inv.code k).fits in
    let w = words c.args.stack.now c.args.slots.now c.args.timers.now in
    at-some c.args.code.now c.args.now c.fetch-second.result.1 (words_after c.args.now
    c.fetch-second.result.0 (words_after c.args.now c.fetch-first.result.0 w)) octets (at-on
    c.args.code.now c.args.now c.fetch-first.result.1 (words_after c.args.now c.fetch-first.result.0
    w) octets (drop-on c.args.code.now c.args.now c.args.offset w octets c.requires.there
    c.fetch-first.result c.fetch-first.ensures.value c.requires.drops) c.fetch-second.result
    c.fetch-second.ensures.value _ c.in-Slot-Load-default.is refl)

pub act_both-requires-clause-ready : goal.act_both-requires-clause-ready
act_both-requires-clause-ready c =
    let octets : AreOctets c.args.code.now = λ k. (c.type_inv.code k).fits in
    let w = words c.args.stack.now c.args.slots.now c.args.timers.now in
    both-ready c.args.code.now c.args.now c.args.offset w octets c.requires.there
    c.fetch-first.result c.fetch-second.result c.fetch-first.ensures.value (drop-on c.args.code.now
    c.args.now c.args.offset w octets c.requires.there c.fetch-first.result
    c.fetch-first.ensures.value c.requires.drops) c.fetch-second.ensures.value

pub act_both-requires-in_default-clause-ready : goal.act_both-requires-in_default-clause-ready
act_both-requires-in_default-clause-ready c =
    let octets : AreOctets c.args.code.now = λ k. (c.type_inv.code k).fits in
    let w = words c.args.stack.now c.args.slots.now c.args.timers.now in
    both-ready c.args.code.now c.args.now c.args.offset w octets c.requires.there
    c.fetch-first.result c.fetch-second.result c.fetch-first.ensures.value (drop-on c.args.code.now
    c.args.now c.args.offset w octets c.requires.there c.fetch-first.result
    c.fetch-first.ensures.value c.requires.drops) c.fetch-second.ensures.value

pub act-requires-in-Slot-Load-default-clause-ready :
    goal.act-requires-in-Slot-Load-default-clause-ready
act-requires-in-Slot-Load-default-clause-ready c =
    let octets : AreOctets c.args.code.now = λ k. (c.type_inv.code k).fits in
    let w = words c.args.stack.now c.args.slots.now c.args.timers.now in
    subst (IsReady c.fetch-third.result.0) (sym c.act_both.ensures.words) (at-ready c.args.code.now
    c.args.now c.fetch-second.result.1 (words_after c.args.now c.fetch-second.result.0 (words_after
    c.args.now c.fetch-first.result.0 w)) octets (at-on c.args.code.now c.args.now
    c.fetch-first.result.1 (words_after c.args.now c.fetch-first.result.0 w) octets (drop-on
    c.args.code.now c.args.now c.args.offset w octets c.requires.there c.fetch-first.result
    c.fetch-first.ensures.value c.requires.drops) c.fetch-second.result c.fetch-second.ensures.value
    _ c.in-Slot-Load-default.is refl) c.fetch-third.result c.fetch-third.ensures.value)
