use Rattle.std.proofs.Common.{arith, rules}
use Rattle.il_scan.proofs.PlaceLemmas.{few-words, output-there, word-some}
use Rattle.il_scan.proofs.slots.output_value.Goals as goal

pub bounds-slots-place : goal.bounds-slots-place
bounds-slots-place c =
    omega (arith, few-words c.args.points.now c.args.slots.now c.requires.words, c.requires.within)

pub value_of-requires : goal.value_of-requires
value_of-requires c =
    let some =
    word-some c.args.points.now c.args.slots.now c.args.place c.index-points-place.result
    c.requires.words c.requires.within c.index-points-place.is in
    search (rules, some, c.index-points-place.is)

pub returns : goal.returns
returns c =
    let there =
    output-there c.args.points.now c.args.slots.now c.args.place c.index-points-place.result
    c.requires.within c.index-points-place.is in
    search (rules, there, c.index-points-place.is)
