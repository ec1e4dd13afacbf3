use Rattle.std.proofs.Common.{ap, inl, inr, arith}
use Rattle.std.proofs.lemmas.Bool.Decides.{nat_tests}
use Rattle.bay_mms.specs.Pages.{NameTextsData}
use Rattle.bay_mms.proofs.PageLemmas.{counted-names}
use Rattle.bay_mms.proofs.page.count_fitting.Goals as goal

pub returns-then-has_room-clause-count : goal.returns-then-has_room-clause-count
returns-then-has_room-clause-count c texts is =
    counted-names texts c.args.names.now.ends c.args.id c.id_length-head.result c.args.size
    c.args.start c.min-most.result c.min-most.result (ap (λ (n : NameTextsData). n.ends) is)
    c.id_length-head.ensures.value c.requires.within
    (omega (arith, c.min-most.ensures, c.count.ensures)) (omega arith)
    (inr (rw (← c.size.ensures) (c.has_room.ensures.0 c.if-has_room.true)))
    (inl (grind (arith, nat_tests)))

pub returns-then-not-has_room-clause-count : goal.returns-then-not-has_room-clause-count
returns-then-not-has_room-clause-count c texts is =
    counted-names texts c.args.names.now.ends c.args.id c.id_length-head.result c.args.size
    c.args.start c.min-most.result c.loop-count.count (ap (λ (n : NameTextsData). n.ends) is)
    c.id_length-head.ensures.value c.requires.within
    (omega (arith, c.min-most.ensures, c.count.ensures)) c.loop-count.invariant.0
    c.loop-count.invariant.1
    (inr (λ le. let fits = c.has_room-in-loop-count.ensures.1 (rw c.size-in-loop-count.ensures le)
    in cc))

pub returns-clause-count : goal.returns-clause-count
returns-clause-count c texts is =
    counted-names texts c.args.names.now.ends c.args.id c.id_length-head.result c.args.size
    c.args.start c.min-most.result c.loop-count.count (ap (λ (n : NameTextsData). n.ends) is)
    c.id_length-head.ensures.value c.requires.within
    (omega (arith, c.min-most.ensures, c.count.ensures)) c.loop-count.invariant.0
    c.loop-count.invariant.1
    (inl (let few = c.loop-count.invariant.0 in let last = c.loop-count-test.false in
    grind (arith, nat_tests)))
