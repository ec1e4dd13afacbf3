use Rattle.std.proofs.Common.{rules, ◌≡◌, ◌+◌, ◌∙◌, false, length, refl, sym, subst, suc, arith}
use Rattle.std.proofs.Math.ListN.{replicate}
use Rattle.il_verify.proofs.OrderLemmas.{MarksBelow, is_there, marks-all, marks-more, marks-none, place-behind}
use Rattle.il_verify.proofs.SizeLemmas.{next-by, some-opcode}
use Rattle.il_verify.proofs.plan.starts_of.Goals as goal

pub loop-place-init : goal.loop-place-init
loop-place-init c =
    let items : c.in_ok-starts.starts.items ≡ replicate (length c.args.code.now) false =
    c.in_ok-starts.ensures.items_if_clones_equal (λ y e. e) in
    record {
      size = omega (arith, c.in_ok-starts.ensures.len);
      number = (0, refl);
      marks = subst (MarksBelow c.args.code.now 0) (sym items)
          (marks-none c.args.code.now (length c.args.code.now));
    }

pub unreachable-requires : goal.unreachable-requires
unreachable-requires c =
    let i = c.loop-place.invariant in
    let there =
    is_there c.args.code.now c.requires i.number.0 c.loop-place.place i.number.1
    c.loop-place-test.true in
    some-opcode c.args.code.now c.loop-place.place 0 there (λ k. (c.type_inv.code k).fits)
    (sym c.of.ensures ∙ c.in-None.is)

pub loop-place-preserved : goal.loop-place-preserved
loop-place-preserved c =
    let i = c.loop-place.invariant in
    let there =
    is_there c.args.code.now c.requires i.number.0 c.loop-place.place i.number.1
    c.loop-place-test.true in
    let next = c.loop-place.place + c.size_of-place.result in
    let here =
    next-by c.args.code.now c.loop-place.place 0 c.in-Some.opcode c.size_of-place.result there
    (λ k. (c.type_inv.code k).fits) (sym c.of.ensures ∙ c.in-Some.is)
    c.size_of-place.ensures.value in
    record {
      size = search rules;
      number = (
        suc i.number.0,
        place-behind c.args.code.now i.number.0 c.loop-place.place there.instr
            next i.number.1 here,
      );
      marks = marks-more c.args.code.now i.number.0 c.loop-place.place c.loop-place.starts.items
          there.instr next i.number.1 c.loop-place-test.true i.size here i.marks;
    }

pub returns-clause-marks : goal.returns-clause-marks
returns-clause-marks c =
    marks-all c.args.code.now c.loop-place.place c.loop-place.starts.items c.loop-place-test.false
    c.loop-place.invariant.marks
