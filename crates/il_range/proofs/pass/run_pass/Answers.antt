use Rattle.std.proofs.Common.{◌≡◌, ◌<◌, ℕ, length, reverse, arith, ap, subst}
use Rattle.il_range.specs.Pending.{known_view}
use Rattle.il_range.proofs.PassLemmas.{Follows, follows-end, follows-first, follows-next}
use Rattle.il_range.proofs.pass.run_pass.Goals as goal

pub loop-offset-init : goal.loop-offset-init
loop-offset-init c = record {
  size = omega (arith, c.arrive.ensures.size, c.in_ok-pending.ensures);
  follows = λ w given after h e t.
      follows-first c.args.code.now w given after (known_view c.args.first)
      c.in_ok-pending.pending.items
      c.arrive.new.pending.items (ap reverse c.requires) h c.in_ok-arrive.ensures.ok e t;
}

pub loop-offset-preserved : goal.loop-offset-preserved
loop-offset-preserved c = record {
  size = omega (arith, c.visit.ensures.size, c.loop-offset.invariant.size);
  follows = λ w given after h e t.
      let less : c.loop-offset.offset < length c.args.code.now = omega arith in
      follows-next c.args.code.now w e.now c.loop-offset.offset after e.timers_after
      c.loop-offset.pending.items
      c.visit.new.pending.items less c.in_ok-visit.ensures.ok
      (c.loop-offset.invariant.follows w given after h e t);
}

pub returns-in-Some : goal.returns-in-Some
returns-in-Some c w given after h e t =
    let code = c.args.code.now in
    let past : c.loop-offset.offset ≡ length code = omega arith in
    follows-end code w e.now after e.timers_after c.loop-offset.pending.items c.in-Some.end
    c.in-Some.ensures.value
    (subst (λ (n : ℕ). Follows code w e.now after e.timers_after n c.loop-offset.pending.items) past
    (c.loop-offset.invariant.follows w given after h e t))
