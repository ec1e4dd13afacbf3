use Rattle.std.proofs.Common.{◌≡◌, ◌<◌, ◌≤◌, map, length-set, refl, subst, ◌∙◌, arith}
use Rattle.std.proofs.lemmas.List.{get_or-set_other}
use Rattle.std.proofs.lemmas.List.Edits.{fill_by_more}
use Rattle.std.proofs.lemmas.List.FromFn.{fill_by_all}
use Rattle.std.specs.List.{range_with_len}
use Rattle.bay_server.specs.ChangeLines.{switch_view_at}
use Rattle.bay_server.proofs.ChangeLemmas.{below-both, by-end, no-view-in, no_view}
use Rattle.bay_server.proofs.change_lines.view_bay.Goals as goal

pub loop-switch-init : goal.loop-switch-init
loop-switch-init c = (refl, λ k lt. absurd (omega (arith, lt)), λ k past. no-view-in 32 k)

pub loop-switch-preserved : goal.loop-switch-preserved
loop-switch-preserved c =
    let sized = c.loop-switch.invariant.0 in
    let below = below-both c.loop-switch.switch c.switch_count-count.result 32
    (subst (λ n. c.loop-switch.switch < n) c.min-switch-end.ensures c.loop-switch-test.true) in
    rw c.view_switch.ensures (
      simp length-set sized,
      fill_by_more (switch_view_at c.args.device.now) c.loop-switch.switches c.loop-switch.switch
          no_view
          (omega (arith, sized, below)) c.loop-switch.invariant.1,
      λ k past. get_or-set_other c.loop-switch.switches c.loop-switch.switch k _ no_view
          (λ same. omega (arith, past, below, same)) ∙ c.loop-switch.invariant.2 k past,
    )

pub returns : goal.returns
returns c =
    let seen : c.loop-switch.switches
    ≡ map (switch_view_at c.args.device.now) (range_with_len 0 32) =
    fill_by_all (switch_view_at c.args.device.now) c.loop-switch.switches 32 no_view
    c.loop-switch.invariant.0
    (λ k lt. by-end c.args.device.now c.loop-switch.switches k c.switch_count-count.result
    c.loop-switch.switch c.switch_count-count.ensures lt
    (subst (λ n. n ≤ c.loop-switch.switch) c.min-switch-end.ensures c.loop-switch-test.false)
    c.loop-switch.invariant.1 c.loop-switch.invariant.2) in
    rw (seen, c.switch_count-count.ensures, c.operating.ensures) refl
