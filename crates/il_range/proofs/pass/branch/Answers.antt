use Rattle.std.proofs.Common.{◌+◌, OnOk, sym, subst, arith}
use Rattle.std.proofs.lemmas.Result.{on_ok_weaker}
use Rattle.il_range.specs.Effects.{KnownData}
use Rattle.il_range.specs.Pending.{JoinsKnown, Branches, known_view}
use Rattle.il_range.specs.declared.range.Range.{Range}
use Rattle.il_range.proofs.PendingLemmas.{branches-both, branches-no, branches-yes}
use Rattle.il_range.proofs.pass.branch.Goals as goal

pub returns-in-Yes-clause-ok : goal.returns-in-Yes-clause-ok
returns-in-Yes-clause-ok c =
    let come = known_view c.args.here in
    let old = c.args.pending.now.items in
    let new = c.jump_past.new.pending.items in
    subst (λ (jumps : Range). OnOk c.jump_past.result
    (Branches jumps c.args.distance c.args.next come old new)) (sym c.in-Yes.is)
    (on_ok_weaker c.jump_past.result (branches-yes c.args.distance c.args.next come old new)
    c.jump_past.ensures.ok)

pub returns-in-No-clause-ok : goal.returns-in-No-clause-ok
returns-in-No-clause-ok c =
    let come = known_view c.args.here in
    let old = c.args.pending.now.items in
    let new = c.arrive.new.pending.items in
    subst (λ (jumps : Range). OnOk c.arrive.result
    (Branches jumps c.args.distance c.args.next come old new)) (sym c.in-No.is)
    (on_ok_weaker c.arrive.result (branches-no c.args.distance c.args.next come old new)
    c.arrive.ensures.ok)

pub returns-in_ok-jump_past-in_default : goal.returns-in_ok-jump_past-in_default
returns-in_ok-jump_past-in_default c =
    let come = known_view c.args.here in
    let old = c.args.pending.now.items in
    let mid = c.jump_past-in_default.new.pending.items in
    let new = c.arrive-in_default.new.pending.items in
    record {
      size = omega (arith, c.arrive-in_default.ensures.size, c.jump_past-in_default.ensures.size);
      ok = on_ok_weaker c.arrive-in_default.result
          (branches-both c.args.jumps c.args.distance c.args.next come old mid new
          (subst (λ (p : KnownData). JoinsKnown old mid (c.args.next + c.args.distance) p)
          c.in_ok-other-in_default.ensures c.in_ok-jump_past-in_default.ensures.ok))
          c.arrive-in_default.ensures.ok;
    }
