use Rattle.std.proofs.Common.{subst}
use Rattle.bay_audit_hazards.specs.Parts.{IsSweep}
use Rattle.bay_audit_hazards.proofs.ReleaseLemmas.{free-harmless, part-released}
use Rattle.bay_audit_hazards.proofs.judge.judge_within.Goals as goal

pub returns-in-Hazard-clause-right : goal.returns-in-Hazard-clause-right
returns-in-Hazard-clause-right c =
    let net = c.args.network.now in
    let r = c.args.release in
    let released = c.in_ok-released.released.items in
    let found = subst (IsSweep net r.switch r.operation released) c.in-Hazard.is
    c.in_ok-cases.ensures.right in (
      found.0,
      part-released c.args.bay.now c.args.program.now net r c.requires released
          c.in_ok-released.undecided.items c.in_ok-released.ensures c.in-Hazard.case found.1,
    )

pub returns-in-Harmless-3-clause-right : goal.returns-in-Harmless-3-clause-right
returns-in-Harmless-3-clause-right c =
    let net = c.args.network.now in
    let r = c.args.release in
    let released = c.in_ok-released.released.items in
    let undecided = c.in_ok-released.undecided.items in
    free-harmless c.args.bay.now c.args.program.now net r c.requires released undecided
    c.in_ok-released.ensures
    (subst (IsSweep net r.switch r.operation released) c.in-Harmless.is c.in_ok-cases.ensures.right)
    (subst (IsSweep net r.switch r.operation undecided) c.in-Harmless-2.is
    c.in_ok-cases-2.ensures.right)
    (subst (IsSweep net r.switch r.operation r.left.items) c.in-Harmless-3.is
    c.in_ok-cases-3.ensures.right)
