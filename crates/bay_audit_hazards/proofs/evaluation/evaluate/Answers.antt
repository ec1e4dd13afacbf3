use Rattle.std.proofs.Common.{◌≡◌, ◌∙◌, true, sym}
use Rattle.bay_audit.specs.Cases.{example_of, is_in}
use Rattle.bay_audit_hazards.proofs.CaseLemmas.{each-hazard, no-process, none-hazard, sure-hazard}
use Rattle.bay_audit_hazards.proofs.evaluation.evaluate.Goals as goal

pub returns-then-not-has_example-clause-right : goal.returns-then-not-has_example-clause-right
returns-then-not-has_example-clause-right c =
    no-process c.args.case.now
    (sym c.has_example.ensures ∙ c.if-not-has_example.true)

pub returns-then-not-is_hazard-clause-right : goal.returns-then-not-is_hazard-clause-right
returns-then-not-is_hazard-clause-right c =
    none-hazard c.args.bay.now c.args.network.now c.args.switch c.args.operation c.args.case.now
    c.in_ok-worst.worst
    c.in_ok-worst.ensures
    (sym c.is_hazard.ensures ∙ c.if-not-is_hazard.true)

pub returns-then-is_hazard-clause-right : goal.returns-then-is_hazard-clause-right
returns-then-is_hazard-clause-right c =
    let there : is_in c.args.case.now (example_of c.args.case.now) ≡ true =
    sym c.has_example.ensures ∙ c.if-not-has_example.false in
    each-hazard c.args.bay.now c.args.network.now c.args.switch c.args.operation c.args.case.now
    c.in_ok-best.best
    c.in_ok-best.ensures (sym c.is_hazard-2.ensures ∙ c.if-is_hazard.true) there

pub returns-then-is_hazard-clause-sure : goal.returns-then-is_hazard-clause-sure
returns-then-is_hazard-clause-sure c =
    sure-hazard c.args.bay.now c.args.network.now c.args.switch c.args.operation c.args.case.now
    c.in_ok-best.best c.in_ok-best.ensures (sym c.is_hazard-2.ensures ∙ c.if-is_hazard.true)
