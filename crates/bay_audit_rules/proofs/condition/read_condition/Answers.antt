use Rattle.std.proofs.Common.{◌∙◌, refl}
use Rattle.bay_audit_rules.specs.Running.{state, condition_at}
use Rattle.bay_audit_rules.specs.Advances.{phase_of}
use Rattle.bay_audit_rules.proofs.ConditionLemmas.{turn-on, turn-stop, turn-refuse}
use Rattle.bay_audit_rules.proofs.condition.read_condition.Goals as goal

pub loop-token-init : goal.loop-token-init
unfolding condition_at
loop-token-init c = rw (c.new-stack.ensures, c.requires) refl

pub loop-token-preserved : goal.loop-token-preserved
loop-token-preserved c =
    c.loop-token.invariant
    ∙ turn-on (phase_of c.loop-token.expects) c.in-On.next (state c.loop-token.stack
    c.loop-token.draft)
    (state c.read_token.new.stack c.read_token.new.draft) c.in-Some.token.now c.loop-token.rest.now
    c.in-Some.others.now c.in-On.behind c.in-Some.ensures.cases.0
    (rw c.in-On.is at c.in_ok-next.ensures)

pub returns-in-Stop : goal.returns-in-Stop
returns-in-Stop c =
    let is =
    c.loop-token.invariant
    ∙ turn-stop (phase_of c.loop-token.expects) (state c.loop-token.stack c.loop-token.draft)
    (state c.read_token.new.stack c.read_token.new.draft) c.in-Some.token.now c.loop-token.rest.now
    c.in-Some.others.now c.in-Some.ensures.cases.0 (rw c.in-Stop.is at c.in_ok-next.ensures) in
    rw is c.end_condition.ensures

pub returns-in-Refuse : goal.returns-in-Refuse
returns-in-Refuse c =
    c.loop-token.invariant
    ∙ turn-refuse (phase_of c.loop-token.expects) (state c.loop-token.stack c.loop-token.draft)
    (state c.read_token.new.stack c.read_token.new.draft) c.in-Some.token.now c.loop-token.rest.now
    c.in-Some.others.now c.in-Some.ensures.cases.0 (rw c.in-Refuse.is at c.in_ok-next.ensures)
