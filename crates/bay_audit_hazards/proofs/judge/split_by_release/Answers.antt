use Rattle.std.proofs.Common.{◌≡◌, ◌-◌, ◌++◌, ◌∙◌, [], List, ap, sym, subst, take}
use Rattle.bay_audit.specs.declared.answer.ReportedCase.{ReportedCase}
use Rattle.bay_audit_hazards.proofs.ReleaseLemmas.{ArePartedSo, parted-all, parted-hanging, parted-refused, parted-released}
use Rattle.bay_audit_hazards.proofs.judge.split_by_release.Goals as goal

pub loop-reported-preserved-in_ok-push-in-Released-2 :
    goal.loop-reported-preserved-in_ok-push-in-Released-2
loop-reported-preserved-in_ok-push-in-Released-2 c =
    let first = c.args.cases.items in
    let so = subst (λ cs. ArePartedSo first cs c.loop-reported.released.items
    c.loop-reported.undecided.items) c.in-Some.ensures.items c.loop-reported.invariant in
    subst (λ rs. ArePartedSo first c.pop.new.self.items rs c.loop-reported.undecided.items)
    (sym c.in_ok-push-in-Released.ensures.items)
    (parted-released first c.pop.new.self.items c.in-Some.reported c.loop-reported.released.items
    c.loop-reported.undecided.items so c.in-Released.is)

pub loop-reported-preserved-in-Refused-2 : goal.loop-reported-preserved-in-Refused-2
loop-reported-preserved-in-Refused-2 c =
    let first = c.args.cases.items in
    let so = subst (λ cs. ArePartedSo first cs c.loop-reported.released.items
    c.loop-reported.undecided.items) c.in-Some.ensures.items c.loop-reported.invariant in
    parted-refused first c.pop.new.self.items c.in-Some.reported c.loop-reported.released.items
    c.loop-reported.undecided.items so c.in-Refused.is

pub loop-reported-preserved-in_ok-push-in-Depends
    : goal.loop-reported-preserved-in_ok-push-in-Depends
loop-reported-preserved-in_ok-push-in-Depends c =
    let first = c.args.cases.items in
    let so = subst (λ cs. ArePartedSo first cs c.loop-reported.released.items
    c.loop-reported.undecided.items) c.in-Some.ensures.items c.loop-reported.invariant in
    subst (λ hs. ArePartedSo first c.pop.new.self.items c.loop-reported.released.items hs)
    (sym c.in_ok-push-in-Depends.ensures.items)
    (parted-hanging first c.pop.new.self.items c.in-Some.reported c.loop-reported.released.items
    c.loop-reported.undecided.items so)

pub returns : goal.returns
returns c =
    let first = c.args.cases.items in
    let rest : c.pop.new.self.items ≡ [] =
    c.in_default.ensures.rest
    ∙ ap (λ n. take (n - 1) c.loop-reported.cases.items) c.in_default.ensures.cases.0 in
    let none : c.loop-reported.cases.items ≡ [] =
    c.in_default.ensures.items ∙ ap (λ (cs : List ReportedCase). cs ++ []) rest in
    parted-all first c.loop-reported.released.items c.loop-reported.undecided.items
    (subst (λ cs. ArePartedSo first cs c.loop-reported.released.items
    c.loop-reported.undecided.items) none c.loop-reported.invariant)
