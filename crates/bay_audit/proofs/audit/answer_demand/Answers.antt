use Rattle.std.proofs.Common.{◌≡◌, ◌++◌, ◌∷◌, [], length, sym, ap, ◌∙◌, subst}
use Rattle.std.specs.List.{All}
use Rattle.std.proofs.lemmas.Bool.{eqb-true}
use Rattle.std.proofs.lemmas.List.{append-nil, nil_from_length}
use Rattle.bay_audit.specs.Rules.{HasProcess, IsMetOutside, IsVerdict}
use Rattle.bay_audit.proofs.audit.answer_demand.Goals as goal
use Rattle.bay_audit.proofs.audit.answer_demand.Goals.{in-Obeyed, in-Split+in_ok-split-in-Split, else-loop-test, then-loop-test+in_default}
use Rattle.bay_audit.proofs.SearchLemmas.{first-full, full-last, full-more, left-first, left-none, left-parts, left-without}

pub loop-init : goal.loop-init
loop-init c =
    let one = sym c.in_ok-left.ensures in (
      subst (IsMetOutside c.args.program.now c.args.demand.now) one
          (left-first c.args.program.now c.args.demand.now),
      subst (All HasProcess) one first-full,
    )

pub loop-preserved : goal.loop-preserved
loop-preserved c =
    let g = c.args.program.now in
    let d = c.args.demand.now in
    let left : IsMetOutside g d (c.pop.new.self.items ++ c.in-Some.case ∷ []) =
    subst (IsMetOutside g d) c.in-Some.ensures.items c.loop.invariant.0 in
    let full = full-last c.pop.new.self.items c.in-Some.case
    (subst (All HasProcess) c.in-Some.ensures.items c.loop.invariant.1) in
    elim c.match-branch-3.branch [
      | in-Obeyed w ↦
          let is = sym (ap (λ v. v.items) w.left-is) in (
            subst (IsMetOutside g d) is
                (left-without g d c.pop.new.self.items c.in-Some.case left
                (subst (IsVerdict g d c.in-Some.case) w.in-Obeyed.is c.in_ok-find_verdict.ensures)),
            subst (All HasProcess) is full.0,
          )
      | in-Split+in_ok-split-in-Split w ↦
          let is = sym (ap (λ v. v.items) w.left-is ∙ w.in_ok-split-in-Split.ensures) in (
            subst (IsMetOutside g d) is
                (left-parts g d c.pop.new.self.items c.in-Some.case w.in-Split.test left),
            subst (All HasProcess) is
                (full-more c.pop.new.self.items c.in-Some.case w.in-Split.test full.0),
          )
    ]

pub returns-then-is_empty : goal.returns-then-is_empty
returns-then-is_empty c =
    let g = c.args.program.now in
    let none : c.loop-test.left.items ≡ [] =
    nil_from_length c.loop-test.left.items
    (ap length (sym c.as_slice.ensures.value)
    ∙ eqb-true (length c.as_slice.result.now) 0 (sym c.if-is_empty.ensures)) in
    elim c.loop-test.branch [
      | else-loop-test w ↦
          left-none g c.args.demand.now c.loop.left.items (sym (ap (λ v. v.items) w.left-is) ∙ none)
          c.loop.invariant.0
      | then-loop-test+in_default w ↦
          left-none g c.args.demand.now c.loop.left.items
          (w.in_default.ensures.items ∙ append-nil w.pop.new.self.items
          ∙ sym (ap (λ v. v.items) w.left-is) ∙ none) c.loop.invariant.0
    ]

pub returns-in-Broken : goal.returns-in-Broken
returns-in-Broken c = (
  subst (IsVerdict c.args.program.now c.args.demand.now c.in-Some.case) c.in-Broken.is
      c.in_ok-find_verdict.ensures,
  (full-last c.pop.new.self.items c.in-Some.case
      (subst (All HasProcess) c.in-Some.ensures.items c.loop.invariant.1)).1,
)

pub returns-in-Open : goal.returns-in-Open
returns-in-Open c =
    (full-last c.pop.new.self.items c.in-Some.case
    (subst (All HasProcess) c.in-Some.ensures.items c.loop.invariant.1)).1
