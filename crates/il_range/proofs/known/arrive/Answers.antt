use Rattle.std.proofs.Common.{◌≡◌, ◌<◌, Option, Some, slice_get, length, arith, sym, subst, ap, ◌∙◌}
use Rattle.std.proofs.lemmas.Option.{slice_get-get_or}
use Rattle.il_range.specs.declared.known.Known.{Known}
use Rattle.il_range.specs.Pending.{IsCoveredBy, known_view}
use Rattle.il_range.proofs.PendingLemmas.{arrived, under-left, under-right}
use Rattle.il_range.proofs.known.arrive.Goals as goal
use Rattle.il_range.proofs.known.arrive.Goals.{in-None, in-Some+in_ok-come-in-Some}

pub returns-clause-ok : goal.returns-clause-ok
returns-clause-ok c =
    let old = c.args.pending.now.items in
    let o = c.index_mut.result.now in
    let less : c.args.place < length old = omega arith in
    let was : slice_get old c.args.place ≡ Some o =
    slice_get-get_or old c.args.place o less
    ∙ ap (λ (x : Option Known). Some x) (sym c.index_mut.ensures.value) in
    elim c.match-take.branch [
      | in-None w ↦
          arrived old c.args.place o c.take.new.self c.match-take.come c.args.known less was
          (subst (λ (s : Known). IsCoveredBy (known_view c.args.known) (known_view s))
          (sym w.come-is)
          (λ h c. c))
          (λ s is. absurd (let none = w.in-None.is in let value = c.take.ensures.value in cc))
      | in-Some+in_ok-come-in-Some w ↦
          arrived old c.args.place o c.take.new.self c.match-take.come c.args.known less was
          (subst (λ (s : Known). IsCoveredBy (known_view c.args.known) (known_view s))
          (sym w.come-is)
          (under-right w.in-Some.other c.args.known _ w.in_ok-come-in-Some.ensures))
          (λ s is. let some = w.in-Some.is in let value = c.take.ensures.value in
          let same : w.in-Some.other ≡ s = cc in
          subst (λ (t : Known). IsCoveredBy (known_view t) (known_view c.match-take.come)) same
          (subst (λ (t : Known). IsCoveredBy (known_view w.in-Some.other) (known_view t))
          (sym w.come-is)
          (under-left w.in-Some.other c.args.known _ w.in_ok-come-in-Some.ensures)))
    ]
