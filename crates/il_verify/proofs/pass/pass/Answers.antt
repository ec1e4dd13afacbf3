use Rattle.std.proofs.Common.{◌≡◌, ℕ, ◌+◌, ◌<◌, ◌≤◌, max, List, length, reverse, refl, sym, ap, subst, ◌∙◌, arith, Option, Some, None}
use Rattle.std.specs.Prelude.{option_map}
use Rattle.std.proofs.lemmas.List.{length-reverse}
use Rattle.il_image.specs.Reading.{instr_at}
use Rattle.il_image.specs.Machine.{most_cells}
use Rattle.il_verify.specs.declared.frame.Frame.{Frame}
use Rattle.il_verify.specs.Frames.{with_value_at, plain_frame, plain_frames}
use Rattle.il_verify.specs.Passing.{raised_budget}
use Rattle.il_verify.proofs.MapLemmas.{beside-here}
use Rattle.il_verify.proofs.OrderLemmas.{always-there}
use Rattle.il_verify.proofs.PassLemmas.{Passing, begins, fails-over, fails-unreached, goes-over, here-short, measured}
use Rattle.il_verify.proofs.pass.pass.Goals as goal

pub loop-place-init : goal.loop-place-init
loop-place-init c = record {
  passing =
      begins c.args.image.now (plain_frame (record { kinds = c.new.result; longest = 1 }))
      (plain_frames c.args.pending.items) c.requires.some (ap reverse c.new.ensures) refl
      c.requires.none;
  room = c.requires.room;
}

pub returns-in_default-clause-err : goal.returns-in_default-clause-err
returns-in_default-clause-err c =
    let image = c.args.image.now in
    let place = c.loop-place.place in
    let frames =
    with_value_at place (option_map plain_frame c.loop-place.frame)
    (plain_frames c.loop-place.pending.items) in
    let less : place < length image.code =
    subst (λ (code : List ℕ). place < length code) c.code-code.ensures.value
    c.loop-place-test.true in
    let none : frames place ≡ None =
    beside-here place place (option_map plain_frame c.loop-place.frame)
    (plain_frames c.loop-place.pending.items) refl
    ∙ ap (option_map plain_frame) c.in_default.is in
    fails-unreached image place c.loop-place.budget c.loop-place.depth frames
    c.loop-place.invariant.passing less none

pub unreachable-requires : goal.unreachable-requires
unreachable-requires c =
    let image = c.args.image.now in
    let i = c.loop-place.invariant.passing in
    let place = c.loop-place.place in
    let less : place < length image.code =
    subst (λ (code : List ℕ). place < length code) c.code-code.ensures.value
    c.loop-place-test.true in
    let none : instr_at image.code place ≡ None =
    subst (λ (code : List ℕ). instr_at code place ≡ None) c.code-code.ensures.value
    (sym c.instr_at.ensures.value ∙ c.in_default-instr_at.is) in
    always-there image.code c.requires.format.code i.number place i.numbered less none

pub overflow_cast-len : goal.overflow_cast-len
overflow_cast-len c =
    let image = c.args.image.now in
    let place = c.loop-place.place in
    let come = plain_frame c.in-Some.here in
    let frames =
    with_value_at place (option_map plain_frame c.loop-place.frame)
    (plain_frames c.loop-place.pending.items) in
    let is : frames place ≡ Some come =
    beside-here place place (option_map plain_frame c.loop-place.frame)
    (plain_frames c.loop-place.pending.items) refl ∙ ap (option_map plain_frame) c.in-Some.is in
    let short : length come.kinds ≤ most_cells =
    (here-short image place c.loop-place.budget c.loop-place.depth frames come
    c.loop-place.invariant.passing is).1 in
    let size : length come.kinds ≡ length c.in-Some.here.kinds.items =
    length-reverse c.in-Some.here.kinds.items in
    let its = c.len.ensures in
    omega arith

pub visit-requires-clause-few : goal.visit-requires-clause-few
visit-requires-clause-few c =
    let image = c.args.image.now in
    let place = c.loop-place.place in
    let come = plain_frame c.in-Some.here in
    let frames =
    with_value_at place (option_map plain_frame c.loop-place.frame)
    (plain_frames c.loop-place.pending.items) in
    let is : frames place ≡ Some come =
    beside-here place place (option_map plain_frame c.loop-place.frame)
    (plain_frames c.loop-place.pending.items) refl ∙ ap (option_map plain_frame) c.in-Some.is in
    let short : length come.kinds ≤ most_cells =
    (here-short image place c.loop-place.budget c.loop-place.depth frames come
    c.loop-place.invariant.passing is).1 in
    let size : length come.kinds ≡ length c.in-Some.here.kinds.items =
    length-reverse c.in-Some.here.kinds.items in
    omega arith

pub visit-requires-clause-short : goal.visit-requires-clause-short
visit-requires-clause-short c =
    let image = c.args.image.now in
    let place = c.loop-place.place in
    let come = plain_frame c.in-Some.here in
    let frames =
    with_value_at place (option_map plain_frame c.loop-place.frame)
    (plain_frames c.loop-place.pending.items) in
    let is : frames place ≡ Some come =
    beside-here place place (option_map plain_frame c.loop-place.frame)
    (plain_frames c.loop-place.pending.items) refl ∙ ap (option_map plain_frame) c.in-Some.is in
    let short : come.longest ≤ place + 1 =
    (here-short image place c.loop-place.budget c.loop-place.depth frames come
    c.loop-place.invariant.passing is).0 in
    let less : place < length image.code =
    subst (λ (code : List ℕ). place < length code) c.code-code.ensures.value
    c.loop-place-test.true in
    let size = c.requires.format.size in
    omega arith

pub returns-in-Err-clause-err : goal.returns-in-Err-clause-err
returns-in-Err-clause-err c =
    let image = c.args.image.now in
    let place = c.loop-place.place in
    let come = plain_frame c.in-Some.here in
    let old = plain_frames c.loop-place.pending.items in
    let less : place < length image.code =
    subst (λ (code : List ℕ). place < length code) c.code-code.ensures.value
    c.loop-place-test.true in
    let here =
    subst (λ (code : List ℕ). instr_at code place
    ≡ Some (c.in-Some-instr_at.instr, c.in-Some-instr_at.next)) c.code-code.ensures.value
    (sym c.in-Some-instr_at.ensures.value) in
    let p = subst (λ (o : Option Frame). Passing image place c.loop-place.budget c.loop-place.depth
    (with_value_at place (option_map plain_frame o) old)) c.in-Some.is
    c.loop-place.invariant.passing in
    fails-over image place c.in-Some-instr_at.instr c.in-Some-instr_at.next come old
    c.loop-place.budget c.loop-place.depth c.in-Err.fault here less c.in-Err.ensures.err p

pub loop-place-preserved : goal.loop-place-preserved
loop-place-preserved c =
    let image = c.args.image.now in
    let place = c.loop-place.place in
    let next = c.in-Some-instr_at.next in
    let come = plain_frame c.in-Some.here in
    let old = plain_frames c.loop-place.pending.items in
    let new = plain_frames c.visit.new.pending.items in
    let behind = option_map plain_frame c.in-Ok.behind in
    let here =
    subst (λ (code : List ℕ). instr_at code place ≡ Some (c.in-Some-instr_at.instr, next))
    c.code-code.ensures.value (sym c.in-Some-instr_at.ensures.value) in
    let p = subst (λ (o : Option Frame). Passing image place c.loop-place.budget c.loop-place.depth
    (with_value_at place (option_map plain_frame o) old)) c.in-Some.is
    c.loop-place.invariant.passing in
    let goes =
    goes-over image place c.in-Some-instr_at.instr next come behind old new c.loop-place.budget
    c.loop-place.depth c.is_halt.result here c.is_halt.ensures c.in-Ok.ensures.ok p in
    let size : length come.kinds ≡ length c.in-Some.here.kinds.items =
    length-reverse c.in-Some.here.kinds.items in
    let its = c.len.ensures in
    let count : c.len.result ≡ length come.kinds = omega arith in
    let depth : c.max-depth.result ≡ max (length come.kinds) c.loop-place.depth =
    c.max-depth.ensures ∙ ap (λ (n : ℕ). max n c.loop-place.depth) count in
    record {
      passing =
          subst (λ (n : ℕ). Passing image next n c.max-depth.result (with_value_at next behind new))
          (sym c.raise_budget-budget.ensures)
          (subst (λ (n : ℕ). Passing image next
          (raised_budget c.is_halt.result come.longest c.loop-place.budget)
          n (with_value_at next behind new)) (sym depth) goes);
      room = omega (arith, c.loop-place.invariant.room, c.in-Ok.ensures.size);
    }

pub returns-clause-ok : goal.returns-clause-ok
returns-clause-ok c =
    let image = c.args.image.now in
    let frames =
    with_value_at c.loop-place.place (option_map plain_frame c.loop-place.frame)
    (plain_frames c.loop-place.pending.items) in
    let past : length image.code ≤ c.loop-place.place =
    subst (λ (code : List ℕ). length code ≤ c.loop-place.place) c.code-code.ensures.value
    c.loop-place-test.false in
    measured image c.loop-place.place c.loop-place.budget c.loop-place.depth frames
    c.loop-place.invariant.passing past c.requires.some
