use Rattle.std.proofs.Common.{rules, ap, is_ok, refl, arith}
use Rattle.bay_io.proofs.AskedLemmas.{AskedFew-none}
use Rattle.bay_io.proofs.ReadLemmas.{HasAsked-start, HasAsked-step, HasRead-end, HasRead-few, HasRead-over, ReadsAll-end, ReadsAll-failed, ReadsAll-memory, ReadsAll-over}
use Rattle.bay_io.proofs.input.read_all.Goals as goal

pub returns-in-Ok-kept-clause-ok : goal.returns-in-Ok-kept-clause-ok
returns-in-Ok-kept-clause-ok g c =
    let e = c.in-Ok-eq0.ensures in
    HasRead-end c.loop-turn.invariant.calls_made _ _ _ _ _ _ e.call e.failed e.bytes.0
    c.in-Ok-eq0.field-0-test (e.bytes.1 c.in-Ok-eq0.field-0-test (omega arith))
    (ap is_ok c.in-Ok-kept.is)

pub returns-in-Err-kept-clause-memory : goal.returns-in-Err-kept-clause-memory
returns-in-Err-kept-clause-memory g c =
    let e = c.in-Ok-eq0.ensures in
    λ _. HasRead-few c.loop-turn.invariant.calls_made _ _ _ _ _ _ e.call e.failed e.bytes.0
    c.in-Ok-eq0.field-0-test c.args.limit
    (e.bytes.1 c.in-Ok-eq0.field-0-test (omega arith)) c.loop-turn.invariant.within

pub returns-then-limit-count-clause-too_long : goal.returns-then-limit-count-clause-too_long
returns-then-limit-count-clause-too_long g c =
    let e = c.in-Ok.ensures in
    λ _. HasRead-over c.loop-turn.invariant.calls_made _ _ _ _ _ _ e.call e.failed e.bytes.0
    c.args.limit
    (omega arith) (omega arith)

pub loop-turn-preserved : goal.loop-turn-preserved
loop-turn-preserved g c =
    let e = c.in-Ok.ensures in
    record {
      within = omega arith;
      at_least = omega arith;
      calls_made =
          HasAsked-step c.loop-turn.invariant.calls_made _ _ _ _ _ _ e.call e.failed e.bytes.0
          (is_ok c.append_octets-kept.result) _ (omega arith) c.append_octets-kept.ensures;
      quiet = rw c.loop-turn.invariant.quiet at e.failed;
      sized = omega arith;
    }

pub returns-then-has_failed-clause-calls_made : goal.returns-then-has_failed-clause-calls_made
returns-then-has_failed-clause-calls_made g c =
    record { calls_made = AskedFew-none _ _ _; gave = tt }

pub loop-turn-init : goal.loop-turn-init
loop-turn-init g c = record {
  within = omega arith;
  at_least = omega arith;
  calls_made = rw c.new-all.ensures.items (HasAsked-start _ _ _);
  quiet = search rules;
  sized = refl;
}

pub returns-in-Ok-kept-clause-calls_made : goal.returns-in-Ok-kept-clause-calls_made
returns-in-Ok-kept-clause-calls_made g c =
    let e = c.in-Ok-eq0.ensures in
    ReadsAll-end c.loop-turn.invariant.calls_made _ _ _ _ _ _ e.call e.failed e.bytes.0
    c.in-Ok-eq0.field-0-test _ c.args.limit _ (omega arith) (omega arith) refl
    (ap is_ok c.in-Ok-kept.is)

pub returns-in-Err-kept-clause-calls_made : goal.returns-in-Err-kept-clause-calls_made
returns-in-Err-kept-clause-calls_made g c =
    let e = c.in-Ok-eq0.ensures in
    ReadsAll-memory c.loop-turn.invariant.calls_made _ _ _ _ _ _ e.call e.failed e.bytes.0
    c.in-Ok-eq0.field-0-test _ c.args.limit (omega arith) (omega arith)
    c.loop-turn.invariant.within

pub returns-then-limit-count-clause-calls_made : goal.returns-then-limit-count-clause-calls_made
returns-then-limit-count-clause-calls_made g c =
    let e = c.in-Ok.ensures in
    ReadsAll-over c.loop-turn.invariant.calls_made _ _ _ _ _ _ e.call e.failed e.bytes.0 _
    c.args.limit
    (omega arith) (omega arith) (omega arith)

pub returns-in-Err-clause-calls_made : goal.returns-in-Err-clause-calls_made
returns-in-Err-clause-calls_made g c =
    let e = c.in-Err.ensures in
    ReadsAll-failed c.loop-turn.invariant.calls_made _ c.args.limit _ _ _ (omega arith) e.call
    e.failed
