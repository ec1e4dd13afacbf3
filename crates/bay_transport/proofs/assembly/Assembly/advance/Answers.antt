use Rattle.std.proofs.Common.{◌≡◌, ◌-◌, ◌∷◌, [], length, drop, ◌∙◌, arith}
use Rattle.std.proofs.lemmas.List.{length-drop, take_rest}
use Rattle.std.proofs.lemmas.Result.{err_from_is_err_and}
use Rattle.bay_transport.specs.declared.fed.Got.TheVariants.{More}
use Rattle.bay_transport.specs.Doings.{Fails, run_of}
use Rattle.bay_transport.specs.Assembly.{stream_state_of, FaultImplies, StepConsumes}
use Rattle.bay_transport.proofs.AssemblyLemmas.{quiet-more, reaches-kind, refuses-later}
use Rattle.bay_transport.proofs.assembly.Assembly.advance.Goals as goal

pub returns-in_err-taken-clause-err : goal.returns-in_err-taken-clause-err
returns-in_err-taken-clause-err c =
    let p = err_from_is_err_and c.from_residual.result c.from_residual.ensures.1 in
    let r : FaultImplies c.in_err-taken.field-0.0
    ((run_of c.loop-used.self.number (stream_state_of c.loop-used.self)
    (drop c.loop-used.used c.args.piece.now)).doings ≡ Fails c.in_err-taken.field-0.0 ∷ []) =
    rw (take_rest c.args.piece.now c.loop-used.used) at c.in_err-taken.ensures.err in
    rw (p.1, p.2) (refuses-later c.args.self.now c.loop-used.self c.args.piece.now c.loop-used.used
    c.in_err-taken.field-0.0 c.loop-used.invariant.2 c.loop-used.invariant.3 r)

pub loop-used-preserved : goal.loop-used-preserved
loop-used-preserved c =
    let t : StepConsumes c.loop-used.self (drop c.loop-used.used c.args.piece.now)
    c.in_ok-taken.taken More
    c.step.new.self =
    rw (c.in-More.is, take_rest c.args.piece.now c.loop-used.used) at c.in_ok-taken.ensures.ok
    in
    let w = t.within in
    let n : length (drop c.loop-used.used c.args.piece.now)
    ≡ length c.args.piece.now - c.loop-used.used =
    length-drop c.loop-used.used c.args.piece.now in (
      omega arith,
      c.in_ok-taken.ensures.sound,
      c.step.ensures.number ∙ c.loop-used.invariant.2,
      quiet-more c.args.self.now c.loop-used.self c.step.new.self c.args.piece.now
          c.loop-used.used c.in_ok-taken.taken c.loop-used.invariant.2 c.loop-used.invariant.3 t,
      (rw c.in-More.is at c.in_ok-taken.ensures.shown) ∙ c.loop-used.invariant.4,
    )

pub returns-in_default-clause-ok : goal.returns-in_default-clause-ok
returns-in_default-clause-ok c =
    let t : StepConsumes c.loop-used.self (drop c.loop-used.used c.args.piece.now)
    c.in_ok-taken.taken
    c.in_ok-taken.kind c.step.new.self =
    rw (take_rest c.args.piece.now c.loop-used.used) at c.in_ok-taken.ensures.ok in
    reaches-kind c.args.self.now c.loop-used.self c.step.new.self c.args.piece.now c.loop-used.used
    c.in_ok-taken.taken c.in_ok-taken.kind c.loop-used-test.true c.loop-used.invariant.2
    c.loop-used.invariant.3 t c.in_default.not-More
