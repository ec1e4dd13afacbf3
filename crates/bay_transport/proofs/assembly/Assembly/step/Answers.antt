use Rattle.std.proofs.lemmas.Result.{err_from_is_err_and}
use Rattle.bay_transport.specs.declared.frame.FramePrefix.TheVariants.{Begun, Whole}
use Rattle.bay_transport.proofs.AssemblyLemmas.{front-seen, takes-more, takes-whole, refuses-whole}
use Rattle.bay_transport.proofs.assembly.Assembly.step.Goals as goal

pub returns-in-Begun-clause-ok : goal.returns-in-Begun-clause-ok
returns-in-Begun-clause-ok c =
    takes-more c.args.self.now c.extend.new.self c.args.piece.now c.in_ok-taken.taken
    c.in_ok-taken.ensures.within c.in_ok-taken.ensures.moves c.in_ok-taken.ensures.rest
    c.extend.ensures.connection
    (front-seen c.extend.new.self c.deref.result.now Begun c.deref.ensures.value
    c.in-Begun.ensures.front)

pub returns-in_ok-kind-in-Whole-clause-ok : goal.returns-in_ok-kind-in-Whole-clause-ok
returns-in_ok-kind-in-Whole-clause-ok c =
    takes-whole c.args.self.now c.extend.new.self c.on_frame.new.self c.args.piece.now
    c.in_ok-taken.taken c.in-Whole.field-0 c.in_ok-kind-in-Whole.kind c.requires.begun
    c.in_ok-taken.ensures.within c.in_ok-taken.ensures.moves c.in_ok-taken.ensures.few
    c.in_ok-taken.ensures.rest c.extend.ensures.connection c.extend.ensures.number
    (front-seen c.extend.new.self c.deref.result.now (Whole c.in-Whole.field-0)
    c.deref.ensures.value c.in-Whole.ensures.front) c.in_ok-kind-in-Whole.ensures.ok

pub returns-in_err-kind-in-Whole-clause-err : goal.returns-in_err-kind-in-Whole-clause-err
returns-in_err-kind-in-Whole-clause-err c =
    let p = err_from_is_err_and c.from_residual-in_err-kind-in-Whole.result
    c.from_residual-in_err-kind-in-Whole.ensures.1 in
    rw (p.1, p.2) (refuses-whole c.args.self.now c.extend.new.self c.args.piece.now
    c.in_ok-taken.taken c.in-Whole.field-0 c.in_err-kind-in-Whole.field-0.0 c.requires.begun
    c.in_ok-taken.ensures.within c.in_ok-taken.ensures.few c.in_ok-taken.ensures.rest
    c.extend.ensures.connection c.extend.ensures.number
    (front-seen c.extend.new.self c.deref.result.now (Whole c.in-Whole.field-0)
    c.deref.ensures.value c.in-Whole.ensures.front) c.in_err-kind-in-Whole.ensures.err)
