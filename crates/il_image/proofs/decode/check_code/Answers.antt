use Rattle.std.proofs.Common.{◌≡◌, ◌∙◌, Some, length, rules}
use Rattle.il_image.specs.Decoding.{code_fault}
use Rattle.il_image.proofs.CodeLemmas.{fault-here, fault-step}
use Rattle.il_image.proofs.InstrLemmas.{less}
use Rattle.il_image.proofs.decode.check_code.Goals as goal

pub returns-in_err-behind : goal.returns-in_err-behind
returns-in_err-behind c =
    let e : code_fault c.args.version (length c.args.code.now) c.args.code.now
    ≡ Some c.in_err-behind.field-0.0 =
    c.loop-rest.invariant ∙ fault-here c.args.version c.loop-rest.rest.now
    c.in_err-behind.field-0.0 c.loop-rest-test.true c.in_err-behind.ensures in
    rw e (search rules)

pub loop-rest-smaller : goal.loop-rest-smaller
loop-rest-smaller c =
    less c.args.version c.loop-rest.rest.now c.in_ok-behind.field-0-0 c.in_ok-behind.behind.now
    c.in_ok-behind.ensures

pub loop-rest-preserved : goal.loop-rest-preserved
loop-rest-preserved c =
    c.loop-rest.invariant ∙ fault-step c.args.version c.loop-rest.rest.now c.in_ok-behind.field-0-0
    c.in_ok-behind.behind.now c.in_ok-behind.ensures
