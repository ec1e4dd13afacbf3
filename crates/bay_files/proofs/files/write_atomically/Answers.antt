use Rattle.std.proofs.Common.{◌≡◌, ◌+◌, ◌-◌, suc, arith}
use Rattle.std.proofs.lemmas.Bool.Decides.{nat_tests}
use Rattle.bay_files.proofs.WriteLemmas.{Tried-done, Tried-end, Tried-fails, Tried-taken}
use Rattle.bay_files.proofs.files.write_atomically.Goals as goal

pub returns-in-Ok-true-clause-ok : goal.returns-in-Ok-true-clause-ok
returns-in-Ok-true-clause-ok g c =
    let more : 100 - c.loop-number.number ≡ suc (100 - (c.loop-number.number + 1)) =
    grind (arith, nat_tests) in
    Tried-done g.F.FileSystem.writes c.args.name.now c.args.octets.now c.args.files.now _ _ _ _
    c.loop-number.invariant more c.write.new.self c.in-Ok-true.field-0 c.in-Ok-true.field-0-test
    c.in-Ok-true.ensures

pub returns-in-Err-clause-err : goal.returns-in-Err-clause-err
returns-in-Err-clause-err g c =
    let more : 100 - c.loop-number.number ≡ suc (100 - (c.loop-number.number + 1)) =
    grind (arith, nat_tests) in
    Tried-fails g.F.FileSystem.writes c.args.name.now c.args.octets.now c.args.files.now _ _ _ _
    c.loop-number.invariant more c.write.new.self c.in-Err.fault
    c.in-Err.ensures

pub loop-number-preserved : goal.loop-number-preserved
loop-number-preserved g c =
    let more : 100 - c.loop-number.number ≡ suc (100 - (c.loop-number.number + 1)) =
    grind (arith, nat_tests) in
    Tried-taken g.F.FileSystem.writes c.args.name.now c.args.octets.now c.args.files.now _ _ _ _
    c.loop-number.invariant more c.write.new.self c.in-Ok-false.field-0 c.in-Ok-false.field-0-test
    c.in-Ok-false.ensures

pub returns-clause-err : goal.returns-clause-err
returns-clause-err g c =
    Tried-end g.F.FileSystem.writes c.args.name.now c.args.octets.now c.args.files.now _ _ _
    c.loop-number.invariant (grind (arith, nat_tests))
