use Rattle.std.proofs.Common.{◌≡◌, inr, length, refl, arith}
use Rattle.std.proofs.lemmas.List.{length-map}
use Rattle.std.proofs.lemmas.Option.{slice_get_read, slice_get_within}
use Rattle.bay_process.specs.Layout.{switches_of}
use Rattle.bay_process.specs.declared.switch.BoundSwitch.{BoundSwitch}
use Rattle.bay_process.proofs.scan.write_outputs.Goals as goal

pub write_interlocking-requires-clause-rows : goal.write_interlocking-requires-clause-rows
write_interlocking-requires-clause-rows c =
    let i = c.loop-index.index in
    let switches = c.args.switches.now in
    rw c.loop-index.invariant.layout
    (c.requires.interlocked i c.index-switches-index.result
    (slice_get_read switches (length switches) i c.index-switches-index.result refl
    c.loop-index-test.true c.index-switches-index.is))

pub returns-clause-kept : goal.returns-clause-kept
returns-clause-kept c =
    let i = c.loop-index.invariant.kept in
    let bs = c.args.switches.now in
    let many : length (switches_of bs) ≡ length bs =
    length-map bs (λ (b : BoundSwitch). b.switch) in
    record {
      shows = i.shows;
      written = λ k e here by. i.written k e here
          (inr (omega (arith, slice_get_within _ k e here, i.shows.sized, many)));
    }
