use Rattle.std.proofs.Common.{◌≡◌, refl, sym, ap, length, None, arith}
use Rattle.std.proofs.lemmas.Bool.Decides.{nat_tests}
use Rattle.bay_io.proofs.SentLemmas.{Puts-nil}
use Rattle.bay_report.specs.TextLines.{lines_of}
use Rattle.bay_report.proofs.PieceLemmas.{lines-cut}
use Rattle.bay_report.proofs.ReportLemmas.{Prints-alone, nil-from-length}
use Rattle.cmd_replay.proofs.ProgressLemmas.{Progress-cut, Progress-fault, Progress-last, Progress-logged, Progress-start, Progress-step, no-lines}
use Rattle.cmd_replay.proofs.replay.replay_device.Goals as goal

pub loop-rest-init : goal.loop-rest-init
loop-rest-init g c = record {
  progress = rw c.new-octets.ensures
      (Progress-start c.report.result c.args.device.now (lines_of c.args.trace.now)
      c.report.ensures c.put_report.ensures);
  bound = omega arith;
}

pub returns-in-Some : goal.returns-in-Some
returns-in-Some g c =
    let said = c.in-Some.ensures.answers in
    let cut = lines-cut _ _ _ c.split_line.ensures.cuts in
    Progress-logged c.loop-rest.invariant.progress _ 3 c.end_replay.result
    (Progress-fault c.loop-rest.invariant.progress said.choice _ _ cut (sym said.last)) said.text
    c.end_replay.ensures

pub returns-then-has_failed : goal.returns-then-has_failed
returns-then-has_failed g c =
    let said = c.in-None.ensures.answers in
    let cut = lines-cut _ _ _ c.split_line.ensures.cuts in
    Progress-cut (Progress-step c.loop-rest.invariant.progress said.choice _ _ cut (sym said.last)
    said.text) _
    (sym c.if-has_failed.ensures)

pub loop-rest-preserved : goal.loop-rest-preserved
loop-rest-preserved g c =
    let said = c.in-None.ensures.answers in
    let cut = lines-cut _ _ _ c.split_line.ensures.cuts in
    record {
      progress = rw (said.after_is refl)
          (Progress-step c.loop-rest.invariant.progress said.choice _ _ cut (sym said.last)
          said.text);
      bound = omega (arith, c.split_line.ensures.shorter, c.loop-rest.invariant.bound);
    }

pub returns : goal.returns
returns g c =
    let zero : length c.loop-rest.rest.now ≡ 0 = grind (arith, nat_tests) in
    Prints-alone c.finish.result
    (Progress-last c.loop-rest.invariant.progress c.finish.new.writer None 0 c.finish.result
    (no-lines _ _ _ (ap lines_of (nil-from-length c.loop-rest.rest.now zero))) (Puts-nil _)
    c.finish.ensures.finishes c.finish.ensures.status)
