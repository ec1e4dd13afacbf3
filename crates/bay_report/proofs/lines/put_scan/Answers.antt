use Rattle.std.proofs.Common.{◌++◌, ap, append_assoc, codes, sym}
use Rattle.std.specs.Fmt.{decimal}
use Rattle.bay_io.proofs.SentLemmas.{Puts-then, Puts-as}
use Rattle.bay_device.specs.LookUps.{switches_text}
use Rattle.bay_report.proofs.lines.put_scan.Goals as goal

pub returns : goal.returns
returns g c =
    let d = c.args.device.now in
    Puts-as _
    (sym (append_assoc (decimal c.args.moment ++ codes " scan steps=" ++ decimal c.args.steps)
    (switches_text d 0 d.switches) (codes "\n")))
    (Puts-then (Puts-then (Puts-then (c.put_moment.ensures) (c.put.ensures)) (Puts-as _
    (ap decimal c.from.ensures) c.put_number.ensures)) (Puts-as _ c.releases.ensures
    c.put-2.ensures))
