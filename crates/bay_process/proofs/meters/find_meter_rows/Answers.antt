use Rattle.bay_process.specs.Layout.{layout_of}
use Rattle.bay_process.proofs.FloatLemmas.{are-floats}
use Rattle.bay_process.proofs.NodeLemmas.{are-there, found-meter}
use Rattle.bay_process.proofs.meters.find_meter_rows.Goals as goal

pub find_measure_rows-requires : goal.find_measure_rows-requires
find_measure_rows-requires c = are-there _ _ _ c.requires.tot_w

pub find_measure_rows-requires-2 : goal.find_measure_rows-requires-2
find_measure_rows-requires-2 c = are-there _ _ _ c.requires.tot_var

pub find_measure_rows-requires-3 : goal.find_measure_rows-requires-3
find_measure_rows-requires-3 c = are-there _ _ _ c.requires.hz

pub find_measure_rows-requires-4 : goal.find_measure_rows-requires-4
find_measure_rows-requires-4 c = are-there _ _ _ c.requires.phase_a

pub find_measure_rows-requires-5 : goal.find_measure_rows-requires-5
find_measure_rows-requires-5 c = are-there _ _ _ c.requires.phase_b

pub find_measure_rows-requires-6 : goal.find_measure_rows-requires-6
find_measure_rows-requires-6 c = are-there _ _ _ c.requires.phase_c

pub returns : goal.returns
returns c =
    found-meter c.args.tree.now c.args.node.now _ c.requires c.in_ok-tot_w.ensures.status
    c.in_ok-tot_var.ensures.status c.in_ok-hz.ensures.status c.in_ok-phase_a.ensures.status
    c.in_ok-phase_b.ensures.status c.in_ok-phase_c.ensures.status
    (are-floats (layout_of c.args.tree.now) c.args.node.now _ c.in_ok-tot_w.ensures.float
    c.in_ok-tot_var.ensures.float c.in_ok-hz.ensures.float c.in_ok-phase_a.ensures.float
    c.in_ok-phase_b.ensures.float c.in_ok-phase_c.ensures.float)
