use Rattle.bay_diagram_file.proofs.PartLemmas.{fault-kept, network-of-named}
use Rattle.bay_diagram_file.proofs.read.read_diagram.Goals as goal

pub returns-in-Ok : goal.returns-in-Ok
returns-in-Ok c =
    network-of-named c.args.bay.now c.args.text.now c.in-Ok.diagram c.in-Ok.ensures

pub returns-in-Err : goal.returns-in-Err
returns-in-Err c =
    fault-kept c.args.bay.now c.args.text.now c.in-Err.fault c.in-Err.ensures
