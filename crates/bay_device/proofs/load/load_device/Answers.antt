use Rattle.bay_device.proofs.LoadedLemmas.{device-loaded}
use Rattle.bay_device.proofs.load.load_device.Goals as goal

pub returns-clause-ok : goal.returns-clause-ok
returns-clause-ok c =
    (c.in_ok-loaded.loaded, c.in_ok-loaded.ensures.ok, c.in_ok-device.ensures.device)

pub returns-clause-loaded : goal.returns-clause-loaded
returns-clause-loaded c =
    device-loaded c.args.bay.now c.args.form c.args.program.now c.in_ok-device.device
    (returns-clause-ok c)
