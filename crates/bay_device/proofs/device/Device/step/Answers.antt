use Rattle.bay_device.proofs.CommandLemmas.{step-commanded, step-single}
use Rattle.bay_device.proofs.EntryLemmas.{leading}
use Rattle.bay_device.proofs.FreshLemmas.{step-fresh}
use Rattle.bay_device.proofs.MeaningLemmas.{means-step}
use Rattle.bay_device.proofs.OperateLemmas.{step-operates}
use Rattle.bay_device.proofs.RecvLemmas.{one-outcome}
use Rattle.bay_device.proofs.RemoteLemmas.{step-remote}
use Rattle.bay_device.proofs.ToldLemmas.{telling}
use Rattle.bay_device.proofs.device.Device.step.Goals as goal

pub returns-clause-sure : goal.returns-clause-sure
returns-clause-sure c without =
    one-outcome c.args.now c.args.event c.args.self.now c.do_event.result c.do_event.new.self
    c.do_event.ensures.steps without

pub returns-clause-commanded : goal.returns-clause-commanded
returns-clause-commanded c =
    step-commanded c.args.now c.args.event c.args.self.now c.do_event.result c.do_event.new.self
    c.do_event.ensures.steps

pub returns-clause-single : goal.returns-clause-single
returns-clause-single c =
    step-single c.args.now c.args.event c.args.self.now c.do_event.result c.do_event.new.self
    c.is_sound.ensures.timed c.do_event.ensures.steps

pub returns-clause-means : goal.returns-clause-means
returns-clause-means c program runs =
    (means-step program c.args.now c.args.event c.args.self.now c.do_event.result
    c.do_event.new.self runs c.do_event.ensures.steps).0

pub returns-clause-runs : goal.returns-clause-runs
returns-clause-runs c program runs =
    (means-step program c.args.now c.args.event c.args.self.now c.do_event.result
    c.do_event.new.self runs c.do_event.ensures.steps).1

pub returns-clause-leads : goal.returns-clause-leads
returns-clause-leads c =
    leading c.args.now c.args.event c.args.self.now c.do_event.result c.do_event.new.self
    c.is_sound.ensures.slots c.do_event.ensures.steps

pub returns-clause-tells : goal.returns-clause-tells
returns-clause-tells c names alike sized =
    telling names c.args.now c.args.event c.args.self.now c.do_event.result c.do_event.new.self
    alike sized (returns-clause-leads c)

pub returns-clause-operates : goal.returns-clause-operates
returns-clause-operates c names alike sized =
    step-operates names c.args.now c.args.event c.args.self.now c.do_event.result
    c.do_event.new.self alike sized c.do_event.ensures.steps

pub returns-clause-fresh : goal.returns-clause-fresh
returns-clause-fresh c =
    step-fresh c.args.now c.args.event c.args.self.now c.do_event.result c.do_event.new.self
    c.do_event.ensures.steps

pub returns-clause-remote : goal.returns-clause-remote
returns-clause-remote c =
    step-remote c.args.now c.args.event c.args.self.now c.do_event.result c.do_event.new.self
    c.do_event.ensures.steps
