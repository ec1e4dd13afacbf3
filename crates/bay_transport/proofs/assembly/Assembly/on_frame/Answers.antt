use Rattle.std.proofs.Common.{ap}
use Rattle.bay_transport.specs.declared.fault.TransportFault.{TransportFault}
use Rattle.bay_transport.specs.declared.frame.Tpdu.TheVariants.{Request, Data, Release, Unknown}
use Rattle.bay_transport.specs.Doings.{connect_effect}
use Rattle.bay_transport.proofs.AssemblyLemmas.{frame-effect, err_weaker}
use Rattle.bay_transport.proofs.assembly.Assembly.on_frame.Goals as goal

pub returns-in-Request-clause-ok : goal.returns-in-Request-clause-ok
returns-in-Request-clause-ok c =
    rw (frame-effect c.args.self.now c.index-indicator.result.now c.index.result.now Request
    c.requires c.index-indicator.ensures c.index.ensures c.in-Request.ensures)
    c.connect.ensures.ok

pub returns-in-Request-clause-err : goal.returns-in-Request-clause-err
returns-in-Request-clause-err c =
    rw (frame-effect c.args.self.now c.index-indicator.result.now c.index.result.now Request
    c.requires c.index-indicator.ensures c.index.ensures c.in-Request.ensures)
    (err_weaker c.connect.result _ _ (λ (fault : TransportFault) r. ap connect_effect r)
    c.connect.ensures.err)

pub returns-in-Data-clause-ok : goal.returns-in-Data-clause-ok
returns-in-Data-clause-ok c =
    rw (frame-effect c.args.self.now c.index-indicator.result.now c.index.result.now Data c.requires
    c.index-indicator.ensures c.index.ensures c.in-Data.ensures) c.join.ensures.ok

pub returns-in-Data-clause-err : goal.returns-in-Data-clause-err
returns-in-Data-clause-err c =
    rw (frame-effect c.args.self.now c.index-indicator.result.now c.index.result.now Data c.requires
    c.index-indicator.ensures c.index.ensures c.in-Data.ensures) c.join.ensures.err

pub returns-in-Release-clause-ok : goal.returns-in-Release-clause-ok
returns-in-Release-clause-ok c =
    rw (frame-effect c.args.self.now c.index-indicator.result.now c.index.result.now Release
    c.requires c.index-indicator.ensures c.index.ensures c.in-Release.ensures)

pub returns-in-Unknown-clause-err : goal.returns-in-Unknown-clause-err
returns-in-Unknown-clause-err c =
    rw (frame-effect c.args.self.now c.index-indicator.result.now c.index.result.now Unknown
    c.requires c.index-indicator.ensures c.index.ensures c.in-Unknown.ensures)
