use Rattle.std.proofs.Common.{◌≡◌, drop, map}
use Rattle.bay_mms.specs.RequestViews.{object_name_view}
use Rattle.bay_mms.specs.Views.{data_in}
use Rattle.bay_mms_services.specs.Views.{bay_of, write_state_view}
use Rattle.bay_mms_services.specs.Writes.{write_all}
use Rattle.bay_mms_services.proofs.invocation.Invocation.write_all.Given as goal

abbrev pub invariant-loop-i : goal.invariant-loop-i
invariant-loop-i l =
    write_all l.self.client (bay_of l.self) (map object_name_view l.names) (data_in l.values)
    (write_state_view l.self.bay.now l.initial.controls l.initial.written)
    ≡ write_all l.self.client (bay_of l.self) (map object_name_view (drop l.i l.names))
    (data_in (drop l.i l.values)) (write_state_view l.self.bay.now l.controls l.written)
