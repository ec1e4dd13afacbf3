use Rattle.std.proofs.Common.{◌≡◌, drop, map}
use Rattle.bay_mms.specs.RequestViews.{object_name_view}
use Rattle.bay_mms_services.specs.Reads.{read_all}
use Rattle.bay_mms_services.specs.Views.{bay_of, read_state_view}
use Rattle.bay_mms_services.proofs.invocation.Invocation.read_all.Given as goal

abbrev pub invariant-loop-name : goal.invariant-loop-name
invariant-loop-name l = record {
  ok : read_all l.self.client (bay_of l.self) (map object_name_view l.names)
      (read_state_view l.self.bay.now l.initial.controls l.initial.decisions.items
      l.initial.response.octets)
      ≡ read_all l.self.client (bay_of l.self) (map object_name_view (drop l.name-index l.names))
      (read_state_view l.self.bay.now l.controls l.decisions.items l.response.octets);
  size : l.response.size ≡ l.initial.response.size;
}
