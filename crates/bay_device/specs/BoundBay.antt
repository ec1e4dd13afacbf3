-- The parts of a device that load makes from a bay, apart from the machine of its program.
use Rattle.std.specs.Prelude.{◌≡◌, List, [], length, map, None}
use Rattle.bay_config.specs.declared.bay.Bay.{Bay}
use Rattle.bay_base.specs.declared.point.Source.{Source}
use Rattle.bay_config.specs.Laws.{IsBay}
use Rattle.bay_control.specs.Decisions.{controls_of, initial}
use Rattle.bay_process.specs.Layout.{AreBound, AreMetersBound, layout_of, meters_of, switches_of}
use Rattle.bay_process.specs.ModelRows.{IsModelled, profile_with}
use Rattle.bay_process.specs.ReportedRows.{AreStored}
use Rattle.bay_mms_services.specs.Bay.{rows_with_selection}
use Rattle.bay_mms_services.specs.Released.{HaveTravelTime}
use Rattle.bay_mms_services.specs.Views.{bay_view}
use Rattle.bay_device.specs.declared.initial.BoundBay.{BoundBay}

-- A file describes the bay, and the travel time of each controlled switch is at least 1 ms.
pub record IsTimedBay (bay : Bay) : Type 0 where
  pub sound : IsBay bay
  pub timed : HaveTravelTime (controls_of bay.inputs bay.switches)

-- The bay is bound, without a selection: clients see the contents of the file; its switches, its
-- meters and what events change of profile 2 have the rows with their names; and the text of the
-- releases has the values of its rows.
pub record IsBoundBay (bay : Bay) (writes : List Source) (b : BoundBay) : Type 0 where
  pub served : bay_view b.bay ≡ record {
    domain = bay.domain;
    vendor = bay.vendor;
    model = bay.model;
    revision = bay.revision;
    switches = bay.switches;
    rows = rows_with_selection None (length bay.switches) bay.rows;
    inputs = [];
    controls = initial (controls_of bay.inputs bay.switches);
  }
  pub age : b.scan_max_age_ms ≡ bay.scan_max_age_ms
  pub inputs : b.inputs ≡ bay.inputs
  pub ids : meters_of b.meters ≡ map (λ m. m.id) bay.meters
  pub bound : AreBound (layout_of b.bay.tree) writes b.bay.switches
  pub metered : AreMetersBound (layout_of b.bay.tree) b.meters
  pub profile : profile_with b.model_rows ≡ bay.profile
  pub modelled : IsModelled (layout_of b.bay.tree) bay.inputs bay.switches b.model_rows
  pub released : AreStored b.bay.tree (switches_of b.bay.switches) 0 b.releases
