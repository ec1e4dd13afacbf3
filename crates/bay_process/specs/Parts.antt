-- The parts of the state of a device.
use Rattle.std.specs.Prelude.{◌≡◌, true, false, List, length, map}
use Rattle.bay_base.specs.declared.point.Source.{Source}
use Rattle.bay_base.specs.declared.point.Point.{Point}
use Rattle.bay_nodes.specs.declared.meter.Meter.{Meter}
use Rattle.bay_nodes.specs.declared.switch.Switch.{Switch}
use Rattle.bay_tree.specs.declared.row.Row.{Row}
use Rattle.il_image.specs.Images.{Image}
use Rattle.il_scan.specs.Scans.{first_machine}
use Rattle.bay_process.specs.Layout.{Layout, layout_of, bound_from, meters_of, AreMetersBound}
use Rattle.bay_process.specs.Sources.{sources_of}
use Rattle.bay_process.specs.Nodes.{AreRowsOfNodes}
use Rattle.bay_process.specs.declared.nodes.SwitchNodes.{SwitchNodes}
use Rattle.bay_process.specs.declared.parts.BoundRows.{BoundRows}
use Rattle.bay_process.specs.declared.parts.BoundMachine.{BoundMachine}
use Rattle.bay_process.specs.declared.rows.SwitchRows.{SwitchRows}
use Rattle.bay_process.specs.declared.switch.BoundSwitch.{BoundSwitch}

-- a machine with an image in its state before the first scan, and the sources of the image's points
pub record IsBoundMachine (bay : List Point) (image : Image) (wired : BoundMachine) : Type 0 where
  pub machine : wired.machine ≡ first_machine image
  pub reads : wired.reads.items ≡ sources_of false bay image.points
  pub writes : wired.writes.items ≡ sources_of true bay image.points

-- the switches, each with the rows below its nodes and the indices of its interlocking values
pub record AreBoundSwitches (layout : Layout) (writes : List Source) (switches : List Switch)
    (nodes : List SwitchNodes) (bound : List BoundSwitch) : Type 0 where
  pub rows : List SwitchRows
  pub sized : length rows ≡ length nodes
  pub named : AreRowsOfNodes layout nodes rows
  pub is : bound ≡ bound_from writes 0 switches rows

-- a tree of these rows, and the switches and the meters with the rows below their nodes
pub record AreBoundRows (rows : List Row) (switches : List Switch) (meters : List Meter)
    (nodes : List SwitchNodes) (writes : List Source) (bound : BoundRows) : Type 0 where
  pub tree : bound.tree ≡ rows
  pub of_switches : AreBoundSwitches (layout_of bound.tree) writes switches nodes
      bound.switches.items
  pub ids : meters_of bound.meters.items ≡ map (λ m. m.id) meters
  pub of_meters : AreMetersBound (layout_of bound.tree) bound.meters.items
