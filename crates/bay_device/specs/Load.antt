-- The device that results from a bay file and a program or an image, or why they are refused.
use Rattle.std.specs.Prelude.{◌≡◌, ℕ, List, true, false, length, map, replicate, Option, None, Some, Result, Ok, Err}
use Rattle.bay_config.specs.declared.bay.Bay.{Bay}
use Rattle.bay_config.specs.declared.fault.BayFault.{BayFault}
use Rattle.il_image.specs.Images.{Image}
use Rattle.bay_load.specs.Errors.{code_of, line_of}
use Rattle.bay_load.specs.Loads.{LoadData, LoadsTo}
use Rattle.bay_load.specs.declared.error.LoadError.{LoadError}
use Rattle.bay_load.specs.declared.load.Form.{Form}
use Rattle.il_scan.specs.Scans.{first_machine}
use Rattle.bay_device.specs.Device.{State}
use Rattle.bay_device.specs.Outcomes.{associations}
use Rattle.bay_device.specs.declared.fault.LoadFault.{LoadFault}
use Rattle.bay_device.specs.declared.fault.LoadFault.TheVariants.{Refused, OutOfMemory}
use Rattle.bay_control.specs.Decisions.{controls_of, initial}
use Rattle.bay_mms_services.specs.Bay.{rows_with_selection}
use Rattle.bay_process.specs.Sources.{sources_of}

-- a device before its first event: no selection, FALSE as each stSeld in its rows, no execution,
-- and no open association
abbrev pub initial_device : Bay → Image → State
initial_device bay image = record {
  domain = bay.domain;
  vendor = bay.vendor;
  model = bay.model;
  revision = bay.revision;
  scan_max_age_ms = bay.scan_max_age_ms;
  switches = bay.switches;
  inputs = bay.inputs;
  input_values = map (λ _. false) bay.inputs;
  meters = map (λ m. m.id) bay.meters;
  profile = bay.profile;
  reads = sources_of false bay.points image.points;
  writes = sources_of true bay.points image.points;
  machine = first_machine image;
  rows = rows_with_selection None (length bay.switches) bay.rows;
  moment = 0;
  last_scan = None;
  is_stale = false;
  is_lost = false;
  controls = initial (controls_of bay.inputs bay.switches);
  pending = None;
  connections = replicate associations None;
}

-- the device of what was loaded
abbrev pub device_of : LoadData → State
device_of loaded = initial_device loaded.bay loaded.image

-- a refusal has a number and a line; out of memory has no number
abbrev pub fault_of : Option ℕ → ℕ → LoadFault
fault_of (Some code) line = Refused code line
fault_of None line = OutOfMemory

-- the number and the line of a load's error
abbrev pub load_fault_of : LoadError → LoadFault
load_fault_of error = fault_of (code_of error) (line_of error)

-- the device of a load, or the refusal
abbrev pub device_from : Result LoadData LoadError → Result State LoadFault
device_from (Ok loaded) = Ok (device_of loaded)
device_from (Err error) = Err (load_fault_of error)

-- The device is that of a possible result of the load, or the fault is the refusal of one.
abbrev pub LoadsAs : (Result LoadData LoadError → Type 0) → Result State LoadFault → Type 0
LoadsAs IsResult (Ok s) = (loaded : LoadData) × IsResult (Ok loaded) × (s ≡ device_of loaded)
LoadsAs IsResult (Err fault) =
    (error : LoadError) × IsResult (Err error) × (fault ≡ load_fault_of error)

-- the device of the octets of a bay file and of a program or an image
abbrev pub LoadsDevice : List ℕ → Form → List ℕ → State → Type 0
LoadsDevice bay form program s =
    (loaded : LoadData) × LoadsTo bay form program (Ok loaded) × (s ≡ device_of loaded)

-- The device as load made it, before its first event: of the bay that a bay file describes, and of
-- its program's image.
pub record IsLoaded (file : Result Bay BayFault) (IsImage : Bay → Image → Type 0) (s : State)
    : Type 0 where
  pub bay : Bay
  pub read : file ≡ Ok bay
  pub image : Image
  pub made : IsImage bay image
  pub is : s ≡ initial_device bay image
