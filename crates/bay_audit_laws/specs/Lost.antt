-- The values that a program reads while the process is lost.
use Rattle.std.specs.Prelude.{◌≡◌, ◌<◌, ℕ, false, List, [], ◌∷◌, length, slice_get, unwrap_or, Some}
use Rattle.bay_base.specs.declared.point.Source.TheVariants as source
use Rattle.bay_base.specs.declared.point.SwitchPoint.{SwitchPoint}
use Rattle.bay_config.specs.Laws.{IsBay}
use Rattle.bay_config.specs.declared.bay.Bay.{Bay}
use Rattle.bay_nodes.specs.Names.{switch_names}
use Rattle.bay_nodes.specs.declared.switch.Switch.{Switch}
use Rattle.bay_process.specs.Values.{position_value}
use Rattle.bay_tree.specs.Rows.{leaf_named}
use Rattle.bay_base.specs.declared.position.Dbpos.TheVariants.{Bad}
use Rattle.bay_tree.specs.declared.leaf.Leaf.TheVariants as leaf
use Rattle.bay_tree.specs.declared.leaf.Quality.TheVariants.{Invalid}
use Rattle.il_image.specs.Images.{Image}
use Rattle.il_image.specs.declared.value.Value.TheVariants.{Truth}
use Rattle.bay_device.specs.Device.{State, point_value}
use Rattle.bay_device.specs.Fresh.{PastEvent, is_heard}
use Rattle.bay_device.specs.Load.{initial_device}
use Rattle.bay_device.specs.Steps.{Steps}

-- The device has only the values of a lost process: the position of each switch is bad, with an
-- invalid quality, and each input is FALSE.
pub record IsLostState (s : State) : Type 0 where
  pub positions : (k : ℕ) (switch : Switch) → slice_get s.switches k ≡ Some switch
      → leaf_named (switch_names s.switches k switch).position.value s.rows ≡ Some (leaf.Dbpos Bad)
  pub qualities : (k : ℕ) (switch : Switch) → slice_get s.switches k ≡ Some switch
      → leaf_named (switch_names s.switches k switch).position.quality s.rows
      ≡ Some (leaf.Quality Invalid)
  pub inputs : (k : ℕ) → unwrap_or (slice_get s.input_values k) false ≡ false

-- A program reads these values: the points of each switch are those of a bad position, and each
-- input is FALSE.
pub record ReadsLost (s : State) : Type 0 where
  pub switches : (k : ℕ) (point : SwitchPoint) → k < length s.switches
      → point_value s (source.Switch k point) ≡ position_value point (Some (leaf.Dbpos Bad))
  pub inputs : (k : ℕ) → point_value s (source.Input k) ≡ Truth false

-- These events led from the first device to this one; the last event comes first.
abbrev pub IsRunFrom : State → List PastEvent → State → Type 0
IsRunFrom first [] s = s ≡ first
IsRunFrom first (p ∷ past) s = (s ≡ p.after)
    × ((before : State) × IsRunFrom first past before × Steps p.now p.event before p.answer p.after)

-- In each run from load of a bay and an image on, while the process is lost, the device has only
-- the values of a lost process, and a program reads these.
abbrev pub LostIsBlind : Type 0
LostIsBlind =
    (bay : Bay) (image : Image) → IsBay bay → (past : List PastEvent) (s : State)
    → IsRunFrom (initial_device bay image) past s → is_heard past ≡ false
    → IsLostState s × ReadsLost s
