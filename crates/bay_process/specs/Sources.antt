-- The sources of the points of an image among the points of a bay.
use Rattle.std.specs.Prelude.{Bool, List, Option, [], find, if◌then◌else◌, option_map, ◌∷◌}
use Rattle.std.specs.Bool.{beq}
use Rattle.std.specs.List.{cons_option}
use Rattle.bay_base.specs.declared.point.Source.{Source}
use Rattle.bay_base.specs.declared.point.Point.{Point}
use Rattle.il_image.specs.declared.image.ImagePoint.{ImagePoint}
use Rattle.il_verify.specs.Binding.{is_point}
use Rattle.bay_base.specs.declared.types.ElementaryType.{ElementaryType}
use Rattle.bay_base.specs.declared.types.ElementaryType.TheVariants as elementary
use Rattle.bay_base.specs.declared.point.Source.TheVariants as source
use Rattle.bay_base.specs.declared.point.SwitchPoint.{SwitchPoint}
use Rattle.bay_base.specs.declared.point.SwitchPoint.TheVariants.{Position, Open, Closed, EnableOpen, EnableClose}

-- the source of an image's point: that of the bay's point with its name, type and writability
abbrev pub source_of : List Point → ImagePoint → Option Source
source_of bay p = option_map (λ b. b.source) (find (is_point p) bay)

-- the sources of the writable points of an image, or of the others; a point that the bay does not
-- have is left out
abbrev pub sources_of : Bool → List Point → List ImagePoint → List Source
sources_of writable bay [] = []
sources_of writable bay (p ∷ points) =
    if beq p.writable writable
    then cons_option (source_of bay p) (sources_of writable bay points)
    else sources_of writable bay points

-- the type of a point of a switch
abbrev pub type_of_switch_point : SwitchPoint → ElementaryType
type_of_switch_point Position = elementary.Int
type_of_switch_point Open = elementary.Bool
type_of_switch_point Closed = elementary.Bool
type_of_switch_point EnableOpen = elementary.Bool
type_of_switch_point EnableClose = elementary.Bool

-- the type of a point, by its source
abbrev pub type_of_source : Source → ElementaryType
type_of_source (source.Switch k point) = type_of_switch_point point
type_of_source (source.Input k) = elementary.Bool
type_of_source (source.Meter k field) = elementary.Dint
