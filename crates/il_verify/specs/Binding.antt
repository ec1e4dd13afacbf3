-- Whether an image fits a bay.
use Rattle.std.specs.Prelude.{◌+◌, ◌&&◌, Bool, true, not, List, [], ◌∷◌, length, nat_le}
use Rattle.std.specs.Bool.{beq}
use Rattle.std.specs.List.{list_any}
use Rattle.std.specs.Str.{bytes_eq}
use Rattle.bay_base.specs.Names.{same_name}
use Rattle.bay_base.specs.Types.{same_type}
use Rattle.bay_base.specs.declared.point.Point.{Point}
use Rattle.il_image.specs.declared.image.ImagePoint.{ImagePoint}
use Rattle.il_image.specs.Images.{Image}
use Rattle.il_image.specs.Machine.{most_slots, most_timers}

-- whether an image's point is a point of the bay: the same name, as Instruction List compares
-- names, the same type, and the same access
abbrev pub is_point : ImagePoint → Point → Bool
is_point p b =
    same_name p.name b.name && (same_type p.elementary b.kind && beq p.writable b.writable)

-- whether each point is one of the bay's, and none occurs twice
abbrev pub are_points : List Point → List ImagePoint → Bool
are_points bay [] = true
are_points bay (p ∷ points) =
    (list_any (λ b. is_point p b) bay && not (list_any (λ q. bytes_eq q.name p.name) points))
    && are_points bay points

-- whether the image fits the bay: it has no more slots and timers than a machine may have, and its
-- points are the bay's
unfoldable pub fits : List Point → Image → Bool
fits bay image =
    (nat_le (length image.points + length image.variables) most_slots
    && nat_le (length image.timers) most_timers)
    && are_points bay image.points
