-- A hazard in words: `joins LINE to earth: LINE - QB9 - N2 - QC2`.
use Rattle.std.specs.Prelude.{ℕ, List, [], ◌++◌, codes, Option, None, Some, slice_get, unwrap_or}
use Rattle.std.specs.List.{flat_map}
use Rattle.bay_diagram.specs.declared.shown.HazardKind.{HazardKind}
use Rattle.bay_diagram.specs.declared.shown.HazardKind.TheVariants.{Earths, Bridges, Breaks, Makes, Leaves, Joins, Uncouples, Unearths}
use Rattle.bay_diagram.specs.declared.shown.ShownHazard.{ShownHazard}
use Rattle.bay_diagram.specs.declared.shown.ShownWalk.{ShownWalk}
use Rattle.bay_diagram.specs.declared.shown.Step.{Step}
use Rattle.bay_diagram_file.specs.declared.diagram.Diagram.{Diagram}

-- the name with a number; an empty one if there is none
abbrev pub name_at : List (List ℕ) → ℕ → List ℕ
name_at names n = unwrap_or (slice_get names n) []

-- ` - SWITCH`, if there is one
abbrev pub switch_text : Diagram → Option ℕ → List ℕ
switch_text diagram None = []
switch_text diagram (Some n) = codes " - " ++ name_at diagram.switches n

-- ` - SWITCH - NODE`
abbrev pub step_text : Diagram → Step → List ℕ
step_text diagram step =
    switch_text diagram (Some step.branch) ++ (codes " - " ++ name_at diagram.nodes step.node)

-- `NODE - SWITCH - NODE`, and so on
abbrev pub walk_text : Diagram → ShownWalk → List ℕ
walk_text diagram walk =
    name_at diagram.nodes walk.start ++ flat_map (step_text diagram) walk.steps

-- `, beside NODE - SWITCH - NODE`, if there is such a path
abbrev pub beside_text : Diagram → Option ShownWalk → List ℕ
beside_text diagram None = []
beside_text diagram (Some walk) = codes ", beside " ++ walk_text diagram walk

-- the name of the other disconnector; an empty one if there is none
abbrev pub other_text : Diagram → Option ℕ → List ℕ
other_text diagram None = []
other_text diagram (Some n) = name_at diagram.switches n

-- what the operation would do to another disconnector, which may be on its way
abbrev pub moving_text : Diagram → List ℕ → Option ℕ → List ℕ
moving_text diagram effect other =
    effect ++ (other_text diagram other ++ codes ", which may be on its way")

-- the operation would open an earth that a source may feed
abbrev pub fed_earth_text : Diagram → ℕ → List ℕ
fed_earth_text diagram source =
    codes "opens an earth that " ++ (name_at diagram.nodes source ++ codes " may feed")

-- what the operation would do
abbrev pub effect_text : Diagram → ShownHazard → HazardKind → List ℕ
effect_text diagram shown Earths =
    codes "earths " ++ (name_at diagram.nodes shown.walk.start ++ codes ", which is not isolated")
effect_text diagram shown Bridges =
    codes "joins " ++ (name_at diagram.nodes shown.walk.start ++ codes " to earth")
effect_text diagram shown Breaks = codes "makes or breaks a current"
effect_text diagram shown Makes =
    moving_text diagram (codes "makes a current through ") shown.other
effect_text diagram shown Leaves =
    moving_text diagram (codes "leaves a current to ") shown.other
effect_text diagram shown Joins = codes "joins two live parts that may be out of phase"
effect_text diagram shown Uncouples = codes "leaves disconnectors alone to join its two sides"
effect_text diagram shown Unearths = fed_earth_text diagram shown.walk.start

-- the hazard: what the operation would do, and the walks that show it
abbrev pub hazard_text : Diagram → ShownHazard → List ℕ
hazard_text diagram shown =
    effect_text diagram shown shown.kind ++ (codes ": " ++ (walk_text diagram shown.walk
    ++ (switch_text diagram shown.earth ++ beside_text diagram shown.beside)))
