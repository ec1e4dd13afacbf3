-- The names of what a program retains from scan to scan, and those that consist of letters, digits
-- and `_` alone.
use Rattle.std.specs.Prelude.{◌≡◌, ℕ, true, List, Ok}
use Rattle.std.specs.List.{list_all}
use Rattle.bay_config.specs.Key.{is_name_character}
use Rattle.bay_config.specs.declared.bay.Bay.{Bay}
use Rattle.bay_diagram_file.specs.Diagram.{diagram_of_file}
use Rattle.bay_diagram_file.specs.declared.diagram.Diagram.{Diagram}
use Rattle.bay_load.specs.Loads.{LoadData, LoadsTo, parsed_bay}
use Rattle.bay_load.specs.declared.load.Form.{Form}
use Rattle.il_image.specs.Images.{Each, IsImage}
use Rattle.il_image.specs.declared.image.ImagePoint.{ImagePoint}

-- the points of an image, and the names of its variables and of its timers
pub record ProgramNames : Type 0 where
  pub points : List ImagePoint
  pub variables : List (List ℕ)
  pub timers : List (List ℕ)

-- the names of what was loaded
abbrev pub program_names : LoadData → ProgramNames
program_names loaded = record {
  points = loaded.image.points;
  variables = loaded.names.variables;
  timers = loaded.names.timers;
}

-- ---- names that are words

-- letters, digits and `_` alone
abbrev pub IsWord : List ℕ → Type 0
IsWord name = list_all is_name_character name ≡ true

-- each name is a word
pub record AreWords (names : ProgramNames) : Type 0 where
  pub points : Each (λ p. IsWord p.name) names.points
  pub variables : Each IsWord names.variables
  pub timers : Each IsWord names.timers

-- The names of each program are words.
abbrev pub NamesAreWords : Type 0
NamesAreWords =
    (bay : List ℕ) (form : Form) (program : List ℕ) (loaded : LoadData)
    → LoadsTo bay form program (Ok loaded) → IsImage loaded.image → AreWords (program_names loaded)

-- the ids of a bay's switches and the names of its points are words
pub record HasWords (bay : Bay) : Type 0 where
  pub switches : Each (λ s. IsWord s.id) bay.switches
  pub points : Each (λ p. IsWord p.name) bay.points

-- The ids of switches and the names of points are words, in each bay that a file spells.
abbrev pub BaysHaveWords : Type 0
BaysHaveWords = (file : List ℕ) (bay : Bay) → parsed_bay file ≡ Ok bay → HasWords bay

-- the names of a diagram's nodes and switches are words
pub record HasDiagramWords (d : Diagram) : Type 0 where
  pub nodes : Each IsWord d.nodes
  pub switches : Each IsWord d.switches

-- The names of nodes and switches are words, in each diagram that a file spells.
abbrev pub DiagramsHaveWords : Type 0
DiagramsHaveWords =
    (bay : Bay) (file : List ℕ) (d : Diagram) → diagram_of_file bay file ≡ Ok d → HasDiagramWords d
