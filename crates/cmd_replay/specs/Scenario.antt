-- The three parts of a scenario, separated by its first two lines that are `%%`.
use Rattle.std.specs.Prelude.{ℕ, Bool, List, ◌∷◌, ◌++◌, codes, Option, None, Some, option_and_then, option_map, if◌then◌else◌, []}
use Rattle.std.specs.List.{concat}
use Rattle.std.specs.Str.{bytes_eq}
use Rattle.bay_report.specs.TextLines.{line_without_end, pieces}

-- the maximum number of octets of a scenario
abbrev pub scenario_limit : ℕ
scenario_limit = 16777216

-- the line between two parts of a scenario
abbrev pub is_separator : List ℕ → Bool
is_separator line = bytes_eq line (codes "%%")

-- the text before the first separator, and the text after it
abbrev pub part_of : List (List ℕ) → Option (List ℕ × List ℕ)
part_of [] = None
part_of (piece ∷ rest) =
    if is_separator (line_without_end piece) then Some ([], concat rest)
    else option_map (λ parts. (piece ++ parts.0, parts.1)) (part_of rest)

-- the bay file, the program and the trace
pub record ScenarioParts : Type 0 where
  pub bay : List ℕ
  pub logic : List ℕ
  pub trace : List ℕ

-- the parts of a scenario
abbrev pub scenario_of : List ℕ → Option ScenarioParts
scenario_of text =
    option_and_then (λ first. option_map
    (λ second. record { bay = first.0; logic = second.0; trace = second.1 })
    (part_of (pieces first.1))) (part_of (pieces text))
