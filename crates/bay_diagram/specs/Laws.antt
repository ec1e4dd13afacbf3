-- Where less is known nothing that was a hazard becomes harmless.
use Rattle.std.specs.Prelude.{ℕ, ◌≡◌, true}
use Rattle.bay_base.specs.declared.switch.Operation.{Operation}
use Rattle.bay_diagram.specs.declared.network.Network.{Network}
use Rattle.bay_diagram.specs.declared.shown.ShownHazard.{ShownHazard}
use Rattle.bay_diagram.specs.Hazards.{is_hazard}
use Rattle.bay_diagram.specs.Reading.{Allowed, IsAllowed, IsOnly, IsWorse, Reading, best_of, reading_of, worst_of}
use Rattle.bay_diagram.specs.Shown.{is_shown}
use Rattle.bay_audit_rules.specs.Process.{Process}

-- Where less is known, each hazard is one still.
abbrev pub HazardsGrow : Type 0
HazardsGrow = (net : Network) (r worse : Reading) → IsWorse r worse
    → (k : ℕ) (operation : Operation)
    → is_hazard net r k operation ≡ true → is_hazard net worse k operation ≡ true

-- A hazard in the best that can be known in a case is one in each process of the case, and a hazard
-- in a process of the case is one in the worst that can be known.
pub record IsBounded (net : Network) (a : Allowed) (p : Process) (k : ℕ) (operation : Operation)
    : Type 0 where
  pub best : is_hazard net (best_of a) k operation ≡ true
      → is_hazard net (reading_of p) k operation ≡ true
  pub worst : is_hazard net (reading_of p) k operation ≡ true
      → is_hazard net (worst_of a) k operation ≡ true

-- The hazards of each process of a case are bounded by the best and the worst of the case.
abbrev pub HazardsAreBounded : Type 0
HazardsAreBounded = (net : Network) (a : Allowed) (p : Process) → IsAllowed a p
    → (k : ℕ) (operation : Operation) → IsBounded net a p k operation

-- In a case that allows one process alone, the worst and the best are what the process shows.
pub record IsExact (net : Network) (a : Allowed) (p : Process) (k : ℕ) (operation : Operation)
    : Type 0 where
  pub worst : is_hazard net (worst_of a) k operation ≡ is_hazard net (reading_of p) k operation
  pub best : is_hazard net (best_of a) k operation ≡ is_hazard net (reading_of p) k operation

-- In a case that allows one process alone, the hazards of the best and the worst are those of the
-- process.
abbrev pub HazardsAreExact : Type 0
HazardsAreExact = (net : Network) (a : Allowed) (p : Process) → IsAllowed a p → IsOnly a p
    → (k : ℕ) (operation : Operation) → IsExact net a p k operation

-- A hazard that is shown is one.
abbrev pub ShownIsHazard : Type 0
ShownIsHazard = (net : Network) (r : Reading) (k : ℕ) (operation : Operation)
    (shown : ShownHazard) → is_shown net r k operation shown ≡ true
    → is_hazard net r k operation ≡ true

-- Where less is known, a hazard that is shown is shown still, by the same walks.
abbrev pub ShownGrows : Type 0
ShownGrows = (net : Network) (r worse : Reading) → IsWorse r worse
    → (k : ℕ) (operation : Operation) (shown : ShownHazard)
    → is_shown net r k operation shown ≡ true → is_shown net worse k operation shown ≡ true

-- A hazard that is shown by the best that can be known in a case is shown by each process of the
-- case.
abbrev pub ShownBest : Type 0
ShownBest = (net : Network) (a : Allowed) (p : Process) → IsAllowed a p
    → (k : ℕ) (operation : Operation) (shown : ShownHazard)
    → is_shown net (best_of a) k operation shown ≡ true
    → is_shown net (reading_of p) k operation shown ≡ true
