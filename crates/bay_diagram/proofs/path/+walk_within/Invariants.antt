use Rattle.bay_diagram.proofs.path.+walk_within.Given as goal

-- proposed from what the function passes where it calls itself
abbrev pub decreases-walk_within : goal.decreases-walk_within
decreases-walk_within l = l.count
