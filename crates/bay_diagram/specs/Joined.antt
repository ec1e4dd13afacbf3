-- Which nodes branches join.
use Rattle.std.specs.Prelude.{ℕ, ◌≡◌, ◌==◌, ◌⊎◌, ◌↔◌, Bool, true, ◌&&◌, ◌||◌, List, [], ◌∷◌, fold, if◌then◌else◌}
use Rattle.bay_diagram.specs.declared.network.Branch.{Branch}

-- which nodes are joined if a branch is added to what joined nodes before it
abbrev pub with_branch : (ℕ → ℕ → Bool) → Branch → ℕ → ℕ → Bool
with_branch joins b x y =
    joins x y || (joins x b.one && joins b.other y || joins x b.other && joins b.one y)

-- which nodes branches join: at first each node only itself, then one branch after the other
abbrev pub joined : List Branch → ℕ → ℕ → Bool
joined branches = fold with_branch (λ x y. x == y) branches

-- the branch is one of these
abbrev pub IsOf : List Branch → Branch → Type 0
IsOf [] b = ⊥
IsOf (c ∷ branches) b = (c ≡ b) ⊎ IsOf branches b

-- a walk over branches, from one node to another
pub data Walk (branches : List Branch) : ℕ → ℕ → Type 0 where
  stays : {x : ℕ} → Walk branches x x
  forth : {y : ℕ} (b : Branch) → IsOf branches b → Walk branches b.other y → Walk branches b.one y
  back : {y : ℕ} (b : Branch) → IsOf branches b → Walk branches b.one y → Walk branches b.other y

-- Two nodes are joined if and only if a walk leads from one to the other.
abbrev pub JoinedIsWalk : Type 0
JoinedIsWalk = (branches : List Branch) (x y : ℕ) → joined branches x y ≡ true ↔ Walk branches x y

-- More branches join what fewer branches join.
abbrev pub JoinedGrows : Type 0
JoinedGrows = (few more : List Branch) → ((b : Branch) → IsOf few b → IsOf more b)
    → (x y : ℕ) → joined few x y ≡ true → joined more x y ≡ true

-- ---- labels

-- one label in the place of another
abbrev pub relabel : ℕ → ℕ → ℕ → ℕ
relabel from to label = if label == from then to else label

-- the label of a node after a branch
abbrev pub label_after : (ℕ → ℕ) → Branch → ℕ → ℕ
label_after label b x = relabel (label b.one) (label b.other) (label x)

-- the label of a node after all branches; before them it is the node's own number
abbrev pub label_of : List Branch → ℕ → ℕ
label_of branches = fold label_after (λ x. x) branches
