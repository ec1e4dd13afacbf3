-- The search for the rows below a structure.
use Rattle.std.proofs.Common.{◌≡◌, ℕ, zero, suc, ◌+◌, ◌-◌, ◌<◌, ◌≤◌, Bool, true, false, cond, ◌∙◌, Option, Some, None, IfSome, List, [], ◌∷◌, length, drop, refl, ap, sym, subst, arith}
use Rattle.std.proofs.lemmas.Bool.{false_from_ne_true}
use Rattle.std.proofs.lemmas.List.{drop-drop, length-drop}
use Rattle.std.proofs.lemmas.Slice.Eq.{bytes_eq-Decides}
use Rattle.std.specs.List.{position_from}
use Rattle.std.specs.Str.{bytes_eq}
use Rattle.bay_tree.specs.declared.row.Row.{Row}
use Rattle.bay_tree.specs.Names.{parent_of, is_parent, is_below}
use Rattle.bay_tree.specs.Rows.{row_at, name_at, IsTree, IsStructureNamed, first_below, first_below_from, next_below, next_beside, indices_below_from, indices_below, indices_after, indices_since}

-- a search that passes over rows which fail the test goes on behind them
position_from-skip : (test : Row → Bool) (rows : List Row) (n start past : ℕ) → past ≡ start + n
    → n ≤ length rows → ((k : ℕ) → k < n → test (row_at rows k) ≡ false)
    → position_from test start rows ≡ position_from test past (drop n rows)
position_from-skip test rows zero start past is within none = let same : past ≡ start =
    omega arith in rw same
position_from-skip test [] (suc n) start past is within none = absurd (omega arith)
position_from-skip test (row ∷ rows) (suc n) start past is within none =
    let here : test row ≡ false = none 0 (omega arith) in
    rw here (position_from-skip test rows n (start + 1) past (omega arith) (omega arith)
    (λ k lt. none (suc k) (omega arith)))

is_parent-not : (parent : List ℕ) (own : Option (List ℕ)) → (own ≡ Some parent → ⊥)
    → is_parent parent own ≡ false
is_parent-not parent None h = refl
is_parent-not parent (Some own) h =
    false_from_ne_true (bytes_eq own parent)
    (λ same. h (ap Some ((bytes_eq-Decides own parent).0 same)))

-- a row's parent stands before it
parent-before : (rows : List Row) (place k : ℕ) → IsTree rows → place < length rows → k ≤ place
    → parent_of (name_at rows k) ≡ Some (name_at rows place) → ⊥
parent-before rows place k tree within le own =
    let P : Option (List ℕ) → Type 0 =
    λ o. IfSome o (λ parent. (j : ℕ) × (j < k) × IsStructureNamed parent (row_at rows j)) in
    let above = subst P own (tree.parents k (omega arith)) in
    tree.distinct above.0 place (omega (arith, above.1)) within above.2.named

pub first_below-skip : (rows : List Row) (place : ℕ) → IsTree rows → place < length rows
    → first_below rows place
    ≡ first_below_from (place + 1) (drop (place + 1) rows) (name_at rows place)
first_below-skip rows place tree within =
    position_from-skip (λ (row : Row). is_below (name_at rows place) row.name) rows (place + 1) 0
    (place + 1) (omega arith) (omega arith)
    (λ k lt. is_parent-not (name_at rows place) (parent_of (name_at rows k))
    (parent-before rows place k tree within (omega arith)))

within-either : (test : Row → Bool) (row : Row) (rows : List Row) (start k : ℕ) (here : Bool)
    → cond here (Some start) (position_from test (start + 1) rows) ≡ Some k
    → (position_from test (start + 1) rows ≡ Some k → start + 1 ≤ k) → start ≤ k
within-either test row rows start k true found later = let same : start ≡ k = cc in omega arith
within-either test row rows start k false found later = omega (arith, later found)

-- what a search finds stands at its start or behind it
pub position_from-start : (test : Row → Bool) (rows : List Row) (start k : ℕ)
    → position_from test start rows ≡ Some k → start ≤ k
position_from-start test [] start k found = absurd cc
position_from-start test (row ∷ rows) start k found =
    within-either test row rows start k (test row) found
    (λ later. position_from-start test rows (start + 1) k later)

-- the first place found, and the places in the rest of the list
abbrev since : ℕ → List Row → List ℕ → Option ℕ → List ℕ
since start rows parent None = []
since start rows parent (Some k) =
    k ∷ indices_below_from (k + 1) (drop ((k + 1) - start) rows) parent

since-shift : (start : ℕ) (row : Row) (rows : List Row) (parent : List ℕ) (o : Option ℕ)
    → IfSome o (λ k. start + 1 ≤ k)
    → since (start + 1) rows parent o ≡ since start (row ∷ rows) parent o
since-shift start row rows parent None h = refl
since-shift start row rows parent (Some k) h =
    let same : (k + 1) - start ≡ suc ((k + 1) - (start + 1)) = omega arith in
    rw same

found-behind : (start : ℕ) (rows : List Row) (parent : List ℕ) (o : Option ℕ)
    → first_below_from start rows parent ≡ o → IfSome o (λ k. start ≤ k)
found-behind start rows parent None h = tt
found-behind start rows parent (Some k) h =
    position_from-start (λ (row : Row). is_below parent row.name) rows start k h

since-either : (start : ℕ) (row : Row) (rows : List Row) (parent : List ℕ) (here : Bool)
    → indices_below_from (start + 1) rows parent
    ≡ since (start + 1) rows parent (first_below_from (start + 1) rows parent)
    → cond here (start ∷ indices_below_from (start + 1) rows parent)
    (indices_below_from (start + 1) rows parent)
    ≡ since start (row ∷ rows) parent
    (cond here (Some start) (first_below_from (start + 1) rows parent))
since-either start row rows parent true later =
    let same : (start + 1) - start ≡ suc zero = omega arith in
    rw same
since-either start row rows parent false later =
    later ∙ since-shift start row rows parent (first_below_from (start + 1) rows parent)
    (found-behind (start + 1) rows parent (first_below_from (start + 1) rows parent) refl)

places_below_from-first : (start : ℕ) (rows : List Row) (parent : List ℕ)
    → indices_below_from start rows parent
    ≡ since start rows parent (first_below_from start rows parent)
places_below_from-first start [] parent = refl
places_below_from-first start (row ∷ rows) parent =
    since-either start row rows parent (is_below parent row.name)
    (places_below_from-first (start + 1) rows parent)

since-drop : (rows : List Row) (parent : List ℕ) (start : ℕ) (o : Option ℕ)
    → IfSome o (λ k. start ≤ k)
    → since start (drop start rows) parent o ≡ indices_since rows parent o
since-drop rows parent start None h = refl
since-drop rows parent start (Some k) h =
    let same : start + ((k + 1) - start) ≡ k + 1 = omega arith in
    rw (drop-drop ((k + 1) - start) start rows, same)

-- the places from a start on are the first that is found and those behind it
pub places_since-first : (rows : List Row) (parent : List ℕ) (start : ℕ)
    → indices_below_from start (drop start rows) parent
    ≡ indices_since rows parent (first_below_from start (drop start rows) parent)
places_since-first rows parent start =
    places_below_from-first start (drop start rows) parent
    ∙ since-drop rows parent start (first_below_from start (drop start rows) parent)
    (found-behind start (drop start rows) parent
    (first_below_from start (drop start rows) parent) refl)

-- a structure's places are the first that is found below it and those behind that
pub places_below-first : (rows : List Row) (place : ℕ) (found : Option ℕ)
    → found ≡ first_below rows place
    → indices_below rows (name_at rows place) ≡ indices_since rows (name_at rows place) found
places_below-first rows place found is = rw is (places_since-first rows (name_at rows place) 0)

next-since : (rows : List Row) (place : ℕ) (parent : Option (List ℕ))
    → IfSome parent (λ name. indices_after rows name place
    ≡ indices_since rows name (next_below rows place parent))
next-since rows place None = tt
next-since rows place (Some name) = places_since-first rows name (place + 1)

-- the places behind a row are the next beside it and those behind that
pub places_behind-next : (rows : List Row) (place : ℕ) (found : Option ℕ)
    → found ≡ next_beside rows place
    → IfSome (parent_of (name_at rows place))
    (λ parent. indices_after rows parent place ≡ indices_since rows parent found)
places_behind-next rows place found is =
    rw is (next-since rows place (parent_of (name_at rows place)))

end-either : (test : Row → Bool) (row : Row) (rows : List Row) (start k : ℕ) (here : Bool)
    → cond here (Some start) (position_from test (start + 1) rows) ≡ Some k
    → (position_from test (start + 1) rows ≡ Some k → k < start + 1 + length rows)
    → k < start + length (row ∷ rows)
end-either test row rows start k true found later = let same : start ≡ k = cc in omega arith
end-either test row rows start k false found later = omega (arith, later found)

-- what a search finds stands within the list
pub position_from-end : (test : Row → Bool) (rows : List Row) (start k : ℕ)
    → position_from test start rows ≡ Some k → k < start + length rows
position_from-end test [] start k found = absurd cc
position_from-end test (row ∷ rows) start k found =
    end-either test row rows start k (test row) found
    (λ later. position_from-end test rows (start + 1) k later)

-- what is found behind a place stands behind it, and within the rows
found-after : (rows : List Row) (place k : ℕ) (parent : List ℕ) → place < length rows
    → first_below_from (place + 1) (drop (place + 1) rows) parent ≡ Some k
    → (place < k) × (k < length rows)
found-after rows place k parent within found =
    let behind : place + 1 ≤ k =
    position_from-start (λ (row : Row). is_below parent row.name) (drop (place + 1) rows)
    (place + 1) k found in
    let before : k < (place + 1) + length (drop (place + 1) rows) =
    position_from-end (λ (row : Row). is_below parent row.name) (drop (place + 1) rows)
    (place + 1) k found in
    let rest : length (drop (place + 1) rows) ≡ length rows - (place + 1) =
    length-drop (place + 1) rows in
    (omega arith, omega arith)

pub first_below-after : (rows : List Row) (place k : ℕ) → IsTree rows → place < length rows
    → Some k ≡ first_below rows place → (place < k) × (k < length rows)
first_below-after rows place k tree within found =
    found-after rows place k (name_at rows place) within
    (sym (found ∙ first_below-skip rows place tree within))

next-after : (rows : List Row) (place k : ℕ) (parent : Option (List ℕ)) → place < length rows
    → Some k ≡ next_below rows place parent → (place < k) × (k < length rows)
next-after rows place k None within found = absurd cc
next-after rows place k (Some parent) within found =
    found-after rows place k parent within (sym found)

pub next_beside-after : (rows : List Row) (place k : ℕ) → place < length rows
    → Some k ≡ next_beside rows place → (place < k) × (k < length rows)
next_beside-after rows place k within found =
    next-after rows place k (parent_of (name_at rows place)) within found
