-- What a search by name finds, and that it misses no row.
use Rattle.std.proofs.Common.{◌≡◌, ◌≢◌, ℕ, ◌+◌, ◌<◌, ◌≤◌, Bool, true, false, cond, Option, Some, None, List, [], ◌∷◌, length, All, get_or, refl, ap, sym, ◌∙◌, arith, zero, suc}
use Rattle.std.proofs.lemmas.Iterator.Adapters.{position_from-zero}
use Rattle.std.proofs.lemmas.List.Quantifiers.{position-Some}
use Rattle.std.proofs.lemmas.Slice.Eq.{bytes_eq-Decides}
use Rattle.std.specs.List.{position_from}
use Rattle.std.specs.Str.{bytes_eq}
use Rattle.bay_tree.specs.declared.index.Index.{Index}
use Rattle.bay_tree.specs.declared.row.Row.{Row}
use Rattle.bay_tree.specs.Arena.{IsIndex}
use Rattle.bay_tree.specs.Rows.{name_at, names_of, row_index, IsHandle}
use Rattle.bay_tree.proofs.ArenaLemmas.{place_of-same}

-- the place found is a row's, and that row has the name
pub place_of-found : (rows : List Row) (name : List ℕ) (place : ℕ)
    → row_index rows name ≡ Some place
    → IsHandle rows place × (name_at rows place ≡ name)
place_of-found rows name place h =
    let found =
    position-Some (λ (row : Row). bytes_eq row.name name) rows place
    (record { name = []; leaf = None }) h in
    (found.0, (bytes_eq-Decides (name_at rows place) name).0 found.1)

none-either : (test : Row → Bool) (row : Row) (rows : List Row) (start : ℕ) (here : Bool)
    → test row ≡ here → cond here (Some start) (position_from test (start + 1) rows) ≡ None
    → (position_from test (start + 1) rows ≡ None → (k : ℕ) (d : Row) → k < length rows
    → test (get_or rows k d) ≡ false) → (k : ℕ) (d : Row) → k < length (row ∷ rows)
    → test (get_or (row ∷ rows) k d) ≡ false
none-either test row rows start true is none later k d lt = absurd cc
none-either test row rows start false is none later zero d lt = is
none-either test row rows start false is none later (suc k) d lt = later none k d (omega arith)

-- a search that finds nothing has missed no row
position_from-none : (test : Row → Bool) (rows : List Row) (start : ℕ)
    → position_from test start rows ≡ None → (k : ℕ) (d : Row) → k < length rows
    → test (get_or rows k d) ≡ false
position_from-none test [] start none k d lt = absurd (omega arith)
position_from-none test (row ∷ rows) start none k d lt =
    none-either test row rows start (test row) refl none (position_from-none test rows (start + 1))
    k d lt

-- where no place is found, no row has the name
pub place_of-none : (rows : List Row) (name : List ℕ) → row_index rows name ≡ None
    → All (λ (row : Row). row.name ≢ name) rows
place_of-none rows name none = λ k d lt same.
    let missed =
    position_from-none (λ (row : Row). bytes_eq row.name name) rows 0
    (sym (position_from-zero (λ (row : Row). bytes_eq row.name name) rows) ∙ none) k d lt in
    let passes = (bytes_eq-Decides (get_or rows k d).name name).1 same in
    cc

-- where a place is found, some row has the name
pub place_of-some : (rows : List Row) (name : List ℕ) (place : ℕ) → row_index rows name ≡ Some place
    → All (λ (row : Row). row.name ≢ name) rows → ⊥
place_of-some rows name place h lacking =
    let found = place_of-found rows name place h in
    lacking place (record { name = []; leaf = None }) found.0 found.1

-- where a name is follows from the names
pub place_of-stays : (before after : List Row) (name : List ℕ) → names_of before ≡ names_of after
    → row_index before name ≡ row_index after name
place_of-stays = place_of-same

absent-if : (rows : List Row) (longest : ℕ) (name : List ℕ) (found : Option ℕ)
    → row_index rows name ≡ found
    → ((k : ℕ) → k < length rows → length (name_at rows k) ≤ longest) → longest < length name
    → found ≡ None
absent-if rows longest name None is fits long = refl
absent-if rows longest name (Some place) is fits long =
    let there = place_of-found rows name place is in
    let short = fits place there.0 in
    let same : length (name_at rows place) ≡ length name = ap length there.1 in
    absurd (omega (arith, short, same, long))

-- no row has a name that is longer than each row's
pub longer-is-unknown : (rows : List Row) (index : Index) (name : List ℕ) → IsIndex rows index
    → index.longest < length name → None ≡ row_index rows name
longer-is-unknown rows index name indexed long =
    sym (absent-if rows index.longest name (row_index rows name) refl indexed.longest long)
