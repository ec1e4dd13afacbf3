-- The interlocking values as the last scan wrote them.
use Rattle.std.specs.Prelude.{◌≡◌, ◌≢◌, ◌<◌, ◌⊎◌, ℕ, ◌+◌, Bool, true, List, [], ◌∷◌, slice_get, Some, None}
use Rattle.bay_tree.specs.Rows.{leaf_named}
use Rattle.bay_tree.specs.declared.leaf.Leaf.TheVariants as leaf
use Rattle.bay_tree.specs.declared.leaf.Quality.TheVariants.{Good}
use Rattle.bay_tree.specs.declared.row.Row.{Row}
use Rattle.bay_nodes.specs.declared.switch.Switch.{Switch}
use Rattle.bay_process.specs.Releases.{ShowsReleases}
use Rattle.bay_process.specs.Values.{is_truth}
use Rattle.bay_process.specs.declared.releases.Releases.{Releases}
use Rattle.bay_process.specs.Layout.{Layout, status_names_in, AreSwitchRows}
use Rattle.bay_nodes.specs.Names.{StatusNames, opening_names_at, closing_names_at}
use Rattle.bay_process.specs.declared.rows.SwitchRows.{SwitchRows}
use Rattle.bay_process.specs.declared.switch.BoundSwitch.{BoundSwitch}
use Rattle.bay_process.specs.declared.switch.SwitchEnables.{SwitchEnables}

-- the rows have a truth value, with good quality
pub record HoldsTruth (rows : List Row) (names : StatusNames) (value : Bool) : Type 0 where
  pub value_is : leaf_named names.value rows ≡ Some (leaf.Truth value)
  pub quality_is : leaf_named names.quality rows ≡ Some (leaf.Quality Good)

-- the rows have a value and a quality
pub record AreValued (rows : List Row) (names : StatusNames) : Type 0 where
  pub value_there : leaf_named names.value rows ≢ None
  pub quality_there : leaf_named names.quality rows ≢ None

-- the rows have both interlocking values of the switch at index k, with good quality
pub record HoldsRelease (rows : List Row) (k : ℕ) (enabled : SwitchEnables) : Type 0 where
  pub opening : HoldsTruth rows (opening_names_at k) enabled.may_open
  pub closing : HoldsTruth rows (closing_names_at k) enabled.may_close

-- both interlocking values of the switch at index k, whatever their quality
abbrev pub enabled_at : List Row → ℕ → SwitchEnables
enabled_at rows k = record {
  may_open = is_truth true (leaf_named (opening_names_at k).value rows);
  may_close = is_truth true (leaf_named (closing_names_at k).value rows);
}

-- the interlocking values of switches, the first of which has index k
abbrev pub enabled_from : List Row → ℕ → List Switch → List SwitchEnables
enabled_from rows k [] = []
enabled_from rows k (s ∷ ss) = enabled_at rows k ∷ enabled_from rows (k + 1) ss

-- The stored text has the interlocking values of the rows. A scan has written those of the first n
-- switches and, once a scan is complete, those of all switches; these have good quality.
pub record AreStored (rows : List Row) (switches : List Switch) (n : ℕ)
    (kept : Releases) : Type 0 where
  pub shows : ShowsReleases switches (enabled_from rows 0 switches) kept.text.items
      kept.offsets.items
  pub written : (k : ℕ) (enabled : SwitchEnables)
      → slice_get (enabled_from rows 0 switches) k ≡ Some enabled
      → (kept.is_written ≡ true) ⊎ (k < n) → HoldsRelease rows k enabled

-- the handles of the interlocking values of the switch at index k have its names
pub record AreEnabling (layout : Layout) (k : ℕ) (rows : SwitchRows) : Type 0 where
  pub opening : status_names_in layout rows.ena_opn ≡ opening_names_at k
  pub closing : status_names_in layout rows.ena_cls ≡ closing_names_at k

-- the rows of the switch at index k have their types, and its handles their names
pub record IsInterlocked (layout : Layout) (k : ℕ) (rows : SwitchRows) : Type 0 where
  pub leaf_typed : AreSwitchRows layout rows
  pub named : AreEnabling layout k rows

-- the rows of each switch have their types, and its handles their names
abbrev pub AreInterlocked : Layout → List BoundSwitch → Type 0
AreInterlocked layout bound =
    (k : ℕ) (b : BoundSwitch) → slice_get bound k ≡ Some b → IsInterlocked layout k b.rows
