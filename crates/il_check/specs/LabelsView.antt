-- Inner: the labels of a program in the code.
use Rattle.std.specs.Prelude.{◌≡◌, ℕ, List, [], ◌∷◌, ◌++◌, map, Option}
use Rattle.std.specs.BTreeMap.{get_by_text}
use Rattle.bay_base.specs.Names.{upper}
use Rattle.il_text.specs.Listing as text
use Rattle.il_check.specs.Declaring.{looked_up}
use Rattle.il_check.specs.NamesView.{with_value}
use Rattle.il_check.specs.WellTyped.{no_reach}
use Rattle.il_check.specs.declared.labels.Labels.{Labels}

-- ---- own: views of the code

-- the name and the number of an item, if it is a label
abbrev pub label_in : ℕ → text.Entry → List (List ℕ × ℕ)
label_in number (text.label line name) = (upper name, number) ∷ []
label_in number (text.action line a) = []
label_in number (text.block line operator negated items end) = []

-- the numbers of labels, with one label added, if there is one
abbrev pub with_labels : (List ℕ → Option ℕ) → List (List ℕ × ℕ) → List ℕ → Option ℕ
with_labels numbers [] other = numbers other
with_labels numbers (l ∷ ls) other = with_value numbers l.0 l.1 other

-- These labels, at most one, are added.
pub record AddsLabels (labels : List (List ℕ × ℕ)) (old new : Labels) : Type 0 where
  pub arrivals : new.arrivals.items ≡ old.arrivals.items ++ map (λ l. no_reach) labels
  pub numbers : (other : List ℕ)
      → get_by_text new.numbers other ≡ with_labels (λ q. get_by_text old.numbers q) labels other

-- These are all labels.
pub record AreLabels (labels : List (List ℕ × ℕ)) (l : Labels) : Type 0 where
  pub numbers : (name : List ℕ) → get_by_text l.numbers name ≡ looked_up labels name
  pub arrivals : l.arrivals.items ≡ map (λ l. no_reach) labels
