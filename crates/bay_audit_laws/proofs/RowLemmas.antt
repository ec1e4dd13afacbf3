-- What a scan writes to the rows, and what it leaves there.
use Rattle.std.proofs.Common.{◌≡◌, ◌≢◌, ℕ, ◌+◌, ◌<◌, ◌≤◌, ◌^◌, Bool, true, false, cond, nat_eq, List, [], ◌∷◌, ◌++◌, length, get_or, refl, ap, sym, subst, ◌∙◌, arith}
use Rattle.std.proofs.lemmas.Bool.Decides.{nat_tests}
use Rattle.std.proofs.lemmas.List.{append_cancel_left}
use Rattle.bay_base.specs.declared.point.Source.{Source}
use Rattle.bay_base.specs.declared.point.SwitchPoint.TheVariants.{EnableOpen, EnableClose}
use Rattle.bay_nodes.specs.Names.{StatusNames, closing_names_at, cilo_name, opening_names_at, switch_names}
use Rattle.bay_nodes.specs.declared.switch.Switch.{Switch}
use Rattle.bay_process.specs.ReportedRows.{AreValued, HoldsRelease}
use Rattle.bay_process.specs.Values.{output_of, with_enabled, with_output, with_outputs, with_status}
use Rattle.bay_process.specs.declared.switch.SwitchEnables.{SwitchEnables}
use Rattle.bay_process.proofs.ToldLemmas.{IsAway, leaf-other, same-node, stands-valued, told-here}
use Rattle.bay_tree.specs.Rows.{leaf_named}
use Rattle.bay_tree.specs.declared.leaf.Leaf.TheVariants as leaf
use Rattle.bay_tree.specs.declared.leaf.Quality.TheVariants.{Good}
use Rattle.bay_tree.specs.declared.row.Row.{Row}
use Rattle.il_image.specs.declared.value.Value.{Value}

-- ---- what is written elsewhere

-- a name is none of a status value's
record IsApart (name : List ℕ) (names : StatusNames) : Type 0 where
  value_apart : name ≢ names.value
  quality_apart : name ≢ names.quality
  time_apart : name ≢ names.time

apart-if : (t : Bool) (name : List ℕ) (names : StatusNames) (b : Bool) (now : ℕ) (rows : List Row)
    → IsApart name names
    → leaf_named name (cond t rows (with_status names (leaf.Truth b) Good now rows))
    ≡ leaf_named name rows
apart-if true name names b now rows apart = refl
apart-if false name names b now rows apart =
    leaf-other _ name names.time _ apart.time_apart
    ∙ leaf-other _ name names.quality _ apart.quality_apart
    ∙ leaf-other rows name names.value _ apart.value_apart

apart-enabled : (name : List ℕ) (names : StatusNames) (b : Bool) (now : ℕ) (rows : List Row)
    → IsApart name names → leaf_named name (with_enabled names b now rows) ≡ leaf_named name rows
apart-enabled name names b now rows apart = apart-if _ name names b now rows apart

-- a name that no interlocking node begins
module _ (name : List ℕ) (away : IsAway name) where
  away-opening : (j : ℕ) → IsApart name (opening_names_at j)
  away-opening j =
      record {
        value_apart = λ e. away j _ (sym e);
        quality_apart = λ e. away j _ (sym e);
        time_apart = λ e. away j _ (sym e);
      }

  away-closing : (j : ℕ) → IsApart name (closing_names_at j)
  away-closing j =
      record {
        value_apart = λ e. away j _ (sym e);
        quality_apart = λ e. away j _ (sym e);
        time_apart = λ e. away j _ (sym e);
      }

  pub away-outputs : (switches : List Switch) (writes : List Source) (outputs : List Value)
      (now j : ℕ) (ss : List Switch) (rows : List Row)
      → leaf_named name (with_outputs switches writes outputs now j ss rows) ≡ leaf_named name rows
  away-outputs switches writes outputs now j [] rows = refl
  away-outputs switches writes outputs now j (s ∷ ss) rows =
      away-outputs switches writes outputs now (j + 1) ss _
      ∙ apart-enabled name (closing_names_at j) _ now _ (away-closing j)
      ∙ apart-enabled name (opening_names_at j) _ now rows (away-opening j)

-- ---- the interlocking values of one switch

-- closing has another name than opening
apart-suffix : (k : ℕ) (s t : List ℕ) → get_or s 7 0 ≡ 67 → get_or t 7 0 ≡ 79
    → cilo_name k ++ s ≢ cilo_name k ++ t
apart-suffix k s t closes opens e =
    let same : s ≡ t = append_cancel_left (cilo_name k) s t e in
    let at : get_or s 7 0 ≡ get_or t 7 0 = ap (λ l. get_or l 7 0) same in
    omega (arith, closes, opens, at)

closing-apart : (k : ℕ) (s : List ℕ) → get_or s 7 0 ≡ 67
    → IsApart (cilo_name k ++ s) (opening_names_at k)
closing-apart k s at = record {
  value_apart = apart-suffix k s _ at refl;
  quality_apart = apart-suffix k s _ at refl;
  time_apart = apart-suffix k s _ at refl;
}

-- both interlocking values of the switch at a place stand in the rows, with a quality
pub record AreBoth (rows : List Row) (k : ℕ) : Type 0 where
  pub opening : AreValued rows (opening_names_at k)
  pub closing : AreValued rows (closing_names_at k)

own-told : (switches : List Switch) (k : ℕ) (s : Switch) (e : SwitchEnables) (now : ℕ)
    (rows : List Row)
    → AreBoth rows k
    → HoldsRelease (with_output (switch_names switches k s) e.may_open e.may_close now rows) k e
own-told switches k s e now rows both =
    let mid = with_enabled (opening_names_at k) e.may_open now rows in
    told-here k e now rows mid _ both.opening refl
    (record {
      value_there = λ none. both.closing.value_there
          (sym (apart-enabled _ (opening_names_at k) e.may_open now rows (closing-apart k _ refl))
          ∙ none);
      quality_there = λ none. both.closing.quality_there
          (sym (apart-enabled _ (opening_names_at k) e.may_open now rows (closing-apart k _ refl))
          ∙ none);
    }) refl

pub told-both : (rows : List Row) (k : ℕ) (e : SwitchEnables) → HoldsRelease rows k e
    → AreBoth rows k
told-both rows k e told = record {
  opening = stands-valued rows (opening_names_at k) e.may_open told.opening;
  closing = stands-valued rows (closing_names_at k) e.may_close told.closing;
}

-- ---- another switch's

module _ (k j : ℕ) (few : k + 1 < 2 ^ 64) (less : j + 1 < 2 ^ 64) (other : k ≡ j → ⊥)
    (switches : List Switch) (s : Switch) (e : SwitchEnables) (now : ℕ) (rows : List Row) where
  node-apart : (x y : List ℕ) → cilo_name k ++ 36 ∷ x ≢ cilo_name j ++ 36 ∷ y
  node-apart x y same = other (same-node k j x y few less same).0

  other-kept : (x : List ℕ)
      → leaf_named (cilo_name k ++ 36 ∷ x)
      (with_output (switch_names switches j s) e.may_open e.may_close now rows)
      ≡ leaf_named (cilo_name k ++ 36 ∷ x) rows
  other-kept x =
      apart-enabled _ (closing_names_at j) e.may_close now
      (with_enabled (opening_names_at j) e.may_open now rows)
      (record {
        value_apart = node-apart x _;
        quality_apart = node-apart x _;
        time_apart = node-apart x _;
      })
      ∙ apart-enabled _ (opening_names_at j) e.may_open now rows
      (record {
        value_apart = node-apart x _;
        quality_apart = node-apart x _;
        time_apart = node-apart x _;
      })

  other-both : AreBoth rows k
      → AreBoth (with_output (switch_names switches j s) e.may_open e.may_close now rows) k
  other-both both = record {
    opening =
        record {
          value_there = λ none. both.opening.value_there (sym (other-kept _) ∙ none);
          quality_there = λ none. both.opening.quality_there (sym (other-kept _) ∙ none);
        };
    closing =
        record {
          value_there = λ none. both.closing.value_there (sym (other-kept _) ∙ none);
          quality_there = λ none. both.closing.quality_there (sym (other-kept _) ∙ none);
        };
  }

  other-told : (d : SwitchEnables) → HoldsRelease rows k d
      → HoldsRelease (with_output (switch_names switches j s) e.may_open e.may_close now rows) k d
  other-told d told = record {
    opening =
        record {
          value_is = other-kept _ ∙ told.opening.value_is;
          quality_is = other-kept _ ∙ told.opening.quality_is;
        };
    closing =
        record {
          value_is = other-kept _ ∙ told.closing.value_is;
          quality_is = other-kept _ ∙ told.closing.quality_is;
        };
  }

-- ---- those of all switches

-- those of so many switches stand in the rows
abbrev pub AllBoth : List Row → ℕ → Type 0
AllBoth rows count = (k : ℕ) → k < count → AreBoth rows k

-- what outputs tell of the switch at a place
abbrev pub told_by : List Source → List Value → ℕ → SwitchEnables
told_by writes outputs k = record {
  may_open = output_of k EnableOpen writes outputs;
  may_close = output_of k EnableClose writes outputs;
}

module _ (switches : List Switch) (writes : List Source) (outputs : List Value) (now count : ℕ)
    (few : count ≤ 32) where
  abbrev after : ℕ → Switch → List Row → List Row
  after j s rows =
      with_output (switch_names switches j s) (output_of j EnableOpen writes outputs)
      (output_of j EnableClose writes outputs) now rows

  after-both : (b : Bool) (j : ℕ) (s : Switch) (rows : List Row) → j < count → AllBoth rows count
      → (k : ℕ) → nat_eq k j ≡ b → k < count → AreBoth (after j s rows) k
  after-both true j s rows less all k same lt =
      let is : j ≡ k = grind (arith, nat_tests) in
      subst (AreBoth (after j s rows)) is
      (told-both (after j s rows) j (told_by writes outputs j)
      (own-told switches j s (told_by writes outputs j) now rows (all j less)))
  after-both false j s rows less all k same lt =
      let other : k ≡ j → ⊥ = λ is. let yes_same : nat_eq k j ≡ true = grind (arith, nat_tests) in
      absurd cc in
      other-both k j (omega (arith, lt, few)) (omega (arith, less, few)) other switches s
      (told_by writes outputs j) now rows (all k lt)

  after-told : (b : Bool) (j : ℕ) (s : Switch) (rows : List Row) → j < count → AllBoth rows count
      → (k : ℕ) → nat_eq k j ≡ b → k < count
      → (k < j → HoldsRelease rows k (told_by writes outputs k)) → k < j + 1
      → HoldsRelease (after j s rows) k (told_by writes outputs k)
  after-told true j s rows less all k same lt before near =
      let is : j ≡ k = grind (arith, nat_tests) in
      subst (λ n. HoldsRelease (after j s rows) n (told_by writes outputs n)) is
      (own-told switches j s (told_by writes outputs j) now rows (all j less))
  after-told false j s rows less all k same lt before near =
      let other : k ≡ j → ⊥ = λ is. let yes_same : nat_eq k j ≡ true = grind (arith, nat_tests) in
      absurd cc in
      let below : k < j = omega (arith, near, other) in
      other-told k j (omega (arith, lt, few)) (omega (arith, less, few)) other switches s
      (told_by writes outputs j) now rows (told_by writes outputs k) (before below)

  -- each of them stands as the outputs tell
  pub outputs-told : (j : ℕ) (ss : List Switch) (rows : List Row) → AllBoth rows count
      → j + length ss ≤ count → (k : ℕ) → k < count
      → (k < j → HoldsRelease rows k (told_by writes outputs k)) → k < j + length ss
      → HoldsRelease (with_outputs switches writes outputs now j ss rows) k
      (told_by writes outputs k)
  outputs-told j [] rows all within k lt before near = before (omega (arith, near))
  outputs-told j (s ∷ ss) rows all within k lt before near =
      outputs-told (j + 1) ss (after j s rows)
      (λ n less. after-both (nat_eq n j) j s rows (omega (arith, within)) all n refl less)
      (omega (arith, within)) k lt
      (λ close. after-told (nat_eq k j) j s rows (omega (arith, within)) all k refl lt before close)
      (omega (arith, near))
