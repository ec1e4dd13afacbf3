-- What a bad position and a doubt of a measured value leave of a position that is bad already.
use Rattle.std.proofs.Common.{◌≡◌, ◌≢◌, ℕ, ◌+◌, Bool, true, false, cond, List, [], ◌∷◌, ◌++◌, codes, Option, Some, None, refl, ap, sym, subst, ◌∙◌, arith}
use Rattle.std.specs.Str.{bytes_eq}
use Rattle.std.proofs.lemmas.Bool.{and_parts}
use Rattle.std.proofs.lemmas.Slice.Eq.{bytes_eq-Decides}
use Rattle.bay_base.specs.declared.point.MeterField.{MeterField}
use Rattle.bay_base.specs.declared.point.MeterField.TheVariants.{TotW, TotVAr, Hz, PhaseA, PhaseB, PhaseC}
use Rattle.bay_nodes.specs.Names.{StatusNames, cswi_name, meter_names, switch_node, position_names, switch_names}
use Rattle.bay_nodes.specs.Node.{node_name}
use Rattle.bay_nodes.specs.declared.switch.Switch.{Switch}
use Rattle.bay_process.specs.Names.{field_names}
use Rattle.bay_process.specs.Values.{is_position, is_quality, rows_after_change, rows_after_contact, rows_after_bad_measure, has_position, has_invalid_measure, with_status}
use Rattle.bay_process.proofs.ToldLemmas.{leaf-other, leaf-own}
use Rattle.bay_tree.specs.Rows.{leaf_named, with_leaf_named}
use Rattle.bay_base.specs.declared.position.Dbpos.TheVariants.{Intermediate, Off, On, Bad}
use Rattle.bay_tree.specs.declared.leaf.Leaf.{Leaf}
use Rattle.bay_tree.specs.declared.leaf.Leaf.TheVariants as leaf
use Rattle.bay_tree.specs.declared.leaf.Quality.TheVariants.{Good, Invalid}
use Rattle.bay_tree.specs.declared.row.Row.{Row}

-- ---- one name

-- the last octet of a name, or this one where there is none
abbrev ending : ℕ → List ℕ → ℕ
ending d [] = d
ending d (x ∷ xs) = ending x xs

ending-behind : (d : ℕ) (node : List ℕ) (x : ℕ) (xs : List ℕ)
    → ending d (node ++ x ∷ xs) ≡ ending x xs
ending-behind d [] x xs = refl
ending-behind d (y ∷ node) x xs = ending-behind y node x xs

-- the names of a value, of its quality and of its moment have other ends
record AreEnded (names : StatusNames) : Type 0 where
  value : ending 0 names.value ≡ 108
  quality : ending 0 names.quality ≡ 113
  time : ending 0 names.time ≡ 116

position-ends : (node : List ℕ) → AreEnded (position_names node)
position-ends node =
    record {
      value = ending-behind 0 node 36 _;
      quality = ending-behind 0 node 36 _;
      time = ending-behind 0 node 36 _;
    }

-- of a field of a meter, its quality and its moment
record AreDoubtEnded (names : StatusNames) : Type 0 where
  quality : ending 0 names.quality ≡ 113
  time : ending 0 names.time ≡ 116

field-ends : (k : ℕ) (field : MeterField) → AreDoubtEnded (field_names field (meter_names k))
field-ends k TotW =
    let node = node_name (codes "MMXU") (k + 1) in
    record { quality = ending-behind 0 node 36 _; time = ending-behind 0 node 36 _ }
field-ends k TotVAr =
    let node = node_name (codes "MMXU") (k + 1) in
    record { quality = ending-behind 0 node 36 _; time = ending-behind 0 node 36 _ }
field-ends k Hz =
    let node = node_name (codes "MMXU") (k + 1) in
    record { quality = ending-behind 0 node 36 _; time = ending-behind 0 node 36 _ }
field-ends k PhaseA =
    let node = node_name (codes "MMXU") (k + 1) in
    record { quality = ending-behind 0 node 36 _; time = ending-behind 0 node 36 _ }
field-ends k PhaseB =
    let node = node_name (codes "MMXU") (k + 1) in
    record { quality = ending-behind 0 node 36 _; time = ending-behind 0 node 36 _ }
field-ends k PhaseC =
    let node = node_name (codes "MMXU") (k + 1) in
    record { quality = ending-behind 0 node 36 _; time = ending-behind 0 node 36 _ }

other-end : (n m : List ℕ) (x y : ℕ) → ending 0 n ≡ x → ending 0 m ≡ y → x ≢ y → n ≢ m
other-end n m x y p q other e = other (sym p ∙ ap (ending 0) e ∙ q)

-- what is written elsewhere, or is the same, leaves the value of a name
kept-if : (b : Bool) (rows : List Row) (n m : List ℕ) (before value : Leaf) → bytes_eq n m ≡ b
    → (n ≡ m → value ≡ before) → leaf_named n rows ≡ Some before
    → leaf_named n (with_leaf_named m value rows) ≡ Some before
kept-if true rows n m before value test same is =
    let e : n ≡ m = (bytes_eq-Decides n m).0 test in
    subst (λ k. leaf_named n (with_leaf_named k value rows) ≡ Some before) e
    (leaf-own rows n value (λ none. let no : Some before ≡ None = sym is ∙ none in cc)
    ∙ ap (λ (v : Leaf). let o : Option Leaf = Some v in o) (same e))
kept-if false rows n m before value test same is =
    leaf-other rows n m value (λ e. let yes : bytes_eq n m ≡ true = (bytes_eq-Decides n m).1 e in
    let no : false ≡ true = sym test ∙ yes in cc) ∙ is

kept : (rows : List Row) (n m : List ℕ) (before value : Leaf) → (n ≡ m → value ≡ before)
    → leaf_named n rows ≡ Some before → leaf_named n (with_leaf_named m value rows) ≡ Some before
kept rows n m before value = kept-if (bytes_eq n m) rows n m before value refl

-- a name that has a value goes on having one
stands-if : (b : Bool) (rows : List Row) (n m : List ℕ) (value : Leaf) → bytes_eq n m ≡ b
    → leaf_named n rows ≢ None → leaf_named n (with_leaf_named m value rows) ≢ None
stands-if true rows n m value test there none =
    let e : n ≡ m = (bytes_eq-Decides n m).0 test in
    let own : leaf_named n (with_leaf_named m value rows) ≡ Some value =
    subst (λ k. leaf_named n (with_leaf_named k value rows) ≡ Some value) e
    (leaf-own rows n value there) in
    let no : Some value ≡ None = sym own ∙ none in cc
stands-if false rows n m value test there none =
    there (sym (leaf-other rows n m value
    (λ e. let yes : bytes_eq n m ≡ true = (bytes_eq-Decides n m).1 e in
    let no : false ≡ true = sym test ∙ yes in cc)) ∙ none)

stands : (rows : List Row) (n m : List ℕ) (value : Leaf) → leaf_named n rows ≢ None
    → leaf_named n (with_leaf_named m value rows) ≢ None
stands rows n m value = stands-if (bytes_eq n m) rows n m value refl

-- ---- what a bad position and a doubt leave

-- They write nothing else to this name.
record Lasts (n : List ℕ) (value : Leaf) : Type 0 where
  on_value : (m : List ℕ) → ending 0 m ≡ 108 → n ≡ m → leaf.Dbpos Bad ≡ value
  on_quality : (m : List ℕ) → ending 0 m ≡ 113 → n ≡ m → leaf.Quality Invalid ≡ value
  on_time : (m : List ℕ) → ending 0 m ≡ 116 → n ≢ m

lasts-value : (n : List ℕ) → ending 0 n ≡ 108 → Lasts n (leaf.Dbpos Bad)
lasts-value n ends = record {
  on_value = λ m e same. refl;
  on_quality = λ m e same. absurd (other-end n m 108 113 ends e (λ no. omega (arith, no)) same);
  on_time = λ m e same. other-end n m 108 116 ends e (λ no. omega (arith, no)) same;
}

lasts-quality : (n : List ℕ) → ending 0 n ≡ 113 → Lasts n (leaf.Quality Invalid)
lasts-quality n ends = record {
  on_value = λ m e same. absurd (other-end n m 113 108 ends e (λ no. omega (arith, no)) same);
  on_quality = λ m e same. refl;
  on_time = λ m e same. other-end n m 113 116 ends e (λ no. omega (arith, no)) same;
}

module _ (n : List ℕ) (value : Leaf) (lasts : Lasts n value) where
  abbrev Holds : List Row → Type 0
  Holds rows = leaf_named n rows ≡ Some value

  holds-if : (b : Bool) (x y : List Row) → Holds x → Holds y → Holds (cond b x y)
  holds-if true x y p q = p
  holds-if false x y p q = q

  status-holds : (names : StatusNames) (now : ℕ) (rows : List Row) → AreEnded names → Holds rows
      → Holds (with_status names (leaf.Dbpos Bad) Invalid now rows)
  status-holds names now rows ends is =
      kept _ n names.time value (leaf.Utc now) (λ e. absurd (lasts.on_time names.time ends.time e))
      (kept _ n names.quality value (leaf.Quality Invalid)
      (lasts.on_quality names.quality ends.quality)
      (kept rows n names.value value (leaf.Dbpos Bad) (lasts.on_value names.value ends.value) is))

  contact-holds : (switches : List Switch) (j : ℕ) (switch : Switch) (now : ℕ) (rows : List Row)
      → Holds rows → Holds (rows_after_contact (switch_names switches j switch) Bad now rows)
  contact-holds switches j switch now rows is =
      let names = switch_names switches j switch in
      holds-if (has_position names.position Bad rows) rows (rows_after_change names Bad now rows) is
      (status-holds names.control now _ (position-ends (cswi_name j))
      (status-holds names.position now rows (position-ends (switch_node switches j switch)) is))

  doubt-holds : (k : ℕ) (field : MeterField) (now : ℕ) (rows : List Row) → Holds rows
      → Holds (rows_after_bad_measure (field_names field (meter_names k)) now rows)
  doubt-holds k field now rows is =
      let names = field_names field (meter_names k) in
      let ends = field-ends k field in
      holds-if (has_invalid_measure names rows) rows _ is
      (kept _ n names.time value (leaf.Utc now) (λ e. absurd (lasts.on_time names.time ends.time e))
      (kept rows n names.quality value (leaf.Quality Invalid)
      (lasts.on_quality names.quality ends.quality) is))

-- ---- a bad position

-- a position is bad, with an invalid quality
pub record BadAt (node : List ℕ) (rows : List Row) : Type 0 where
  pub value : leaf_named (position_names node).value rows ≡ Some (leaf.Dbpos Bad)
  pub quality : leaf_named (position_names node).quality rows ≡ Some (leaf.Quality Invalid)

pub contact-bad : (node : List ℕ) (switches : List Switch) (j : ℕ) (switch : Switch) (now : ℕ)
    (rows : List Row) → BadAt node rows
    → BadAt node (rows_after_contact (switch_names switches j switch) Bad now rows)
contact-bad node switches j switch now rows is = record {
  value = contact-holds _ _ (lasts-value _ (position-ends node).value) switches j switch now rows
      is.value;
  quality = contact-holds _ _ (lasts-quality _ (position-ends node).quality) switches j switch now
      rows is.quality;
}

pub doubt-bad : (node : List ℕ) (k : ℕ) (field : MeterField) (now : ℕ) (rows : List Row)
    → BadAt node rows
    → BadAt node (rows_after_bad_measure (field_names field (meter_names k)) now rows)
doubt-bad node k field now rows is = record {
  value = doubt-holds _ _ (lasts-value _ (position-ends node).value) k field now rows is.value;
  quality = doubt-holds _ _ (lasts-quality _ (position-ends node).quality) k field now rows
      is.quality;
}

bad-position : (o : Option Leaf) → is_position Bad o ≡ true → o ≡ Some (leaf.Dbpos Bad)
bad-position (Some (leaf.Dbpos Bad)) h = refl
bad-position (Some (leaf.Dbpos Intermediate)) h = absurd cc
bad-position (Some (leaf.Dbpos Off)) h = absurd cc
bad-position (Some (leaf.Dbpos On)) h = absurd cc
bad-position None h = absurd cc
bad-position (Some (leaf.Truth b)) h = absurd cc
bad-position (Some (leaf.Int32 n)) h = absurd cc
bad-position (Some (leaf.Quality q)) h = absurd cc
bad-position (Some (leaf.Int8 n)) h = absurd cc
bad-position (Some (leaf.Unsigned8 n)) h = absurd cc
bad-position (Some (leaf.Unsigned32 n)) h = absurd cc
bad-position (Some (leaf.Float n)) h = absurd cc
bad-position (Some (leaf.Octets n)) h = absurd cc
bad-position (Some (leaf.Reference n)) h = absurd cc
bad-position (Some (leaf.Text n)) h = absurd cc
bad-position (Some (leaf.Utc n)) h = absurd cc

invalid-quality : (o : Option Leaf) → is_quality Invalid o ≡ true → o ≡ Some (leaf.Quality Invalid)
invalid-quality (Some (leaf.Quality Invalid)) h = refl
invalid-quality (Some (leaf.Quality Good)) h = absurd cc
invalid-quality None h = absurd cc
invalid-quality (Some (leaf.Dbpos p)) h = absurd cc
invalid-quality (Some (leaf.Truth b)) h = absurd cc
invalid-quality (Some (leaf.Int32 n)) h = absurd cc
invalid-quality (Some (leaf.Int8 n)) h = absurd cc
invalid-quality (Some (leaf.Unsigned8 n)) h = absurd cc
invalid-quality (Some (leaf.Unsigned32 n)) h = absurd cc
invalid-quality (Some (leaf.Float n)) h = absurd cc
invalid-quality (Some (leaf.Octets n)) h = absurd cc
invalid-quality (Some (leaf.Reference n)) h = absurd cc
invalid-quality (Some (leaf.Text n)) h = absurd cc
invalid-quality (Some (leaf.Utc n)) h = absurd cc

-- the rows of a position are there
pub record AreThere (node : List ℕ) (rows : List Row) : Type 0 where
  pub value : leaf_named (position_names node).value rows ≢ None
  pub quality : leaf_named (position_names node).quality rows ≢ None

pub written-there : (node : List ℕ) (name : List ℕ) (value : Leaf) (rows : List Row)
    → AreThere node rows → AreThere node (with_leaf_named name value rows)
written-there node name value rows there = record {
  value = stands rows _ name value there.value;
  quality = stands rows _ name value there.quality;
}

status-bad : (node : List ℕ) (now : ℕ) (rows : List Row) → AreThere node rows
    → BadAt node (with_status (position_names node) (leaf.Dbpos Bad) Invalid now rows)
status-bad node now rows there =
    let names = position_names node in
    let ends = position-ends node in
    let v = lasts-value names.value ends.value in
    let q = lasts-quality names.quality ends.quality in
    record {
      value =
          kept _ names.value names.time _ (leaf.Utc now)
          (λ e. absurd (v.on_time names.time ends.time e))
          (kept _ names.value names.quality _ (leaf.Quality Invalid)
          (v.on_quality names.quality ends.quality)
          (leaf-own rows names.value (leaf.Dbpos Bad) there.value));
      quality =
          kept _ names.quality names.time _ (leaf.Utc now)
          (λ e. absurd (q.on_time names.time ends.time e))
          (leaf-own _ names.quality (leaf.Quality Invalid)
          (stands rows names.quality names.value (leaf.Dbpos Bad) there.quality));
    }

pub bad-if : (b : Bool) (node control : List ℕ) (now : ℕ) (rows : List Row)
    → has_position (position_names node) Bad rows ≡ b → AreThere node rows
    → BadAt node (cond b rows (with_status (position_names control) (leaf.Dbpos Bad) Invalid now
    (with_status (position_names node) (leaf.Dbpos Bad) Invalid now rows)))
bad-if true node control now rows told there =
    let both = and_parts (is_position Bad (leaf_named (position_names node).value rows))
    (is_quality Invalid (leaf_named (position_names node).quality rows)) told in
    record {
      value = bad-position (leaf_named (position_names node).value rows) both.0;
      quality = invalid-quality (leaf_named (position_names node).quality rows) both.1;
    }
bad-if false node control now rows told there =
    let names = position_names node in
    let ends = position-ends node in
    let first = status-bad node now rows there in
    record {
      value = status-holds _ _ (lasts-value names.value ends.value) (position_names control) now _
          (position-ends control) first.value;
      quality = status-holds _ _ (lasts-quality names.quality ends.quality)
          (position_names control) now _ (position-ends control) first.quality;
    }
