-- What the last scan wrote stands until the next one: no contact and no measure writes an
-- interlocking value.
use Rattle.std.proofs.Common.{◌≡◌, ◌≢◌, ℕ, ℤ, pos, ◌+ℤ◌, int_lt, ◌+◌, ◌<◌, ◌^◌, Bool, true, false, cond, ◌&&◌, nat_eq, List, [], ◌∷◌, ◌++◌, find, get_or, drop, codes, Option, Some, None, option_and_then, refl, ap, sym, ◌∙◌, arith}
use Rattle.std.specs.Bool.{beq}
use Rattle.std.specs.Char.{digit_value}
use Rattle.std.specs.Fmt.{decimal}
use Rattle.std.specs.List.{AllByRecursion}
use Rattle.std.specs.Str.{bytes_eq}
use Rattle.std.specs.Str.Parse.{AllDigits}
use Rattle.std.proofs.lemmas.Bool.{and_parts}
use Rattle.std.proofs.lemmas.Bool.Decides.{nat_tests}
use Rattle.std.proofs.lemmas.Fmt.{decimal_is_IsNumeral, decimal_injective}
use Rattle.std.proofs.lemmas.List.{append_cancel_left}
use Rattle.std.proofs.lemmas.Slice.Eq.{bytes_eq-Decides}
use Rattle.bay_tree.specs.Rows.{leaf_named, with_leaf_named}
use Rattle.bay_tree.specs.declared.row.Row.{Row}
use Rattle.bay_tree.specs.declared.leaf.Leaf.{Leaf}
use Rattle.bay_tree.specs.declared.leaf.Leaf.TheVariants as leaf
use Rattle.bay_base.specs.declared.position.Dbpos.{Dbpos}
use Rattle.bay_tree.specs.declared.leaf.Quality.{Quality}
use Rattle.bay_tree.specs.declared.leaf.Quality.TheVariants.{Good, Invalid}
use Rattle.bay_nodes.specs.Node.{class_of, node_name, node_number}
use Rattle.bay_base.specs.declared.point.MeterField.{MeterField}
use Rattle.bay_base.specs.declared.point.MeterField.TheVariants.{TotW, TotVAr, Hz, PhaseA, PhaseB, PhaseC}
use Rattle.bay_nodes.specs.declared.switch.Switch.{Switch}
use Rattle.bay_base.specs.declared.switch.SwitchKind.{SwitchKind}
use Rattle.bay_base.specs.declared.switch.SwitchKind.TheVariants.{Breaker, Disconnector, Earthing}
use Rattle.bay_process.specs.Values.{is_truth, is_quality, with_status, with_enabled, with_count, rows_after_operation, is_operation, has_position, position_quality, rows_after_change, rows_after_contact, has_invalid_measure, has_measure, is_float, rows_after_bad_measure, rows_after_measure}
use Rattle.bay_nodes.specs.Names.{StatusNames, switch_names, switch_node, float_names, meter_names, cilo_name, opening_names_at, closing_names_at}
use Rattle.bay_process.specs.Names.{field_float, field_names}
use Rattle.bay_process.specs.declared.switch.SwitchEnables.{SwitchEnables}
use Rattle.bay_process.specs.ReportedRows.{AreValued, HoldsRelease, HoldsTruth}

-- ---- one row

-- what a found row has
abbrev value_of : Option Row → Option Leaf
value_of found = option_and_then (λ (r : Row). r.leaf) found

abbrev written : Bool → Leaf → Row → Row
written b value r = cond b (record { name = r.name; leaf = Some value }) r

other-if : (b c : Bool) (r : Row) (rest before : Option Row) (name other : List ℕ) (value : Leaf)
    → bytes_eq r.name other ≡ b → bytes_eq r.name name ≡ c → name ≢ other
    → value_of rest ≡ value_of before
    → value_of (cond (bytes_eq (written b value r).name name) (Some (written b value r)) rest)
    ≡ value_of (cond (bytes_eq r.name name) (Some r) before)
other-if true true r rest before name other value here there apart same =
    absurd (apart (sym ((bytes_eq-Decides r.name name).0 there)
    ∙ (bytes_eq-Decides r.name other).0 here))
other-if true false r rest before name other value here there apart same = rw there same
other-if false true r rest before name other value here there apart same = rw there refl
other-if false false r rest before name other value here there apart same = rw there same

-- another name's value stays
pub leaf-other : (rows : List Row) (name other : List ℕ) (value : Leaf) → name ≢ other
    → leaf_named name (with_leaf_named other value rows) ≡ leaf_named name rows
leaf-other [] name other value apart = refl
leaf-other (r ∷ rows) name other value apart =
    other-if (bytes_eq r.name other) (bytes_eq r.name name) r
    (find (λ q. bytes_eq q.name name) (with_leaf_named other value rows))
    (find (λ q. bytes_eq q.name name) rows) name other value refl refl apart
    (leaf-other rows name other value apart)

own-if : (b : Bool) (r : Row) (rest before : Option Row) (name : List ℕ) (value : Leaf)
    → bytes_eq r.name name ≡ b → value_of (cond b (Some r) before) ≢ None
    → (value_of before ≢ None → value_of rest ≡ Some value)
    → value_of (cond (bytes_eq (written b value r).name name) (Some (written b value r)) rest)
    ≡ Some value
own-if true r rest before name value here there below = rw here refl
own-if false r rest before name value here there below = rw here (below there)

-- the value that was written stands, if there was one
pub leaf-own : (rows : List Row) (name : List ℕ) (value : Leaf) → leaf_named name rows ≢ None
    → leaf_named name (with_leaf_named name value rows) ≡ Some value
leaf-own [] name value there = absurd (there refl)
leaf-own (r ∷ rows) name value there =
    own-if (bytes_eq r.name name) r
    (find (λ q. bytes_eq q.name name) (with_leaf_named name value rows))
    (find (λ q. bytes_eq q.name name) rows) name value refl there (leaf-own rows name value)

-- ---- names

abbrev IsPlain : List ℕ → Type 0
IsPlain word = AllByRecursion (λ c. nat_eq c 36 ≡ false) word

not-dollar : (c : ℕ) → digit_value c < 10 → nat_eq c 36 ≡ false
not-dollar c h = grind (arith, nat_tests)

plain-digits : (ds : List ℕ) → AllDigits 10 ds → IsPlain ds
plain-digits [] h = tt
plain-digits (c ∷ cs) h = (not-dollar c h.0, plain-digits cs h.1)

dollar-not : (c : ℕ) → nat_eq c 36 ≡ false → c ≡ 36 → ⊥
dollar-not c h e = let is : nat_eq c 36 ≡ true = grind (arith, nat_tests) in absurd cc

-- two words before a `$` are one, and so is what follows
words-same : (a b s t : List ℕ) → IsPlain a → IsPlain b → a ++ 36 ∷ s ≡ b ++ 36 ∷ t
    → (a ≡ b) × (s ≡ t)
words-same [] [] s t p q e = (refl, cc)
words-same [] (c ∷ b) s t p q e = absurd (dollar-not c q.0 (sym (ap (λ l. get_or l 0 0) e)))
words-same (c ∷ a) [] s t p q e = absurd (dollar-not c p.0 (ap (λ l. get_or l 0 0) e))
words-same (c ∷ a) (d ∷ b) s t p q e =
    let rest = words-same a b s t p.1 q.1 (ap (drop 1) e) in
    let first : c ≡ d = ap (λ l. get_or l 0 0) e in
    (ap (λ w. c ∷ w) rest.0 ∙ ap (λ x. x ∷ b) first, rest.1)

pub same-node : (k i : ℕ) (s t : List ℕ) → k + 1 < 2 ^ 64 → i + 1 < 2 ^ 64
    → cilo_name k ++ 36 ∷ s ≡ cilo_name i ++ 36 ∷ t → (k ≡ i) × (s ≡ t)
same-node k i s t few less e =
    let own : decimal (k + 1) ++ 36 ∷ s ≡ decimal (i + 1) ++ 36 ∷ t = cc in
    let parts =
    words-same (decimal (k + 1)) (decimal (i + 1)) s t
    (plain-digits _ (decimal_is_IsNumeral (k + 1) few).0.1)
    (plain-digits _ (decimal_is_IsNumeral (i + 1) less).0.1) own in
    let number = decimal_injective (k + 1) (i + 1) few less parts.0 in
    (omega (arith, number), parts.1)

-- a name that no interlocking node begins
abbrev pub IsAway : List ℕ → Type 0
IsAway other = (k : ℕ) (s : List ℕ) → cilo_name k ++ s ≢ other

pub away-position : (kind : SwitchKind) (n : ℕ) (t : List ℕ)
    → IsAway (node_name (class_of kind) n ++ t)
away-position Breaker n t k s e = let first : 67 ≡ 88 =
    ap (λ l. get_or l 0 0) e in omega (arith, first)
away-position Disconnector n t k s e = let first : 67 ≡ 88 =
    ap (λ l. get_or l 0 0) e in omega (arith, first)
away-position Earthing n t k s e = let first : 67 ≡ 88 =
    ap (λ l. get_or l 0 0) e in omega (arith, first)

away-control : (n : ℕ) (t : List ℕ) → IsAway (node_name (codes "CSWI") n ++ t)
away-control n t k s e = let second : 73 ≡ 83 = ap (λ l. get_or l 1 0) e in omega (arith, second)

away-meter : (n : ℕ) (t : List ℕ) → IsAway (node_name (codes "MMXU") n ++ t)
away-meter n t k s e = let first : 67 ≡ 77 = ap (λ l. get_or l 0 0) e in omega (arith, first)

-- ---- what is written elsewhere

-- none of a status value's names is an interlocking node's
pub record AreAway (names : StatusNames) : Type 0 where
  pub value_away : IsAway names.value
  pub quality_away : IsAway names.quality
  pub time_away : IsAway names.time

at-node : (node value quality time : List ℕ) → ((t : List ℕ) → IsAway (node ++ t))
    → AreAway (record { value = node ++ value; quality = node ++ quality; time = node ++ time })
at-node node value quality time away =
    record { value_away = away value; quality_away = away quality; time_away = away time }

-- what the interlocking nodes name stays
abbrev pub Keeps : List Row → List Row → Type 0
Keeps rows new = (k : ℕ) (s : List ℕ)
    → leaf_named (cilo_name k ++ s) new ≡ leaf_named (cilo_name k ++ s) rows

keeps-status : (names : StatusNames) (value : Leaf) (q : Quality) (now : ℕ) (rows : List Row)
    → AreAway names → Keeps rows (with_status names value q now rows)
keeps-status names value q now rows away k s =
    leaf-other _ _ names.time _ (away.time_away k s)
    ∙ leaf-other _ _ names.quality _ (away.quality_away k s)
    ∙ leaf-other rows _ names.value _ (away.value_away k s)

keeps-if : (b : Bool) (rows x y : List Row) → Keeps rows x → Keeps rows y → Keeps rows (cond b x y)
keeps-if true rows x y p q = p
keeps-if false rows x y p q = q

keeps-counted : (names : StatusNames) (o : Option Leaf) (now : ℕ) (rows : List Row) → AreAway names
    → Keeps rows (with_count names o now rows)
keeps-counted names (Some (leaf.Int32 n)) now rows away k s =
    keeps-if (int_lt n (pos 2147483647)) rows
    (with_leaf_named names.time (leaf.Utc now)
    (with_leaf_named names.value (leaf.Int32 (n +ℤ pos 1)) rows)) rows
    (λ j t. leaf-other _ _ names.time _ (away.time_away j t)
    ∙ leaf-other rows _ names.value _ (away.value_away j t)) (λ j t. refl) k s
keeps-counted names None now rows away k s = refl
keeps-counted names (Some (leaf.Truth b)) now rows away k s = refl
keeps-counted names (Some (leaf.Dbpos p)) now rows away k s = refl
keeps-counted names (Some (leaf.Quality q)) now rows away k s = refl
keeps-counted names (Some (leaf.Int8 n)) now rows away k s = refl
keeps-counted names (Some (leaf.Unsigned8 n)) now rows away k s = refl
keeps-counted names (Some (leaf.Unsigned32 n)) now rows away k s = refl
keeps-counted names (Some (leaf.Float n)) now rows away k s = refl
keeps-counted names (Some (leaf.Octets n)) now rows away k s = refl
keeps-counted names (Some (leaf.Reference n)) now rows away k s = refl
keeps-counted names (Some (leaf.Text n)) now rows away k s = refl
keeps-counted names (Some (leaf.Utc n)) now rows away k s = refl

then-keeps : (rows mid new : List Row) → Keeps rows mid → Keeps mid new → Keeps rows new
then-keeps rows mid new p q k s = q k s ∙ p k s

pub keeps-contact : (switches : List Switch) (j : ℕ) (switch : Switch) (position : Dbpos) (now : ℕ)
    (rows : List Row) → Keeps rows
    (rows_after_contact (switch_names switches j switch) position now rows)
keeps-contact switches j switch position now rows =
    let names = switch_names switches j switch in
    let node : (t : List ℕ) → IsAway (switch_node switches j switch ++ t) =
    away-position switch.kind (node_number switches switch j) in
    let offsets : AreAway names.position = at-node (switch_node switches j switch) _ _ _ node in
    let counts : AreAway names.operations = at-node (switch_node switches j switch) _ _ _ node in
    let controls : AreAway names.control =
    at-node (node_name (codes "CSWI") (j + 1)) _ _ _ (away-control (j + 1)) in
    let told =
    with_status names.position (leaf.Dbpos position) (position_quality position) now rows in
    let after =
    with_status names.control (leaf.Dbpos position) (position_quality position) now told in
    let both : Keeps rows after =
    then-keeps rows told after (keeps-status names.position _ _ now rows offsets)
    (keeps-status names.control _ _ now told controls) in
    let with_count = rows_after_operation names.operations now after in
    keeps-if (has_position names.position position rows) rows rows
    (rows_after_change names position now rows) (λ k s. refl)
    (keeps-if (is_operation position (leaf_named names.position.value rows)) rows with_count after
    (then-keeps rows after with_count both
    (keeps-counted names.operations (leaf_named names.operations.value after) now after counts))
    both)

pub keeps-measure : (names : StatusNames) (float : List ℕ) (value : ℤ) (now : ℕ)
    (rows : List Row) → AreAway names → IsAway float
    → Keeps rows (rows_after_measure names float value now rows)
keeps-measure names float value now rows away apart =
    let told = with_status names (leaf.Int32 value) Good now rows in
    let status : Keeps rows told = keeps-status names (leaf.Int32 value) Good now rows away in
    keeps-if (has_measure names value rows) rows rows _ (λ k s. refl)
    (keeps-if (is_float (leaf_named float told)) rows _ told
    (λ k s. leaf-other told _ float _ (apart k s) ∙ status k s) status)

pub keeps-doubt : (names : StatusNames) (now : ℕ) (rows : List Row) → AreAway names
    → Keeps rows (rows_after_bad_measure names now rows)
keeps-doubt names now rows away =
    keeps-if (has_invalid_measure names rows) rows rows _ (λ k s. refl)
    (λ j t. leaf-other _ _ names.time _ (away.time_away j t)
    ∙ leaf-other rows _ names.quality _ (away.quality_away j t))

pub float-away : (k : ℕ) (field : MeterField) → IsAway (field_float field (float_names k))
float-away k TotW = away-meter (k + 1) _
float-away k TotVAr = away-meter (k + 1) _
float-away k Hz = away-meter (k + 1) _
float-away k PhaseA = away-meter (k + 1) _
float-away k PhaseB = away-meter (k + 1) _
float-away k PhaseC = away-meter (k + 1) _

pub field-away : (k : ℕ) (field : MeterField) → AreAway (field_names field (meter_names k))
field-away k TotW = at-node (node_name (codes "MMXU") (k + 1)) _ _ _ (away-meter (k + 1))
field-away k TotVAr = at-node (node_name (codes "MMXU") (k + 1)) _ _ _ (away-meter (k + 1))
field-away k Hz = at-node (node_name (codes "MMXU") (k + 1)) _ _ _ (away-meter (k + 1))
field-away k PhaseA = at-node (node_name (codes "MMXU") (k + 1)) _ _ _ (away-meter (k + 1))
field-away k PhaseB = at-node (node_name (codes "MMXU") (k + 1)) _ _ _ (away-meter (k + 1))
field-away k PhaseC = at-node (node_name (codes "MMXU") (k + 1)) _ _ _ (away-meter (k + 1))

-- ---- what a scan writes

truth-is : (b : Bool) (o : Option Leaf) → is_truth b o ≡ true → o ≡ Some (leaf.Truth b)
truth-is true (Some (leaf.Truth true)) h = refl
truth-is true (Some (leaf.Truth false)) h = absurd cc
truth-is false (Some (leaf.Truth true)) h = absurd cc
truth-is false (Some (leaf.Truth false)) h = refl
truth-is b None h = absurd cc
truth-is b (Some (leaf.Dbpos p)) h = absurd cc
truth-is b (Some (leaf.Quality q)) h = absurd cc
truth-is b (Some (leaf.Int8 n)) h = absurd cc
truth-is b (Some (leaf.Int32 n)) h = absurd cc
truth-is b (Some (leaf.Unsigned8 n)) h = absurd cc
truth-is b (Some (leaf.Unsigned32 n)) h = absurd cc
truth-is b (Some (leaf.Float n)) h = absurd cc
truth-is b (Some (leaf.Octets n)) h = absurd cc
truth-is b (Some (leaf.Reference n)) h = absurd cc
truth-is b (Some (leaf.Text n)) h = absurd cc
truth-is b (Some (leaf.Utc n)) h = absurd cc

good-is : (o : Option Leaf) → is_quality Good o ≡ true → o ≡ Some (leaf.Quality Good)
good-is (Some (leaf.Quality Good)) h = refl
good-is (Some (leaf.Quality Invalid)) h = absurd cc
good-is None h = absurd cc
good-is (Some (leaf.Truth b)) h = absurd cc
good-is (Some (leaf.Dbpos p)) h = absurd cc
good-is (Some (leaf.Int8 n)) h = absurd cc
good-is (Some (leaf.Int32 n)) h = absurd cc
good-is (Some (leaf.Unsigned8 n)) h = absurd cc
good-is (Some (leaf.Unsigned32 n)) h = absurd cc
good-is (Some (leaf.Float n)) h = absurd cc
good-is (Some (leaf.Octets n)) h = absurd cc
good-is (Some (leaf.Reference n)) h = absurd cc
good-is (Some (leaf.Text n)) h = absurd cc
good-is (Some (leaf.Utc n)) h = absurd cc

-- what stands is not written again
pub enabled-same : (names : StatusNames) (b c : Bool) (now : ℕ) (rows : List Row)
    → HoldsTruth rows names c → beq b c ≡ true → with_enabled names b now rows ≡ rows
enabled-same names b c now rows s e =
    let is : is_truth b (Some (leaf.Truth c)) ≡ true = e in
    rw (s.value_is, s.quality_is, is) refl

-- and what differs is written
pub enabled-changed : (names : StatusNames) (b c : Bool) (now : ℕ) (rows : List Row)
    → HoldsTruth rows names c → beq b c ≡ false
    → with_enabled names b now rows ≡ with_status names (leaf.Truth b) Good now rows
enabled-changed names b c now rows s e =
    let is : is_truth b (Some (leaf.Truth c)) ≡ false = e in
    rw (s.value_is, s.quality_is, is) refl

pub stands-valued : (rows : List Row) (names : StatusNames) (b : Bool) → HoldsTruth rows names b
    → AreValued rows names
stands-valued rows names b s = record {
  value_there = λ e. let none : Some (leaf.Truth b) ≡ None = sym s.value_is ∙ e in absurd cc;
  quality_there = λ e. let none : Some (leaf.Quality Good) ≡ None =
      sym s.quality_is ∙ e in absurd cc;
}

-- the names of a status value differ, and it has a value and a quality
record AreOwn (rows : List Row) (names : StatusNames) : Type 0 where
  value_quality : names.value ≢ names.quality
  value_time : names.value ≢ names.time
  quality_time : names.quality ≢ names.time
  valued : AreValued rows names

stands-if : (t : Bool) (names : StatusNames) (b : Bool) (now : ℕ) (rows : List Row)
    → AreOwn rows names → (is_truth b (leaf_named names.value rows)
    && is_quality Good (leaf_named names.quality rows)) ≡ t
    → HoldsTruth (cond t rows (with_status names (leaf.Truth b) Good now rows)) names b
stands-if true names b now rows own same =
    let parts =
    and_parts (is_truth b (leaf_named names.value rows))
    (is_quality Good (leaf_named names.quality rows)) same in
    record { value_is = truth-is b _ parts.0; quality_is = good-is _ parts.1 }
stands-if false names b now rows own same =
    let first = with_leaf_named names.value (leaf.Truth b) rows in
    let second = with_leaf_named names.quality (leaf.Quality Good) first in
    let kept : leaf_named names.quality first ≡ leaf_named names.quality rows =
    leaf-other rows names.quality names.value _ (λ e. own.value_quality (sym e)) in
    record {
      value_is =
          leaf-other second names.value names.time _ own.value_time
          ∙ leaf-other first names.value names.quality _ own.value_quality
          ∙ leaf-own rows names.value _ own.valued.value_there;
      quality_is =
          leaf-other second names.quality names.time _ own.quality_time
          ∙ leaf-own first names.quality _ (λ e. own.valued.quality_there (sym kept ∙ e));
    }

stands-enabled : (names : StatusNames) (b : Bool) (now : ℕ) (rows : List Row) → AreOwn rows names
    → HoldsTruth (with_enabled names b now rows) names b
stands-enabled names b now rows own = stands-if _ names b now rows own refl

-- a name is none of a status value's
record IsOther (name : List ℕ) (names : StatusNames) : Type 0 where
  value_other : name ≢ names.value
  quality_other : name ≢ names.quality
  time_other : name ≢ names.time

other-enabled-if : (t : Bool) (name : List ℕ) (names : StatusNames) (b : Bool) (now : ℕ)
    (rows : List Row) → IsOther name names
    → leaf_named name (cond t rows (with_status names (leaf.Truth b) Good now rows))
    ≡ leaf_named name rows
other-enabled-if true name names b now rows other = refl
other-enabled-if false name names b now rows other =
    leaf-other _ name names.time _ other.time_other
    ∙ leaf-other _ name names.quality _ other.quality_other
    ∙ leaf-other rows name names.value _ other.value_other

other-enabled : (name : List ℕ) (names : StatusNames) (b : Bool) (now : ℕ) (rows : List Row)
    → IsOther name names → leaf_named name (with_enabled names b now rows) ≡ leaf_named name rows
other-enabled name names b now rows other = other-enabled-if _ name names b now rows other

-- names of one node differ behind it, and those of two nodes always
one-node : (k : ℕ) (s t : List ℕ) → (s ≡ t → ⊥) → cilo_name k ++ s ≢ cilo_name k ++ t
one-node k s t apart e = apart (append_cancel_left (cilo_name k) s t e)

module _ (k i : ℕ) (few : k + 1 < 2 ^ 64) (less : i + 1 < 2 ^ 64) (apart : k ≡ i → ⊥) where
  two-nodes : (s t : List ℕ) → cilo_name k ++ 36 ∷ s ≢ cilo_name i ++ 36 ∷ t
  two-nodes s t e = apart (same-node k i s t few less e).0

  other-opening : (s : List ℕ) → IsOther (cilo_name k ++ 36 ∷ s) (opening_names_at i)
  other-opening s =
      record {
        value_other = two-nodes s _;
        quality_other = two-nodes s _;
        time_other = two-nodes s _;
      }

  other-closing : (s : List ℕ) → IsOther (cilo_name k ++ 36 ∷ s) (closing_names_at i)
  other-closing s =
      record {
        value_other = two-nodes s _;
        quality_other = two-nodes s _;
        time_other = two-nodes s _;
      }

  -- what another node names stays
  pub keeps-output : (o c : Bool) (now : ℕ) (rows : List Row) (s : List ℕ)
      → leaf_named (cilo_name k ++ 36 ∷ s)
      (with_enabled (closing_names_at i) c now (with_enabled (opening_names_at i) o now rows))
      ≡ leaf_named (cilo_name k ++ 36 ∷ s) rows
  keeps-output o c now rows s =
      other-enabled _ (closing_names_at i) c now (with_enabled (opening_names_at i) o now rows)
      (other-closing s) ∙ other-enabled _ (opening_names_at i) o now rows (other-opening s)

-- opening and closing of one switch
closing-other : (k : ℕ) (s : List ℕ) → get_or s 7 0 ≡ 79
    → IsOther (cilo_name k ++ s) (closing_names_at k)
closing-other k s at =
    let apart : (t : List ℕ) → get_or t 7 0 ≡ 67
    → cilo_name k ++ s ≢ cilo_name k ++ t =
    λ t is. one-node k s t (λ e. let same = ap (λ l. get_or l 7 0) e in
    omega (arith, at, is, same)) in
    record { value_other = apart _ refl; quality_other = apart _ refl; time_other = apart _ refl }

opening-other : (k : ℕ) (s : List ℕ) → get_or s 7 0 ≡ 67
    → IsOther (cilo_name k ++ s) (opening_names_at k)
opening-other k s at =
    let apart : (t : List ℕ) → get_or t 7 0 ≡ 79
    → cilo_name k ++ s ≢ cilo_name k ++ t =
    λ t is. one-node k s t (λ e. let same = ap (λ l. get_or l 7 0) e in
    omega (arith, at, is, same)) in
    record { value_other = apart _ refl; quality_other = apart _ refl; time_other = apart _ refl }

-- what is said of closing stands after opening was written
pub closing-stands : (k : ℕ) (b c : Bool) (now : ℕ) (rows : List Row)
    → HoldsTruth rows (closing_names_at k) c
    → HoldsTruth (with_enabled (opening_names_at k) b now rows) (closing_names_at k) c
closing-stands k b c now rows s = record {
  value_is = other-enabled _ (opening_names_at k) b now rows (opening-other k _ refl) ∙ s.value_is;
  quality_is =
      other-enabled _ (opening_names_at k) b now rows (opening-other k _ refl) ∙ s.quality_is;
}

-- opening and closing have three names each
suffix-apart : (k n a b : ℕ) (s t : List ℕ) → get_or s n 0 ≡ a → get_or t n 0 ≡ b → (a ≡ b → ⊥)
    → cilo_name k ++ s ≢ cilo_name k ++ t
suffix-apart k n a b s t here there apart =
    one-node k s t (λ e. apart (sym here ∙ ap (λ l. get_or l n 0) e ∙ there))

opening-own : (rows : List Row) (k : ℕ) → AreValued rows (opening_names_at k)
    → AreOwn rows (opening_names_at k)
opening-own rows k valued = record {
  value_quality = suffix-apart k 11 115 113 _ _ refl refl (λ e. omega (arith, e));
  value_time = suffix-apart k 12 116 0 _ _ refl refl (λ e. omega (arith, e));
  quality_time = suffix-apart k 11 113 116 _ _ refl refl (λ e. omega (arith, e));
  valued = valued;
}

closing-own : (rows : List Row) (k : ℕ) → AreValued rows (closing_names_at k)
    → AreOwn rows (closing_names_at k)
closing-own rows k valued = record {
  value_quality = suffix-apart k 11 115 113 _ _ refl refl (λ e. omega (arith, e));
  value_time = suffix-apart k 12 116 0 _ _ refl refl (λ e. omega (arith, e));
  quality_time = suffix-apart k 11 113 116 _ _ refl refl (λ e. omega (arith, e));
  valued = valued;
}

-- both values stand after they were written
pub told-here : (k : ℕ) (enabled : SwitchEnables) (now : ℕ) (rows mid new : List Row)
    → AreValued rows (opening_names_at k)
    → mid ≡ with_enabled (opening_names_at k) enabled.may_open now rows
    → AreValued mid (closing_names_at k)
    → new ≡ with_enabled (closing_names_at k) enabled.may_close now mid
    → HoldsRelease new k enabled
told-here k enabled now rows mid new opens first closes second =
    let opened =
    stands-enabled (opening_names_at k) enabled.may_open now rows (opening-own rows k opens) in
    let stood : HoldsTruth mid (opening_names_at k) enabled.may_open = rw first opened in
    let closed =
    stands-enabled (closing_names_at k) enabled.may_close now mid (closing-own mid k closes) in
    rw second record {
      opening = record {
        value_is =
            other-enabled _ (closing_names_at k) _ now mid (closing-other k _ refl)
            ∙ stood.value_is;
        quality_is =
            other-enabled _ (closing_names_at k) _ now mid (closing-other k _ refl)
            ∙ stood.quality_is;
      };
      closing = closed;
    }
