-- What holds of every bay that is read.
use Rattle.std.proofs.Common.{◌≡◌, ◌≢◌, ℕ, zero, suc, ◌+◌, ◌<◌, ◌≤◌, Bool, true, false, not, nat_lt, List, [], ◌∷◌, ◌++◌, length, map, drop, get_or, slice_get, Option, None, Some, is_some, option_to_list, unwrap_or, Ok, codes, All, Contains, refl, sym, subst, arith, lit<, suc-add}
use Rattle.std.proofs.lemmas.Bool.{and_parts, ltb-false, or_parts, not-false}
use Rattle.std.proofs.lemmas.List.{length-map}
use Rattle.std.proofs.lemmas.List.Elements.{All-append, All-from_recursion, All-contains, Contains-get_or}
use Rattle.std.proofs.lemmas.Slice.Eq.{bytes_eq-Decides}
use Rattle.std.specs.List.{AllByRecursion}
use Rattle.std.specs.Str.{bytes_eq}
use Rattle.toml.specs.Data.{Items, no_items, item, Members, get_member, as_table}
use Rattle.bay_config.specs.declared.bay.Bay.{Bay}
use Rattle.bay_base.specs.declared.point.Point.{Point}
use Rattle.bay_nodes.specs.declared.switch.Switch.{Switch}
use Rattle.bay_config.specs.declared.fault.BayFault.{BayFault}
use Rattle.bay_config.specs.declared.fault.BayFault.TheVariants.{MissingKey, BadValue, DuplicateName, TooMany}
use Rattle.bay_nodes.specs.declared.meter.Meter.{Meter}
use Rattle.bay_config.specs.Bay.{bay_section, switch_section, input_section, input_in, input_keys, inputs_in, meter_section, meter_in, meter_keys, meters_in, profile_in, sections, switches_in, bay_table, nameplate_in, bay_in, bay_of_table, file_refusal}
use Rattle.bay_config.specs.Key.{Key, is_among, unknown_refusal, refused_if}
use Rattle.bay_config.specs.Laws.{IsOwned, IsBay}
use Rattle.bay_config.specs.Remote.{are_inputs, remotes_refusal}
use Rattle.bay_config.specs.Point.{points_of, points_from, inputs_from, meter_points, meters_from, bay_points, has_twin, names_refusal}
use Rattle.bay_config.specs.Section.{are_tables, count_of, tables_of, items_at, items_refusal, list_refusal, section_refusal, section_tables}
use Rattle.bay_config.specs.Switch.{switch_keys, switch_in}
use Rattle.bay_config.proofs.KeyLemmas.{judged-Ok}
use Rattle.bay_config.proofs.PassedLemmas.{none-first}
use Rattle.bay_nodes.proofs.NumberLemmas.{rows-make-tree}
use Rattle.bay_nodes.proofs.PathLemmas.{AllDiffer}

abbrev names_of : List Point → List (List ℕ)
names_of points = map (λ p. p.name) points

-- names without a twin differ
other-names : (s : List ℕ) (ns : List (List ℕ)) → is_among ns s ≡ false
    → AllByRecursion (λ m. s ≢ m) ns
other-names s [] h = tt
other-names s (n ∷ ns) h =
    let parts = or_parts (bytes_eq s n) (is_among ns s) h in (
      λ same. let equal : bytes_eq s n ≡ true = (bytes_eq-Decides s n).1 same in
          cc,
      other-names s ns parts.1,
    )

AllDiffer-from_twin : (ns : List (List ℕ)) → has_twin ns ≡ false → AllDiffer ns
AllDiffer-from_twin [] h = tt
AllDiffer-from_twin (n ∷ ns) h =
    let parts = or_parts (is_among ns n) (has_twin ns) h in
    (other-names n ns parts.0, AllDiffer-from_twin ns parts.1)

each-other : (n : List ℕ) (ps : List Point) → AllByRecursion (λ m. n ≢ m) (names_of ps)
    → AllByRecursion (λ p. n ≢ p.name) ps
each-other n [] h = tt
each-other n (p ∷ ps) h = (h.0, each-other n ps h.1)

one-other : (n : List ℕ) (ps : List Point) (p : Point) → AllByRecursion (λ m. n ≢ m) (names_of ps)
    → Contains ps p → n ≢ p.name
one-other n ps p h at =
    All-contains (λ (q : Point). n ≢ q.name) ps p
    (All-from_recursion (λ (q : Point). n ≢ q.name) ps (each-other n ps h)) at

pairs-differ : (ps : List Point) → AllDiffer (names_of ps) → (i j : ℕ) (d : Point) → i < j
    → j < length ps → (get_or ps i d).name ≢ (get_or ps j d).name
pairs-differ [] h i j d lt within = absurd (omega arith)
pairs-differ (p ∷ ps) h i zero d lt within = absurd (omega arith)
pairs-differ (p ∷ ps) h zero (suc j) d lt within =
    one-other p.name ps (get_or ps j d) h.0 (Contains-get_or ps j d (omega arith))
pairs-differ (p ∷ ps) h (suc i) (suc j) d lt within =
    pairs-differ ps h.1 i j d (omega arith) (omega arith)

-- what holds of each point of the front and of the back
each-append : (P : Point → Type 0) (xs ys : List Point) → AllByRecursion P xs → AllByRecursion P ys
    → AllByRecursion P (xs ++ ys)
each-append P [] ys front back = back
each-append P (x ∷ xs) ys front back = (front.0, each-append P xs ys front.1 back)

-- where a list goes on with an item from a place on, the item stands there, and behind it the rest
first-of-rest : {T : Type 0} (all : List T) (k : ℕ) (s : T) (ss : List T) → drop k all ≡ s ∷ ss
    → slice_get all k ≡ Some s
first-of-rest [] zero s ss rest = cc
first-of-rest [] (suc k) s ss rest = cc
first-of-rest (t ∷ all) zero s ss rest = cc
first-of-rest (t ∷ all) (suc k) s ss rest = first-of-rest all k s ss rest

rest-of-rest : {T : Type 0} (all : List T) (k : ℕ) (s : T) (ss : List T) → drop k all ≡ s ∷ ss
    → drop (k + 1) all ≡ ss
rest-of-rest [] zero s ss rest = cc
rest-of-rest [] (suc k) s ss rest = cc
rest-of-rest (t ∷ all) zero s ss rest = cc
rest-of-rest (t ∷ all) (suc k) s ss rest = rw (suc-add k 1) (rest-of-rest all k s ss rest)

-- the points of a switch belong to it
own-points : (all : List Switch) (is : List (List ℕ)) (ms : List Meter) (k : ℕ) (s : Switch)
    → slice_get all k ≡ Some s → AllByRecursion (IsOwned all is ms) (points_of k s)
own-points all is ms k s here = (
  record { switch = s; here = here; has = (0, lit< tt, refl) },
  (
    record { switch = s; here = here; has = (1, lit< tt, refl) },
    (
      record { switch = s; here = here; has = (2, lit< tt, refl) },
      (
        record { switch = s; here = here; has = (3, lit< tt, refl) },
        (record { switch = s; here = here; has = (4, lit< tt, refl) }, tt),
      ),
    ),
  ),
)

-- so do those of the switches from a place on
own-points-from : (all : List Switch) (is : List (List ℕ)) (ms : List Meter) (k : ℕ)
    (ss : List Switch) → drop k all ≡ ss → AllByRecursion (IsOwned all is ms) (points_from k ss)
own-points-from all is ms k [] rest = tt
own-points-from all is ms k (s ∷ ss) rest =
    each-append (IsOwned all is ms) (points_of k s) (points_from (k + 1) ss)
    (own-points all is ms k s (first-of-rest all k s ss rest))
    (own-points-from all is ms (k + 1) ss (rest-of-rest all k s ss rest))

-- and those of the inputs and of the meters
own-inputs : (ss : List Switch) (all : List (List ℕ)) (ms : List Meter) (k : ℕ)
    (is : List (List ℕ)) → drop k all ≡ is → AllByRecursion (IsOwned ss all ms) (inputs_from k is)
own-inputs ss all ms k [] rest = tt
own-inputs ss all ms k (i ∷ is) rest = (
  record { name = i; here = first-of-rest all k i is rest; is = refl },
  own-inputs ss all ms (k + 1) is (rest-of-rest all k i is rest),
)

own-fields : (ss : List Switch) (is : List (List ℕ)) (all : List Meter) (k : ℕ) (m : Meter)
    → slice_get all k ≡ Some m → AllByRecursion (IsOwned ss is all) (meter_points k m.id)
own-fields ss is all k m here = (
  record { meter = m; here = here; has = (0, lit< tt, refl) },
  (
    record { meter = m; here = here; has = (1, lit< tt, refl) },
    (
      record { meter = m; here = here; has = (2, lit< tt, refl) },
      (
        record { meter = m; here = here; has = (3, lit< tt, refl) },
        (
          record { meter = m; here = here; has = (4, lit< tt, refl) },
          (record { meter = m; here = here; has = (5, lit< tt, refl) }, tt),
        ),
      ),
    ),
  ),
)

own-meters : (ss : List Switch) (is : List (List ℕ)) (all : List Meter) (k : ℕ) (ms : List Meter)
    → drop k all ≡ ms → AllByRecursion (IsOwned ss is all) (meters_from k ms)
own-meters ss is all k [] rest = tt
own-meters ss is all k (m ∷ ms) rest =
    each-append (IsOwned ss is all) (meter_points k m.id) (meters_from (k + 1) ms)
    (own-fields ss is all k m (first-of-rest all k m ms rest))
    (own-meters ss is all (k + 1) ms (rest-of-rest all k m ms rest))

all-owned : (ss : List Switch) (is : List (List ℕ)) (ms : List Meter)
    → All (IsOwned ss is ms) (bay_points ss is ms)
all-owned ss is ms =
    All-append (IsOwned ss is ms) (points_from 0 ss) (inputs_from 0 is ++ meters_from 0 ms)
    (All-from_recursion (IsOwned ss is ms) (points_from 0 ss) (own-points-from ss is ms 0 ss refl))
    (All-append (IsOwned ss is ms) (inputs_from 0 is) (meters_from 0 ms)
    (All-from_recursion (IsOwned ss is ms) (inputs_from 0 is) (own-inputs ss is ms 0 is refl))
    (All-from_recursion (IsOwned ss is ms) (meters_from 0 ms) (own-meters ss is ms 0 ms refl)))

-- what checks without a refusal say
refused_if-None : (b : Bool) (e : BayFault) → refused_if b e ≡ None → b ≡ false
refused_if-None true e h = cc
refused_if-None false e h = refl

count-tables : (items : Items) → are_tables items ≡ true → length (tables_of items) ≡ count_of items
count-tables no_items h = refl
count-tables (item d ds) h =
    let parts = and_parts (is_some (as_table d)) (are_tables ds) h in
    one-more (as_table d) (tables_of ds) (count_of ds) parts.0 (count-tables ds parts.1)
  where
    one-more : (o : Option Members) (ts : List Members) (n : ℕ) → is_some o ≡ true → length ts ≡ n
        → length (option_to_list o ++ ts) ≡ n + 1
    one-more None ts n h e = cc
    one-more (Some t) ts n h e = omega arith

-- a list that is not refused has neither too few nor too many tables
record AreCounted (least most : ℕ) (tables : List Members) : Type 0 where
  least_is : least ≤ length tables
  most_is : length tables ≤ most

items-counts : (least most : ℕ) (keys : Members → List Key) (items : Items)
    → items_refusal least most keys items ≡ None → AreCounted least most (tables_of items)
items-counts least most keys items h =
    let one = none-first (refused_if (nat_lt (count_of items) least) MissingKey) _ h in
    let two = none-first (refused_if (not (are_tables items)) BadValue) _ one.1 in
    let three = none-first (refused_if (nat_lt most (count_of items)) TooMany) _ two.1 in
    let enough = ltb-false (count_of items) least (refused_if-None _ MissingKey one.0) in
    let few = ltb-false most (count_of items) (refused_if-None _ TooMany three.0) in
    let same = count-tables items (not-false _ (refused_if-None _ BadValue two.0)) in
    record { least_is = omega arith; most_is = omega arith }

list-counts : (least most : ℕ) (keys : Members → List Key) (o : Option Items)
    → list_refusal least most keys o ≡ None
    → AreCounted least most (tables_of (unwrap_or o no_items))
list-counts least most keys None h = cc
list-counts least most keys (Some items) h = items-counts least most keys items h

sound-bay : (f : Members) → file_refusal f ≡ None → IsBay (bay_in f)
sound-bay f h =
    let ss = switches_in f in
    let profile = profile_in f in
    let is = inputs_in f in
    let ms = meters_in f in
    let names = names_refusal (bay_points ss is ms) in
    let keys = remotes_refusal is ss in
    let bay = section_refusal f bay_section in
    let switches = section_refusal f switch_section in
    let inputs = section_refusal f input_section in
    let meters = section_refusal f (meter_section profile) in
    let one =
    none-first (unknown_refusal (map (λ section. section.name) (sections profile)) f)
    (bay ∷ switches ∷ inputs ∷ meters ∷ names ∷ keys ∷ []) h in
    let two = none-first bay (switches ∷ inputs ∷ meters ∷ names ∷ keys ∷ []) one.1 in
    let three = none-first switches (inputs ∷ meters ∷ names ∷ keys ∷ []) two.1 in
    let four = none-first inputs (meters ∷ names ∷ keys ∷ []) three.1 in
    let five = none-first meters (names ∷ keys ∷ []) four.1 in
    let six = none-first names (keys ∷ []) five.1 in
    let seven = none-first keys [] six.1 in
    let counts = list-counts 1 32 switch_keys (items_at (get_member (codes "switch") f)) three.0 in
    let long : length ss ≡ length (section_tables f switch_section) =
    length-map (section_tables f switch_section) switch_in in
    let some : 1 ≤ length ss = omega (arith, counts.least_is) in
    let few : length ss ≤ 32 = omega (arith, counts.most_is) in
    let input_counts =
    list-counts 0 64 (λ _. input_keys) (items_at (get_member (codes "input") f)) four.0 in
    let input_long : length is ≡ length (section_tables f input_section) =
    length-map (section_tables f input_section) input_in in
    let few_inputs : length is ≤ 64 = omega (arith, input_counts.most_is) in
    let meter_counts =
    list-counts 0 8 (λ _. meter_keys profile) (items_at (get_member (codes "meter") f)) five.0 in
    let meter_long : length ms ≡ length (section_tables f (meter_section profile)) =
    length-map (section_tables f (meter_section profile)) (meter_in profile) in
    let few_meters : length ms ≤ 8 = omega (arith, meter_counts.most_is) in
    let twin =
    none-first (refused_if (has_twin (names_of (bay_points ss is ms))) DuplicateName) _
    six.0 in
    let differ =
    AllDiffer-from_twin (names_of (bay_points ss is ms))
    (refused_if-None _ DuplicateName twin.0) in
    record {
      some_switch = some;
      few_switches = few;
      few_inputs = few_inputs;
      few_meters = few_meters;
      points = refl;
      rows = refl;
      names = pairs-differ (bay_points ss is ms) differ;
      owners = all-owned ss is ms;
      keyed = not-false (are_inputs is ss) (refused_if-None _ BadValue seven.0);
      tree =
          rows-make-tree (nameplate_in (bay_table f)) ss is ms (omega arith) (omega arith)
          (omega arith);
    }

-- a bay that is read is sound
pub bay-is-sound : (f : Members) (bay : Bay) → bay_of_table f ≡ Ok bay → IsBay bay
bay-is-sound f bay h =
    let parts = judged-Ok (file_refusal f) (bay_in f) bay (sym h) in
    subst IsBay (sym parts.1) (sound-bay f parts.0)
