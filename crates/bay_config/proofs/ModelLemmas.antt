-- The rows of the health of the device and of the inputs are there.
use Rattle.std.proofs.Common.{◌≡◌, ℕ, zero, suc, ◌+◌, ◌<◌, false, List, [], ◌∷◌, ◌++◌, length, map, pos, None, Some, codes, Contains, append_assoc, refl, sym, subst, arith}
use Rattle.std.proofs.lemmas.List.{map-append}
use Rattle.std.proofs.lemmas.List.Elements.{Contains-append_left, Contains-append_right}
use Rattle.std.specs.List.{enumerate_from}
use Rattle.bay_tree.specs.declared.row.Row.{Row}
use Rattle.bay_tree.specs.declared.leaf.Leaf.TheVariants.{Truth, Quality, Int8, Utc}
use Rattle.bay_tree.specs.declared.leaf.Quality.TheVariants.{Good, Invalid}
use Rattle.bay_config.specs.declared.bay.Bay.{Bay}
use Rattle.bay_nodes.specs.declared.nameplate.Nameplate.{Nameplate}
use Rattle.bay_nodes.specs.declared.profile.Profile.{Profile}
use Rattle.bay_nodes.specs.declared.profile.Profile.TheVariants.{One, Two}
use Rattle.bay_nodes.specs.Names.{health_names, physical_health_names}
use Rattle.bay_nodes.specs.Node.{Node, row, rows_of_parts, parts_of, node_rows, node_name, inside, device_node, device_parts, name_plate, physical_node, input_description, input_status, input_node, input_nodes}
use Rattle.bay_config.specs.Laws.{nameplate_of, IsBay, HasHealth, HasInputs, HasNode, HasValue, HaveIndications}
use Rattle.bay_config.proofs.NamedLemmas.{has-value, inputs-within, node-there, row-at}

-- ---- the health of the device and of the physical device

has-device : (bay : Bay) (profile : Profile) (n : Nameplate)
    → HasNode bay (record { name = codes "LLN0"; parts = device_parts profile n })
    → HasValue bay.rows health_names (Int8 (pos 1)) Good
has-device bay One n h =
    let at = row-at bay (record { name = codes "LLN0"; parts = device_parts One n }) h in
    has-value (at 11 refl) (at 12 refl) (at 13 refl)
has-device bay Two n h =
    let at = row-at bay (record { name = codes "LLN0"; parts = device_parts Two n }) h in
    has-value (at 11 refl) (at 12 refl) (at 13 refl)

has-physical : (bay : Bay) (n : Nameplate) → HasNode bay (physical_node n)
    → HasValue bay.rows physical_health_names (Int8 (pos 1)) Good
has-physical bay n h =
    let at = row-at bay (physical_node n) h in
    has-value (at 3 refl) (at 4 refl) (at 5 refl)

pub has-health : (bay : Bay) → IsBay bay → HasHealth bay.rows
has-health bay is_bay =
    let n = nameplate_of bay in
    record {
      device =
          has-device bay bay.profile n
          (node-there bay (device_node n) is_bay (0, omega arith, refl));
      physical =
          has-physical bay n (node-there bay (physical_node n) is_bay (1, omega arith, refl));
    }

-- ---- the inputs

-- the object of the input with a number, below GGIO1
abbrev object : ℕ → List ℕ
object number = node_name (codes "GGIO1$ST$Ind") number

-- the rows of the values of inputs, below GGIO1
abbrev value_rows : ℕ → List (List ℕ) → List Row
value_rows n names =
    map (λ r. row (codes "GGIO1" ++ r.name) r.leaf)
    (rows_of_parts (codes "$ST") (parts_of (map input_status (enumerate_from n names))))

-- the rows of the value of one input
abbrev one_value : ℕ → List Row
one_value n =
    row (object n) None ∷ row (object n ++ codes "$stVal") (Some (Truth false))
    ∷ row (object n ++ codes "$q") (Some (Quality Invalid))
    ∷ row (object n ++ codes "$t") (Some (Utc 0)) ∷ []

value-rows : (n : ℕ) (name : List ℕ) (names : List (List ℕ))
    → value_rows n (name ∷ names) ≡ one_value n ++ value_rows (n + 1) names
value-rows n name names =
    rw (
      append_assoc (object n) (codes "$") (codes "stVal"),
      append_assoc (object n) (codes "$") (codes "q"),
      append_assoc (object n) (codes "$") (codes "t"),
    ) refl

-- a row of the value of one input is a row of the values of all
value-among : (k n : ℕ) (names : List (List ℕ)) → k < length names
    → (r : Row) → Contains (one_value (n + k)) r → Contains (value_rows n names) r
value-among k n [] lt r h = absurd (omega (arith, lt))
value-among zero n (name ∷ names) lt r h =
    let none : n + 0 ≡ n = omega arith in
    subst (λ rs. Contains rs r) (sym (value-rows n name names))
    (Contains-append_left (one_value n) (value_rows (n + 1) names) r
    (subst (λ m. Contains (one_value m) r) none h))
value-among (suc k) n (name ∷ names) lt r h =
    let more : n + suc k ≡ n + 1 + k = omega arith in
    subst (λ rs. Contains rs r) (sym (value-rows n name names))
    (Contains-append_right (one_value n) (value_rows (n + 1) names) r
    (value-among k (n + 1) names (omega (arith, lt)) r
    (subst (λ m. Contains (one_value m) r) more h)))

-- the rows of the values are rows of the node of the inputs
values-among : (n : Nameplate) (names : List (List ℕ)) (r : Row) → Contains (value_rows 1 names) r
    → Contains (node_rows (input_node n names)) r
values-among n names r h =
    let values =
    rows_of_parts (codes "$ST") (parts_of (map input_status (enumerate_from 1 names))) in
    let descriptions = rows_of_parts []
    (parts_of (inside (codes "DC")
    (name_plate n n.model [] ∷ map input_description (enumerate_from 1 names)) ∷ [])) in
    let own : Row → Row = λ q. row (codes "GGIO1" ++ q.name) q.leaf in
    let first =
    row (codes "GGIO1") None ∷ row (codes "GGIO1$ST") None ∷ row (codes "GGIO1$ST$Beh") None
    ∷ row (codes "GGIO1$ST$Beh$stVal") (Some (Int8 (pos 1)))
    ∷ row (codes "GGIO1$ST$Beh$q") (Some (Quality Good))
    ∷ row (codes "GGIO1$ST$Beh$t") (Some (Utc 0)) ∷ [] in
    Contains-append_right first (map own (values ++ descriptions)) r
    (subst (λ rs. Contains rs r) (sym (map-append own values descriptions))
    (Contains-append_left (map own values) (map own descriptions) r h))

-- if there are inputs, their node is there
input-node-among : (n : Nameplate) (names : List (List ℕ)) (k : ℕ) → k < length names
    → Contains (input_nodes Two n names) (input_node n names)
input-node-among n [] k lt = absurd (omega (arith, lt))
input-node-among n (name ∷ names) k lt = (0, omega arith, refl)

-- a row of a node is a row of the bay
row-there : (bay : Bay) (node : Node) → HasNode bay node → (r : Row) → Contains (node_rows node) r
    → Contains bay.rows r
row-there bay node h r w = subst (Contains bay.rows) w.2 (h w.0 r w.1)

has-indications : (bay : Bay) → bay.profile ≡ Two → IsBay bay
    → HaveIndications bay.rows (length bay.inputs)
has-indications bay two is_bay =
    λ k lt.
    let n = nameplate_of bay in
    let node : HasNode bay (input_node n bay.inputs) =
    node-there bay (input_node n bay.inputs) is_bay
    (inputs-within n bay.switches bay.inputs bay.meters (input_node n bay.inputs)
    (subst (λ p. Contains (input_nodes p n bay.inputs) (input_node n bay.inputs)) (sym two)
    (input-node-among n bay.inputs k lt))) in
    let more : 1 + k ≡ k + 1 = omega arith in
    let at : (r : Row) → Contains (one_value (k + 1)) r → Contains bay.rows r =
    λ r h. row-there bay (input_node n bay.inputs) node r
    (values-among n bay.inputs r
    (value-among k 1 bay.inputs lt r (subst (λ m. Contains (one_value m) r) (sym more) h))) in
    has-value (at _ (1, omega arith, refl)) (at _ (2, omega arith, refl))
    (at _ (3, omega arith, refl))

has-inputs-of : (bay : Bay) (profile : Profile) → bay.profile ≡ profile → IsBay bay
    → HasInputs profile bay.rows (length bay.inputs)
has-inputs-of bay One e is_bay = tt
has-inputs-of bay Two e is_bay = has-indications bay e is_bay

pub has-inputs : (bay : Bay) → IsBay bay → HasInputs bay.profile bay.rows (length bay.inputs)
has-inputs bay is_bay = has-inputs-of bay bay.profile refl is_bay
