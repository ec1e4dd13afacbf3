-- The names of a bay's nodes differ, and so its rows make a tree.
use Rattle.std.proofs.Common.{◌≡◌, ◌≢◌, ℕ, zero, suc, ◌+◌, ◌<◌, ◌≤◌, ◌^◌, Bool, true, false, not, ◌&&◌, ◌||◌, cond, nat_eq, List, [], ◌∷◌, ◌++◌, length, map, filter, codes, append-nil, is_some, refl, sym, ap, subst, ◌∙◌, arith}
use Rattle.std.proofs.lemmas.Fmt.{decimal_digit, decimal_is_IsNumeral, decimal_injective}
use Rattle.std.proofs.lemmas.Bool.{and_parts}
use Rattle.std.proofs.lemmas.List.{append_cancel_left, map-append}
use Rattle.std.proofs.lemmas.List.Elements.{filter_passes, recursion_from_All}
use Rattle.std.proofs.lemmas.Bool.Decides.{nat_tests}
use Rattle.std.proofs.lemmas.Slice.Eq.{bytes_eq-Decides}
use Rattle.std.specs.Char.{digit_value}
use Rattle.std.specs.Fmt.{decimal}
use Rattle.std.specs.List.{AllByRecursion, enumerate_from, flat_map, list_all}
use Rattle.std.specs.Str.{bytes_eq}
use Rattle.std.specs.Str.Parse.{AllDigits}
use Rattle.bay_tree.specs.Rows.{IsTree}
use Rattle.bay_base.specs.declared.switch.Control.{Control}
use Rattle.bay_base.specs.declared.switch.Control.TheVariants.{Status, Direct, Sbo, SboEnhanced}
use Rattle.bay_nodes.specs.declared.meter.Meter.{Meter}
use Rattle.bay_nodes.specs.declared.profile.Profile.{Profile}
use Rattle.bay_nodes.specs.declared.profile.Profile.TheVariants.{One, Two}
use Rattle.bay_nodes.specs.declared.switch.Switch.{Switch}
use Rattle.bay_base.specs.declared.switch.SwitchKind.{SwitchKind}
use Rattle.bay_base.specs.declared.switch.SwitchKind.TheVariants.{Breaker, Disconnector, Earthing}
use Rattle.bay_nodes.specs.declared.nameplate.Nameplate.{Nameplate}
use Rattle.bay_nodes.specs.Node.{NodePart, parts_of, Node, node_name, class_of, is_breaker, is_in_group, device_node, device_parts, physical_node, position_node, position_nodes, position_parts, control_node, control_nodes, control_status, control_settings, command_parts, interlocking_node, interlocking_nodes, interlocking_parts, meter_node, meter_nodes, meter_values, meter_settings, indication, input_status, input_description, input_parts, input_nodes, nodes_of, bay_rows}
use Rattle.bay_nodes.proofs.PathLemmas.{is_among, IsPlain, part_name, part_names, is_good_part, are_good, IsGood, IsApart, AllDiffer, weaker, both, nodes-follow}
use Rattle.bay_nodes.proofs.TreeLemmas.{IsTree-follow}

not-dollar : (c : ℕ) → digit_value c < 10 → nat_eq c 36 ≡ false
not-dollar c h = grind (arith, nat_tests)

plain-digits : (ds : List ℕ) → AllDigits 10 ds → IsPlain ds
plain-digits [] h = refl
plain-digits (c ∷ cs) h = rw (not-dollar c h.0, plain-digits cs h.1) refl

plain-decimal : (n : ℕ) → n < 2 ^ 64 → IsPlain (decimal n)
plain-decimal n h = plain-digits (decimal n) (decimal_is_IsNumeral n h).0.1

plain-name : (kind : SwitchKind) (n : ℕ) → n < 2 ^ 64 → IsPlain (node_name (class_of kind) n)
plain-name Breaker n h = plain-decimal n h
plain-name Disconnector n h = plain-decimal n h
plain-name Earthing n h = plain-decimal n h

-- ---- the parts of each node are good

good-device-parts : (profile : Profile) (n : Nameplate) → are_good (device_parts profile n) ≡ true
good-device-parts One n = refl
good-device-parts Two n = refl

good-position-parts : (profile : Profile) (breaker : Bool) (n : Nameplate) (s : Switch)
    → are_good (position_parts profile breaker n s) ≡ true
good-position-parts One true n s = refl
good-position-parts One false n s = refl
good-position-parts Two true n s = refl
good-position-parts Two false n s = refl

good-control-parts : (profile : Profile) (control : Control) (n : Nameplate) (s : Switch)
    → are_good (parts_of (control_status profile ∷ command_parts control
    ++ control_settings profile n s)) ≡ true
good-control-parts One Status n s = refl
good-control-parts One Direct n s = refl
good-control-parts One Sbo n s = refl
good-control-parts One SboEnhanced n s = refl
good-control-parts Two Status n s = refl
good-control-parts Two Direct n s = refl
good-control-parts Two Sbo n s = refl
good-control-parts Two SboEnhanced n s = refl

good-interlocking-parts : (profile : Profile) (n : Nameplate) (s : Switch)
    → are_good (interlocking_parts profile n s) ≡ true
good-interlocking-parts One n s = refl
good-interlocking-parts Two n s = refl

good-meter-parts : (profile : Profile) (scaled : Bool) (n : Nameplate) (m : Meter)
    → are_good (parts_of (meter_values profile scaled ++ meter_settings profile scaled n m)) ≡ true
good-meter-parts One true n m = refl
good-meter-parts One false n m = refl
good-meter-parts Two true n m = refl
good-meter-parts Two false n m = refl

-- parts that are named after their numbers: none has the name of another part
no-number : {T : Type 0} (make : ℕ × T → NodePart)
    → ((k : ℕ) (t : T) → part_name (make (k, t)) ≡ indication k) → (word : List ℕ) (n : ℕ)
    (ts : List T)
    → ((k : ℕ) → n ≤ k → k < n + length ts → bytes_eq word (indication k) ≡ false)
    → is_among (part_names (parts_of (map make (enumerate_from n ts)))) word ≡ false
no-number make named word n [] other = refl
no-number make named word n (t ∷ ts) other =
    rw (named n t, other n (omega arith) (omega arith))
    (no-number make named word (n + 1) ts (λ k low high. other k (omega arith) (omega arith)))

not-both : (b : Bool) → (b ≡ true → ⊥) → b ≡ false
not-both true h = absurd (h refl)
not-both false h = refl

other-number : (n k : ℕ) → n < k → k < 2 ^ 64 → bytes_eq (indication n) (indication k) ≡ false
other-number n k lt few =
    not-both (bytes_eq (indication n) (indication k)) (λ h.
    let same : indication n ≡ indication k =
    (bytes_eq-Decides (indication n) (indication k)).0 h in
    let equal =
    decimal_injective n k (omega arith) (omega arith)
    (append_cancel_left (codes "Ind") (decimal n) (decimal k) same) in
    omega arith)

-- such parts are good, if each of them is
good-indications : {T : Type 0} (make : ℕ × T → NodePart)
    → ((k : ℕ) (t : T) → part_name (make (k, t)) ≡ indication k)
    → ((k : ℕ) (t : T) → k < 2 ^ 64 → is_good_part (make (k, t)) ≡ true) → (n : ℕ) (ts : List T)
    → n + length ts < 2 ^ 64 → are_good (parts_of (map make (enumerate_from n ts))) ≡ true
good-indications make named good n [] few = refl
good-indications make named good n (t ∷ ts) few =
    rw (
      good n t (omega arith),
      named n t,
      no-number make named (indication n) (n + 1) ts
          (λ k low high. other-number n k (omega arith) (omega arith)),
      good-indications make named good (n + 1) ts (omega arith),
    ) refl

good-status : (k : ℕ) (name : List ℕ) → k < 2 ^ 64 → is_good_part (input_status (k, name)) ≡ true
good-status k name few = rw (plain-decimal k few) refl

good-description : (k : ℕ) (name : List ℕ) → k < 2 ^ 64
    → is_good_part (input_description (k, name)) ≡ true
good-description k name few = rw (plain-decimal k few) refl

good-input-parts : (n : Nameplate) (inputs : List (List ℕ)) → length inputs < 2 ^ 32
    → are_good (input_parts n inputs) ≡ true
good-input-parts n inputs few =
    rw (
      no-number input_status (λ k t. refl) (codes "Beh") 1 inputs (λ k low high. refl),
      good-indications input_status (λ k t. refl) good-status 1 inputs (omega arith),
      no-number input_description (λ k t. refl) (codes "NamPlt") 1 inputs (λ k low high. refl),
      good-indications input_description (λ k t. refl) good-description 1 inputs (omega arith),
    ) refl

-- ---- the nodes are good

-- nodes that are numbered one after the other are good where each of them is
good-numbered : {T : Type 0} (make : ℕ × T → Node)
    → ((n : ℕ) (t : T) → n < 2 ^ 64 → IsGood (make (n, t))) → (n : ℕ) (ts : List T)
    → n + length ts < 2 ^ 64 → AllByRecursion IsGood (map make (enumerate_from n ts))
good-numbered make good n [] h = tt
good-numbered make good n (t ∷ ts) h =
    (good n t (omega arith), good-numbered make good (n + 1) ts (omega arith))

good-position : (p : Nameplate) (n : ℕ) (s : Switch) → n < 2 ^ 64 → IsGood (position_node p (n, s))
good-position p n s h = record {
  plain = plain-name s.kind n h;
  good = good-position-parts p.profile (is_breaker s.kind) p s;
}

good-control : (p : Nameplate) (n : ℕ) (s : Switch) → n < 2 ^ 64 → IsGood (control_node p (n, s))
good-control p n s h =
    record { plain = plain-decimal n h; good = good-control-parts p.profile s.control p s }

good-interlocking : (p : Nameplate) (n : ℕ) (s : Switch) → n < 2 ^ 64
    → IsGood (interlocking_node p (n, s))
good-interlocking p n s h =
    record { plain = plain-decimal n h; good = good-interlocking-parts p.profile p s }

good-meter : (p : Nameplate) (n : ℕ) (m : Meter) → n < 2 ^ 64 → IsGood (meter_node p (n, m))
good-meter p n m h =
    record { plain = plain-decimal n h; good = good-meter-parts p.profile (is_some m.scale) p m }

good-device : (n : Nameplate) → IsGood (device_node n)
good-device n = record { plain = refl; good = good-device-parts n.profile n }

good-physical : (n : Nameplate) → IsGood (physical_node n)
good-physical n = record { plain = refl; good = refl }

good-inputs : (profile : Profile) (n : Nameplate) (inputs : List (List ℕ))
    → length inputs < 2 ^ 32 → AllByRecursion IsGood (input_nodes profile n inputs)
good-inputs One n inputs few = tt
good-inputs Two n [] few = tt
good-inputs Two n (name ∷ names) few =
    (record { plain = refl; good = good-input-parts n (name ∷ names) few }, tt)

-- the names of a class that are numbered from n
abbrev numbered : List ℕ → ℕ → ℕ → List (List ℕ)
numbered class n zero = []
numbered class n (suc k) = node_name class n ∷ numbered class (n + 1) k

abbrev names_of : List Node → List (List ℕ)
names_of nodes = map (λ node. node.name) nodes

names-positions : (p : Nameplate) (class : List ℕ) (n : ℕ) (ss : List Switch)
    → AllByRecursion (λ s. class_of s.kind ≡ class) ss
    → names_of (map (position_node p) (enumerate_from n ss)) ≡ numbered class n (length ss)
names-positions p class n [] h = refl
names-positions p class n (s ∷ ss) h =
    rw h.0 (ap (λ names. node_name class n ∷ names) (names-positions p class (n + 1) ss h.1))

-- the names of nodes that are numbered one after the other
names-numbered : {T : Type 0} (class : List ℕ) (make : ℕ × T → Node)
    → ((n : ℕ) (t : T) → (make (n, t)).name ≡ node_name class n) → (n : ℕ) (ts : List T)
    → names_of (map make (enumerate_from n ts)) ≡ numbered class n (length ts)
names-numbered class make named n [] = refl
names-numbered class make named n (t ∷ ts) =
    rw (named n t) (ap (λ names. node_name class n ∷ names)
    (names-numbered class make named (n + 1) ts))

later-differ : (class : List ℕ) (j n k : ℕ) → j < n → n + k < 2 ^ 64
    → AllByRecursion (λ m. node_name class j ≢ m) (numbered class n k)
later-differ class j n zero lt h = tt
later-differ class j n (suc k) lt h = (
  λ same. let equal =
      decimal_injective j n (omega arith) (omega arith)
      (append_cancel_left class (decimal j) (decimal n) same) in omega arith,
  later-differ class j (n + 1) k (omega arith) (omega arith),
)

numbered-differ : (class : List ℕ) (n k : ℕ) → n + k < 2 ^ 64 → AllDiffer (numbered class n k)
numbered-differ class n zero h = tt
numbered-differ class n (suc k) h = (
  later-differ class n (n + 1) k (omega arith) (omega arith),
  numbered-differ class (n + 1) k (omega arith),
)

-- names of two classes differ
name-other : (name other : List ℕ) (m j : ℕ) → ((y : List ℕ) → name ≢ other ++ y)
    → AllByRecursion (λ x. name ≢ x) (numbered other m j)
name-other name other m zero apart = tt
name-other name other m (suc j) apart = (apart (decimal m), name-other name other (m + 1) j apart)

names-other : (class other : List ℕ) (n k m j : ℕ) → ((x y : List ℕ) → class ++ x ≢ other ++ y)
    → AllByRecursion (λ name. AllByRecursion (λ x. name ≢ x) (numbered other m j))
    (numbered class n k)
names-other class other n zero m j apart = tt
names-other class other n (suc k) m j apart = (
  name-other (node_name class n) other m j (apart (decimal n)),
  names-other class other (n + 1) k m j apart,
)

AllDiffer-append : (xs ys : List (List ℕ)) → AllDiffer xs → AllDiffer ys
    → AllByRecursion (λ x. AllByRecursion (λ y. x ≢ y) ys) xs → AllDiffer (xs ++ ys)
AllDiffer-append [] ys f g apart = g
AllDiffer-append (x ∷ xs) ys f g apart =
    (both (λ y. x ≢ y) xs ys f.0 apart.0, AllDiffer-append xs ys f.1 g apart.1)

class-breaker : (kind : SwitchKind) → is_breaker kind ≡ true → class_of kind ≡ codes "XCBR"
class-breaker Breaker h = refl
class-breaker Disconnector h = cc
class-breaker Earthing h = cc

class-other : (kind : SwitchKind) → not (is_breaker kind) ≡ true → class_of kind ≡ codes "XSWI"
class-other Breaker h = cc
class-other Disconnector h = refl
class-other Earthing h = refl

breakers-class : (ss : List Switch)
    → AllByRecursion (λ s. class_of s.kind ≡ codes "XCBR") (filter (is_in_group true) ss)
breakers-class ss =
    weaker (λ (s : Switch). is_in_group true s ≡ true)
    (λ (s : Switch). class_of s.kind ≡ codes "XCBR")
    (filter (is_in_group true) ss) (λ s h. class-breaker s.kind h)
    (recursion_from_All (λ (s : Switch). is_in_group true s ≡ true) (filter (is_in_group true) ss)
    (filter_passes (is_in_group true) ss))

others-class : (ss : List Switch)
    → AllByRecursion (λ s. class_of s.kind ≡ codes "XSWI") (filter (is_in_group false) ss)
others-class ss =
    weaker (λ (s : Switch). is_in_group false s ≡ true)
    (λ (s : Switch). class_of s.kind ≡ codes "XSWI")
    (filter (is_in_group false) ss) (λ s h. class-other s.kind h)
    (recursion_from_All (λ (s : Switch). is_in_group false s ≡ true) (filter (is_in_group false) ss)
    (filter_passes (is_in_group false) ss))

length-filter-le : (test : Switch → Bool) (ss : List Switch) → length (filter test ss) ≤ length ss
length-filter-le test [] = omega arith
length-filter-le test (s ∷ ss) =
    let rest = length-filter-le test ss in
    elim (test s) as (λ b. length (cond b (s ∷ filter test ss) (filter test ss)) ≤ length (s ∷ ss))
    [ true ↦ omega arith | false ↦ omega arith ]

-- some octet differs, before either ends
abbrev differ : List ℕ → List ℕ → Bool
differ [] ds = false
differ (c ∷ cs) [] = false
differ (c ∷ cs) (d ∷ ds) = not (nat_eq c d) || differ cs ds

no-twin : (c d : ℕ) → nat_eq c d ≡ false → c ≢ d
no-twin c d h same = grind (arith, nat_tests)

head-differs : (c d : ℕ) (cs ds xs ys : List ℕ) (b : Bool) → nat_eq c d ≡ b
    → (not b || differ cs ds) ≡ true → (differ cs ds ≡ true → xs ≢ ys) → c ∷ xs ≢ d ∷ ys
head-differs c d cs ds xs ys true e h rest same = rest h cc
head-differs c d cs ds xs ys false e h rest same = let one : c ≡ d = cc in no-twin c d e one

differ-apart : (class other : List ℕ) → differ class other ≡ true → (x y : List ℕ)
    → class ++ x ≢ other ++ y
differ-apart [] other h x y = absurd (cc)
differ-apart (c ∷ cs) [] h x y = absurd (cc)
differ-apart (c ∷ cs) (d ∷ ds) h x y =
    head-differs c d cs ds (cs ++ x) (ds ++ y) (nat_eq c d) refl h (λ t. differ-apart cs ds t x y)

-- a class with the number of its first node, and how many it has
record Family : Type 0 where
  class : List ℕ
  first : ℕ
  count : ℕ

abbrev family_names : Family → List (List ℕ)
family_names f = numbered f.class f.first f.count

abbrev are_apart : List Family → Bool
are_apart [] = true
are_apart (f ∷ fs) = list_all (λ g. differ f.class g.class) fs && are_apart fs

abbrev AreFew : List Family → Type 0
AreFew [] = Unit {0}
AreFew (f ∷ fs) = (f.first + f.count < 2 ^ 64) × AreFew fs

apart-from : (f : Family) (fs : List Family) → list_all (λ g. differ f.class g.class) fs ≡ true
    → AllByRecursion (λ x. AllByRecursion (λ y. x ≢ y) (flat_map family_names fs)) (family_names f)
apart-from f [] h = no-names (family_names f)
  where
    no-names : (xs : List (List ℕ)) → AllByRecursion (λ x. Unit {0}) xs
    no-names [] = tt
    no-names (x ∷ xs) = (tt, no-names xs)
apart-from f (g ∷ gs) h =
    let parts = and_parts (differ f.class g.class) (list_all (λ k. differ f.class k.class) gs) h in
    together (family_names g) (flat_map family_names gs) (family_names f)
    (names-other f.class g.class f.first f.count g.first g.count
    (differ-apart f.class g.class parts.0)) (apart-from f gs parts.1)
  where
    together : (ys zs xs : List (List ℕ)) → AllByRecursion (λ x. AllByRecursion (λ y. x ≢ y) ys) xs
        → AllByRecursion (λ x. AllByRecursion (λ y. x ≢ y) zs) xs
        → AllByRecursion (λ x. AllByRecursion (λ y. x ≢ y) (ys ++ zs)) xs
    together ys zs [] p q = tt
    together ys zs (x ∷ xs) p q = (both (λ y. x ≢ y) ys zs p.0 q.0, together ys zs xs p.1 q.1)

families-differ : (fs : List Family) → are_apart fs ≡ true → AreFew fs
    → AllDiffer (flat_map family_names fs)
families-differ [] h few = tt
families-differ (f ∷ fs) h few =
    let parts = and_parts (list_all (λ g. differ f.class g.class) fs) (are_apart fs) h in
    AllDiffer-append (family_names f) (flat_map family_names fs)
    (numbered-differ f.class f.first f.count few.0) (families-differ fs parts.1 few.1)
    (apart-from f fs parts.0)

-- a name that is of none of the classes
apart-single : (name : List ℕ) (fs : List Family) → list_all (λ g. differ name g.class) fs ≡ true
    → AllByRecursion (λ y. name ≢ y) (flat_map family_names fs)
apart-single name [] h = tt
apart-single name (g ∷ gs) h =
    let parts = and_parts (differ name g.class) (list_all (λ k. differ name k.class) gs) h in
    both (λ y. name ≢ y) (family_names g) (flat_map family_names gs)
    (name-other name g.class g.first g.count
    (λ y same. differ-apart name g.class parts.0 [] y (append-nil name ∙ same)))
    (apart-single name gs parts.1)

-- the classes of a bay's nodes that are numbered
abbrev families_of : Profile → Nameplate → List Switch → List (List ℕ) → List Meter → List Family
families_of profile n ss ins ms =
    record { class = codes "XCBR"; first = 1; count = length (filter (is_in_group true) ss) }
    ∷ record { class = codes "XSWI"; first = 1; count = length (filter (is_in_group false) ss) }
    ∷ record { class = codes "CSWI"; first = 1; count = length ss }
    ∷ record { class = codes "CILO"; first = 1; count = length ss }
    ∷ record { class = codes "MMXU"; first = 1; count = length ms }
    ∷ record { class = codes "GGIO"; first = 1; count = length (input_nodes profile n ins) }
    ∷ []

one-input-node : (profile : Profile) (n : Nameplate) (ins : List (List ℕ))
    → length (input_nodes profile n ins) ≤ 1
one-input-node One n ins = omega arith
one-input-node Two n [] = omega arith
one-input-node Two n (name ∷ names) = omega arith

names-inputs : (profile : Profile) (n : Nameplate) (ins : List (List ℕ))
    → names_of (input_nodes profile n ins)
    ≡ numbered (codes "GGIO") 1 (length (input_nodes profile n ins))
names-inputs One n ins = refl
names-inputs Two n [] = refl
names-inputs Two n (name ∷ names) =
    ap (λ digits. (codes "GGIO" ++ digits) ∷ []) (sym (decimal_digit 1 (omega arith)))

nodes-good : (n : Nameplate) (ss : List Switch) (ins : List (List ℕ)) (ms : List Meter)
    → length ss < 2 ^ 32 → length ins < 2 ^ 32 → length ms < 2 ^ 32
    → AllByRecursion IsGood (nodes_of n ss ins ms)
nodes-good n ss ins ms few some fewer =
    let one = length-filter-le (is_in_group true) ss in
    let two = length-filter-le (is_in_group false) ss in
    let inputs = input_nodes n.profile n ins in
    let meters =
    both IsGood (meter_nodes n ms) inputs
    (good-numbered (meter_node n) (good-meter n) 1 ms (omega arith))
    (good-inputs n.profile n ins some) in
    let interlockings =
    both IsGood (interlocking_nodes n ss) (meter_nodes n ms ++ inputs)
    (good-numbered (interlocking_node n) (good-interlocking n) 1 ss (omega arith)) meters in
    let controls =
    both IsGood (control_nodes n ss) (interlocking_nodes n ss ++ (meter_nodes n ms ++ inputs))
    (good-numbered (control_node n) (good-control n) 1 ss (omega arith)) interlockings in
    let others =
    both IsGood (position_nodes n false ss)
    (control_nodes n ss ++ (interlocking_nodes n ss ++ (meter_nodes n ms ++ inputs)))
    (good-numbered (position_node n) (good-position n) 1 (filter (is_in_group false) ss)
    (omega arith)) controls in
    let breakers =
    both IsGood (position_nodes n true ss)
    (position_nodes n false ss
    ++ (control_nodes n ss ++ (interlocking_nodes n ss ++ (meter_nodes n ms ++ inputs))))
    (good-numbered (position_node n) (good-position n) 1 (filter (is_in_group true) ss)
    (omega arith)) others
    in
    (good-device n, (good-physical n, breakers))

names-nodes : (n : Nameplate) (ss : List Switch) (ins : List (List ℕ)) (ms : List Meter)
    → names_of (nodes_of n ss ins ms)
    ≡ codes "LLN0" ∷ codes "LPHD1" ∷ flat_map family_names (families_of n.profile n ss ins ms)
names-nodes n ss ins ms =
    let name : Node → List ℕ = λ node. node.name in
    let inputs = input_nodes n.profile n ins in
    let breakers =
    names-positions n (codes "XCBR") 1 (filter (is_in_group true) ss) (breakers-class ss) in
    let others =
    names-positions n (codes "XSWI") 1 (filter (is_in_group false) ss) (others-class ss) in
    let controls = names-numbered (codes "CSWI") (control_node n) (λ k t. refl) 1 ss in
    let interlockings = names-numbered (codes "CILO") (interlocking_node n) (λ k t. refl) 1 ss in
    let meters = names-numbered (codes "MMXU") (meter_node n) (λ k t. refl) 1 ms in
    rw (
      map-append name (position_nodes n true ss)
          (position_nodes n false ss
          ++ (control_nodes n ss ++ (interlocking_nodes n ss ++ (meter_nodes n ms ++ inputs)))),
      map-append name (position_nodes n false ss)
          (control_nodes n ss ++ (interlocking_nodes n ss ++ (meter_nodes n ms ++ inputs))),
      map-append name (control_nodes n ss)
          (interlocking_nodes n ss ++ (meter_nodes n ms ++ inputs)),
      map-append name (interlocking_nodes n ss) (meter_nodes n ms ++ inputs),
      map-append name (meter_nodes n ms) inputs,
      breakers,
      others,
      controls,
      interlockings,
      meters,
      names-inputs n.profile n ins,
      append-nil,
    )

nodes-differ : (n : Nameplate) (ss : List Switch) (ins : List (List ℕ)) (ms : List Meter)
    → length ss < 2 ^ 32 → length ms < 2 ^ 32 → AllDiffer (names_of (nodes_of n ss ins ms))
nodes-differ n ss ins ms few fewer =
    let one = length-filter-le (is_in_group true) ss in
    let two = length-filter-le (is_in_group false) ss in
    let three = one-input-node n.profile n ins in
    let fs = families_of n.profile n ss ins ms in
    let rest : AllDiffer (flat_map family_names fs) =
    families-differ fs refl
    (omega arith, (omega arith, (omega arith, (omega arith, (omega arith, (omega arith, tt)))))) in
    subst AllDiffer (sym (names-nodes n ss ins ms)) (
      (differ-apart (codes "LLN0") (codes "LPHD1") refl [] [], apart-single (codes "LLN0") fs refl),
      (apart-single (codes "LPHD1") fs refl, rest),
    )

all-apart : (nodes : List Node) → AllByRecursion (λ m. IsApart [] m.name) nodes
all-apart [] = tt
all-apart (node ∷ nodes) = (tt, all-apart nodes)

-- the rows of a bay make a tree
pub rows-make-tree : (n : Nameplate) (ss : List Switch) (ins : List (List ℕ)) (ms : List Meter)
    → length ss < 2 ^ 32 → length ins < 2 ^ 32 → length ms < 2 ^ 32
    → IsTree (bay_rows n ss ins ms)
rows-make-tree n ss ins ms few some fewer =
    IsTree-follow (bay_rows n ss ins ms)
    (nodes-follow [] (nodes_of n ss ins ms) (nodes-good n ss ins ms few some fewer)
    (all-apart (nodes_of n ss ins ms)) (nodes-differ n ss ins ms few fewer))
