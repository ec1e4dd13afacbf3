-- The parameters of a request, read from the left.
use Rattle.std.proofs.Common.{◌≡◌, ℕ, zero, suc, ◌+◌, ◌-◌, ◌*◌, ◌%◌, ◌^◌, ◌<◌, ◌≤◌, Bool, true, false, cond, eqb, List, [], ◌∷◌, length, take, drop, get_or, Option, Some, None, refl, sym, ap, ◌∙◌, arith}
use Rattle.std.specs.Option.{option_map}
use Rattle.std.proofs.lemmas.List.{length-drop, drop_more, drop-drop, drop_all}
use Rattle.std.proofs.Math.Nat.{pow-le-pow_right}
use Rattle.bay_transport.specs.Assembly.{IsSize}
use Rattle.bay_transport.specs.Connect.{Parameter, with_parameter, parameters_after, parameters_of, or_else, last_value}
use Rattle.bay_transport.specs.Found.{found_then}

pub parameters_behind-is : (k : ℕ) (octets : List ℕ) → k ≤ length octets
    → parameters_after k octets ≡ parameters_of (drop k octets)
parameters_behind-is zero octets within = refl
parameters_behind-is (suc k) [] within = absurd (omega arith)
parameters_behind-is (suc k) (x ∷ octets) within = parameters_behind-is k octets (omega arith)

pub parameters_behind-past : (k : ℕ) (octets : List ℕ) → length octets < k
    → parameters_after k octets ≡ None
parameters_behind-past zero octets past = absurd (omega arith)
parameters_behind-past (suc k) [] past = refl
parameters_behind-past (suc k) (x ∷ octets) past = parameters_behind-past k octets (omega arith)

-- the value that was found stands, unless a later parameter has the code
abbrev pub or_found : ℕ → Option (List ℕ) → List Parameter → Option (List ℕ)
or_found code found ps = or_else (last_value code ps) found

-- What is left of the octets, and what was found in front of it, give the value that all of them
-- give.
abbrev pub Keeps : ℕ → List ℕ → List ℕ → Option (List ℕ) → Type 0
Keeps code octets left found =
    option_map (last_value code) (parameters_of octets)
    ≡ option_map (or_found code found) (parameters_of left)

or-else-none : (x : Option (List ℕ)) → x ≡ or_else x None
or-else-none None = refl
or-else-none (Some x) = refl

keeps-at-first : (code : ℕ) (o : Option (List Parameter))
    → option_map (last_value code) o ≡ option_map (or_found code None) o
keeps-at-first code None = refl
keeps-at-first code (Some ps) =
    ap (λ (x : Option (List ℕ)). Some x) (or-else-none (last_value code ps))

pub keeps-first : (code : ℕ) (octets : List ℕ) → Keeps code octets (drop 0 octets) None
keeps-first code octets = keeps-at-first code (parameters_of octets)

or-else-assoc : (b : Bool) (later found : Option (List ℕ)) (value : List ℕ)
    → or_else (or_else later (cond b (Some value) None)) found
    ≡ or_else later (cond b (Some value) found)
or-else-assoc b (Some x) found value = refl
or-else-assoc true None found value = refl
or-else-assoc false None found value = refl

one-more : (code here count : ℕ) (behind : List ℕ) (found : Option (List ℕ))
    (o : Option (List Parameter))
    → option_map (or_found code found) (with_parameter here (count ∷ behind) o)
    ≡ option_map (or_found code (found_then code here (take count behind) found)) o
one-more code here count behind found None = refl
one-more code here count behind found (Some later) =
    ap (λ (x : Option (List ℕ)). Some x)
    (or-else-assoc (eqb here code) (last_value code later) found (take count behind))

-- two octets and what stands behind them
two-parts : (octets : List ℕ) (at : ℕ) → at + 2 ≤ length octets
    → drop at octets ≡ get_or octets at 0 ∷ get_or octets (at + 1) 0 ∷ drop (at + 2) octets
two-parts octets at within =
    let a : at < length octets = omega arith in
    let b : at + 1 < length octets = omega arith in
    let e : at + 1 + 1 ≡ at + 2 = omega arith in
    drop_more octets at 0 a ∙ ap (λ (ys : List ℕ). get_or octets at 0 ∷ ys)
    (drop_more octets (at + 1) 0 b ∙ ap (λ (n : ℕ). get_or octets (at + 1) 0 ∷ drop n octets) e)

pub keeps-more : (code : ℕ) (all octets : List ℕ) (at here count next : ℕ) (found : Option (List ℕ))
    → at + 2 ≤ length octets → here ≡ get_or octets at 0 → count ≡ get_or octets (at + 1) 0
    → count ≤ length octets - at - 2 → next ≡ at + 2 + count
    → Keeps code all (drop at octets) found
    → Keeps code all (drop next octets)
    (found_then code here (take count (drop (at + 2) octets)) found)
keeps-more code all octets at here count next found within h n fits is keeps =
    let behind = drop (at + 2) octets in
    let long : count ≤ length behind = omega (arith, length-drop (at + 2) octets) in
    let rest : parameters_after count behind ≡ parameters_of (drop next octets) =
    parameters_behind-is count behind long
    ∙ ap parameters_of (drop-drop count (at + 2) octets
    ∙ ap (λ (k : ℕ). drop k octets) (sym is)) in
    let parts : drop at octets ≡ here ∷ count ∷ behind = rw (h, n) (two-parts octets at within) in
    keeps ∙ ap (λ (ys : List ℕ). option_map (or_found code found) (parameters_of ys)) parts
    ∙ one-more code here count behind found (parameters_after count behind)
    ∙ ap (option_map (or_found code (found_then code here (take count behind) found))) rest

none-from : (code : ℕ) (o : Option (List Parameter)) → option_map (last_value code) o ≡ None
    → o ≡ None
none-from code None e = refl
none-from code (Some ps) e = absurd (cc)

pub keeps-none : (code : ℕ) (octets left : List ℕ) (found : Option (List ℕ))
    → Keeps code octets left found → parameters_of left ≡ None → parameters_of octets ≡ None
keeps-none code octets left found keeps none =
    none-from code (parameters_of octets) (keeps ∙ rw none refl)

-- one octet alone is no parameter
pub one-alone : (octets : List ℕ) (at : ℕ) → at < length octets → length octets - at < 2
    → parameters_of (drop at octets) ≡ None
one-alone octets at within few =
    let last : drop (at + 1) octets ≡ [] = drop_all (at + 1) octets (omega arith) in
    ap parameters_of (drop_more octets at 0 within
    ∙ ap (λ (ys : List ℕ). get_or octets at 0 ∷ ys) last)

pub value-past : (octets : List ℕ) (at count : ℕ) → at + 2 ≤ length octets
    → count ≡ get_or octets (at + 1) 0 → length octets - at - 2 < count
    → parameters_of (drop at octets) ≡ None
value-past octets at count within n past =
    let behind = drop (at + 2) octets in
    let few : length behind < count = omega (arith, length-drop (at + 2) octets) in
    let parts : drop at octets ≡ get_or octets at 0 ∷ count ∷ behind =
    rw n (two-parts octets at within) in
    ap parameters_of parts ∙ ap (with_parameter (get_or octets at 0) (count ∷ behind))
    (parameters_behind-past count behind few)

pub keeps-all : (code : ℕ) (octets : List ℕ) (at : ℕ) (found : Option (List ℕ)) → length octets ≤ at
    → Keeps code octets (drop at octets) found
    → option_map (last_value code) (parameters_of octets) ≡ Some found
keeps-all code octets at found all keeps =
    keeps ∙ ap (λ (ys : List ℕ). option_map (or_found code found) (parameters_of ys))
    (drop_all at octets all)

pub keeps-found : (code : ℕ) (octets : List ℕ) (at next : ℕ) (found last : Option (List ℕ))
    (value : List ℕ) → at + 2 ≤ length octets → get_or octets (at + 1) 0 ≤ length octets - at - 2
    → next ≡ at + (2 + get_or octets (at + 1) 0)
    → value ≡ take (get_or octets (at + 1) 0) (drop (at + 2) octets)
    → last ≡ found_then code (get_or octets at 0) value found
    → Keeps code octets (drop at octets) found → Keeps code octets (drop next octets) last
keeps-found code octets at next found last value within fits is value_is last_is keeps =
    let k = keeps-more code octets octets at (get_or octets at 0) (get_or octets (at + 1) 0) next
    found within refl refl fits (omega arith) keeps in
    rw (last_is, value_is) k

pub size-of-power : (power : ℕ) → 7 ≤ power → power ≤ 13
    → IsSize (1 * 2 ^ power % 18446744073709551616)
size-of-power power some few =
    let low : 2 ^ 7 ≤ 2 ^ power = pow-le-pow_right {n = 2} (omega arith) some in
    let high : 2 ^ power ≤ 2 ^ 13 = pow-le-pow_right {n = 2} (omega arith) few in
    record { some = omega arith; few = omega arith }
