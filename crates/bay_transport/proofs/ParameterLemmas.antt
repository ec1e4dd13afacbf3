-- Parameters are spelled in one way, and the answer's parameters are at most as long as the
-- request's.
use Rattle.std.proofs.Common.{◌≡◌, ℕ, zero, suc, ◌+◌, ◌≤◌, Bool, true, false, cond, eqb, List, [], ◌∷◌, ◌++◌, length, take, drop, min, Option, Some, None, Ok, Err, refl, sym, ap, ◌∙◌, inl, inr, arith}
use Rattle.std.proofs.lemmas.Option.{same_Some}
use Rattle.std.specs.Option.{option_map}
use Rattle.std.proofs.lemmas.Bool.{cases_eq, cases_lt, ne_eqb, lt-ltb, le-ltb}
use Rattle.std.proofs.lemmas.List.{length-append, length-take-le, take-append-drop, take_at, drop_at}
use Rattle.bay_transport.specs.declared.fault.TransportFault.TheVariants.{BadCotp}
use Rattle.bay_transport.specs.Connect.{Parameter, parameter_octets, length_octet, with_parameter, parameters_after, parameters_of, or_else, last_value, size_of, optional_parameter, size_value, answer_parameters, frame_header, confirm_head, confirm, with_parameters}
use Rattle.bay_transport.proofs.RequestLemmas.{parameters_behind-is}

-- ---- in one way

-- what parameters that were read say of the octets behind so many others
pub record Spells (k : ℕ) (octets : List ℕ) (ps : List Parameter) : Type 0 where
  pub within : k ≤ length octets
  pub is : drop k octets ≡ parameter_octets ps

spells-one : (code : ℕ) (octets : List ℕ) (ps : List Parameter) (o : Option (List Parameter))
    → with_parameter code octets o ≡ Some ps
    → ((later : List Parameter) → o ≡ Some later → Spells (suc (length_octet octets)) octets later)
    → code ∷ octets ≡ parameter_octets ps
spells-one code octets ps None e ih = absurd (cc)
spells-one code [] ps (Some later) e ih = absurd (cc)
spells-one code (n ∷ behind) ps (Some later) e ih =
    let s = ih later refl in
    let w = s.within in
    let t : length (take n behind) ≡ n = length-take-le n behind (omega arith) in
    let p : record { code = code; value = take n behind } ∷ later ≡ ps = cc in
    let parts : take n behind ++ parameter_octets later ≡ behind =
    ap (λ (ys : List ℕ). take n behind ++ ys) (sym s.is) ∙ take-append-drop n behind in
    sym (ap parameter_octets (sym p) ∙ rw (t, parts) refl)

spells-behind : (k : ℕ) (octets : List ℕ) (ps : List Parameter)
    → parameters_after k octets ≡ Some ps → Spells k octets ps
spells-behind zero [] ps e =
    record { within = omega arith; is = let p : [] ≡ ps = cc in ap parameter_octets p }
spells-behind (suc k) [] ps e = absurd (cc)
spells-behind zero (code ∷ octets) ps e = record {
  within = omega arith;
  is = spells-one code octets ps (parameters_after (suc (length_octet octets)) octets) e
      (λ later f. spells-behind (suc (length_octet octets)) octets later f);
}
spells-behind (suc k) (x ∷ octets) ps e = let s = spells-behind k octets ps e in let w =
    s.within in record { within = omega arith; is = s.is }

pub spelled-read : (octets : List ℕ) (ps : List Parameter) → parameters_of octets ≡ Some ps
    → octets ≡ parameter_octets ps
spelled-read octets ps e = (spells-behind 0 octets ps e).is

pub read-spelled : (ps : List Parameter) → parameters_of (parameter_octets ps) ≡ Some ps
read-spelled [] = refl
read-spelled (p ∷ ps) =
    let within : length p.value ≤ length (p.value ++ parameter_octets ps) =
    omega (arith, length-append p.value (parameter_octets ps)) in
    let rest : parameters_after (length p.value) (p.value ++ parameter_octets ps) ≡ Some ps =
    parameters_behind-is (length p.value) (p.value ++ parameter_octets ps) within
    ∙ ap parameters_of (drop_at p.value (parameter_octets ps) (length p.value) refl)
    ∙ read-spelled ps in
    rw (rest, take_at p.value (parameter_octets ps) (length p.value) refl) refl

-- ---- lengths

-- how many octets the last parameter with the code takes
abbrev pub part : ℕ → List Parameter → ℕ
part code ps = length (optional_parameter code (last_value code ps))

abbrev pub its_own : ℕ → Parameter → ℕ
its_own code p = cond (eqb p.code code) (length p.value + 2) 0

part_at : (code : ℕ) (b : Bool) (later : Option (List ℕ)) (value : List ℕ)
    → length (optional_parameter code (or_else later (cond b (Some value) None)))
    ≤ length (optional_parameter code later) + cond b (length value + 2) 0
part_at code true None value = omega arith
part_at code false None value = omega arith
part_at code true (Some x) value = omega arith
part_at code false (Some x) value = omega arith

part-more : (code : ℕ) (p : Parameter) (ps : List Parameter)
    → part code (p ∷ ps) ≤ part code ps + its_own code p
part-more code p ps = part_at code (eqb p.code code) (last_value code ps) p.value

own-one : (p : Parameter) → its_own 192 p + its_own 194 p + its_own 193 p ≤ length p.value + 2
own-one p =
    elim (cases_eq p.code 192) [
      | inl is ↦ rw is (omega arith)
      | inr a ↦ elim (cases_eq p.code 194) [
        | inl is ↦ rw is (omega arith)
        | inr b ↦ elim (cases_eq p.code 193) [
          | inl is ↦ rw is (omega arith)
          | inr d ↦ rw (ne_eqb p.code 192 a, ne_eqb p.code 194 b, ne_eqb p.code 193 d) (omega arith)
        ]
      ]
    ]

pub parts-within : (ps : List Parameter)
    → part 192 ps + part 194 ps + part 193 ps ≤ length (parameter_octets ps)
parts-within [] = omega arith
parts-within (p ∷ ps) =
    let a = part-more 192 p ps in
    let b = part-more 194 p ps in
    let d = part-more 193 p ps in
    let own = own-one p in
    let ih = parts-within ps in
    omega (arith, length-append p.value (parameter_octets ps))

size-part : (v : Option (List ℕ)) (power : Option ℕ) (size : ℕ) → size_of v ≡ Some (power, size)
    → length (optional_parameter 192 (size_value power)) ≡ length (optional_parameter 192 v)
size-part None power size e = let p : None ≡ power =
    ap (λ (s : Option ℕ × ℕ). s.0) (same_Some _ _ e) in rw (← p) refl
size-part (Some []) power size e = absurd (cc)
size-part (Some (x ∷ [])) power size e =
    elim (cases_lt x 7) [
      | inl few ↦ absurd (let f : None ≡ Some (power, size) = rw (lt-ltb x 7 few) at e in cc)
      | inr some ↦ let f = rw (le-ltb x 7 some) at e in let p : Some (min x 13) ≡ power =
          ap (λ (s : Option ℕ × ℕ). s.0) (same_Some _ _ f) in rw (← p) refl
    ]
size-part (Some (x ∷ y ∷ more)) power size e = absurd (cc)

-- ---- the answer

read-value : (code : ℕ) (ps : List Parameter) (value : Option (List ℕ))
    → option_map (last_value code) (Some ps) ≡ Some value → last_value code ps ≡ value
read-value code ps value e = same_Some _ _ e

-- the answer's parameters take no more octets than the request's
pub answered-within : (octets : List ℕ) (o : Option (List Parameter))
    (size called calling : Option (List ℕ)) (power : Option ℕ) (limit : ℕ)
    → parameters_of octets ≡ o → option_map (last_value 192) o ≡ Some size
    → option_map (last_value 194) o ≡ Some called → option_map (last_value 193) o ≡ Some calling
    → size_of size ≡ Some (power, limit)
    → length (answer_parameters power called calling) ≤ length octets
answered-within octets None size called calling power limit e s d g w = absurd (cc)
answered-within octets (Some ps) size called calling power limit e s d g w =
    let n : length octets ≡ length (parameter_octets ps) = ap length (spelled-read octets ps e) in
    let all = parts-within ps in
    let a : part 192 ps ≡ length (optional_parameter 192 size) =
    ap (λ (v : Option (List ℕ)). length (optional_parameter 192 v)) (read-value 192 ps size s) in
    let b : part 194 ps ≡ length (optional_parameter 194 called) =
    ap (λ (v : Option (List ℕ)). length (optional_parameter 194 v)) (read-value 194 ps called d) in
    let f : part 193 ps ≡ length (optional_parameter 193 calling) =
    ap (λ (v : Option (List ℕ)). length (optional_parameter 193 v)) (read-value 193 ps calling g) in
    let h = size-part size power limit w in
    let l : length (answer_parameters power called calling)
    ≡ length (optional_parameter 192 (size_value power)) + length (optional_parameter 194 called)
    + length (optional_parameter 193 calling) =
    length-append (optional_parameter 192 (size_value power) ++ optional_parameter 194 called)
    (optional_parameter 193 calling)
    ∙ ap (λ (k : ℕ). k + length (optional_parameter 193 calling))
    (length-append (optional_parameter 192 (size_value power)) (optional_parameter 194 called)) in
    omega arith

-- what the last values give
pub with-values : (number high low limit : ℕ) (o : Option (List Parameter))
    (size called calling : Option (List ℕ)) (power : Option ℕ)
    → option_map (last_value 192) o ≡ Some size → option_map (last_value 194) o ≡ Some called
    → option_map (last_value 193) o ≡ Some calling
    → size_of size ≡ Some (power, limit)
    → with_parameters number high low o
    ≡ Ok (record {
      size = limit;
      reply = confirm number high low (answer_parameters power called calling);
    })
with-values number high low limit None size called calling power s d g w = absurd (cc)
with-values number high low limit (Some ps) size called calling power s d g w =
    rw (read-value 192 ps size s, w)
    (rw (read-value 194 ps called d, read-value 193 ps calling g) refl)

pub without-size : (number high low : ℕ) (o : Option (List Parameter)) (size : Option (List ℕ))
    → option_map (last_value 192) o ≡ Some size → size_of size ≡ None
    → with_parameters number high low o ≡ Err BadCotp
without-size number high low None size s w = refl
without-size number high low (Some ps) size s w = rw (read-value 192 ps size s, w) refl

-- the frame of the confirmation, up to its parameters
pub confirm-parts : (number high low n : ℕ) (ps : List ℕ) → n ≡ length ps
    → confirm number high low ps ≡ frame_header (n + 7) ++ confirm_head number high low n ++ ps
confirm-parts number high low n ps is =
    let e : length (confirm_head number high low (length ps) ++ ps) ≡ n + 7 = omega arith in
    rw (e, ← is) refl
