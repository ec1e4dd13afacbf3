-- What is spelled as an image in version 2 is read back.
use Rattle.std.proofs.lemmas.Grind.{common_steps}
use Rattle.std.proofs.Common.{◌≡◌, ℕ, ◌≤◌, Bool, true, false, cond, eqb, ltb, List, [], ◌∷◌, ◌++◌, length, refl, arith}
use Rattle.std.specs.Prelude.{Ok, FitsSigned}
use Rattle.std.specs.Int.{w64}
use Rattle.std.specs.List.{list_all}
use Rattle.std.proofs.lemmas.Bool.{ne_eqb, le-ltb, eq-eqb}
use Rattle.std.proofs.lemmas.List.{append_assoc}
use Rattle.std.proofs.Math.Seq.{take-append_seam, drop-append_seam, take-length}
use Rattle.std.proofs.lemmas.List.{length-append}
use Rattle.bay_base.specs.declared.types.ElementaryType.{ElementaryType}
use Rattle.bay_base.specs.declared.types.ElementaryType.TheVariants as elementary
use Rattle.il_image.specs.declared.opcode.Version.TheVariants.{Two}
use Rattle.bay_base.specs.declared.types.TimerKind.{TimerKind}
use Rattle.bay_base.specs.declared.types.TimerKind.TheVariants.{OnDelay, OffDelay}
use Rattle.il_image.specs.declared.write.Size.TheVariants as size
use Rattle.il_image.specs.Decoding.{code_at, counted_at, decoded_image, items_at, name_at, name_of_length, point_at, timer_at, type_at, variable_at}
use Rattle.il_image.specs.Images.{Each, HasName, Image, IsCode, IsImage, IsName, IsValue, count_and_items, each_spelled, image_octets, is_name_octet, point_octets, timer_octets, type_octet, variable_octets}
use Rattle.il_image.specs.Octets.{bits_of_size, number_octets, signed_octets, size_of, most_counted}
use Rattle.il_image.specs.Reading.{Read}
use Rattle.il_image.specs.Values.{number_of, type_of}
use Rattle.il_image.proofs.ReadLemmas.{back-number, back-signed}
use Rattle.il_image.proofs.ValueLemmas.{value-back, value_is}
use Rattle.il_image.proofs.CodeLemmas.{faultless}
use Rattle.il_image.proofs.PieceLemmas.{Any}

-- An item's spelling is read back whatever follows it.
abbrev Reads : {A : Type 0} → (A → List ℕ) → (A → Type 0) → (List ℕ → Read A) → Type 0
Reads {A} spell P item = (x : A) (rest : List ℕ) → P x → item (spell x ++ rest) ≡ Ok (x, rest)

back-items : {A : Type 0} (spell : A → List ℕ) (P : A → Type 0) (item : List ℕ → Read A)
    → Reads spell P item → (xs : List A) (rest : List ℕ) → Each P xs
    → items_at item (length xs) (each_spelled spell xs ++ rest) ≡ Ok (xs, rest)
back-items spell P item reads [] rest good = refl
back-items {A} spell P item reads (x ∷ xs) rest good =
    let first = reads x (each_spelled spell xs ++ rest) good.0 in
    let later = back-items spell P item reads xs rest good.1 in
    rw (append_assoc (spell x) (each_spelled spell xs) rest, first, later) refl

back-counted : {A : Type 0} (spell : A → List ℕ) (P : A → Type 0) (item : List ℕ → Read A)
    → Reads spell P item → (xs : List A) (rest : List ℕ) → length xs ≤ most_counted → Each P xs
    → counted_at item (count_and_items spell xs ++ rest) ≡ Ok (xs, rest)
back-counted spell P item reads xs rest few good =
    let number = back-number (length xs) (each_spelled spell xs ++ rest) (omega arith) in
    rw (append_assoc (number_octets (length xs)) (each_spelled spell xs) rest, number)
    (back-items spell P item reads xs rest good)

-- ---- types, points

back-type : (t : ElementaryType) (rest : List ℕ) → type_at Two (type_octet t ∷ rest) ≡ Ok (t, rest)
back-type t rest = grind (arith, common_steps)

back-length : (name rest : List ℕ) → list_all is_name_octet name ≡ true
    → name_of_length (length name) (name ++ rest) ≡ Ok (name, rest)
back-length name rest good =
    let front = take-append_seam name rest in
    let behind_it = drop-append_seam name rest in
    let long : ltb (length (name ++ rest)) (length name) ≡ false =
    le-ltb (length (name ++ rest)) (length name) (omega (arith, length-append name rest)) in
    rw (front, good, long, behind_it) refl

back-name : (name rest : List ℕ) → IsName name
    → name_at (length name ∷ (name ++ rest)) ≡ Ok (name, rest)
back-name name rest is =
    let some = is.some in
    let some-octet : eqb (length name) 0 ≡ false = ne_eqb (length name) 0 (omega arith) in
    let few : ltb 64 (length name) ≡ false = le-ltb 64 (length name) is.few in
    rw (some-octet, few) (back-length name rest is.octets)

back-access : (w : Bool) (t : ElementaryType) (name rest : List ℕ) → IsName name
    → point_at Two (type_octet t ∷ cond w 1 0 ∷ length name ∷ (name ++ rest))
    ≡ Ok (record { name = name; elementary = t; writable = w }, rest)
unfolding point_at
back-access true t name rest is =
    rw (back-type t (1 ∷ length name ∷ (name ++ rest)), back-name name rest is) refl
back-access false t name rest is =
    rw (back-type t (0 ∷ length name ∷ (name ++ rest)), back-name name rest is) refl

back-point : Reads point_octets HasName (point_at Two)
back-point p rest is = back-access p.writable p.elementary p.name rest is

-- ---- variables, timers

wide : (t : ElementaryType) (z : _) → FitsSigned (bits_of_size (size_of t)) z → FitsSigned w64 z
wide elementary.Lint z fits = fits
wide i z fits = let h = fits.sfits in record { sfits = omega arith }

back-variable : Reads (variable_octets Two) IsValue (variable_at Two)
unfolding variable_at
back-variable v rest good =
    let t = type_of v in
    let is = value-back v good in
    let fits = wide t (number_of v) (value_is t (number_of v) v is).fits in
    let number = back-signed size.Eight (number_of v) rest fits in
    rw (back-type t (signed_octets size.Eight (number_of v) ++ rest), number, is) refl

back-timer : Reads (timer_octets Two) Any (timer_at Two)
unfolding timer_at
back-timer OnDelay rest good = refl
back-timer OffDelay rest good = refl

each-kind : (kinds : List TimerKind) → Each Any kinds
each-kind [] = tt
each-kind (kind ∷ kinds) = (tt, each-kind kinds)

-- ---- code and images

back-code : (code : List ℕ) → length code ≤ most_counted → IsCode code
    → code_at Two (number_octets (length code) ++ code) ≡ Ok code
unfolding code_at
back-code code few is =
    let number = back-number (length code) code (omega arith) in
    let all = take-length code in
    let same : eqb (length code) (length code) ≡ true = eq-eqb (length code) (length code) refl in
    rw (number, all, faultless code (length code) is, same) refl

pub back-image : (i : Image) → IsImage i → decoded_image (image_octets Two i) ≡ Ok i
unfolding decoded_image image_octets
back-image i is =
    let code = number_octets (length i.code) ++ i.code in
    let rest3 = count_and_items (timer_octets Two) i.timers ++ code in
    let rest2 = count_and_items (variable_octets Two) i.variables ++ rest3 in
    let points =
    back-counted point_octets HasName (point_at Two) back-point i.points rest2 is.points
    is.names in
    let variables =
    back-counted (variable_octets Two) IsValue (variable_at Two) back-variable i.variables rest3
    is.variables is.values in
    let timers =
    back-counted (timer_octets Two) Any (timer_at Two) back-timer i.timers code is.timers
    (each-kind i.timers) in
    rw (points, variables, timers, back-code i.code is.size is.code) refl
