-- Inputs and outputs by the places of their points.
use Rattle.std.proofs.Common.{◌≡◌, ℕ, zero, suc, ◌+◌, ◌<◌, ◌≤◌, ℤ, Bool, true, false, not, cond, List, [], ◌∷◌, ◌++◌, length, map, drop, refl, sym, ap, subst, ◌∙◌, arith, Option, Some, None}
use Rattle.std.specs.Prelude.{IsSome, slice_get, slice_set, slice_index_or}
use Rattle.bay_base.specs.declared.types.ElementaryType.{ElementaryType}
use Rattle.il_image.specs.Images.{IsValue}
use Rattle.il_image.specs.declared.image.ImagePoint.{ImagePoint}
use Rattle.il_image.specs.declared.value.Value.{Value}
use Rattle.il_image.specs.Values.{type_of, value_of}
use Rattle.il_scan.specs.OutputValues.{output_value, point_value}
use Rattle.il_scan.specs.PointIndices.{AllBelow, read_indices, with_words, write_indices}
use Rattle.il_scan.specs.Scans.{first_input, read_only, type_of_point, with_inputs}
use Rattle.il_scan.specs.PointIndices.{AreValues, writable_count}
use Rattle.il_scan.specs.MachineStates.{AreWords, outputs_by}
use Rattle.il_scan.specs.Words.{AreTyped, slot_at, value_at}

-- ---- one element moves from behind a seam to before it

moved : {X : Type 0} (front : List X) (x : X) (xs : List X)
    → (front ++ (x ∷ [])) ++ xs ≡ front ++ (x ∷ xs)
moved [] x xs = refl
moved (y ∷ front) x xs = ap (λ ys. y ∷ ys) (moved front x xs)

longer : {X : Type 0} (front : List X) (x : X) → length (front ++ (x ∷ [])) ≡ length front + 1
longer [] x = refl
longer (y ∷ front) x = let e : length (front ++ (x ∷ [])) ≡ length front + 1 =
    longer front x in omega (arith, e)

-- ---- the places, point by point

below-case : (b : Bool) (most n : ℕ) (indices : List ℕ) → n < most → AllBelow most indices
    → AllBelow most (cond b indices (n ∷ indices))
below-case true most n indices l h = h
below-case false most n indices l h = (l, h)

below-case-not : (b : Bool) (most n : ℕ) (indices : List ℕ) → n < most → AllBelow most indices
    → AllBelow most (cond b (n ∷ indices) indices)
below-case-not true most n indices l h = (l, h)
below-case-not false most n indices l h = h

pub reads_below : (most n : ℕ) (points : List ImagePoint) → n + length points ≤ most
    → AllBelow most (read_indices n points)
reads_below most n [] h = tt
reads_below most n (p ∷ points) h =
    below-case p.writable most n (read_indices (n + 1) points) (omega (arith, h))
    (reads_below most (n + 1) points (omega (arith, h)))

pub writes-below : (most n : ℕ) (points : List ImagePoint) → n + length points ≤ most
    → AllBelow most (write_indices n points)
writes-below most n [] h = tt
writes-below most n (p ∷ points) h =
    below-case-not p.writable most n (write_indices (n + 1) points) (omega (arith, h))
    (writes-below most (n + 1) points (omega (arith, h)))

count-case : (b : Bool) (n count : ℕ) (indices : List ℕ) → count ≡ length indices
    → cond b 1 0 + count ≡ length (cond b (n ∷ indices) indices)
count-case true n count indices e = omega (arith, e)
count-case false n count indices e = omega (arith, e)

pub so-many-writes : (n : ℕ) (points : List ImagePoint)
    → writable_count points ≡ length (write_indices n points)
so-many-writes n [] = refl
so-many-writes n (p ∷ points) =
    count-case p.writable n (writable_count points) (write_indices (n + 1) points)
    (so-many-writes (n + 1) points)

types-case : (b : Bool) (n : ℕ) (p : ImagePoint) (points : List ImagePoint)
    → length (map type_of_point (read_only points)) ≡ length (read_indices (n + 1) points)
    → length (map type_of_point (cond (not b) (p ∷ read_only points) (read_only points)))
    ≡ length (cond b (read_indices (n + 1) points) (n ∷ read_indices (n + 1) points))
types-case true n p points e = e
types-case false n p points e = ap suc e

pub so-many-types : (n : ℕ) (points : List ImagePoint)
    → length (map type_of_point (read_only points)) ≡ length (read_indices n points)
so-many-types n [] = refl
so-many-types n (p ∷ points) = types-case p.writable n p points (so-many-types (n + 1) points)

-- ---- values of their types

pub are-values : (types : List ElementaryType) (values : List Value) → AreTyped types values
    → AreValues values
are-values [] [] h k v e = absurd cc
are-values [] (w ∷ values) h k v e = absurd h
are-values (t ∷ types) [] h k v e = absurd h
are-values (t ∷ types) (w ∷ values) h zero v e = let same : w ≡ v = cc in subst IsValue same h.0.1
are-values (t ∷ types) (w ∷ values) h (suc k) v e = are-values types values h.1 k v e

pub types_of : (types : List ElementaryType) (values : List Value) → AreTyped types values
    → map type_of values ≡ types
types_of [] [] h = refl
types_of [] (w ∷ values) h = absurd h
types_of (t ∷ types) [] h = absurd h
types_of (t ∷ types) (w ∷ values) h =
    ap (λ u. u ∷ map type_of values) h.0.0
    ∙ ap (λ (us : List ElementaryType). t ∷ us) (types_of types values h.1)

-- ---- inputs

set-behind : (front : List ℤ) (s w : ℤ) (slots : List ℤ)
    → slice_set (front ++ (s ∷ slots)) (length front) w ≡ front ++ (w ∷ slots)
set-behind [] s w slots = refl
set-behind (x ∷ front) s w slots = ap (λ xs. x ∷ xs) (set-behind front s w slots)

no-inputs : (points : List ImagePoint) (slots : List ℤ) → length points ≤ length slots
    → with_inputs points [] slots ≡ slots
no-inputs [] slots h = refl
no-inputs (p ∷ points) [] h = absurd (omega (arith, h))
no-inputs (p ∷ points) (s ∷ slots) h =
    by-case p.writable (no-inputs points slots (omega (arith, h)))
  where
    by-case : (b : Bool) → with_inputs points [] slots ≡ slots
        → cond b s s ∷ with_inputs points (cond b [] []) slots ≡ s ∷ slots
    by-case true e = ap (λ ss. s ∷ ss) e
    by-case false e = ap (λ ss. s ∷ ss) e

placed : (front : List ℤ) (points : List ImagePoint) (words slots : List ℤ)
    → length points ≤ length slots
    → with_words (read_indices (length front) points) words (front ++ slots)
    ≡ front ++ with_inputs points words slots
placed front [] words slots h = refl
placed front (p ∷ points) words [] h = absurd (omega (arith, h))
placed front (p ∷ points) words (s ∷ slots) h =
    by-case p.writable words
    (λ x left. placed (front ++ (x ∷ [])) points left slots (omega (arith, h)))
    (no-inputs points slots (omega (arith, h)))
  where
    Rest : Type 0
    Rest = (x : ℤ) (left : List ℤ)
        → with_words (read_indices (length (front ++ (x ∷ []))) points) left
        ((front ++ (x ∷ [])) ++ slots) ≡ (front ++ (x ∷ [])) ++ with_inputs points left slots

    next : Rest → (x : ℤ) (left : List ℤ)
        → with_words (read_indices (length front + 1) points) left (front ++ (x ∷ slots))
        ≡ front ++ (x ∷ with_inputs points left slots)
    next rest x left =
        ap (λ (n : ℕ). with_words (read_indices n points) left (front ++ (x ∷ slots)))
        (sym (longer front x))
        ∙ ap (with_words (read_indices (length (front ++ (x ∷ []))) points) left)
        (sym (moved front x slots))
        ∙ rest x left ∙ moved front x (with_inputs points left slots)

    by-case : (b : Bool) (ws : List ℤ) → Rest → with_inputs points [] slots ≡ slots
        → with_words (cond b (read_indices (length front + 1) points)
        (length front ∷ read_indices (length front + 1) points)) ws (front ++ (s ∷ slots))
        ≡ front ++ (cond b s (first_input ws s) ∷ with_inputs points (cond b ws (drop 1 ws)) slots)
    by-case true ws rest none = next rest s ws
    by-case false [] rest none = ap (λ ss. front ++ (s ∷ ss)) (sym none)
    by-case false (w ∷ ws) rest none =
        ap (with_words (read_indices (length front + 1) points) ws) (set-behind front s w slots)
        ∙ next rest w ws

pub inputs-placed : (points : List ImagePoint) (words slots : List ℤ) → length points ≤ length slots
    → with_words (read_indices 0 points) words slots ≡ with_inputs points words slots
inputs-placed points words slots h = placed [] points words slots h

-- what is at the places of the points that may only be read are their inputs
pub inputs-taken : (points : List ImagePoint) (reads : List ℕ) (words slots taken : List ℤ)
    → length points ≤ length slots → reads ≡ read_indices 0 points
    → taken ≡ with_words reads words slots → taken ≡ with_inputs points words slots
inputs-taken points reads words slots taken few read e =
    e ∙ ap (λ (ns : List ℕ). with_words ns words slots) read ∙ inputs-placed points words slots few

pub below-at : (most : ℕ) (indices : List ℕ) (k : ℕ) → AllBelow most indices → k < length indices
    → slice_index_or indices k 0 < most
below-at most [] k h l = absurd (omega (arith, l))
below-at most (n ∷ indices) zero h l = h.0
below-at most (n ∷ indices) (suc k) h l = below-at most indices k h.1 (omega (arith, l))

-- ---- outputs

-- what a function gives of the element at a place
pub mapped-at : (f : ℕ → Value) (indices : List ℕ) (k : ℕ) → k < length indices
    → slice_get (map f indices) k ≡ Some (f (slice_index_or indices k 0))
mapped-at f [] k l = absurd (omega (arith, l))
mapped-at f (n ∷ indices) zero l = refl
mapped-at f (n ∷ indices) (suc k) l = mapped-at f indices k (omega (arith, l))

pub mapped-none : (f : ℕ → Value) (indices : List ℕ) (k : ℕ) → length indices ≤ k
    → slice_get (map f indices) k ≡ None
mapped-none f [] k l = refl
mapped-none f (n ∷ indices) zero l = absurd (omega (arith, l))
mapped-none f (n ∷ indices) (suc k) l = mapped-none f indices k (omega (arith, l))

get-behind : (front : List ImagePoint) (p : ImagePoint) (points : List ImagePoint)
    → slice_get (front ++ (p ∷ points)) (length front) ≡ Some p
get-behind [] p points = refl
get-behind (q ∷ front) p points = get-behind front p points

word-behind : (front : List ℤ) (w : ℤ) (words : List ℤ)
    → slot_at (front ++ (w ∷ words)) (length front) ≡ w
word-behind [] w words = refl
word-behind (x ∷ front) w words = word-behind front w words

given : (before : List ImagePoint) (front : List ℤ) → length before ≡ length front
    → (points : List ImagePoint) (slots : List ℤ) → length points ≤ length slots
    → map (output_value (before ++ points) (front ++ slots)) (write_indices (length before) points)
    ≡ outputs_by points slots
given before front same [] slots h = refl
given before front same (p ∷ points) [] h = absurd (omega (arith, h))
given before front same (p ∷ points) (w ∷ slots) h =
    by-case p.writable (given (before ++ (p ∷ [])) (front ++ (w ∷ []))
    (longer before p ∙ ap (λ (n : ℕ). n + 1) same ∙ sym (longer front w)) points slots
    (omega (arith, h)))
  where
    more : List Value
    more = map (output_value (before ++ (p ∷ points)) (front ++ (w ∷ slots)))
        (write_indices (length before + 1) points)

    first : output_value (before ++ (p ∷ points)) (front ++ (w ∷ slots)) (length before)
        ≡ value_at p.elementary w
    first =
        ap (λ (o : Option ImagePoint). point_value o
        (slot_at (front ++ (w ∷ slots)) (length before))) (get-behind before p points)
        ∙ ap (λ (n : ℕ). value_at p.elementary (slot_at (front ++ (w ∷ slots)) n)) same
        ∙ ap (value_at p.elementary) (word-behind front w slots)

    by-case : (b : Bool) → map
        (output_value ((before ++ (p ∷ [])) ++ points) ((front ++ (w ∷ [])) ++ slots))
        (write_indices (length (before ++ (p ∷ []))) points) ≡ outputs_by points slots
        → map (output_value (before ++ (p ∷ points)) (front ++ (w ∷ slots)))
        (cond b (length before ∷ write_indices (length before + 1) points)
        (write_indices (length before + 1) points))
        ≡ cond b (value_at p.elementary w ∷ outputs_by points slots) (outputs_by points slots)
    by-case b e =
        let rest : more ≡ outputs_by points slots =
        ap (λ (n : ℕ). map (output_value (before ++ (p ∷ points)) (front ++ (w ∷ slots)))
        (write_indices n points)) (sym (longer before p))
        ∙ ap (λ (ps : List ImagePoint). map (output_value ps (front ++ (w ∷ slots)))
        (write_indices (length (before ++ (p ∷ []))) points)) (sym (moved before p points))
        ∙ ap (λ (ss : List ℤ). map (output_value ((before ++ (p ∷ [])) ++ points) ss)
        (write_indices (length (before ++ (p ∷ []))) points)) (sym (moved front w slots)) ∙ e in
        by-bool b rest
      where
        by-bool : (b : Bool) → more ≡ outputs_by points slots
            → map (output_value (before ++ (p ∷ points)) (front ++ (w ∷ slots)))
            (cond b (length before ∷ write_indices (length before + 1) points)
            (write_indices (length before + 1) points))
            ≡ cond b (value_at p.elementary w ∷ outputs_by points slots) (outputs_by points slots)
        by-bool true rest =
            ap (λ (v : Value). v ∷ more) first
            ∙ ap (λ (vs : List Value). value_at p.elementary w ∷ vs) rest
        by-bool false rest = rest

pub outputs-placed : (points : List ImagePoint) (slots : List ℤ) → length points ≤ length slots
    → map (output_value points slots) (write_indices 0 points) ≡ outputs_by points slots
outputs-placed points slots h = given [] [] refl points slots h

-- what stands at a point's place
pub word-some : (points : List ImagePoint) (slots : List ℤ) (place : ℕ) (p : ImagePoint)
    → AreWords points slots → place < length points → p ≡ slice_index_or points place p
    → IsSome (value_of p.elementary (slot_at slots place))
word-some [] slots place p h l e = absurd (omega (arith, l))
word-some (q ∷ points) [] place p h l e = absurd h
word-some (q ∷ points) (w ∷ slots) zero p h l e =
    subst (λ (o : ImagePoint). IsSome (value_of o.elementary w)) (sym e) h.0
word-some (q ∷ points) (w ∷ slots) (suc place) p h l e =
    word-some points slots place p h.1 (omega (arith, l)) e

pub output-there : (points : List ImagePoint) (slots : List ℤ) (place : ℕ) (p : ImagePoint)
    → place < length points → p ≡ slice_index_or points place p
    → output_value points slots place ≡ value_at p.elementary (slot_at slots place)
output-there points slots place p l e =
    ap (λ (o : Option ImagePoint). point_value o (slot_at slots place)) (got points place l e)
  where
    got : (ps : List ImagePoint) (k : ℕ) → k < length ps → p ≡ slice_index_or ps k p
        → slice_get ps k ≡ Some p
    got [] k m d = absurd (omega (arith, m))
    got (q ∷ ps) zero m d = ap Some (sym d)
    got (q ∷ ps) (suc k) m d = got ps k (omega (arith, m)) d

pub few-words : (points : List ImagePoint) (slots : List ℤ) → AreWords points slots
    → length points ≤ length slots
few-words [] slots h = omega arith
few-words (p ∷ points) [] h = absurd h
few-words (p ∷ points) (w ∷ slots) h = let more : length points ≤ length slots =
    few-words points slots h.1 in omega (arith, more)
