-- Inputs, outputs and first values, told by words and by the values that they stand for.
use Rattle.std.proofs.lemmas.Grind.{common_steps}
use Rattle.std.proofs.lemmas.Option.{same_Some}
use Rattle.std.proofs.Common.{◌≡◌, ℕ, zero, suc, ◌+◌, ◌<◌, ◌≤◌, ℤ, pos, Bool, true, false, not, cond, List, [], ◌∷◌, ◌++◌, length, get_or, map, take, drop, refl, sym, ap, subst, ◌∙◌, arith, Option, Some, None, ◌&&◌}
use Rattle.std.specs.Prelude.{IsSome, slice_get}
use Rattle.bay_base.specs.declared.types.ElementaryType.{ElementaryType}
use Rattle.il_image.specs.declared.image.ImagePoint.{ImagePoint}
use Rattle.il_image.specs.declared.timer.TimerState.{TimerState}
use Rattle.bay_base.specs.declared.types.TimerKind.{TimerKind}
use Rattle.il_image.specs.declared.value.Value.{Value}
use Rattle.il_image.specs.Images.{Each, Image, IsValue}
use Rattle.il_image.specs.Timers.{first_state}
use Rattle.il_image.specs.Values.{default_value, number_of, type_of, value_of}
use Rattle.il_image.specs.Tables.{slot_types}
use Rattle.il_verify.specs.Judging.{is_read_only}
use Rattle.il_verify.specs.Slots.{point_slot, slots_of, variable_slot}
use Rattle.il_image.specs.declared.value.Value.TheVariants.{Truth}
use Rattle.il_image.proofs.KindLemmas.{same-is, same-self}
use Rattle.il_image.proofs.MapLemmas.{mapped-turn}
use Rattle.il_image.proofs.ValueLemmas.{default-typed}
use Rattle.bay_base.specs.Types.{same_type}
use Rattle.std.proofs.lemmas.Bool.{and_parts}
use Rattle.std.specs.Prelude.{is_some}
use Rattle.il_scan.specs.Scans.{AreInputs, first_input, first_slots, outputs_of, read_only, type_of_point, with_inputs}
use Rattle.il_scan.specs.PointIndices.{are_inputs, begins_with, is_of}
use Rattle.il_scan.specs.MachineStates.{AreWords, EncodesMemory, IsTimer, outputs_by}
use Rattle.il_scan.specs.Words.{AreTyped, EncodeValues, value_at, values_of, words_of}

-- ---- first words, variable by variable

pub number-turn : (variables : List Value) (i : ℕ) (y : ℤ) (first done new : List ℤ)
    → done ≡ first ++ words_of (take i variables) → i < length variables → new ≡ done ++ y ∷ []
    → y ≡ number_of (get_or variables i (Truth false))
    → new ≡ first ++ words_of (take (i + 1) variables)
number-turn variables i y first done new so_far within more is =
    mapped-turn number_of variables i (Truth false) y first done new so_far within is more

-- ---- words and values of slots

inputs-case : (b : Bool) (s : Value) (points : List ImagePoint) (inputs slots : List Value)
    → ((left : List Value) → with_inputs points (words_of left) (words_of slots)
    ≡ words_of (with_inputs points left slots))
    → cond b (number_of s) (first_input (words_of inputs) (number_of s))
    ∷ with_inputs points (cond b (words_of inputs) (drop 1 (words_of inputs))) (words_of slots)
    ≡ words_of (cond b s (first_input inputs s)
    ∷ with_inputs points (cond b inputs (drop 1 inputs)) slots)
inputs-case true s points inputs slots more = ap (λ (w : List ℤ). number_of s ∷ w) (more inputs)
inputs-case false s points [] slots more = ap (λ (w : List ℤ). number_of s ∷ w) (more [])
inputs-case false s points (i ∷ inputs) slots more =
    ap (λ (w : List ℤ). number_of i ∷ w) (more inputs)

inputs-are : (points : List ImagePoint) (inputs slots : List Value)
    → with_inputs points (words_of inputs) (words_of slots)
    ≡ words_of (with_inputs points inputs slots)
inputs-are [] inputs slots = refl
inputs-are (p ∷ points) inputs [] = refl
inputs-are (p ∷ points) inputs (s ∷ slots) =
    inputs-case p.writable s points inputs slots (λ left. inputs-are points left slots)

typed-case : (b : Bool) (p : ImagePoint) (s : Value) (points : List ImagePoint)
    (more : List ElementaryType) (inputs slots : List Value)
    → (type_of s ≡ p.elementary) × IsValue s
    → ((left : List Value) → AreInputs points left
    → AreTyped (map type_of_point points ++ more) (with_inputs points left slots))
    → AreTyped (map type_of_point (cond b (p ∷ read_only points) (read_only points))) inputs
    → AreTyped (p.elementary ∷ map type_of_point points ++ more)
    (cond (not b) s (first_input inputs s)
    ∷ with_inputs points (cond (not b) inputs (drop 1 inputs)) slots)
typed-case false p s points more inputs slots t rest h = (t, rest inputs h)
typed-case true p s points more [] slots t rest h = absurd h
typed-case true p s points more (i ∷ inputs) slots t rest h = (h.0, rest inputs h.1)

not-not : (b : Bool) → not (not b) ≡ b
not-not true = refl
not-not false = refl

inputs-typed : (points : List ImagePoint) (more : List ElementaryType) (inputs slots : List Value)
    → AreInputs points inputs → AreTyped (map type_of_point points ++ more) slots
    → AreTyped (map type_of_point points ++ more) (with_inputs points inputs slots)
inputs-typed [] more inputs slots h t = t
inputs-typed (p ∷ points) more inputs [] h t = absurd t
inputs-typed (p ∷ points) more inputs (s ∷ slots) h t =
    subst (λ (b : Bool). AreTyped (p.elementary ∷ map type_of_point points ++ more)
    (cond b s (first_input inputs s)
    ∷ with_inputs points (cond b inputs (drop 1 inputs)) slots)) (not-not p.writable)
    (typed-case (not p.writable) p s points more inputs slots t.0
    (λ left g. inputs-typed points more left slots g t.1) h)

are-words : (points : List ImagePoint) (more : List ElementaryType) (values : List Value)
    → AreTyped (map type_of_point points ++ more) values → AreWords points (words_of values)
are-words [] more values h = tt
are-words (p ∷ points) more [] h = absurd h
are-words (p ∷ points) more (v ∷ values) h = (
  subst (λ (t : ElementaryType). IsSome (value_of t (number_of v))) h.0.0 h.0.1,
  are-words points more values h.1,
)

few-points : (points : List ImagePoint) (words : List ℤ) → AreWords points words
    → length points ≤ length words
few-points [] words h = omega arith
few-points (p ∷ points) [] h = absurd h
few-points (p ∷ points) (w ∷ words) h = let more : length points ≤ length words =
    few-points points words h.1 in omega arith

pub outputs_are : (points : List ImagePoint) (more : List ElementaryType) (words : List ℤ)
    → outputs_by points words
    ≡ outputs_of points (values_of (map type_of_point points ++ more) words)
outputs_are [] more words = refl
outputs_are (p ∷ points) more [] = refl
outputs_are (p ∷ points) more (w ∷ words) =
    ap (λ (vs : List Value). cond p.writable (value_at p.elementary w ∷ vs) vs)
    (outputs_are points more words)

-- ---- of an image

pub held-words : (image : Image) (words : List ℤ) (timers : List TimerState)
    → EncodesMemory image words timers → AreWords image.points words
held-words image words timers h =
    subst (AreWords image.points) (sym h.stand.are)
    (are-words image.points (map type_of image.variables) (values_of (slot_types image) words)
    h.stand.typed)

pub held-points : (image : Image) (words : List ℤ) (timers : List TimerState)
    → EncodesMemory image words timers → length image.points ≤ length words
held-points image words timers h = few-points image.points words (held-words image words timers h)

pub taken-stand : (image : Image) (words : List ℤ) (timers : List TimerState) (inputs : List Value)
    → EncodesMemory image words timers → AreInputs image.points inputs
    → EncodeValues (slot_types image) (with_inputs image.points (words_of inputs) words)
    (with_inputs image.points inputs (values_of (slot_types image) words))
taken-stand image words timers inputs h are = record {
  are = ap (with_inputs image.points (words_of inputs)) h.stand.are
      ∙ inputs-are image.points inputs (values_of (slot_types image) words);
  typed = inputs-typed image.points (map type_of image.variables) inputs
      (values_of (slot_types image) words) are h.stand.typed;
}

-- a point that may only be read has a slot that may only be read
point-only : (points : List ImagePoint) (variables : List Value) (n : ℕ) (p : ImagePoint)
    → slice_get points n ≡ Some p → p.writable ≡ false
    → is_read_only (map point_slot points ++ map variable_slot variables) n ≡ true
point-only [] variables n p e w = absurd cc
point-only (q ∷ points) variables zero p e w = let same : q ≡ p =
    same_Some q p e in ap (λ (o : ImagePoint). not o.writable) same ∙ ap (λ (b : Bool). not b) w
point-only (q ∷ points) variables (suc n) p e w = point-only points variables n p e w

pub only-read : (image : Image) (n : ℕ) (p : ImagePoint) → slice_get image.points n ≡ Some p
    → p.writable ≡ false → is_read_only (slots_of image) n ≡ true
unfolding slots_of
only-read image n p e w = point-only image.points image.variables n p e w

zipped : Option ElementaryType → Option ℤ → Option Value
zipped None o = None
zipped (Some t) None = None
zipped (Some t) (Some w) = Some (value_at t w)

zipped-none : (o : Option ElementaryType) → zipped o None ≡ None
unfolding zipped
zipped-none None = refl
zipped-none (Some t) = refl

get-value : (types : List ElementaryType) (words : List ℤ) (n : ℕ)
    → slice_get (values_of types words) n ≡ zipped (slice_get types n) (slice_get words n)
unfolding zipped
get-value [] words n = refl
get-value (t ∷ types) [] n = sym (zipped-none (slice_get (t ∷ types) n))
get-value (t ∷ types) (w ∷ words) zero = refl
get-value (t ∷ types) (w ∷ words) (suc n) = get-value types words n

pub same-slot : (types : List ElementaryType) (words others : List ℤ) (n : ℕ)
    → slice_get words n ≡ slice_get others n
    → slice_get (values_of types words) n ≡ slice_get (values_of types others) n
same-slot types words others n e =
    get-value types words n ∙ ap (zipped (slice_get types n)) e ∙ sym (get-value types others n)

-- ---- at first

first_number : (t : ElementaryType) → number_of (default_value t) ≡ pos 0
first_number t = grind (arith, common_steps)

first-words : (points : List ImagePoint) (variables : List Value)
    → map (λ (p : ImagePoint). pos 0) points ++ words_of variables
    ≡ words_of (first_slots points variables)
first-words [] variables = refl
first-words (p ∷ points) variables =
    ap (λ (w : List ℤ). pos 0 ∷ w) (first-words points variables)
    ∙ ap (λ (z : ℤ). z ∷ words_of (first_slots points variables)) (sym (first_number p.elementary))

variables-typed : (variables : List Value) → Each IsValue variables
    → AreTyped (map type_of variables) variables
variables-typed [] h = tt
variables-typed (v ∷ variables) h = ((refl, h.0), variables-typed variables h.1)

slots-typed : (points : List ImagePoint) (variables : List Value) → Each IsValue variables
    → AreTyped (map type_of_point points ++ map type_of variables) (first_slots points variables)
slots-typed [] variables h = variables-typed variables h
slots-typed (p ∷ points) variables h = (default-typed p.elementary, slots-typed points variables h)

timers-first : (kinds : List TimerKind) → Each IsTimer (map first_state kinds)
timers-first [] = tt
timers-first (k ∷ kinds) = ((omega arith, omega arith), timers-first kinds)

pub first-stand : (image : Image) (words : List ℤ) → Each IsValue image.variables
    → words ≡ map (λ (p : ImagePoint). pos 0) image.points ++ words_of image.variables
    → EncodeValues (slot_types image) words (first_slots image.points image.variables)
first-stand image words h e =
    record {
      are = e ∙ first-words image.points image.variables;
      typed = slots-typed image.points image.variables h;
    }

pub times-first : (timers : List TimerState) (kinds : List TimerKind)
    → timers ≡ map first_state kinds → Each IsTimer timers
times-first timers kinds e = subst (Each IsTimer) (sym e) (timers-first kinds)

-- ---- the test of inputs

of_type : (t : ElementaryType) (v : Value)
    → (is_of t v ≡ true → (type_of v ≡ t) × IsValue v)
    × ((type_of v ≡ t) × IsValue v → is_of t v ≡ true)
of_type t v = (
  λ e.
      (let parts = and_parts (same_type (type_of v) t) (is_some (value_of t (number_of v))) e in
      let same : type_of v ≡ t = same-is (type_of v) t parts.0 in (
        same,
        subst (λ (u : ElementaryType). is_some (value_of u (number_of v)) ≡ true) (sym same)
            parts.1,
      )),
  λ h.
      (let test : same_type (type_of v) t ≡ true =
      subst (λ (u : ElementaryType). same_type (type_of v) u ≡ true) h.0 (same-self (type_of v))
      in
      let some : is_some (value_of t (number_of v)) ≡ true =
      subst (λ (u : ElementaryType). is_some (value_of u (number_of v)) ≡ true) h.0 h.1 in
      rw (test, some) refl),
)

tested-case : (b : Bool) (p : ImagePoint) (points : List ImagePoint) (inputs : List Value)
    → ((left : List Value) → (are_inputs points left ≡ true → AreInputs points left)
    × (AreInputs points left → are_inputs points left ≡ true))
    → (cond b (are_inputs points inputs)
    (begins_with p.elementary inputs && are_inputs points (drop 1 inputs)) ≡ true
    → AreTyped (map type_of_point (cond (not b) (p ∷ read_only points) (read_only points)))
    inputs)
    × (AreTyped (map type_of_point (cond (not b) (p ∷ read_only points) (read_only points))) inputs
    → cond b (are_inputs points inputs)
    (begins_with p.elementary inputs && are_inputs points (drop 1 inputs)) ≡ true)
tested-case true p points inputs rest = rest inputs
tested-case false p points [] rest = (λ e. absurd cc, λ h. absurd h)
tested-case false p points (i ∷ inputs) rest = (
  λ e. (let parts = and_parts (is_of p.elementary i) (are_inputs points inputs) e in
      ((of_type p.elementary i).0 parts.0, (rest inputs).0 parts.1)),
  λ h. (let first = (of_type p.elementary i).1 h.0 in let more = (rest inputs).1 h.1 in
      rw (first, more) refl),
)

-- inputs pass the test exactly where they fit the points
pub tested : (points : List ImagePoint) (inputs : List Value)
    → (are_inputs points inputs ≡ true → AreInputs points inputs)
    × (AreInputs points inputs → are_inputs points inputs ≡ true)
tested [] [] = (λ e. tt, λ h. refl)
tested [] (i ∷ inputs) = (λ e. absurd cc, λ h. absurd h)
tested (p ∷ points) inputs = tested-case p.writable p points inputs (λ left. tested points left)
