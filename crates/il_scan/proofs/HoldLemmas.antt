-- Inputs that slots hold: those of a span are put, and the others are there.
use Rattle.std.proofs.Common.{◌≡◌, ◌≢◌, ◌⊎◌, inl, inr, ℕ, zero, suc, ◌+◌, ◌<◌, ◌≤◌, ℤ, Bool, true, false, not, cond, List, [], ◌∷◌, ◌++◌, length, map, drop, refl, sym, ap, subst, ◌∙◌, arith, Some}
use Rattle.std.proofs.lemmas.Bool.{cases_lt, cases_order}
use Rattle.std.proofs.lemmas.List.{length-map}
use Rattle.std.proofs.lemmas.Option.{same_Some, slice_get_within}
use Rattle.std.specs.Prelude.{slice_get, slice_index_or, slice_set}
use Rattle.bay_base.specs.declared.types.ElementaryType.{ElementaryType}
use Rattle.il_image.specs.declared.image.ImagePoint.{ImagePoint}
use Rattle.il_image.specs.declared.timer.TimerState.{TimerState}
use Rattle.il_image.specs.declared.value.Value.{Value}
use Rattle.il_image.specs.Images.{Image, IsValue}
use Rattle.il_image.specs.Tables.{slot_types}
use Rattle.il_image.specs.Values.{number_of, type_of}
use Rattle.il_scan.specs.declared.span.Span.{Span}
use Rattle.il_scan.specs.PointIndices.{AllAbove, IsPut, IsRising, read_indices, with_words}
use Rattle.il_scan.specs.Scans.{AreHeld, AreInputs, MachineData, IsOutside, Scans, first_input, inputs_in, read_only, type_of_point, with_inputs}
use Rattle.il_scan.specs.MachineStates.{EncodesMemory}
use Rattle.il_scan.specs.Words.{AreTyped, slot_at, values_of, words_of}
use Rattle.il_scan.proofs.SlotLemmas.{held-points}

-- ---- places rise

above-case : (b : Bool) (least n : ℕ) (indices : List ℕ) → least < n → AllAbove least indices
    → AllAbove least (cond b indices (n ∷ indices))
above-case true least n indices l h = h
above-case false least n indices l h = (l, h)

reads-above : (least n : ℕ) (points : List ImagePoint) → least < n
    → AllAbove least (read_indices n points)
reads-above least n [] l = tt
reads-above least n (p ∷ points) l =
    above-case p.writable least n (read_indices (n + 1) points) l
    (reads-above least (n + 1) points (omega (arith, l)))

rising-case : (b : Bool) (n : ℕ) (indices : List ℕ) → AllAbove n indices → IsRising indices
    → IsRising (cond b indices (n ∷ indices))
rising-case true n indices a h = h
rising-case false n indices a h = (a, h)

pub reads-rise : (n : ℕ) (points : List ImagePoint) → IsRising (read_indices n points)
reads-rise n [] = tt
reads-rise n (p ∷ points) =
    rising-case p.writable n (read_indices (n + 1) points)
    (reads-above n (n + 1) points (omega arith)) (reads-rise (n + 1) points)

above-at : (least : ℕ) (indices : List ℕ) (k : ℕ) → AllAbove least indices → k < length indices
    → least < slice_index_or indices k 0
above-at least [] k h l = absurd (omega (arith, l))
above-at least (n ∷ indices) zero h l = h.0
above-at least (n ∷ indices) (suc k) h l = above-at least indices k h.1 (omega (arith, l))

rise : (indices : List ℕ) (j k : ℕ) → IsRising indices → j < k → k < length indices
    → slice_index_or indices j 0 < slice_index_or indices k 0
rise [] j k h l m = absurd (omega (arith, m))
rise (n ∷ indices) j zero h l m = absurd (omega (arith, l))
rise (n ∷ indices) zero (suc k) h l m = above-at n indices k h.0 (omega (arith, m))
rise (n ∷ indices) (suc j) (suc k) h l m =
    rise indices j k h.1 (omega (arith, l)) (omega (arith, m))

-- ---- a word that is put

set-twice : (slots : List ℤ) (n : ℕ) (x w : ℤ)
    → slice_set (slice_set slots n x) n w ≡ slice_set slots n w
set-twice [] n x w = refl
set-twice (s ∷ slots) zero x w = refl
set-twice (s ∷ slots) (suc n) x w = ap (λ (ss : List ℤ). s ∷ ss) (set-twice slots n x w)

set-apart : (slots : List ℤ) (m n : ℕ) (x w : ℤ) → n < m
    → slice_set (slice_set slots m x) n w ≡ slice_set (slice_set slots n w) m x
set-apart [] m n x w l = refl
set-apart (s ∷ slots) zero n x w l = absurd (omega (arith, l))
set-apart (s ∷ slots) (suc m) zero x w l = refl
set-apart (s ∷ slots) (suc m) (suc n) x w l =
    ap (λ (ss : List ℤ). s ∷ ss) (set-apart slots m n x w (omega (arith, l)))

set-itself : (slots : List ℤ) (n : ℕ) → slice_set slots n (slot_at slots n) ≡ slots
set-itself [] n = refl
set-itself (s ∷ slots) zero = refl
set-itself (s ∷ slots) (suc n) = ap (λ (ss : List ℤ). s ∷ ss) (set-itself slots n)

at-own : (slots : List ℤ) (n : ℕ) (w : ℤ) → n < length slots → slot_at (slice_set slots n w) n ≡ w
at-own [] n w l = absurd (omega (arith, l))
at-own (s ∷ slots) zero w l = refl
at-own (s ∷ slots) (suc n) w l = at-own slots n w (omega (arith, l))

at-other : (slots : List ℤ) (m n : ℕ) (w : ℤ) → m ≢ n
    → slot_at (slice_set slots n w) m ≡ slot_at slots m
at-other [] m n w h = refl
at-other (s ∷ slots) zero zero w h = absurd (h refl)
at-other (s ∷ slots) zero (suc n) w h = refl
at-other (s ∷ slots) (suc m) zero w h = refl
at-other (s ∷ slots) (suc m) (suc n) w h = at-other slots m n w (λ e. h (ap suc e))

-- what stands at the place of an input is no matter, where all inputs are put
pub put-over : (indices : List ℕ) (words slots : List ℤ) (k : ℕ) (x : ℤ) → IsRising indices
    → k < length indices → k < length words
    → with_words indices words (slice_set slots (slice_index_or indices k 0) x)
    ≡ with_words indices words slots
put-over [] words slots k x r l m = absurd (omega (arith, l))
put-over (n ∷ indices) [] slots k x r l m = absurd (omega (arith, m))
put-over (n ∷ indices) (w ∷ words) slots zero x r l m =
    ap (with_words indices words) (set-twice slots n x w)
put-over (n ∷ indices) (w ∷ words) slots (suc k) x r l m =
    ap (with_words indices words) (set-apart slots (slice_index_or indices k 0) n x w
    (above-at n indices k r.0 (omega (arith, l))))
    ∙ put-over indices words (slice_set slots n w) k x r.1 (omega (arith, l)) (omega (arith, m))

-- inputs that stand at their places change nothing
pub put-all : (indices : List ℕ) (values : List Value) (slots : List ℤ)
    → ((k : ℕ) (v : Value) → slice_get values k ≡ Some v
    → slot_at slots (slice_index_or indices k 0) ≡ number_of v)
    → with_words indices (words_of values) slots ≡ slots
put-all [] values slots all = refl
put-all (n ∷ indices) [] slots all = refl
put-all (n ∷ indices) (v ∷ values) slots all =
    ap (λ (w : ℤ). with_words indices (words_of values) (slice_set slots n w)) (sym (all 0 v refl))
    ∙ ap (with_words indices (words_of values)) (set-itself slots n)
    ∙ put-all indices values slots (λ k. all (suc k))

pub all-typed : (types : List ElementaryType) (values : List Value)
    → length values ≡ length types
    → ((k : ℕ) (t : ElementaryType) (v : Value) → slice_get types k ≡ Some t
    → slice_get values k ≡ Some v → (type_of v ≡ t) × IsValue v)
    → AreTyped types values
all-typed [] [] e all = tt
all-typed [] (v ∷ values) e all = absurd (omega (arith, e))
all-typed (t ∷ types) [] e all = absurd (omega (arith, e))
all-typed (t ∷ types) (v ∷ values) e all =
    (all 0 t v refl refl, all-typed types values (omega (arith, e)) (λ k. all (suc k)))

-- one input more is put, and the others stay so
module _ (indices : List ℕ) (types : List ElementaryType) (values : List Value)
    (rising : IsRising indices) (sized : length values ≡ length indices) where
  put-own : (slots : List ℤ) (k : ℕ) (v : Value) → slice_index_or indices k 0 < length slots
      → slice_get types k ≡ Some (type_of v) → slice_get values k ≡ Some v → IsValue v
      → IsPut indices types values (slice_set slots (slice_index_or indices k 0) (number_of v)) k
  put-own slots k v l e f is = record {
    word = λ u g. at-own slots (slice_index_or indices k 0) (number_of v) l
        ∙ ap number_of (same_Some v u (sym f ∙ g));
    typed = λ t u g h.
        let same : v ≡ u = same_Some v u (sym f ∙ h) in
        (ap type_of (sym same) ∙ same_Some (type_of v) t (sym e ∙ g), subst IsValue same is);
  }

  put-other : (slots : List ℤ) (j k : ℕ) (w : ℤ) → (j < k) ⊎ (k < j) → k < length indices
      → IsPut indices types values slots j
      → IsPut indices types values (slice_set slots (slice_index_or indices k 0) w) j
  put-other slots j k w apart l p = record {
    word = λ u g.
        let within : j < length values = slice_get_within values j u g in
        at-other slots (slice_index_or indices j 0) (slice_index_or indices k 0) w
        (λ e. elim apart [
          | inl a ↦ (let r = rise indices j k rising a l in omega (arith, e, r))
          | inr a ↦ (let r = rise indices k j rising a (omega (arith, within, sized)) in
              omega (arith, e, r))
        ])
        ∙ p.word u g;
    typed = p.typed;
  }

  later : (j k last : ℕ) → (j < k + 1) ⊎ (last ≤ j) → k < j → last ≤ j
  later j k last (inl b) a = absurd (omega (arith, a, b))
  later j k last (inr b) a = b

  pub put-next : (slots : List ℤ) (k : ℕ) (v : Value) (last : ℕ)
      → slice_index_or indices k 0 < length slots → k < length indices
      → slice_get types k ≡ Some (type_of v) → slice_get values k ≡ Some v → IsValue v
      → ((j : ℕ) → (j < k) ⊎ (last ≤ j) → IsPut indices types values slots j)
      → (j : ℕ) → (j < k + 1) ⊎ (last ≤ j)
      → IsPut indices types values (slice_set slots (slice_index_or indices k 0) (number_of v)) j
  put-next slots k v last l within e f is all j near = by-order (cases_order j k)
    where
      by-order : (j ≡ k) ⊎ ((j < k) ⊎ (k < j))
          → IsPut indices types values (slice_set slots (slice_index_or indices k 0) (number_of v))
          j
      by-order (inl same) =
          subst (IsPut indices types values
          (slice_set slots (slice_index_or indices k 0) (number_of v))) (sym same)
          (put-own slots k v l e f is)
      by-order (inr (inl a)) =
          put-other slots j k (number_of v) (inl a) within (all j (inl a))
      by-order (inr (inr a)) =
          put-other slots j k (number_of v) (inr a) within (all j (inr (later j k last near a)))

  -- behind the last all are put
  pub all-put : (slots : List ℤ) (k last : ℕ)
      → ((j : ℕ) → (j < k) ⊎ (last ≤ j) → IsPut indices types values slots j)
      → ((j : ℕ) → k ≤ j → (last ≤ j) ⊎ (length indices ≤ j))
      → (j : ℕ) → IsPut indices types values slots j
  all-put slots k last put behind j = by-order (cases_lt j k)
    where
      past : (last ≤ j) ⊎ (length indices ≤ j) → IsPut indices types values slots j
      past (inl a) = put j (inr a)
      past (inr a) = record {
        word = λ v e. let l : j < length values = slice_get_within values j v e in
            absurd (omega (arith, l, a, sized));
        typed = λ t v e f. let l : j < length values = slice_get_within values j v f in
            absurd (omega (arith, l, a, sized));
      }

      by-order : (j < k) ⊎ (k ≤ j) → IsPut indices types values slots j
      by-order (inl a) = put j (inl a)
      by-order (inr a) = past (behind j a)

-- ---- what the slots of read-only points hold

word-at : (values : List Value) (m : ℕ) (v : Value) → slice_get values m ≡ Some v
    → slot_at (words_of values) m ≡ number_of v
word-at [] m v e = absurd cc
word-at (u ∷ values) zero v e = ap number_of (same_Some u v e)
word-at (u ∷ values) (suc m) v e = word-at values m v e

-- a place, and what is there
record Found (n : ℕ) (place : ℕ) (slots : List Value) (v : Value) : Type 0 where
  behind : ℕ
  is : place ≡ n + behind
  there : slice_get slots behind ≡ Some v

held-at : (n : ℕ) (points : List ImagePoint) (slots : List Value) (k : ℕ) (v : Value)
    → slice_get (inputs_in points slots) k ≡ Some v
    → Found n (slice_index_or (read_indices n points) k 0) slots v
held-at n [] slots k v e = absurd cc
held-at n (p ∷ points) [] k v e = absurd cc
held-at n (p ∷ points) (s ∷ slots) k v e =
    by-case p.writable k e (λ j. held-at (n + 1) points slots j v)
  where
    later : (place : ℕ) → Found (n + 1) place slots v → Found n place (s ∷ slots) v
    later place f =
        record { behind = suc f.behind; is = omega (arith, f.is); there = f.there }

    by-case : (b : Bool) (k : ℕ)
        → slice_get (cond b (inputs_in points slots) (s ∷ inputs_in points slots)) k ≡ Some v
        → ((j : ℕ) → slice_get (inputs_in points slots) j ≡ Some v
        → Found (n + 1) (slice_index_or (read_indices (n + 1) points) j 0) slots v)
        → Found n (slice_index_or
        (cond b (read_indices (n + 1) points) (n ∷ read_indices (n + 1) points)) k 0) (s ∷ slots) v
    by-case true k e rest = later _ (rest k e)
    by-case false zero e rest = record { behind = 0; is = omega arith; there = e }
    by-case false (suc j) e rest = later _ (rest j e)

held-typed : (points : List ImagePoint) (more : List ElementaryType) (slots : List Value)
    → AreTyped (map type_of_point points ++ more) slots
    → AreTyped (map type_of_point (read_only points)) (inputs_in points slots)
held-typed [] more slots h = tt
held-typed (p ∷ points) more [] h = absurd h
held-typed (p ∷ points) more (s ∷ slots) h =
    by-case p.writable h.0 (held-typed points more slots h.1)
  where
    by-case : (b : Bool) → (type_of s ≡ p.elementary) × IsValue s
        → AreTyped (map type_of_point (read_only points)) (inputs_in points slots)
        → AreTyped (map type_of_point (cond (not b) (p ∷ read_only points) (read_only points)))
        (cond b (inputs_in points slots) (s ∷ inputs_in points slots))
    by-case true is rest = rest
    by-case false is rest = (is, rest)

typed-at : (types : List ElementaryType) (values : List Value) → AreTyped types values
    → (k : ℕ) (t : ElementaryType) (v : Value) → slice_get types k ≡ Some t
    → slice_get values k ≡ Some v → (type_of v ≡ t) × IsValue v
typed-at [] values h k t v e f = absurd cc
typed-at (u ∷ types) [] h k t v e f = absurd h
typed-at (u ∷ types) (w ∷ values) h zero t v e f =
    let own : u ≡ t = same_Some u t e in
    subst (λ (x : Value). (type_of x ≡ t) × IsValue x) (same_Some w v f) (h.0.0 ∙ own, h.0.1)
typed-at (u ∷ types) (w ∷ values) h (suc k) t v e f = typed-at types values h.1 k t v e f

pub all-held : (span : Span) (inputs held : List Value) → span.from ≡ 0
    → length inputs ≤ span.to → AreHeld span inputs held
all-held span inputs held first last k v (inl a) e = absurd (omega (arith, a, first))
all-held span inputs held first last k v (inr a) e =
    let within : k < length inputs = slice_get_within inputs k v e in
    absurd (omega (arith, a, within, last))

module _ (image : Image) (slots : List ℤ) (timers : List TimerState)
    (h : EncodesMemory image slots timers) where
  abbrev values : List Value
  values = values_of (slot_types image) slots

  -- what is held is put
  pub held-put : (reads : List ℕ) (types : List ElementaryType) (inputs : List Value) (span : Span)
      → reads ≡ read_indices 0 image.points
      → types ≡ map type_of_point (read_only image.points)
      → AreHeld span inputs (inputs_in image.points values)
      → (k : ℕ) → IsOutside span k → IsPut reads types inputs slots k
  held-put reads types inputs span read typed hold k out = record {
    word = λ v e.
        let at : Found 0 (slice_index_or (read_indices 0 image.points) k 0) values v =
        held-at 0 image.points values k v (hold k v out e) in
        let place : slice_index_or reads k 0 ≡ at.behind =
        ap (λ (ns : List ℕ). slice_index_or ns k 0) read ∙ omega (arith, at.is) in
        ap (slot_at slots) place ∙ ap (λ (ws : List ℤ). slot_at ws at.behind) h.stand.are
        ∙ word-at values at.behind v at.there;
    typed = λ t v e f.
        typed-at (map type_of_point (read_only image.points)) (inputs_in image.points values)
        (held-typed image.points (map type_of image.variables) values h.stand.typed) k t v
        (ap (λ (ts : List ElementaryType). slice_get ts k) (sym typed) ∙ e) (hold k v out f);
  }

  pub enough-values : length image.points ≤ length values
  enough-values =
      let few = held-points image slots timers h in
      let same : length slots ≡ length values =
      ap (λ (ws : List ℤ). length ws) h.stand.are ∙ length-map values number_of in
      omega (arith, few, same)

-- a point that may only be read keeps its input
abbrev Keeps : List ImagePoint → List Value → List Value → List Value → Type 0
Keeps points inputs slots new = (n : ℕ) (p : ImagePoint) → slice_get points n ≡ Some p
    → p.writable ≡ false → slice_get new n ≡ slice_get (with_inputs points inputs slots) n

-- and so what is held are the inputs
inputs-stay : (points : List ImagePoint) (inputs slots new : List Value)
    → AreInputs points inputs → length points ≤ length slots → length points ≤ length new
    → Keeps points inputs slots new → inputs_in points new ≡ inputs
inputs-stay [] [] slots new are few less keeps = refl
inputs-stay [] (i ∷ inputs) slots new are few less keeps = absurd are
inputs-stay (p ∷ points) inputs [] new are few less keeps = absurd (omega (arith, few))
inputs-stay (p ∷ points) inputs (s ∷ slots) [] are few less keeps = absurd (omega (arith, less))
inputs-stay (p ∷ points) inputs (s ∷ slots) (w ∷ new) are few less keeps =
    by-case p.writable inputs are (keeps 0 p refl)
    (λ left given. inputs-stay points left slots new given (omega (arith, few))
    (omega (arith, less))) (λ n q. keeps (suc n) q)
  where
    by-case : (b : Bool) (is : List Value)
        → AreTyped (map type_of_point (cond (not b) (p ∷ read_only points) (read_only points))) is
        → (b ≡ false → Some w ≡ Some (cond b s (first_input is s)))
        → ((left : List Value) → AreInputs points left → Keeps points left slots new
        → inputs_in points new ≡ left)
        → Keeps points (cond b is (drop 1 is)) slots new
        → cond b (inputs_in points new) (w ∷ inputs_in points new) ≡ is
    by-case true is are own rest keeps = rest is are keeps
    by-case false [] are own rest keeps = absurd are
    by-case false (i ∷ is) are own rest keeps =
        ap (λ (x : Value). x ∷ inputs_in points new) (same_Some w i (own refl))
        ∙ ap (λ (xs : List Value). i ∷ xs) (rest is are.1 keeps)

pub scan-keeps : (old new : MachineData) (inputs : List Value) (now steps : ℕ)
    (outputs : List Value)
    → Scans old inputs now new steps outputs → AreInputs old.image.points inputs
    → length old.image.points ≤ length old.slots → length old.image.points ≤ length new.slots
    → inputs_in old.image.points new.slots ≡ inputs
scan-keeps old new inputs now steps outputs did are few less =
    inputs-stay old.image.points inputs old.slots new.slots are few less did.keeps
