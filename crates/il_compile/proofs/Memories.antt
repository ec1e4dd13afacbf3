-- Slots, variables and timers of the program's types.
use Rattle.std.proofs.Common.{◌≡◌, ℕ, zero, suc, ◌+◌, ◌<◌, List, [], ◌∷◌, ◌++◌, length, map, Some, option_map, refl, sym, ap, ◌∙◌, arith}
use Rattle.std.specs.Prelude.{slice_get, slice_set}
use Rattle.std.proofs.lemmas.List.{length-map}
use Rattle.bay_base.specs.declared.types.ElementaryType.{ElementaryType}
use Rattle.il_image.specs.Values.{type_of}
use Rattle.il_image.specs.declared.timer.TimerState.{TimerState}
use Rattle.il_image.specs.declared.value.Value.{Value}
use Rattle.il_check.specs.Program.{Checked}
use Rattle.il_check.specs.TypedProgram.{slot_type}
use Rattle.il_check.specs.declared.typed.Slot.{Slot}
use Rattle.il_check.specs.declared.typed.Slot.TheVariants.{External, Variable}
use Rattle.il_compile.specs.Code.{slot_number}
use Rattle.il_compile.specs.Correct.{HasTypes}
use Rattle.il_compile.specs.Meaning.{Memory, slot_value, with_value}

-- the slots of a memory: the externals, and then the variables
abbrev pub flat : Memory → List Value
flat m = m.externals ++ m.variables

-- ---- lists

get-front : {A : Type 0} (xs ys : List A) (n : ℕ) (x : A) → slice_get xs n ≡ Some x
    → slice_get (xs ++ ys) n ≡ Some x
get-front [] ys n x h = absurd cc
get-front (y ∷ xs) ys zero x h = h
get-front (y ∷ xs) ys (suc n) x h = get-front xs ys n x h

get-back : {A : Type 0} (xs ys : List A) (n : ℕ)
    → slice_get (xs ++ ys) (length xs + n) ≡ slice_get ys n
get-back [] ys n = let e : 0 + n ≡ n = omega arith in ap (slice_get ys) e
get-back {A = A} (x ∷ xs) ys n = let e : suc (length xs) + n ≡ suc (length xs + n) =
    omega arith in ap (slice_get (x ∷ xs ++ ys)) e ∙ get-back xs ys n

set-front : {A : Type 0} (xs ys : List A) (n : ℕ) (x v : A) → slice_get xs n ≡ Some x
    → slice_set (xs ++ ys) n v ≡ slice_set xs n v ++ ys
set-front [] ys n x v h = absurd cc
set-front (y ∷ xs) ys zero x v h = refl
set-front {A = A} (y ∷ xs) ys (suc n) x v h = ap (λ (l : List A). y ∷ l) (set-front xs ys n x v h)

set-back : {A : Type 0} (xs ys : List A) (n : ℕ) (v : A)
    → slice_set (xs ++ ys) (length xs + n) v ≡ xs ++ slice_set ys n v
set-back {A = A} [] ys n v = let e : 0 + n ≡ n = omega arith in ap (λ k. slice_set ys k v) e
set-back {A = A} (x ∷ xs) ys n v = let e : suc (length xs) + n ≡ suc (length xs + n) =
    omega arith in ap (λ k. slice_set (x ∷ xs ++ ys) k v) e
    ∙ ap (λ (l : List A). x ∷ l) (set-back xs ys n v)

pub set-same : {A : Type 0} (xs : List A) (n : ℕ) (x : A) → slice_get xs n ≡ Some x
    → slice_set xs n x ≡ xs
set-same [] n x h = refl
set-same {A = A} (y ∷ xs) zero x h = let e : y ≡ x = cc in ap (λ (z : A). z ∷ xs) (sym e)
set-same {A = A} (y ∷ xs) (suc n) x h = ap (λ (l : List A). y ∷ l) (set-same xs n x h)

pub get-below : {A : Type 0} (xs : List A) (n : ℕ) → n < length xs
    → (x : A) × (slice_get xs n ≡ Some x)
get-below [] n lt = absurd (omega arith)
get-below (x ∷ xs) zero lt = (x, refl)
get-below (x ∷ xs) (suc n) lt = get-below xs n (omega arith)

-- of two lists that are seen alike, what stands in one stands in the other
pub alike-at : {A B K : Type 0} (f : A → K) (g : B → K) (xs : List A) (ys : List B) (n : ℕ) (k : K)
    → map f xs ≡ map g ys → option_map g (slice_get ys n) ≡ Some k
    → (x : A) × (slice_get xs n ≡ Some x) × (f x ≡ k)
alike-at f g xs [] n k e h = absurd cc
alike-at f g [] (y ∷ ys) n k e h = absurd cc
alike-at f g (x ∷ xs) (y ∷ ys) zero k e h =
    (x, refl, (let a : f x ≡ g y = cc in let b : g y ≡ k = cc in a ∙ b))
alike-at f g (x ∷ xs) (y ∷ ys) (suc n) k e h =
    alike-at f g xs ys n k (let a : map f xs ≡ map g ys = cc in a) h

pub alike-kept : {A K : Type 0} (f : A → K) (xs : List A) (n : ℕ) (x v : A)
    → slice_get xs n ≡ Some x → f v ≡ f x → map f (slice_set xs n v) ≡ map f xs
alike-kept f [] n x v h e = refl
alike-kept {K = K} f (y ∷ xs) zero x v h e = let same : y ≡ x =
    cc in ap (λ (k : K). k ∷ map f xs) (e ∙ ap f (sym same))
alike-kept {K = K} f (y ∷ xs) (suc n) x v h e =
    ap (λ (ks : List K). f y ∷ ks) (alike-kept f xs n x v h e)

same-count : {A B K : Type 0} (f : A → K) (g : B → K) (xs : List A) (ys : List B)
    → map f xs ≡ map g ys → length xs ≡ length ys
same-count f g xs ys e = sym (length-map xs f) ∙ ap length e ∙ length-map ys g

-- ---- slots

-- a slot has a value of its type, the same in the memory and among the slots of the machine
pub record There (c : Checked) (m : Memory) (s : Slot) (kind : ElementaryType) : Type 0 where
  pub value : Value
  pub is : slot_value s m ≡ Some value
  pub type : type_of value ≡ kind
  pub slot : slice_get (flat m) (slot_number (length c.externals) s) ≡ Some value

-- what a slot is changed to, where it is a value of its type
pub record Changed (c : Checked) (m : Memory) (s : Slot) (v : Value) : Type 0 where
  pub slots : slice_set (flat m) (slot_number (length c.externals) s) v ≡ flat (with_value s v m)
  pub timers : (with_value s v m).timers ≡ m.timers
  pub typed : HasTypes c (with_value s v m)

pub so_many : (c : Checked) (m : Memory) → HasTypes c m → length c.externals ≡ length m.externals
so_many c m ty = sym (same-count type_of (λ e. e.kind) m.externals c.externals ty.externals)

-- a slot of a type holds a value of it
pub there : (c : Checked) (m : Memory) (s : Slot) (kind : ElementaryType) → HasTypes c m
    → slot_type c s ≡ Some kind → There c m s kind
there c m (External n) kind ty h =
    let v = alike-at type_of (λ e. e.kind) m.externals c.externals n kind ty.externals h in
    record { value = v.0; is = v.1; type = v.2; slot = get-front m.externals m.variables n v.0 v.1 }
there c m (Variable n) kind ty h =
    let v = alike-at type_of (λ w. type_of w.initial) m.variables c.variables n kind ty.variables h
    in
    record {
      value = v.0;
      is = v.1;
      type = v.2;
      slot = ap (λ k. slice_get (flat m) (k + n)) (so_many c m ty)
          ∙ get-back m.externals m.variables n ∙ v.1;
    }

-- a value of its type can be put in a slot
pub changed : (c : Checked) (m : Memory) (s : Slot) (v : Value) → HasTypes c m
    → slot_type c s ≡ Some (type_of v) → Changed c m s v
changed c m (External n) v ty h =
    let old = alike-at type_of (λ e. e.kind) m.externals c.externals n (type_of v) ty.externals h in
    record {
      slots = set-front m.externals m.variables n old.0 v old.1;
      timers = refl;
      typed = record {
        externals = alike-kept type_of m.externals n old.0 v old.1 (sym old.2) ∙ ty.externals;
        variables = ty.variables;
        timers = ty.timers;
      };
    }
changed c m (Variable n) v ty h =
    let old =
    alike-at type_of (λ w. type_of w.initial) m.variables c.variables n (type_of v) ty.variables
    h in
    record {
      slots = ap (λ k. slice_set (flat m) (k + n) v) (so_many c m ty)
          ∙ set-back m.externals m.variables n v;
      timers = refl;
      typed = record {
        externals = ty.externals;
        variables = alike-kept type_of m.variables n old.0 v old.1 (sym old.2) ∙ ty.variables;
        timers = ty.timers;
      };
    }

-- ---- timers

pub timer-there : (c : Checked) (m : Memory) (n : ℕ) → HasTypes c m → n < length c.timers
    → (t : TimerState) × (slice_get m.timers n ≡ Some t)
timer-there c m n ty lt =
    let same : length m.timers ≡ length c.timers =
    same-count (λ t. t.kind) (λ t. t.kind) m.timers c.timers ty.timers in
    get-below m.timers n (omega arith)

pub timer-changed : (c : Checked) (m : Memory) (n : ℕ) (t u : TimerState) → HasTypes c m
    → slice_get m.timers n ≡ Some t → u.kind ≡ t.kind
    → HasTypes c (record m { timers = slice_set m.timers n u })
timer-changed c m n t u ty is same =
    record {
      externals = ty.externals;
      variables = ty.variables;
      timers = alike-kept (λ (x : TimerState). x.kind) m.timers n t u is same ∙ ty.timers;
    }
