-- What is read and written where a name says so is what maps from names have for it.
use Rattle.std.proofs.Common.{◌≡◌, ℕ, zero, suc, Bool, true, cond, List, [], ◌∷◌, map, slice_get, Some, Ok, refl, sym, ap, ◌∙◌}
use Rattle.std.proofs.lemmas.Option.{same_Some}
use Rattle.std.proofs.lemmas.Bool.{false_from_ne_true}
use Rattle.std.specs.Prelude.{slice_set}
use Rattle.std.specs.Str.{bytes_eq}
use Rattle.std.proofs.lemmas.Slice.Eq.{bytes_eq-Decides}
use Rattle.bay_base.specs.Names.{upper}
use Rattle.bay_base.proofs.NameLemmas.{upper-upper}
use Rattle.bay_base.specs.declared.types.ElementaryType.{ElementaryType}
use Rattle.bay_base.specs.declared.point.Point.{Point}
use Rattle.il_text.specs.Listing as text
use Rattle.il_image.specs.declared.timer.TimerState.{TimerState}
use Rattle.il_image.specs.declared.value.Value.{Value}
use Rattle.il_check.specs.Checking.{checked_of}
use Rattle.il_check.specs.Declaring.{looked_up, meanings_of, names_in}
use Rattle.il_check.specs.OwnDeclarations.{MeanOwnDeclarations}
use Rattle.il_check.specs.Program.{Checked}
use Rattle.il_check.specs.declared.source_operand.Meaning.{Meaning}
use Rattle.il_check.specs.declared.source_operand.Meaning.TheVariants as meaning
use Rattle.il_check.specs.declared.typed.External.{External}
use Rattle.il_check.specs.declared.typed.Slot.{Slot}
use Rattle.il_check.specs.declared.typed.Slot.TheVariants as slot
use Rattle.il_check.specs.declared.typed.Timer.{Timer as Declared}
use Rattle.il_check.specs.declared.typed.Variable.{Variable}
use Rattle.il_check.proofs.OwnLemmas.{mean-own-places}
use Rattle.il_standard_laws.specs.ByNames.{AccessesByName, changed_at, named_memory}
use Rattle.il_compile.specs.Meaning.{Memory, slot_value, with_value}

-- ---- lists

get-map : {X A : Type 0} (f : X → A) (xs : List X) (n : ℕ) (x : X) → slice_get xs n ≡ Some x
    → slice_get (map f xs) n ≡ Some (f x)
get-map f [] n x e = absurd cc
get-map f (y ∷ xs) zero x e = (let same : y ≡ x = cc in ap (λ z. Some (f z)) same)
get-map f (y ∷ xs) (suc n) x e = get-map f xs n x e

map-same : {X A : Type 0} (f g : X → A) (xs : List X)
    → ((i : ℕ) (y : X) → slice_get xs i ≡ Some y → f y ≡ g y) → map f xs ≡ map g xs
map-same f g [] h = refl
map-same {X} {A} f g (y ∷ xs) h =
    ap (λ (a : A). a ∷ map f xs) (h 0 y refl)
    ∙ ap (λ (ys : List A). g y ∷ ys) (map-same f g xs (λ i z e. h (suc i) z e))

set-map : {X A : Type 0} (f g : X → A) (xs : List X) (n : ℕ) (x : X) (v : A)
    → slice_get xs n ≡ Some x → g x ≡ v
    → ((i : ℕ) (y : X) → slice_get xs i ≡ Some y → (i ≡ n → ⊥) → f y ≡ g y)
    → slice_set (map f xs) n v ≡ map g xs
set-map f g [] n x v e is h = absurd cc
set-map {X} {A} f g (y ∷ xs) zero x v e is h =
    (let same : y ≡ x = cc in
    ap (λ (a : A). a ∷ map f xs) (sym is ∙ ap g (sym same))
    ∙ ap (λ (ys : List A). g y ∷ ys) (map-same f g xs (λ i z d. h (suc i) z d (λ no. cc))))
set-map {X} {A} f g (y ∷ xs) (suc n) x v e is h =
    ap (λ (a : A). a ∷ slice_set (map f xs) n v) (h 0 y refl (λ no. cc))
    ∙ ap (λ (ys : List A). g y ∷ ys)
    (set-map f g xs n x v e is
    (λ i z d ne. h (suc i) z d (λ same. ne (let p : i ≡ n = cc in p))))

-- ---- a map that is changed

changed-here : {A : Type 0} (name : List ℕ) (x : A) (values : List ℕ → A) (other : List ℕ)
    → other ≡ name → changed_at name x values other ≡ x
changed-here {A} name x values other e =
    ap (λ (b : Bool). cond b x (values other)) ((bytes_eq-Decides name other).1 (sym e))

changed-elsewhere : {A : Type 0} (name : List ℕ) (x : A) (values : List ℕ → A) (other : List ℕ)
    → (other ≡ name → ⊥) → values other ≡ changed_at name x values other
changed-elsewhere {A} name x values other ne =
    ap (λ (b : Bool). cond b x (values other))
    (sym (false_from_ne_true (bytes_eq name other)
    (λ yes. ne (sym ((bytes_eq-Decides name other).0 yes)))))

-- ---- a program's names

module _ (points : List Point) (program : text.PlainProgram) (c : Checked)
    (o : MeanOwnDeclarations (names_in points program) c program.items) (name : List ℕ) where
  -- a name means what it means in upper case
  in-upper : (m : Meaning) → (names_in points program).meaning name ≡ Some m
      → (names_in points program).meaning (upper name) ≡ Some m
  in-upper m e = ap (looked_up (meanings_of points program.declarations)) (upper-upper name) ∙ e

  -- what the name of another thing means is another thing
  one-meaning : (other : List ℕ) (m n : Meaning) → (names_in points program).meaning name ≡ Some m
      → (names_in points program).meaning other ≡ Some n → other ≡ upper name → n ≡ m
  one-meaning other m n e f same =
      same_Some n m (sym f ∙ ap (names_in points program).meaning same ∙ in-upper m e)

  module _ (values : List ℕ → Value) (timers : List ℕ → TimerState) where
    memory-same : (es fs vs ws : List Value) (ts us : List TimerState) → es ≡ fs → vs ≡ ws → ts ≡ us
        → ◌≡◌ {A = Memory} (record { externals = es; variables = vs; timers = ts })
        (record { externals = fs; variables = ws; timers = us })
    memory-same es fs vs ws ts us e v t =
        let made : List Value → List Value → List TimerState → Memory =
        λ x y z. record { externals = x; variables = y; timers = z } in
        ap (λ x. made x vs ts) e ∙ ap (λ y. made fs y ts) v ∙ ap (λ z. made fs ws z) t

    reads-so : (s : Slot) (kind : ElementaryType) (writable : Bool)
        → (names_in points program).meaning name ≡ Some (meaning.Variable s kind writable)
        → slot_value s (named_memory c values timers) ≡ Some (values (upper name))
    reads-so (slot.External n) kind writable e =
        let h = o.own name (meaning.Variable (slot.External n) kind writable) e in
        get-map (λ (x : External). values x.name) c.externals n h.0 h.1
        ∙ ap (λ (k : List ℕ). Some (values k)) h.2
    reads-so (slot.Variable n) kind writable e =
        let h = o.own name (meaning.Variable (slot.Variable n) kind writable) e in
        get-map (λ (x : Variable). values x.name) c.variables n h.0 h.1
        ∙ ap (λ (k : List ℕ). Some (values k)) h.2

    writes-so : (s : Slot) (kind : ElementaryType) (writable : Bool) (v : Value)
        → (names_in points program).meaning name ≡ Some (meaning.Variable s kind writable)
        → with_value s v (named_memory c values timers)
        ≡ named_memory c (changed_at (upper name) v values) timers
    writes-so (slot.External n) kind writable v e =
        let h = o.own name (meaning.Variable (slot.External n) kind writable) e in
        let new = changed_at (upper name) v values in
        memory-same _ _ _ _ _ _
        (set-map (λ (x : External). values x.name) (λ (x : External). new x.name) c.externals n h.0
        v h.1 (changed-here (upper name) v values h.0.name h.2)
        (λ i y at ne. changed-elsewhere (upper name) v values y.name
        (λ same. ne (let m = one-meaning y.name (meaning.Variable (slot.External n) kind writable)
        (meaning.Variable (slot.External i) y.kind y.writable) e (o.externals i y at) same in
        let p : i ≡ n = cc in p))))
        (map-same (λ (x : Variable). values x.name) (λ (x : Variable). new x.name) c.variables
        (λ i y at. changed-elsewhere (upper name) v values y.name
        (λ same. (let m = one-meaning y.name (meaning.Variable (slot.External n) kind writable)
        (meaning.Variable (slot.Variable i) _ true) e (o.variables i y at) same in cc))))
        refl
    writes-so (slot.Variable n) kind writable v e =
        let h = o.own name (meaning.Variable (slot.Variable n) kind writable) e in
        let new = changed_at (upper name) v values in
        memory-same _ _ _ _ _ _
        (map-same (λ (x : External). values x.name) (λ (x : External). new x.name) c.externals
        (λ i y at. changed-elsewhere (upper name) v values y.name
        (λ same. (let m = one-meaning y.name (meaning.Variable (slot.Variable n) kind writable)
        (meaning.Variable (slot.External i) y.kind y.writable) e (o.externals i y at) same in
        cc))))
        (set-map (λ (x : Variable). values x.name) (λ (x : Variable). new x.name) c.variables n h.0
        v h.1 (changed-here (upper name) v values h.0.name h.2)
        (λ i y at ne. changed-elsewhere (upper name) v values y.name
        (λ same. ne (let m = one-meaning y.name (meaning.Variable (slot.Variable n) kind writable)
        (meaning.Variable (slot.Variable i) _ true) e (o.variables i y at) same in
        let p : i ≡ n = cc in p))))
        refl

    timer-read : (n : ℕ) → (names_in points program).meaning name ≡ Some (meaning.Timer n)
        → slice_get (map (λ (t : Declared). timers t.name) c.timers) n ≡ Some (timers (upper name))
    timer-read n e =
        let h = o.own name (meaning.Timer n) e in
        get-map (λ (x : Declared). timers x.name) c.timers n h.0 h.1
        ∙ ap (λ (k : List ℕ). Some (timers k)) h.2

    timer-written : (n : ℕ) (t : TimerState)
        → (names_in points program).meaning name ≡ Some (meaning.Timer n)
        → slice_set (map (λ (x : Declared). timers x.name) c.timers) n t
        ≡ map (λ (x : Declared). changed_at (upper name) t timers x.name) c.timers
    timer-written n t e =
        let h = o.own name (meaning.Timer n) e in
        set-map (λ (x : Declared). timers x.name)
        (λ (x : Declared). changed_at (upper name) t timers x.name) c.timers n h.0 t h.1
        (changed-here (upper name) t timers h.0.name h.2)
        (λ i y at ne. changed-elsewhere (upper name) t timers y.name
        (λ same. ne (let m = one-meaning y.name (meaning.Timer n) (meaning.Timer i) e
        (o.timers i y at) same in let p : i ≡ n = cc in p)))

pub goes-by-names : (points : List Point) (program : text.PlainProgram) (c : Checked)
    (values : List ℕ → Value) (timers : List ℕ → TimerState) → checked_of points program ≡ Ok c
    → AccessesByName (names_in points program) c values timers
goes-by-names points program c values timers e =
    let o = mean-own-places points program c e in
    record {
      reads = λ name s kind writable m. reads-so points program c o name values timers s kind
          writable m;
      writes =
          λ name s kind writable v m. writes-so points program c o name values timers s kind
          writable v m;
      timer_reads = λ name n m. timer-read points program c o name values timers n m;
      timer_writes = λ name n t m. timer-written points program c o name values timers n t m;
    }
