-- Octets of version 1 of the format of images are read as nothing newer.
use Rattle.std.proofs.Common.{◌≡◌, ◌≢◌, ℕ, zero, suc, ◌≤◌, Bool, true, false, cond, eqb, List, [], ◌∷◌, ◌++◌, length, take, Option, Some, None, refl, sym, subst, ap, ◌∙◌, arith}
use Rattle.std.specs.Prelude.{Ok, Err}
use Rattle.std.proofs.lemmas.Bool.{eqb-true}
use Rattle.std.proofs.Math.Seq.{take-length}
use Rattle.bay_base.specs.declared.types.ElementaryType.{ElementaryType}
use Rattle.bay_base.specs.declared.types.ElementaryType.TheVariants as elementary
use Rattle.bay_base.specs.declared.types.TimerKind.{TimerKind}
use Rattle.bay_base.specs.declared.types.TimerKind.TheVariants.{OnDelay}
use Rattle.il_image.specs.Decoding.{access_at, code_at, code_fault, code_of_length, counted_at, decoded_image, fault_or, items_at, name_at, point_at, timer_at, type_at, type_of_octet, variable_at}
use Rattle.il_image.specs.Images.{Each, Image, count_and_items, image_octets, point_octets, timer_octets, value_size, variable_octets}
use Rattle.il_image.specs.Octets.{AreOctets, number_octets}
use Rattle.il_image.specs.Opcodes.{opcode_of}
use Rattle.il_image.specs.Reading.{Read, instr_from, known_value, number_at, octet_at, signed_at}
use Rattle.il_image.specs.Spelling.{spelling}
use Rattle.il_image.specs.Values.{type_of, value_of}
use Rattle.il_image.specs.declared.arithmetic.ArithmeticOperation.TheVariants.{Add, Sub, Mul, Div, Mod}
use Rattle.il_image.specs.declared.arithmetic.Width.TheVariants as width
use Rattle.il_image.specs.declared.fault.ImageFault.{ImageFault}
use Rattle.il_image.specs.declared.fault.ImageFault.TheVariants.{Truncated}
use Rattle.il_image.specs.declared.image.ImagePoint.{ImagePoint}
use Rattle.il_image.specs.declared.instr.Instr.{Instr}
use Rattle.il_image.specs.declared.instr.Instr.TheVariants.{Halt, Push, Drop, Slot, Not, Combine, Compute, Compare, Widen, Jump, Timer}
use Rattle.il_image.specs.declared.opcode.Version.{Version}
use Rattle.il_image.specs.declared.opcode.Version.TheVariants.{One}
use Rattle.il_image.specs.declared.opcode.Widening.TheVariants.{IntToDint, DintToLint}
use Rattle.il_image.specs.declared.value.Value.{Value}
use Rattle.il_image.specs.declared.value.Value.TheVariants.{Truth, Short, Long, Wide, Span}
use Rattle.il_image.proofs.CodeLemmas.{fault-here, fault-step}
use Rattle.il_image.proofs.ImageLemmas.{spelled-image}
use Rattle.il_image.proofs.InstrLemmas.{instr-sound, less}
use Rattle.il_image.proofs.PieceLemmas.{are-more, spelled-first}
use Rattle.il_image.proofs.ReadLemmas.{behind-octets, bind-ok, ok-same}
use Rattle.il_image.proofs.ValueLemmas.{value_is}
use Rattle.il_standard_laws.specs.VersionOne.{HasNoLint, IsCodeWithoutLint, VersionOneHasNothingNewer}

-- ---- lists

-- What is true of each item that is read is true of all.
each-item : {A : Type 0} (item : List ℕ → Read A) (P : A → Type 0)
    → ((octets : List ℕ) (x : A) (rest : List ℕ) → item octets ≡ Ok (x, rest) → P x)
    → (n : ℕ) (octets : List ℕ) (xs : List A) (rest : List ℕ)
    → items_at item n octets ≡ Ok (xs, rest) → Each P xs
each-item item P one zero octets xs rest e =
    let same = ok-same ([], octets) (xs, rest) e in
    subst (Each P) (ap (λ q. q.0) same) tt
each-item item P one (suc n) octets xs rest e =
    let a = bind-ok (item octets) _ (xs, rest) e in
    let b = bind-ok (items_at item n a.0.1) _ (xs, rest) a.2 in
    let same = ok-same (a.0.0 ∷ b.0.0, b.0.1) (xs, rest) b.2 in
    subst (Each P) (ap (λ q. q.0) same)
    (one octets a.0.0 a.0.1 a.1, each-item item P one n a.0.1 b.0.0 b.0.1 b.1)

each-counted : {A : Type 0} (item : List ℕ → Read A) (P : A → Type 0)
    → ((octets : List ℕ) (x : A) (rest : List ℕ) → item octets ≡ Ok (x, rest) → P x)
    → (octets : List ℕ) (xs : List A) (rest : List ℕ)
    → counted_at item octets ≡ Ok (xs, rest) → Each P xs
each-counted item P one octets xs rest e =
    let a = bind-ok (number_at octets) _ (xs, rest) e in
    each-item item P one a.0.0 a.0.1 xs rest a.2

-- ---- types, points, variables and timers

known-is : {A : Type 0} (o : Option A) (x : A) → known_value o ≡ Ok x → o ≡ Some x
known-is (Some y) x e = ap (λ (z : _). Some z) (ok-same y x e)
known-is None x e = absurd cc

old-type : (n : ℕ) (t : ElementaryType) → type_of_octet One n ≡ Some t → t ≢ elementary.Lint
old-type n t = go (eqb n 1) (eqb n 2) (eqb n 3) (eqb n 4) (eqb n 5)
  where
    go : (a b c d e : Bool)
        → cond a (Some elementary.Bool) (cond b (Some elementary.Int)
        (cond c (Some elementary.Dint) (cond d (Some elementary.Time) (cond e None None))))
        ≡ Some t
        → t ≢ elementary.Lint
    go true b c d e h is = cc
    go false true c d e h is = cc
    go false false true d e h is = cc
    go false false false true e h is = cc
    go false false false false true h is = cc
    go false false false false false h is = cc

type-old : (octets : List ℕ) (t : ElementaryType) (rest : List ℕ)
    → type_at One octets ≡ Ok (t, rest) → t ≢ elementary.Lint
type-old octets t rest e =
    let a = bind-ok (octet_at octets) _ (t, rest) e in
    let b = bind-ok (known_value (type_of_octet One a.0.0)) _ (t, rest) a.2 in
    let same : b.0 ≡ t = ap (λ q. q.0) (ok-same (b.0, a.0.1) (t, rest) b.2) in
    subst (λ (u : ElementaryType). u ≢ elementary.Lint) same
    (old-type a.0.0 b.0 (known-is (type_of_octet One a.0.0) b.0 b.1))

point-old : (octets : List ℕ) (p : ImagePoint) (rest : List ℕ) → point_at One octets ≡ Ok (p, rest)
    → p.elementary ≢ elementary.Lint
unfolding point_at
point-old octets p rest e =
    let a = bind-ok (type_at One octets) _ (p, rest) e in
    let b = bind-ok (access_at a.0.1) _ (p, rest) a.2 in
    let c = bind-ok (name_at b.0.1) _ (p, rest) b.2 in
    let same =
    ok-same (record { name = c.0.0; elementary = a.0.0; writable = b.0.0 }, c.0.1) (p, rest) c.2 in
    let of : a.0.0 ≡ p.elementary = ap (λ q. q.0.elementary) same in
    subst (λ (u : ElementaryType). u ≢ elementary.Lint) of (type-old octets a.0.0 a.0.1 a.1)

variable-old : (octets : List ℕ) (v : Value) (rest : List ℕ)
    → variable_at One octets ≡ Ok (v, rest) → type_of v ≢ elementary.Lint
unfolding variable_at
variable-old octets v rest e =
    let a = bind-ok (type_at One octets) _ (v, rest) e in
    let b = bind-ok (signed_at (value_size One) a.0.1) _ (v, rest) a.2 in
    let c = bind-ok (known_value (value_of a.0.0 b.0.0)) _ (v, rest) b.2 in
    let same : c.0 ≡ v = ap (λ q. q.0) (ok-same (c.0, b.0.1) (v, rest) c.2) in
    let of = value_is a.0.0 b.0.0 c.0 (known-is (value_of a.0.0 b.0.0) c.0 c.1) in
    let type : type_of v ≡ a.0.0 = ap type_of (sym same) ∙ of.type in
    subst (λ (u : ElementaryType). u ≢ elementary.Lint) (sym type)
    (type-old octets a.0.0 a.0.1 a.1)

timer-old : (octets : List ℕ) (k : TimerKind) (rest : List ℕ) → timer_at One octets ≡ Ok (k, rest)
    → k ≡ OnDelay
unfolding timer_at
timer-old octets k rest e = sym (ap (λ q. q.0) (ok-same (OnDelay, octets) (k, rest) e))

-- ---- code

no-lint : (i : Instr) (rest : List ℕ) → instr_from One (spelling i ++ rest) ≡ Ok (i, rest)
    → HasNoLint i
unfolding instr_from opcode_of
no-lint (Push (Truth b)) rest e = λ is. cc
no-lint (Push (Short z)) rest e = λ is. cc
no-lint (Push (Long z)) rest e = λ is. cc
no-lint (Push (Span n)) rest e = λ is. cc
no-lint (Push (Wide z)) rest e = absurd cc
no-lint (Compute o width.Int) rest e = λ is. cc
no-lint (Compute o width.Dint) rest e = λ is. cc
no-lint (Compute Add width.Lint) rest e = absurd cc
no-lint (Compute Sub width.Lint) rest e = absurd cc
no-lint (Compute Mul width.Lint) rest e = absurd cc
no-lint (Compute Div width.Lint) rest e = absurd cc
no-lint (Compute Mod width.Lint) rest e = absurd cc
no-lint (Widen IntToDint) rest e = tt
no-lint (Widen DintToLint) rest e = absurd cc
no-lint Halt rest e = tt
no-lint Drop rest e = tt
no-lint (Slot u n) rest e = tt
no-lint Not rest e = tt
no-lint (Combine c) rest e = tt
no-lint (Compare c) rest e = tt
no-lint (Jump when n) rest e = tt
no-lint (Timer u n) rest e = tt

old-code : (n : ℕ) (octets : List ℕ) → length octets ≤ n → AreOctets octets
    → code_fault One (length octets) octets ≡ None → IsCodeWithoutLint octets
old-code n [] le fits e = record { instrs = []; are = tt; short = tt; spelled = refl }
old-code zero (x ∷ octets) le fits e = absurd (omega (arith, le))
old-code (suc n) (x ∷ octets) le fits e =
    go (old-code n) (instr_from One (x ∷ octets)) refl
  where
    go : ((rest : List ℕ) → length rest ≤ n → AreOctets rest
        → code_fault One (length rest) rest ≡ None → IsCodeWithoutLint rest)
        → (r : Read Instr) → instr_from One (x ∷ octets) ≡ r → IsCodeWithoutLint (x ∷ octets)
    go later (Err f) is =
        absurd (let no = sym e ∙ fault-here One (x ∷ octets) f (omega arith) is in cc)
    go later (Ok (i, rest)) is =
        let first = spelled-first (instr-sound One) (x ∷ octets) i rest fits is in
        let fewer = less One (x ∷ octets) i rest is in
        let good = subst AreOctets first.1 fits in
        let l = later rest (omega (arith, fewer, le)) (behind-octets (spelling i) rest good)
        (sym (fault-step One (x ∷ octets) i rest is) ∙ e) in
        record {
          instrs = i ∷ l.instrs;
          are = (first.0, l.are);
          short = (
            no-lint i rest (ap (instr_from One) (sym first.1) ∙ is),
            l.short,
          );
          spelled = first.1 ∙ ap (λ (ys : List ℕ). spelling i ++ ys) l.spelled;
        }

code-old : (octets code : List ℕ) → AreOctets code → code_at One octets ≡ Ok code
    → IsCodeWithoutLint code
unfolding code_at
code-old octets code fits e =
    let a = bind-ok (number_at octets) _ code e in
    sized a.0.0 a.0.1 a.2
  where
    sized : (n : ℕ) (xs : List ℕ) → code_of_length One n xs ≡ Ok code → IsCodeWithoutLint code
    sized n xs h =
        go (code_fault One (length (take n xs)) (take n xs)) (eqb (length xs) n) refl refl h
      where
        go : (f : Option ImageFault) (b : Bool)
            → code_fault One (length (take n xs)) (take n xs) ≡ f → eqb (length xs) n ≡ b
            → fault_or f (cond b (Ok xs) (Err Truncated)) ≡ Ok code → IsCodeWithoutLint code
        go (Some fault) b f g h = absurd cc
        go None false f g h = absurd cc
        go None true f g h =
            let same : xs ≡ code = ok-same xs code h in
            let size : length xs ≡ n = eqb-true (length xs) n g in
            let all : take n xs ≡ code =
            ap (λ (m : ℕ). take m xs) (sym size) ∙ take-length xs ∙ same in
            old-code (length code) code (omega arith) fits
            (ap (λ (ys : List ℕ). code_fault One (length ys) ys) (sym all) ∙ f)

-- ---- images

-- The code of an image is octets, if its encoding is.
code-octets : (version : Version) (i : Image) → AreOctets (image_octets version i)
    → AreOctets i.code
unfolding image_octets
code-octets version i fits =
    let after : AreOctets (count_and_items point_octets i.points
    ++ (count_and_items (variable_octets version) i.variables
    ++ (count_and_items (timer_octets version) i.timers
    ++ (number_octets (length i.code) ++ i.code)))) =
    λ (k : ℕ). fits (suc (suc (suc (suc (suc k))))) in
    behind-octets (number_octets (length i.code)) i.code
    (behind-octets (count_and_items (timer_octets version) i.timers) _
    (behind-octets (count_and_items (variable_octets version) i.variables) _
    (behind-octets (count_and_items point_octets i.points) _ after)))

pub nothing-newer : VersionOneHasNothingNewer
unfolding decoded_image
nothing-newer rest i fits e =
    let p = bind-ok (counted_at (point_at One) rest) _ i e in
    let v = bind-ok (counted_at (variable_at One) p.0.1) _ i p.2 in
    let t = bind-ok (counted_at (timer_at One) v.0.1) _ i v.2 in
    let c = bind-ok (code_at One t.0.1) _ i t.2 in
    let same =
    ok-same (record { points = p.0.0; variables = v.0.0; timers = t.0.0; code = c.0 }) i c.2 in
    let all : AreOctets (0x49 ∷ 0x4C ∷ 0x42 ∷ 0x43 ∷ 0x01 ∷ rest) =
    are-more 0x49 (0x4C ∷ 0x42 ∷ 0x43 ∷ 0x01 ∷ rest) (omega arith)
    (are-more 0x4C (0x42 ∷ 0x43 ∷ 0x01 ∷ rest) (omega arith)
    (are-more 0x42 (0x43 ∷ 0x01 ∷ rest) (omega arith)
    (are-more 0x43 (0x01 ∷ rest) (omega arith) (are-more 0x01 rest (omega arith) fits)))) in
    let spelled = spelled-image (0x49 ∷ 0x4C ∷ 0x42 ∷ 0x43 ∷ 0x01 ∷ rest) i all e in
    let octets : AreOctets i.code =
    code-octets spelled.1.0 i (subst AreOctets spelled.1.1 all) in
    record {
      types = subst (Each (λ (q : ImagePoint). q.elementary ≢ elementary.Lint))
          (ap (λ (j : Image). j.points) same)
          (each-counted (point_at One) (λ (q : ImagePoint). q.elementary ≢ elementary.Lint)
          point-old rest p.0.0 p.0.1 p.1);
      kinds = subst (Each (λ (u : Value). type_of u ≢ elementary.Lint))
          (ap (λ (j : Image). j.variables) same)
          (each-counted (variable_at One) (λ (u : Value). type_of u ≢ elementary.Lint)
          variable-old p.0.1 v.0.0 v.0.1 v.1);
      delays = subst (Each (λ (k : TimerKind). k ≡ OnDelay)) (ap (λ (j : Image). j.timers) same)
          (each-counted (timer_at One) (λ (k : TimerKind). k ≡ OnDelay) timer-old v.0.1 t.0.0
          t.0.1 t.1);
      code = code-old t.0.1 i.code octets
          (c.1 ∙ ap (λ (xs : List ℕ). Ok xs) (ap (λ (j : Image). j.code) same));
    }
