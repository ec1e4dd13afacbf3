-- The octets of version 1 of the format of images are read as the image.
use Rattle.std.proofs.Common.{◌≡◌, ◌≢◌, ℕ, ◌<◌, ◌≤◌, ◌^◌, ℤ, pos, negsuc, FitsSigned, Bool, true, false, cond, eqb, ltb, List, [], ◌∷◌, ◌++◌, length, None, refl, sym, ap, ◌∙◌, arith}
use Rattle.std.specs.Prelude.{Ok}
use Rattle.std.specs.Int.{w8, w16, w32, cast_signed, cast_unsigned, to_be_bytes}
use Rattle.std.specs.List.{flat_map, list_all}
use Rattle.std.proofs.lemmas.Bool.{ne_eqb, le-ltb, eq-eqb}
use Rattle.std.proofs.lemmas.Int.{to_z-of_z, to_z_pos}
use Rattle.std.proofs.lemmas.List.{append_assoc, length-append}
use Rattle.std.proofs.lemmas.Nat.{from_be_bytes-to_be_bytes_2, from_be_bytes-to_be_bytes_4}
use Rattle.std.proofs.Math.Seq.{take-append_seam, drop-append_seam, take-length}
use Rattle.bay_base.specs.declared.types.ElementaryType.{ElementaryType}
use Rattle.bay_base.specs.declared.types.ElementaryType.TheVariants as elementary
use Rattle.bay_base.specs.declared.types.TimerKind.{TimerKind}
use Rattle.bay_base.specs.declared.types.TimerKind.TheVariants.{OnDelay}
use Rattle.il_image.specs.Decoding.{code_at, code_fault, counted_at, decoded_image, items_at, name_at, name_of_length, point_at, timer_at, type_at, variable_at}
use Rattle.il_image.specs.Images.{Each, HasName, IsName, IsValue, is_name_octet}
use Rattle.il_image.specs.Octets.{bits_of_size, size_of}
use Rattle.il_image.specs.Opcodes.{opcode_of}
use Rattle.il_image.specs.Reading.{Read, instr_from, signed_at}
use Rattle.il_image.specs.Spelling.{IsInstr}
use Rattle.il_image.specs.Values.{number_of, type_of}
use Rattle.il_image.specs.declared.arithmetic.ArithmeticOperation.TheVariants.{Add, Sub, Mul, Div, Mod}
use Rattle.il_image.specs.declared.arithmetic.Comparison.TheVariants.{Gt, Ge, Eq, Ne, Le, Lt}
use Rattle.il_image.specs.declared.arithmetic.Width.TheVariants as width
use Rattle.il_image.specs.declared.image.ImagePoint.{ImagePoint}
use Rattle.il_image.specs.declared.instr.Instr.{Instr}
use Rattle.il_image.specs.declared.instr.Instr.TheVariants.{Halt, Push, Drop, Slot, Not, Combine, Compute, Compare, Widen, Jump, Timer}
use Rattle.il_image.specs.declared.opcode.Connective.TheVariants.{And, Or, Xor}
use Rattle.il_image.specs.declared.opcode.SlotUse.TheVariants.{Load, Store, SetIf, ResetIf}
use Rattle.il_image.specs.declared.opcode.TimerUse.TheVariants.{SetInput, SetPreset, Run, LoadOutput, LoadElapsed}
use Rattle.il_image.specs.declared.opcode.Version.TheVariants.{One}
use Rattle.il_image.specs.declared.opcode.When.TheVariants.{Always, IfTrue, IfFalse}
use Rattle.il_image.specs.declared.opcode.Widening.TheVariants.{IntToDint, DintToLint}
use Rattle.il_image.specs.declared.value.Value.{Value}
use Rattle.il_image.specs.declared.value.Value.TheVariants.{Truth, Short, Long, Wide, Span}
use Rattle.il_image.specs.declared.write.Size.TheVariants as size
use Rattle.il_image.proofs.CodeLemmas.{fault-step}
use Rattle.il_image.proofs.ReadLemmas.{back-number}
use Rattle.il_image.proofs.ValueLemmas.{value-back, value_is}
use Rattle.il_standard_laws.specs.VersionOne.{HasNoLint, VersionOneIsRead, four_octets, instr_of_one, point_of_one, two_octets, type_number, variable_of_one}

-- ---- numbers

below-16 : (z : ℤ) → FitsSigned w16 z → cast_unsigned w16 z < 2 ^ 16
below-16 (pos n) fits = let h : n < 2 ^ 15 = fits.sfits in omega arith
below-16 (negsuc n) fits = omega arith

below-32 : (z : ℤ) → FitsSigned w32 z → cast_unsigned w32 z < 2 ^ 32
below-32 (pos n) fits = let h : n < 2 ^ 31 = fits.sfits in omega arith
below-32 (negsuc n) fits = omega arith

back-one : (n : ℕ) (rest : List ℕ) → n < 2 ^ 7
    → signed_at size.One (n ∷ rest) ≡ Ok (pos n, rest)
back-one n rest small =
    rw (let e : ltb (length (n ∷ rest)) 1 ≡ false = le-ltb _ 1 (omega arith) in e)
    (ap (λ (m : ℤ). Ok (m, rest)) (to_z_pos w8 n small))

back-two : (z : ℤ) (rest : List ℕ) → FitsSigned w16 z
    → signed_at size.Two (to_be_bytes w16 (cast_unsigned w16 z) ++ rest) ≡ Ok (z, rest)
back-two z rest fits =
    rw (let e : ltb (length (to_be_bytes w16 (cast_unsigned w16 z) ++ rest)) 2 ≡ false =
    le-ltb _ 2 (omega arith) in e)
    (ap (λ (m : ℤ). Ok (m, rest))
    (ap (cast_signed w16) (from_be_bytes-to_be_bytes_2 (cast_unsigned w16 z) (below-16 z fits))
    ∙ to_z-of_z w16 z fits))

back-four : (z : ℤ) (rest : List ℕ) → FitsSigned w32 z
    → signed_at size.Four (four_octets z ++ rest) ≡ Ok (z, rest)
back-four z rest fits =
    rw (let e : ltb (length (four_octets z ++ rest)) 4 ≡ false = le-ltb _ 4 (omega arith) in e)
    (ap (λ (m : ℤ). Ok (m, rest))
    (ap (cast_signed w32) (from_be_bytes-to_be_bytes_4 (cast_unsigned w32 z) (below-32 z fits))
    ∙ to_z-of_z w32 z fits))

back-span : (n : ℕ) (rest : List ℕ) → n < 2 ^ 31
    → signed_at size.Four (to_be_bytes w32 n ++ rest) ≡ Ok (pos n, rest)
back-span n rest small =
    rw (let e : ltb (length (to_be_bytes w32 n ++ rest)) 4 ≡ false = le-ltb _ 4 (omega arith) in e)
    (ap (λ (m : ℤ). Ok (m, rest))
    (ap (cast_signed w32) (from_be_bytes-to_be_bytes_4 n (omega arith)) ∙ to_z_pos w32 n small))

fits-32 : (t : ElementaryType) (z : ℤ) → t ≢ elementary.Lint
    → FitsSigned (bits_of_size (size_of t)) z → FitsSigned w32 z
fits-32 elementary.Lint z none fits = absurd (none refl)
fits-32 t z none fits = let h = fits.sfits in record { sfits = omega arith }

-- ---- types, points and variables

type-read : (t : ElementaryType) (rest : List ℕ) → t ≢ elementary.Lint
    → type_at One (type_number t ∷ rest) ≡ Ok (t, rest)
type-read elementary.Bool rest none = refl
type-read elementary.Int rest none = refl
type-read elementary.Dint rest none = refl
type-read elementary.Time rest none = refl
type-read elementary.Lint rest none = absurd (none refl)

length-read : (name rest : List ℕ) → list_all is_name_octet name ≡ true
    → name_of_length (length name) (name ++ rest) ≡ Ok (name, rest)
length-read name rest good =
    let front = take-append_seam name rest in
    let after = drop-append_seam name rest in
    let long : ltb (length (name ++ rest)) (length name) ≡ false =
    le-ltb (length (name ++ rest)) (length name) (omega (arith, length-append name rest)) in
    rw (front, good, long, after) refl

name-read : (name rest : List ℕ) → IsName name
    → name_at (length name ∷ (name ++ rest)) ≡ Ok (name, rest)
name-read name rest is =
    let some = is.some in
    let some-octet : eqb (length name) 0 ≡ false = ne_eqb (length name) 0 (omega arith) in
    let few : ltb 64 (length name) ≡ false = le-ltb 64 (length name) is.few in
    rw (some-octet, few) (length-read name rest is.octets)

access-read : (w : Bool) (t : ElementaryType) (name rest : List ℕ) → t ≢ elementary.Lint
    → IsName name
    → point_at One (type_number t ∷ cond w 1 0 ∷ length name ∷ (name ++ rest))
    ≡ Ok (record { name = name; elementary = t; writable = w }, rest)
unfolding point_at
access-read true t name rest none is =
    rw (type-read t (1 ∷ length name ∷ (name ++ rest)) none, name-read name rest is) refl
access-read false t name rest none is =
    rw (type-read t (0 ∷ length name ∷ (name ++ rest)) none, name-read name rest is) refl

variable-read : (v : Value) (rest : List ℕ) → IsValue v → type_of v ≢ elementary.Lint
    → variable_at One (variable_of_one v ++ rest) ≡ Ok (v, rest)
unfolding variable_at
variable-read v rest good none =
    let t = type_of v in
    let is = value-back v good in
    let fits = fits-32 t (number_of v) none (value_is t (number_of v) v is).fits in
    rw (
      type-read t (four_octets (number_of v) ++ rest) none,
      back-four (number_of v) rest fits,
      is,
    ) refl

-- ---- instructions

instr-read : (i : Instr) (rest : List ℕ) → IsInstr i → HasNoLint i
    → instr_from One (instr_of_one i ++ rest) ≡ Ok (i, rest)
unfolding instr_from opcode_of
instr-read (Push (Truth true)) rest is none = rw (back-one 1 rest (omega arith)) refl
instr-read (Push (Truth false)) rest is none = rw (back-one 0 rest (omega arith)) refl
instr-read (Push (Short z)) rest is none =
    let same = value-back (Short z) is in
    rw (back-two z rest (value_is elementary.Int z (Short z) same).fits, same) refl
instr-read (Push (Long z)) rest is none =
    let same = value-back (Long z) is in
    rw (back-four z rest (value_is elementary.Dint z (Long z) same).fits, same) refl
instr-read (Push (Span n)) rest is none =
    let same = value-back (Span n) is in
    let fits = (value_is elementary.Time (pos n) (Span n) same).fits in
    let small : n < 2 ^ 31 = fits.sfits in
    rw (back-span n rest small, same) refl
instr-read (Push (Wide z)) rest is none = absurd (none refl)
instr-read (Slot Load n) rest is none = rw (back-number n rest is) refl
instr-read (Slot Store n) rest is none = rw (back-number n rest is) refl
instr-read (Slot SetIf n) rest is none = rw (back-number n rest is) refl
instr-read (Slot ResetIf n) rest is none = rw (back-number n rest is) refl
instr-read (Compute Add width.Int) rest is none = refl
instr-read (Compute Add width.Dint) rest is none = refl
instr-read (Compute Sub width.Int) rest is none = refl
instr-read (Compute Sub width.Dint) rest is none = refl
instr-read (Compute Mul width.Int) rest is none = refl
instr-read (Compute Mul width.Dint) rest is none = refl
instr-read (Compute Div width.Int) rest is none = refl
instr-read (Compute Div width.Dint) rest is none = refl
instr-read (Compute Mod width.Int) rest is none = refl
instr-read (Compute Mod width.Dint) rest is none = refl
instr-read (Compute o width.Lint) rest is none = absurd (none refl)
instr-read (Widen IntToDint) rest is none = refl
instr-read (Widen DintToLint) rest is none = absurd none
instr-read Halt rest is none = refl
instr-read Drop rest is none = refl
instr-read Not rest is none = refl
instr-read (Combine And) rest is none = refl
instr-read (Combine Or) rest is none = refl
instr-read (Combine Xor) rest is none = refl
instr-read (Compare Gt) rest is none = refl
instr-read (Compare Ge) rest is none = refl
instr-read (Compare Eq) rest is none = refl
instr-read (Compare Ne) rest is none = refl
instr-read (Compare Le) rest is none = refl
instr-read (Compare Lt) rest is none = refl
instr-read (Jump Always n) rest is none = rw (back-number n rest is) refl
instr-read (Jump IfTrue n) rest is none = rw (back-number n rest is) refl
instr-read (Jump IfFalse n) rest is none = rw (back-number n rest is) refl
instr-read (Timer SetInput n) rest is none = rw (back-number n rest is) refl
instr-read (Timer SetPreset n) rest is none = rw (back-number n rest is) refl
instr-read (Timer Run n) rest is none = rw (back-number n rest is) refl
instr-read (Timer LoadOutput n) rest is none = rw (back-number n rest is) refl
instr-read (Timer LoadElapsed n) rest is none = rw (back-number n rest is) refl

no-fault : (code : List Instr) → Each IsInstr code → Each HasNoLint code
    → code_fault One (length (flat_map instr_of_one code)) (flat_map instr_of_one code) ≡ None
no-fault [] are short = refl
no-fault (i ∷ code) are short =
    let rest = flat_map instr_of_one code in
    fault-step One (instr_of_one i ++ rest) i rest (instr-read i rest are.0 short.0)
    ∙ no-fault code are.1 short.1

code-read : (octets : List ℕ) (code : List Instr) → length octets ≤ 65535
    → octets ≡ flat_map instr_of_one code → Each IsInstr code → Each HasNoLint code
    → code_at One (two_octets (length octets) ++ octets) ≡ Ok octets
unfolding code_at
code-read octets code few spelled are short =
    let number = back-number (length octets) octets (omega arith) in
    let all = take-length octets in
    let same : eqb (length octets) (length octets) ≡ true =
    eq-eqb (length octets) (length octets) refl in
    let good : code_fault One (length octets) octets ≡ None =
    ap (λ (xs : List ℕ). code_fault One (length xs) xs) spelled ∙ no-fault code are short in
    rw (number, all, good, same) refl

-- ---- lists

points-read : (ps : List ImagePoint) (rest : List ℕ) → Each HasName ps
    → Each (λ (p : ImagePoint). p.elementary ≢ elementary.Lint) ps
    → items_at (point_at One) (length ps) (flat_map point_of_one ps ++ rest) ≡ Ok (ps, rest)
points-read [] rest named none = refl
points-read (p ∷ ps) rest named none =
    let more = flat_map point_of_one ps ++ rest in
    let first = access-read p.writable p.elementary p.name more none.0 named.0 in
    let later = points-read ps rest named.1 none.1 in
    rw (append_assoc (point_of_one p) (flat_map point_of_one ps) rest, first, later) refl

variables-read : (vs : List Value) (rest : List ℕ) → Each IsValue vs
    → Each (λ (v : Value). type_of v ≢ elementary.Lint) vs
    → items_at (variable_at One) (length vs) (flat_map variable_of_one vs ++ rest) ≡ Ok (vs, rest)
variables-read [] rest good none = refl
variables-read (v ∷ vs) rest good none =
    let first = variable-read v (flat_map variable_of_one vs ++ rest) good.0 none.0 in
    let later = variables-read vs rest good.1 none.1 in
    rw (append_assoc (variable_of_one v) (flat_map variable_of_one vs) rest, first, later) refl

timers-read : (ts : List TimerKind) (rest : List ℕ) → Each (λ (k : TimerKind). k ≡ OnDelay) ts
    → items_at (timer_at One) (length ts) rest ≡ Ok (ts, rest)
unfolding timer_at
timers-read [] rest are = refl
timers-read (t ∷ ts) rest are =
    let later : items_at (timer_at One) (length ts) rest ≡ Ok (ts, rest) =
    unfold timer_at in timers-read ts rest are.1 in
    rw later (ap (λ (k : TimerKind). Ok (k ∷ ts, rest)) (sym are.0))

counted-read : {A : Type 0} (item : List ℕ → Read A) (xs : List A) (octets rest : List ℕ)
    → length xs ≤ 65535 → items_at item (length xs) octets ≡ Ok (xs, rest)
    → counted_at item (two_octets (length xs) ++ octets) ≡ Ok (xs, rest)
counted-read item xs octets rest few read = rw (back-number (length xs) octets (omega arith)) read

-- ---- images

pub version-one : VersionOneIsRead
unfolding decoded_image
version-one i code is =
    let last = two_octets (length i.code) ++ i.code in
    let third = two_octets (length i.timers) ++ last in
    let variables = flat_map variable_of_one i.variables ++ third in
    let second = two_octets (length i.variables) ++ variables in
    let points = flat_map point_of_one i.points ++ second in
    rw (
      counted-read (point_at One) i.points points second is.points
          (points-read i.points second is.names is.types),
      counted-read (variable_at One) i.variables variables third is.variables
          (variables-read i.variables third is.values is.kinds),
      counted-read (timer_at One) i.timers last last is.timers
          (timers-read i.timers last is.delays),
      code-read i.code code is.size is.spelled is.instrs is.short,
    ) refl
