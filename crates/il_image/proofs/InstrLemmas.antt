-- Instructions: one spelling each, which is read back whatever follows.
use Rattle.std.proofs.Common.{◌≡◌, ℕ, ◌^◌, ◌<◌, ℤ, Bool, true, false, cond, eqb, List, [], ◌∷◌, ◌++◌, length, Option, Some, None, refl, subst, sym, ap, ◌∙◌, append-nil, arith}
use Rattle.std.specs.Prelude.{Result, Ok, Err, IsSome, find}
use Rattle.std.proofs.lemmas.Bool.Decides.{nat_tests}
use Rattle.std.proofs.lemmas.Bool.{eqb-true}
use Rattle.std.proofs.lemmas.List.{length-append}
use Rattle.bay_base.specs.Results.{◌>>=◌}
use Rattle.bay_base.specs.declared.types.ElementaryType.{ElementaryType}
use Rattle.bay_base.specs.declared.types.ElementaryType.TheVariants as elementary
use Rattle.il_image.specs.declared.arithmetic.Width.{Width}
use Rattle.il_image.specs.declared.arithmetic.Width.TheVariants as width
use Rattle.il_image.specs.declared.arithmetic.ArithmeticOperation.TheVariants.{Add}
use Rattle.il_image.specs.declared.arithmetic.Comparison.TheVariants.{Gt}
use Rattle.il_image.specs.declared.fault.ImageFault.{ImageFault}
use Rattle.il_image.specs.declared.fault.ImageFault.TheVariants.{BadOpcode}
use Rattle.il_image.specs.declared.instr.Instr.{Instr}
use Rattle.il_image.specs.declared.instr.Instr.TheVariants as instr
use Rattle.il_image.specs.declared.opcode.Connective.TheVariants.{And}
use Rattle.il_image.specs.declared.opcode.SlotUse.TheVariants.{Load}
use Rattle.il_image.specs.declared.opcode.Widening.TheVariants.{IntToDint}
use Rattle.il_image.specs.declared.opcode.When.TheVariants.{Always}
use Rattle.il_image.specs.declared.opcode.TimerUse.TheVariants.{SetInput}
use Rattle.il_image.specs.declared.opcode.Opcode.{Opcode}
use Rattle.il_image.specs.declared.opcode.Opcode.TheVariants.{Halt, Push, Drop, Slot, Not, Combine, Compute, Compare, Widen, Jump, Timer}
use Rattle.il_image.specs.declared.opcode.Version.{Version}
use Rattle.il_image.specs.declared.opcode.Version.TheVariants.{One, Two}
use Rattle.il_image.specs.declared.value.Value.{Value}
use Rattle.il_image.specs.declared.write.Size.{Size}
use Rattle.il_image.specs.Octets.{number_octets, signed_octets, size_of}
use Rattle.il_image.specs.Opcodes.{octet_of, opcodes, opcode_of, is_known, width_octet, width_of}
use Rattle.il_image.specs.Reading.{known_value, known_opcode, number_at, signed_at, value_at, width_at, with_number, operand_from, instr_from}
use Rattle.il_image.specs.Spelling.{opcode_of_instr, operand_of, spelling, IsInstr}
use Rattle.il_image.specs.Values.{type_of, number_of, value_of}
use Rattle.il_image.proofs.ReadLemmas.{back-number, back-signed, bind-is, ok-same}
use Rattle.il_image.proofs.PieceLemmas.{Any, item-took, Empty, Is, Lawful, Never, Sound, known-entry, lawful-ok, lawful-table, left, sound-err, sound-known, sound-so, sound-then}
use Rattle.il_image.proofs.FormatLemmas.{no-opcode, number-lawful, octet-lawful, signed-lawful}
use Rattle.il_image.proofs.ValueLemmas.{value_is, value-back}

-- ---- opcodes

found-passes : {A : Type 0} (p : A → Bool) (xs : List A) (x : A) → find p xs ≡ Some x → p x ≡ true
found-passes p [] x e = absurd cc
found-passes p (y ∷ xs) x e = go p xs x y (p y) refl (found-passes p xs x) e
  where
    go : {A : Type 0} (p : A → Bool) (xs : List A) (x y : A) (b : Bool) → p y ≡ b
        → (find p xs ≡ Some x → p x ≡ true) → cond b (Some y) (find p xs) ≡ Some x → p x ≡ true
    go p xs x y true is rest e = let same : y ≡ x = cc in ap p (sym same) ∙ is
    go p xs x y false is rest e = rest e

pub opcode_is : (octet : ℕ) (o : Opcode) → opcode_of octet ≡ Some o → octet ≡ octet_of o
unfolding opcode_of
opcode_is octet o e =
    eqb-true octet (octet_of o) (found-passes (λ (x : Opcode). eqb octet (octet_of x)) opcodes o e)

pub opcode-back : (o : Opcode) → opcode_of (octet_of o) ≡ Some o
unfolding opcode_of
opcode-back (Push elementary.Bool) = refl
opcode-back (Slot Load) = refl
opcode-back (Combine And) = refl
opcode-back (Compute Add) = refl
opcode-back (Compare Gt) = refl
opcode-back (Widen IntToDint) = refl
opcode-back (Jump Always) = refl
opcode-back (Timer SetInput) = refl
opcode-back o = refl

known-is : (version : Version) (o : Option Opcode) (opcode : Opcode)
    → known_opcode version o ≡ Ok opcode → (o ≡ Some opcode) × (is_known version opcode ≡ true)
known-is version None opcode e = absurd cc
known-is version (Some o) opcode e = go version o opcode (is_known version o) refl e
  where
    go : (version : Version) (o opcode : Opcode) (b : Bool) → is_known version o ≡ b
        → (◌≡◌ {A = Result Opcode ImageFault} (cond b (Ok o) (Err BadOpcode)) (Ok opcode))
        → (Some o ≡ Some opcode) × (is_known version opcode ≡ true)
    go version o opcode true is e = let same : o ≡ opcode =
        ok-same o opcode e in (ap Some same, ap (is_known version) (sym same) ∙ is)
    go version o opcode false is e = absurd cc

-- ---- values and widths

-- A value of a type was read: its number is spelled.
pub record IsValueAs (size : Size) (t : ElementaryType) (octets : List ℕ) (r : Value × List ℕ)
    : Type 0 where
  pub parts : octets ≡ signed_octets size (number_of r.0)
  pub type : type_of r.0 ≡ t
  pub is : value_of t (number_of r.0) ≡ Some r.0

pub value-sound : (s : Size) (t : ElementaryType)
    → Sound left Empty (IsValueAs s t) (value_at s t)
value-sound s t =
    sound-so (sound-then _ (signed-lawful s).sound (λ z. sound-known (value_of t z)
    (λ v. lawful-ok.sound)))
    (λ octets r fits d. (
    let of = value_is t d.what d.later.0 d.later.1 in
    record {
      parts = rw (
        d.parts,
        d.first,
        d.later.2.0,
        d.later.2.1,
        of.number,
        append-nil (signed_octets s d.what),
      ) refl;
      type = rw d.later.2.1 of.type;
      is = rw (d.later.2.1, of.number) d.later.1;
    }))

width-is : (version : Version) (octet : ℕ) (w : Width) → width_of version octet ≡ Some w
    → octet ∷ [] ≡ width_octet w ∷ []
width-is One octet w e = grind (arith, nat_tests)
width-is Two octet w e = grind (arith, nat_tests)

first-width : (version : Version) → width_of version 2 ≡ Some width.Int
first-width One = refl
first-width Two = refl

pub width-lawful : (version : Version)
    → Lawful left Empty (Is (λ w. width_octet w ∷ []) Any) Never (width_at version)
width-lawful version =
    lawful-table BadOpcode (width_of version) (λ w. width_octet w ∷ []) Any 2 width.Int no-opcode
    (omega arith) (first-width version) refl (λ x rest. known-entry (width_of version x) rest)
    (λ x w e. record { parts = width-is version x w e; good = tt })

-- ---- operands

-- The operand of an instruction of the opcode.
pub record IsOperand (opcode : Opcode) (octets : List ℕ) (r : Instr × List ℕ) : Type 0 where
  pub opcode_is : opcode_of_instr r.0 ≡ opcode
  pub parts : octets ≡ operand_of r.0
  pub good : IsInstr r.0

none-sound : (i : Instr) → operand_of i ≡ [] → IsInstr i
    → Sound left Empty (IsOperand (opcode_of_instr i)) (λ octets. Ok (i, octets))
none-sound i none good =
    sound-so lawful-ok.sound (λ octets r fits d. record {
      opcode_is = ap opcode_of_instr d.1;
      parts = rw (d.0, d.1, none) refl;
      good = subst IsInstr (sym d.1) good;
    })

numbered-sound : (opcode : Opcode) (make : ℕ → Instr)
    → ((n : ℕ) → opcode_of_instr (make n) ≡ opcode)
    → ((n : ℕ) → operand_of (make n) ≡ number_octets n) → ((n : ℕ) → n < 2 ^ 16 → IsInstr (make n))
    → Sound left Empty (IsOperand opcode) (with_number make)
numbered-sound opcode make is text good =
    sound-so (sound-then _ number-lawful.sound (λ n. lawful-ok.sound)) (λ octets r fits d. record {
      opcode_is = ap opcode_of_instr d.later.1 ∙ is d.what;
      parts = rw (
        d.parts,
        d.first.parts,
        d.later.0,
        d.later.1,
        text d.what,
        append-nil (number_octets d.what),
      ) refl;
      good = subst IsInstr (sym d.later.1) (good d.what d.first.good);
    })

operand-sound : (version : Version) (o : Opcode)
    → Sound left Empty (IsOperand o) (operand_from version o)
operand-sound version (Push t) =
    sound-so (sound-then _ (value-sound (size_of t) t) (λ v. lawful-ok.sound))
    (λ octets r fits d. record {
      opcode_is = rw d.later.1 (ap Push d.first.type);
      parts = rw (
        d.parts,
        d.first.parts,
        d.later.0,
        d.later.1,
        d.first.type,
        append-nil (signed_octets (size_of t) (number_of d.what)),
      ) refl;
      good = rw (d.later.1, d.first.type, d.first.is) refl;
    })
operand-sound version (Compute o) =
    sound-so (sound-then _ (width-lawful version).sound (λ w. lawful-ok.sound))
    (λ octets r fits d. record {
      opcode_is = rw d.later.1 refl;
      parts = rw (d.parts, d.first.parts, d.later.0, d.later.1) refl;
      good = rw d.later.1 tt;
    })
operand-sound version (Slot u) =
    numbered-sound (Slot u) (λ n. instr.Slot u n) (λ n. refl) (λ n. refl) (λ n small. small)
operand-sound version (Jump when) =
    numbered-sound (Jump when) (λ n. instr.Jump when n) (λ n. refl) (λ n. refl) (λ n small. small)
operand-sound version (Timer u) =
    numbered-sound (Timer u) (λ n. instr.Timer u n) (λ n. refl) (λ n. refl) (λ n small. small)
operand-sound version Halt = none-sound instr.Halt refl tt
operand-sound version Drop = none-sound instr.Drop refl tt
operand-sound version Not = none-sound instr.Not refl tt
operand-sound version (Combine c) = none-sound (instr.Combine c) refl tt
operand-sound version (Compare c) = none-sound (instr.Compare c) refl tt
operand-sound version (Widen w) = none-sound (instr.Widen w) refl tt

-- ---- instructions

pub instr-sound : (version : Version) → Sound left Empty (Is spelling IsInstr) (instr_from version)
unfolding instr_from
instr-sound version =
    sound-so (sound-then _ octet-lawful.sound (λ n. of-opcode (known_opcode version (opcode_of n))))
    (λ octets r fits d. (
    let known = known-is version (opcode_of d.what) d.later.0 d.later.1 in
    record {
      parts = rw (
        d.parts,
        d.first.parts,
        d.later.2.parts,
        opcode_is d.what d.later.0 known.0,
        d.later.2.opcode_is,
      ) refl;
      good = d.later.2.good;
    }))
  where
    of-opcode : (q : Result Opcode ImageFault)
        → Sound left Empty (λ octets r. (o : Opcode) × (q ≡ Ok o) × IsOperand o octets r)
        (λ octets. q >>= (λ o. operand_from version o octets))
    of-opcode (Ok o) = sound-so (operand-sound version o) (λ octets r fits d. (o, refl, d))
    of-opcode (Err e) = sound-err e

-- reading an instruction leaves fewer octets
pub less : (version : Version) (octets : List ℕ) (i : Instr) (rest : List ℕ)
    → instr_from version octets ≡ Ok (i, rest) → length rest < length octets
unfolding instr_from
less version octets i rest e = let t = item-took (instr-sound version) octets i rest e in
    go t.0 t.1 t.2
  where
    go : (front : List ℕ) → octets ≡ front ++ rest → instr_from version front ≡ Ok (i, [])
        → length rest < length octets
    go [] parts is = absurd cc
    go (x ∷ front) parts is = rw parts (omega (arith, length-append front rest))

-- ---- back again

width-back : (w : Width) → width_of Two (width_octet w) ≡ Some w
width-back width.Int = refl
width-back width.Dint = refl
width-back width.Lint = refl

back-value : (v : Value) (rest : List ℕ) → IsSome (value_of (type_of v) (number_of v))
    → value_at (size_of (type_of v)) (type_of v)
    (signed_octets (size_of (type_of v)) (number_of v) ++ rest) ≡ Ok (v, rest)
back-value v rest good =
    let t = type_of v in
    let is = value-back v good in
    bind-is (signed_at (size_of t) (signed_octets (size_of t) (number_of v) ++ rest))
    (λ (z : ℤ × List ℕ). known_value (value_of t z.0) >>= (λ (x : Value). Ok (x, z.1)))
    (number_of v, rest) (Ok (v, rest))
    (back-signed (size_of t) (number_of v) rest (value_is t (number_of v) v is).fits)
    (rw is refl)

back-numbered : (make : ℕ → Instr) (n : ℕ) (rest : List ℕ) → n < 2 ^ 16
    → with_number make (number_octets n ++ rest) ≡ Ok (make n, rest)
back-numbered make n rest small =
    bind-is (number_at (number_octets n ++ rest)) (λ (m : ℕ × List ℕ). Ok (make m.0, m.1)) (n, rest)
    (Ok (make n, rest)) (back-number n rest small) refl

back-operand : (i : Instr) (rest : List ℕ) → IsInstr i
    → operand_from Two (opcode_of_instr i) (operand_of i ++ rest) ≡ Ok (i, rest)
back-operand (instr.Push v) rest good =
    bind-is (value_at (size_of (type_of v)) (type_of v)
    (signed_octets (size_of (type_of v)) (number_of v) ++ rest))
    (λ (x : Value × List ℕ). Ok (instr.Push x.0, x.1)) (v, rest) (Ok (instr.Push v, rest))
    (back-value v rest good) refl
back-operand (instr.Slot u n) rest good = back-numbered (λ m. instr.Slot u m) n rest good
back-operand (instr.Compute o w) rest good = rw (width-back w) refl
back-operand (instr.Jump when n) rest good = back-numbered (λ m. instr.Jump when m) n rest good
back-operand (instr.Timer u n) rest good = back-numbered (λ m. instr.Timer u m) n rest good
back-operand i rest good = refl

pub back-instr : (i : Instr) (rest : List ℕ) → IsInstr i
    → instr_from Two (spelling i ++ rest) ≡ Ok (i, rest)
unfolding instr_from
back-instr i rest good = rw (opcode-back (opcode_of_instr i)) (back-operand i rest good)
