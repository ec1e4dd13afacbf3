-- The number of octets of the instruction that begins at a place is told by its first octet.
use Rattle.std.proofs.Common.{arith}
use Rattle.std.proofs.lemmas.Option.{same_Some}
use Rattle.std.proofs.lemmas.Grind.{common_steps}
use Rattle.std.proofs.Common.{◌≡◌, ℕ, zero, suc, ◌+◌, List, [], ◌∷◌, ◌++◌, length, drop, get_or, refl, sym, ap, ◌∙◌, Some, None}
use Rattle.std.specs.Prelude.{ℤ}
use Rattle.bay_base.specs.declared.types.ElementaryType.{ElementaryType}
use Rattle.il_image.specs.declared.instr.Instr.{Instr}
use Rattle.il_image.specs.declared.instr.Instr.TheVariants.{Push}
use Rattle.il_image.specs.Octets.{AreOctets, octet_count, signed_octets, size_of}
use Rattle.il_image.specs.Opcodes.{octet_of, opcode_of}
use Rattle.il_image.specs.Reading.{instr_at}
use Rattle.il_image.specs.Spelling.{opcode_of_instr, operand_of, spelling}
use Rattle.il_image.specs.Values.{number_of, type_of}
use Rattle.il_image.proofs.InstrLemmas.{opcode-back}
use Rattle.il_image.proofs.PlaceLemmas.{stands}
use Rattle.il_image.specs.declared.opcode.Opcode.{Opcode}
use Rattle.il_verify.specs.Sizes.{size_of_opcode}
use Rattle.il_verify.proofs.EffectLemmas.{not-both}
use Rattle.il_verify.proofs.OrderLemmas.{There}

length-signed : (t : ElementaryType) (z : ℤ)
    → length (signed_octets (size_of t) z) ≡ octet_count (size_of t)
length-signed t z = grind (arith, common_steps)

size-is : (i : Instr) → size_of_opcode (opcode_of_instr i) ≡ length (spelling i)
size-is (Push v) = ap suc (sym (length-signed (type_of v) (number_of v)))
size-is i = refl

first_of : (code : List ℕ) (place x d : ℕ) (xs : List ℕ) → drop place code ≡ x ∷ xs
    → get_or code place d ≡ x
first_of [] zero x d xs e = absurd cc
first_of [] (suc place) x d xs e = absurd cc
first_of (y ∷ code) zero x d xs e = cc
first_of (y ∷ code) (suc place) x d xs e = first_of code place x d xs e

pub opcode-there : (code : List ℕ) (place d : ℕ) (i : Instr) (next : ℕ) → AreOctets code
    → instr_at code place ≡ Some (i, next)
    → opcode_of (get_or code place d) ≡ Some (opcode_of_instr i)
opcode-there code place d i next fits e =
    let s = stands code place i next fits e in
    ap opcode_of (first_of code place (octet_of (opcode_of_instr i)) d
    (operand_of i ++ drop next code) s.spelled) ∙ opcode-back (opcode_of_instr i)

pub next-there : (code : List ℕ) (place : ℕ) (i : Instr) (next : ℕ) → AreOctets code
    → instr_at code place ≡ Some (i, next) → next ≡ place + size_of_opcode (opcode_of_instr i)
next-there code place i next fits e = let s =
    stands code place i next fits e in s.size ∙ ap (λ (n : ℕ). place + n) (sym (size-is i))

-- An opcode was found there: the instruction's, and the next place is so many octets behind.
pub next-by : (code : List ℕ) (place d : ℕ) (o : Opcode) (n : ℕ) (t : There code place)
    → AreOctets code → opcode_of (get_or code place d) ≡ Some o → n ≡ size_of_opcode o
    → instr_at code place ≡ Some (t.instr, place + n)
next-by code place d o n t fits e size =
    let same : opcode_of_instr t.instr ≡ o =
    same_Some (opcode_of_instr t.instr) o
    (sym (opcode-there code place d t.instr t.next fits t.is) ∙ e) in
    let next : t.next ≡ place + n =
    next-there code place t.instr t.next fits t.is
    ∙ ap (λ (k : ℕ). place + k) (ap size_of_opcode same ∙ sym size) in
    t.is ∙ ap (λ (m : ℕ). Some (t.instr, m)) next

pub some-opcode : (code : List ℕ) (place d : ℕ) → There code place → AreOctets code
    → opcode_of (get_or code place d) ≡ None → ⊥
some-opcode code place d t fits e =
    not-both (opcode_of (get_or code place d)) (opcode_of_instr t.instr) e
    (opcode-there code place d t.instr t.next fits t.is)
