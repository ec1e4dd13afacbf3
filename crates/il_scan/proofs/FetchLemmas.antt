-- The instruction at a place, by the parts in which it is read.
use Rattle.std.proofs.Common.{◌≡◌, ℕ, suc, false, ltb, ◌+◌, ◌-◌, ◌<◌, ◌≤◌, List, [], ◌∷◌, ◌++◌, length, drop, get_or, refl, sym, ap, ◌∙◌, arith, ℤ, Option, Some, None}
use Rattle.std.proofs.lemmas.Option.{same_Some}
use Rattle.std.specs.Prelude.{IsOk, IsSome, Result, Ok, Err}
use Rattle.std.specs.Int.{w16, cast_signed, from_be_bytes}
use Rattle.std.proofs.lemmas.Bool.{le-ltb}
use Rattle.std.proofs.lemmas.List.{length-drop}
use Rattle.std.proofs.Math.Seq.{drop-drop}
use Rattle.bay_base.specs.declared.types.ElementaryType.{ElementaryType}
use Rattle.il_image.specs.declared.fault.ImageFault.{ImageFault}
use Rattle.il_image.specs.declared.instr.Instr.{Instr}
use Rattle.il_image.specs.declared.opcode.Opcode.{Opcode}
use Rattle.il_image.specs.declared.opcode.Version.TheVariants.{Two}
use Rattle.il_image.specs.Octets.{AreOctets, bits_of_size, octet_count, size_of}
use Rattle.il_image.specs.Opcodes.{octet_of, opcode_of}
use Rattle.il_image.specs.Reading.{instr_at, instr_from, operand_from, signed_at, with_number}
use Rattle.il_image.specs.Spelling.{opcode_of_instr, operand_of}
use Rattle.il_image.proofs.InstrLemmas.{back-instr, opcode-back}
use Rattle.il_image.proofs.PlaceLemmas.{stands}
use Rattle.il_image.proofs.ReadLemmas.{ok-same}
use Rattle.il_verify.proofs.EffectLemmas.{not-both}
use Rattle.il_verify.proofs.SizeLemmas.{opcode-there}

there : {A : Type 0} (o : Option A) → IsSome o → (x : A) × (o ≡ Some x)
there None h = absurd cc
there (Some x) h = (x, refl)

is-ok-of : {A : Type 0} (r : Result A ImageFault) (x : A) → r ≡ Ok x → IsOk r
is-ok-of (Ok y) x e = refl
is-ok-of (Err f) x e = absurd cc

-- ---- numbers that are whole

whole : (n at : ℕ) (code : List ℕ) → at + n ≤ length code → ltb (length (drop at code)) n ≡ false
whole n at code h =
    le-ltb (length (drop at code)) n
    (let d : length (drop at code) ≡ length code - at = length-drop at code in omega arith)

-- an operand that is a number of two octets
pub record Numbered (make : ℕ → Instr) (code : List ℕ) (at n : ℕ) : Type 0 where
  pub value : with_number make (drop at code) ≡ Ok (make n, drop (at + 2) code)
  pub within : at + 2 ≤ length code

enough : (make : ℕ → Instr) (octets : List ℕ) → IsOk (with_number make octets) → 2 ≤ length octets
enough make [] h = absurd cc
enough make (x ∷ []) h = absurd cc
enough make (x ∷ y ∷ octets) h = omega arith

-- an instruction with a number of two octets is read as its number
pub numbered : (make : ℕ → Instr) (code : List ℕ) (at n : ℕ) → at ≤ length code
    → IsOk (with_number make (drop at code)) → n ≡ from_be_bytes w16 (drop at code)
    → Numbered make code at n
numbered make code at n below h is =
    let two = enough make (drop at code) h in
    let d : length (drop at code) ≡ length code - at = length-drop at code in
    let fits : at + 2 ≤ length code = omega arith in
    record {
      value = rw (whole 2 at code fits)
          (ap (λ (xs : List ℕ). Ok (make (from_be_bytes w16 (drop at code)), xs))
          (drop-drop 2 at code) ∙ ap (λ (m : ℕ). Ok (make m, drop (at + 2) code)) (sym is));
      within = fits;
    }

pub signed-there : (t : ElementaryType) (code : List ℕ) (at : ℕ) (z : ℤ)
    → at + octet_count (size_of t) ≤ length code
    → z ≡ cast_signed (bits_of_size (size_of t))
    (from_be_bytes (bits_of_size (size_of t)) (drop at code))
    → signed_at (size_of t) (drop at code) ≡ Ok (z, drop (at + octet_count (size_of t)) code)
signed-there t code at z h is =
    let n = octet_count (size_of t) in
    let w = bits_of_size (size_of t) in
    rw (whole n at code h)
    (ap (λ (xs : List ℕ). Ok (cast_signed w (from_be_bytes w (drop at code)), xs))
    (drop-drop n at code) ∙ ap (λ (x : ℤ). Ok (x, drop (at + n) code)) (sym is))

-- ---- the instruction

operand-is : (o : Opcode) (rest : List ℕ)
    → instr_from Two (octet_of o ∷ rest) ≡ operand_from Two o rest
unfolding instr_from
operand-is o rest = rw (opcode-back o) refl

behind-first : (code : List ℕ) (offset x : ℕ) (xs : List ℕ) → drop offset code ≡ x ∷ xs
    → drop (offset + 1) code ≡ xs
behind-first code offset x xs e = sym (drop-drop 1 offset code) ∙ ap (drop 1) e

-- What stands at the place: its opcode's operand, read behind the first octet.
pub record Found (code : List ℕ) (offset : ℕ) (i : Instr) (next : ℕ) : Type 0 where
  pub here : instr_at code offset ≡ Some (i, next)
  pub opcode : opcode_of (get_or code offset 0) ≡ Some (opcode_of_instr i)
  pub operand : operand_from Two (opcode_of_instr i) (drop (offset + 1) code)
      ≡ Ok (i, drop next code)
  pub forward : offset < next
  pub within : next ≤ length code

pub found-at : (code : List ℕ) (offset : ℕ) (i : Instr) (next : ℕ) → AreOctets code
    → instr_at code offset ≡ Some (i, next) → Found code offset i next
found-at code offset i next fits e =
    let s = stands code offset i next fits e in
    let size : next ≡ offset + suc (length (operand_of i)) = s.size in
    record {
      here = e;
      opcode = opcode-there code offset 0 i next fits e;
      operand =
          ap (operand_from Two (opcode_of_instr i))
          (behind-first code offset (octet_of (opcode_of_instr i)) (operand_of i ++ drop next code)
          s.spelled)
          ∙ sym (operand-is (opcode_of_instr i) (operand_of i ++ drop next code))
          ∙ back-instr i (drop next code) s.is_instr;
      forward = omega arith;
      within = s.within;
    }

pub found : (code : List ℕ) (offset : ℕ) → AreOctets code → IsSome (instr_at code offset)
    → (i : Instr) × (next : ℕ) × Found code offset i next
found code offset fits h = let t =
    there (instr_at code offset) h in (t.0.0, t.0.1, found-at code offset t.0.0 t.0.1 fits t.1)

module _ (code : List ℕ) (offset : ℕ) (fits : AreOctets code) (h : IsSome (instr_at code offset))
  where
    pub place-within : offset < length code
    place-within = let f = found code offset fits h in let a : offset < f.1 =
        f.2.forward in let b : f.1 ≤ length code = f.2.within in omega arith

    pub no-opcode : opcode_of (get_or code offset 0) ≡ None → ⊥
    no-opcode e = let f = found code offset fits h in
        not-both (opcode_of (get_or code offset 0)) (opcode_of_instr f.0) e f.2.opcode

    module _ (o : Opcode) (is : opcode_of (get_or code offset 0) ≡ Some o) where
      same-opcode : opcode_of_instr (found code offset fits h).0 ≡ o
      same-opcode = let f =
          found code offset fits h in same_Some (opcode_of_instr f.0) o (sym f.2.opcode ∙ is)

      operand-there : operand_from Two o (drop (offset + 1) code)
          ≡ Ok ((found code offset fits h).0, drop (found code offset fits h).1 code)
      operand-there = let f = found code offset fits h in
          ap (λ (p : Opcode). operand_from Two p (drop (offset + 1) code)) (sym same-opcode)
          ∙ f.2.operand

      pub whole-operand : IsOk (operand_from Two o (drop (offset + 1) code))
      whole-operand = let f = found code offset fits h in
          is-ok-of (operand_from Two o (drop (offset + 1) code)) (f.0, drop f.1 code) operand-there

      pub fetched : (r : Instr × ℕ)
          → operand_from Two o (drop (offset + 1) code) ≡ Ok (r.0, drop r.1 code)
          → r.1 ≤ length code
          → instr_at code offset ≡ Some r
      fetched r e within =
          let f = found code offset fits h in
          let same = ok-same (f.0, drop f.1 code) (r.0, drop r.1 code) (sym operand-there ∙ e) in
          let i : f.0 ≡ r.0 = ap (λ (q : Instr × List ℕ). q.0) same in
          let left : length (drop f.1 code) ≡ length (drop r.1 code) =
          ap (λ (q : Instr × List ℕ). length q.1) same in
          let a : length (drop f.1 code) ≡ length code - f.1 = length-drop f.1 code in
          let b : length (drop r.1 code) ≡ length code - r.1 = length-drop r.1 code in
          let c : f.1 ≤ length code = f.2.within in
          let n : f.1 ≡ r.1 = omega arith in
          f.2.here ∙ ap (λ (m : ℕ). Some (f.0, m)) n ∙ ap (λ (j : Instr). Some (j, r.1)) i
