-- Values and the numbers that they have.
use Rattle.std.proofs.Common.{◌≡◌, ℕ, ◌^◌, ◌<◌, ◌≤◌, ℤ, pos, negsuc, FitsSigned, Bool, true, false, cond, eqb, leb, Some, None, refl, subst, sym, ap, arith}
use Rattle.std.proofs.lemmas.Option.{cond_some}
use Rattle.std.specs.Prelude.{IsSome}
use Rattle.std.specs.Int.{Width as Bits, w16, w32, w64}
use Rattle.std.proofs.lemmas.Bool.{leb-true, and_parts, eqb-true}
use mir.Val.{hbits}
use Rattle.bay_base.specs.declared.types.ElementaryType.{ElementaryType}
use Rattle.bay_base.specs.declared.types.ElementaryType.TheVariants as elementary
use Rattle.il_image.specs.declared.value.Value.{Value}
use Rattle.il_image.specs.declared.value.Value.TheVariants.{Truth, Short, Long, Wide, Span}
use Rattle.il_image.specs.Images.{IsValue}
use Rattle.il_image.specs.Octets.{bits_of_size, size_of}
use Rattle.il_image.specs.Values.{type_of, number_of, value_of, default_value, span_of, is_between}

-- what a chosen value shows of the choice
some-if : {A : Type 0} (b : Bool) (x : A) → IsSome (cond b (Some x) None) → b ≡ true
some-if true x h = refl
some-if false x h = h

fits_between : (w : Bits) (m : ℕ) (z : ℤ) → m < 2 ^ hbits w → is_between (negsuc m) (pos m) z ≡ true
    → FitsSigned w z
fits_between w m (pos n) lt h = let g = leb-true n m h in record { sfits = omega arith }
fits_between w m (negsuc n) lt h = let g =
    leb-true n m (and_parts _ _ h).0 in record { sfits = omega arith }

-- ---- the value of a type that has a number

-- The value is of the type, and has the number, which fits the type's size.
pub record IsOf (t : ElementaryType) (z : ℤ) (v : Value) : Type 0 where
  pub type : type_of v ≡ t
  pub number : number_of v ≡ z
  pub fits : FitsSigned (bits_of_size (size_of t)) z

truth-is : (n : ℕ) (a b : Bool) (v : Value) → eqb n 0 ≡ a → eqb n 1 ≡ b
    → cond a (Some (Truth false)) (cond b (Some (Truth true)) None) ≡ Some v
    → IsOf elementary.Bool (pos n) v
truth-is n true b v e f h =
    let zero : n ≡ 0 = eqb-true n 0 e in
    let same : Truth false ≡ v = cc in
    subst (IsOf elementary.Bool (pos n)) same
    (record { type = refl; number = ap pos (sym zero); fits = record { sfits = omega arith } })
truth-is n false true v e f h =
    let one : n ≡ 1 = eqb-true n 1 f in
    let same : Truth true ≡ v = cc in
    subst (IsOf elementary.Bool (pos n)) same
    (record { type = refl; number = ap pos (sym one); fits = record { sfits = omega arith } })
truth-is n false false v e f h = absurd cc

span-is : (n : ℕ) (v : Value) → span_of (pos n) ≡ Some v → IsOf elementary.Time (pos n) v
span-is n v h =
    let e = cond_some (is_between (pos 0) (pos 0x7FFF_FFFF) (pos n)) (Span n) v h in
    let small : n ≤ 0x7FFF_FFFF =
    leb-true n 0x7FFF_FFFF (and_parts (leb 0 n) (leb n 0x7FFF_FFFF) e.0).1 in
    subst (IsOf elementary.Time (pos n)) e.1
    (record { type = refl; number = refl; fits = record { sfits = omega arith } })

pub value_is : (t : ElementaryType) (z : ℤ) (v : Value) → value_of t z ≡ Some v → IsOf t z v
value_is elementary.Bool (pos n) v h = truth-is n (eqb n 0) (eqb n 1) v refl refl h
value_is elementary.Bool (negsuc n) v h = absurd cc
value_is elementary.Int z v h =
    let e = cond_some (is_between (negsuc 0x7FFF) (pos 0x7FFF) z) (Short z) v h in
    subst (IsOf elementary.Int z) e.1
    (record { type = refl; number = refl; fits = fits_between w16 0x7FFF z (omega arith) e.0 })
value_is elementary.Dint z v h =
    let e = cond_some (is_between (negsuc 0x7FFF_FFFF) (pos 0x7FFF_FFFF) z) (Long z) v h in
    subst (IsOf elementary.Dint z) e.1
    (record {
      type = refl;
      number = refl;
      fits = fits_between w32 0x7FFF_FFFF z (omega arith) e.0;
    })
value_is elementary.Lint z v h =
    let e = cond_some (is_between (negsuc 0x7FFF_FFFF_FFFF_FFFF) (pos 0x7FFF_FFFF_FFFF_FFFF) z)
    (Wide z) v h in
    subst (IsOf elementary.Lint z) e.1
    (record {
      type = refl;
      number = refl;
      fits = fits_between w64 0x7FFF_FFFF_FFFF_FFFF z (omega arith) e.0;
    })
value_is elementary.Time (pos n) v h = span-is n v h
value_is elementary.Time (negsuc n) v h = absurd cc

-- A value of its type is the one that its number gives.
pub value-back : (v : Value) → IsSome (value_of (type_of v) (number_of v))
    → value_of (type_of v) (number_of v) ≡ Some v
value-back (Truth true) h = refl
value-back (Truth false) h = refl
value-back (Short z) h = rw (some-if (is_between (negsuc 0x7FFF) (pos 0x7FFF) z) (Short z) h) refl
value-back (Long z) h =
    rw (some-if (is_between (negsuc 0x7FFF_FFFF) (pos 0x7FFF_FFFF) z) (Long z) h) refl
value-back (Wide z) h =
    rw (some-if (is_between (negsuc 0x7FFF_FFFF_FFFF_FFFF) (pos 0x7FFF_FFFF_FFFF_FFFF) z) (Wide z)
    h) refl
value-back (Span n) h = rw (some-if (is_between (pos 0) (pos 0x7FFF_FFFF) (pos n)) (Span n) h) refl

-- the default of a type is a value of it
pub default-typed : (t : ElementaryType)
    → (type_of (default_value t) ≡ t) × IsValue (default_value t)
default-typed elementary.Bool = (refl, refl)
default-typed t = (refl, refl)
