-- The fault that is answered is among the faults, and none of them comes before it.
use Rattle.std.proofs.Common.{◌≡◌, ℕ, zero, suc, ◌<◌, ◌≤◌, ◌⊎◌, inl, inr, Bool, true, false, cond, ◌&&◌, ◌||◌, eqb, ltb, List, [], ◌∷◌, Some, refl, sym, ◌∙◌, subst, arith}
use Rattle.std.proofs.lemmas.Option.{same_Some}
use Rattle.std.specs.Prelude.{Contains, unwrap_or}
use Rattle.std.proofs.lemmas.Bool.Decides.{nat_tests}
use Rattle.std.proofs.lemmas.Bool.{cases_lt}
use Rattle.il_check.specs.Code.{code_of, line_of}
use Rattle.il_check.specs.Faults.{IsLeast, is_before, least_fault, least_of, first_of}
use Rattle.il_check.specs.declared.fault.CheckFault.{CheckFault}

abbrev number : CheckFault → ℕ
number f = unwrap_or (code_of f) 0

-- The fault comes before the other, or both have one line and one number.
abbrev AtMost : CheckFault → CheckFault → Type 0
AtMost f g = (line_of f < line_of g) ⊎ ((line_of f ≡ line_of g) × (number f ≤ number g))

not-below : (a b c d : ℕ) → (a < c) ⊎ ((a ≡ c) × (b ≤ d)) → ltb c a || (eqb c a && ltb d b) ≡ false
not-below a b c d (inl lt) = grind (arith, nat_tests)
not-below a b c d (inr e) = let same = e.0 in let le = e.1 in grind (arith, nat_tests)

was-below : (a b c d : ℕ) → ltb c a || (eqb c a && ltb d b) ≡ false → (a < c) ⊎ ((a ≡ c) × (b ≤ d))
was-below a b c d h = elim (cases_lt a c) [
  | inl lt ↦ inl lt
  | inr ge ↦ inr (grind (arith, nat_tests), grind (arith, nat_tests))
]

below : (a b c d : ℕ) → ltb a c || (eqb a c && ltb b d) ≡ true → (a < c) ⊎ ((a ≡ c) × (b ≤ d))
below a b c d h = elim (cases_lt a c) [
  | inl lt ↦ inl lt
  | inr ge ↦ inr (grind (arith, nat_tests), grind (arith, nat_tests))
]

none_before : (f g : CheckFault) → AtMost f g → is_before g f ≡ false
none_before f g h = not-below (line_of f) (number f) (line_of g) (number g) h

then-most : (a b c d e k : ℕ) → (a < c) ⊎ ((a ≡ c) × (b ≤ d)) → (c < e) ⊎ ((c ≡ e) × (d ≤ k))
    → (a < e) ⊎ ((a ≡ e) × (b ≤ k))
then-most a b c d e k (inl x) (inl y) = inl (omega arith)
then-most a b c d e k (inl x) (inr y) = let s = y.0 in inl (omega arith)
then-most a b c d e k (inr x) (inl y) = let s = x.0 in inl (omega arith)
then-most a b c d e k (inr x) (inr y) = let s = x.0 in let t = y.0 in let u = x.1 in let v =
    y.1 in inr (omega arith, omega arith)

most-then : (f g h : CheckFault) → AtMost f g → AtMost g h → AtMost f h
most-then f g h a b =
    then-most (line_of f) (number f) (line_of g) (number g) (line_of h) (number h) a b

-- the first of two
record IsFirst (f g m : CheckFault) : Type 0 where
  one : (m ≡ f) ⊎ (m ≡ g)
  over : AtMost m f
  under : AtMost m g

self : (f : CheckFault) → AtMost f f
self f = inr (refl, omega arith)

first-of-two : (f g : CheckFault) → IsFirst f g (first_of f g)
first-of-two f g = go (is_before g f) refl
  where
    go : (b : Bool) → is_before g f ≡ b → IsFirst f g (cond b g f)
    go true e =
        record {
          one = inr refl;
          over = below (line_of g) (number g) (line_of f) (number f) e;
          under = self g;
        }
    go false e =
        record {
          one = inl refl;
          over = self f;
          under = was-below (line_of f) (number f) (line_of g) (number g) e;
        }

-- the least of one and others
record Least (f : CheckFault) (gs : List CheckFault) (r : CheckFault) : Type 0 where
  among : (r ≡ f) ⊎ Contains gs r
  over : AtMost r f
  each : (g : CheckFault) → Contains gs g → AtMost r g

in_rest : (g : CheckFault) (gs : List CheckFault) (x : CheckFault) → Contains gs x
    → Contains (g ∷ gs) x
in_rest g gs x c = (suc c.0, (let lt = c.1 in omega arith), c.2)

in_front : (g : CheckFault) (gs : List CheckFault) → Contains (g ∷ gs) g
in_front g gs = (0, omega arith, refl)

of-front : (g x : CheckFault) (gs : List CheckFault) → Contains (g ∷ gs) x → (g ≡ x) ⊎ Contains gs x
of-front g x gs (zero, lt, is) = inl is
of-front g x gs (suc k, lt, is) = inr (k, (let le = lt in omega arith), is)

one-more : (f g : CheckFault) (gs : List CheckFault) (m r : CheckFault) → IsFirst f g m
    → Least m gs r → Least f (g ∷ gs) r
one-more f g gs m r l s = record {
  among = elim s.among [
    | inl e ↦ elim l.one [
      | inl a ↦ inl (e ∙ a)
      | inr b ↦ inr (subst (λ (x : CheckFault). Contains (g ∷ gs) x) (sym (e ∙ b))
          (in_front g gs))
    ]
    | inr c ↦ inr (in_rest g gs r c)
  ];
  over = most-then r m f s.over l.over;
  each = λ x c. elim (of-front g x gs c)
      [ inl e ↦ subst (AtMost r) e (most-then r m g s.over l.under) | inr d ↦ s.each x d ];
}

least_is : (f : CheckFault) (gs : List CheckFault) → Least f gs (least_of f gs)
least_is f [] =
    record { among = inl refl; over = self f; each = λ g c. absurd (let lt = c.1 in omega arith) }
least_is f (g ∷ gs) =
    one-more f g gs (first_of f g) (least_of (first_of f g) gs) (first-of-two f g)
    (least_is (first_of f g) gs)

pub answered-is-least : (faults : List CheckFault) (f : CheckFault) → least_fault faults ≡ Some f
    → IsLeast f faults
answered-is-least [] f e = absurd cc
answered-is-least (g ∷ gs) f e =
    let l = least_is g gs in
    subst (λ (x : CheckFault). IsLeast x (g ∷ gs)) (same_Some (least_of g gs) f e) (record {
      among = elim l.among [
        | inl a
            ↦ subst (λ (x : CheckFault). Contains (g ∷ gs) x) (sym a) (in_front g gs)
        | inr c ↦ in_rest g gs (least_of g gs) c
      ];
      none_before =
          λ other c. none_before (least_of g gs) other
          (elim (of-front g other gs c)
          [ inl a ↦ subst (AtMost (least_of g gs)) a l.over | inr d ↦ l.each other d ]);
    })
