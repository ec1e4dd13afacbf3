-- The values that a range stands for, under what is done with one value or two.
use Rattle.std.proofs.Common.{◌≡◌, ℕ, ℤ, pos, Bool, true, false, cond, nat_eq, List, [], ◌∷◌, refl, ap, sym, subst, ◌∙◌, arith, Option, Some, None}
use Rattle.std.proofs.lemmas.Bool.{and_parts}
use Rattle.std.specs.Prelude.{◌≤ℤ◌, ◌<ℤ◌, ◌&&◌, ◌||◌, not, int_lt, int_le}
use Rattle.std.specs.Ordering.{int_eq}
use Rattle.std.proofs.lemmas.Int.{ints}
use Rattle.std.proofs.lemmas.Bool.Decides.{Decides-int_eq, nat_tests}
use Rattle.std.specs.Bool.{beq}
use Rattle.il_image.specs.declared.arithmetic.Comparison.{Comparison}
use Rattle.il_image.specs.declared.arithmetic.Comparison.TheVariants.{Gt, Ge, Eq, Ne, Le, Lt}
use Rattle.il_image.specs.declared.opcode.Connective.{Connective}
use Rattle.il_image.specs.declared.opcode.Connective.TheVariants.{And, Or, Xor}
use Rattle.il_image.specs.declared.value.Value.{Value}
use Rattle.il_image.specs.declared.value.Value.TheVariants.{Truth, Short, Long, Wide, Span}
use Rattle.il_image.specs.Arithmetic.{comparison_holds, logic_of}
use Rattle.il_image.specs.Values.{number_of}
use Rattle.bay_base.specs.declared.position.Dbpos.{Dbpos}
use Rattle.bay_base.specs.declared.position.Dbpos.TheVariants.{Intermediate, Off, On, Bad}
use Rattle.il_range.specs.declared.range.Positions.{Positions}
use Rattle.il_range.specs.declared.range.Range.{Range}
use Rattle.il_range.specs.declared.range.Range.TheVariants.{Any, No, Yes, Either, Between, Among}
use Rattle.il_range.specs.Effects.{and_ranges, common_positions, other_positions, same_positions, compare_ranges, connect_ranges, or_ranges, value_range, high_of, are_within, is_within, join, low_of, lesser, not_range, xor_ranges, holds_if_known, surely_le, surely_lt, bool_range, greater, widen_range}
use Rattle.il_range.specs.Ranges.{AreIn, IsFalseValue, IsIn, IsTrueValue, IsTruth, Setting, among, are_all, are_any, has_position}

-- ---- sets of positions

same-index : (j k : ℕ) → nat_eq j k ≡ true → j ≡ k
same-index j k h = grind (arith, nat_tests)

same-truth : (a b : Bool) → Truth a ≡ Truth b → a ≡ b
same-truth a b h = cc

same-answer : (a b : Bool) → beq a b ≡ true → a ≡ b
same-answer true true h = refl
same-answer false false h = refl
same-answer true false h = absurd cc
same-answer false true h = absurd cc

-- two sets that are the same have the same positions
same-has : (s t : Positions) → same_positions s t ≡ true → (d : Dbpos)
    → has_position s d ≡ has_position t d
same-has s t h d =
    let i = and_parts (beq s.intermediate t.intermediate)
    (beq s.off t.off && (beq s.on t.on && beq s.bad t.bad)) h in
    let o = and_parts (beq s.off t.off) (beq s.on t.on && beq s.bad t.bad) i.1 in
    let n = and_parts (beq s.on t.on) (beq s.bad t.bad) o.1 in
    go d (same-answer s.intermediate t.intermediate i.0) (same-answer s.off t.off o.0)
    (same-answer s.on t.on n.0) (same-answer s.bad t.bad n.1)
  where
    go : (d : Dbpos) → s.intermediate ≡ t.intermediate → s.off ≡ t.off → s.on ≡ t.on
        → s.bad ≡ t.bad → has_position s d ≡ has_position t d
    go Intermediate i o n b = i
    go Off i o n b = o
    go On i o n b = n
    go Bad i o n b = b

other-has : (s : Positions) (d : Dbpos)
    → has_position (other_positions s) d ≡ not (has_position s d)
other-has s Intermediate = refl
other-has s Off = refl
other-has s On = refl
other-has s Bad = refl

common-has : (s t : Positions) (d : Dbpos)
    → has_position (common_positions s t) d ≡ (has_position s d && has_position t d)
common-has s t Intermediate = refl
common-has s t Off = refl
common-has s t On = refl
common-has s t Bad = refl

all-has : (s : Positions) (d : Dbpos) → are_all s ≡ true → has_position s d ≡ true
all-has s d h =
    let i = and_parts s.intermediate (s.off && (s.on && s.bad)) h in
    let o = and_parts s.off (s.on && s.bad) i.1 in
    let n = and_parts s.on s.bad o.1 in
    go d i.0 o.0 n.0 n.1
  where
    go : (d : Dbpos) → s.intermediate ≡ true → s.off ≡ true → s.on ≡ true → s.bad ≡ true
        → has_position s d ≡ true
    go Intermediate i o n b = i
    go Off i o n b = o
    go On i o n b = n
    go Bad i o n b = b

neither : (a b : Bool) → (a || b) ≡ false → (a ≡ false) × (b ≡ false)
neither false false h = (refl, refl)
neither true b h = absurd cc
neither false true h = absurd cc

none-has : (s : Positions) (d : Dbpos) → are_any s ≡ false → has_position s d ≡ false
none-has s d h =
    let i = neither s.intermediate (s.off || (s.on || s.bad)) h in
    let o = neither s.off (s.on || s.bad) i.1 in
    let n = neither s.on s.bad o.1 in
    go d i.0 o.0 n.0 n.1
  where
    go : (d : Dbpos) → s.intermediate ≡ false → s.off ≡ false → s.on ≡ false → s.bad ≡ false
        → has_position s d ≡ false
    go Intermediate i o n b = i
    go Off i o n b = o
    go On i o n b = n
    go Bad i o n b = b

module _ (w : Setting) where
  among-truth : (v : Value) (k : ℕ) (s : Positions) → IsIn w v (Among k s) → IsTruth v
  among-truth v k s h = subst IsTruth (sym h) tt

  -- what has a position of a set is in its range
  pub in-among : (b : Bool) (k : ℕ) (s : Positions) → b ≡ has_position s (w.position k)
      → IsIn w (Truth b) (among k s)
  in-among b k s h = go (are_all s) (are_any s) refl refl
    where
      go : (all any : Bool) → are_all s ≡ all → are_any s ≡ any
          → IsIn w (Truth b) (cond all Yes (cond any (Among k s) No))
      go true any all-is any-is =
          subst (λ (x : Bool). IsTrueValue (Truth x)) (sym (h ∙ all-has s (w.position k) all-is)) tt
      go false true all-is any-is = ap (λ x. Truth x) h
      go false false all-is any-is =
          subst (λ (x : Bool). IsFalseValue (Truth x)) (sym (h ∙ none-has s (w.position k) any-is))
          tt

  same-le : (z : ℤ) → z ≤ℤ z
  same-le z = omega (arith, ints)

  pub in-exactly : (v : Value) → IsIn w v (value_range v)
  in-exactly (Truth true) = tt
  in-exactly (Truth false) = tt
  in-exactly (Short z) = (same-le z, same-le z)
  in-exactly (Long z) = (same-le z, same-le z)
  in-exactly (Wide z) = (same-le z, same-le z)
  in-exactly (Span n) = (same-le (pos n), same-le (pos n))

  false-truth : (v : Value) → IsFalseValue v → IsTruth v
  false-truth (Truth false) h = tt
  false-truth v h = absurd h

  true-truth : (v : Value) → IsTrueValue v → IsTruth v
  true-truth (Truth true) h = tt
  true-truth v h = absurd h

  lower-left : (a c n : ℤ) → a ≤ℤ n → lesser a c ≤ℤ n
  lower-left a c n h = grind (arith, ints)

  lower-right : (a c n : ℤ) → c ≤ℤ n → lesser a c ≤ℤ n
  lower-right a c n h = grind (arith, ints)

  upper-left : (b d n : ℤ) → n ≤ℤ b → n ≤ℤ greater b d
  upper-left b d n h = grind (arith, ints)

  upper-right : (b d n : ℤ) → n ≤ℤ d → n ≤ℤ greater b d
  upper-right b d n h = grind (arith, ints)

  joined-left : (v : Value) (j k : ℕ) (s t : Positions) (b : Bool) → IsIn w v (Among j s)
      → IsIn w v (cond b (Among j s) Either)
  joined-left v j k s t true h = h
  joined-left v j k s t false h = among-truth v j s h

  joined-right : (v : Value) (j k : ℕ) (s t : Positions) (b : Bool)
      → (nat_eq j k && same_positions s t) ≡ b → IsIn w v (Among k t)
      → IsIn w v (cond b (Among j s) Either)
  joined-right v j k s t true e h =
      let parts = and_parts (nat_eq j k) (same_positions s t) e in
      let same : j ≡ k = same-index j k parts.0 in
      h ∙ ap (λ x. Truth x) (sym (ap (λ n. has_position s (w.position n)) same
      ∙ same-has s t parts.1 (w.position k)))
  joined-right v j k s t false e h = among-truth v k t h

  pub in-join_left : (v : Value) (r s : Range) → IsIn w v r → IsIn w v (join r s)
  in-join_left v No No h = h
  in-join_left v No Yes h = false-truth v h
  in-join_left v No Either h = false-truth v h
  in-join_left v Yes Yes h = h
  in-join_left v Yes No h = true-truth v h
  in-join_left v Yes Either h = true-truth v h
  in-join_left v Either No h = h
  in-join_left v Either Yes h = h
  in-join_left v Either Either h = h
  in-join_left v (Between a b) (Between c d) h =
      (lower-left a c (number_of v) h.0, upper-left b d (number_of v) h.1)
  in-join_left v No (Among k t) h = false-truth v h
  in-join_left v Yes (Among k t) h = true-truth v h
  in-join_left v Either (Among k t) h = h
  in-join_left v (Among j s) No h = among-truth v j s h
  in-join_left v (Among j s) Yes h = among-truth v j s h
  in-join_left v (Among j s) Either h = among-truth v j s h
  in-join_left v (Among j s) (Among k t) h =
      joined-left v j k s t (nat_eq j k && same_positions s t) h
  in-join_left v r s h = tt

  pub in-join_right : (v : Value) (r s : Range) → IsIn w v s → IsIn w v (join r s)
  in-join_right v No No h = h
  in-join_right v No Yes h = true-truth v h
  in-join_right v No Either h = h
  in-join_right v Yes Yes h = h
  in-join_right v Yes No h = false-truth v h
  in-join_right v Yes Either h = h
  in-join_right v Either No h = false-truth v h
  in-join_right v Either Yes h = true-truth v h
  in-join_right v Either Either h = h
  in-join_right v (Between a b) (Between c d) h =
      (lower-right a c (number_of v) h.0, upper-right b d (number_of v) h.1)
  in-join_right v No (Among k t) h = among-truth v k t h
  in-join_right v Yes (Among k t) h = among-truth v k t h
  in-join_right v Either (Among k t) h = among-truth v k t h
  in-join_right v (Among j s) No h = false-truth v h
  in-join_right v (Among j s) Yes h = true-truth v h
  in-join_right v (Among j s) Either h = h
  in-join_right v (Among j s) (Among k t) h =
      joined-right v j k s t (nat_eq j k && same_positions s t) refl h
  in-join_right v r s h = tt

  in-within : (v : Value) (r s : Range) → is_within r s ≡ true → IsIn w v r → IsIn w v s
  in-within v r Any e h = tt
  in-within v No No e h = h
  in-within v Yes Yes e h = h
  in-within v No Either e h = false-truth v h
  in-within v Yes Either e h = true-truth v h
  in-within v Either Either e h = h
  in-within v (Between a b) (Between c d) e h =
      let parts = and_parts (int_le c a) (int_le b d) e in
      grind (arith, ints, parts.0, parts.1, h.0, h.1)
  in-within v (Among j s) Either e h = among-truth v j s h
  in-within v (Among j s) (Among k t) e h =
      let parts = and_parts (nat_eq j k) (same_positions s t) e in
      h ∙ ap (λ x. Truth x) (ap (λ n. has_position s (w.position n)) (same-index j k parts.0)
      ∙ same-has s t parts.1 (w.position k))
  in-within v r s e h = absurd (cc)

  pub are-within : (values : List Value) (ranges others : List Range)
      → are_within ranges others ≡ true → AreIn w values ranges → AreIn w values others
  are-within [] [] [] e h = tt
  are-within [] [] (s ∷ others) e h = absurd (cc)
  are-within values (r ∷ ranges) [] e h = absurd (cc)
  are-within [] (r ∷ ranges) (s ∷ others) e h = absurd h
  are-within (v ∷ values) [] others e h = absurd h
  are-within (v ∷ values) (r ∷ ranges) (s ∷ others) e h =
      let parts = and_parts (is_within r s) (are_within ranges others) e in
      (in-within v r s parts.0 h.0, are-within values ranges others parts.1 h.1)

  pub in-widened : (is_late : Bool) (v : Value) (r s : Range) → IsIn w v r
      → IsIn w v (widen_range is_late r s)
  in-widened is_late v r s h = go (is_within s r) is_late
    where
      go : (b late : Bool) → IsIn w v (cond b r (cond late Any (join r s)))
      go true late = h
      go false true = tt
      go false false = in-join_left v r s h

  -- ---- truths

  common-if : (a b : Bool) (m n : ℕ) (s t : Positions) (same : Bool) → nat_eq m n ≡ same
      → IsIn w (Truth a) (Among m s) → IsIn w (Truth b) (Among n t)
      → IsIn w (Truth (a && b)) (cond same (among m (common_positions s t)) Either)
  common-if a b m n s t true e h k =
      let is : a ≡ has_position s (w.position m) = same-truth a (has_position s (w.position m)) h in
      let also : b ≡ has_position t (w.position m) =
      same-truth b (has_position t (w.position n)) k
      ∙ ap (λ i. has_position t (w.position i)) (sym (same-index m n e)) in
      in-among (a && b) m (common_positions s t)
      (ap (λ x. x && b) is ∙ ap (λ x. has_position s (w.position m) && x) also
      ∙ sym (common-has s t (w.position m)))
  common-if a b m n s t false e h k = tt

  pub of-negated : (b : Bool) (r : Range) → IsIn w (Truth b) r
      → IsIn w (Truth (not b)) (not_range r)
  of-negated true Yes h = tt
  of-negated false Yes h = absurd h
  of-negated true No h = absurd h
  of-negated false No h = tt
  of-negated b (Among k s) h =
      let is : b ≡ has_position s (w.position k) = same-truth b (has_position s (w.position k)) h in
      ap (λ x. Truth x) (ap not is ∙ sym (other-has s (w.position k)))
  of-negated b r h = tt

  pub of-both : (a b : Bool) (r s : Range) → IsIn w (Truth a) r → IsIn w (Truth b) s
      → IsIn w (Truth (a && b)) (and_ranges r s)
  of-both true b No s h k = absurd h
  of-both false b No s h k = tt
  of-both a true r No h k = absurd k
  of-both true false r No h k = tt
  of-both false false r No h k = tt
  of-both true true Yes Yes h k = tt
  of-both false b Yes Yes h k = absurd h
  of-both true false Yes Yes h k = absurd k
  of-both true b Yes (Among n t) h k = k
  of-both false b Yes (Among n t) h k = absurd h
  of-both true true (Among m s) Yes h k = h
  of-both false true (Among m s) Yes h k = h
  of-both a false (Among m s) Yes h k = absurd k
  of-both a b (Among m s) (Among n t) h k = common-if a b m n s t (nat_eq m n) refl h k
  of-both a b r s h k = tt

  de-morgan : (a b : Bool) → not (not a && not b) ≡ a || b
  de-morgan true b = refl
  de-morgan false true = refl
  de-morgan false false = refl

  pub of-either : (a b : Bool) (r s : Range) → IsIn w (Truth a) r → IsIn w (Truth b) s
      → IsIn w (Truth (a || b)) (or_ranges r s)
  of-either a b r s h k =
      subst (λ (x : Bool). IsIn w (Truth x) (or_ranges r s)) (de-morgan a b)
      (of-negated (not a && not b) (and_ranges (not_range r) (not_range s))
      (of-both (not a) (not b) (not_range r) (not_range s) (of-negated a r h) (of-negated b s k)))

  of-one_of : (a b : Bool) (r s : Range) → IsIn w (Truth a) r → IsIn w (Truth b) s
      → IsIn w (Truth (logic_of Xor a b)) (xor_ranges r s)
  of-one_of true b No No h k = absurd h
  of-one_of false true No No h k = absurd k
  of-one_of false false No No h k = tt
  of-one_of true b No Yes h k = absurd h
  of-one_of false true No Yes h k = tt
  of-one_of false false No Yes h k = absurd k
  of-one_of false b Yes No h k = absurd h
  of-one_of true true Yes No h k = absurd k
  of-one_of true false Yes No h k = tt
  of-one_of false b Yes Yes h k = absurd h
  of-one_of true true Yes Yes h k = tt
  of-one_of true false Yes Yes h k = absurd k
  of-one_of a b r s h k = tt

  pub of-connected : (c : Connective) (a b : Bool) (r s : Range) → IsIn w (Truth a) r
      → IsIn w (Truth b) s → IsIn w (Truth (logic_of c a b)) (connect_ranges c r s)
  of-connected And a b r s h k = of-both a b r s h k
  of-connected Or a b r s h k = of-either a b r s h k
  of-connected Xor a b r s h k = of-one_of a b r s h k

  -- ---- comparisons

  in-low : (v : Value) (r : Range) (l : ℤ) → IsIn w v r → low_of r ≡ Some l → l ≤ℤ number_of v
  in-low v Any l h e = absurd (cc)
  in-low (Truth false) No l h e = let is : pos 0 ≡ l =
      cc in subst (λ (z : ℤ). z ≤ℤ pos 0) is (same-le (pos 0))
  in-low (Truth true) Yes l h e = let is : pos 1 ≡ l =
      cc in subst (λ (z : ℤ). z ≤ℤ pos 1) is (same-le (pos 1))
  in-low (Truth false) Either l h e = let is : pos 0 ≡ l =
      cc in subst (λ (z : ℤ). z ≤ℤ pos 0) is (same-le (pos 0))
  in-low (Truth true) Either l h e =
      let is : pos 0 ≡ l = cc in
      let less : pos 0 ≤ℤ pos 1 = omega (arith, ints) in subst (λ (z : ℤ). z ≤ℤ pos 1) is less
  in-low v (Between low high) l h e =
      let is : low ≡ l = cc in subst (λ (z : ℤ). z ≤ℤ number_of v) is h.0
  in-low (Truth false) (Among k s) l h e = let is : pos 0 ≡ l =
      cc in subst (λ (z : ℤ). z ≤ℤ pos 0) is (same-le (pos 0))
  in-low (Truth true) (Among k s) l h e =
      let is : pos 0 ≡ l = cc in
      let less : pos 0 ≤ℤ pos 1 = omega (arith, ints) in subst (λ (z : ℤ). z ≤ℤ pos 1) is less
  in-low v (Among k s) l h e = absurd cc
  in-low v r l h e = absurd h

  in-high : (v : Value) (r : Range) (l : ℤ) → IsIn w v r → high_of r ≡ Some l → number_of v ≤ℤ l
  in-high v Any l h e = absurd (cc)
  in-high (Truth false) No l h e = let is : pos 0 ≡ l =
      cc in subst (λ (z : ℤ). pos 0 ≤ℤ z) is (same-le (pos 0))
  in-high (Truth true) Yes l h e = let is : pos 1 ≡ l =
      cc in subst (λ (z : ℤ). pos 1 ≤ℤ z) is (same-le (pos 1))
  in-high (Truth true) Either l h e = let is : pos 1 ≡ l =
      cc in subst (λ (z : ℤ). pos 1 ≤ℤ z) is (same-le (pos 1))
  in-high (Truth false) Either l h e =
      let is : pos 1 ≡ l = cc in
      let less : pos 0 ≤ℤ pos 1 = omega (arith, ints) in subst (λ (z : ℤ). pos 0 ≤ℤ z) is less
  in-high v (Between low high) l h e =
      let is : high ≡ l = cc in subst (λ (z : ℤ). number_of v ≤ℤ z) is h.1
  in-high (Truth true) (Among k s) l h e = let is : pos 1 ≡ l =
      cc in subst (λ (z : ℤ). pos 1 ≤ℤ z) is (same-le (pos 1))
  in-high (Truth false) (Among k s) l h e =
      let is : pos 1 ≡ l = cc in
      let less : pos 0 ≤ℤ pos 1 = omega (arith, ints) in subst (λ (z : ℤ). pos 0 ≤ℤ z) is less
  in-high v (Among k s) l h e = absurd cc
  in-high v r l h e = absurd h

  lt-told : (a b : ℤ) → int_lt a b ≡ true → a <ℤ b
  lt-told a b e = grind (arith, ints)

  pub le-told : (a b : ℤ) → int_le a b ≡ true → a ≤ℤ b
  le-told a b e = grind (arith, ints)

  is-lt : (v u : Value) (r s : Range) → IsIn w v r → IsIn w u s → surely_lt r s ≡ true
      → number_of v <ℤ number_of u
  is-lt v u r s h k e = go (high_of r) (low_of s) refl refl e
    where
      go : (x y : Option ℤ) → high_of r ≡ x → low_of s ≡ y → holds_if_known int_lt x y ≡ true
          → number_of v <ℤ number_of u
      go None y ex ey e = absurd (cc)
      go (Some a) None ex ey e = absurd (cc)
      go (Some a) (Some b) ex ey e =
          let below : number_of v ≤ℤ a = in-high v r a h ex in
          let above : b ≤ℤ number_of u = in-low u s b k ey in
          let less : a <ℤ b = lt-told a b e in omega (arith, ints)

  is-le : (v u : Value) (r s : Range) → IsIn w v r → IsIn w u s → surely_le r s ≡ true
      → number_of v ≤ℤ number_of u
  is-le v u r s h k e = go (high_of r) (low_of s) refl refl e
    where
      go : (x y : Option ℤ) → high_of r ≡ x → low_of s ≡ y → holds_if_known int_le x y ≡ true
          → number_of v ≤ℤ number_of u
      go None y ex ey e = absurd (cc)
      go (Some a) None ex ey e = absurd (cc)
      go (Some a) (Some b) ex ey e =
          let below : number_of v ≤ℤ a = in-high v r a h ex in
          let above : b ≤ℤ number_of u = in-low u s b k ey in
          let less : a ≤ℤ b = le-told a b e in omega (arith, ints)

  told-in : (x is_yes is_no : Bool) → (is_yes ≡ true → x ≡ true) → (is_no ≡ true → x ≡ false)
      → IsIn w (Truth x) (bool_range is_yes is_no)
  told-in true true n f g = tt
  told-in false true n f g = absurd (let e = f refl in cc)
  told-in false false true f g = tt
  told-in true false true f g = absurd (let e = g refl in cc)
  told-in x false false f g = tt

  lt-true : (a b : ℤ) → a <ℤ b → int_lt a b ≡ true
  lt-true a b h = grind (arith, ints)

  lt-false : (a b : ℤ) → b ≤ℤ a → int_lt a b ≡ false
  lt-false a b h = grind (arith, ints)

  le-true : (a b : ℤ) → a ≤ℤ b → int_le a b ≡ true
  le-true a b h = grind (arith, ints)

  le-false : (a b : ℤ) → b <ℤ a → int_le a b ≡ false
  le-false a b h = grind (arith, ints)

  eq-true : (a b : ℤ) → a ≤ℤ b → b ≤ℤ a → int_eq a b ≡ true
  eq-true a b h k = let e : a ≡ b = omega (arith, ints) in (Decides-int_eq a b).1 e

  eq-false : (a b : ℤ) → (a ≡ b → ⊥) → int_eq a b ≡ false
  eq-false a b ne = go (int_eq a b) (Decides-int_eq a b).0
    where
      go : (t : Bool) → (t ≡ true → a ≡ b) → t ≡ false
      go true h = absurd (ne (h refl))
      go false h = refl

  equal : (v u : Value) (r s : Range) → IsIn w v r → IsIn w u s
      → (surely_le r s && surely_le s r) ≡ true → int_eq (number_of v) (number_of u) ≡ true
  equal v u r s h k e =
      let t = and_parts (surely_le r s) (surely_le s r) e in
      eq-true (number_of v) (number_of u) (is-le v u r s h k t.0) (is-le u v s r k h t.1)

  unequal : (v u : Value) (r s : Range) → IsIn w v r → IsIn w u s
      → (surely_lt r s || surely_lt s r) ≡ true → int_eq (number_of v) (number_of u) ≡ false
  unequal v u r s h k e = go (surely_lt r s) (surely_lt s r) refl refl e
    where
      go : (x y : Bool) → surely_lt r s ≡ x → surely_lt s r ≡ y → (x || y) ≡ true
          → int_eq (number_of v) (number_of u) ≡ false
      go true y ex ey e =
          let less : number_of v <ℤ number_of u = is-lt v u r s h k ex in
          eq-false (number_of v) (number_of u) (λ same. omega (arith, ints))
      go false true ex ey e =
          let less : number_of u <ℤ number_of v = is-lt u v s r k h ey in
          eq-false (number_of v) (number_of u) (λ same. omega (arith, ints))
      go false false ex ey e = absurd (cc)

  pub of-compared : (c : Comparison) (v u : Value) (r s : Range) → IsIn w v r → IsIn w u s
      → IsIn w (Truth (comparison_holds c (number_of v) (number_of u))) (compare_ranges c r s)
  of-compared Lt v u r s h k =
      told-in _ (surely_lt r s) (surely_le s r)
      (λ e. lt-true (number_of v) (number_of u) (is-lt v u r s h k e))
      (λ e. lt-false (number_of v) (number_of u) (is-le u v s r k h e))
  of-compared Gt v u r s h k =
      told-in _ (surely_lt s r) (surely_le r s)
      (λ e. lt-true (number_of u) (number_of v) (is-lt u v s r k h e))
      (λ e. lt-false (number_of u) (number_of v) (is-le v u r s h k e))
  of-compared Le v u r s h k =
      told-in _ (surely_le r s) (surely_lt s r)
      (λ e. le-true (number_of v) (number_of u) (is-le v u r s h k e))
      (λ e. le-false (number_of v) (number_of u) (is-lt u v s r k h e))
  of-compared Ge v u r s h k =
      told-in _ (surely_le s r) (surely_lt r s)
      (λ e. le-true (number_of u) (number_of v) (is-le u v s r k h e))
      (λ e. le-false (number_of u) (number_of v) (is-lt v u r s h k e))
  of-compared Eq v u r s h k =
      told-in _ (surely_le r s && surely_le s r) (surely_lt r s || surely_lt s r)
      (equal v u r s h k) (unequal v u r s h k)
  of-compared Ne v u r s h k =
      told-in _ (surely_lt r s || surely_lt s r) (surely_le r s && surely_le s r)
      (λ e. ap not (unequal v u r s h k e)) (λ e. ap not (equal v u r s h k e))
