-- What comes to a label: what two ways have where they meet, and what jumps have brought.
use Rattle.std.proofs.Common.{◌≡◌, ℕ, zero, suc, ◌+◌, ◌<◌, ◌≤◌, Bool, true, false, ◌||◌, cond, List, [], ◌∷◌, length, map, slice_get, slice_set, refl, sym, ap, subst, ◌∙◌, arith, Option, Some, None, inl, inr}
use Rattle.std.specs.Prelude.{◌==◌, is_some, nat_le, nat_lt}
use Rattle.std.proofs.lemmas.Bool.Decides.{nat_tests}
use Rattle.std.proofs.lemmas.Bool.{cases_eq}
use Rattle.std.proofs.lemmas.List.{length-set}
use Rattle.bay_base.specs.declared.types.ElementaryType.{ElementaryType}
use Rattle.il_text.specs.Listing as text
use Rattle.il_image.proofs.KindLemmas.{same-is, same-self}
use Rattle.il_image.proofs.SetLemmas.{set-here, set-elsewhere}
use Rattle.il_check.specs.SourceOperands.{ProgramNames, resolution_of}
use Rattle.il_check.specs.Labelling.{Labelling, Becomes, JumpAgrees, is_named, with_target}
use Rattle.il_check.specs.Rules.{jumps_back, target_of}
use Rattle.il_check.specs.WellTyped.{same_result, join_types, join, no_reach, arrival, arrival_at}
use Rattle.il_check.specs.declared.reach.Reach.{Reach}
use Rattle.il_check.specs.declared.source_operand.Resolved.{Resolved}
use Rattle.il_check.specs.declared.source_operand.Resolved.TheVariants.{Load, Store, Combine, Not, Convert, Jump, Return, Call}
use Rattle.il_check.proofs.FaultlessLemmas.{two, becomes-along, or-true}
use Rattle.il_check.specs.Limits.{most_labels}

-- ---- where ways meet

join-none : (a b : Reach) → a.is_reached ≡ false → join a b ≡ b
join-none a b e = rw e refl

join-first : (a b : Reach) → a.is_reached ≡ true → b.is_reached ≡ false → join a b ≡ a
join-first a b e f = rw (e, f) refl

join-both : (a b : Reach) → a.is_reached ≡ true → b.is_reached ≡ true
    → join a b ≡ record { is_reached = true; kind = join_types a.kind b.kind }
join-both a b e f = rw (e, f) refl

pub join-reached : (a b : Reach) → (join a b).is_reached ≡ a.is_reached || b.is_reached
join-reached a b = elim (two a.is_reached) [
  | inr e ↦ ap (λ (r : Reach). r.is_reached) (join-none a b e)
      ∙ sym (ap (λ (x : Bool). x || b.is_reached) e)
  | inl e ↦ elim (two b.is_reached) [
    | inr f ↦ ap (λ (r : Reach). r.is_reached) (join-first a b e f) ∙ e
        ∙ sym (ap (λ (x : Bool). x || b.is_reached) e)
    | inl f ↦ ap (λ (r : Reach). r.is_reached) (join-both a b e f)
        ∙ sym (ap (λ (x : Bool). x || b.is_reached) e)
  ]
]

same-results : (t u : Option ElementaryType) → same_result t u ≡ true → t ≡ u
same-results None None e = absurd (cc)
same-results None (Some k) e = absurd (cc)
same-results (Some j) None e = absurd (cc)
same-results (Some j) (Some k) e = ap (λ (x : ElementaryType). Some x) (same-is j k e)

join-types-left : (t u : Option ElementaryType) → Becomes t (join_types t u)
join-types-left t u = elim (two (same_result t u)) [
  | inl e ↦ inl (ap (λ (b : Bool). cond b t None) e)
  | inr e ↦ inr (ap (λ (b : Bool). cond b t None) e)
]

join-types-right : (t u : Option ElementaryType) → Becomes u (join_types t u)
join-types-right t u = elim (two (same_result t u)) [
  | inl e ↦ inl (ap (λ (b : Bool). cond b t None) e ∙ same-results t u e)
  | inr e ↦ inr (ap (λ (b : Bool). cond b t None) e)
]

self-same : (t : Option ElementaryType) → same_result t t ≡ false → t ≡ None
self-same None e = refl
self-same (Some k) e = absurd (let h = same-self k in cc)

-- the type that two ways have where they meet is above no other that both become
join-types-least : (t u w : Option ElementaryType) → Becomes t w → Becomes u w
    → Becomes (join_types t u) w
join-types-least t u w (inr e) h = inr e
join-types-least t u w (inl e) (inr f) = inr f
join-types-least t u w (inl e) (inl f) = elim (two (same_result t u)) [
  | inl s ↦ inl (e ∙ sym (ap (λ (b : Bool). cond b t None) s))
  | inr s ↦ (
      let same : t ≡ u = sym e ∙ f in
      let none : t ≡ None =
      self-same t (subst (λ (v : Option ElementaryType). same_result t v ≡ false) (sym same) s)
      in
      inr (e ∙ none))
]

pub join-left : (a b : Reach) → a.is_reached ≡ true → Becomes a.kind (join a b).kind
join-left a b e = elim (two b.is_reached) [
  | inl f ↦ subst (λ (r : Reach). Becomes a.kind r.kind) (sym (join-both a b e f))
      (join-types-left a.kind b.kind)
  | inr f ↦ inl (ap (λ (r : Reach). r.kind) (join-first a b e f))
]

pub join-right : (a b : Reach) → b.is_reached ≡ true → Becomes b.kind (join a b).kind
join-right a b f = elim (two a.is_reached) [
  | inl e ↦ subst (λ (r : Reach). Becomes b.kind r.kind) (sym (join-both a b e f))
      (join-types-right a.kind b.kind)
  | inr e ↦ inl (ap (λ (r : Reach). r.kind) (join-none a b e))
]

pub join-under : (a b : Reach) (w : Option ElementaryType)
    → (a.is_reached ≡ true → Becomes a.kind w)
    → (b.is_reached ≡ true → Becomes b.kind w) → (join a b).is_reached ≡ true
    → Becomes (join a b).kind w
join-under a b w left right reached = elim (two a.is_reached) [
  | inr e ↦ (
      let same = join-none a b e in
      subst (λ (r : Reach). Becomes r.kind w) (sym same)
      (right (ap (λ (r : Reach). r.is_reached) (sym same) ∙ reached)))
  | inl e ↦ elim (two b.is_reached) [
    | inr f ↦ subst (λ (r : Reach). Becomes r.kind w) (sym (join-first a b e f)) (left e)
    | inl f ↦ subst (λ (r : Reach). Becomes r.kind w) (sym (join-both a b e f))
        (join-types-least a.kind b.kind w (left e) (right f))
  ]
]

-- ---- lists

pub there-within : {A : Type 0} (xs : List A) (i : ℕ) (x : A) → slice_get xs i ≡ Some x
    → i < length xs
there-within [] i x e = absurd (cc)
there-within (y ∷ xs) zero x e = omega arith
there-within (y ∷ xs) (suc i) x e = let h = there-within xs i x e in omega arith

pub none-arrived : {A : Type 0} (xs : List A) (n : ℕ)
    → (arrival (slice_get (map (λ x. no_reach) xs) n)).is_reached ≡ false
none-arrived [] zero = refl
none-arrived [] (suc n) = refl
none-arrived (x ∷ xs) zero = refl
none-arrived (x ∷ xs) (suc n) = none-arrived xs n

pub mapped-length : {A : Type 0} (xs : List A) → length (map (λ x. no_reach) xs) ≡ length xs
mapped-length [] = refl
mapped-length (x ∷ xs) = ap suc (mapped-length xs)

pub same-number : (n m : ℕ) → n ≡ m → (n == m) ≡ true
same-number n m e = grind (arith, nat_tests)

pub other-number : (n m : ℕ) → (n ≡ m → ⊥) → (n == m) ≡ false
other-number n m ne = grind (arith, nat_tests)

-- fewer labels than the most are not too many
pub few : (n : ℕ) → n < most_labels → nat_le most_labels n ≡ false
few n h = grind (arith, nat_tests)

pub few-back : (n : ℕ) → nat_le most_labels n ≡ false → n < most_labels
few-back n h = grind (arith, nat_tests)

ahead : (n m : ℕ) → nat_lt m n ≡ false → n ≤ m
ahead n m h = grind (arith, nat_tests)

pub no-less : (n : ℕ) → n ≤ n
no-less n = omega arith

pub less-one : (n m : ℕ) → n + 1 ≤ m → n ≤ m
less-one n m le = omega arith

pub not_before : (n m : ℕ) → n + 1 ≤ m → m ≡ n → ⊥
not_before n m le e = absurd (omega arith)

pub some-if : {A : Type 0} (b : Bool) (x : A) → is_some (cond b (Some x) None) ≡ b
some-if true x = refl
some-if false x = refl

-- ---- labels that are there

-- Labels have numbers below this.
abbrev pub InRange : ProgramNames → ℕ → Type 0
InRange names count = (name : List ℕ) (n : ℕ) → names.label name ≡ Some n → n < count

pub target-in : (names : ProgramNames) (count : ℕ) (a : text.Action) (n : ℕ) → InRange names count
    → target_of (resolution_of names a) ≡ Some n → n < count
target-in names count (text.jump condition name) n range e = range name n e
target-in names count a n range e = absurd (cc)

pub target-ahead : (passed : ℕ) (r : Resolved) (n : ℕ) → target_of r ≡ Some n
    → jumps_back passed r ≡ false → passed ≤ n
target-ahead passed (Jump condition label) n e h =
    ahead passed n (subst (λ (l : Option ℕ). jumps_back passed (Jump condition l) ≡ false) e h)
target-ahead passed r n e h = absurd (cc)

-- ---- what jumps have brought

-- what has come to each label, and how many labels there are
pub record Brought (named : List ℕ) (arrivals : List Reach) (count : ℕ) : Type 0 where
  pub arrived : (n : ℕ) → (arrival (slice_get arrivals n)).is_reached ≡ is_named named n
  pub size : length arrivals ≡ count

-- a jump brings what it knows to its label
pub brings : (target : Option ℕ) (now : Reach) (named : List ℕ) (arrivals : List Reach) (count : ℕ)
    → now.is_reached ≡ true → ((n : ℕ) → target ≡ Some n → n < count)
    → Brought named arrivals count
    → Brought (with_target target named) (arrival_at target now arrivals) count
brings None now named arrivals count reached range b = b
brings (Some m) now named arrivals count reached range b =
    let here = join (arrival (slice_get arrivals m)) now in
    record {
      arrived = λ n. elim (cases_eq n m) [
        | inl e ↦ (
            let there : slice_get (slice_set arrivals m here) n ≡ Some here =
            subst (λ (q : ℕ). slice_get (slice_set arrivals m here) q ≡ Some here) (sym e)
            (set-here arrivals m here (let h = range m refl in let k = b.size in omega arith))
            in
            let join_here : here.is_reached ≡ true =
            join-reached (arrival (slice_get arrivals m)) now
            ∙ ap (λ (x : Bool). (arrival (slice_get arrivals m)).is_reached || x) reached
            ∙ or-true (arrival (slice_get arrivals m)).is_reached in
            ap (λ (o : Option Reach). (arrival o).is_reached) there ∙ join_here
            ∙ sym (ap (λ (x : Bool). x || is_named named n) (same-number m n (sym e))))
        | inr ne ↦ (
            ap (λ (o : Option Reach). (arrival o).is_reached) (set-elsewhere arrivals m n here ne)
            ∙ b.arrived n ∙ sym (ap (λ (x : Bool). x || is_named named n)
            (other-number m n (λ e. ne (sym e)))))
      ];
      size = length-set arrivals m here ∙ b.size;
    }

pub brings-under : (labels : Labelling) (target : Option ℕ) (now : Reach)
    (t : Option ElementaryType)
    (named : List ℕ) (arrivals : List Reach) (count : ℕ) → now.is_reached ≡ true
    → Becomes now.kind t → JumpAgrees labels target t
    → ((n : ℕ) → target ≡ Some n → n < count) → Brought named arrivals count
    → ((n : ℕ) → is_named named n ≡ true → Becomes (arrival (slice_get arrivals n)).kind (labels n))
    → (n : ℕ) → is_named (with_target target named) n ≡ true
    → Becomes (arrival (slice_get (arrival_at target now arrivals) n)).kind (labels n)
brings-under labels None now t named arrivals count reached under jumps range b brought n is =
    brought n is
brings-under labels (Some m) now t named arrivals count reached under jumps range b brought n is =
    let old = arrival (slice_get arrivals m) in
    let here = join old now in
    elim (cases_eq n m) [
      | inl e ↦ (
          let there : slice_get (slice_set arrivals m here) n ≡ Some here =
          subst (λ (q : ℕ). slice_get (slice_set arrivals m here) q ≡ Some here) (sym e)
          (set-here arrivals m here (let h = range m refl in let k = b.size in omega arith)) in
          let join_here : here.is_reached ≡ true =
          join-reached old now ∙ ap (λ (x : Bool). old.is_reached || x) reached
          ∙ or-true old.is_reached in
          let is_so =
          join-under old now (labels m) (λ r. brought m (sym (b.arrived m) ∙ r))
          (λ r. becomes-along now.kind t (labels m) under jumps) join_here in
          subst (λ (o : Option Reach). Becomes (arrival o).kind (labels n)) (sym there)
          (subst (λ (q : ℕ). Becomes here.kind (labels q)) (sym e) is_so))
      | inr ne ↦ (
          let before : is_named named n ≡ true =
          sym (ap (λ (x : Bool). x || is_named named n) (other-number m n (λ e. ne (sym e))))
          ∙ is in
          subst (λ (o : Option Reach). Becomes (arrival o).kind (labels n))
          (sym (set-elsewhere arrivals m n here ne)) (brought n before))
    ]
