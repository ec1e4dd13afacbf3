-- What is without a fault: an instruction, and an entry with all that stands in it.
use Rattle.std.proofs.Common.{◌≡◌, ℕ, zero, suc, ◌-◌, ◌<◌, Bool, true, false, not, ◌&&◌, ◌||◌, cond, List, [], ◌∷◌, ◌++◌, refl, sym, ap, subst, ◌∙◌, arith, Option, Some, None, ◌⊎◌, inl, inr}
use Rattle.std.proofs.lemmas.Bool.{not-false, and_right}
use Rattle.std.specs.Prelude.{◌==◌, is_none, option_map}
use Rattle.std.proofs.lemmas.Bool.Decides.{nat_tests}
use Rattle.bay_base.specs.declared.types.ElementaryType.{ElementaryType}
use Rattle.bay_base.specs.declared.types.ElementaryType.TheVariants as elementary
use Rattle.il_text.specs.Listing as text
use Rattle.il_text.specs.declared.program.Operator.{Operator}
use Rattle.il_text.specs.declared.program.Condition.TheVariants.{Always, IfTrue, IfFalse}
use Rattle.il_check.specs.Faults.{fault_if}
use Rattle.il_check.specs.SourceOperands.{ProgramNames, resolution_of}
use Rattle.il_check.specs.Labelling.{Becomes, IsRight, IsCombined, IsRightEntry, AreRightEntries}
use Rattle.il_check.specs.Rules.{is_wrong, is_unset, type_after, is_valid_on, uses_result, any_type, combines_unset, type_of_result}
use Rattle.il_check.specs.WellTyped.{type_after_entry, type_after_entries, instruction_faults, entry_faults, entries_faults}
use Rattle.il_check.specs.declared.source_operand.Resolved.{Resolved}
use Rattle.il_check.specs.declared.source_operand.Resolved.TheVariants.{Load, Store, Combine, Not, Convert, Jump, Return, Call}
use Rattle.il_check.specs.declared.fault.CheckFault.{CheckFault}
use Rattle.il_check.specs.declared.fault.CheckFault.TheVariants.{TooMany}

-- ---- lists of faults that are empty

-- a truth is TRUE or FALSE
pub two : (b : Bool) → (b ≡ true) ⊎ (b ≡ false)
two true = inl refl
two false = inr refl

pub both-none : {A : Type 0} (xs ys : List A) → xs ++ ys ≡ [] → (xs ≡ []) × (ys ≡ [])
both-none [] ys e = (refl, e)
both-none (x ∷ xs) ys e = absurd (cc)

pub none-both : {A : Type 0} (xs ys : List A) → xs ≡ [] → ys ≡ [] → xs ++ ys ≡ []
none-both xs ys e f = ap (λ l. l ++ ys) e ∙ f

pub if-none : (b : Bool) (f : CheckFault) → fault_if b f ≡ [] → b ≡ false
if-none true f e = absurd (cc)
if-none false f e = refl

pub none-if : (b : Bool) (f : CheckFault) → b ≡ false → fault_if b f ≡ []
none-if b f e = ap (λ c. fault_if c f) e

pub and-false : (a b : Bool) → a ≡ true → a && b ≡ false → b ≡ false
and-false true b e f = f
and-false false b e f = absurd (cc)

-- ---- one instruction

pub right-from : (is_reached : Bool) (passed line : ℕ) (r : Resolved) (t : Option ElementaryType)
    → instruction_faults is_reached passed line r t ≡ [] → (is_reached ≡ true) × IsRight passed r t
right-from is_reached passed line r t e =
    let halves = both-none _ _ e in
    let names = both-none _ _ halves.0 in
    let wrong = both-none _ _ names.1 in
    let unset = both-none _ _ wrong.1 in
    let labels = both-none _ _ halves.1 in
    let reach = both-none _ _ labels.1 in
    let writes = both-none _ _ reach.1 in
    let reached = not-false is_reached (if-none _ _ reach.0) in (
      reached,
      record {
        named = if-none _ _ names.0;
        allowed = and-false is_reached (is_wrong r t) reached (if-none _ _ wrong.0);
        set = and-false is_reached (is_unset r t) reached (if-none _ _ unset.0);
        forward = if-none _ _ unset.1;
        labelled = if-none _ _ labels.0;
        writable = if-none _ _ writes.0;
        nonzero = if-none _ _ writes.1;
      },
    )

pub right-to : (is_reached : Bool) (passed line : ℕ) (r : Resolved) (t : Option ElementaryType)
    → is_reached ≡ true → IsRight passed r t → instruction_faults is_reached passed line r t ≡ []
right-to is_reached passed line r t reached ok =
    none-both _ _
    (none-both _ _ (none-if _ _ ok.named)
    (none-both _ _ (none-if _ _ (and_right is_reached _ ok.allowed))
    (none-both _ _ (none-if _ _ (and_right is_reached _ ok.set)) (none-if _ _ ok.forward))))
    (none-both _ _ (none-if _ _ ok.labelled)
    (none-both _ _ (none-if _ _ (ap not reached))
    (none-both _ _ (none-if _ _ ok.writable) (none-if _ _ ok.nonzero))))

-- ---- an entry

pub no-zero : (n : ℕ) → (suc n == 0) ≡ false
no-zero n = grind (arith, nat_tests)

pub within : (room : ℕ) (line : ℕ) (fs : List CheckFault)
    → cond (room == 0) (TooMany line ∷ []) fs ≡ []
    → (0 < room) × (fs ≡ [])
within zero line fs e = absurd (cc)
within (suc room) line fs e =
    (omega arith, sym (ap (λ (b : Bool). cond b (TooMany line ∷ []) fs) (no-zero room)) ∙ e)

pub from-within : (room : ℕ) (line : ℕ) (fs : List CheckFault) → 0 < room → fs ≡ []
    → cond (room == 0) (TooMany line ∷ []) fs ≡ []
from-within zero line fs some e = absurd (omega arith)
from-within (suc room) line fs some e =
    ap (λ (b : Bool). cond b (TooMany line ∷ []) fs) (no-zero room) ∙ e

mutual
  pub entry-from : (names : ProgramNames) (room : ℕ) (is_reached : Bool) (passed : ℕ)
      (e : text.Entry)
      (t : Option ElementaryType) → entry_faults names room is_reached passed e t ≡ []
      → IsRightEntry names room passed e t
  entry-from names room is_reached passed (text.label line name) t e = tt
  entry-from names room is_reached passed (text.action line a) t e =
      (right-from is_reached passed line (resolution_of names a) t e).1
  entry-from names room is_reached passed (text.block line operator negated items end) t e =
      let opened = both-none _ _ e in
      let deep = within room line _ opened.1 in
      let inner = both-none _ _ deep.1 in
      let opening = both-none _ _ opened.0 in
      let wrong = both-none _ _ inner.1 in
      let unset = both-none _ _ wrong.1 in
      let reached = not-false is_reached (if-none _ _ opening.0) in (
        deep.0,
        entries-from names (room - 1) is_reached passed items None inner.0,
        record {
          nonzero = if-none _ _ opening.1;
          allowed = and-false is_reached _ reached (if-none _ _ wrong.0);
          set = and-false is_reached _ reached (if-none _ _ unset.0);
        },
      )

  pub entries-from : (names : ProgramNames) (room : ℕ) (is_reached : Bool) (passed : ℕ)
      (es : text.Entries)
      (t : Option ElementaryType) → entries_faults names room is_reached passed es t ≡ []
      → AreRightEntries names room passed es t
  entries-from names room is_reached passed text.no_entries t e = tt
  entries-from names room is_reached passed (text.entry x es) t e =
      let h = both-none _ _ e in (
        entry-from names room is_reached passed x t h.0,
        entries-from names room is_reached passed es (type_after_entry names x t) h.1,
      )

mutual
  pub entry-to : (names : ProgramNames) (room : ℕ) (is_reached : Bool) (passed : ℕ) (e : text.Entry)
      (t : Option ElementaryType) → is_reached ≡ true → IsRightEntry names room passed e t
      → entry_faults names room is_reached passed e t ≡ []
  entry-to names room is_reached passed (text.label line name) t r ok = refl
  entry-to names room is_reached passed (text.action line a) t r ok =
      right-to is_reached passed line (resolution_of names a) t r ok
  entry-to names room is_reached passed (text.block line operator negated items end) t r ok =
      none-both _ _
      (none-both _ _ (none-if _ _ (ap not r)) (none-if _ _ ok.2.nonzero))
      (from-within room line _ ok.0
      (none-both _ _ (entries-to names (room - 1) is_reached passed items None r ok.1)
      (none-both _ _ (none-if _ _ (and_right is_reached _ ok.2.allowed))
      (none-both _ _ (none-if _ _ (and_right is_reached _ ok.2.set))
      (none-if _ _ (ap not r))))))

  pub entries-to : (names : ProgramNames) (room : ℕ) (is_reached : Bool) (passed : ℕ)
      (es : text.Entries)
      (t : Option ElementaryType) → is_reached ≡ true → AreRightEntries names room passed es t
      → entries_faults names room is_reached passed es t ≡ []
  entries-to names room is_reached passed text.no_entries t r ok = refl
  entries-to names room is_reached passed (text.entry x es) t r ok =
      none-both _ _ (entry-to names room is_reached passed x t r ok.0)
      (entries-to names room is_reached passed es (type_after_entry names x t) r ok.1)

-- the opening parenthesis is reached, or an instruction is
pub entry-reached : (names : ProgramNames) (room : ℕ) (is_reached : Bool) (passed line : ℕ)
    (operator : Operator) (negated : Bool) (items : text.Entries) (end : ℕ)
    (t : Option ElementaryType)
    → entry_faults names room is_reached passed (text.block line operator negated items end) t ≡ []
    → is_reached ≡ true
entry-reached names room is_reached passed line operator negated items end t e =
    not-false is_reached (if-none _ _ (both-none _ _ (both-none _ _ e).0).0)

-- ---- a result that is unset, in the place of one with a type

pub becomes-along : (t u v : Option ElementaryType) → Becomes t u → Becomes u v → Becomes t v
becomes-along t u v (inl e) (inl f) = inl (f ∙ e)
becomes-along t u v (inl e) (inr f) = inr f
becomes-along t u v (inr e) (inl f) = inr (f ∙ e)
becomes-along t u v (inr e) (inr f) = inr f

pub becomes-under : (f : ElementaryType → ElementaryType) (t u : Option ElementaryType)
    → Becomes t u
    → Becomes (option_map f t) (option_map f u)
becomes-under f t u (inl e) = inl (ap (option_map f) e)
becomes-under f t u (inr e) = inr (ap (option_map f) e)

-- an instruction that does not use the result is right on each, or on none
pub same-for-all : (r : Resolved) (k : ElementaryType) → uses_result r ≡ false
    → is_valid_on r k ≡ is_valid_on r elementary.Bool
same-for-all (Load negated given) k e = refl
same-for-all (Store how target) k e = absurd (cc)
same-for-all (Combine operator negated given is_nonzero) k e = absurd (cc)
same-for-all Not k e = absurd (cc)
same-for-all (Convert conversion) k e = absurd (cc)
same-for-all (Jump Always label) k e = refl
same-for-all (Jump IfTrue label) k e = absurd (cc)
same-for-all (Jump IfFalse label) k e = absurd (cc)
same-for-all (Return Always) k e = refl
same-for-all (Return IfTrue) k e = absurd (cc)
same-for-all (Return IfFalse) k e = absurd (cc)
same-for-all (Call called arguments) k e = refl

pub any_of : (a b c d e : Bool) → b ≡ a → c ≡ a → d ≡ a → e ≡ a → (((a || b) || c) || d) || e ≡ a
any_of true b c d e p q r s = refl
any_of false b c d e p q r s = rw (p, q, r, s) refl

pub right-typed : (r : Resolved) (t u : Option ElementaryType) → uses_result r ≡ false
    → is_wrong r None ≡ false → is_wrong r t ≡ false
right-typed r None u e ok = ok
right-typed r (Some k) u e ok =
    let all : any_type (is_valid_on r) ≡ is_valid_on r elementary.Bool =
    any_of (is_valid_on r elementary.Bool) (is_valid_on r elementary.Int)
    (is_valid_on r elementary.Dint)
    (is_valid_on r elementary.Lint) (is_valid_on r elementary.Time)
    (same-for-all r elementary.Int e) (same-for-all r elementary.Dint e)
    (same-for-all r elementary.Lint e) (same-for-all r elementary.Time e) in
    let some : any_type (is_valid_on r) ≡ true = not-false (any_type (is_valid_on r)) ok in
    ap not (same-for-all r k e ∙ sym all ∙ some)

pub unset-unused : (r : Resolved) → is_unset r None ≡ false → uses_result r ≡ false
unset-unused r e = elim (two (uses_result r)) [
  | inl h ↦ absurd (let k : true ≡ false = sym (rw h refl) ∙ e in cc)
  | inr h ↦ h
]

pub right-under : (passed : ℕ) (r : Resolved) (t u : Option ElementaryType) → Becomes t u
    → IsRight passed r u → IsRight passed r t
right-under passed r t u (inl e) ok = subst (IsRight passed r) e ok
right-under passed r t u (inr e) ok =
    let none : IsRight passed r None = subst (IsRight passed r) e ok in
    let unused = unset-unused r none.set in
    record {
      named = ok.named;
      allowed = right-typed r t u unused none.allowed;
      set = ap (λ (b : Bool). b && is_none t) unused;
      forward = ok.forward;
      labelled = ok.labelled;
      writable = ok.writable;
      nonzero = ok.nonzero;
    }

pub after-under : (r : Resolved) (t u : Option ElementaryType) → Becomes t u
    → Becomes (type_after r t) (type_after r u)
after-under (Load negated given) t u b = inl refl
after-under (Store how target) t u b = b
after-under (Combine operator negated given is_nonzero) t u b =
    becomes-under (type_of_result operator) t u b
after-under Not t u b = b
after-under (Convert conversion) t u b = inl refl
after-under (Jump condition label) t u b = b
after-under (Return condition) t u b = b
after-under (Call called arguments) t u b = inl refl

pub or-true : (b : Bool) → b || true ≡ true
or-true true = refl
or-true false = refl

pub combined-under : (operator : Operator) (negated : Bool) (inner t u : Option ElementaryType)
    → Becomes t u → IsCombined operator negated inner u → IsCombined operator negated inner t
combined-under operator negated inner t u (inl e) ok =
    subst (IsCombined operator negated inner) e ok
combined-under operator negated inner t u (inr e) ok =
    let set : combines_unset inner None ≡ false =
    subst (λ (v : Option ElementaryType). combines_unset inner v ≡ false) e ok.set in
    absurd (let k : true ≡ false = sym (or-true (is_none inner)) ∙ set in cc)

pub entry-under : (names : ProgramNames) (room passed : ℕ) (e : text.Entry)
    (t u : Option ElementaryType)
    → Becomes t u → IsRightEntry names room passed e u → IsRightEntry names room passed e t
entry-under names room passed (text.label line name) t u b ok = tt
entry-under names room passed (text.action line a) t u b ok =
    right-under passed (resolution_of names a) t u b ok
entry-under names room passed (text.block line operator negated items end) t u b ok =
    (ok.0, ok.1, combined-under operator negated (type_after_entries names items None) t u b ok.2)
