-- What calls on the link say of an association, and what an offer says.
use Rattle.std.proofs.Common.{Bool, List, None, Some, [], add-one, ap, append-nil, append_assoc, arith, drop, false, refl, subst, suc, sym, take, take-append-drop, true, zero, ℕ, ◌&&◌, ◌++◌, ◌+◌, ◌==◌, ◌||◌, ◌∙◌, ◌∷◌, ◌≡◌, ◌≢◌}
use Rattle.std.proofs.Math.Bool.{or_assoc}
use Rattle.std.proofs.lemmas.Bool.Decides.{nat_tests}
use Rattle.bay_server_turn.specs.Calls.{Call, Closes, Writes, is_failed}
use Rattle.bay_server_turn.specs.Offers.{OfferOutcome, offer_outcome}
use Rattle.bay_server_turn_laws.specs.Causes.{ends_for, fails_for, has_some}
use Rattle.bay_server_turn_laws.specs.Flows.{read_by_call, read_by_calls, written_by_call, written_by_calls}

-- ---- some calls and then others

pub some-append : {A : Type 0} (f : A → Bool) (xs ys : List A)
    → has_some f (xs ++ ys) ≡ (has_some f xs || has_some f ys)
some-append f [] ys = refl
some-append f (x ∷ xs) ys =
    ap (λ b. f x || b) (some-append f xs ys)
    ∙ sym (or_assoc (f x) (has_some f xs) (has_some f ys))

pub taken-append : (a : ℕ) (xs ys : List Call)
    → written_by_calls a (xs ++ ys) ≡ written_by_calls a xs ++ written_by_calls a ys
taken-append a [] ys = refl
taken-append a (x ∷ xs) ys =
    ap (λ l. written_by_call a x ++ l) (taken-append a xs ys)
    ∙ sym (append_assoc (written_by_call a x) (written_by_calls a xs) (written_by_calls a ys))

pub given-append : (a : ℕ) (xs ys : List Call)
    → read_by_calls a (xs ++ ys) ≡ read_by_calls a xs ++ read_by_calls a ys
given-append a [] ys = refl
given-append a (x ∷ xs) ys =
    ap (λ l. read_by_call a x ++ l) (given-append a xs ys)
    ∙ sym (append_assoc (read_by_call a x) (read_by_calls a xs) (read_by_calls a ys))

pub same-number : (p : ℕ) → (p + 1 == p + 1) ≡ true
same-number p = grind (arith, nat_tests)

pub other-number : (q p : ℕ) → q ≢ p → (q + 1 == p + 1) ≡ false
other-number q p ne = grind (arith, nat_tests)

pub and-no : (b : Bool) → (b && false) ≡ false
and-no true = refl
and-no false = refl

or-no : (b : Bool) → (b || false) ≡ b
or-no true = refl
or-no false = refl

pub and-true : (b : Bool) → (b && true) ≡ b
and-true true = refl
and-true false = refl

-- ---- what calls say

-- of one association: whether one failed for it, whether its end came, and what was taken of it
pub record Say (a : ℕ) (failed over : Bool) (taken : List ℕ) (calls : List Call) : Type 0 where
  pub fails : has_some (fails_for a) calls ≡ failed
  pub ends : has_some (ends_for a) calls ≡ over
  pub takes : written_by_calls a calls ≡ taken

-- nothing of an association
abbrev pub SayNothing : ℕ → List Call → Type 0
SayNothing a calls = Say a false false [] calls

pub both-say : (a : ℕ) (f g y z : Bool) (t u : List ℕ) (xs ys : List Call) → Say a f y t xs
    → Say a g z u ys → Say a (f || g) (y || z) (t ++ u) (xs ++ ys)
both-say a f g y z t u xs ys h k = record {
  fails = some-append (fails_for a) xs ys ∙ ap (λ b. b || has_some (fails_for a) ys) h.fails
      ∙ ap (λ b. f || b) k.fails;
  ends = some-append (ends_for a) xs ys ∙ ap (λ b. b || has_some (ends_for a) ys) h.ends
      ∙ ap (λ b. y || b) k.ends;
  takes = taken-append a xs ys ∙ ap (λ l. l ++ written_by_calls a ys) h.takes
      ∙ ap (λ l. t ++ l) k.takes;
}

-- a closing says nothing
pub closing-says : (a slot : ℕ) (f y : Bool) (t : List ℕ) (calls : List Call) → Say a f y t calls
    → Say a f y t (calls ++ Closes (slot + 1) ∷ [])
closing-says a slot f y t calls h = record {
  fails = some-append (fails_for a) calls (Closes (slot + 1) ∷ [])
      ∙ or-no (has_some (fails_for a) calls) ∙ h.fails;
  ends = some-append (ends_for a) calls (Closes (slot + 1) ∷ [])
      ∙ or-no (has_some (ends_for a) calls) ∙ h.ends;
  takes = taken-append a calls (Closes (slot + 1) ∷ []) ∙ append-nil (written_by_calls a calls)
      ∙ h.takes;
}

-- What the link takes of the queue of an association, or a failure: what is left, and nothing of
-- another.
pub record Offering (slot : ℕ) (queue left : List ℕ) (failed : Bool) (calls : List Call)
    : Type 0 where
  pub taken : List ℕ
  pub own : Say (slot + 1) failed false taken calls
  pub is : taken ++ left ≡ queue
  pub far : (p : ℕ) → slot ≢ p → SayNothing (p + 1) calls
  pub given : (a : ℕ) → read_by_calls a calls ≡ []
  pub blamed : failed ≡ true → has_some is_failed calls ≡ true

-- one write that takes so much
write : (slot n : ℕ) (x : ℕ) (xs left : List ℕ) (failed : Bool) (calls : List Call)
    → Offering slot (drop n (x ∷ xs)) left failed calls
    → Offering slot (x ∷ xs) left failed (Writes (slot + 1) (x ∷ xs) (Some n) ∷ calls)
write slot n x xs left failed calls o =
    let one : Say (slot + 1) false false (take n (x ∷ xs))
    (Writes (slot + 1) (x ∷ xs) (Some n) ∷ []) = record {
      fails = ap (λ b. b || false) (and-no (slot + 1 == slot + 1));
      ends = refl;
      takes = rw (same-number slot) (append-nil (take n (x ∷ xs)));
    } in
    record {
      taken = take n (x ∷ xs) ++ o.taken;
      own = both-say (slot + 1) false failed false false (take n (x ∷ xs)) o.taken
          (Writes (slot + 1) (x ∷ xs) (Some n) ∷ []) calls one o.own;
      is = append_assoc (take n (x ∷ xs)) o.taken left
          ∙ ap (λ l. take n (x ∷ xs) ++ l) o.is ∙ take-append-drop n (x ∷ xs);
      far = λ p ne. both-say (p + 1) false false false false [] []
          (Writes (slot + 1) (x ∷ xs) (Some n) ∷ []) calls
          (record {
            fails = ap (λ b. b || false) (and-no (slot + 1 == p + 1));
            ends = refl;
            takes = rw (other-number slot p ne) refl;
          }) (o.far p ne);
      given = o.given;
      blamed = o.blamed;
    }

-- nothing is called
pub no-call : (slot : ℕ) (queue : List ℕ) → Offering slot queue queue false []
no-call slot queue = record {
  taken = [];
  own = record { fails = refl; ends = refl; takes = refl };
  is = refl;
  far = λ p ne. record { fails = refl; ends = refl; takes = refl };
  given = λ a. refl;
  blamed = λ e. absurd (cc);
}

-- one call fails for an association, and takes and brings nothing
pub one-fails : (slot : ℕ) (queue : List ℕ) (call : Call)
    → ((a : ℕ) → fails_for a call ≡ (slot + 1 == a)) → ((a : ℕ) → ends_for a call ≡ false)
    → ((a : ℕ) → written_by_call a call ≡ []) → ((a : ℕ) → read_by_call a call ≡ [])
    → is_failed call ≡ true
    → Offering slot queue queue true (call ∷ [])
one-fails slot queue call fails ends takes gives is = record {
  taken = [];
  own = record {
    fails = ap (λ b. b || false) (fails (slot + 1) ∙ same-number slot);
    ends = ap (λ b. b || false) (ends (slot + 1));
    takes = ap (λ l. l ++ []) (takes (slot + 1));
  };
  is = refl;
  far = λ p ne. record {
    fails = ap (λ b. b || false) (fails (p + 1) ∙ other-number slot p ne);
    ends = ap (λ b. b || false) (ends (p + 1));
    takes = ap (λ l. l ++ []) (takes (p + 1));
  };
  given = λ a. ap (λ l. l ++ []) (gives a);
  blamed = λ e. ap (λ b. b || false) is;
}

-- an offer
pub offering : (slot : ℕ) (queue takes : List ℕ) (fails : Bool)
    → (let o : OfferOutcome = offer_outcome (slot + 1) queue takes fails in
    Offering slot queue o.left o.failed o.calls)
offering slot [] takes fails = no-call slot []
offering slot (x ∷ xs) [] true =
    one-fails slot (x ∷ xs) (Writes (slot + 1) (x ∷ xs) None) (λ a. and-true (slot + 1 == a))
    (λ a. refl) (λ a. refl) (λ a. refl) refl
offering slot (x ∷ xs) [] false =
    write slot 0 x xs (x ∷ xs) false [] (no-call slot (x ∷ xs))
offering slot (x ∷ xs) (zero ∷ takes) fails =
    write slot 0 x xs (x ∷ xs) false [] (no-call slot (x ∷ xs))
offering slot (x ∷ xs) (suc n ∷ takes) fails =
    let o = offer_outcome (slot + 1) (drop n xs) takes fails in
    write slot (n + 1) x xs o.left o.failed o.calls
    (subst (λ l. Offering slot l o.left o.failed o.calls)
    (ap (λ k. drop k (x ∷ xs)) (sym (add-one n)))
    (offering slot (drop n xs) takes fails))
