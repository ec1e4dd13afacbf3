-- What is told of one association, as an entry is added.
use Rattle.std.proofs.Common.{Bool, List, [], ap, cond, false, inl, inr, refl, subst, sym, true, ℕ, ◌&&◌, ◌++◌, ◌+◌, ◌||◌, ◌∙◌, ◌∷◌, ◌≡◌, ◌≢◌, ◌⊎◌}
use Rattle.std.proofs.Math.Bool.{or_assoc}
use Rattle.std.proofs.lemmas.Bool.{cases_eq}
use Rattle.bay_device.specs.declared.event.Event.{Event}
use Rattle.bay_device.specs.declared.event.Why.{Why}
use Rattle.bay_device.specs.declared.event.Why.TheVariants.{Ended, Fault, Memory}
use Rattle.bay_server_turn.specs.AssociationStates.{is_close_reported}
use Rattle.bay_server_turn.specs.Turns.{TurnData, TurnState, after_event, noted_state, close_reported, with_closing}
use Rattle.bay_server_turn.specs.declared.turn_report.CloseReason.{CloseReason}
use Rattle.bay_server_turn.specs.declared.turn_report.CloseReason.TheVariants as closing
use Rattle.bay_server_turn_laws.specs.Causes.{has_some, is_queue_full, reports_close}
use Rattle.bay_server_turn_laws.proofs.CallLemmas.{other-number, same-number}
use Rattle.bay_server_turn_laws.proofs.KeepLemmas.{keep-stepped}

-- ---- tests

pub some-append : {A : Type 0} (f : A → Bool) (xs ys : List A)
    → has_some f (xs ++ ys) ≡ (has_some f xs || has_some f ys)
some-append f [] ys = refl
some-append f (x ∷ xs) ys =
    ap (λ b. f x || b) (some-append f xs ys)
    ∙ sym (or_assoc (f x) (has_some f xs) (has_some f ys))

pub or-none : (b x : Bool) → x ≡ false → b ≡ (b || x)
or-none true x e = refl
or-none false x e = sym e

pub or-true : (b : Bool) → (b || true) ≡ true
or-true true = refl
or-true false = refl

-- ---- one entry more

module _ (is : CloseReason → Bool) (p : ℕ) where
  pub tells-other : (slot : ℕ) (why : CloseReason) (l : List (ℕ × CloseReason)) → slot ≢ p
      → reports_close is (p + 1) (l ++ (slot + 1, why) ∷ []) ≡ reports_close is (p + 1) l
  tells-other slot why l ne =
      some-append _ l ((slot + 1, why) ∷ [])
      ∙ sym (or-none (reports_close is (p + 1) l) _
      (ap (λ b. (b && is why) || false) (other-number slot p ne)))

  pub tells-own : (why : CloseReason) (l : List (ℕ × CloseReason))
      → reports_close is (p + 1) (l ++ (p + 1, why) ∷ []) ≡ (reports_close is (p + 1) l || is why)
  tells-own why l =
      some-append _ l ((p + 1, why) ∷ [])
      ∙ ap (λ b. reports_close is (p + 1) l || b)
      (ap (λ b. (b && is why) || false) (same-number p) ∙ sym (or-none (is why) false refl))

  pub tells-not : (why : CloseReason) (l : List (ℕ × CloseReason)) → is why ≡ false
      → reports_close is (p + 1) (l ++ (p + 1, why) ∷ []) ≡ reports_close is (p + 1) l
  tells-not why l e = tells-own why l ∙ sym (or-none (reports_close is (p + 1) l) (is why) e)

  pub tells-now : (why : CloseReason) (l : List (ℕ × CloseReason)) → is why ≡ true
      → reports_close is (p + 1) (l ++ (p + 1, why) ∷ []) ≡ true
  tells-now why l e =
      tells-own why l ∙ ap (λ b. reports_close is (p + 1) l || b) e
      ∙ or-true (reports_close is (p + 1) l)

-- ---- that a queue was full

module _ (p : ℕ) where
  abbrev FullIn : TurnData → Bool
  FullIn n = reports_close is_queue_full (p + 1) n.closed

  entry-other : (b : Bool) (slot : ℕ) (why : CloseReason) (n : TurnData) → slot ≢ p
      → FullIn (cond b n (record n { closed = n.closed ++ (slot + 1, why) ∷ [] })) ≡ FullIn n
  entry-other true slot why n ne = refl
  entry-other false slot why n ne = tells-other is_queue_full p slot why n.closed ne

  -- of another it is told
  pub told-other : (slot : ℕ) (why : CloseReason) (n : TurnData) → slot ≢ p
      → FullIn (with_closing slot why n) ≡ FullIn n
  told-other slot why n ne = entry-other (is_close_reported (noted_state slot n)) slot why n ne

  entry-own : (b : Bool) (why : CloseReason) (n : TurnData) → is_queue_full why ≡ false
      → FullIn (cond b n (record n { closed = n.closed ++ (p + 1, why) ∷ [] })) ≡ FullIn n
  entry-own true why n e = refl
  entry-own false why n e = tells-not is_queue_full p why n.closed e

  entry-at : (slot : ℕ) (why : CloseReason) (n : TurnData) → is_queue_full why ≡ false
      → FullIn (with_closing slot why n) ≡ FullIn n
  entry-at slot why n e = elim (cases_eq slot p) [
    | inl same ↦ subst (λ q. FullIn (with_closing q why n) ≡ FullIn n) (sym same)
        (entry-own (is_close_reported (noted_state p n)) why n e)
    | inr ne ↦ told-other slot why n ne
  ]

  memory-at : (b : Bool) (slot : ℕ) (n : TurnData)
      → FullIn (cond b n (record n { memory = n.memory ++ (slot + 1) ∷ [] })) ≡ FullIn n
  memory-at true slot n = refl
  memory-at false slot n = refl

  -- the device closed one
  pub why-not_full : (slot : ℕ) (why : Why) (n : TurnData)
      → FullIn (close_reported slot why n) ≡ FullIn n
  why-not_full slot Ended n = entry-at slot closing.Ended n refl
  why-not_full slot (Fault code) n = entry-at slot (closing.Fault code) n refl
  why-not_full slot Memory n = memory-at (is_close_reported (noted_state slot n)) slot n

  -- it was told before, or this is the reason
  pub full-by : (why : CloseReason) (n : TurnData) → FullIn (with_closing p why n) ≡ true
      → (is_queue_full why ≡ true) ⊎ (FullIn n ≡ true)
  full-by why n e = by-why (is_queue_full why) refl
    where
      by-why : (b : Bool) → is_queue_full why ≡ b → (is_queue_full why ≡ true) ⊎ (FullIn n ≡ true)
      by-why true is = inl is
      by-why false is = inr (sym (entry-at p why n is) ∙ e)

-- an event tells nothing by itself
pub stepped-closed : (now : ℕ) (event : Event) (s : TurnState)
    → (after_event now event s).noted.closed ≡ s.noted.closed
stepped-closed now event s =
    keep-stepped (λ (n : TurnData). n.closed ≡ s.noted.closed) (λ slot n e. e) now event s refl
