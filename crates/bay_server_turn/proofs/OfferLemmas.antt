-- Offering octets to a link.
use Rattle.std.proofs.Common.{◌≡◌, ℕ, zero, suc, ◌+◌, ◌<◌, ◌≤◌, ◌≢◌, Bool, true, false, Some, None, if◌then◌else◌, List, [], ◌∷◌, ◌++◌, length, drop, refl, ap, sym, ◌∙◌, subst, arith, append_assoc, append-nil, add-one}
use Rattle.std.proofs.lemmas.List.{drop_all, drop-drop}
use Rattle.bay_server_turn.specs.Calls.{Call, Writes, MakesCalls}
use Rattle.bay_server_turn.specs.Offers.{OfferOutcome, offer_outcome, last_write, after_call, after_calls}
use Rattle.bay_server_turn.specs.Served.{Offers, OffersSoFar}
use Rattle.bay_server_turn.proofs.TalkLemmas.{Talks-one, Talks-append}

after_calls-twice : (xs ys : List Call) (o : OfferOutcome)
    → after_calls xs (after_calls ys o) ≡ after_calls (xs ++ ys) o
after_calls-twice xs ys o =
    let with_calls : List Call → OfferOutcome =
    λ l. record { left = o.left; failed = o.failed; calls = l } in
    ap with_calls (sym (append_assoc xs ys o.calls))

-- a write that takes something
offered-more : (a : ℕ) (xs : List ℕ) (n : ℕ) (later : List ℕ) (fails : Bool) → 0 < length xs → n ≢ 0
    → offer_outcome a xs (n ∷ later) fails
    ≡ after_calls (Writes a xs (Some n) ∷ []) (offer_outcome a (drop n xs) later fails)
offered-more a [] n later fails h p = absurd (omega arith)
offered-more a (x ∷ xs) zero later fails h p = absurd (p refl)
offered-more a (x ∷ xs) (suc n) later fails h p =
    ap (λ k. after_call (Writes a (x ∷ xs) (Some k)) (offer_outcome a (drop n xs) later fails))
    (add-one n)

-- the last one
offered-last : (a : ℕ) (xs : List ℕ) (fails : Bool) → 0 < length xs
    → offer_outcome a xs [] fails ≡ last_write a xs fails
offered-last a [] fails h = absurd (omega arith)
offered-last a (x ∷ xs) fails h = refl

module _ {L : Type 0} (step : L → Call → L → Type 0) where
  pub Offering-none : (l : L) (a : ℕ) (octets : List ℕ) → OffersSoFar step l l a octets 0
  Offering-none l a octets =
      record { takes = []; calls = []; makes = refl; continues = λ later fails. refl }

  pub Offering-more : (old mid new : L) (a : ℕ) (octets : List ℕ) (done n : ℕ) (given : List ℕ)
      → OffersSoFar step old mid a octets done
      → given ≡ drop done octets → 0 < length (drop done octets) → n ≢ 0
      → step mid (Writes a given (Some n)) new
      → OffersSoFar step old new a octets (done + n)
  Offering-more old mid new a octets done n given so_far e h p t =
      let write = Writes a (drop done octets) (Some n) in
      let s : step mid write new = subst (λ l. step mid (Writes a l (Some n)) new) e t in
      record {
        takes = so_far.takes ++ n ∷ [];
        calls = so_far.calls ++ write ∷ [];
        makes = Talks-append step old mid new so_far.calls (write ∷ []) so_far.makes
            (Talks-one step mid write new s);
        continues = λ later fails.
            ap (λ l. offer_outcome a octets l fails) (append_assoc so_far.takes (n ∷ []) later)
            ∙ so_far.continues (n ∷ later) fails
            ∙ ap (after_calls so_far.calls) (offered-more a (drop done octets) n later fails h p)
            ∙ after_calls-twice so_far.calls (write ∷ [])
            (offer_outcome a (drop n (drop done octets)) later fails)
            ∙ ap (λ l. after_calls (so_far.calls ++ write ∷ []) (offer_outcome a l later fails))
            (drop-drop n done octets);
      }

  -- all was taken
  pub Offers-all : (old new : L) (a : ℕ) (octets : List ℕ) (done : ℕ)
      → OffersSoFar step old new a octets done → length octets ≤ done
      → Offers step old new a octets done false
  Offers-all old new a octets done so_far h =
      let none : drop done octets ≡ [] = drop_all done octets h in
      let whole : offer_outcome a octets (so_far.takes ++ []) false
      ≡ after_calls so_far.calls (offer_outcome a [] [] false) =
      so_far.continues [] false
      ∙ ap (λ l. after_calls so_far.calls (offer_outcome a l [] false)) none in
      record {
        takes = so_far.takes ++ [];
        fails = false;
        makes = subst (λ (o : OfferOutcome). MakesCalls step old o.calls new) (sym whole)
            (subst (λ l. MakesCalls step old l new) (sym (append-nil so_far.calls)) so_far.makes);
        left = ap (λ (o : OfferOutcome). o.left) whole ∙ sym none;
        failed_is = ap (λ (o : OfferOutcome). o.failed) whole;
      }

  -- the last write took nothing, or failed
  pub Offers-last : (old mid new : L) (a : ℕ) (octets : List ℕ) (done : ℕ) (fails : Bool)
      → OffersSoFar step old mid a octets done
      → 0 < length (drop done octets)
      → step mid (Writes a (drop done octets) (if fails then None else Some 0)) new
      → Offers step old new a octets done fails
  Offers-last old mid new a octets done fails so_far h s =
      let write = Writes a (drop done octets) (if fails then None else Some 0) in
      let whole : offer_outcome a octets (so_far.takes ++ []) fails
      ≡ after_calls so_far.calls (last_write a (drop done octets) fails) =
      so_far.continues [] fails ∙ ap (after_calls so_far.calls)
      (offered-last a (drop done octets) fails h) in
      record {
        takes = so_far.takes ++ [];
        fails = fails;
        makes = subst (λ (o : OfferOutcome). MakesCalls step old o.calls new) (sym whole)
            (Talks-append step old mid new so_far.calls (write ∷ []) so_far.makes
            (Talks-one step mid write new s));
        left = ap (λ (o : OfferOutcome). o.left) whole;
        failed_is = ap (λ (o : OfferOutcome). o.failed) whole;
      }

  pub Offers-stopped : (old mid new : L) (a : ℕ) (octets : List ℕ) (done n : ℕ) (given : List ℕ)
      → OffersSoFar step old mid a octets done
      → given ≡ drop done octets → 0 < length (drop done octets) → n ≡ 0
      → step mid (Writes a given (Some n)) new → Offers step old new a octets done false
  Offers-stopped old mid new a octets done n given so_far e h z s =
      Offers-last old mid new a octets done false so_far h
      (subst (λ l. step mid (Writes a l (Some 0)) new) e
      (subst (λ m. step mid (Writes a given (Some m)) new) z s))

  pub Offers-failed : (old mid new : L) (a : ℕ) (octets : List ℕ) (done : ℕ) (given : List ℕ)
      → OffersSoFar step old mid a octets done
      → given ≡ drop done octets → 0 < length (drop done octets)
      → step mid (Writes a given None) new → Offers step old new a octets done true
  Offers-failed old mid new a octets done given so_far e h s =
      Offers-last old mid new a octets done true so_far h
      (subst (λ l. step mid (Writes a l None) new) e s)
