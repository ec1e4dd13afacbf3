-- What a turn tells of one association has its cause.
use Rattle.std.proofs.Common.{Bool, List, None, Option, Some, [], ap, append-nil, cond, false, get_or, inl, inr, length, not, refl, set, subst, sym, true, ℕ, ◌&&◌, ◌++◌, ◌+◌, ◌<◌, ◌==◌, ◌||◌, ◌∙◌, ◌∷◌, ◌≡◌, ◌≢◌, ◌⊎◌}
use Rattle.std.proofs.lemmas.Bool.{cases_eq}
use Rattle.std.proofs.lemmas.List.{get_or-set_other, get_or-set_same, length-set}
use Rattle.bay_device.specs.declared.event.Why.{Why}
use Rattle.bay_device.specs.declared.event.Why.TheVariants.{Ended, Fault, Memory}
use Rattle.bay_server_turn.specs.AssociationStates.{after_full, is_draining, is_close_reported}
use Rattle.bay_server_turn.specs.Turns.{TurnData, mark_closed, start_closing, start_closing_if_closed, nothing_noted, noted_state, with_state}
use Rattle.bay_server_turn.specs.declared.association_state.AssociationState.{AssociationState}
use Rattle.bay_server_turn.specs.declared.association_state.AssociationState.TheVariants.{Full, Closed, Draining, DrainingFull, Steady}
use Rattle.bay_server_turn.specs.declared.turn_report.CloseReason.{CloseReason}
use Rattle.bay_server_turn.specs.declared.turn_report.CloseReason.TheVariants as closing
use Rattle.bay_server_turn_laws.specs.Causes.{IsCaused, has_reason, has_some, is_end, is_ended, is_fault, is_memory, is_queue_full, is_refusal, has_number, reason_in, reports_close}
use Rattle.bay_server_turn_laws.specs.Faults.{is_link_failed}
use Rattle.bay_server_turn_laws.proofs.CallLemmas.{and-no, other-number, same-number}
use Rattle.bay_server_turn_laws.proofs.ClosingLemmas.{IsOwn}
use Rattle.bay_server_turn_laws.proofs.KeepLemmas.{IsFilled, IsNoted}
use Rattle.bay_server_turn_laws.proofs.StandingLemmas.{all-steady}
use Rattle.bay_server_turn_laws.proofs.TellingLemmas.{filled-told, leaving-told}
use Rattle.bay_server_turn_laws.proofs.TellsLemmas.{or-none, or-true, some-append, tells-not, tells-now, tells-other, tells-own}

-- ---- tests

neither : (b c : Bool) → b ≡ false → c ≡ false → (b || c) ≡ true → ⊥
neither true c e f g = cc
neither false true e f g = cc
neither false false e f g = cc

-- what is true where another is true
pub rises : (b c : Bool) → (c ≡ false → b ≡ false) → b ≡ true → c ≡ true
rises b true h e = refl
rises b false h e = absurd (let f : true ≡ false = sym e ∙ h refl in cc)

-- ---- how an association stands, and what is known of it

-- It was not told of, and nothing closed it.
record IsOpen (x y : Bool) (z : List Why) (a : ℕ) (n : TurnData) : Type 0 where
  failed : x ≡ false
  over : y ≡ false
  closed : z ≡ []
  full : reports_close is_queue_full a n.closed ≡ false

-- that a call of it failed, that its client ended, and for which reasons the device closed it
pub record Knows (p : ℕ) (failed over : Bool) (reasons : List Why) (n : TurnData) : Type 0 where
  pub sized : length n.states ≡ 8
  pub caused : IsCaused failed over reasons (p + 1) n.closed n.memory
  untold : is_close_reported (noted_state p n) ≡ false → IsOpen failed over reasons (p + 1) n
  leaving : is_draining (noted_state p n) ≡ true → (over || has_reason reasons) ≡ true
  -- what was told of and nothing else closed had no room
  pub reported : is_close_reported (noted_state p n) ≡ true → failed ≡ false → over ≡ false
      → reasons ≡ []
      → reports_close is_queue_full (p + 1) n.closed ≡ true

pub knows-as : (p : ℕ) (a b : Bool) (c : List Why) (d e : Bool) (f : List Why) (n : TurnData)
    → a ≡ d
    → b ≡ e → c ≡ f → Knows p a b c n → Knows p d e f n
knows-as p a b c d e f n x y z k =
    subst (λ v. Knows p v e f n) x (subst (λ v. Knows p a v f n) y
    (subst (λ v. Knows p a b v n) z k))

-- ---- what does not concern it

pub record StillIn (p : ℕ) (n : TurnData) (states : List AssociationState)
    (closed : List (ℕ × CloseReason))
    (memory : List ℕ) : Type 0 where
  pub sized : length states ≡ 8
  pub reported : is_close_reported (get_or states p Steady) ≡ false
      → is_close_reported (noted_state p n) ≡ false
  leaving : is_draining (get_or states p Steady) ≡ true → is_draining (noted_state p n) ≡ true
  same : (is : CloseReason → Bool) → is closing.QueueFull ≡ false
      → reports_close is (p + 1) closed ≡ reports_close is (p + 1) n.closed
  out_of_memory : has_number (p + 1) memory ≡ has_number (p + 1) n.memory
  full : reports_close is_queue_full (p + 1) closed ≡ true
      → (reports_close is_queue_full (p + 1) n.closed ≡ true)
      ⊎ ((is_close_reported (noted_state p n) ≡ false)
      × (is_close_reported (get_or states p Steady) ≡ true))
  closes : is_close_reported (get_or states p Steady) ≡ true
      → (is_close_reported (noted_state p n) ≡ true)
      ⊎ (reports_close is_queue_full (p + 1) closed ≡ true)
  more : reports_close is_queue_full (p + 1) n.closed ≡ true
      → reports_close is_queue_full (p + 1) closed ≡ true

-- so is what is noted later
abbrev pub Still : ℕ → TurnData → TurnData → Type 0
Still p n m = StillIn p n m.states m.closed m.memory

pub Still-refl : (p : ℕ) (n : TurnData) → length n.states ≡ 8 → Still p n n
Still-refl p n sized = record {
  sized = sized;
  reported = λ e. e;
  leaving = λ e. e;
  same = λ is e. refl;
  out_of_memory = refl;
  full = λ e. inl e;
  closes = λ e. inl e;
  more = λ e. e;
}

still-open : (p : ℕ) (a b : Bool) (c : List Why) (n m : TurnData) → Still p n m
    → (is_close_reported (noted_state p m) ≡ false) → IsOpen a b c (p + 1) n
    → IsOpen a b c (p + 1) m
still-open p a b c n m s e o = record {
  failed = o.failed;
  over = o.over;
  closed = o.closed;
  full = by-full (reports_close is_queue_full (p + 1) m.closed) refl;
}
  where
    by-full : (v : Bool) → reports_close is_queue_full (p + 1) m.closed ≡ v → v ≡ false
    by-full false is = refl
    by-full true is = absurd (elim (s.full is) [
      | inl t ↦ let f : true ≡ false = sym t ∙ o.full in cc
      | inr u ↦ let f : true ≡ false = sym u.1 ∙ e in cc
    ])

pub still-knows : (p : ℕ) (a b : Bool) (c : List Why) (n m : TurnData) → Still p n m
    → Knows p a b c n
    → Knows p a b c m
still-knows p a b c n m s k = record {
  sized = s.sized;
  caused = record {
    ended = s.same is_ended refl ∙ k.caused.ended;
    fault = λ code. s.same (is_fault code) refl ∙ k.caused.fault code;
    out_of_memory = s.out_of_memory ∙ k.caused.out_of_memory;
    link = s.same is_link_failed refl ∙ k.caused.link;
    queue = λ e. elim (s.full e) [
      | inl t ↦ k.caused.queue t
      | inr u ↦ let o = k.untold u.0 in (o.failed, o.over, o.closed)
    ];
  };
  untold = λ e. still-open p a b c n m s e (k.untold (s.reported e));
  leaving = λ e. k.leaving (s.leaving e);
  reported = λ e f g i. elim (s.closes e) [ inl t ↦ s.more (k.reported t f g i) | inr t ↦ t ];
}

module _ (p : ℕ) (low : p < 8) where
  at-own : (l : List AssociationState) (x : AssociationState) → length l ≡ 8
      → get_or (set l p x) p Steady ≡ x
  at-own l x sized =
      get_or-set_same l p x Steady (subst (λ (k : ℕ). p < k) (sym sized) low)

  at-other : (l : List AssociationState) (x : AssociationState) (slot : ℕ) → slot ≢ p
      → get_or (set l slot x) p Steady ≡ get_or l p Steady
  at-other l x slot ne = get_or-set_other l slot p x Steady (λ e. ne (sym e))

  module _ (n : TurnData) where
    -- it stands otherwise, and not more open
    stands-own : (x : AssociationState) (m : TurnData)
        → (is_close_reported x ≡ false → is_close_reported (noted_state p m) ≡ false)
        → (is_draining x ≡ true → is_draining (noted_state p m) ≡ true)
        → (is_close_reported x ≡ true → is_close_reported (noted_state p m) ≡ true) → Still p n m
        → Still p n (with_state p x m)
    stands-own x m untold leaving reported s =
        let here = at-own m.states x s.sized in
        let back : is_close_reported (noted_state p (with_state p x m)) ≡ false
        → is_close_reported (noted_state p m) ≡ false =
        λ e. untold (sym (ap is_close_reported here) ∙ e) in
        record {
          sized = length-set m.states p x ∙ s.sized;
          reported = λ e. s.reported (back e);
          leaving = λ e. s.leaving (leaving (sym (ap is_draining here) ∙ e));
          same = s.same;
          out_of_memory = s.out_of_memory;
          full = λ e. elim (s.full e) [
            | inl t ↦ inl t
            | inr u ↦ inr (u.0, rises _ _ back u.1)
          ];
          closes = λ e. s.closes (reported (sym (ap is_close_reported here) ∙ e));
          more = s.more;
        }

    -- another stands otherwise, and what is told of it
    stands-other : (x : AssociationState) (slot : ℕ) (l : List (ℕ × CloseReason)) (memory : List ℕ)
        (m : TurnData)
        → slot ≢ p
        → ((is : CloseReason → Bool)
        → reports_close is (p + 1) l ≡ reports_close is (p + 1) m.closed)
        → has_number (p + 1) memory ≡ has_number (p + 1) m.memory → Still p n m
        → Still p n (with_state slot x (record m { closed = l; memory = memory }))
    stands-other x slot l memory m ne reported out_of_memory s =
        let there = at-other m.states x slot ne in
        record {
          sized = length-set m.states slot x ∙ s.sized;
          reported = λ e. s.reported (sym (ap is_close_reported there) ∙ e);
          leaving = λ e. s.leaving (sym (ap is_draining there) ∙ e);
          same = λ is e. reported is ∙ s.same is e;
          out_of_memory = out_of_memory ∙ s.out_of_memory;
          full = λ e. elim (s.full (sym (reported is_queue_full) ∙ e)) [
            | inl t ↦ inl t
            | inr u ↦ inr (u.0, ap is_close_reported there ∙ u.1)
          ];
          closes = λ e. elim (s.closes (sym (ap is_close_reported there) ∙ e)) [
            | inl t ↦ inl t
            | inr t ↦ inr (reported is_queue_full ∙ t)
          ];
          more = λ e. reported is_queue_full ∙ s.more e;
        }

    told-other : (b : Bool) (x : AssociationState) (slot : ℕ) (why : CloseReason) (m : TurnData)
        → slot ≢ p
        → Still p n m
        → Still p n (with_state slot x
        (cond b m (record m { closed = m.closed ++ (slot + 1, why) ∷ [] })))
    told-other true x slot why m ne s =
        stands-other x slot m.closed m.memory m ne (λ is. refl) refl s
    told-other false x slot why m ne s =
        stands-other x slot (m.closed ++ (slot + 1, why) ∷ []) m.memory m ne
        (λ is. tells-other is p slot why m.closed ne) refl s

    memory-other : (b : Bool) (x : AssociationState) (slot : ℕ) (m : TurnData) → slot ≢ p
        → Still p n m
        → Still p n (with_state slot x
        (cond b m (record m { memory = m.memory ++ (slot + 1) ∷ [] })))
    memory-other true x slot m ne s =
        stands-other x slot m.closed m.memory m ne (λ is. refl) refl s
    memory-other false x slot m ne s =
        stands-other x slot m.closed (m.memory ++ (slot + 1) ∷ []) m ne (λ is. refl)
        (some-append _ m.memory ((slot + 1) ∷ [])
        ∙ sym (or-none (has_number (p + 1) m.memory) _
        (ap (λ b. b || false) (other-number slot p ne)))) s

    leaves-other : (slot : ℕ) (why : Why) (m : TurnData) → slot ≢ p → Still p n m
        → Still p n (start_closing slot why m)
    leaves-other slot Ended m ne s =
        told-other (is_close_reported (noted_state slot m)) Draining slot closing.Ended m ne s
    leaves-other slot (Fault code) m ne s =
        told-other (is_close_reported (noted_state slot m)) Draining slot (closing.Fault code) m ne
        s
    leaves-other slot Memory m ne s =
        memory-other (is_close_reported (noted_state slot m)) Draining slot m ne s

    -- its queue is full
    overflows-own : (b : Bool) (m : TurnData) → is_close_reported (noted_state p m) ≡ b
        → Still p n m
        → Still p n (with_state p Closed
        (cond b m (record m { closed = m.closed ++ (p + 1, closing.QueueFull) ∷ [] })))
    overflows-own true m e s =
        stands-own Closed m (λ f. absurd (cc)) (λ f. absurd (cc)) (λ f. e) s
    overflows-own false m e s =
        let here = at-own m.states Closed s.sized in
        record {
          sized = length-set m.states p Closed ∙ s.sized;
          reported = λ f. absurd (let g : true ≡ false = sym (ap is_close_reported here) ∙ f in cc);
          leaving = λ f. absurd (let g : false ≡ true = sym (ap is_draining here) ∙ f in cc);
          same = λ is f. tells-not is p closing.QueueFull m.closed f ∙ s.same is f;
          out_of_memory = s.out_of_memory;
          full = λ f. inr (s.reported e, ap is_close_reported here);
          closes = λ f. inr (tells-now is_queue_full p closing.QueueFull m.closed refl);
          more = λ f. tells-now is_queue_full p closing.QueueFull m.closed refl;
        }

    overflows-at : (slot : ℕ) (m : TurnData) → Still p n m
        → Still p n (mark_closed slot closing.QueueFull m)
    overflows-at slot m s = elim (cases_eq slot p) [
      | inl e ↦ subst (λ q. Still p n (mark_closed q closing.QueueFull m)) (sym e)
          (overflows-own (is_close_reported (noted_state p m)) m refl s)
      | inr ne ↦ told-other (is_close_reported (noted_state slot m)) Closed slot closing.QueueFull m
          ne
          s
    ]

    fills-at : (slot : ℕ) (m : TurnData) → Still p n m
        → Still p n (with_state slot (after_full (noted_state slot m)) m)
    fills-at slot m s = elim (cases_eq slot p) [
      | inl e ↦ subst (λ q. Still p n (with_state q (after_full (noted_state q m)) m)) (sym e)
          (stands-own (after_full (noted_state p m)) m
          (λ f. sym (filled-told (noted_state p m)) ∙ f)
          (λ f. sym (filled-leaving (noted_state p m)) ∙ f)
          (λ f. sym (filled-told (noted_state p m)) ∙ f) s)
      | inr ne ↦ stands-other (after_full (noted_state slot m)) slot m.closed m.memory m ne
          (λ is. refl) refl s
    ]
      where
        filled-leaving : (x : AssociationState) → is_draining (after_full x) ≡ is_draining x
        filled-leaving Steady = refl
        filled-leaving Full = refl
        filled-leaving Draining = refl
        filled-leaving DrainingFull = refl
        filled-leaving Closed = refl

    parts_at : (slot : ℕ) (m : TurnData) → is_draining (noted_state slot m) ≡ true → Still p n m
        → Still p n (with_state slot Closed m)
    parts_at slot m is s = elim (cases_eq slot p) [
      | inl e ↦ subst (λ q. Still p n (with_state q Closed m)) (sym e)
          (stands-own Closed m (λ f. absurd (cc)) (λ f. absurd (cc))
          (λ f. leaving-told (noted_state p m)
          (ap (λ q. is_draining (noted_state q m)) (sym e) ∙ is)) s)
      | inr ne ↦ stands-other Closed slot m.closed m.memory m ne (λ is. refl) refl s
    ]

    -- no other's closing concerns it
    pub still-kept : IsNoted 8 (λ slot. slot ≢ p) (Still p n)
    still-kept = record {
      fills = λ slot m sized s. fills-at slot m s;
      leaving = λ slot why m sized small ne s. leaves-other slot why m ne s;
      going = λ slot why m sized small ne s.
          told-other (is_close_reported (noted_state slot m)) Closed slot why m ne s;
      overflows = λ slot m sized small s. overflows-at slot m s;
      parts = λ slot m sized is s. parts_at slot m is s;
      orders = λ commands decisions m s. s;
      refuses = λ code m s. s;
    }

  -- ---- what closes it

  is_gone : (n : TurnData) (x : AssociationState) (l : List (ℕ × CloseReason)) (memory : List ℕ)
      → length n.states ≡ 8
      → noted_state p (with_state p x (record n { closed = l; memory = memory })) ≡ x
  is_gone n x l memory sized = at-own n.states x sized

  -- a reason that the device or the client gives
  left-as : (x y : Bool) (z : List Why) (over : Bool) (reasons : List Why) (n : TurnData)
      (l : List (ℕ × CloseReason)) (memory : List ℕ)
      → is_close_reported (noted_state p n) ≡ false → Knows p x y z n
      → reports_close is_link_failed (p + 1) l ≡ reports_close is_link_failed (p + 1) n.closed
      → reports_close is_queue_full (p + 1) l ≡ reports_close is_queue_full (p + 1) n.closed
      → reports_close is_ended (p + 1) l ≡ (over || has_some is_end reasons)
      → ((code : ℕ) → reports_close (is_fault code) (p + 1) l ≡ has_some (is_refusal code) reasons)
      → has_number (p + 1) memory ≡ has_some is_memory reasons → (over || has_reason reasons) ≡ true
      → Knows p x over reasons (with_state p Draining (record n { closed = l; memory = memory }))
  left-as x y z over reasons n l memory e k link queue ended fault out_of_memory some =
      let o = k.untold e in
      let now-told = ap is_close_reported (is_gone n Draining l memory k.sized) in
      record {
        sized = length-set n.states p Draining ∙ k.sized;
        caused = record {
          ended = ended;
          fault = fault;
          out_of_memory = out_of_memory;
          link = link ∙ k.caused.link ∙ ap (λ b. b && not (y || has_reason z)) o.failed
              ∙ sym (ap (λ b. b && not (over || has_reason reasons)) o.failed);
          queue = λ f. absurd (let g : true ≡ false = sym f ∙ queue ∙ o.full in cc);
        };
        untold = λ f. absurd (let g : true ≡ false = sym now-told ∙ f in cc);
        leaving = λ f. some;
        reported = λ f g i j. absurd (neither over (has_reason reasons) i (ap has_reason j) some);
      }

  told-as : (b : Bool) (x y : Bool) (z : List Why) (over : Bool) (reasons : List Why)
      (why : CloseReason)
      (n : TurnData) → is_close_reported (noted_state p n) ≡ false → b ≡ false → Knows p x y z n
      → is_link_failed why ≡ false → is_queue_full why ≡ false
      → (reports_close is_ended (p + 1) n.closed || is_ended why)
      ≡ (over || has_some is_end reasons)
      → ((code : ℕ) → (reports_close (is_fault code) (p + 1) n.closed || is_fault code why)
      ≡ has_some (is_refusal code) reasons)
      → has_number (p + 1) n.memory ≡ has_some is_memory reasons
      → (over || has_reason reasons) ≡ true
      → Knows p x over reasons (with_state p Draining
      (cond b n (record n { closed = n.closed ++ (p + 1, why) ∷ [] })))
  told-as true x y z over reasons why n e is k link queue ended fault out_of_memory some =
      absurd (cc)
  told-as false x y z over reasons why n e is k link queue ended fault out_of_memory some =
      left-as x y z over reasons n (n.closed ++ (p + 1, why) ∷ []) n.memory e k
      (tells-not is_link_failed p why n.closed link)
      (tells-not is_queue_full p why n.closed queue)
      (tells-own is_ended p why n.closed ∙ ended)
      (λ code. tells-own (is_fault code) p why n.closed ∙ fault code) out_of_memory some

  memory-as : (b : Bool) (x y : Bool) (z reasons : List Why) (n : TurnData)
      → is_close_reported (noted_state p n) ≡ false → b ≡ false → Knows p x y z n
      → has_some is_end z ≡ has_some is_end reasons
      → ((code : ℕ) → has_some (is_refusal code) z ≡ has_some (is_refusal code) reasons)
      → has_some is_memory reasons ≡ true → (y || has_reason reasons) ≡ true
      → Knows p x y reasons (with_state p Draining
      (cond b n (record n { memory = n.memory ++ (p + 1) ∷ [] })))
  memory-as true x y z reasons n e is k ended fault out_of_memory some = absurd (cc)
  memory-as false x y z reasons n e is k ended fault out_of_memory some =
      left-as x y z y reasons n n.closed (n.memory ++ (p + 1) ∷ []) e k refl refl
      (k.caused.ended ∙ ap (λ b. y || b) ended) (λ code. k.caused.fault code ∙ fault code)
      (some-append _ n.memory ((p + 1) ∷ [])
      ∙ ap (λ b. has_number (p + 1) n.memory || (b || false)) (same-number p)
      ∙ or-true (has_number (p + 1) n.memory) ∙ sym out_of_memory) some

  -- its client ended
  pub ended-knows : (x y : Bool) (z : List Why) (n : TurnData)
      → is_close_reported (noted_state p n) ≡ false → Knows p x y z n
      → Knows p x (y || true) z (start_closing p Ended n)
  ended-knows x y z n e k =
      told-as (is_close_reported (noted_state p n)) x y z (y || true) z closing.Ended n e e k refl
      refl
      (or-true _ ∙ sym (ap (λ b. b || has_some is_end z) (or-true y)))
      (λ code. sym (or-none _ false refl) ∙ k.caused.fault code) k.caused.out_of_memory
      (ap (λ b. b || has_reason z) (or-true y))

  -- one reason more
  one-more : (is : Why → Bool) (z : List Why) (why : Why)
      → has_some is (z ++ why ∷ []) ≡ (has_some is z || is why)
  one-more is z why =
      some-append is z (why ∷ []) ∙ ap (λ b. has_some is z || b) (sym (or-none (is why) false refl))

  none-more : (is : Why → Bool) (z : List Why) (why : Why) → is why ≡ false
      → has_some is z ≡ has_some is (z ++ why ∷ [])
  none-more is z why e = or-none (has_some is z) (is why) e ∙ sym (one-more is z why)

  has-more : (y : Bool) (z : List Why) (why : Why) → (y || has_reason (z ++ why ∷ [])) ≡ true
  has-more y [] why = or-true y
  has-more y (v ∷ z) why = or-true y

  -- the device closed it
  closed-knows : (x y : Bool) (z : List Why) (why : Why) (n : TurnData)
      → is_close_reported (noted_state p n) ≡ false → Knows p x y z n
      → Knows p x y (z ++ why ∷ []) (start_closing p why n)
  closed-knows x y z Ended n e k =
      told-as (is_close_reported (noted_state p n)) x y z y (z ++ Ended ∷ []) closing.Ended n e e k
      refl refl
      (or-true _ ∙ sym (ap (λ b. y || b) (one-more is_end z Ended ∙ or-true _) ∙ or-true y))
      (λ code. ap (λ b. b || false) (k.caused.fault code)
      ∙ sym (one-more (is_refusal code) z Ended))
      (k.caused.out_of_memory ∙ none-more is_memory z Ended refl) (has-more y z Ended)
  closed-knows x y z (Fault number) n e k =
      told-as (is_close_reported (noted_state p n)) x y z y (z ++ Fault number ∷ [])
      (closing.Fault number) n
      e e k refl refl
      (sym (or-none _ false refl) ∙ k.caused.ended
      ∙ ap (λ b. y || b) (none-more is_end z (Fault number) refl))
      (λ code. ap (λ b. b || (number == code)) (k.caused.fault code)
      ∙ sym (one-more (is_refusal code) z (Fault number)))
      (k.caused.out_of_memory ∙ none-more is_memory z (Fault number) refl)
      (has-more y z (Fault number))
  closed-knows x y z Memory n e k =
      memory-as (is_close_reported (noted_state p n)) x y z (z ++ Memory ∷ []) n e e k
      (none-more is_end z Memory refl) (λ code. none-more (is_refusal code) z Memory refl)
      (one-more is_memory z Memory ∙ or-true _) (has-more y z Memory)

  pub left-knows : (x y : Bool) (z : List Why) (o : Option (ℕ × Why)) (n : TurnData)
      → is_close_reported (noted_state p n) ≡ false → IsOwn (p + 1) o → Knows p x y z n
      → Knows p x y (z ++ reason_in (p + 1) o) (start_closing_if_closed p o n)
  left-knows x y z None n e own k =
      knows-as p x y z x y (z ++ []) n refl refl (sym (append-nil z)) k
  left-knows x y z (Some c) n e own k =
      knows-as p x y (z ++ c.1 ∷ []) x y (z ++ reason_in (p + 1) (Some c)) (start_closing p c.1 n)
      refl
      refl (ap (λ b. z ++ cond b (c.1 ∷ []) [])
      (sym (ap (λ a. a == p + 1) own ∙ same-number p))) (closed-knows x y z c.1 n e k)

  -- a call of it failed
  failed-as : (b x y : Bool) (z : List Why) (n : TurnData)
      → is_close_reported (noted_state p n) ≡ false → b ≡ false → Knows p x y z n
      → Knows p (x || true) y z (with_state p Closed
      (cond b n (record n { closed = n.closed ++ (p + 1, closing.LinkFailed) ∷ [] })))
  failed-as true x y z n e is k = absurd (cc)
  failed-as false x y z n e is k =
      let o = k.untold e in
      let l = n.closed ++ (p + 1, closing.LinkFailed) ∷ [] in
      let here = is_gone n Closed l n.memory k.sized in
      record {
        sized = length-set n.states p Closed ∙ k.sized;
        caused = record {
          ended = tells-not is_ended p closing.LinkFailed n.closed refl ∙ k.caused.ended;
          fault = λ code. tells-not (is_fault code) p closing.LinkFailed n.closed refl
              ∙ k.caused.fault code;
          out_of_memory = k.caused.out_of_memory;
          link = tells-now is_link_failed p closing.LinkFailed n.closed refl
              ∙ sym (ap (λ b. b && not (y || has_reason z)) (or-true x)
              ∙ ap (λ b. true && not (b || has_reason z)) o.over
              ∙ ap (λ r. true && not (false || has_reason r)) o.closed);
          queue = λ f. absurd (let g : true ≡ false =
              sym f ∙ tells-not is_queue_full p closing.LinkFailed n.closed refl ∙ o.full in cc);
        };
        untold = λ f. absurd (let g : true ≡ false = sym (ap is_close_reported here) ∙ f in cc);
        leaving = λ f. absurd (let g : false ≡ true = sym (ap is_draining here) ∙ f in cc);
        reported = λ f g i j. absurd (let no : true ≡ false = sym (or-true x) ∙ g in cc);
      }

  pub failed-knows : (x y : Bool) (z : List Why) (n : TurnData)
      → is_close_reported (noted_state p n) ≡ false → Knows p x y z n
      → Knows p (x || true) y z (mark_closed p closing.LinkFailed n)
  failed-knows x y z n e k = failed-as (is_close_reported (noted_state p n)) x y z n e e k

  -- what is left for it is offered once more, and it is gone
  pub parted-knows : (x y : Bool) (z : List Why) (more : Bool) (n : TurnData)
      → is_draining (noted_state p n) ≡ true → Knows p x y z n
      → Knows p (x || more) y z (with_state p Closed n)
  parted-knows x y z more n e k =
      let some = k.leaving e in
      let here = is_gone n Closed n.closed n.memory k.sized in
      record {
        sized = length-set n.states p Closed ∙ k.sized;
        caused = record {
          link = k.caused.link ∙ ap (λ b. x && not b) some ∙ and-no x
              ∙ sym (ap (λ b. (x || more) && not b) some ∙ and-no (x || more));
          ended = k.caused.ended;
          fault = k.caused.fault;
          out_of_memory = k.caused.out_of_memory;
          queue = λ f. absurd (let q = k.caused.queue f in
              let g : true ≡ false =
              sym some ∙ ap (λ b. b || has_reason z) q.1 ∙ ap (λ r. false || has_reason r) q.2 in
              cc);
        };
        untold = λ f. absurd (let g : true ≡ false = sym (ap is_close_reported here) ∙ f in cc);
        leaving = λ f. absurd (let g : false ≡ true = sym (ap is_draining here) ∙ f in cc);
        reported = λ f g i j. absurd (neither y (has_reason z) i (ap has_reason j) some);
      }

  -- it was not told of, and this is known of it
  pub record Ready (x y : Bool) (z : List Why) (n : TurnData) : Type 0 where
    pub untold : is_close_reported (noted_state p n) ≡ false
    pub knows : Knows p x y z n

  pub ready-filled : (x y : Bool) (z : List Why) → IsFilled (Ready x y z)
  ready-filled x y z slot n r = record {
    untold = elim (cases_eq slot p) [
      | inl e ↦ subst
          (λ q. is_close_reported (noted_state p (with_state q (after_full (noted_state q n)) n))
          ≡ false)
          (sym e)
          (ap is_close_reported (at-own n.states (after_full (noted_state p n)) r.knows.sized)
          ∙ filled-told (noted_state p n) ∙ r.untold)
      | inr ne ↦ ap is_close_reported
          (at-other n.states (after_full (noted_state slot n)) slot ne)
          ∙ r.untold
    ];
    knows = still-knows p x y z n (with_state slot (after_full (noted_state slot n)) n)
        (fills-at n slot n (Still-refl p n r.knows.sized)) r.knows;
  }

-- nothing is known of it as a turn begins
pub nothing-known : (p : ℕ) → p < 8 → Knows p false false [] nothing_noted
nothing-known p low = record {
  sized = refl;
  caused = record {
    ended = refl;
    fault = λ code. refl;
    out_of_memory = refl;
    link = refl;
    queue = λ e. absurd (cc);
  };
  untold = λ e. record { failed = refl; over = refl; closed = refl; full = refl };
  leaving = λ e. absurd (let f : false ≡ true = sym (ap is_draining (all-steady p)) ∙ e in cc);
  reported = λ e f g i. absurd
      (let no : false ≡ true = sym (ap is_close_reported (all-steady p)) ∙ e in cc);
}
