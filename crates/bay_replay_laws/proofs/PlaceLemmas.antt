-- The lines of a history, event by event, and whose line stands at a place among them.
use Rattle.std.proofs.Common.{◌≡◌, ℕ, ◌==◌, List, [], ◌∷◌, ◌++◌, ◌⊎◌, inl, inr, refl, ap, ap₂, sym, subst, ◌∙◌, append_assoc, append-nil}
use Rattle.std.proofs.lemmas.List.{append_cancel_right}
use Rattle.std.specs.List.{slice_split}
use Rattle.bay_device.specs.Fresh.{PastEvent}
use Rattle.bay_report.specs.Lines.{step_text}
use Rattle.bay_replay_laws.specs.Printed.{with_ends}
use Rattle.cmd_replay.specs.Runs.{past_text}
use Rattle.bay_replay_laws.proofs.LineLemmas.{Each, ended-append, lines-are}
use Rattle.bay_replay_laws.proofs.PrintLemmas.{IsLineOf}

-- ---- lists that are cut

-- what stands before an item of two joined lists
pub record InFirst {A : Type 0} (us bs xs ys : List A) (x : A) : Type 0 where
  pub rest : List A
  pub first : us ≡ xs ++ x ∷ rest
  pub later : ys ≡ rest ++ bs

pub record InSecond {A : Type 0} (us bs xs ys : List A) (x : A) : Type 0 where
  pub part : List A
  pub before : xs ≡ us ++ part
  pub second : bs ≡ part ++ x ∷ ys

-- equal lists have equal heads
pub heads : {A : Type 0} (a b : A) (xs ys : List A) → a ∷ xs ≡ b ∷ ys → a ≡ b
heads a b xs ys e = cc

-- equal lists have equal tails
pub tails : {A : Type 0} (a b : A) (xs ys : List A) → a ∷ xs ≡ b ∷ ys → xs ≡ ys
tails a b xs ys e = cc

-- an element of two lists together is in the first or in the second
pub cut : {A : Type 0} (us bs xs ys : List A) (x : A) → us ++ bs ≡ xs ++ x ∷ ys
    → InFirst us bs xs ys x ⊎ InSecond us bs xs ys x
cut [] bs xs ys x e = inr (record { part = xs; before = refl; second = e })
cut (u ∷ us) bs [] ys x e =
    inl (record {
      rest = us;
      first = ap (λ y. y ∷ us) (heads u x (us ++ bs) ys e);
      later = sym (tails u x (us ++ bs) ys e);
    })
cut (u ∷ us) bs (y ∷ xs) ys x e =
    let same = heads u y (us ++ bs) (xs ++ x ∷ ys) e in
    elim (cut us bs xs ys x (tails u y (us ++ bs) (xs ++ x ∷ ys) e)) [
      | inl f ↦ inl (record {
        rest = f.rest;
        first = ap₂ (λ z zs. z ∷ zs) same f.first;
        later = f.later;
      })
      | inr s ↦ inr (record {
        part = s.part;
        before = ap₂ (λ z zs. z ∷ zs) (sym same) s.before;
        second = s.second;
      })
    ]

-- ---- lines, event by event

-- the lines of events, the last event first
abbrev pub Groups : Type 0
Groups = List (List (List ℕ))

-- all of them in their order
abbrev pub flat : Groups → List (List ℕ)
flat [] = []
flat (g ∷ gs) = flat gs ++ g

pub record IsGroup (p : PastEvent) (g : List (List ℕ)) : Type 0 where
  pub whole : step_text p.now p.answer p.after ≡ with_ends g
  pub each : Each (λ line. IsLineOf p.now p.answer p.after line) g

-- each group is what is printed for the event at its place
abbrev pub AreGroups : List PastEvent → Groups → Type 0
AreGroups [] [] = Unit {0}
AreGroups [] (g ∷ gs) = ⊥
AreGroups (p ∷ past) [] = ⊥
AreGroups (p ∷ past) (g ∷ gs) = IsGroup p g × AreGroups past gs

pub groups-whole : (past : List PastEvent) (gs : Groups) → AreGroups past gs
    → past_text past ≡ with_ends (flat gs)
groups-whole [] [] are = refl
groups-whole [] (g ∷ gs) are = absurd are
groups-whole (p ∷ past) [] are = absurd are
groups-whole (p ∷ past) (g ∷ gs) are =
    ap₂ (λ s t. s ++ t) (groups-whole past gs are.1) are.0.whole ∙ sym (ended-append (flat gs) g)

flat-append : (xs ys : Groups) → flat (xs ++ ys) ≡ flat ys ++ flat xs
flat-append [] ys = sym (append-nil (flat ys))
flat-append (x ∷ xs) ys =
    ap (λ ls. ls ++ x) (flat-append xs ys) ∙ append_assoc (flat ys) (flat xs) x

-- ---- whose line it is

pub record Placed (past : List PastEvent) (before : List (List ℕ)) (line : List ℕ) : Type 0 where
  pub later : List PastEvent
  pub order : PastEvent
  pub earlier : List PastEvent
  pub split : past ≡ later ++ order ∷ earlier
  pub groups : Groups
  pub are : AreGroups earlier groups
  pub part : List (List ℕ)
  pub rest : List (List ℕ)
  pub own : step_text order.now order.answer order.after ≡ with_ends (part ++ line ∷ rest)
  pub fore : Each (λ l. IsLineOf order.now order.answer order.after l) part
  pub is : IsLineOf order.now order.answer order.after line
  pub behind : before ≡ flat groups ++ part

each-cut : (Is : List ℕ → Type 0) (part : List (List ℕ)) (line : List ℕ) (rest : List (List ℕ))
    → Each Is (part ++ line ∷ rest) → Each Is part × Is line
each-cut Is [] line rest each = (tt, each.0.1)
each-cut Is (x ∷ part) line rest each =
    let there = each-cut Is part line rest each.1 in ((each.0, there.0), there.1)

-- a printed line belongs to one event, with the lines before it
pub placed : (past : List PastEvent) (gs : Groups) (before after : List (List ℕ)) (line : List ℕ)
    → AreGroups past gs → flat gs ≡ before ++ line ∷ after → Placed past before line
placed [] [] [] after line are e = absurd cc
placed [] [] (x ∷ before) after line are e = absurd cc
placed [] (g ∷ gs) before after line are e = absurd are
placed (p ∷ past) [] before after line are e = absurd are
placed (p ∷ past) (g ∷ gs) before after line are e = elim (cut (flat gs) g before after line e) [
  | inl f ↦
      (let there = placed past gs before f.rest line are.1 f.first in
      record {
        later = p ∷ there.later;
        order = there.order;
        earlier = there.earlier;
        split = ap (λ ps. p ∷ ps) there.split;
        groups = there.groups;
        are = there.are;
        part = there.part;
        rest = there.rest;
        own = there.own;
        fore = there.fore;
        is = there.is;
        behind = there.behind;
      })
  | inr s ↦
      (let each =
      each-cut (λ l. IsLineOf p.now p.answer p.after l) s.part line after
      (subst (λ ls. Each (λ l. IsLineOf p.now p.answer p.after l) ls) s.second are.0.each) in
      record {
        later = [];
        order = p;
        earlier = past;
        split = refl;
        groups = gs;
        are = are.1;
        part = s.part;
        rest = after;
        own = are.0.whole ∙ ap with_ends s.second;
        fore = each.0;
        is = each.1;
        behind = s.before;
      })
]

-- ---- the group of one of the events

pub record OneGroup (since : List PastEvent) (q : PastEvent) (earlier : List PastEvent)
    (gs : Groups)
    : Type 0 where
  pub own : List (List ℕ)
  pub is : IsGroup q own
  pub others : Groups
  pub are : AreGroups earlier others
  pub between : Groups
  pub ours : AreGroups since between
  pub split : flat gs ≡ (flat others ++ own) ++ flat between

pub one-group : (since : List PastEvent) (q : PastEvent) (earlier : List PastEvent) (gs : Groups)
    → AreGroups (since ++ q ∷ earlier) gs → OneGroup since q earlier gs
one-group [] q earlier [] are = absurd are
one-group [] q earlier (g ∷ gs) are = record {
  own = g;
  is = are.0;
  others = gs;
  are = are.1;
  between = [];
  ours = tt;
  split = sym (append-nil (flat gs ++ g));
}
one-group (x ∷ since) q earlier [] are = absurd are
one-group (x ∷ since) q earlier (g ∷ gs) are =
    let there = one-group since q earlier gs are.1 in
    record {
      own = there.own;
      is = there.is;
      others = there.others;
      are = there.are;
      between = g ∷ there.between;
      ours = (are.0, there.ours);
      split = ap (λ ls. ls ++ g) there.split
          ∙ append_assoc (flat there.others ++ there.own) (flat there.between) g;
    }

-- Two lists of lines that make one text are the same.
pub same-lines : (Is Are : List ℕ → Type 0) (xs ys : List (List ℕ)) → Each Is xs → Each Are ys
    → with_ends xs ≡ with_ends ys → xs ≡ ys
same-lines Is Are xs ys each all e =
    append_cancel_right xs ys ([] ∷ [])
    (sym (lines-are Is xs each) ∙ ap (slice_split (λ b. b == 10)) e ∙ lines-are Are ys all)
