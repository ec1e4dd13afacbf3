-- Walks, step by step.
use Rattle.std.proofs.Common.{◌≡◌, ◌⊎◌, inl, inr, ℕ, zero, suc, ◌+◌, ◌<◌, Bool, true, false, not, ◌&&◌, ◌||◌, List, [], ◌∷◌, ◌++◌, cond, length, get_or, refl, sym, subst, ◌∙◌, arith}
use Rattle.std.specs.Prelude.{◌==◌}
use Rattle.std.specs.List.{list_any}
use Rattle.std.proofs.lemmas.Bool.{and_parts}
use Rattle.bay_diagram.specs.declared.network.Branch.{Branch}
use Rattle.bay_diagram.specs.declared.network.Network.{Network}
use Rattle.bay_diagram.specs.declared.shown.Step.{Step}
use Rattle.bay_diagram.specs.declared.walk.Route.{Route}
use Rattle.bay_diagram.specs.Joined.{relabel}
use Rattle.bay_diagram.specs.Reading.{Reading}
use Rattle.bay_diagram.specs.Shown.{is_step, is_through, is_walk, leads_between, leaves_out, sides_from}
use Rattle.bay_diagram.specs.Network.{is_earthing}
use Rattle.bay_diagram.specs.Walks.{is_free, may_cross, joined_in, label_in, label_next, label_within, leads, may_lead_over}
use Rattle.bay_diagram.proofs.WalkLemmas.{label-more}

-- ---- truth values

no-yes : false ≡ true → ⊥
no-yes h = cc

pub and-true : (a b : Bool) → a ≡ true → b ≡ true → (a && b) ≡ true
and-true true b h g = g
and-true false b h g = absurd (no-yes h)

pub or-left : (a b : Bool) → a ≡ true → (a || b) ≡ true
or-left true b h = refl
or-left false b h = absurd (no-yes h)

pub or-right : (a b : Bool) → b ≡ true → (a || b) ≡ true
or-right true b h = refl
or-right false b h = h

or-parts : (a b : Bool) → (a || b) ≡ true → (a ≡ true) ⊎ (b ≡ true)
or-parts true b h = inl refl
or-parts false b h = inr h

pub same-true : (x : ℕ) → (x == x) ≡ true
same-true x = grind arith

pub same-is : (x y : ℕ) → (x == y) ≡ true → x ≡ y
same-is x y h = grind arith

-- an item of a list has a property
any-at : {X : Type 0} (p : X → Bool) (xs : List X) (i : ℕ) (d : X) → i < length xs
    → p (get_or xs i d) ≡ true → list_any p xs ≡ true
any-at p [] i d h is = absurd (omega (arith, h))
any-at p (x ∷ xs) zero d h is = or-left (p x) (list_any p xs) is
any-at p (x ∷ xs) (suc i) d h is =
    or-right (p x) (list_any p xs) (any-at p xs i d (omega (arith, h)) is)

-- ---- one branch more

relabel-near : (u v x y : ℕ) → relabel u v x ≡ relabel u v y → (x == y) ≡ false
    → (x == u) ≡ true → v ≡ y
relabel-near u v x y h apart near = grind arith

relabel-far : (u v x y : ℕ) → relabel u v x ≡ relabel u v y → (x == y) ≡ false
    → (x == u) ≡ false → x ≡ v
relabel-far u v x y h apart far = grind arith

relabel-back : (u v x y : ℕ) → relabel u v x ≡ relabel u v y → (x == y) ≡ false
    → (x == u) ≡ false → u ≡ y
relabel-back u v x y h apart far = grind arith

differ : (x y : ℕ) → x ≡ y → (x == y) ≡ false → ⊥
differ x y h apart = grind arith

-- how a branch joins two nodes that were apart: it may be led over, and its one node is joined to
-- the one, its other node to the other
record Joins (label : ℕ → ℕ) (over : Bool) (b : Branch) (x y : ℕ) : Type 0 where
  may_conduct : over ≡ true
  near : (label x == label b.one) ≡ true → label b.other ≡ label y
  far : (label x == label b.one) ≡ false → label x ≡ label b.other
  back : (label x == label b.one) ≡ false → label b.one ≡ label y

joins-by : (t : Bool) (label : ℕ → ℕ) (b : Branch) (x y : ℕ)
    → label_next t label b x ≡ label_next t label b y → (label x == label y) ≡ false
    → Joins label t b x y
joins-by true label b x y h apart = record {
  may_conduct = refl;
  near = relabel-near (label b.one) (label b.other) (label x) (label y) h apart;
  far = relabel-far (label b.one) (label b.other) (label x) (label y) h apart;
  back = relabel-back (label b.one) (label b.other) (label x) (label y) h apart;
}
joins-by false label b x y h apart = absurd (differ (label x) (label y) h apart)

module _ (net : Network) (r : Reading) (route : Route) where
  -- the last branch joins two nodes that those before it leave apart
  joined-by-last : (last : ℕ) (d : Branch) → last < length net.branches → (x y : ℕ)
      → label_within net r route (last + 1) x ≡ label_within net r route (last + 1) y
      → (label_within net r route last x == label_within net r route last y) ≡ false
      → Joins (label_within net r route last)
      (may_lead_over net r route (get_or net.branches last d)) (get_or net.branches last d) x y
  joined-by-last last d within x y h apart =
      joins-by (may_lead_over net r route (get_or net.branches last d))
      (label_within net r route last) (get_or net.branches last d) x y
      (label-more (may_lead_over net r route) net.branches last d within
      (label_within net r route last) (λ n. refl) x
      ∙ h
      ∙ sym (label-more (may_lead_over net r route) net.branches last d within
      (label_within net r route last) (λ n. refl) y)) apart

-- ---- steps

between-forth : (b : Branch) → leads_between b b.one b.other ≡ true
between-forth b = rw (same-true b.one, same-true b.other) refl

between-back : (b : Branch) → leads_between b b.other b.one ≡ true
between-back b =
    or-right (b.one == b.other && b.other == b.one) _
    (and-true (b.other == b.other) _ (same-true b.other) (same-true b.one))

module _ (net : Network) (over : Branch → Bool) where
  -- a branch of the network is a step
  step-over : (i : ℕ) (d : Branch) → i < length net.branches
      → over (get_or net.branches i d) ≡ true → (x y : ℕ)
      → leads_between (get_or net.branches i d) x y ≡ true
      → is_step net over x (record { branch = (get_or net.branches i d).number; node = y }) ≡ true
  step-over i d within may_conduct x y leads =
      let b = get_or net.branches i d in
      any-at (λ (c : Branch). c.number == b.number && (over c && leads_between c x y))
      net.branches i d within
      (and-true (b.number == b.number) _ (same-true b.number)
      (and-true (over b) (leads_between b x y) may_conduct leads))

  -- a walk, a step and a walk are a walk
  pub walk-append : (ends : ℕ → Bool) (m : ℕ) (step : Step) (rest : List Step)
      → is_step net over m step ≡ true → is_walk net over ends step.node rest ≡ true
      → (x : ℕ) (steps : List Step) → is_walk net over (λ n. n == m) x steps ≡ true
      → is_walk net over ends x ((steps ++ step ∷ []) ++ rest) ≡ true
  walk-append ends m step rest is goes x [] h =
      and-true (is_step net over x step) _
      (subst (λ (n : ℕ). is_step net over n step ≡ true) (sym (same-is x m h)) is) goes
  walk-append ends m step rest is goes x (first ∷ steps) h =
      let both = and_parts (is_step net over x first) _ h in
      and-true (is_step net over x first) _ both.0
      (walk-append ends m step rest is goes first.node steps both.1)

  -- a walk that ends at a node that fits
  pub walk-ends : (m : ℕ) (ends : ℕ → Bool) → ends m ≡ true → (x : ℕ) (steps : List Step)
      → is_walk net over (λ n. n == m) x steps ≡ true → is_walk net over ends x steps ≡ true
  walk-ends m ends fits x [] h =
      subst (λ (n : ℕ). ends n ≡ true) (sym (same-is x m h)) fits
  walk-ends m ends fits x (step ∷ steps) h =
      let both = and_parts (is_step net over x step) _ h in
      and-true (is_step net over x step) _ both.0
      (walk-ends m ends fits step.node steps both.1)

-- the sides of the last branch: the one is joined to x, the other to y, and it is a step
pub record AreSides (net : Network) (r : Reading) (route : Route) (last : ℕ) (b : Branch) (x y : ℕ)
    (sides : ℕ × ℕ) : Type 0 where
  pub near : label_within net r route last x ≡ label_within net r route last sides.0
  pub far : label_within net r route last sides.1 ≡ label_within net r route last y
  pub step : is_step net (may_lead_over net r route) sides.0
      (record { branch = b.number; node = sides.1 }) ≡ true

module _ (net : Network) (r : Reading) (route : Route) (last : ℕ) (d : Branch)
    (within : last < length net.branches) (x y : ℕ) where
  sides-of : (t : Bool) → (label_within net r route last x
      == label_within net r route last (get_or net.branches last d).one) ≡ t
      → Joins (label_within net r route last)
      (may_lead_over net r route (get_or net.branches last d)) (get_or net.branches last d) x y
      → AreSides net r route last (get_or net.branches last d) x y
      (sides_from t (get_or net.branches last d))
  sides-of true is joins = record {
    near = same-is _ _ is;
    far = joins.near is;
    step = step-over net (may_lead_over net r route) last d within joins.may_conduct _ _
        (between-forth (get_or net.branches last d));
  }
  sides-of false is joins = record {
    near = joins.far is;
    far = joins.back is;
    step = step-over net (may_lead_over net r route) last d within joins.may_conduct _ _
        (between-back (get_or net.branches last d));
  }

  -- by the labels before the last branch
  pub walk-sides : (labels : List ℕ)
      → ((n : ℕ) → label_in labels n ≡ label_within net r route last n)
      → (count : ℕ) → last + 1 ≡ count
      → label_within net r route count x ≡ label_within net r route count y
      → joined_in labels x y ≡ false
      → (items : List Branch) → items ≡ net.branches → (sides : ℕ × ℕ)
      → sides ≡ sides_from (joined_in labels x (get_or items last d).one) (get_or items last d)
      → AreSides net r route last (get_or items last d) x y sides
  walk-sides labels are count is joined apart items same sides are_sides =
      let here = sides-of (joined_in labels x (get_or net.branches last d).one)
      (sym (rw (are x, are (get_or net.branches last d).one) refl))
      (joined-by-last net r route last d within x y
      (subst (λ (n : ℕ). label_within net r route n x ≡ label_within net r route n y) (sym is)
      joined)
      (rw (sym (are x), sym (are y)) apart)) in
      subst (λ (s : ℕ × ℕ). AreSides net r route last (get_or items last d) x y s) (sym are_sides)
      (subst (λ (bs : List Branch). AreSides net r route last (get_or bs last d) x y
      (sides_from (joined_in labels x (get_or bs last d).one) (get_or bs last d))) (sym same) here)

-- ---- over a switch

not-true : (a : Bool) → not a ≡ true → a ≡ false
not-true true h = cc
not-true false h = refl

apart-of : (m n a b : ℕ) → (n == a || n == b) ≡ true → (m == a || m == b) ≡ false
    → (m == n) ≡ false
apart-of m n a b out free = grind arith

-- a walk of the route leads over no branch that it leaves out
pub free-apart : (net : Network) (r : Reading) (route : Route) (n : ℕ) → leaves_out route n ≡ true
    → (b : Branch) → may_lead_over net r route b ≡ true → (b.number == n) ≡ false
free-apart net r route n out b h =
    let free = (and_parts (may_cross r route.over b) (is_free net route b) h).1 in
    let rest = (and_parts (not (is_earthing b.kind)) _ free).1 in
    let kept =
    (and_parts (not (b.number == route.without || b.number == route.also_without)) _ rest).0 in
    apart-of b.number n route.without route.also_without out
    (not-true (b.number == route.without || b.number == route.also_without) kept)

number-apart : (step m n : ℕ) → (m == step) ≡ true → (m == n) ≡ false → (step == n) ≡ false
number-apart step m n here apart = grind arith

module _ (net : Network) (over : Branch → Bool) (s : Branch)
    (apart : (b : Branch) → over b ≡ true → (b.number == s.number) ≡ false) where
  step-apart-in : (x : ℕ) (step : Step) (branches : List Branch)
      → list_any (λ b. b.number == step.branch && (over b && leads_between b x step.node)) branches
      ≡ true
      → (step.branch == s.number) ≡ false
  step-apart-in x step [] h = absurd (no-yes h)
  step-apart-in x step (b ∷ branches) h =
      elim (or-parts (b.number == step.branch && (over b && leads_between b x step.node)) _ h) [
        | inl here ↦
            let both = and_parts (b.number == step.branch) _ here in
            number-apart step.branch b.number s.number both.0
            (apart b (and_parts (over b) _ both.1).0)
        | inr there ↦ step-apart-in x step branches there
      ]

  through-step : (t u v : Bool) → t ≡ false → v ≡ true → cond t u v ≡ true
  through-step true u v out h = absurd (no-yes (sym out))
  through-step false u v out h = h

  through-here : (t u v : Bool) → t ≡ true → u ≡ true → cond t u v ≡ true
  through-here true u v here h = h
  through-here false u v here h = absurd (no-yes here)

  -- a walk to the switch, and what goes on from there
  pub through-append : (a b : ℕ) (goes_on : List Step → Bool) (rest : List Step)
      → goes_on rest ≡ true → (x : ℕ) (steps : List Step)
      → is_walk net over (λ n. n == a) x steps ≡ true
      → is_through net over s a b goes_on x
      ((steps ++ record { branch = s.number; node = b } ∷ []) ++ rest) ≡ true
  through-append a b goes_on rest goes x [] h =
      through-here (s.number == s.number) (x == a && (b == b && goes_on rest)) _
      (same-true s.number)
      (and-true (x == a) _ h (and-true (b == b) (goes_on rest) (same-true b) goes))
  through-append a b goes_on rest goes x (step ∷ steps) h =
      let both = and_parts (is_step net over x step) _ h in
      through-step (step.branch == s.number) _ _ (step-apart-in x step net.branches both.0)
      (and-true (is_step net over x step) _ both.0
      (through-append a b goes_on rest goes step.node steps both.1))
