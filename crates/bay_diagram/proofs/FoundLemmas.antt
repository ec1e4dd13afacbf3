-- What is found: the ends of walks, and the walks that show a hazard.
use Rattle.std.proofs.Common.{◌≡◌, ℕ, Bool, true, false, not, ◌&&◌, ◌||◌, List, [], ◌∷◌, cond, length, refl, sym, subst, ◌∙◌, arith, Option, None, Some, find}
use Rattle.std.specs.Prelude.{◌==◌, filter}
use Rattle.std.specs.List.{list_any}
use Rattle.std.proofs.lemmas.Bool.{and_parts}
use Rattle.std.proofs.lemmas.List.{take_all}
use Rattle.bay_diagram.specs.declared.hazard.Target.{Target}
use Rattle.bay_diagram.specs.declared.network.Branch.{Branch}
use Rattle.bay_diagram.specs.declared.network.Network.{Network}
use Rattle.bay_diagram.specs.declared.network.Node.{Node}
use Rattle.bay_diagram.specs.declared.walk.Avoid.TheVariants as avoid
use Rattle.bay_diagram.specs.declared.walk.Over.TheVariants.{Gapless, Inseparable}
use Rattle.bay_diagram.specs.declared.walk.Route.{Route}
use Rattle.bay_diagram.specs.Hazards.{earths, is_target, reaches, reaches_earth, without}
use Rattle.bay_diagram.specs.Joined.{label_of}
use Rattle.bay_diagram.specs.Network.{is_earthing}
use Rattle.bay_diagram.specs.Reading.{Reading}
use Rattle.bay_diagram.specs.Shown.{IsEndOf, IsJoined, IsTargetOf, IsUnearthable, ends_at_earth}
use Rattle.bay_diagram.specs.Walks.{joined_in, label_within, leads, may_lead_over}
use Rattle.bay_diagram.proofs.JoinedLemmas.{labels-join}
use Rattle.bay_diagram.proofs.PathLemmas.{and-true, or-left, or-right, same-is, same-true}

-- ---- the first item that passes a test

some-is : {X : Type 0} (x y : X) → Some x ≡ Some y → x ≡ y
some-is x y h = cc

none-some : {X : Type 0} (x : X) → None ≡ Some x → ⊥
none-some x h = cc

some-none : {X : Type 0} (x : X) → Some x ≡ None → ⊥
some-none x h = cc

found-first : {X : Type 0} (p q : X → Bool) (y x : X) (more : Option X) (rest : Bool) (t : Bool)
    → p y ≡ t → cond t (Some y) more ≡ Some x → (p x ≡ true → q x ≡ true)
    → (more ≡ Some x → rest ≡ true) → (q y || rest) ≡ true
found-first p q y x more rest true e h passes tail =
    or-left (q y) rest (subst (λ z. p z ≡ true → q z ≡ true) (sym (some-is y x h)) passes e)
found-first p q y x more rest false e h passes tail = or-right (q y) rest (tail h)

-- the first item passes the test, and is an item
pub find-any : {X : Type 0} (p q : X → Bool) (xs : List X) (x : X) → find p xs ≡ Some x
    → (p x ≡ true → q x ≡ true) → list_any q xs ≡ true
find-any p q [] x h passes = absurd (none-some x h)
find-any p q (y ∷ xs) x h passes =
    found-first p q y x (find p xs) (list_any q xs) (p y) refl h passes
    (λ tail. find-any p q xs x tail passes)

first-passes : {X : Type 0} (p : X → Bool) (y x : X) (more : Option X) (t : Bool)
    → p y ≡ t → cond t (Some y) more ≡ Some x → (more ≡ Some x → p x ≡ true) → p x ≡ true
first-passes p y x more true e h tail = subst (λ z. p z ≡ true) (some-is y x h) e
first-passes p y x more false e h tail = tail h

pub find-passes : {X : Type 0} (p : X → Bool) (xs : List X) (x : X) → find p xs ≡ Some x
    → p x ≡ true
find-passes p [] x h = absurd (none-some x h)
find-passes p (y ∷ xs) x h =
    first-passes p y x (find p xs) (p y) refl h (λ tail. find-passes p xs x tail)

none-first : {X : Type 0} (y : X) (more : Option X) (rest t : Bool)
    → cond t (Some y) more ≡ None → (more ≡ None → rest ≡ false) → (t || rest) ≡ false
none-first y more rest true h tail = absurd (some-none y h)
none-first y more rest false h tail = tail h

pub find-none : {X : Type 0} (p : X → Bool) (xs : List X) → find p xs ≡ None
    → list_any p xs ≡ false
find-none p [] h = refl
find-none p (y ∷ xs) h =
    none-first y (find p xs) (list_any p xs) (p y) h (λ tail. find-none p xs tail)

-- ---- walks lead both ways

turned : (x y : ℕ) → (x == y) ≡ true → (y == x) ≡ true
turned x y h = grind arith

module _ (net : Network) (r : Reading) (route : Route) where
  leads-back : (a b : ℕ) → leads net r route a b ≡ true → leads net r route b a ≡ true
  leads-back a b h =
      let branches = filter (may_lead_over net r route) net.branches in
      sym (labels-join branches b a)
      ∙ turned (label_of branches a) (label_of branches b) (labels-join branches a b ∙ h)

  joined-ways : (a b : ℕ) → leads net r route a b ≡ true → IsJoined net r route a b
  joined-ways a b h = record { there = h; back = leads-back a b h }

  pub joined-itself : (a : ℕ) → IsJoined net r route a a
  joined-itself a =
      let branches = filter (may_lead_over net r route) net.branches in
      let h : leads net r route a a ≡ true =
      sym (labels-join branches a a) ∙ same-true (label_of branches a) in
      record { there = h; back = h }

  -- the labels of all branches
  pub leads-labels : (a b : ℕ) → leads net r route a b ≡ true
      → label_within net r route (length net.branches) a
      ≡ label_within net r route (length net.branches) b
  leads-labels a b h =
      rw (take_all (length net.branches) net.branches (omega arith))
      (same-is _ _ (labels-join (filter (may_lead_over net r route) net.branches) a b ∙ h))

-- ---- ends of walks

module _ (net : Network) (r : Reading) (s : Branch) where
  -- with what two nodes have one label
  module _ (route : Route) (labels : List ℕ) (are : joined_in labels ≡ leads net r route) (a : ℕ)
    where
      leads-by : (n : ℕ) → joined_in labels a n ≡ true → leads net r route a n ≡ true
      leads-by n h = subst (λ (joins : ℕ → ℕ → Bool). joins a n ≡ true) are h

      pub target-found : (target : Target) (x : Node)
          → find (λ y. is_target net r s target y && joined_in labels a y.number) net.nodes ≡ Some x
          → IsTargetOf net r s route a target x.number
      target-found target x h =
          let passes = and_parts (is_target net r s target x) (joined_in labels a x.number)
          (find-passes (λ (y : Node). is_target net r s target y && joined_in labels a y.number)
          net.nodes x h) in
          record {
            fits = find-any
                (λ (y : Node). is_target net r s target y && joined_in labels a y.number)
                (λ (y : Node). y.number == x.number && is_target net r s target y) net.nodes x h
                (λ h. and-true (x.number == x.number) _ (same-true x.number) passes.0);
            joined = joined-ways net r route a x.number (leads-by x.number passes.1);
          }

      pub no-target : (target : Target)
          → find (λ y. is_target net r s target y && joined_in labels a y.number) net.nodes ≡ None
          → reaches net r s route a target ≡ false
      no-target target h =
          subst (λ (joins : ℕ → ℕ → Bool). list_any
          (λ (y : Node). is_target net r s target y && joins a y.number) net.nodes ≡ false) are
          (find-none (λ (y : Node). is_target net r s target y && joined_in labels a y.number)
          net.nodes h)

      pub earth-found : (c : Branch)
          → find (λ d. is_earthing d.kind && (not (d.number == s.number) && (r.may_conduct d.device
          && joined_in labels a d.one))) net.branches ≡ Some c
          → IsEndOf net r s route a (ends_at_earth net r s)
          (record { node = c.one; earth = Some c.number })
      earth-found c h =
          let passes = find-passes (λ (d : Branch). is_earthing d.kind
          && (not (d.number == s.number) && (r.may_conduct d.device && joined_in labels a d.one)))
          net.branches c h in
          let kind = and_parts (is_earthing c.kind) _ passes in
          let other = and_parts (not (c.number == s.number)) _ kind.1 in
          let may_conduct = and_parts (r.may_conduct c.device) _ other.1 in
          record {
            fits = find-any (λ (d : Branch). is_earthing d.kind
                && (not (d.number == s.number)
                && (r.may_conduct d.device && joined_in labels a d.one)))
                (λ (d : Branch). d.number == c.number && (is_earthing d.kind
                && (not (d.number == s.number) && (r.may_conduct d.device && d.one == c.one))))
                net.branches c h
                (λ h. and-true (c.number == c.number) _ (same-true c.number)
                (and-true (is_earthing c.kind) _ kind.0
                (and-true (not (c.number == s.number)) _ other.0
                (and-true (r.may_conduct c.device) _ may_conduct.0 (same-true c.one)))));
            joined = joined-ways net r route a c.one (leads-by c.one may_conduct.1);
          }

      pub no-earth : find (λ d. is_earthing d.kind && (not (d.number == s.number)
          && (r.may_conduct d.device && joined_in labels a d.one))) net.branches ≡ None
          → reaches_earth net r s route a ≡ false
      no-earth h =
          subst (λ (joins : ℕ → ℕ → Bool). list_any (λ (d : Branch). is_earthing d.kind
          && (not (d.number == s.number) && (r.may_conduct d.device && joins a d.one))) net.branches
          ≡ false) are
          (find-none (λ (d : Branch). is_earthing d.kind
          && (not (d.number == s.number) && (r.may_conduct d.device && joined_in labels a d.one)))
          net.branches h)

  module _ (gapless inseparable : List ℕ)
      (are : joined_in gapless ≡ leads net r (without Gapless s avoid.Nothing))
      (same : joined_in inseparable ≡ leads net r (without Inseparable s avoid.Nothing)) where
    -- the test of a source
    abbrev pub is_source_by : (ℕ → ℕ → Bool) → (ℕ → ℕ → Bool) → Node → Bool
    is_source_by joins apart x =
        x.is_source && (joins s.one x.number
        && (r.may_be_false x.dead || not (apart s.one x.number)))

    pub source-found : (x : Node)
        → find (is_source_by (joined_in gapless) (joined_in inseparable)) net.nodes ≡ Some x
        → IsUnearthable net r s x.number
    source-found x h =
        let found : is_source_by (leads net r (without Gapless s avoid.Nothing))
        (leads net r (without Inseparable s avoid.Nothing)) x ≡ true =
        subst (λ (joins : ℕ → ℕ → Bool). is_source_by joins
        (leads net r (without Inseparable s avoid.Nothing)) x ≡ true) are
        (subst (λ (apart : ℕ → ℕ → Bool). is_source_by (joined_in gapless) apart x ≡ true) same
        (find-passes (is_source_by (joined_in gapless) (joined_in inseparable)) net.nodes x h)) in
        let source = and_parts x.is_source _ found in
        let joins = and_parts (leads net r (without Gapless s avoid.Nothing) s.one x.number) _
        source.1 in
        record {
          source = find-any (is_source_by (joined_in gapless) (joined_in inseparable))
              (λ (y : Node). y.number == x.number && (y.is_source && (r.may_be_false y.dead
              || not (leads net r (without Inseparable s avoid.Nothing) s.one y.number))))
              net.nodes x h
              (λ h. and-true (x.number == x.number) _ (same-true x.number)
              (and-true x.is_source _ source.0 joins.1));
          joined = joined-ways net r (without Gapless s avoid.Nothing) s.one x.number joins.0;
        }

    pub no-source : find (is_source_by (joined_in gapless) (joined_in inseparable)) net.nodes ≡ None
        → earths net r s ≡ false
    no-source h =
        let none = find-none (is_source_by (joined_in gapless) (joined_in inseparable)) net.nodes h
        in
        subst (λ (joins : ℕ → ℕ → Bool). list_any
        (is_source_by joins (leads net r (without Inseparable s avoid.Nothing))) net.nodes ≡ false)
        are
        (subst (λ (apart : ℕ → ℕ → Bool). list_any (is_source_by (joined_in gapless) apart)
        net.nodes ≡ false) same none)
