-- An image has one first fault.
use Rattle.std.proofs.lemmas.Grind.{common_steps}
use Rattle.std.proofs.lemmas.Option.{same_Some}
use Rattle.std.proofs.Common.{◌≡◌, ℕ, ◌<◌, List, [], ◌∷◌, length, true, refl, sym, ap, subst, ◌∙◌, arith, Option, Some, None, ◌⊎◌, inl, inr}
use Rattle.std.specs.Prelude.{zero, suc}
use Rattle.std.proofs.lemmas.Bool.{cases_lt}
use Rattle.bay_base.specs.declared.types.ElementaryType.{ElementaryType}
use Rattle.bay_base.specs.declared.point.Point.{Point}
use Rattle.il_image.specs.declared.arithmetic.Width.{Width}
use Rattle.il_image.specs.declared.instr.Instr.{Instr}
use Rattle.il_image.specs.declared.kind.CellKind.{CellKind}
use Rattle.il_image.specs.declared.kind.CellKind.TheVariants.{Any, Plain, NotZero}
use Rattle.il_image.specs.Arithmetic.{type_of_width}
use Rattle.il_image.specs.Images.{Image}
use Rattle.il_image.specs.Kinds.{AreWithin, is_within}
use Rattle.il_image.specs.Reading.{instr_at}
use Rattle.il_image.specs.Tables.{InstrBegins, LeadsTo, Table}
use Rattle.il_image.proofs.KindLemmas.{same-is}
use Rattle.il_verify.specs.declared.fault.VerifyFault.{VerifyFault}
use Rattle.il_verify.specs.declared.fault.VerifyFault.TheVariants.{StackEmpty, StackFull, WrongKind, ZeroDivisor, NoSlot, NoTimer, BadTarget, Unreachable, DepthClash, NoHalt, BadBinding, OutOfMemory}
use Rattle.il_verify.specs.Judging.{fault_of}
use Rattle.il_verify.specs.Slots.{slots_of}
use Rattle.il_verify.specs.Refusals.{kinds_after_instr, ReachedInstr, HasDepthClash, KindsReach, FailsAt, RunsPastEnd, HasOwnFault, IsFaultAt, IsTableUpTo, IsJoin, IsRefusal, HasBadJump, JumpsTo, IsFaultless, own_fault}
use Rattle.il_verify.proofs.TableLemmas.{leads-by-jump}

-- ---- kinds

width-same : (w v : Width) → type_of_width w ≡ type_of_width v → w ≡ v
width-same w v h = grind (arith, common_steps)

kind-same : (a b : CellKind) → is_within a b ≡ true → is_within b a ≡ true → a ≡ b
kind-same Any Any h g = refl
kind-same (Plain t) (Plain u) h g = ap (λ (k : ElementaryType). Plain k) (same-is t u h)
kind-same (NotZero w) (NotZero v) h g =
    ap (λ (k : Width). NotZero k) (width-same w v (same-is (type_of_width w) (type_of_width v) h))
kind-same i x h g = absurd (cc)

kinds-same : (xs ys : List CellKind) → AreWithin xs ys → AreWithin ys xs → xs ≡ ys
kinds-same [] [] h g = refl
kinds-same [] (y ∷ ys) h g = absurd h
kinds-same (x ∷ xs) [] h g = absurd h
kinds-same (x ∷ xs) (y ∷ ys) h g =
    let here = kind-same x y h.0 g.0 in
    let more = kinds-same xs ys h.1 g.1 in
    cc

-- ---- two tables that say the same before a place

-- The tables say the same before the place.
abbrev Alike : Table → Table → ℕ → Type 0
Alike t u done = (q : ℕ) → q < done → t q ≡ u q

alike-back : (t u : Table) (done : ℕ) → Alike t u done → Alike u t done
alike-back t u done same q less = sym (same q less)

comes-alike : (image : Image) (t u : Table) (done to : ℕ) (kinds : List CellKind) → Alike t u done
    → KindsReach image t done to kinds → KindsReach image u done to kinds
comes-alike image t u done to kinds same (inl h) = inl h
comes-alike image t u done to kinds same (inr h) =
    let c = h.2 in
    inr (
      h.0,
      h.1,
      record {
        instr = c.instr;
        next = c.next;
        before = c.before;
        here = c.here;
        known = sym (same h.0 h.1) ∙ c.known;
        gives = c.gives;
        leads = c.leads;
      },
    )

join-same : (image : Image) (t u : Table) (done to : ℕ) (kinds others : List CellKind)
    → Alike t u done
    → IsJoin image t done to kinds → IsJoin image u done to others → kinds ≡ others
join-same image t u done to kinds others same m n =
    kinds-same kinds others
    (m.least others (λ k c. n.above k (comes-alike image t u done to k same c)))
    (n.least kinds (λ k c. m.above k
    (comes-alike image u t done to k (alike-back t u done same) c)))

join-alike : (image : Image) (t u : Table) (done to : ℕ) (kinds : List CellKind) → Alike t u done
    → IsJoin image t done to kinds → IsJoin image u done to kinds
join-alike image t u done to kinds same m =
    let back = alike-back t u done same in
    record {
      some = (m.some.0, comes-alike image t u done to m.some.0 same m.some.1);
      above = λ others c. m.above others (comes-alike image u t done to others back c);
      least = λ top all. m.least top
          (λ others c. all others (comes-alike image t u done to others same c));
    }

-- ---- the tables of two fronts

known-same : (image : Image) (t u : Table) (d e place : ℕ) (o p : Option (List CellKind))
    → IsTableUpTo image t d → IsTableUpTo image u e → place < d → place < e → Alike t u place
    → t place ≡ o
    → u place ≡ p → t place ≡ u place
known-same image t u d e place None None f g less more same is other = is ∙ sym other
known-same image t u d e place None (Some k) f g less more same is other =
    let known = (f.passes place less (g.only place k other).1).known in
    absurd (cc)
known-same image t u d e place (Some k) None f g less more same is other =
    let known = (g.passes place more (f.only place k is).1).known in
    absurd (cc)
known-same image t u d e place (Some k) (Some l) f g less more same is other =
    let equal =
    join-same image t u place place k l same (f.joined place k is) (g.joined place l other) in
    is ∙ ap (λ (kinds : List CellKind). Some kinds) equal ∙ sym other

fronts-below : (image : Image) (t u : Table) (d e n place : ℕ) → IsTableUpTo image t d
    → IsTableUpTo image u e → place < n → place < d → place < e → t place ≡ u place
fronts-below image t u d e zero place f g low less more = absurd (omega arith)
fronts-below image t u d e (suc n) place f g low less more =
    known-same image t u d e place (t place) (u place) f g less more
    (λ q under. fronts-below image t u d e n q f g (omega arith) (omega arith) (omega arith))
    refl refl

pub fronts-alike : (image : Image) (t u : Table) (d e place : ℕ) → IsTableUpTo image t d
    → IsTableUpTo image u e → (d < place → ⊥) → (e < place → ⊥) → Alike t u place
fronts-alike image t u d e place f g low high q less =
    fronts-below image t u d e place q f g less (omega arith) (omega arith)

-- ---- what comes to a place

here-same : (code : List ℕ) (place : ℕ) (i j : Instr) (n m : ℕ) → instr_at code place ≡ Some (i, n)
    → instr_at code place ≡ Some (j, m) → ◌≡◌ {A = Instr × ℕ} (i, n) (j, m)
here-same code place i j n m h g = same_Some (i, n) (j, m) (sym h ∙ g)

leads-same : (x y : Instr × ℕ) (to : ℕ) → x ≡ y → LeadsTo x.0 x.1 to → LeadsTo y.0 y.1 to
leads-same x y to e h = subst (λ (z : Instr × ℕ). LeadsTo z.0 z.1 to) e h

abbrev arrives_alike : (image : Image) (t u : Table) (place : ℕ) → Alike t u place
    → ReachedInstr image t place → ReachedInstr image u place
arrives_alike image t u place same a =
    record {
      instr = a.instr;
      next = a.next;
      kinds = a.kinds;
      here = a.here;
      joined = join-alike image t u place place a.kinds same a.joined;
    }

own-alike : (image : Image) (t u : Table) (place : ℕ) (fault : VerifyFault) → Alike t u place
    → HasOwnFault image t place fault → HasOwnFault image u place fault
own-alike image t u place fault same h = (arrives_alike image t u place same h.0, h.1)

fault-alike : (image : Image) (t u : Table) (place : ℕ) (fault : VerifyFault) → Alike t u place
    → IsFaultAt image t place fault → IsFaultAt image u place fault
fault-alike image t u place Unreachable same h =
    λ kinds c. h kinds (comes-alike image u t place place kinds (alike-back t u place same) c)
fault-alike image t u place BadTarget same h =
    record {
      at = arrives_alike image t u place same h.at;
      faultless = h.faultless;
      to = h.to;
      jumps = h.jumps;
      bad = h.bad;
    }
fault-alike image t u place NoHalt same h =
    record {
      at = arrives_alike image t u place same h.at;
      faultless = h.faultless;
      jumps = h.jumps;
      leads = h.leads;
      past = h.past;
    }
fault-alike image t u place DepthClash same h = record {
  at = arrives_alike image t u place same h.at;
  gives = h.gives;
  faultless = h.faultless;
  effect = h.effect;
  targets = h.targets;
  to = h.to;
  leads = h.leads;
  others = h.others;
  comes = comes-alike image t u place h.to h.others same h.comes;
  unequal = h.unequal;
}
fault-alike image t u place OutOfMemory same h = h
fault-alike image t u place StackEmpty same h = own-alike image t u place StackEmpty same h
fault-alike image t u place StackFull same h = own-alike image t u place StackFull same h
fault-alike image t u place WrongKind same h = own-alike image t u place WrongKind same h
fault-alike image t u place ZeroDivisor same h = own-alike image t u place ZeroDivisor same h
fault-alike image t u place NoSlot same h = own-alike image t u place NoSlot same h
fault-alike image t u place NoTimer same h = own-alike image t u place NoTimer same h
fault-alike image t u place BadBinding same h = own-alike image t u place BadBinding same h

-- ---- a place has one fault at most

-- what a fault comes of, where something comes to the place
abbrev Reason : Image → Table → ℕ → VerifyFault → Type 0
Reason image t place fault =
    HasOwnFault image t place fault
    ⊎ (((fault ≡ BadTarget) × HasBadJump image t place)
    ⊎ (((fault ≡ NoHalt) × RunsPastEnd image t place)
    ⊎ ((fault ≡ DepthClash) × HasDepthClash image t place)))

abbrev Nothing : Image → Table → ℕ → Type 0
Nothing image t place = (kinds : List CellKind) → KindsReach image t place place kinds → ⊥

reason : (image : Image) (t : Table) (place : ℕ) (fault : VerifyFault)
    → IsFaultAt image t place fault
    → ((fault ≡ Unreachable) × Nothing image t place) ⊎ Reason image t place fault
reason image t place Unreachable h = inl (refl, h)
reason image t place BadTarget h = inr (inr (inl (refl, h)))
reason image t place NoHalt h = inr (inr (inr (inl (refl, h))))
reason image t place DepthClash h = inr (inr (inr (inr (refl, h))))
reason image t place OutOfMemory h = absurd h
reason image t place i h = inr (inl h)

something : (image : Image) (t : Table) (place : ℕ) (fault : VerifyFault)
    → Reason image t place fault → Nothing image t place → ⊥
something image t place fault (inl h) none = none h.0.joined.some.0 h.0.joined.some.1
something image t place fault (inr (inl h)) none = none h.1.at.joined.some.0 h.1.at.joined.some.1
something image t place fault (inr (inr (inl h))) none =
    none h.1.at.joined.some.0 h.1.at.joined.some.1
something image t place fault (inr (inr (inr h))) none =
    none h.1.at.joined.some.0 h.1.at.joined.some.1

-- two views of what comes to a place are one
abbrev Met : {image : Image} {t : Table} {place : ℕ} → ReachedInstr image t place
    → ReachedInstr image t place
    → Type 0
Met a b = ◌≡◌ {A = Instr × ℕ} (a.instr, a.next) (b.instr, b.next) × (a.kinds ≡ b.kinds)

met : (image : Image) (t : Table) (place : ℕ) (a b : ReachedInstr image t place) → Met a b
met image t place a b = (
  here-same image.code place a.instr b.instr a.next b.next a.here b.here,
  join-same image t t place place a.kinds b.kinds (λ q less. refl) a.joined b.joined,
)

own-same : (image : Image) (t : Table) (place : ℕ) (a b : ReachedInstr image t place)
    → own_fault a ≡ own_fault b
own-same image t place a b =
    let m = met image t place a b in
    ap (λ (x : Instr × ℕ). fault_of (slots_of image) (length image.timers) x.0 a.kinds) m.0
    ∙ ap (fault_of (slots_of image) (length image.timers) b.instr) m.1

own-or-none : (image : Image) (t : Table) (place : ℕ) (fault : VerifyFault)
    (a b : ReachedInstr image t place) → own_fault a ≡ Some fault → own_fault b ≡ None → ⊥
own-or-none image t place fault a b h g = let e = own-same image t place a b in absurd (cc)

jump-or-not : (image : Image) (t : Table) (place : ℕ) (j : HasBadJump image t place)
    (b : ReachedInstr image t place)
    → ((to : ℕ) → JumpsTo b.instr b.next to → InstrBegins image.code to) → ⊥
jump-or-not image t place j b all =
    j.bad (all j.to (subst (λ (x : Instr × ℕ). JumpsTo x.0 x.1 j.to) (met image t place j.at b).0
    j.jumps))

past-or-not : (image : Image) (t : Table) (place : ℕ) (g : RunsPastEnd image t place)
    (b : ReachedInstr image t place)
    → ((to : ℕ) → LeadsTo b.instr b.next to → InstrBegins image.code to) → ⊥
past-or-not image t place g b all =
    let there =
    all g.at.next (leads-same (g.at.instr, g.at.next) (b.instr, b.next) g.at.next
    (met image t place g.at b).0 g.leads) in
    absurd (omega (arith, there.0, g.past))

reasons-same : (image : Image) (t : Table) (place : ℕ) (f g : VerifyFault) → Reason image t place f
    → Reason image t place g → f ≡ g
reasons-same image t place f g (inl h) (inl k) =
    same_Some f g (sym h.1 ∙ own-same image t place h.0 k.0 ∙ k.1)
reasons-same image t place f g (inl h) (inr (inl k)) =
    absurd (own-or-none image t place f h.0 k.1.at h.1 k.1.faultless)
reasons-same image t place f g (inl h) (inr (inr (inl k))) =
    absurd (own-or-none image t place f h.0 k.1.at h.1 k.1.faultless)
reasons-same image t place f g (inl h) (inr (inr (inr k))) =
    absurd (own-or-none image t place f h.0 k.1.at h.1 k.1.faultless)
reasons-same image t place f g (inr (inl h)) (inl k) =
    absurd (own-or-none image t place g k.0 h.1.at k.1 h.1.faultless)
reasons-same image t place f g (inr (inl h)) (inr (inl k)) = h.0 ∙ sym k.0
reasons-same image t place f g (inr (inl h)) (inr (inr (inl k))) =
    absurd (jump-or-not image t place h.1 k.1.at k.1.jumps)
reasons-same image t place f g (inr (inl h)) (inr (inr (inr k))) =
    absurd (jump-or-not image t place h.1 k.1.at
    (λ to j. k.1.targets to (leads-by-jump k.1.at.instr k.1.at.next to j)))
reasons-same image t place f g (inr (inr (inl h))) (inl k) =
    absurd (own-or-none image t place g k.0 h.1.at k.1 h.1.faultless)
reasons-same image t place f g (inr (inr (inl h))) (inr (inl k)) =
    absurd (jump-or-not image t place k.1 h.1.at h.1.jumps)
reasons-same image t place f g (inr (inr (inl h))) (inr (inr (inl k))) = h.0 ∙ sym k.0
reasons-same image t place f g (inr (inr (inl h))) (inr (inr (inr k))) =
    absurd (past-or-not image t place h.1 k.1.at k.1.targets)
reasons-same image t place f g (inr (inr (inr h))) (inl k) =
    absurd (own-or-none image t place g k.0 h.1.at k.1 h.1.faultless)
reasons-same image t place f g (inr (inr (inr h))) (inr (inl k)) =
    absurd (jump-or-not image t place k.1 h.1.at
    (λ to j. h.1.targets to (leads-by-jump h.1.at.instr h.1.at.next to j)))
reasons-same image t place f g (inr (inr (inr h))) (inr (inr (inl k))) =
    absurd (past-or-not image t place k.1 h.1.at h.1.targets)
reasons-same image t place f g (inr (inr (inr h))) (inr (inr (inr k))) = h.0 ∙ sym k.0

one_fault : (image : Image) (t : Table) (place : ℕ) (f g : VerifyFault) → IsFaultAt image t place f
    → IsFaultAt image t place g → f ≡ g
one_fault image t place f g h k = elim (reason image t place f h) [
  | inl a ↦ elim (reason image t place g k)
      [ inl b ↦ a.0 ∙ sym b.0 | inr b ↦ absurd (something image t place g b a.1) ]
  | inr a ↦ elim (reason image t place g k) [
    | inl b ↦ absurd (something image t place f a b.1)
    | inr b ↦ reasons-same image t place f g a b
  ]
]

-- ---- a place of a front has none

abbrev arrives_there : (image : Image) (t : Table) (place : ℕ) (p : IsFaultless image t place)
    → IsJoin image t place place p.kinds → ReachedInstr image t place
arrives_there image t place p m =
    record { instr = p.instr; next = p.next; kinds = p.kinds; here = p.here; joined = m }

no-reason : (image : Image) (t : Table) (place : ℕ) (fault : VerifyFault)
    (p : IsFaultless image t place)
    → IsJoin image t place place p.kinds → Reason image t place fault → ⊥
no-reason image t place fault p m (inl h) =
    own-or-none image t place fault h.0 (arrives_there image t place p m) h.1 p.faultless
no-reason image t place fault p m (inr (inl h)) =
    jump-or-not image t place h.1 (arrives_there image t place p m)
    (λ to j. p.targets to (leads-by-jump p.instr p.next to j))
no-reason image t place fault p m (inr (inr (inl h))) =
    past-or-not image t place h.1 (arrives_there image t place p m) p.targets
no-reason image t place fault p m (inr (inr (inr h))) =
    let c = h.1 in
    let e = met image t place c.at (arrives_there image t place p m) in
    let same =
    ap (λ (x : Instr × ℕ). kinds_after_instr image x.0 c.at.kinds) e.0
    ∙ ap (kinds_after_instr image p.instr) e.1 in
    let gives = same_Some c.gives p.gives (sym c.effect ∙ same ∙ p.effect) in
    let leads = leads-same (c.at.instr, c.at.next) (p.instr, p.next) c.to e.0 c.leads in
    c.unequal (p.depths c.to leads c.others c.comes ∙ sym (ap length gives))

no_fault : (image : Image) (t : Table) (done place : ℕ) (fault : VerifyFault)
    → IsTableUpTo image t done
    → place < done → InstrBegins image.code place → IsFaultAt image t place fault → ⊥
no_fault image t done place fault front less there h =
    let p = front.passes place less there in
    let m = front.joined place p.kinds p.known in
    elim (reason image t place fault h)
    [ inl a ↦ a.1 m.some.0 m.some.1 | inr a ↦ no-reason image t place fault p m a ]

-- ---- the refusal

not_before : (image : Image) (f g : VerifyFault) (p q : ℕ) → FailsAt image f p → FailsAt image g q
    → p < q → ⊥
not_before image f g p q (t, front, there, h) (u, further, beyond, k) less =
    no_fault image u q p f further less there
    (fault-alike image t u p f
    (fronts-alike image t u p q p front further (λ l. absurd (omega arith))
    (λ l. absurd (omega arith))) h)

failure-there : (image : Image) (f g : VerifyFault) (place : ℕ) → FailsAt image f place
    → FailsAt image g place → f ≡ g
failure-there image f g place (t, front, there, h) (u, further, beyond, k) =
    one_fault image u place f g
    (fault-alike image t u place f
    (fronts-alike image t u place place place front further (λ l. absurd (omega arith))
    (λ l. absurd (omega arith))) h) k

one-failure : (image : Image) (f g : VerifyFault) (p q : ℕ) → FailsAt image f p → FailsAt image g q
    → (f ≡ g) × (p ≡ q)
one-failure image f g p q a b = elim (cases_lt p q) [
  | inl less ↦ absurd (not_before image f g p q a b less)
  | inr more ↦ elim (cases_lt q p) [
    | inl less ↦ absurd (not_before image g f q p b a less)
    | inr other ↦ (
        let same : p ≡ q = omega arith in
        let here = subst (λ (n : ℕ). FailsAt image f n) same a in
        (failure-there image f g q here b, same))
  ]
]

without-code : (image : Image) (fault : VerifyFault) (place : ℕ) → image.code ≡ []
    → FailsAt image fault place → ⊥
without-code image fault place none (t, front, there, h) =
    absurd (omega (arith, there.0, ap length none))

pub one_refusal : (points : List Point) (image : Image) (f g : VerifyFault) (p q : ℕ)
    → IsRefusal points image f p → IsRefusal points image g q → (f ≡ g) × (p ≡ q)
one_refusal points image f g p q (inl a) (inl b) = (a.1 ∙ sym b.1, a.2 ∙ sym b.2)
one_refusal points image f g p q (inl a) (inr b) = let x = a.0 in let y = b.0 in absurd (cc)
one_refusal points image f g p q (inr a) (inl b) = let x = a.0 in let y = b.0 in absurd (cc)
one_refusal points image f g p q (inr (a, inl x)) (inr (b, inl y)) = (x.1 ∙ sym y.1, x.2 ∙ sym y.2)
one_refusal points image f g p q (inr (a, inl x)) (inr (b, inr y)) =
    absurd (without-code image g q x.0 y)
one_refusal points image f g p q (inr (a, inr x)) (inr (b, inl y)) =
    absurd (without-code image f p y.0 x)
one_refusal points image f g p q (inr (a, inr x)) (inr (b, inr y)) = one-failure image f g p q x y
