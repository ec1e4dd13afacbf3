-- The least table of code whose places have no fault agrees with the code, and a first fault leaves
-- no table that agrees.
use Rattle.std.proofs.Common.{◌≡◌, ℕ, zero, suc, ◌+◌, ◌<◌, ◌≤◌, true, false, List, [], length, refl, sym, ap, subst, ◌∙◌, arith, Option, Some, None, ◌⊎◌, inl, inr}
use Rattle.std.proofs.lemmas.Option.{same_Some}
use Rattle.std.specs.Prelude.{IsSome}
use Rattle.std.proofs.lemmas.Bool.{cases_eq}
use Rattle.bay_base.specs.declared.types.ElementaryType.{ElementaryType}
use Rattle.bay_base.specs.declared.point.Point.{Point}
use Rattle.il_image.specs.declared.instr.Instr.{Instr}
use Rattle.il_image.specs.declared.instr.Instr.TheVariants.{Halt, Jump}
use Rattle.il_image.specs.declared.kind.CellKind.{CellKind}
use Rattle.il_image.specs.declared.opcode.When.TheVariants.{Always, IfTrue, IfFalse}
use Rattle.il_image.specs.Effects.{kinds_after}
use Rattle.il_image.specs.Images.{Image}
use Rattle.il_image.specs.Kinds.{AreWithin}
use Rattle.il_image.specs.Reading.{instr_at}
use Rattle.il_image.specs.Tables.{Agrees, FitsTable, HasTable, IsAllowed, InstrBegins, IsSuccessor, LeadsTo, Table, slot_types}
use Rattle.il_image.proofs.PlaceLemmas.{goes-forward}
use Rattle.il_image.specs.Machine.{most_cells}
use Rattle.il_verify.specs.declared.fault.VerifyFault.{VerifyFault}
use Rattle.il_verify.specs.declared.fault.VerifyFault.TheVariants.{StackEmpty, StackFull, WrongKind, ZeroDivisor, NoSlot, NoTimer, BadTarget, Unreachable, DepthClash, NoHalt, BadBinding, OutOfMemory}
use Rattle.il_verify.specs.Binding.{fits}
use Rattle.il_verify.specs.Judging.{fault_of}
use Rattle.il_verify.specs.Refusals.{ReachedInstr, HasDepthClash, KindsReach, RunsPastEnd, IsFaultAt, IsTableUpTo, IsJoin, IsRefusal, HasBadJump, JumpsTo, IsFaultless, kinds_after_instr, own_fault}
use Rattle.il_verify.specs.Slots.{slots_of, types_of}
use Rattle.il_verify.specs.Verdicts.{IsDepth, IsLongest, IsSafe, WritesNoReadOnly}
use Rattle.il_verify.proofs.EffectLemmas.{effect-lower, not-both}
use Rattle.il_verify.proofs.JudgeLemmas.{allowed-faultless, faultless-fine, types-are}
use Rattle.il_verify.proofs.WithinLemmas.{all-within-along, within-length, within-none}

-- ---- where instructions lead

pub leads-forward : (i : Instr) (next to : ℕ) → LeadsTo i next to → next ≤ to
leads-forward Halt next to h = absurd h
leads-forward (Jump IfTrue distance) next to h =
    elim h [ inl e ↦ omega arith | inr e ↦ omega arith ]
leads-forward (Jump IfFalse distance) next to h =
    elim h [ inl e ↦ omega arith | inr e ↦ omega arith ]
leads-forward i next to h = omega arith

-- Each instruction but HALT leads somewhere.
pub some-way : (i : Instr) (next : ℕ) → (i ≡ Halt) ⊎ ((to : ℕ) × LeadsTo i next to)
some-way Halt next = inl refl
some-way (Jump Always distance) next = inr (next + distance, refl)
some-way (Jump IfTrue distance) next = inr (next, inl refl)
some-way (Jump IfFalse distance) next = inr (next, inl refl)
some-way i next = inr (next, refl)

pub leads-by-jump : (i : Instr) (next to : ℕ) → JumpsTo i next to → LeadsTo i next to
leads-by-jump (Jump Always distance) next to h = h
leads-by-jump (Jump IfTrue distance) next to h = inr h
leads-by-jump (Jump IfFalse distance) next to h = inr h
leads-by-jump i next to h = absurd h

-- an instruction leads behind the place where it stands
pub leads-on : (code : List ℕ) (from to : ℕ) (i : Instr) (next : ℕ)
    → instr_at code from ≡ Some (i, next) → LeadsTo i next to → from < to
leads-on code from to i next here leads =
    let f = goes-forward code from i next here in
    let g : next ≤ to = leads-forward i next to leads in
    omega arith

pub same-instr : (code : List ℕ) (place : ℕ) (i j : Instr) (n m : ℕ)
    → instr_at code place ≡ Some (i, n) → instr_at code place ≡ Some (j, m) → (i ≡ j) × (n ≡ m)
same-instr code place i j n m e f =
    let pair : (i, n) ≡ (j, m) = same_Some (i, n) (j, m) (sym e ∙ f) in
    (ap (λ (q : Instr × ℕ). q.0) pair, ap (λ (q : Instr × ℕ). q.1) pair)

value_of : {A : Type 0} (o : Option A) → IsSome o → (x : A) × (o ≡ Some x)
value_of None h = absurd cc
value_of (Some x) h = (x, refl)

is-some-of : {A : Type 0} (o : Option A) (x : A) → o ≡ Some x → IsSome o
is-some-of None x e = absurd cc
is-some-of (Some y) x e = refl

pub first-place : (code : List ℕ) → 0 < length code → InstrBegins code 0
first-place code h = (h, (0, refl))

-- ---- the least table agrees

-- What passes, told by the instruction and the kinds that are there.
passed-fault : (image : Image) (table : Table) (place : ℕ) (i : Instr) (next : ℕ)
    (kinds : List CellKind) → IsFaultless image table place
    → instr_at image.code place ≡ Some (i, next)
    → table place ≡ Some kinds
    → fault_of (slots_of image) (length image.timers) i kinds ≡ None
passed-fault image table place i next kinds p here known =
    let same = same-instr image.code place p.instr i p.next next p.here here in
    let its : p.kinds ≡ kinds = same_Some p.kinds kinds (sym p.known ∙ known) in
    ap (λ (j : Instr). fault_of (slots_of image) (length image.timers) j kinds) (sym same.0)
    ∙ ap (fault_of (slots_of image) (length image.timers) p.instr) (sym its) ∙ p.faultless

few-behind : (image : Image) (table : Table) (place : ℕ) (i : Instr) (next : ℕ)
    (kinds gives : List CellKind) → IsFaultless image table place
    → instr_at image.code place ≡ Some (i, next) → table place ≡ Some kinds
    → kinds_after_instr image i kinds ≡ Some gives → length gives ≤ most_cells
few-behind image table place i next kinds gives p here known effect_is =
    (faultless-fine (slots_of image) (length image.timers) i kinds
    (passed-fault image table place i next kinds p here known)).room gives
    (ap (λ (types : List ElementaryType). kinds_after types (length image.timers) i kinds)
    (types-are image) ∙ effect_is)

-- What comes to a place together has at most 32 kinds.
pub join-room : (image : Image) (table : Table) (done : ℕ) → IsTableUpTo image table done
    → (bound to : ℕ) (kinds : List CellKind) → IsJoin image table bound to kinds
    → length kinds ≤ most_cells
join-room image table done front bound to kinds m =
    let size : length m.some.0 ≡ length kinds =
    within-length m.some.0 kinds (m.above m.some.0 m.some.1) in
    elim m.some.1 [
      | inl e ↦ (let none : length m.some.0 ≡ 0 = ap length e.1 in omega arith)
      | inr c ↦
          (let f = c.2 in
          let o = front.only c.0 f.before f.known in
          let least : length m.some.0 ≤ most_cells =
          few-behind image table c.0 f.instr f.next f.before m.some.0 (front.passes c.0 o.0 o.1)
          f.here f.known f.gives in
          omega arith)
    ]

module _ (image : Image) (table : Table) (front : IsTableUpTo image table (length image.code)) where
  enters-next : (place : ℕ) (p : IsFaultless image table place) (to : ℕ) → LeadsTo p.instr p.next to
      → FitsTable table to p.gives
  enters-next place p to way =
      let target = p.targets to way in
      let q = front.passes to target.0 target in
      let forward : place < to = leads-on image.code place to p.instr p.next p.here way in
      let comes : KindsReach image table to to p.gives =
      inr (
        place,
        forward,
        record {
          instr = p.instr;
          next = p.next;
          before = p.kinds;
          here = p.here;
          known = p.known;
          gives = p.effect;
          leads = way;
        },
      ) in
      (q.kinds, q.known, (front.joined to q.kinds q.known).above p.gives comes)

  allowed-there : (place : ℕ) (kinds : List CellKind) → table place ≡ Some kinds
      → IsAllowed image table place kinds
  allowed-there place kinds is =
      let o = front.only place kinds is in
      let p = front.passes place o.0 o.1 in
      let its : p.kinds ≡ kinds = same_Some p.kinds kinds (sym p.known ∙ is) in
      record {
        instr = p.instr;
        next = p.next;
        after = p.gives;
        here = p.here;
        effect = ap (kinds_after_instr image p.instr) (sym its) ∙ p.effect;
        enters = enters-next place p;
      }

  room-there : (place : ℕ) (kinds : List CellKind) → table place ≡ Some kinds
      → length kinds ≤ most_cells
  room-there place kinds is =
      join-room image table (length image.code) front place place kinds
      (front.joined place kinds is)

  reached-there : (place : ℕ) → InstrBegins image.code place → (place ≡ 0 → ⊥)
      → (from : ℕ) × InstrBegins image.code from × IsSuccessor image.code from place
  reached-there place is ne =
      let p = front.passes place is.0 is in
      let m = front.joined place p.kinds p.known in
      elim m.some.1 [
        | inl e ↦ absurd (ne e.0)
        | inr c ↦ (let f = c.2 in (
          c.0,
          (front.only c.0 f.before f.known).1,
          record { instr = f.instr; next = f.next; here = f.here; leads = f.leads },
        ))
      ]

  starts-there : 0 < length image.code → table 0 ≡ Some []
  starts-there some =
      let p = front.passes 0 some (first-place image.code some) in
      let m = front.joined 0 p.kinds p.known in
      let empty : p.kinds ≡ [] = within-none p.kinds (m.above [] (inl (refl, refl))) in
      p.known ∙ ap (λ (v : List CellKind). Some v) empty

  pub agrees : 0 < length image.code → Agrees image table
  agrees some = record {
    starts = starts-there some;
    places = λ place. (
      (λ h. let v = value_of (table place) h in (front.only place v.0 v.1).1),
      (λ is. let p = front.passes place is.0 is in is-some-of (table place) p.kinds p.known),
    );
    allowed = allowed-there;
    room = room-there;
    reached = reached-there;
  }

  pub keeps-read-only : WritesNoReadOnly image
  keeps-read-only place i next is here =
      let p = front.passes place is.0 is in
      (faultless-fine (slots_of image) (length image.timers) i p.kinds
      (passed-fault image table place i next p.kinds p here p.known)).writes

-- ---- every table that agrees lies above the least one

module _ (image : Image) (table : Table) (done : ℕ) (front : IsTableUpTo image table done)
    (other : Table) (agrees_so : Agrees image other) where
  top-at : (place : ℕ) → InstrBegins image.code place
      → (top : List CellKind) × (other place ≡ Some top)
  top-at place is = value_of (other place) ((agrees_so.places place).1 is)

  -- what comes to a place is within what the other table has there, if that is so of the places
  -- before
  comes-within : (bound to : ℕ) (top others : List CellKind) → other to ≡ Some top
      → ((q : ℕ) (kinds : List CellKind) → q < bound → table q ≡ Some kinds
      → FitsTable other q kinds)
      → KindsReach image table bound to others → AreWithin others top
  comes-within bound to top others is below comes = elim comes [
    | inl e ↦
        (let same : [] ≡ top = same_Some [] top (sym agrees_so.starts ∙ ap other (sym e.0) ∙ is) in
        subst (λ (v : List CellKind). AreWithin v top) (sym e.1) (subst (AreWithin []) same tt))
    | inr c ↦
        (let f = c.2 in
        let e = below c.0 f.before c.1 f.known in
        let a = agrees_so.allowed c.0 e.0 e.1 in
        let same = same-instr image.code c.0 a.instr f.instr a.next f.next a.here f.here in
        let l = effect-lower (slot_types image) (length image.timers) a.instr f.before e.0 a.after
        e.2 a.effect in
        let its : l.lower ≡ others =
        same_Some l.lower others
        (sym l.is ∙ ap (λ (j : Instr). kinds_after_instr image j f.before) same.0 ∙ f.gives) in
        let leads : LeadsTo a.instr a.next to =
        subst (λ (n : ℕ). LeadsTo a.instr n to) (sym same.1)
        (subst (λ (j : Instr). LeadsTo j f.next to) (sym same.0) f.leads) in
        let g = a.enters to leads in
        let most : g.0 ≡ top = same_Some g.0 top (sym g.1 ∙ is) in
        subst (λ (v : List CellKind). AreWithin v top) its
        (subst (AreWithin l.lower) most (all-within-along l.lower a.after g.0 l.within g.2)))
  ]

  join-enters : (place : ℕ) (kinds : List CellKind) → InstrBegins image.code place
      → ((q : ℕ) (known : List CellKind) → q < place → table q ≡ Some known
      → FitsTable other q known)
      → IsJoin image table place place kinds → FitsTable other place kinds
  join-enters place kinds is below m =
      let t = top-at place is in
      (t.0, t.1, m.least t.0 (λ others comes. comes-within place place t.0 others t.1 below comes))

  all-below : (n q : ℕ) (kinds : List CellKind) → q < n → table q ≡ Some kinds
      → FitsTable other q kinds
  all-below zero q kinds h is = absurd (omega arith)
  all-below (suc n) q kinds h is =
      join-enters q kinds (front.only q kinds is).1
      (λ from known before was. all-below n from known (omega arith) was)
      (front.joined q kinds is)

  pub lies-above : (q : ℕ) (kinds : List CellKind) → table q ≡ Some kinds → FitsTable other q kinds
  lies-above q kinds is = all-below (suc q) q kinds (omega arith) is

  -- what the instruction at a place does on the least kinds before it
  record Does (place : ℕ) (a : ReachedInstr image table place) : Type 0 where
    gives : List CellKind
    effect_is : kinds_after_instr image a.instr a.kinds ≡ Some gives
    enters : (to : ℕ) → LeadsTo a.instr a.next to → FitsTable other to gives
    room : length gives ≤ most_cells

  halts-small : (i : Instr) (kinds gives : List CellKind) → i ≡ Halt
      → kinds_after_instr image i kinds ≡ Some gives
      → kinds ≡ gives
  halts-small i kinds gives e is =
      same_Some kinds gives (ap (λ (j : Instr). kinds_after_instr image j kinds) (sym e) ∙ is)

  does : (place : ℕ) (a : ReachedInstr image table place) → InstrBegins image.code place
      → Does place a
  does place a is =
      let e = join-enters place a.kinds is (λ q known before was. lies-above q known was) a.joined
      in
      let b = agrees_so.allowed place e.0 e.1 in
      let same = same-instr image.code place b.instr a.instr b.next a.next b.here a.here in
      let l = effect-lower (slot_types image) (length image.timers) b.instr a.kinds e.0 b.after e.2
      b.effect in
      let effect-there : kinds_after_instr image a.instr a.kinds ≡ Some l.lower =
      ap (λ (j : Instr). kinds_after_instr image j a.kinds) (sym same.0) ∙ l.is in
      let enters_there : (to : ℕ) → LeadsTo a.instr a.next to → FitsTable other to l.lower =
      λ to way.
      let g = b.enters to (subst (λ (n : ℕ). LeadsTo b.instr n to) (sym same.1)
      (subst (λ (j : Instr). LeadsTo j a.next to) (sym same.0) way)) in
      (g.0, g.1, all-within-along l.lower b.after g.0 l.within g.2) in
      record {
        gives = l.lower;
        effect_is = effect-there;
        enters = enters_there;
        room = elim (some-way a.instr a.next) [
          | inl halts ↦
              (let equal : a.kinds ≡ l.lower =
              halts-small a.instr a.kinds l.lower halts effect-there in
              let size : length a.kinds ≡ length e.0 = within-length a.kinds e.0 e.2 in
              let more : length a.kinds ≡ length l.lower = ap length equal in
              let most : length e.0 ≤ most_cells = agrees_so.room place e.0 e.1 in
              omega arith)
          | inr way ↦
              (let g = enters_there way.0 way.1 in
              let size : length l.lower ≡ length g.0 = within-length l.lower g.0 g.2 in
              let most : length g.0 ≤ most_cells = agrees_so.room way.0 g.0 g.1 in
              omega arith)
        ];
      }

  place-of-entry : (to : ℕ) (kinds : List CellKind) → FitsTable other to kinds
      → InstrBegins image.code to
  place-of-entry to kinds e = (agrees_so.places to).0 (is-some-of (other to) e.0 e.1)

  module _ (writes : WritesNoReadOnly image) (place : ℕ) (is : InstrBegins image.code place) where
    no-own : (fault : VerifyFault) (a : ReachedInstr image table place) → own_fault a ≡ Some fault
        → ⊥
    no-own fault a e =
        let d = does place a is in
        let effect-so : kinds_after (types_of (slots_of image)) (length image.timers) a.instr
        a.kinds
        ≡ Some d.gives =
        ap (λ (types : List ElementaryType). kinds_after types (length image.timers) a.instr
        a.kinds)
        (types-are image) ∙ d.effect_is in
        not-both (own_fault a) fault
        (allowed-faultless (slots_of image) (length image.timers) a.instr a.kinds d.gives
        effect-so (writes place a.instr a.next is a.here) d.room) e

    no-bad-jump : HasBadJump image table place → ⊥
    no-bad-jump j = let d = does place j.at is in
        j.bad (place-of-entry j.to d.gives
        (d.enters j.to (leads-by-jump j.at.instr j.at.next j.to j.jumps)))

    no_end : RunsPastEnd image table place → ⊥
    no_end g =
        let d = does place g.at is in
        let p = place-of-entry g.at.next d.gives (d.enters g.at.next g.leads) in
        let within : g.at.next < length image.code = p.0 in
        let past : g.at.next ≡ length image.code = g.past in
        absurd (omega arith)

    no-clash : HasDepthClash image table place → ⊥
    no-clash c =
        let d = does place c.at is in
        let same : d.gives ≡ c.gives = same_Some d.gives c.gives (sym d.effect_is ∙ c.effect) in
        let e = d.enters c.to c.leads in
        let size : length d.gives ≡ length e.0 = within-length d.gives e.0 e.2 in
        let theirs : length c.others ≡ length e.0 =
        within-length c.others e.0
        (comes-within place c.to e.0 c.others e.1 (λ q known before was. lies-above q known was)
        c.comes) in
        c.unequal (theirs ∙ sym size ∙ ap length same)

  pub reaches : (passes : (q : ℕ) → q < done → InstrBegins image.code q → IsFaultless image table q)
      (place : ℕ) → place ≤ done → InstrBegins image.code place
      → ((kinds : List CellKind) → KindsReach image table place place kinds → ⊥) → ⊥
  reaches passes place least is nothing = elim (cases_eq place 0) [
    | inl e ↦ nothing [] (inl (e, refl))
    | inr ne ↦
        (let r = agrees_so.reached place is ne in
        let s = r.2 in
        let before : r.0 < place = leads-on image.code r.0 place s.instr s.next s.here s.leads in
        let p = passes r.0 (omega arith) r.1 in
        let same = same-instr image.code r.0 s.instr p.instr s.next p.next s.here p.here in
        let leads : LeadsTo p.instr p.next place =
        subst (λ (n : ℕ). LeadsTo p.instr n place) same.1
        (subst (λ (j : Instr). LeadsTo j s.next place) same.0 s.leads) in
        nothing p.gives
        (inr (
          r.0,
          before,
          record {
            instr = p.instr;
            next = p.next;
            before = p.kinds;
            here = p.here;
            known = p.known;
            gives = p.effect;
            leads = leads;
          },
        )))
  ]

  pub no_fault : WritesNoReadOnly image → (fault : VerifyFault) → InstrBegins image.code done
      → IsFaultAt image table done fault → ⊥
  no_fault writes Unreachable is h = reaches front.passes done (omega arith) is h
  no_fault writes BadTarget is h = no-bad-jump writes done is h
  no_fault writes NoHalt is h = no_end writes done is h
  no_fault writes DepthClash is h = no-clash writes done is h
  no_fault writes OutOfMemory is h = h
  no_fault writes StackEmpty is h = no-own writes done is StackEmpty h.0 h.1
  no_fault writes StackFull is h = no-own writes done is StackFull h.0 h.1
  no_fault writes WrongKind is h = no-own writes done is WrongKind h.0 h.1
  no_fault writes ZeroDivisor is h = no-own writes done is ZeroDivisor h.0 h.1
  no_fault writes NoSlot is h = no-own writes done is NoSlot h.0 h.1
  no_fault writes NoTimer is h = no-own writes done is NoTimer h.0 h.1
  no_fault writes BadBinding is h = no-own writes done is BadBinding h.0 h.1

-- ---- the longest list

longest-so : (image : Image) (table : Table) → IsTableUpTo image table (length image.code)
    → (depth : ℕ)
    → IsLongest table depth → (other : Table) → Agrees image other → IsLongest other depth
longest-so image table front depth l other agrees_so = record {
  some =
      (let e = lies-above image table (length image.code) front other agrees_so l.some.0 l.some.1
      l.some.2 in
      (l.some.0, e.0, e.1, sym (within-length l.some.1 e.0 e.2) ∙ l.some.3));
  most = λ place kinds is.
      let place-is = (agrees_so.places place).0 (is-some-of (other place) kinds is) in
      let p = front.passes place place-is.0 place-is in
      let e = lies-above image table (length image.code) front other agrees_so place p.kinds p.known
      in
      let same : e.0 ≡ kinds = same_Some e.0 kinds (sym e.1 ∙ is) in
      let size : length p.kinds ≡ length e.0 = within-length p.kinds e.0 e.2 in
      let its : length e.0 ≡ length kinds = ap length same in
      let most : length p.kinds ≤ depth = l.most place p.kinds p.known in
      omega arith;
}

pub is-depth : (image : Image) (table : Table) → IsTableUpTo image table (length image.code)
    → 0 < length image.code → (depth : ℕ) → IsLongest table depth → IsDepth image depth
is-depth image table front some depth l =
    record {
      some = (table, agrees image table front some);
      each = longest-so image table front depth l;
    }

-- ---- a refusal

pub no-code : (image : Image) → image.code ≡ [] → HasTable image → ⊥
no-code image empty has =
    let is = (has.1.places 0).0 (is-some-of (has.0 0) [] has.1.starts) in
    let within : 0 < length image.code = is.0 in
    let none : length image.code ≡ 0 = ap length empty in
    absurd (omega arith)

pub refused-unsafe : (bay : List Point) (image : Image) (fault : VerifyFault) (place : ℕ)
    → IsRefusal bay image fault place → fits bay image ≡ true → IsSafe image → ⊥
refused-unsafe bay image fault place r fit safe = elim r [
  | inl d ↦ (let no : fits bay image ≡ false = d.0 in absurd cc)
  | inr g ↦ elim g.1 [
    | inl w ↦ no-code image w.0 safe.table
    | inr f ↦ no_fault image f.0 place f.1 safe.table.0 safe.table.1 safe.writes fault f.2 f.3
  ]
]
