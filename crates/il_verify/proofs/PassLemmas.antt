-- What holds before each place of the pass, and what comes of a place where it stops.
use Rattle.std.proofs.Common.{◌≡◌, ℕ, suc, ◌+◌, ◌<◌, ◌≤◌, max, Bool, List, [], length, refl, sym, ap, subst, ◌∙◌, arith, Option, Some, None, ◌⊎◌, inl, inr}
use Rattle.std.proofs.lemmas.Option.{same_Some}
use Rattle.std.specs.Prelude.{IsTrue, ◌↔◌}
use Rattle.std.proofs.lemmas.Bool.{cases_lt, cases_eq}
use Rattle.il_image.specs.declared.instr.Instr.{Instr}
use Rattle.il_image.specs.declared.instr.Instr.TheVariants.{Halt}
use Rattle.il_image.specs.declared.kind.CellKind.{CellKind}
use Rattle.il_image.specs.Images.{Image}
use Rattle.il_image.specs.Reading.{instr_at}
use Rattle.il_image.specs.Tables.{Table, offset_of}
use Rattle.il_image.proofs.PlaceLemmas.{goes-forward}
use Rattle.il_verify.specs.declared.fault.VerifyFault.{VerifyFault}
use Rattle.il_verify.specs.declared.fault.VerifyFault.TheVariants.{BadTarget, Unreachable, DepthClash, NoHalt, OutOfMemory}
use Rattle.il_verify.specs.Frames.{HasOtherDepth, FailsDepths, JoinsFrameIf, FailsVisit, FallsTo, JoinsFrame, PlainFrame, PlainFrames, FailsTargets, Visits, with_value_at}
use Rattle.il_verify.specs.Passing.{raised_budget}
use Rattle.il_verify.specs.Refusals.{ReachedInstr, HasDepthClash, FailsAt, HasOwnFault, IsFaultAt, IsTableUpTo, IsJoin, JumpsTo}
use Rattle.il_verify.specs.Verdicts.{IsMeasured}
use Rattle.il_verify.proofs.JudgeLemmas.{IsOwn, own-of, types-are}
use Rattle.il_verify.proofs.LengthLemmas.{Lengths, is-budget, lengths-first, lengths-more, path-short}
use Rattle.il_verify.proofs.MapLemmas.{beside-here, beside-other}
use Rattle.il_verify.proofs.OrderLemmas.{place-behind}
use Rattle.il_verify.proofs.StepLemmas.{Framed, Standing, at_place, leads-join, framed-none, framed-some, not-at, right-targets, standing_first, standing_more, table_more}
use Rattle.il_verify.proofs.TableLemmas.{agrees, first-place, is-depth, keeps-read-only, leads-on, join-room}
use Rattle.il_verify.proofs.WithinLemmas.{within-length}
use Rattle.il_image.specs.Effects.{kinds_after}
use Rattle.il_image.specs.Machine.{most_cells}
use Rattle.bay_base.specs.declared.types.ElementaryType.{ElementaryType}

-- The lists of the table so far have at most this length, and one has it, or it is 0.
pub record Deepest (table : Table) (depth : ℕ) : Type 0 where
  pub most : (q : ℕ) (kinds : List CellKind) → table q ≡ Some kinds → length kinds ≤ depth
  pub some : (depth ≡ 0) ⊎
      ((q : ℕ) × (kinds : List CellKind) × (table q ≡ Some kinds) × (length kinds ≡ depth))

pub record Passing (image : Image) (done budget depth : ℕ) (frames : PlainFrames) : Type 0 where
  pub number : ℕ
  pub numbered : offset_of image.code number ≡ Some done
  pub within : done ≤ length image.code
  pub standing : Standing image done frames
  pub lengths : Lengths image.code done budget frames
  pub deepest : Deepest standing.table depth

larger : (a b : ℕ) → (max a b ≡ a) ⊎ (max a b ≡ b)
larger a b = elim (cases_lt a b) [ inl h ↦ inr (omega arith) | inr h ↦ inl (omega arith) ]

-- ---- one more place

module _ (image : Image) (place : ℕ) (instr : Instr) (next : ℕ) (come : PlainFrame)
    (old new : PlainFrames) (budget depth : ℕ)
    (here : instr_at image.code place ≡ Some (instr, next)) (was : old place ≡ Some come)
    (v : Visits image instr next come old new)
    (p : Passing image place budget depth old) where
  more : Standing image next new
  more = standing_more image place instr next come old new p.number p.numbered here was v p.standing

  abbrev tables : Table
  tables = table_more image place instr next come old new p.number p.numbered here was v p.standing

  at-it : tables place ≡ Some come.kinds
  at-it = at_place image place instr next come old new p.number p.numbered here was v p.standing

  off-it : (q : ℕ) → (q ≡ place → ⊥) → tables q ≡ p.standing.table q
  off-it = not-at image place instr next come old new p.number p.numbered here was v p.standing

  deepest-more : Deepest tables (max (length come.kinds) depth)
  deepest-more = record {
    most = λ q kinds is. elim (cases_eq q place) [
      | inl e ↦ (let same : length come.kinds ≡ length kinds =
          ap length (same_Some come.kinds kinds (sym at-it ∙ ap tables (sym e) ∙ is)) in
          omega arith)
      | inr ne ↦ (let h : length kinds ≤ depth = p.deepest.most q kinds (sym (off-it q ne) ∙ is) in
          omega arith)
    ];
    some = elim (larger (length come.kinds) depth) [
      | inl e ↦ inr (place, come.kinds, at-it, sym e)
      | inr e ↦ elim p.deepest.some [
        | inl z ↦ inl (e ∙ z)
        | inr w ↦ inr (
          w.0,
          w.1,
          (off-it w.0 (λ at. let less : w.0 < place = (p.standing.front.only w.0 w.1 w.2).0 in
              omega arith) ∙ w.2),
          w.3 ∙ sym e,
        )
      ]
    ];
  }

  pub passing-more : (halts : Bool) → IsTrue halts ↔ (instr ≡ Halt)
      → Passing image next (raised_budget halts come.longest budget) (max (length come.kinds) depth)
      new
  passing-more halts says = record {
    number = suc p.number;
    numbered = place-behind image.code p.number place instr next p.numbered here;
    within = (goes-forward image.code place instr next here).1;
    standing =
        standing_more image place instr next come old new p.number p.numbered here was v p.standing;
    lengths =
        lengths-more image place instr next come old new p.number p.numbered here was v
        p.standing.places budget p.lengths halts says;
    deepest = deepest-more;
  }

-- ---- the first place alone is to come

pub passing-first : (image : Image) (frames : PlainFrames) (come : PlainFrame)
    → 0 < length image.code → frames 0 ≡ Some come → come.kinds ≡ [] → come.longest ≡ 1
    → ((q : ℕ) → (q ≡ 0 → ⊥) → frames q ≡ None) → Passing image 0 0 0 frames
passing-first image frames come some is empty one none = record {
  number = 0;
  numbered = refl;
  within = omega arith;
  standing = standing_first image frames come some is empty none;
  lengths = lengths-first image.code frames come is one none;
  deepest = record { most = λ q kinds e. absurd cc; some = inl refl };
}

-- ---- what is known before a place

pub here-short : (image : Image) (place budget depth : ℕ) (frames : PlainFrames) (come : PlainFrame)
    → Passing image place budget depth frames → frames place ≡ Some come
    → (come.longest ≤ place + 1) × (length come.kinds ≤ most_cells)
here-short image place budget depth frames come p was = (
  path-short image.code come.longest place (p.lengths.paths place come (omega arith) was),
  join-room image p.standing.table place p.standing.front place place come.kinds
      (framed-some image p.standing.table place place (frames place) come was
      (p.standing.framed place (omega arith))),
)

-- ---- all places are done

-- a pass that is over has measured the image
pub measured : (image : Image) (done budget depth : ℕ) (frames : PlainFrames)
    → Passing image done budget depth frames → length image.code ≤ done → 0 < length image.code
    → IsMeasured image budget depth
measured image done budget depth frames p past some =
    let within : done ≤ length image.code = p.within in
    let end : done ≡ length image.code = omega arith in
    let front = subst (λ (n : ℕ). IsTableUpTo image p.standing.table n) end p.standing.front in
    let first = front.passes 0 some (first-place image.code some) in
    record {
      safe = record {
        table = (p.standing.table, agrees image p.standing.table front some);
        writes = keeps-read-only image p.standing.table front;
      };
      longest = is-budget image.code budget frames done past p.lengths p.standing.places;
      deepest = is-depth image p.standing.table front some depth (record {
        some = elim p.deepest.some [
          | inl z ↦ (
            0,
            first.kinds,
            first.known,
            (let most : length first.kinds ≤ depth = p.deepest.most 0 first.kinds first.known in
                omega arith),
          )
          | inr w ↦ w
        ];
        most = p.deepest.most;
      });
    }

-- ---- the pass stops

pub fails-unreached : (image : Image) (place budget depth : ℕ) (frames : PlainFrames)
    → Passing image place budget depth frames → place < length image.code → frames place ≡ None
    → FailsAt image Unreachable place
fails-unreached image place budget depth frames p less none = (
  p.standing.table,
  p.standing.front,
  (less, (p.number, p.numbered)),
  framed-none image p.standing.table place place (frames place) none
      (p.standing.framed place (omega arith)),
)

own-fault-at : (image : Image) (table : Table) (place : ℕ) (fault : VerifyFault) → IsOwn fault
    → HasOwnFault image table place fault → IsFaultAt image table place fault
own-fault-at image table place BadTarget own h = absurd own
own-fault-at image table place Unreachable own h = absurd own
own-fault-at image table place DepthClash own h = absurd own
own-fault-at image table place NoHalt own h = absurd own
own-fault-at image table place OutOfMemory own h = absurd own
own-fault-at image table place i own h = h

module _ (image : Image) (place : ℕ) (instr : Instr) (next : ℕ) (come : PlainFrame)
    (old : PlainFrames) (budget depth : ℕ) (here : instr_at image.code place ≡ Some (instr, next))
    (was : old place ≡ Some come) (p : Passing image place budget depth old) where
  joined-here : IsJoin image p.standing.table place place come.kinds
  joined-here =
      framed-some image p.standing.table place place (old place) come was
      (p.standing.framed place (omega arith))

  abbrev arrives : ReachedInstr image p.standing.table place
  arrives =
      record { instr = instr; next = next; kinds = come.kinds; here = here; joined = joined-here }

  stops : (fault : VerifyFault) → place < length image.code
      → IsFaultAt image p.standing.table place fault → FailsAt image fault place
  stops fault less h = (p.standing.table, p.standing.front, (less, (p.number, p.numbered)), h)

  misleads : (fault : VerifyFault) → FailsTargets image instr next come fault
      → IsFaultAt image p.standing.table place fault
  misleads fault m = elim m.wrong [
    | inl w ↦ subst (IsFaultAt image p.standing.table place) (sym w.0)
        (record {
          at = arrives;
          faultless = m.faultless;
          to = w.1.to;
          jumps = w.1.jumps;
          bad = w.1.bad;
        })
    | inr w ↦
        (let most : next ≤ length image.code = (goes-forward image.code place instr next here).1 in
        let least : length image.code ≤ next = w.1.past in
        subst (IsFaultAt image p.standing.table place) (sym w.0)
        (record {
          at = arrives;
          faultless = m.faultless;
          jumps = w.1.jumps;
          leads = leads-join instr next next (inr (w.1.falls, refl));
          past = omega arith;
        }))
  ]

  collides : (c : FailsDepths image instr next come old)
      → HasDepthClash image p.standing.table place
  collides c =
      let leads = leads-join instr next c.to c.leads in
      let f : place < next = (goes-forward image.code place instr next here).0 in
      let on : place < c.to = leads-on image.code place c.to instr next here leads in
      let m = framed-some image p.standing.table place c.to (old c.to) c.clash.0 c.clash.1
      (p.standing.framed c.to (omega arith)) in
      record {
        at = arrives;
        gives = c.gives;
        faultless = c.faultless;
        effect =
            sym (ap (λ (types : List ElementaryType). kinds_after types (length image.timers) instr
            come.kinds) (types-are image)) ∙ c.effect;
        targets =
            λ to way. right-targets image.code p.number place instr next to p.numbered here c.right
            way;
        to = c.to;
        leads = leads;
        others = m.some.0;
        comes = m.some.1;
        unequal =
            λ e. c.clash.2 (sym (within-length m.some.0 c.clash.0.kinds (m.above m.some.0 m.some.1))
            ∙ e);
      }

  pub fails-there : (fault : VerifyFault) → place < length image.code
      → FailsVisit image instr next come old fault → FailsAt image fault place
  fails-there fault less f = elim f [
    | inl own ↦ stops fault less
        (own-fault-at image p.standing.table place fault (own-of _ _ instr come.kinds fault own)
        (arrives, own))
    | inr g ↦ elim g [
      | inl m ↦ stops fault less (misleads fault m)
      | inr c ↦ stops fault less
          (subst (IsFaultAt image p.standing.table place) (sym c.0) (collides c.1))
    ]
  ]

-- ---- the frame at a place does not matter to what its instruction does elsewhere

where-beside : (P : ℕ → Type 0) (place : ℕ) (come : PlainFrame) (x : Option PlainFrame)
    (old new : PlainFrames) → (P place → ⊥)
    → ((to : ℕ) → JoinsFrameIf (P to) come (old to) (new to))
    → (to : ℕ) → JoinsFrameIf (P to) come (with_value_at place x old to)
    (with_value_at place x new to)
where-beside P place come x old new not-here each to = elim (cases_eq to place) [
  | inl e ↦ inr (
    (λ h. not-here (subst P e h)),
    beside-here place to x new e ∙ sym (beside-here place to x old e),
  )
  | inr ne ↦ elim (each to) [
    | inl c ↦ inl (
      c.0,
      (
        c.1.0,
        beside-other place to x new ne ∙ c.1.1,
        subst (λ (o : Option PlainFrame). JoinsFrame come o c.1.0)
            (sym (beside-other place to x old ne))
            c.1.2,
      ),
    )
    | inr c ↦ inr (c.0, beside-other place to x new ne ∙ c.1 ∙ sym (beside-other place to x old ne))
  ]
]

leads-off : (code : List ℕ) (place : ℕ) (instr : Instr) (next : ℕ)
    → instr_at code place ≡ Some (instr, next) → JumpsTo instr next place ⊎ FallsTo instr next place
    → ⊥
leads-off code place instr next here h = let less : place < place =
    leads-on code place place instr next here (leads-join instr next place h) in omega arith

visits-beside : (image : Image) (place : ℕ) (instr : Instr) (next : ℕ) (come : PlainFrame)
    (x : Option PlainFrame) (old new : PlainFrames) → instr_at image.code place ≡ Some (instr, next)
    → Visits image instr next come old new
    → Visits image instr next come (with_value_at place x old) (with_value_at place x new)
visits-beside image place instr next come x old new here v = record {
  gives = v.gives;
  faultless = v.faultless;
  effect = v.effect;
  right = v.right;
  mid = with_value_at place x v.mid;
  jumps = where-beside (JumpsTo instr next) place _ x old v.mid
      (λ h. leads-off image.code place instr next here (inl h)) v.jumps;
  falls = where-beside (FallsTo instr next) place _ x v.mid new
      (λ h. leads-off image.code place instr next here (inr h)) v.falls;
}

fails-beside : (image : Image) (place : ℕ) (instr : Instr) (next : ℕ) (come : PlainFrame)
    (x : Option PlainFrame) (old : PlainFrames) (fault : VerifyFault)
    → instr_at image.code place ≡ Some (instr, next) → FailsVisit image instr next come old fault
    → FailsVisit image instr next come (with_value_at place x old) fault
fails-beside image place instr next come x old fault here f = elim f [
  | inl own ↦ inl own
  | inr g ↦ elim g [
    | inl m ↦ inr (inl m)
    | inr c ↦
        (let d = c.1 in
        let on : place < d.to =
        leads-on image.code place d.to instr next here (leads-join instr next d.to d.leads) in
        let clash =
        subst (λ (o : Option PlainFrame). HasOtherDepth o d.gives)
        (sym (beside-other place d.to x old (λ e. omega arith))) d.clash in
        inr (inr (
          c.0,
          record {
            gives = d.gives;
            faultless = d.faultless;
            effect = d.effect;
            right = d.right;
            to = d.to;
            leads = d.leads;
            clash = clash;
          },
        )))
  ]
]

-- What holds from a place on is told by the frames from there on.
passing-same : (image : Image) (done budget depth : ℕ) (frames others : PlainFrames)
    → ((q : ℕ) → done ≤ q → others q ≡ frames q) → Passing image done budget depth frames
    → Passing image done budget depth others
passing-same image done budget depth frames others same p = record {
  number = p.number;
  numbered = p.numbered;
  within = p.within;
  standing = record {
    table = p.standing.table;
    front = p.standing.front;
    framed =
        λ q h. subst (Framed image p.standing.table done q) (sym (same q h))
        (p.standing.framed q h);
    places = λ q m h is. p.standing.places q m h (sym (same q h) ∙ is);
  };
  lengths = record {
    paths = λ q m h is. p.lengths.paths q m h (sym (same q h) ∙ is);
    most = λ q n h a. let m = p.lengths.most q n h a in (m.0, same q h ∙ m.1, m.2);
    ends = p.lengths.ends;
    some = p.lengths.some;
    more = λ e. let m = p.lengths.more e in (m.0, m.1, m.2, same m.0 m.2 ∙ m.3);
  };
  deepest = p.deepest;
}

-- ---- as the code has it: the frame of the place beside those that are pending

pub goes-over : (image : Image) (place : ℕ) (instr : Instr) (next : ℕ) (come : PlainFrame)
    (behind : Option PlainFrame) (old new : PlainFrames) (budget depth : ℕ) (halts : Bool)
    → instr_at image.code place ≡ Some (instr, next) → IsTrue halts ↔ (instr ≡ Halt)
    → Visits image instr next come old (with_value_at next behind new)
    → Passing image place budget depth (with_value_at place (Some come) old)
    → Passing image next (raised_budget halts come.longest budget) (max (length come.kinds) depth)
    (with_value_at next behind new)
goes-over image place instr next come behind old new budget depth halts here says v p =
    let f : place < next = (goes-forward image.code place instr next here).0 in
    passing-same image next (raised_budget halts come.longest budget)
    (max (length come.kinds) depth)
    (with_value_at place (Some come) (with_value_at next behind new))
    (with_value_at next behind new)
    (λ q h. sym (beside-other place q (Some come) (with_value_at next behind new)
    (λ e. omega arith)))
    (passing-more image place instr next come (with_value_at place (Some come) old)
    (with_value_at place (Some come) (with_value_at next behind new)) budget depth here
    (beside-here place place (Some come) old refl)
    (visits-beside image place instr next come (Some come) old (with_value_at next behind new) here
    v) p
    halts says)

pub fails-over : (image : Image) (place : ℕ) (instr : Instr) (next : ℕ) (come : PlainFrame)
    (old : PlainFrames) (budget depth : ℕ) (fault : VerifyFault)
    → instr_at image.code place ≡ Some (instr, next) → place < length image.code
    → FailsVisit image instr next come old fault
    → Passing image place budget depth (with_value_at place (Some come) old)
    → FailsAt image fault place
fails-over image place instr next come old budget depth fault here less f p =
    fails-there image place instr next come (with_value_at place (Some come) old) budget depth here
    (beside-here place place (Some come) old refl) p fault less
    (fails-beside image place instr next come (Some come) old fault here f)

-- a pass begins with the first frame alone
pub begins : (image : Image) (come : PlainFrame) (old : PlainFrames) → 0 < length image.code
    → come.kinds ≡ [] → come.longest ≡ 1 → ((q : ℕ) → old q ≡ None)
    → Passing image 0 0 0 (with_value_at 0 (Some come) old)
begins image come old some empty one none =
    passing-first image (with_value_at 0 (Some come) old) come some
    (beside-here 0 0 (Some come) old refl)
    empty one (λ q ne. beside-other 0 q (Some come) old ne ∙ none q)
