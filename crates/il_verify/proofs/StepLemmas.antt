-- What holds before each place of the pass, and what one visit makes of it.
use Rattle.std.proofs.Common.{◌≡◌, ℕ, suc, ◌+◌, ◌<◌, ◌≤◌, true, false, List, [], length, refl, sym, ap, subst, ◌∙◌, arith, Option, Some, None, ◌⊎◌, inl, inr}
use Rattle.std.proofs.lemmas.Option.{same_Some}
use Rattle.std.proofs.lemmas.Bool.{cases_lt, cases_eq}
use Rattle.bay_base.specs.declared.types.ElementaryType.{ElementaryType}
use Rattle.il_image.specs.declared.instr.Instr.{Instr}
use Rattle.il_image.specs.declared.instr.Instr.TheVariants.{Halt, Jump}
use Rattle.il_image.specs.declared.kind.CellKind.{CellKind}
use Rattle.il_image.specs.declared.opcode.When.TheVariants.{Always, IfTrue, IfFalse}
use Rattle.il_image.specs.Effects.{kinds_after}
use Rattle.il_image.specs.Images.{Image}
use Rattle.il_image.specs.Kinds.{AreWithin}
use Rattle.il_image.specs.Reading.{instr_at}
use Rattle.il_image.specs.Tables.{InstrBegins, LeadsTo, Table, offset_of}
use Rattle.il_image.proofs.PlaceLemmas.{goes-forward}
use Rattle.il_verify.specs.Frames.{JoinsFrameIf, FallsTo, JoinsFrame, LeadsToInstrs, PlainFrame, PlainFrames, Visits, with_value_at}
use Rattle.il_verify.specs.Refusals.{KindsReach, IsTableUpTo, IsJoin, JumpsTo, IsFaultless, kinds_after_instr}
use Rattle.il_verify.proofs.EffectLemmas.{not-both}
use Rattle.il_verify.proofs.FrameLemmas.{grows-along}
use Rattle.il_verify.proofs.JudgeLemmas.{types-are}
use Rattle.il_verify.proofs.MapLemmas.{beside-here, beside-other}
use Rattle.il_verify.proofs.OrderLemmas.{none-between, place-behind}
use Rattle.il_verify.proofs.TableLemmas.{leads-forward, same-instr}
use Rattle.il_verify.proofs.WithinLemmas.{all-within-along, within-length}

-- ---- where an instruction leads

pub leads-split : (i : Instr) (next to : ℕ) → LeadsTo i next to
    → JumpsTo i next to ⊎ FallsTo i next to
leads-split Halt next to h = absurd h
leads-split (Jump Always distance) next to h = inl h
leads-split (Jump IfTrue distance) next to h = elim h [ inl e ↦ inr (refl, e) | inr e ↦ inl e ]
leads-split (Jump IfFalse distance) next to h = elim h [ inl e ↦ inr (refl, e) | inr e ↦ inl e ]
leads-split i next to h = inr (refl, h)

pub leads-join : (i : Instr) (next to : ℕ) → JumpsTo i next to ⊎ FallsTo i next to
    → LeadsTo i next to
leads-join Halt next to h =
    elim h [ inl e ↦ absurd e | inr g ↦ absurd (let no : false ≡ true = g.0 in cc) ]
leads-join (Jump Always distance) next to h =
    elim h [ inl e ↦ e | inr g ↦ absurd (let no : false ≡ true = g.0 in cc) ]
leads-join (Jump IfTrue distance) next to h = elim h [ inl e ↦ inr e | inr g ↦ inl g.1 ]
leads-join (Jump IfFalse distance) next to h = elim h [ inl e ↦ inr e | inr g ↦ inl g.1 ]
leads-join i next to h = elim h [ inl e ↦ absurd e | inr g ↦ g.1 ]

comes-both : (P Q L : Type 0) (come : PlainFrame) (old mid new : Option PlainFrame) → (L → P ⊎ Q)
    → (P ⊎ Q → L) → JoinsFrameIf P come old mid → JoinsFrameIf Q come mid new
    → JoinsFrameIf L come old new
comes-both P Q L come old mid new split join h g = elim h [
  | inl a ↦ elim g [
    | inl b ↦ inl (
      join (inl a.0),
      (
        b.1.0,
        b.1.1,
        grows-along come old a.1.0 b.1.0 a.1.2
            (subst (λ (o : Option PlainFrame). JoinsFrame come o b.1.0) a.1.1 b.1.2),
      ),
    )
    | inr b ↦ inl (join (inl a.0), (a.1.0, b.1 ∙ a.1.1, a.1.2))
  ]
  | inr a ↦ elim g [
    | inl b ↦ inl (
      join (inr b.0),
      (b.1.0, b.1.1, subst (λ (o : Option PlainFrame). JoinsFrame come o b.1.0) a.1 b.1.2),
    )
    | inr b ↦ inr ((λ l. elim (split l) [ inl p ↦ a.0 p | inr q ↦ b.0 q ]), b.1 ∙ a.1)
  ]
]

abbrev pub onward : PlainFrame → List CellKind → PlainFrame
onward come gives = record { kinds = gives; longest = come.longest + 1 }

-- an instruction brings its frame to each place that it leads to
pub spreads : (image : Image) (instr : Instr) (next : ℕ) (come : PlainFrame) (old new : PlainFrames)
    (v : Visits image instr next come old new) (to : ℕ)
    → JoinsFrameIf (LeadsTo instr next to) (onward come v.gives) (old to) (new to)
spreads image instr next come old new v to =
    comes-both (JumpsTo instr next to) (FallsTo instr next to) (LeadsTo instr next to)
    (onward come v.gives) (old to) (v.mid to) (new to) (leads-split instr next to)
    (leads-join instr next to) (v.jumps to) (v.falls to)

pub effect-there : (image : Image) (instr : Instr) (next : ℕ) (come : PlainFrame)
    (old new : PlainFrames) (v : Visits image instr next come old new)
    → kinds_after_instr image instr come.kinds ≡ Some v.gives
effect-there image instr next come old new v =
    sym (ap (λ (types : List ElementaryType). kinds_after types (length image.timers) instr
    come.kinds)
    (types-are image)) ∙ v.effect

-- where it leads rightly is a place
pub right-targets : (code : List ℕ) (number place : ℕ) (instr : Instr) (next to : ℕ)
    → offset_of code number ≡ Some place → instr_at code place ≡ Some (instr, next)
    → LeadsToInstrs code instr next → LeadsTo instr next to → InstrBegins code to
right-targets code number place instr next to numbered here right leads =
    elim (leads-split instr next to leads) [
      | inl j ↦ right.jumps to j
      | inr g ↦ subst (InstrBegins code) (sym g.1)
          (right.falls g.0, (suc number, place-behind code number place instr next numbered here))
    ]

-- ---- what comes to a place, in tables that agree before it

abbrev SameBefore : ℕ → Table → Table → Type 0
SameBefore done t u = (q : ℕ) → q < done → t q ≡ u q

same-back : (done : ℕ) (t u : Table) → SameBefore done t u → SameBefore done u t
same-back done t u h q less = sym (h q less)

comes-keep : (image : Image) (done to : ℕ) (t u : Table) (kinds : List CellKind)
    → SameBefore done t u
    → KindsReach image t done to kinds → KindsReach image u done to kinds
comes-keep image done to t u kinds same c = elim c [
  | inl e ↦ inl e
  | inr d ↦ (let f = d.2 in
      inr (
        d.0,
        d.1,
        record {
          instr = f.instr;
          next = f.next;
          before = f.before;
          here = f.here;
          known = sym (same d.0 d.1) ∙ f.known;
          gives = f.gives;
          leads = f.leads;
        },
      ))
]

join-keep : (image : Image) (done to : ℕ) (t u : Table) (kinds : List CellKind)
    → SameBefore done t u
    → IsJoin image t done to kinds → IsJoin image u done to kinds
join-keep image done to t u kinds same m = record {
  some = (m.some.0, comes-keep image done to t u m.some.0 same m.some.1);
  above = λ others c. m.above others
      (comes-keep image done to u t others (same-back done t u same) c);
  least = λ top h. m.least top (λ others c. h others (comes-keep image done to t u others same c));
}

-- ---- what is framed

-- Nothing comes to the place, or the frame has the least kinds above what comes there.
abbrev pub Framed : Image → Table → ℕ → ℕ → Option PlainFrame → Type 0
Framed image table done q None = (kinds : List CellKind) → KindsReach image table done q kinds → ⊥
Framed image table done q (Some m) = IsJoin image table done q m.kinds

pub framed-none : (image : Image) (table : Table) (done q : ℕ) (o : Option PlainFrame) → o ≡ None
    → Framed image table done q o → (kinds : List CellKind) → KindsReach image table done q kinds
    → ⊥
framed-none image table done q o e h = subst (Framed image table done q) e h

pub framed-some : (image : Image) (table : Table) (done q : ℕ) (o : Option PlainFrame)
    (m : PlainFrame) → o ≡ Some m → Framed image table done q o → IsJoin image table done q m.kinds
framed-some image table done q o m e h = subst (Framed image table done q) e h

-- a table up to a place, and the frames from there on
pub record Standing (image : Image) (done : ℕ) (frames : PlainFrames) : Type 0 where
  pub table : Table
  pub front : IsTableUpTo image table done
  pub framed : (q : ℕ) → done ≤ q → Framed image table done q (frames q)
  pub places : (q : ℕ) (m : PlainFrame) → done ≤ q → frames q ≡ Some m → InstrBegins image.code q

module _ (image : Image) (place : ℕ) (instr : Instr) (next : ℕ) (come : PlainFrame)
    (old new : PlainFrames) (number : ℕ) (numbered : offset_of image.code number ≡ Some place)
    (here : instr_at image.code place ≡ Some (instr, next))
    (was : old place ≡ Some come) (v : Visits image instr next come old new)
    (s : Standing image place old) where
  abbrev pub table_more : Table
  table_more = with_value_at place (Some come.kinds) s.table

  forward : place < next
  forward = (goes-forward image.code place instr next here).0

  within : next ≤ length image.code
  within = (goes-forward image.code place instr next here).1

  is_place : InstrBegins image.code place
  is_place = let f : place < next = forward in let w : next ≤ length image.code =
      within in (omega arith, (number, numbered))

  pub at_place : table_more place ≡ Some come.kinds
  at_place = beside-here place place (Some come.kinds) s.table refl

  pub not-at : (q : ℕ) → (q ≡ place → ⊥) → table_more q ≡ s.table q
  not-at q ne = beside-other place q (Some come.kinds) s.table ne

  same-so-far : SameBefore place s.table table_more
  same-so-far q less = sym (not-at q (λ e. omega arith))

  effect_is : kinds_after_instr image instr come.kinds ≡ Some v.gives
  effect_is = effect-there image instr next come old new v

  from-here : (q : ℕ) → LeadsTo instr next q → KindsReach image table_more next q v.gives
  from-here q leads =
      inr (
        place,
        forward,
        record {
          instr = instr;
          next = next;
          before = come.kinds;
          here = here;
          known = at_place;
          gives = effect_is;
          leads = leads;
        },
      )

  comes-more : (q : ℕ) (kinds : List CellKind) → KindsReach image s.table place q kinds
      → KindsReach image table_more next q kinds
  comes-more q kinds c = elim (comes-keep image place q s.table table_more kinds same-so-far c) [
    | inl e ↦ inl e
    | inr d ↦ (let less : d.0 < place = d.1 in let f : place < next = forward in
        inr (d.0, omega arith, d.2))
  ]

  comes-split : (q : ℕ) (kinds : List CellKind) → KindsReach image table_more next q kinds
      → KindsReach image s.table place q kinds ⊎ (LeadsTo instr next q × (v.gives ≡ kinds))
  comes-split q kinds c = elim c [
    | inl e ↦ inl (inl e)
    | inr d ↦ (let f = d.2 in elim (cases_eq d.0 place) [
      | inl e ↦
          (let same = same-instr image.code place f.instr instr f.next next
          (ap (instr_at image.code) (sym e) ∙ f.here) here in
          let known : f.before ≡ come.kinds =
          same_Some f.before come.kinds (sym f.known ∙ ap table_more e ∙ at_place) in
          let gives : Some kinds ≡ Some v.gives =
          sym f.gives ∙ ap (λ (j : Instr). kinds_after_instr image j f.before) same.0
          ∙ ap (kinds_after_instr image instr) known ∙ effect_is in
          inr (
            subst (λ (n : ℕ). LeadsTo instr n q) same.1
                (subst (λ (j : Instr). LeadsTo j f.next q) same.0 f.leads),
            sym (same_Some kinds v.gives gives),
          ))
      | inr ne ↦
          (let known : s.table d.0 ≡ Some f.before = sym (not-at d.0 ne) ∙ f.known in
          inl (inr (
            d.0,
            (s.front.only d.0 f.before known).0,
            record {
              instr = f.instr;
              next = f.next;
              before = f.before;
              here = f.here;
              known = known;
              gives = f.gives;
              leads = f.leads;
            },
          )))
    ])
  ]

  -- ---- the frames behind the place

  framed-before : (q : ℕ) → next ≤ q → Framed image s.table place q (old q)
  framed-before q h = let f : place < next = forward in s.framed q (omega arith)

  above-before : (q : ℕ) (others : List CellKind) (top : List CellKind) → next ≤ q
      → KindsReach image s.table place q others
      → ((m : PlainFrame) → old q ≡ Some m → AreWithin m.kinds top) → AreWithin others top
  above-before q others top h c keeps = go (old q) refl
    where
      go : (o : Option PlainFrame) → old q ≡ o → AreWithin others top
      go None e = absurd (framed-none image s.table place q (old q) e (framed-before q h) others c)
      go (Some m) e =
          all-within-along others m.kinds top
          ((framed-some image s.table place q (old q) m e (framed-before q h)).above others c)
          (keeps m e)

  joined-new : (q : ℕ) (frame : PlainFrame) → next ≤ q → LeadsTo instr next q
      → JoinsFrame (onward come v.gives) (old q) frame → IsJoin image table_more next q frame.kinds
  joined-new q frame h leads grows = record {
    some = (v.gives, from-here q leads);
    above = λ others c. elim (comes-split q others c) [
      | inl d ↦ above-before q others frame.kinds h d grows.keeps
      | inr d ↦ subst (λ (k : List CellKind). AreWithin k frame.kinds) d.1 grows.over
    ];
    least = λ top all. grows.least top (all v.gives (from-here q leads))
        (λ m is. (framed-some image s.table place q (old q) m is (framed-before q h)).least top
        (λ others c. all others (comes-more q others c)));
  }

  framed-old : (q : ℕ) (o : Option PlainFrame) → (LeadsTo instr next q → ⊥)
      → Framed image s.table place q o → Framed image table_more next q o
  framed-old q None not-here h =
      λ kinds c. elim (comes-split q kinds c) [ inl d ↦ h kinds d | inr d ↦ not-here d.0 ]
  framed-old q (Some m) not-here h = record {
    some = (h.some.0, comes-more q h.some.0 h.some.1);
    above = λ others c. elim (comes-split q others c)
        [ inl d ↦ h.above others d | inr d ↦ absurd (not-here d.0) ];
    least = λ top all. h.least top (λ others c. all others (comes-more q others c));
  }

  pub framed-more : (q : ℕ) → next ≤ q → Framed image table_more next q (new q)
  framed-more q h = elim (spreads image instr next come old new v q) [
    | inl c ↦ subst (Framed image table_more next q) (sym c.1.1) (joined-new q c.1.0 h c.0 c.1.2)
    | inr c ↦ subst (Framed image table_more next q) (sym c.1)
        (framed-old q (old q) c.0 (framed-before q h))
  ]

  targets : (to : ℕ) → LeadsTo instr next to → InstrBegins image.code to
  targets to leads = right-targets image.code number place instr next to numbered here v.right leads

  pub places-more : (q : ℕ) (m : PlainFrame) → next ≤ q → new q ≡ Some m → InstrBegins image.code q
  places-more q m h is = elim (spreads image instr next come old new v q) [
    | inl c ↦ targets q c.0
    | inr c ↦ (let f : place < next = forward in s.places q m (omega arith) (sym c.1 ∙ is))
  ]

  -- ---- the table up to the next place

  joined-here : IsJoin image s.table place place come.kinds
  joined-here =
      framed-some image s.table place place (old place) come was (s.framed place (omega arith))

  depths-here : (to : ℕ) → LeadsTo instr next to → (others : List CellKind)
      → KindsReach image table_more place to others → length others ≡ length v.gives
  depths-here to leads others c = elim (spreads image instr next come old new v to) [
    | inl d ↦
        (let n : next ≤ to = leads-forward instr next to leads in
        let theirs : AreWithin others d.1.0.kinds =
        above-before to others d.1.0.kinds n
        (comes-keep image place to table_more s.table others
        (same-back place s.table table_more same-so-far) c) d.1.2.keeps in
        within-length others d.1.0.kinds theirs
        ∙ sym (within-length v.gives d.1.0.kinds d.1.2.over))
    | inr d ↦ absurd (d.0 leads)
  ]

  passes-here : IsFaultless image table_more place
  passes-here =
      record {
        instr = instr;
        next = next;
        kinds = come.kinds;
        gives = v.gives;
        here = here;
        known = at_place;
        faultless = v.faultless;
        effect = effect_is;
        targets = targets;
        depths = depths-here;
      }

  passes-before : (q : ℕ) → q < place → InstrBegins image.code q → IsFaultless image table_more q
  passes-before q less is =
      let p = s.front.passes q less is in
      let same : SameBefore q s.table table_more = λ r before. same-so-far r (omega arith) in
      record {
        instr = p.instr;
        next = p.next;
        kinds = p.kinds;
        gives = p.gives;
        here = p.here;
        known = sym (same-so-far q less) ∙ p.known;
        faultless = p.faultless;
        effect = p.effect;
        targets = p.targets;
        depths =
            λ to leads others c. p.depths to leads others
            (comes-keep image q to table_more s.table others (same-back q s.table table_more same)
            c);
      }

  pub front-more : IsTableUpTo image table_more next
  front-more = record {
    only = λ q kinds is. elim (cases_eq q place) [
      | inl e ↦ (let f : place < next = forward in
          (omega arith, subst (InstrBegins image.code) (sym e) is_place))
      | inr ne ↦ (let o = s.front.only q kinds (sym (not-at q ne) ∙ is) in
          let less : q < place = o.0 in let f : place < next = forward in (omega arith, o.1))
    ];
    joined = λ q kinds is. elim (cases_eq q place) [
      | inl e ↦
          (let its : come.kinds ≡ kinds =
          same_Some come.kinds kinds (sym at_place ∙ ap table_more (sym e) ∙ is) in
          let there : IsJoin image table_more place place kinds =
          subst (IsJoin image table_more place place) its
          (join-keep image place place s.table table_more come.kinds same-so-far joined-here) in
          subst (λ (p : ℕ). IsJoin image table_more p p kinds) (sym e) there)
      | inr ne ↦
          (let known = sym (not-at q ne) ∙ is in
          let less : q < place = (s.front.only q kinds known).0 in
          join-keep image q q s.table table_more kinds (λ r before. same-so-far r (omega arith))
          (s.front.joined q kinds known))
    ];
    passes = λ q less is. elim (cases_lt q place) [
      | inl before ↦ passes-before q before is
      | inr after_it ↦ elim (cases_eq q place) [
        | inl e ↦ subst (IsFaultless image table_more) (sym e) passes-here
        | inr ne ↦ absurd (let past : next ≤ q =
            none-between image.code number is.1.0 place q instr next numbered here is.1.1
            (omega arith) in omega arith)
      ]
    ];
  }

  abbrev pub standing_more : Standing image next new
  standing_more =
      record { table = table_more; front = front-more; framed = framed-more; places = places-more }

-- ---- the first place alone is to come

pub empty-front : (image : Image) → IsTableUpTo image (λ q. None) 0
empty-front image = record {
  only = λ q kinds is. absurd cc;
  joined = λ q kinds is. absurd cc;
  passes = λ q less is. absurd (omega arith);
}

pub nothing-from : (image : Image) (q : ℕ) (kinds : List CellKind) → (q ≡ 0 → ⊥)
    → KindsReach image (λ p. None) 0 q kinds → ⊥
nothing-from image q kinds ne c =
    elim c [ inl e ↦ ne e.0 | inr d ↦ (let less : d.0 < 0 = d.1 in omega arith) ]

pub joined-first : (image : Image) → IsJoin image (λ p. None) 0 0 []
joined-first image = record {
  some = ([], inl (refl, refl));
  above = λ others c. elim c [
    | inl e ↦ subst (λ (k : List CellKind). AreWithin k []) (sym e.1) tt
    | inr d ↦ absurd (let less : d.0 < 0 = d.1 in omega arith)
  ];
  least = λ top all. all [] (inl (refl, refl));
}

abbrev pub standing_first : (image : Image) (frames : PlainFrames) (come : PlainFrame)
    → 0 < length image.code → frames 0 ≡ Some come → come.kinds ≡ []
    → ((q : ℕ) → (q ≡ 0 → ⊥) → frames q ≡ None) → Standing image 0 frames
standing_first image frames come some is empty none = record {
  table = λ q. None;
  front = empty-front image;
  framed = λ q h. elim (cases_eq q 0) [
    | inl e ↦ subst (Framed image (λ p. None) 0 q) (sym (ap frames e ∙ is))
        (subst (λ (p : ℕ). IsJoin image (λ r. None) 0 p come.kinds) (sym e)
        (subst (IsJoin image (λ r. None) 0 0) (sym empty) (joined-first image)))
    | inr ne ↦ subst (Framed image (λ p. None) 0 q) (sym (none q ne))
        (λ kinds c. nothing-from image q kinds ne c)
  ];
  places = λ q m h here. elim (cases_eq q 0) [
    | inl e ↦ subst (InstrBegins image.code) (sym e) (some, (0, refl))
    | inr ne ↦ absurd (not-both (frames q) m (none q ne) here)
  ];
}
