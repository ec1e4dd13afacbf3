-- The longest paths: what holds before a place, and what one visit makes of it.
use Rattle.std.proofs.Common.{◌≡◌, ℕ, zero, suc, ◌+◌, ◌<◌, ◌≤◌, max, Bool, true, false, List, length, refl, sym, ap, subst, ◌∙◌, arith, add-one, Some, None, ◌⊎◌, inl, inr}
use Rattle.std.proofs.lemmas.Option.{same_Some}
use Rattle.std.specs.Prelude.{IsTrue, ◌↔◌}
use Rattle.std.proofs.lemmas.Bool.{cases_lt, cases_eq}
use Rattle.il_image.specs.declared.instr.Instr.{Instr}
use Rattle.il_image.specs.declared.instr.Instr.TheVariants.{Halt}
use Rattle.il_image.specs.Images.{Image}
use Rattle.il_image.specs.Reading.{instr_at}
use Rattle.il_image.specs.Tables.{HaltPath, IsHalt, InstrBegins, IsSuccessor, LeadsTo, Path, offset_of}
use Rattle.il_image.proofs.PlaceLemmas.{goes-forward}
use Rattle.il_verify.specs.Frames.{PlainFrame, PlainFrames, Visits}
use Rattle.il_verify.specs.Passing.{raised_budget}
use Rattle.il_verify.specs.Verdicts.{IsBudget}
use Rattle.il_verify.proofs.EffectLemmas.{not-both}
use Rattle.il_verify.proofs.OrderLemmas.{none-between}
use Rattle.il_verify.proofs.StepLemmas.{spreads}
use Rattle.il_verify.proofs.TableLemmas.{leads-forward, leads-on, same-instr, some-way}

-- a path whose places before the last are done
abbrev pub Arrives : List ℕ → ℕ → ℕ → ℕ → Type 0
Arrives code done zero q = ⊥
Arrives code done (suc zero) q = q ≡ 0
Arrives code done (suc (suc n)) q =
    (from : ℕ) × (from < done) × Path code (suc n) from × IsSuccessor code from q

pub successor-forward : (code : List ℕ) (from q : ℕ) → IsSuccessor code from q → from < q
successor-forward code from q s = leads-on code from q s.instr s.next s.here s.leads

pub path-short : (code : List ℕ) (n q : ℕ) → Path code n q → n ≤ q + 1
path-short code zero q p = absurd p
path-short code (suc zero) q p = omega arith
path-short code (suc (suc n)) q p =
    let less : p.0 < q = successor-forward code p.0 q p.2 in
    let before : suc n ≤ p.0 + 1 = path-short code (suc n) p.0 p.1 in
    omega arith

path-some : (code : List ℕ) (n q : ℕ) → Path code n q → 0 < n
path-some code zero q p = absurd p
path-some code (suc n) q p = omega arith

path-on : (code : List ℕ) (n from q : ℕ) → Path code n from → IsSuccessor code from q
    → Path code (n + 1) q
path-on code zero from q p s = absurd p
path-on code (suc n) from q p s = rw add-one (from, p, s)

-- A frame has the length of a longest path that arrives, and the budget is that of a longest path
-- that has ended.
pub record Lengths (code : List ℕ) (done budget : ℕ) (now : PlainFrames) : Type 0 where
  pub paths : (q : ℕ) (m : PlainFrame) → done ≤ q → now q ≡ Some m → Path code m.longest q
  pub most : (q n : ℕ) → done ≤ q → Arrives code done n q
      → (m : PlainFrame) × (now q ≡ Some m) × (n ≤ m.longest)
  pub ends : (q n : ℕ) → q < done → Path code n q → IsHalt code q → n ≤ budget
  pub some : (budget ≡ 0) ⊎ HaltPath code budget
  pub more : budget ≡ 0 → (q : ℕ) × (m : PlainFrame) × (done ≤ q) × (now q ≡ Some m)

-- ---- the budget after a place, which may be a HALT

raised-more : (halts : Bool) (longest budget : ℕ) → budget ≤ raised_budget halts longest budget
raised-more true longest budget = omega arith
raised-more false longest budget = omega arith

raised-here : (halts : Bool) (longest budget : ℕ) → IsTrue halts
    → longest ≤ raised_budget halts longest budget
raised-here true longest budget h = omega arith
raised-here false longest budget h = absurd cc

larger : (a b : ℕ) → (max a b ≡ a) ⊎ (max a b ≡ b)
larger a b = elim (cases_lt a b) [ inl h ↦ inr (omega arith) | inr h ↦ inl (omega arith) ]

raised-is : (halts : Bool) (longest budget : ℕ)
    → (raised_budget halts longest budget ≡ budget)
    ⊎ (IsTrue halts × (raised_budget halts longest budget ≡ longest))
raised-is true longest budget =
    elim (larger longest budget) [ inl e ↦ inr (refl, e) | inr e ↦ inl e ]
raised-is false longest budget = inl refl

halts-or-not : (halts : Bool) → (halts ≡ true) ⊎ (halts ≡ true → ⊥)
halts-or-not true = inl refl
halts-or-not false = inr (λ e. cc)

-- ---- one visit

module _ (image : Image) (place : ℕ) (instr : Instr) (next : ℕ) (come : PlainFrame)
    (old new : PlainFrames) (number : ℕ) (numbered : offset_of image.code number ≡ Some place)
    (here : instr_at image.code place ≡ Some (instr, next))
    (was : old place ≡ Some come) (v : Visits image instr next come old new)
    (places : (q : ℕ) (m : PlainFrame) → place ≤ q → old q ≡ Some m → InstrBegins image.code q)
    (budget : ℕ) (l : Lengths image.code place budget old) where
  forward : place < next
  forward = (goes-forward image.code place instr next here).0

  -- a path that comes to a place from there on comes from places before
  arrives-at : (n q : ℕ) → q ≤ place → Path image.code n q → Arrives image.code place n q
  arrives-at zero q h p = p
  arrives-at (suc zero) q h p = p
  arrives-at (suc (suc n)) q h p = let less : p.0 < q =
      successor-forward image.code p.0 q p.2 in (p.0, omega arith, p.1, p.2)

  to-here : (n : ℕ) → Path image.code n place → n ≤ come.longest
  to-here n p =
      let m = l.most place n (omega arith) (arrives-at n place (omega arith) p) in
      let same : m.0.longest ≡ come.longest =
      ap (λ (v : PlainFrame). v.longest) (same_Some m.0 come (sym m.1 ∙ was)) in
      let least : n ≤ m.0.longest = m.2 in
      omega arith

  lead-of : (q : ℕ) → IsSuccessor image.code place q → LeadsTo instr next q
  lead-of q s =
      let same = same-instr image.code place s.instr instr s.next next s.here here in
      subst (λ (n : ℕ). LeadsTo instr n q) same.1
      (subst (λ (j : Instr). LeadsTo j s.next q) same.0 s.leads)

  -- no path leads to octets between two places
  no-path : (n q : ℕ) → place < q → q < next → Path image.code n q → ⊥
  no-path zero q h g p = p
  no-path (suc zero) q h g p = let e : q ≡ 0 = p in omega arith
  no-path (suc (suc n)) q h g p =
      let less : p.0 < q = successor-forward image.code p.0 q p.2 in
      elim (cases_lt p.0 place) [
        | inl is ↦
            (let m = l.most q (suc (suc n)) (omega arith) (p.0, is, p.1, p.2) in
            let there = places q m.0 (omega arith) m.1 in
            let past : next ≤ q =
            none-between image.code number there.1.0 place q instr next numbered here there.1.1
            h in
            omega arith)
        | inr is ↦ elim (cases_eq p.0 place) [
          | inl at ↦ (let past : next ≤ q =
              leads-forward instr next q
              (lead-of q (subst (λ (r : ℕ). IsSuccessor image.code r q) at p.2)) in omega arith)
          | inr ne ↦ no-path (suc n) p.0 (omega arith) (omega arith) p.1
        ]
      ]

  paths-more : (q : ℕ) (m : PlainFrame) → next ≤ q → new q ≡ Some m → Path image.code m.longest q
  paths-more q m past is = elim (spreads image instr next come old new v q) [
    | inl c ↦
        (let f : place < next = forward in
        let same : c.1.0.longest ≡ m.longest =
        ap (λ (v : PlainFrame). v.longest) (same_Some c.1.0 m (sym c.1.1 ∙ is)) in
        let its : Path image.code c.1.0.longest q = elim c.1.2.from [
          | inl e ↦ subst (λ (n : ℕ). Path image.code n q) (sym e)
              (path-on image.code come.longest place q (l.paths place come (omega arith) was)
              (record { instr = instr; next = next; here = here; leads = c.0 }))
          | inr w ↦ subst (λ (n : ℕ). Path image.code n q) (sym w.2)
              (l.paths q w.0 (omega arith) w.1)
        ] in
        subst (λ (n : ℕ). Path image.code n q) same its)
    | inr c ↦ (let f : place < next = forward in l.paths q m (omega arith) (sym c.1 ∙ is))
  ]

  -- what was framed stays framed
  kept : (q n : ℕ) → (m : PlainFrame) × (old q ≡ Some m) × (n ≤ m.longest)
      → (m : PlainFrame) × (new q ≡ Some m) × (n ≤ m.longest)
  kept q n w =
      let size : n ≤ w.0.longest = w.2 in
      elim (spreads image instr next come old new v q) [
        | inl c ↦ (let more : w.0.longest ≤ c.1.0.longest = c.1.2.keeps_longer w.0 w.1 in
            (c.1.0, c.1.1, omega arith))
        | inr c ↦ (w.0, c.1 ∙ w.1, size)
      ]

  from-here : (q n : ℕ) → Path image.code (suc n) place → IsSuccessor image.code place q
      → (m : PlainFrame) × (new q ≡ Some m) × (suc (suc n) ≤ m.longest)
  from-here q n p s =
      let size : suc n ≤ come.longest = to-here (suc n) p in
      elim (spreads image instr next come old new v q) [
        | inl c ↦ (let longer : come.longest + 1 ≤ c.1.0.longest = c.1.2.longer in
            (c.1.0, c.1.1, omega arith))
        | inr c ↦ absurd (c.0 (lead-of q s))
      ]

  most-more : (q n : ℕ) → next ≤ q → Arrives image.code next n q
      → (m : PlainFrame) × (new q ≡ Some m) × (n ≤ m.longest)
  most-more q zero past a = absurd a
  most-more q (suc zero) past a =
      absurd (let e : q ≡ 0 = a in let f : place < next = forward in omega arith)
  most-more q (suc (suc n)) past a =
      let f : place < next = forward in
      let less : a.0 < next = a.1 in
      elim (cases_lt a.0 place) [
        | inl is ↦ kept q (suc (suc n)) (l.most q (suc (suc n)) (omega arith) (a.0, is, a.2, a.3))
        | inr is ↦ elim (cases_eq a.0 place) [
          | inl at ↦ from-here q n (subst (λ (p : ℕ). Path image.code (suc n) p) at a.2)
              (subst (λ (p : ℕ). IsSuccessor image.code p q) at a.3)
          | inr ne ↦ absurd (no-path (suc n) a.0 (omega arith) less a.2)
        ]
      ]

  module _ (halts : Bool) (says : IsTrue halts ↔ (instr ≡ Halt)) where
    halt-here : instr ≡ Halt → IsHalt image.code place
    halt-here e = (next, here ∙ ap (λ (i : Instr). Some (i, next)) e)

    halt-of : IsHalt image.code place → instr ≡ Halt
    halt-of h = (same-instr image.code place instr Halt next h.0 here h.1).0

    ends-more : (q n : ℕ) → q < next → Path image.code n q → IsHalt image.code q
        → n ≤ raised_budget halts come.longest budget
    ends-more q n before p halt =
        let rise : budget ≤ raised_budget halts come.longest budget =
        raised-more halts come.longest budget in
        elim (cases_lt q place) [
          | inl is ↦ (let h : n ≤ budget = l.ends q n is p halt in omega arith)
          | inr is ↦ elim (cases_eq q place) [
            | inl at ↦
                (let least : n ≤ come.longest =
                to-here n (subst (λ (r : ℕ). Path image.code n r) at p) in
                let here_it : come.longest ≤ raised_budget halts come.longest budget =
                raised-here halts come.longest budget
                (says.1 (halt-of (subst (λ (r : ℕ). IsHalt image.code r) at halt))) in
                omega arith)
            | inr ne ↦ absurd (no-path n q (omega arith) before p)
          ]
        ]

    some-more : (raised_budget halts come.longest budget ≡ 0)
        ⊎ HaltPath image.code (raised_budget halts come.longest budget)
    some-more = elim (raised-is halts come.longest budget) [
      | inl e ↦ elim l.some [
        | inl z ↦ inl (e ∙ z)
        | inr ended ↦ inr (subst (HaltPath image.code) (sym e) ended)
      ]
      | inr e ↦ inr (subst (HaltPath image.code) (sym e.1)
          (place, l.paths place come (omega arith) was, halt-here (says.0 e.0)))
    ]

    more-more : raised_budget halts come.longest budget ≡ 0
        → (q : ℕ) × (m : PlainFrame) × (next ≤ q) × (new q ≡ Some m)
    more-more e = elim (halts-or-not halts) [
      | inl is ↦
          (let here_it : come.longest ≤ raised_budget halts come.longest budget =
          raised-here halts come.longest budget is in
          let some : 0 < come.longest =
          path-some image.code come.longest place (l.paths place come (omega arith) was) in
          absurd (omega arith))
      | inr is-not ↦ elim (some-way instr next) [
        | inl is ↦ absurd (is-not (says.1 is))
        | inr way ↦ elim (spreads image instr next come old new v way.0) [
          | inl c ↦ (way.0, c.1.0, leads-forward instr next way.0 way.1, c.1.1)
          | inr c ↦ absurd (c.0 way.1)
        ]
      ]
    ]

    pub lengths-more : Lengths image.code next (raised_budget halts come.longest budget) new
    lengths-more =
        record {
          paths = paths-more;
          most = most-more;
          ends = ends-more;
          some = some-more;
          more = more-more;
        }

-- ---- the first place alone is to come, and nothing is

first-most : (code : List ℕ) (new : PlainFrames) (frame : PlainFrame) → new 0 ≡ Some frame
    → frame.longest ≡ 1 → (q n : ℕ) → 0 ≤ q → Arrives code 0 n q
    → (m : PlainFrame) × (new q ≡ Some m) × (n ≤ m.longest)
first-most code new frame is one q zero h a = absurd a
first-most code new frame is one q (suc zero) h a = (frame, ap new a ∙ is, omega arith)
first-most code new frame is one q (suc (suc n)) h a = absurd (let e : a.0 < 0 = a.1 in omega arith)

pub lengths-first : (code : List ℕ) (frames : PlainFrames) (come : PlainFrame)
    → frames 0 ≡ Some come → come.longest ≡ 1 → ((q : ℕ) → (q ≡ 0 → ⊥) → frames q ≡ None)
    → Lengths code 0 0 frames
lengths-first code frames come is one none = record {
  paths = λ q m h here. elim (cases_eq q 0) [
    | inl at ↦
        (let same : come.longest ≡ m.longest =
        ap (λ (v : PlainFrame). v.longest)
        (same_Some come m (sym is ∙ (ap frames (sym at) ∙ here))) in
        subst (λ (n : ℕ). Path code n q) (sym one ∙ same) at)
    | inr ne ↦ absurd (not-both (frames q) m (none q ne) here)
  ];
  most = first-most code frames come is one;
  ends = λ q n before. absurd (omega arith);
  some = inl refl;
  more = λ e. (0, come, omega arith, is);
}

pub is-budget : (code : List ℕ) (budget : ℕ) (now : PlainFrames) → (done : ℕ) → length code ≤ done
    → Lengths code done budget now
    → ((q : ℕ) (m : PlainFrame) → done ≤ q → now q ≡ Some m → InstrBegins code q)
    → IsBudget code budget
is-budget code budget now done past l places = record {
  some = elim l.some [
    | inl e ↦ (let m = l.more e in let within : m.0 < length code = (places m.0 m.1 m.2 m.3).0 in
        let h : done ≤ m.0 = m.2 in absurd (omega arith))
    | inr e ↦ e
  ];
  most = λ n e. elim (cases_lt e.0 done) [
    | inl is ↦ l.ends e.0 n is e.1 e.2
    | inr is ↦ absurd (let f = goes-forward code e.0 Halt e.2.0 e.2.1 in omega arith)
  ];
}
