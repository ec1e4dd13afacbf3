-- The places of the code in their order.
use Rattle.std.proofs.Common.{◌≡◌, ℕ, zero, suc, ◌+◌, ◌-◌, ◌<◌, ◌≤◌, Bool, true, false, List, [], ◌∷◌, length, drop, refl, sym, ap, subst, ◌∙◌, arith, Option, Some, None, inl, inr}
use Rattle.std.proofs.lemmas.Option.{same_Some}
use Rattle.std.specs.Prelude.{◌↔◌, option_map, slice_get}
use Rattle.std.proofs.Math.ListN.{replicate, set}
use Rattle.std.proofs.Math.Seq.{drop-append_seam, drop-drop}
use Rattle.std.proofs.lemmas.Bool.{cases_lt, cases_eq}
use Rattle.std.proofs.lemmas.List.{length-append, length-drop}
use Rattle.il_image.specs.declared.instr.Instr.{Instr}
use Rattle.il_image.specs.Images.{Each, IsCode, all_spelled}
use Rattle.il_image.specs.Reading.{instr_at}
use Rattle.il_image.specs.Spelling.{IsInstr, spelling}
use Rattle.il_image.specs.Tables.{InstrBegins, offset_after, offset_of}
use Rattle.il_image.proofs.InstrLemmas.{back-instr}
use Rattle.il_image.proofs.PlaceLemmas.{goes-forward}
use Rattle.il_image.proofs.SetLemmas.{set-here, set-elsewhere}
use Rattle.il_verify.specs.Frames.{MarksInstrs}
use Rattle.il_verify.proofs.EffectLemmas.{not-both}

-- ---- one place behind the other

pub place-behind : (code : List ℕ) (n place : ℕ) (i : Instr) (next : ℕ)
    → offset_of code n ≡ Some place → instr_at code place ≡ Some (i, next)
    → offset_of code (suc n) ≡ Some next
place-behind code n place i next e here =
    ap (offset_after code) e ∙ ap (option_map (λ (r : Instr × ℕ). r.1)) here

pub record Before (code : List ℕ) (n next : ℕ) : Type 0 where
  pub place : ℕ
  pub instr : Instr
  pub is : offset_of code n ≡ Some place
  pub here : instr_at code place ≡ Some (instr, next)

before-case : (code : List ℕ) (n next : ℕ) (o : Option ℕ) → offset_of code n ≡ o
    → offset_after code o ≡ Some next → Before code n next
before-case code n next None is e = absurd cc
before-case code n next (Some place) is e = read (instr_at code place) refl e
  where
    read : (r : Option (Instr × ℕ)) → instr_at code place ≡ r
        → option_map (λ (q : Instr × ℕ). q.1) r ≡ Some next → Before code n next
    read None here f = absurd cc
    read (Some r) here f =
        record {
          place = place;
          instr = r.0;
          is = is;
          here = here ∙ ap (λ (m : ℕ). Some (r.0, m)) (same_Some r.1 next f);
        }

pub before : (code : List ℕ) (n next : ℕ) → offset_of code (suc n) ≡ Some next → Before code n next
before code n next e = before-case code n next (offset_of code n) refl e

at-number : (code : List ℕ) (m k : ℕ) → m ≡ k → offset_of code m ≡ offset_of code k
at-number code m k e = ap (offset_of code) e

-- A later number has a later place.
pub rises : (code : List ℕ) (n k p q : ℕ) → offset_of code n ≡ Some p
    → offset_of code (suc (n + k)) ≡ Some q → p < q
rises code n zero p q e f =
    let b = before code (n + 0) q f in
    let same : b.place ≡ p =
    same_Some b.place p (sym b.is ∙ at-number code (n + 0) n (omega arith) ∙ e) in
    let g : b.place < q = (goes-forward code b.place b.instr q b.here).0 in
    omega arith
rises code n (suc k) p q e f =
    let b = before code (n + suc k) q f in
    let less : p < b.place =
    rises code n k p b.place e (at-number code (suc (n + k)) (n + suc k) (omega arith) ∙ b.is)
    in
    let g : b.place < q = (goes-forward code b.place b.instr q b.here).0 in
    omega arith

-- No place stands between one and the next.
pub none-between : (code : List ℕ) (n m p q : ℕ) (i : Instr) (next : ℕ) → offset_of code n ≡ Some p
    → instr_at code p ≡ Some (i, next) → offset_of code m ≡ Some q → p < q → next ≤ q
none-between code n m p q i next e here f less = elim (cases_lt n m) [
  | inr le ↦ elim (cases_eq m n) [
    | inl same ↦ absurd (let equal : p ≡ q =
        same_Some p q (sym e ∙ ap (offset_of code) (sym same) ∙ f) in omega arith)
    | inr ne ↦ absurd (let back : q < p =
        rises code m (n - suc m) q p f (at-number code (suc (m + (n - suc m))) n (omega arith) ∙ e)
        in omega arith)
  ]
  | inl lt ↦ elim (cases_eq m (suc n)) [
    | inl same ↦ (let equal : next ≡ q =
        same_Some next q (sym (place-behind code n p i next e here) ∙ ap (offset_of code) (sym same)
        ∙ f) in omega arith)
    | inr ne ↦ (let later : next < q =
        rises code (suc n) (m - suc (suc n)) next q (place-behind code n p i next e here)
        (at-number code (suc (suc n + (m - suc (suc n)))) m (omega arith) ∙ f) in omega arith)
  ]
]

-- ---- an instruction stands at each place

pub record Rest (code : List ℕ) (place : ℕ) : Type 0 where
  pub instrs : List Instr
  pub are : Each IsInstr instrs
  pub is : drop place code ≡ all_spelled instrs

read-first : (code : List ℕ) (place : ℕ) (i : Instr) (more : List Instr) → IsInstr i
    → drop place code ≡ all_spelled (i ∷ more)
    → instr_at code place ≡ Some (i, length code - length (all_spelled more))
unfolding instr_at
read-first code place i more good e = rw (e, back-instr i (all_spelled more) good) refl

rest-behind : (code : List ℕ) (place next : ℕ) (j : Instr) (instrs : List Instr)
    → Each IsInstr instrs → drop place code ≡ all_spelled instrs
    → instr_at code place ≡ Some (j, next) → Rest code next
rest-behind code place next j [] are e here =
    let f = goes-forward code place j next here in
    let none : length (drop place code) ≡ 0 = ap length e in
    let cut : length (drop place code) ≡ length code - place = length-drop place code in
    absurd (omega arith)
rest-behind code place next j (i ∷ more) are e here =
    let pair : (i, length code - length (all_spelled more)) ≡ (j, next) =
    same_Some (i, length code - length (all_spelled more)) (j, next)
    (sym (read-first code place i more are.0 e) ∙ here) in
    let second : length code - length (all_spelled more) ≡ next =
    ap (λ (q : Instr × ℕ). q.1) pair in
    let parts = ap length e ∙ length-append (spelling i) (all_spelled more) in
    let cut = length-drop place code in
    let size : next ≡ place + length (spelling i) = omega arith in
    record {
      instrs = more;
      are = are.1;
      is = ap (λ (m : ℕ). drop m code) size ∙ sym (drop-drop (length (spelling i)) place code)
          ∙ ap (drop (length (spelling i))) e ∙ drop-append_seam (spelling i) (all_spelled more);
    }

pub rest-at : (code : List ℕ) → IsCode code → (n place : ℕ) → offset_of code n ≡ Some place
    → Rest code place
rest-at code c zero place e =
    let start : 0 ≡ place = same_Some 0 place e in
    subst (Rest code) start (record { instrs = c.instrs; are = c.are; is = c.spelled })
rest-at code c (suc n) place e =
    let b = before code n place e in
    let r = rest-at code c n b.place b.is in
    rest-behind code b.place place b.instr r.instrs r.are r.is b.here

first-there : (code : List ℕ) (place : ℕ) (instrs : List Instr) → Each IsInstr instrs
    → drop place code ≡ all_spelled instrs → place < length code → instr_at code place ≡ None → ⊥
first-there code place [] are e within none =
    let size : length (drop place code) ≡ 0 = ap length e in
    let cut : length (drop place code) ≡ length code - place = length-drop place code in
    absurd (omega arith)
first-there code place (i ∷ more) are e within none =
    not-both (instr_at code place) _ none (read-first code place i more are.0 e)

pub always-there : (code : List ℕ) → IsCode code → (n place : ℕ) → offset_of code n ≡ Some place
    → place < length code → instr_at code place ≡ None → ⊥
always-there code c n place e within none = let r =
    rest-at code c n place e in first-there code place r.instrs r.are r.is within none

pub record There (code : List ℕ) (place : ℕ) : Type 0 where
  pub instr : Instr
  pub next : ℕ
  pub is : instr_at code place ≡ Some (instr, next)

there-case : (code : List ℕ) (place : ℕ) (o : Option (Instr × ℕ)) → instr_at code place ≡ o
    → (o ≡ None → ⊥) → There code place
there-case code place None is some = absurd (some refl)
there-case code place (Some r) is some = record { instr = r.0; next = r.1; is = is }

pub is_there : (code : List ℕ) → IsCode code → (n place : ℕ) → offset_of code n ≡ Some place
    → place < length code → There code place
is_there code c n place e within =
    there-case code place (instr_at code place) refl (always-there code c n place e within)

-- ---- the marks of places

never-true : (n q : ℕ) → slice_get (replicate n false) q ≡ Some true → ⊥
never-true zero q e = cc
never-true (suc n) zero e = cc
never-true (suc n) (suc q) e = never-true n q e

-- the places below this one are marked where an instruction begins
abbrev pub MarksBelow : List ℕ → ℕ → List Bool → Type 0
MarksBelow code place starts =
    (q : ℕ) → (slice_get starts q ≡ Some true) ↔ ((q < place) × InstrBegins code q)

pub marks-none : (code : List ℕ) (n : ℕ) → MarksBelow code 0 (replicate n false)
marks-none code n q =
    (λ e. absurd (never-true n q e), λ h. absurd (let less : q < 0 = h.0 in omega arith))

pub marks-more : (code : List ℕ) (n place : ℕ) (starts : List Bool) (i : Instr) (next : ℕ)
    → offset_of code n ≡ Some place → place < length code → length starts ≡ length code
    → instr_at code place ≡ Some (i, next)
    → MarksBelow code place starts → MarksBelow code next (set starts place true)
marks-more code n place starts i next e within size here marks q = elim (cases_eq q place) [
  | inl at ↦ (
    (λ h. let f : place < next = (goes-forward code place i next here).0 in
        (omega arith, subst (InstrBegins code) (sym at) (within, (n, e)))),
    (λ h. ap (slice_get (set starts place true)) at ∙ set-here starts place true (omega arith)),
  )
  | inr ne ↦ (
    (λ h. let old = (marks q).0 (sym (set-elsewhere starts place q true ne) ∙ h) in
        let less : q < place = old.0 in
        let f : place < next = (goes-forward code place i next here).0 in (omega arith, old.1)),
    (λ h. let less : q < next = h.0 in
        elim (cases_lt q place) [
          | inl before_it ↦ set-elsewhere starts place q true ne ∙ (marks q).1 (before_it, h.1)
          | inr after_it ↦ absurd
              (let past : next ≤ q =
              none-between code n h.1.1.0 place q i next e here h.1.1.1 (omega arith) in
              omega arith)
        ]),
  )
]

pub marks-all : (code : List ℕ) (place : ℕ) (starts : List Bool) → length code ≤ place
    → MarksBelow code place starts → MarksInstrs code starts
marks-all code place starts past marks q = (
  (λ h. ((marks q).0 h).1),
  (λ is. let within : q < length code = is.0 in (marks q).1 (omega arith, is)),
)
