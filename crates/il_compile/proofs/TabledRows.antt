-- A table as a list of instructions, each with the kinds before it.
use Rattle.std.proofs.Common.{◌≡◌, ℕ, zero, suc, ◌+◌, ◌-◌, ◌⊎◌, inl, inr, ⊎_elim, true, false, nat_lt, is_some, IsSome, if◌then◌else◌, List, [], ◌∷◌, ◌++◌, length, Option, Some, None, option_map, refl, sym, ap, subst, ◌∙◌, arith, append_assoc}
use Rattle.std.proofs.lemmas.Bool.{le-ltb, ltb-false}
use Rattle.il_image.specs.Reading.{instr_at}
use Rattle.il_image.specs.Spelling.{operand_of, spelling}
use Rattle.il_image.specs.Tables.{InstrBegins, LeadsTo, Table, offset_after, offset_of}
use Rattle.il_image.specs.declared.instr.Instr.{Instr}
use Rattle.il_image.specs.declared.instr.Instr.TheVariants.{Halt, Push, Drop, Slot, Not, Combine, Compute, Compare, Widen, Jump, Timer}
use Rattle.il_image.specs.declared.kind.CellKind.{CellKind}
use Rattle.il_image.specs.declared.opcode.When.TheVariants.{Always, IfTrue, IfFalse}
use Rattle.il_image.proofs.PlaceLemmas.{none-past-end}
use Rattle.il_compile.specs.Code.{octets}
use Rattle.il_compile.proofs.Placing.{Stands, back, found, within, octets-both, octets_more, some-octet}

-- an instruction, and the kinds on the stack before it
pub record Row : Type 0 where
  pub instr : Instr
  pub kinds : List CellKind

abbrev pub instrs_of : List Row → List Instr
instrs_of [] = []
instrs_of (r ∷ rs) = r.instr ∷ instrs_of rs

-- the kinds before the instruction that begins so many octets behind the first
abbrev pub table_of : List Row → Table
table_of [] x = None
table_of (r ∷ rs) zero = Some r.kinds
table_of (r ∷ rs) (suc x) =
    if nat_lt (suc x) (length (spelling r.instr)) then None
    else table_of rs (suc x - length (spelling r.instr))

pub instrs-both : (a b : List Row) → instrs_of (a ++ b) ≡ instrs_of a ++ instrs_of b
instrs-both [] b = refl
instrs-both (r ∷ a) b = ap (λ l. r.instr ∷ l) (instrs-both a b)

pub behind-row : (r : Row) (rs : List Row) (d : ℕ)
    → table_of (r ∷ rs) (length (spelling r.instr) + d) ≡ table_of rs d
behind-row r rs d =
    let n = length (operand_of r.instr) in
    let e : length (spelling r.instr) + d ≡ suc (n + d) = omega arith in
    let past : nat_lt (suc (n + d)) (length (spelling r.instr)) ≡ false =
    le-ltb (suc (n + d)) (length (spelling r.instr)) (omega arith) in
    let left : suc (n + d) - length (spelling r.instr) ≡ d = omega arith in
    ap (table_of (r ∷ rs)) e
    ∙ ap (λ b. if b then None else table_of rs (suc (n + d) - length (spelling r.instr))) past
    ∙ ap (table_of rs) left

pub behind-rows : (a b : List Row) (d : ℕ)
    → table_of (a ++ b) (octets (instrs_of a) + d) ≡ table_of b d
behind-rows [] b d = let e : 0 + d ≡ d = omega arith in ap (table_of b) e
behind-rows (r ∷ a) b d =
    let e : octets (instrs_of (r ∷ a)) + d
    ≡ length (spelling r.instr) + (octets (instrs_of a) + d) =
    omega (arith, octets_more r.instr (instrs_of a)) in
    ap (table_of (r ∷ a ++ b)) e ∙ behind-row r (a ++ b) (octets (instrs_of a) + d)
    ∙ behind-rows a b d

-- ---- where an instruction leads

pub lead-on : (i : Instr) (next to : ℕ) → LeadsTo i next to
    → (d : ℕ) × (to ≡ next + d) × LeadsTo i 0 d
lead-on Halt next to h = absurd h
lead-on (Jump Always n) next to h = (n, h, omega arith)
lead-on (Jump IfTrue n) next to h =
    ⊎_elim (λ (e : to ≡ next). (0, omega arith, inl refl))
    (λ (e : to ≡ next + n). (n, e, inr (omega arith))) h
lead-on (Jump IfFalse n) next to h =
    ⊎_elim (λ (e : to ≡ next). (0, omega arith, inl refl))
    (λ (e : to ≡ next + n). (n, e, inr (omega arith))) h
lead-on (Push v) next to h = (0, omega arith, refl)
lead-on Drop next to h = (0, omega arith, refl)
lead-on (Slot slot_use n) next to h = (0, omega arith, refl)
lead-on Not next to h = (0, omega arith, refl)
lead-on (Combine c) next to h = (0, omega arith, refl)
lead-on (Compute o w) next to h = (0, omega arith, refl)
lead-on (Compare c) next to h = (0, omega arith, refl)
lead-on (Widen w) next to h = (0, omega arith, refl)
lead-on (Timer timer_use n) next to h = (0, omega arith, refl)

pub lead-off : (i : Instr) (next d : ℕ) → LeadsTo i 0 d → LeadsTo i next (next + d)
lead-off Halt next d h = absurd h
lead-off (Jump Always n) next d h = omega arith
lead-off (Jump IfTrue n) next d h =
    ⊎_elim (λ (e : d ≡ 0). inl (omega arith)) (λ (e : d ≡ 0 + n). inr (omega arith)) h
lead-off (Jump IfFalse n) next d h =
    ⊎_elim (λ (e : d ≡ 0). inl (omega arith)) (λ (e : d ≡ 0 + n). inr (omega arith)) h
lead-off (Push v) next d h = omega arith
lead-off Drop next d h = omega arith
lead-off (Slot slot_use n) next d h = omega arith
lead-off Not next d h = omega arith
lead-off (Combine c) next d h = omega arith
lead-off (Compute o w) next d h = omega arith
lead-off (Compare c) next d h = omega arith
lead-off (Widen w) next d h = omega arith
lead-off (Timer timer_use n) next d h = omega arith

-- ---- what the table has at a place

pub record FoundRow (rows : List Row) (x : ℕ) (kinds : List CellKind) : Type 0 where
  pub before : List Row
  pub row : Row
  pub behind : List Row
  pub is : rows ≡ before ++ row ∷ behind
  pub place : x ≡ octets (instrs_of before)
  pub same : row.kinds ≡ kinds

pub find-row : (rows : List Row) (x : ℕ) (kinds : List CellKind) → table_of rows x ≡ Some kinds
    → FoundRow rows x kinds
find-row [] x kinds e = absurd cc
find-row (r ∷ rs) zero kinds e =
    record { before = []; row = r; behind = rs; is = refl; place = refl; same = cc }
find-row (r ∷ rs) (suc x) kinds e =
    elim (nat_lt (suc x) (length (spelling r.instr))) as
    (λ b. nat_lt (suc x) (length (spelling r.instr)) ≡ b
    → (if b then None else table_of rs (suc x - length (spelling r.instr))) ≡ Some kinds
    → FoundRow (r ∷ rs) (suc x) kinds) [
      | true ↦ (λ h g. absurd cc)
      | false ↦ (λ h g.
          (let f = find-row rs (suc x - length (spelling r.instr)) kinds g in
          let le = ltb-false (suc x) (length (spelling r.instr)) h in
          let p = f.place in
          record {
            before = r ∷ f.before;
            row = f.row;
            behind = f.behind;
            is = ap (λ l. r ∷ l) f.is;
            place = omega (arith, octets_more r.instr (instrs_of f.before));
            same = f.same;
          }))
    ] refl e

pub some-row : (rows : List Row) (a b : List Instr) (i : Instr) → instrs_of rows ≡ a ++ i ∷ b
    → IsSome (table_of rows (octets a))
some-row [] [] b i e = absurd cc
some-row [] (j ∷ a) b i e = absurd cc
some-row (r ∷ rs) [] b i e = refl
some-row (r ∷ rs) (j ∷ a) b i e =
    let same : r.instr ≡ j = cc in
    let rest : instrs_of rs ≡ a ++ i ∷ b = cc in
    let there : octets (j ∷ a) ≡ length (spelling r.instr) + octets a =
    octets_more j a ∙ ap (λ k. length (spelling k) + octets a) (sym same) in
    ap is_some (ap (table_of (r ∷ rs)) there ∙ behind-row r rs (octets a)) ∙ some-row rs a b i rest

-- ---- places

-- an instruction begins so many octets behind the first
pub record At (whole : List Instr) (x : ℕ) : Type 0 where
  pub before : List Instr
  pub instr : Instr
  pub behind : List Instr
  pub is : whole ≡ before ++ instr ∷ behind
  pub place : x ≡ octets before

module _ (code : List ℕ) (is : List Instr) (whole : Stands code 0 is)
    (size : length code ≡ octets is) where
  pub at-found : (x : ℕ) → (a : At is x)
      → instr_at code x ≡ Some (a.instr, x + length (spelling a.instr))
  at-found x a =
      let here : 0 + octets a.before ≡ x = (let p = a.place in omega arith) in
      found code x a.instr a.behind
      (subst (λ q. Stands code q (a.instr ∷ a.behind)) here
      (back code 0 a.before (a.instr ∷ a.behind) (subst (Stands code 0) a.is whole)))

  first-place : (js : List Instr) → is ≡ js → (x : ℕ) → 0 ≡ x → At is x ⊎ (x ≡ length code)
  first-place [] e x z = inr (sym z ∙ sym (ap octets e) ∙ sym size)
  first-place (j ∷ js) e x z =
      inl (record { before = []; instr = j; behind = js; is = e; place = sym z })

  next-place : (x : ℕ) (a : At is x) (behind : List Instr) → a.behind ≡ behind
      → At is (x + length (spelling a.instr)) ⊎ (x + length (spelling a.instr) ≡ length code)
  next-place x a [] e =
      let whole_size : octets is ≡ octets a.before + octets (a.instr ∷ []) =
      ap octets (a.is ∙ ap (λ l. a.before ++ a.instr ∷ l) e)
      ∙ octets-both a.before (a.instr ∷ []) in
      let p = a.place in
      inr (omega (arith, octets_more a.instr []))
  next-place x a (j ∷ rest) e =
      let p = a.place in
      inl (record {
        before = a.before ++ a.instr ∷ [];
        instr = j;
        behind = rest;
        is = a.is ∙ ap (λ l. a.before ++ a.instr ∷ l) e
            ∙ sym (append_assoc a.before (a.instr ∷ []) (j ∷ rest));
        place = omega (arith, octets-both a.before (a.instr ∷ []), octets_more a.instr []);
      })

  pub place-at : (n x : ℕ) → offset_of code n ≡ Some x → At is x ⊎ (x ≡ length code)
  place-at zero x e = first-place is refl x (let z : 0 ≡ x = cc in z)
  place-at (suc n) x e = by-place (λ y p. place-at n y p) (offset_of code n) refl e
    where
      behind : (y : ℕ) → At is y ⊎ (y ≡ length code)
          → option_map (λ r. r.1) (instr_at code y) ≡ Some x → At is x ⊎ (x ≡ length code)
      behind y (inl a) g =
          let f : Some (y + length (spelling a.instr)) ≡ Some x =
          ap (option_map (λ r. r.1)) (sym (at-found y a)) ∙ g in
          let same : y + length (spelling a.instr) ≡ x = cc in
          subst (λ z. At is z ⊎ (z ≡ length code)) same (next-place y a a.behind refl)
      behind y (inr end) g =
          let none : instr_at code y ≡ None = none-past-end code y (omega arith) in
          let bad : ◌≡◌ {A = Option ℕ} None (Some x) = ap (option_map (λ r. r.1)) (sym none) ∙ g in
          absurd cc

      by-place : ((y : ℕ) → offset_of code n ≡ Some y → At is y ⊎ (y ≡ length code))
          → (o : Option ℕ)
          → offset_of code n ≡ o → offset_after code o ≡ Some x → At is x ⊎ (x ≡ length code)
      by-place f None p g = absurd cc
      by-place f (Some y) p g = behind y (f y p) g

  steps : (a b : List Instr) (i : Instr) (p n : ℕ) → Stands code p (a ++ i ∷ b)
      → offset_of code n ≡ Some p → (m : ℕ) × (offset_of code m ≡ Some (p + octets a))
  steps [] b i p n h e = (n, (let z : p ≡ p + 0 = omega arith in e ∙ ap Some z))
  steps (j ∷ a) b i p n h e =
      let next = p + length (spelling j) in
      let rest : Stands code next (a ++ i ∷ b) =
      subst (λ q. Stands code q (a ++ i ∷ b))
      (let z : p + octets (j ∷ []) ≡ next = omega (arith, octets_more j []) in z)
      (back code p (j ∷ []) (a ++ i ∷ b) h) in
      let one : offset_of code (suc n) ≡ Some next =
      ap (offset_after code) e ∙ ap (option_map (λ r. r.1)) (found code p j (a ++ i ∷ b) h) in
      let far = steps a b i next (suc n) rest one in
      let z : next + octets a ≡ p + octets (j ∷ a) = omega (arith, octets_more j a) in
      (far.0, far.1 ∙ ap Some z)

  pub at_place : (x : ℕ) → At is x → InstrBegins code x
  at_place x a =
      let st : Stands code 0 (a.before ++ a.instr ∷ a.behind) = subst (Stands code 0) a.is whole in
      let s = steps a.before a.behind a.instr 0 0 st refl in
      let here : 0 + octets a.before ≡ x = (let p = a.place in omega arith) in
      let end =
      within code (0 + octets a.before) a.instr a.behind
      (back code 0 a.before (a.instr ∷ a.behind) st) in (
        (let some = some-octet a.instr in omega (arith, octets_more a.instr a.behind)),
        (s.0, s.1 ∙ ap Some here),
      )

  pub is-at : (x : ℕ) → InstrBegins code x → At is x
  is-at x p =
      ⊎_elim (λ (a : At is x). a) (λ (e : x ≡ length code). absurd (let lt = p.0 in omega arith))
      (place-at p.1.0 x p.1.1)
