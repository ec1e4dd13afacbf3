-- Rows of which each is allowed, and to each of which another leads, are a table that agrees with
-- the code.
use Rattle.std.proofs.Common.{◌≡◌, ◌≢◌, ℕ, ◌+◌, ◌≤◌, ◌⊎◌, inl, inr, ⊎_elim, IsSome, List, [], ◌∷◌, ◌++◌, length, Option, Some, None, refl, sym, ap, subst, ◌∙◌, arith, append_assoc}
use Rattle.il_image.specs.Effects.{kinds_after}
use Rattle.il_image.specs.Images.{Each, Image}
use Rattle.il_image.specs.Spelling.{spelling}
use Rattle.il_image.specs.Tables.{Agrees, FitsTable, IsAllowed, InstrBegins, IsSuccessor, LeadsTo, slot_types}
use Rattle.il_image.specs.declared.instr.Instr.{Instr}
use Rattle.il_image.specs.declared.kind.CellKind.{CellKind}
use Rattle.il_image.specs.Machine.{most_cells}
use Rattle.il_compile.specs.Code.{octets}
use Rattle.il_compile.proofs.Placing.{Stands, octets-both, octets_more}
use Rattle.il_compile.proofs.TabledRows.{At, Row, at-found, at_place, behind-row, behind-rows, find-row, instrs-both, instrs_of, is-at, lead-off, lead-on, some-row, table_of}

-- ---- rows that are allowed

-- The instruction is allowed on its kinds, and what it gives enters the rows behind it where it
-- leads.
pub record IsRight (image : Image) (r : Row) (behind : List Row) : Type 0 where
  pub after : List CellKind
  pub effect : kinds_after (slot_types image) (length image.timers) r.instr r.kinds ≡ Some after
  pub enters : (d : ℕ) → LeadsTo r.instr 0 d → FitsTable (table_of behind) d after
  pub room : length r.kinds ≤ most_cells

-- each row of the table agrees with those behind it
abbrev pub AreRight : Image → List Row → Type 0
AreRight image [] = Unit {0}
AreRight image (r ∷ rs) = IsRight image r rs × AreRight image rs

right-at : (image : Image) (before : List Row) (r : Row) (behind : List Row)
    → AreRight image (before ++ r ∷ behind) → IsRight image r behind
right-at image [] r behind h = h.0
right-at image (x ∷ before) r behind h = right-at image before r behind h.1

-- ---- instructions to which others lead

-- To each instruction another leads, or the premise holds of how many octets it is behind the
-- first.
abbrev pub AreReached : (ℕ → Type 0) → List Instr → Type 0
AreReached P [] = Unit {0}
AreReached P (i ∷ is) = P 0 × AreReached (λ d. P (length (spelling i) + d) ⊎ LeadsTo i 0 d) is

pub reached-more : (P Q : ℕ → Type 0) (is : List Instr) → ((d : ℕ) → P d → Q d) → AreReached P is
    → AreReached Q is
reached-more P Q [] f h = tt
reached-more P Q (i ∷ is) f h = (
  f 0 h.0,
  reached-more (λ d. P (length (spelling i) + d) ⊎ LeadsTo i 0 d)
      (λ d. Q (length (spelling i) + d) ⊎ LeadsTo i 0 d) is
      (λ d e. ⊎_elim (λ (p : P (length (spelling i) + d)). inl (f (length (spelling i) + d) p))
      (λ (l : LeadsTo i 0 d). inr l) e) h.1,
)

-- instructions of which each leads to the next
pub reached-straight : (is js : List Instr) (P : ℕ → Type 0) → Each (λ i. LeadsTo i 0 0) is → P 0
    → AreReached (λ d. P (octets is + d) ⊎ (d ≡ 0)) js → AreReached P (is ++ js)
reached-straight [] js P h p r =
    reached-more (λ d. P (0 + d) ⊎ (d ≡ 0)) P js
    (λ d e. ⊎_elim (λ (q : P (0 + d)). subst P (let z : 0 + d ≡ d = omega arith in z) q)
    (λ (z : d ≡ 0). subst P (sym z) p) e) r
reached-straight (i ∷ is) js P h p r =
    let Q : ℕ → Type 0 = λ d. P (length (spelling i) + d) ⊎ LeadsTo i 0 d in (
      p,
      reached-straight is js Q h.1 (inr h.0)
          (reached-more (λ d. P (octets (i ∷ is) + d) ⊎ (d ≡ 0)) (λ d. Q (octets is + d) ⊎ (d ≡ 0))
          js
          (λ d e. ⊎_elim
          (λ (q : P (octets (i ∷ is) + d)). inl
          (inl (subst P (let z : octets (i ∷ is) + d ≡ length (spelling i) + (octets is + d) =
          omega (arith, octets_more i is) in z) q)))
          (λ (z : d ≡ 0). inr z) e) r),
    )

module _ (code : List ℕ) (is : List Instr) (whole : Stands code 0 is)
    (size : length code ≡ octets is) where
  -- the first place, and what an instruction leads to
  abbrev Led : ℕ → Type 0
  Led x = (x ≡ 0) ⊎ ((from : ℕ) × InstrBegins code from × IsSuccessor code from x)

  led : (before a b : List Instr) (i : Instr) (P : ℕ → Type 0) → is ≡ before ++ (a ++ i ∷ b)
      → ((d : ℕ) → P d → Led (octets before + d)) → AreReached P (a ++ i ∷ b)
      → Led (octets before + octets a)
  led before [] b i P e f h = f 0 h.0
  led before (j ∷ a) b i P e f h =
      let n = length (spelling j) in
      let here : At is (octets before) =
      record { before = before; instr = j; behind = a ++ i ∷ b; is = e; place = refl } in
      let more = octets_more j [] in
      let both = octets-both before (j ∷ []) in
      let far : Led (octets (before ++ j ∷ []) + octets a) =
      led (before ++ j ∷ []) a b i (λ d. P (n + d) ⊎ LeadsTo j 0 d)
      (e ∙ sym (append_assoc before (j ∷ []) (a ++ i ∷ b)))
      (λ d g. ⊎_elim
      (λ (p : P (n + d)). subst Led
      (let z : octets before + (n + d) ≡ octets (before ++ j ∷ []) + d = omega arith in z)
      (f (n + d) p))
      (λ (l : LeadsTo j 0 d).
      (let z : octets before + n + d ≡ octets (before ++ j ∷ []) + d = omega arith in
      subst Led z
      (inr (
        octets before,
        at_place code is whole size (octets before) here,
        record {
          instr = j;
          next = octets before + n;
          here = at-found code is whole size (octets before) here;
          leads = lead-off j (octets before + n) d l;
        },
      ))))
      g) h.1 in
      subst Led (let z : octets (before ++ j ∷ []) + octets a ≡ octets before + octets (j ∷ a) =
      omega (arith, octets_more j a) in z) far

  pub all-led : AreReached (λ d. d ≡ 0) is → (place : ℕ) → InstrBegins code place → place ≢ 0
      → (from : ℕ) × InstrBegins code from × IsSuccessor code from place
  all-led h place p not_first =
      let a = is-at code is whole size place p in
      let l = led [] a.before a.behind a.instr (λ d. d ≡ 0) a.is
      (λ d e. inl (let z : 0 + d ≡ 0 = omega arith in z))
      (subst (AreReached (λ d. d ≡ 0)) a.is h) in
      let z : 0 + octets a.before ≡ place = (let q = a.place in omega arith) in
      ⊎_elim (λ (e : place ≡ 0). absurd (not_first e))
      (λ (s : (from : ℕ) × InstrBegins code from × IsSuccessor code from place). s) (subst Led z l)

-- ---- the whole table

module _ (image : Image) (rows : List Row) (whole : Stands image.code 0 (instrs_of rows))
    (size : length image.code ≡ octets (instrs_of rows)) where
  allowed-at : AreRight image rows → (place : ℕ) (kinds : List CellKind)
      → table_of rows place ≡ Some kinds → IsAllowed image (table_of rows) place kinds
  allowed-at right place kinds e =
      let f = find-row rows place kinds e in
      let n = length (spelling f.row.instr) in
      let ok = right-at image f.before f.row f.behind (subst (AreRight image) f.is right) in
      let here : At (instrs_of rows) place =
      record {
        before = instrs_of f.before;
        instr = f.row.instr;
        behind = instrs_of f.behind;
        is = ap instrs_of f.is ∙ instrs-both f.before (f.row ∷ f.behind);
        place = f.place;
      } in
      record {
        instr = f.row.instr;
        next = place + n;
        after = ok.after;
        here = at-found image.code (instrs_of rows) whole size place here;
        effect =
            subst (λ ks. kinds_after (slot_types image) (length image.timers) f.row.instr ks
            ≡ Some ok.after) f.same ok.effect;
        enters = λ to h.
            (let l = lead-on f.row.instr (place + n) to h in
            let en = ok.enters l.0 l.2 in
            let p = f.place in
            let to_is = l.1 in
            let z : to ≡ octets (instrs_of f.before) + (n + l.0) = omega arith in
            let same : table_of rows to ≡ table_of f.behind l.0 =
            ap (table_of rows) z ∙ ap (λ rs. table_of rs (octets (instrs_of f.before) + (n + l.0)))
            f.is ∙ behind-rows f.before (f.row ∷ f.behind) (n + l.0)
            ∙ behind-row f.row f.behind l.0 in
            (en.0, same ∙ en.1, en.2));
      }

  room-at : AreRight image rows → (place : ℕ) (kinds : List CellKind)
      → table_of rows place ≡ Some kinds → length kinds ≤ most_cells
  room-at right place kinds e =
      let f = find-row rows place kinds e in
      let ok = right-at image f.before f.row f.behind (subst (AreRight image) f.is right) in
      subst (λ ks. length ks ≤ most_cells) f.same ok.room

  to-place : (place : ℕ) (o : Option (List CellKind)) → table_of rows place ≡ o → IsSome o
      → InstrBegins image.code place
  to-place place None e h = absurd cc
  to-place place (Some kinds) e h =
      let f = find-row rows place kinds e in
      at_place image.code (instrs_of rows) whole size place
      (record {
        before = instrs_of f.before;
        instr = f.row.instr;
        behind = instrs_of f.behind;
        is = ap instrs_of f.is ∙ instrs-both f.before (f.row ∷ f.behind);
        place = f.place;
      })

  from-place : (place : ℕ) → InstrBegins image.code place → IsSome (table_of rows place)
  from-place place p =
      let a = is-at image.code (instrs_of rows) whole size place p in
      subst (λ x. IsSome (table_of rows x)) (sym a.place)
      (some-row rows a.before a.behind a.instr a.is)

  pub agrees : table_of rows 0 ≡ Some [] → AreRight image rows
      → AreReached (λ d. d ≡ 0) (instrs_of rows) → Agrees image (table_of rows)
  agrees starts right reached = record {
    starts = starts;
    places = λ place. (to-place place (table_of rows place) refl, from-place place);
    allowed = λ place kinds e. allowed-at right place kinds e;
    room = λ place kinds e. room-at right place kinds e;
    reached =
        λ place p not_first. all-led image.code (instrs_of rows) whole size reached place p
        not_first;
  }
